-- `rows::read_closures` writes from the front: one record more stands in one row more.
use Rattle.std.proofs.Common.{◌<◌, ◌≡◌, ◌∙◌, arith, min, length, length-set, length-take}
use Rattle.std.proofs.lemmas.List.{get_or-take, take_min}
use Rattle.model.specs.Closures.{no_closure}
use Rattle.closures.proofs.Writing.{one_more}
use Rattle.closures.proofs.rows.read_closures.Goals as goal

pub loop-i-preserved : goal.loop-i-preserved
loop-i-preserved c =
    let (long, so_far) = c.loop-i.invariant in
    let i = c.loop-i.i in
    let list = c.args.closures.now in
    let few : i < c.min-count.result = omega (arith, length-take c.min-count.result list) in
    (rw length-set long, rw (get_or-take c.min-count.result list i no_closure few) (one_more list c.loop-i.rows i (omega arith) (omega (arith, long)) so_far))

-- As many are written as there are records, and 65 at most.
pub returns-clause-rows : goal.returns-clause-rows
returns-clause-rows c =
    let list = c.args.closures.now in
    let count : c.min-count.result ≡ min 65 (length list) = omega (arith, c.min-count.ensures) in
    let all : c.loop-i.i ≡ min 65 (length list) = omega (arith, count, length-take c.min-count.result list, c.loop-i-test.false, c.loop-i.auto.i-end) in
    rw count ((rw all at c.loop-i.invariant.1) ∙ take_min 65 list)
