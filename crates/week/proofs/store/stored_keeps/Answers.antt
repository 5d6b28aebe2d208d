-- `store::stored_keeps` looks from the front: the invariant is that the masks before the place are not 0, and which days they have (`Prefix`).
use mathlib.Core.Path.{◌∙◌}
use native.Mathlib.Omega.{arith}
use Rattle.week.proofs.Prefix.{empty, longer, decides}
use Rattle.week.proofs.store.stored_keeps.Goals as goal

pub returns-then-mask-eq0 : goal.returns-then-mask-eq0
returns-then-mask-eq0 c =
    c.add_up.ensures ∙ rw c.sum_of-sum.ensures (decides _ c.loop-mask.invariant c.requires (λ less. c.if-mask-eq0.true))

pub loop-mask-preserved : goal.loop-mask-preserved
loop-mask-preserved c = longer _ c.loop-mask.invariant c.loop-mask-test.true c.if-mask-eq0.false

pub returns : goal.returns
returns c =
    c.add_up-2.ensures
    ∙ rw c.sum_of-sum.ensures (decides _ c.loop-mask.invariant c.requires (λ less. absurd (omega (arith, less, c.loop-mask-test.false))))

pub loop-mask-init : goal.loop-mask-init
loop-mask-init c = empty _
