-- `load::load`: the scan's refusal, then the room in the tables, then the tables are filled.
use borrow.Author.Rules.{rules}
use mathlib.Core.Path.{sym, ◌∙◌}
use Rattle.std.proofs.lemmas.Result.{err_from_is_err_and}
use Rattle.townfile.specs.Lent.{lent_tables}
use Rattle.loading.proofs.Fillable.{accepted_fillable}
use Rattle.loading.proofs.Loaded.{load_refused, load_short, load_filled}
use Rattle.loading.proofs.load.load.Goals as goal

pub returns-in_err-progress : goal.returns-in_err-progress
returns-in_err-progress c =
    let ends = load_refused c.args.text.now (lent_tables c.args.tables.now) c.in_err-progress.ensures in
    let is = err_from_is_err_and c.from_residual.result c.from_residual.ensures.1 in
    record { answer = rw (is.1, is.2) ends.0; tables = ends.1; same = search rules }

pub returns-then-lacks_room : goal.returns-then-lacks_room
returns-then-lacks_room c =
    let short = sym c.lacks_room.ensures ∙ c.if-lacks_room.true in
    let ends = load_short c.args.text.now (lent_tables c.args.tables.now) c.in_ok-progress.ensures short in
    record { answer = ends.0; tables = ends.1; same = search rules }

pub fill-requires : goal.fill-requires
fill-requires c =
    let long = sym c.lacks_room.ensures ∙ c.if-lacks_room.false in
    accepted_fillable _ (λ i h. (c.type_inv.text i).fits) _ (sym c.in_ok-progress.ensures) (lent_tables c.args.tables.now) long

pub returns : goal.returns
returns c =
    let long = sym c.lacks_room.ensures ∙ c.if-lacks_room.false in
    let ends = load_filled c.args.text.now (lent_tables c.args.tables.now) c.in_ok-progress.ensures long in
    record { answer = ends.0; tables = c.fill.ensures.tables ∙ ends.1; same = c.fill.ensures.same }
