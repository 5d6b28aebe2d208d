-- `speeds::row_end`: the line's end, or a hold and then the end.
use mathlib.Core.Path.{refl, sym, ◌∙◌}
use Rattle.number_rows.proofs.NumberLoops.{ends_unheld_law, no_hold_law, ends_held}
use Rattle.number_rows.proofs.speeds.row_end.Goals as goal

pub returns-then-not-held : goal.returns-then-not-held
returns-then-not-held c =
    rw (c.if-not-held.true) (c.numbers_end.ensures ∙ ends_unheld_law _ _ _)

pub returns-in_default : goal.returns-in_default
returns-in_default c =
    rw (c.if-not-held.false) (no_hold_law _ _ c.args.within (sym c.in_default.ensures))

pub returns : goal.returns
returns c =
    rw (c.if-not-held.false)
    (c.numbers_end-2.ensures ∙ ends_held _ _ c.args.within (sym c.in-Some.ensures) refl)
