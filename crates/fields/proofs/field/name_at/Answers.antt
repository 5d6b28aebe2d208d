-- `field::name_at`: a name begins behind a space.
use mathlib.Core.Path.{sym, ◌∙◌}
use Rattle.fields.proofs.Rests.{no_name_at_end, no_name_without_gap, name_behind_gap}
use Rattle.fields.proofs.field.name_at.Goals as goal

pub returns-in_err-get : goal.returns-in_err-get
returns-in_err-get c = rw c.from_residual.ensures (no_name_at_end _ _ c.in_err-get.ensures.lookup.3)

pub returns-then-branch-ne-SPACE : goal.returns-then-branch-ne-SPACE
returns-then-branch-ne-SPACE c =
    let (inside, is) = c.in_ok-get.ensures.lookup.3 in
    no_name_without_gap _ _ inside (λ e. c.if-branch-ne-SPACE.true (is 0 ∙ e))

pub returns : goal.returns
returns c =
    let (inside, is) = c.in_ok-get.ensures.lookup.3 in
    c.name_rest.ensures ∙ name_behind_gap _ _ inside (sym (is 0) ∙ c.if-branch-ne-SPACE.false)
