-- `field::name_rest`: each test is the definition's, of the line's rest.
use mathlib.Core.Path.{sym, ◌∙◌}
use native.Mathlib.Omega.{arith}
use Rattle.fields.proofs.Rests.{name_not_printable, name_empty, name_too_long, name_begins_with_space, name_ends_with_space, name_is_good, name_inside}
use Rattle.fields.proofs.field.name_rest.Goals as goal

pub returns-in_err-end : goal.returns-in_err-end
returns-in_err-end c = c.from_residual.ensures ∙ name_not_printable _ _ (sym c.printable.ensures ∙ c.in_err-end.was)

pub returns-then-end-at : goal.returns-then-end-at
returns-then-end-at c = name_empty _ _ (sym c.in_ok-end.ensures) c.if-end-at.true

pub returns-then-end-at-gt-MAX_NAME : goal.returns-then-end-at-gt-MAX_NAME
returns-then-end-at-gt-MAX_NAME c = name_too_long _ _ (sym c.in_ok-end.ensures) c.if-end-at.false c.if-end-at-gt-MAX_NAME.true

pub bounds-text-at : goal.bounds-text-at
bounds-text-at c = omega (arith, name_inside _ _ (sym c.in_ok-end.ensures) c.if-end-at.false)

pub returns-then-text-at-eq-SPACE : goal.returns-then-text-at-eq-SPACE
returns-then-text-at-eq-SPACE c =
    name_begins_with_space _ _ (sym c.in_ok-end.ensures) c.if-end-at.false c.if-end-at-gt-MAX_NAME.false c.if-text-at-eq-SPACE.true

pub bounds-text-end : goal.bounds-text-end
bounds-text-end c = omega (arith, name_inside _ _ (sym c.in_ok-end.ensures) c.if-end-at.false)

pub returns-then-text-end-eq-SPACE : goal.returns-then-text-end-eq-SPACE
returns-then-text-end-eq-SPACE c =
    name_ends_with_space _ _ (sym c.in_ok-end.ensures) c.if-end-at.false c.if-end-at-gt-MAX_NAME.false c.if-text-at-eq-SPACE.false c.if-text-end-eq-SPACE.true

pub returns : goal.returns
returns c =
    name_is_good _ _ (sym c.in_ok-end.ensures) c.if-end-at.false c.if-end-at-gt-MAX_NAME.false c.if-text-at-eq-SPACE.false c.if-text-end-eq-SPACE.false
