-- `line::junction_line`: its turn, then its number, then its name; the number's limits come last. That its turn has come is found by search, whatever the test is.
use mathlib.Core.Path.{sym, ◌∙◌}
use borrow.Author.Rules.{rules}
use Rattle.reading.proofs.Steps.{junction_in_turn, junction_with_name, junction_outside, junction_named}
use Rattle.reading.proofs.line.junction_line.Goals as goal

pub returns-in_default : goal.returns-in_default
returns-in_default c = junction_in_turn _ _ _ (search rules) c.in_default.ensures

pub returns-in_default-name_at : goal.returns-in_default-name_at
returns-in_default-name_at c =
    junction_with_name _ _ _ (search rules) c.in-Some.ensures c.in_default-name_at.ensures

pub returns-then-not-junction_keeps : goal.returns-then-not-junction_keeps
returns-then-not-junction_keeps c =
    let outside = sym c.junction_keeps.ensures ∙ c.if-not-junction_keeps.true in
    junction_outside _ _ _ (search rules) c.in-Some.ensures c.in-Some-name_at.ensures outside

pub returns : goal.returns
returns c =
    let kept = sym c.junction_keeps.ensures ∙ c.if-not-junction_keeps.false in
    rw c.after_name.ensures (junction_named _ _ _ (search rules) c.in-Some.ensures c.in-Some-name_at.ensures kept)
