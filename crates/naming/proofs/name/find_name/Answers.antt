-- `name::find_name`: at each turn the place that the lines from here on give is the one that the text gives.
use mathlib.Core.Path.{sym}
use native.Mathlib.Omega.{arith}
use Rattle.fields.proofs.LineFrom.{line_inside}
use Rattle.naming.proofs.Naming.{none_left, line_named, line_passed, starts_inside, name_found}
use Rattle.naming.proofs.name.find_name.Goals as goal

pub name_start-requires : goal.name_start-requires
name_start-requires c = line_named c.loop-at.invariant

pub overflow_sub-result : goal.overflow_sub-result
overflow_sub-result c = omega (arith, starts_inside c.loop-at.invariant c.line_end-end.ensures (sym c.in-Some.ensures))

pub returns-in-Some : goal.returns-in-Some
returns-in-Some c = name_found c.loop-at.invariant c.line_end-end.ensures (sym c.in-Some.ensures)

pub overflow_add-at : goal.overflow_add-at
overflow_add-at c = omega (arith, c.line_end-end.ensures, line_inside c.args.text.now c.loop-at.at)

pub loop-at-preserved : goal.loop-at-preserved
loop-at-preserved c = line_passed c.loop-at.invariant c.line_end-end.ensures (sym c.in_default.ensures)

pub returns : goal.returns
returns c = none_left c.loop-at.invariant c.loop-at-test.false
