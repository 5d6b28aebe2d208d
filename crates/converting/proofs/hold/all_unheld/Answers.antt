-- `hold::all_unheld`: at each turn the lines from here on decide for all.
use mathlib.Core.Path.{sym, ◌∙◌}
use Rattle.converting.proofs.HoldsLeft.{all_left, line_loses, line_passed, none_left}
use Rattle.converting.proofs.hold.all_unheld.Goals as goal

pub loop-at-init : goal.loop-at-init
loop-at-init c = all_left c.requires

pub returns-then-not-unheld_line : goal.returns-then-not-unheld_line
returns-then-not-unheld_line c = line_loses c.loop-at.invariant c.line_at-line.ensures (sym c.unheld_line.ensures ∙ c.if-not-unheld_line.true)

pub loop-at-preserved : goal.loop-at-preserved
loop-at-preserved c = line_passed c.loop-at.invariant c.line_at-line.ensures (sym c.unheld_line.ensures ∙ c.if-not-unheld_line.false)

pub returns : goal.returns
returns c = none_left c.loop-at.invariant c.loop-at-test.false
