-- `figures::write_figures`: each junction's figures stand behind those of the junctions before.
use Rattle.std.proofs.Common.{ap, ◌∙◌, arith, rules}
use Rattle.sheeting.specs.Code.Columns.{in_turn, column_figures_lem}
use Rattle.sheeting.proofs.Columns.{figures_go_on, figures_end}
use Rattle.sheeting.proofs.figures.write_figures.Goals as goal

pub loop-j-init : goal.loop-j-init
unfolding column_figures_lem
loop-j-init c = search rules

pub loop-j-preserved : goal.loop-j-preserved
loop-j-preserved c =
    figures_go_on _ _ _ _ _ c.loop-j.invariant (c.loop-j.auto.figures ∙ c.requires.figures_len) c.loop-j-test.true _ _
    (c.copy_from_slice.ensures.after ∙ c.from-four.ensures ∙ ap in_turn c.column_figures.ensures)

pub returns : goal.returns
returns c = figures_end _ _ _ _ _ c.loop-j.invariant (c.loop-j.auto.figures ∙ c.requires.figures_len) (omega arith)
