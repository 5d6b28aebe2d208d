-- `predecessor::Tables::put_predecessors` keeps `LowestAttaining` from arc to arc, of any network whose arcs are up to date.
use Rattle.std.proofs.Common.{ap, ◌∙◌}
use borrow.Author.Rules.{rules}
use lib.ListN.{replicate}
use Rattle.model.specs.Labels.{no_arc}
use Rattle.passing.proofs.Attaining.{none_yet, next_goes}
use Rattle.passing.proofs.tables.Tables.put_predecessors.Goals as goal

pub loop-arc-init : goal.loop-arc-init
loop-arc-init c N intervals is p up-to-date =
    none_yet _ _ _ (c.fill.ensures.after (λ y e. e) ∙ ap (λ n. replicate n no_arc) (c.requires.predecessors_len ∙ p.labels_long))

-- Where an arc is put, and where it is not, is found by search, whatever the tests are.
pub loop-arc-preserved : goal.loop-arc-preserved
loop-arc-preserved c N intervals is p up-to-date =
    next_goes p is up-to-date c.loop-arc.arc c.loop-arc-test.true (c.loop-arc.invariant N intervals is p up-to-date) (record {
      taken = λ missing attains. search rules;
      missed = λ missing fails. search rules;
      has = λ present. search rules;
    })
