-- `link::link_arcs` links the arcs from the last one back (`Linking`), and so all of them.
use Rattle.std.proofs.Common.{◌-◌, length, ap, ◌∙◌, arith}
use Rattle.std.proofs.lemmas.List.{length-replicate}
use Rattle.model.specs.Labels.{no_arc}
use Rattle.dijkstra.proofs.Linking.{linking_starts, linking_goes_on}
use Rattle.dijkstra.proofs.link.link_arcs.Goals as goal

pub loop-a-init : goal.loop-a-init
loop-a-init c =
    linking_starts _ _ _ c.requires.none_first
    (ap length c.requires.none_first ∙ length-replicate 200 no_arc) (ap length c.requires.none_next ∙ length-replicate 640 no_arc)

pub loop-a-preserved : goal.loop-a-preserved
loop-a-preserved c =
    linking_goes_on _ _ _ c.loop-a.a (c.loop-a.a - 1) c.loop-a.invariant (omega arith) c.requires.tails_len_bound
    (c.requires.by_index (c.loop-a.a - 1) (omega (arith, c.loop-a.invariant.within)))
