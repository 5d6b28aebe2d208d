-- `tables::certified`: where a junction does not stand the tables are wrong, and else the arcs decide.
use Rattle.std.proofs.lemmas.Bool.Decides.{not_from_Decides}
use Rattle.certifying.proofs.Certificate.{fallen, kept_decides, timed}
use Rattle.certifying.proofs.tables.certified.Goals as goal

pub returns-then-not-junctions_stand : goal.returns-then-not-junctions_stand
returns-then-not-junctions_stand c = fallen c.requires (not_from_Decides _ c.junctions_stand.ensures.stand c.if-not-junctions_stand.true)

-- every junction stands
pub arcs_keep-requires : goal.arcs_keep-requires
arcs_keep-requires c =
    let yes = c.if-not-junctions_stand.false in
    timed c.requires (c.junctions_stand.ensures.stand.0 yes) c.junctions_stand.array_long (c.junctions_stand.ensures.intervals yes)

pub returns : goal.returns
returns c = kept_decides c.requires (c.junctions_stand.ensures.stand.0 c.if-not-junctions_stand.false) c.arcs_keep.ensures
