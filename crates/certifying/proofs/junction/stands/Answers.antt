-- `junction::stands`: the tests part the ways for a junction to stand.
use Rattle.certifying.proofs.Deciding.{source_decides, marked_other}
use Rattle.certifying.proofs.junction.stands.Goals as goal

pub returns-then-junction-source : goal.returns-then-junction-source
returns-then-junction-source c = source_decides _ _ _ _ _ _ c.if-junction-source.true

pub returns-then-predecessor-eq-NO_ARC : goal.returns-then-predecessor-eq-NO_ARC
returns-then-predecessor-eq-NO_ARC c = marked_other _ _ _ _ _ _ c.requires c.if-predecessor-eq-NO_ARC.true c.if-junction-source.false
