-- `numbers::fences_read`: the loop over the numbers of a line, where a fence is tested by the one before it.
use Rattle.model.specs.Rules.{fences_keep_lem}
use Rattle.number_rows.proofs.NumberLoops.{Left, fences_left_keep}
use Rattle.number_rows.proofs.numbers.fences_read.Given as goal

abbrev pub invariant-loop-k : goal.invariant-loop-k
invariant-loop-k l = Left fences_keep_lem l.text l.at l.count l.within (fences_left_keep l.k l.before) l.k l.i
