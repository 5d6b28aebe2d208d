-- `output::copy`: the part begins with as many bytes as were copied.
use Rattle.std.proofs.Common.{◌≡◌, length, take}
use Rattle.formatting.proofs.output.copy.Given as goal

abbrev pub invariant-loop-at : goal.invariant-loop-at
invariant-loop-at l = (length l.part ≡ length l.text) × (take l.at l.part ≡ take l.at l.text)
