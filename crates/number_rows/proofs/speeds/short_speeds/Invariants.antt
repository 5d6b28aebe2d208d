-- `speeds::short_speeds`: at each turn, if a word ends here, what the numbers left come to is what all of them come to. Each
-- number has at most 4 bytes with its space, so there are enough.
use Prim.Native.Nat.{◌+◌, ◌*◌, ◌≤◌}
use Rattle.number_rows.proofs.ShortSpeeds.{RowLeft}
use Rattle.number_rows.proofs.speeds.short_speeds.Given as goal

abbrev pub invariant-loop : goal.invariant-loop
invariant-loop l = RowLeft l.text l.at l.count l.counter l.i × (l.i ≤ l.at + 4 * l.counter)
