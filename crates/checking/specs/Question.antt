-- "1 to 8; 9, source not below the junction count; 10, departure 864,000 or above": what Labels, Passes and Route ask first. By document 02, order 5, 32
-- stands directly after 8, with the network's own; by orders 7 and 8, 36 to 39 stand after these and before 9.
use Rattle.std.specs.Prelude.{ℕ, ◌<◌, not, List, [], ◌∷◌, ◌++◌, ltb}
use Rattle.model.specs.Ticks.{day}
use Rattle.model.specs.Network.{Network, Accepted, arcs}
use Rattle.model.specs.Closures.{ClosuresKept}
use Rattle.model.specs.Rules.{Outcome, Rule, ◌if◌, first_broken}
use Rattle.checking.specs.ClosedNetwork.{closed_network_rules}

abbrev pub source_rules : Network → ℕ → List Rule
source_rules N source = (9 if not (ltb source N.junctions)) ∷ []

abbrev pub departure_rules : ℕ → List Rule
departure_rules departure = (10 if not (ltb departure day)) ∷ []

-- The rules on where and when a walk starts, after those of the network with its closures and of the asker.
abbrev pub start_rules : Network → ℕ → ℕ → List Rule
start_rules N source departure = source_rules N source ++ departure_rules departure

abbrev pub question_rules : Network → ℕ → ℕ → ℕ → List Rule
question_rules N asker source departure = closed_network_rules N asker ++ start_rules N source departure

unfoldable pub question_check_lem : Network → ℕ → ℕ → ℕ → Outcome (Unit {0})
question_check_lem N asker source departure = first_broken (question_rules N asker source departure) tt

-- The rules in plain words, but for the one on the asker: the question is taken.
pub record Taken (N : Network) (source departure : ℕ) : Type 0 where
  pub accepted : Accepted N
  pub closures_kept : ClosuresKept (arcs N) N.closures
  pub source_below : source < N.junctions
  pub departure_below : departure < day
