-- "Network check (..). In this order, each over the whole table before the next: 1, junction count 0 or above 200; 2, no fence or
-- more than 96; 3, more than 640 arcs; 4, heads or lengths not as long as tails, or speeds not arcs × intervals long; 5, a
-- fence rule broken; 6, a tail or head not below the junction count, or tail equal to head; 7, a length out of range; 8, a
-- speed above 200." Document 02, order 5: "Number 4 now also covers a hold table of the wrong length", and "32, a hold above 1,200, directly
-- after 8".
use Rattle.std.specs.Prelude.{ℕ, ◌*◌, ◌≡◌, Bool, true, not, ◌&&◌, List, [], ◌∷◌, ◌↔◌, leb, ltb, eqb, length}
use Rattle.model.specs.Limits.{max_junctions, max_arcs}
use Rattle.model.specs.Network.{Network, arcs, Accepted}
use Rattle.model.specs.Rules.{Outcome, replied, Rule, ◌if◌, first_broken, every, count_keeps, fences_keep_lem, length_keeps_lem, speed_keeps, hold_keeps}

abbrev pub junctions_keep : ℕ → Bool
junctions_keep junctions = ltb 0 junctions && leb junctions max_junctions

abbrev pub tables_agree_lem : List ℕ → List ℕ → List ℕ → List ℕ → List ℕ → List ℕ → Bool
tables_agree_lem fences tails heads lengths holds speeds =
    eqb (length heads) (length tails) && eqb (length lengths) (length tails) && eqb (length holds) (length tails) && eqb (length speeds) (length tails * length fences)

-- Each arc goes from a junction to another. An arc without a head passes here: number 4, asked before, has compared the tables' lengths, and
-- `Accepted` asks for both.
unfoldable pub ends_keep_lem : ℕ → List ℕ → List ℕ → Bool
ends_keep_lem junctions [] heads = true
ends_keep_lem junctions (tail ∷ tails) [] = true
ends_keep_lem junctions (tail ∷ tails) (head ∷ heads) =
    ltb tail junctions && ltb head junctions && not (eqb tail head) && ends_keep_lem junctions tails heads

abbrev pub network_rules : Network → List Rule
network_rules N =
    (1 if not (junctions_keep N.junctions))
    ∷ (2 if not (count_keeps N.fences))
    ∷ (3 if ltb max_arcs (arcs N))
    ∷ (4 if not (tables_agree_lem N.fences N.tails N.heads N.lengths N.holds N.speeds))
    ∷ (5 if not (fences_keep_lem N.fences))
    ∷ (6 if not (ends_keep_lem N.junctions N.tails N.heads))
    ∷ (7 if not (every length_keeps_lem N.lengths))
    ∷ (8 if not (every speed_keeps N.speeds))
    ∷ (32 if not (every hold_keeps N.holds))
    ∷ []

-- "Otherwise it replies that the network is accepted."
unfoldable pub network_check_lem : Network → Outcome (Unit {0})
network_check_lem N = first_broken (network_rules N) tt

-- ---- What is proved of it

-- The check accepts exactly the networks that keep the rules.
abbrev pub AcceptsWhenKept : Type 0
AcceptsWhenKept = (N : Network) → (network_check_lem N ≡ replied tt) ↔ Accepted N
