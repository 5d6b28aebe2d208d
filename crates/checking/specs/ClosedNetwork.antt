-- A network with its closures, and who asks. Document 02, order 7: "36, more than 64 records, after the network's own; 37, a record with an unknown
-- arc, a first tick not below its end, or an end above the last tick, after 36 and before 9." Order 8: "38, a record's party above 2, after 37; 39,
-- the asker is not 1 or 2, after 38." "The limit of 64 and the tests of 37 and 38 are shared": they are of the whole list, whoever asks.
use Rattle.std.specs.Prelude.{ℕ, not, List, [], ◌∷◌, ◌++◌, ◌↔◌, ltb, length}
use Rattle.model.specs.Closures.{max_closures, closure_keeps_lem, party_keeps, ClosuresKept}
use Rattle.model.specs.Network.{Network, arcs}
use Rattle.model.specs.NetworkRules.{network_rules}
use Rattle.model.specs.Parties.{KnownAsker, asker_keeps}
use Rattle.model.specs.Rules.{Outcome, Rule, ◌if◌, first_broken, every, AllKept}

abbrev pub closure_rules : Network → ℕ → List Rule
closure_rules N asker =
    (36 if ltb max_closures (length N.closures))
    ∷ (37 if not (every (closure_keeps_lem (arcs N)) N.closures))
    ∷ (38 if not (every party_keeps N.closures))
    ∷ (39 if not (asker_keeps asker))
    ∷ []

abbrev pub closed_network_rules : Network → ℕ → List Rule
closed_network_rules N asker = network_rules N ++ closure_rules N asker

unfoldable pub closed_network_check_lem : Network → ℕ → Outcome (Unit {0})
closed_network_check_lem N asker = first_broken (closed_network_rules N asker) tt

-- ---- What is proved of them

-- The rules are kept exactly where the list and the asker keep them in plain words.
abbrev pub ClosuresPassWhenKept : Type 0
ClosuresPassWhenKept = (N : Network) (asker : ℕ) → AllKept (closure_rules N asker) ↔ (ClosuresKept (arcs N) N.closures × KnownAsker asker)
