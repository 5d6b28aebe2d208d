-- Document 02, order 8: "Each closure gets a party: 0 for both, 1 for the brigade, 2 for the depot. The asker names itself and is stopped only by
-- its own closures and those of party 0."
use Rattle.std.specs.Prelude.{ℕ, ◌<◌, ◌≡◌, Bool, ◌||◌, cond, List, [], ◌∷◌, ◌⊎◌, ◌↔◌, eqb, length, get_or}
use Rattle.model.specs.Closures.{no_closure, Closes, Closed}
use Rattle.model.specs.declared.closure.Closure.{Closure}

abbrev pub both : ℕ
both = 0

abbrev pub brigade : ℕ
brigade = 1

abbrev pub depot : ℕ
depot = 2

-- A record stops the asker if it is for both, or its party is the asker's own.
abbrev pub Stops : ℕ → Closure → Type 0
Stops asker c = (c.party ≡ both) ⊎ (c.party ≡ asker)

-- Some record of the list that stops the asker closes the tick of the arc.
abbrev pub ClosedTo : ℕ → List Closure → ℕ → ℕ → Type 0
ClosedTo asker closures a t = (k : ℕ) × (k < length closures) × Stops asker (get_or closures k no_closure) × Closes (get_or closures k no_closure) a t

-- Whether a record stops the asker, as a test.
abbrev pub stops? : ℕ → Closure → Bool
stops? asker c = eqb c.party both || eqb c.party asker

-- The records that stop the asker, in their order.
abbrev pub closures_for : ℕ → List Closure → List Closure
closures_for asker [] = []
closures_for asker (c ∷ closures) = cond (stops? asker c) (c ∷ closures_for asker closures) (closures_for asker closures)

-- "39, the asker is not 1 or 2."
abbrev pub KnownAsker : ℕ → Type 0
KnownAsker asker = (asker ≡ brigade) ⊎ (asker ≡ depot)

abbrev pub asker_keeps : ℕ → Bool
asker_keeps asker = eqb asker brigade || eqb asker depot

-- ---- What is proved of them

-- The records that are kept close to the asker what some record that stops it closes, and nothing else.
abbrev pub StoppedByOwnAndBoth : Type 0
StoppedByOwnAndBoth = (asker : ℕ) (closures : List Closure) (a t : ℕ) → Closed (closures_for asker closures) a t ↔ ClosedTo asker closures a t
