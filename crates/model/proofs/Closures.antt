-- Closures: the test says what the plain words say, by a walk through the list; so a list that closes no further tick is nowhere slower, and one
-- without records changes nothing. A list's test and its plain rules agree record by record.
use Prim.Native.Nat.{ℕ, zero, suc, ◌+◌, ◌≤◌, ◌<◌}
use mathlib.Core.Path.{◌≡◌, refl, ◌∙◌}
use mathlib.Core.Bool.{Bool, true, false, cond, or-true}
use mathlib.Core.List.{List, [], ◌∷◌}
use mathlib.Core.Logic.{⊎_elim, ◌↔◌}
use native.Mathlib.Nat.{mul-zero, le_refl, le_antisymm}
use native.Mathlib.Omega.{arith}
use lib.Dec.{leb, ltb, eqb}
use lib.ListN.{length, get_or}
use borrow.Author.Tests.{leb-true, ltb-true, eqb-true, le-leb, lt-ltb, eq-eqb}
use Rattle.model.specs.Ticks.{last}
use Rattle.model.specs.Closures.{no_closure, Closes, Closed, closes?, closed?, with_closures, closure_keeps_lem, party_keeps, ClosuresKept, max_closures, max_party}
use Rattle.model.specs.Closures.{ClosedWhenTested, StandsWhileClosed}
use Rattle.model.specs.Rules.{every}
use Rattle.model.specs.Network.{speed_on, drive_of, NoClosures}
use Rattle.model.specs.declared.closure.Closure.{Closure}
use Rattle.model.proofs.Covered.{covered_steady}
use Rattle.model.proofs.Rules.{both_true, true_three, every_at, at_every}
use Rattle.model.proofs.Tests.{either_true}

-- ---- What is closed

closes_tested : (c : Closure) (a t : ℕ) → closes? c a t ≡ true → Closes c a t
closes_tested c a t e =
    let parts = true_three (eqb c.arc a) (leb c.first t) (ltb t c.end) e in
    record { its_arc = eqb-true c.arc a parts.0; from_first = leb-true c.first t parts.1; before_end = ltb-true t c.end parts.2 }

tested_closes : (c : Closure) (a t : ℕ) → Closes c a t → closes? c a t ≡ true
tested_closes c a t closes =
    both_true (both_true (eq-eqb c.arc a closes.its_arc) (le-leb c.first t closes.from_first)) (lt-ltb t c.end closes.before_end)

tested : (closures : List Closure) (a t : ℕ) → closed? closures a t ≡ true → Closed closures a t
unfolding closed?
tested [] a t e = absurd (let z : ◌≡◌ {A = ℕ} 0 1 = cc in omega arith)
tested (c ∷ closures) a t e =
    ⊎_elim
    (λ here. (0, omega arith, closes_tested c a t here))
    (λ later. let (k, inside, closes) = tested closures a t later in (suc k, omega arith, closes))
    (either_true (closes? c a t) (closed? closures a t) e)

is_tested : (closures : List Closure) (a t k : ℕ) → k < length closures → Closes (get_or closures k no_closure) a t → closed? closures a t ≡ true
unfolding closed?
is_tested [] a t k inside closes = absurd (omega arith)
is_tested (c ∷ closures) a t zero inside closes = rw (tested_closes c a t closes)
is_tested (c ∷ closures) a t (suc k) inside closes = rw (is_tested closures a t k (omega arith) closes) (or-true (closes? c a t))

pub closed_when_tested : ClosedWhenTested
closed_when_tested closures a t = (tested closures a t, (λ closed. is_tested closures a t closed.0 closed.1 closed.2))

-- ---- What that does to a speed

zero_or : (closed : Bool) (speed : ℕ) → cond closed 0 speed ≤ speed
zero_or true speed = omega arith
zero_or false speed = omega arith

-- Where the second list closes no further tick, and its plan is no slower, it is no slower.
pub closed_no_faster : (first second : List Closure) (a t : ℕ) (v w : ℕ → ℕ) → (Closed second a t → Closed first a t) → v t ≤ w t →
    with_closures first a v t ≤ with_closures second a w t
unfolding with_closures
closed_no_faster first second a t v w no_more slower = go (closed? second a t) refl
  where
    go : (closed : Bool) → closed? second a t ≡ closed → cond (closed? first a t) 0 (v t) ≤ cond closed 0 (w t)
    go true e = rw ((closed_when_tested first a t).1 (no_more ((closed_when_tested second a t).0 e))) (omega arith)
    go false e = omega (arith, zero_or (closed? first a t) (v t), slower)

-- Where both close the same, they are as fast.
pub closed_alike : (first second : List Closure) (a t : ℕ) (v : ℕ → ℕ) → Closed first a t ↔ Closed second a t → with_closures first a v t ≡ with_closures second a v t
closed_alike first second a t v alike =
    le_antisymm (closed_no_faster first second a t v v alike.1 (le_refl (v t))) (closed_no_faster second first a t v v alike.0 (le_refl (v t)))

pub stands_while_closed : StandsWhileClosed
unfolding with_closures
stands_while_closed closures a v s n all_closed =
    covered_steady _ s n 0 (λ i h. rw ((closed_when_tested closures a (s + i)).1 (all_closed (s + i) (omega arith) (omega arith)))) ∙ mul-zero n

pub no_closures : NoClosures
unfolding speed_on drive_of with_closures closed?
no_closures R none a = rw none ((λ t. refl), (λ t. refl))

-- ---- The rules on records

abbrev Kept : ℕ → Closure → Type 0
Kept arcs c = (c.arc < arcs) × (c.first < c.end) × (c.end ≤ last)

closure_kept : (arcs : ℕ) (c : Closure) → closure_keeps_lem arcs c ≡ true → Kept arcs c
closure_kept arcs c e =
    let parts = true_three (ltb c.arc arcs) (ltb c.first c.end) (leb c.end last) e in
    (ltb-true c.arc arcs parts.0, ltb-true c.first c.end parts.1, leb-true c.end last parts.2)

pub closures_kept : (arcs : ℕ) (closures : List Closure) → length closures ≤ max_closures → every (closure_keeps_lem arcs) closures ≡ true → every party_keeps closures ≡ true →
    ClosuresKept arcs closures
closures_kept arcs closures few e parties = record {
  at_most = few;
  known_arc = λ k inside. (record_kept k inside).0;
  first_below_end = λ k inside. (record_kept k inside).1;
  by_last = λ k inside. (record_kept k inside).2;
  known_party = λ k inside. leb-true _ max_party (every_at party_keeps no_closure closures parties k inside);
}
  where
    record_kept : (k : ℕ) → k < length closures → Kept arcs (get_or closures k no_closure)
    record_kept k inside = closure_kept arcs (get_or closures k no_closure) (every_at (closure_keeps_lem arcs) no_closure closures e k inside)

pub kept_closures : (arcs : ℕ) (closures : List Closure) → ClosuresKept arcs closures → every (closure_keeps_lem arcs) closures ≡ true
kept_closures arcs closures kept =
    at_every (closure_keeps_lem arcs) no_closure closures
    (λ k inside.
    both_true (both_true (lt-ltb _ arcs (kept.known_arc k inside)) (lt-ltb _ _ (kept.first_below_end k inside))) (le-leb _ last (kept.by_last k inside)))

pub kept_parties : (arcs : ℕ) (closures : List Closure) → ClosuresKept arcs closures → every party_keeps closures ≡ true
kept_parties arcs closures kept = at_every party_keeps no_closure closures (λ k inside. le-leb _ max_party (kept.known_party k inside))
