-- The three rules of a converter: the answer tells the first that is broken, and each test is kept exactly where its plain fact holds.
use Prim.Native.Nat.{ℕ, ◌≤◌}
use mathlib.Core.Path.{◌≡◌, refl, sym, ap, ◌∙◌}
use mathlib.Core.Bool.{Bool, true, false, not, ◌&&◌}
use mathlib.Core.List.{List, [], ◌∷◌}
use mathlib.Core.Logic.{inl, inr}
use native.Mathlib.Omega.{arith}
use lib.Dec.{eqb}
use borrow.Author.Tests.{not-false, ltb-false, le-ltb, eqb-true, eq-eqb}
use Rattle.model.specs.Rules.{◌if◌, first_broken, every}
use Rattle.model.proofs.Rules.{true_both, both_true}
use Rattle.model.proofs.Tests.{ltb_cases}
use Rattle.townfile.specs.Grammar.{Arc, Town, Each}
use Rattle.townfile.specs.FirstFault.{Reading, refused_at, accepted}
use Rattle.conversion.specs.Conversion.{is_form_lem, some_held, is_too_long, at_line0, NoHoldLost, HasRoom, Hindered, hold_is_lost, no_room}

-- ---- Which rule counts

-- The answer by what the rules find.
abbrev pub answer_by : (already lost long : Bool) → (result : ℕ) → Reading ℕ
answer_by already lost long result = at_line0 (first_broken ((33 if already) ∷ (34 if lost) ∷ (35 if long) ∷ []) result)

pub by_replies : (a b c : Bool) (result reply : ℕ) → answer_by a b c result ≡ accepted reply → (a ≡ false) × (b ≡ false) × (c ≡ false) × (reply ≡ result)
unfolding first_broken
by_replies true b c result reply e = absurd (let z : ◌≡◌ {A = ℕ} 0 1 = cc in omega arith)
by_replies false true c result reply e = absurd (let z : ◌≡◌ {A = ℕ} 0 1 = cc in omega arith)
by_replies false false true result reply e = absurd (let z : ◌≡◌ {A = ℕ} 0 1 = cc in omega arith)
by_replies false false false result reply e = (refl, refl, refl, cc)

-- The first rule that fires, with its number.
pub data Fires (a b c : Bool) : ℕ → Type 0 where
  first : a ≡ true → Fires a b c 33
  second : a ≡ false → b ≡ true → Fires a b c 34
  third : a ≡ false → b ≡ false → c ≡ true → Fires a b c 35

pub by_refuses : (a b c : Bool) (result number line : ℕ) → answer_by a b c result ≡ refused_at number line → (line ≡ 0) × Fires a b c number
unfolding first_broken
by_refuses true b c result number line e = let n : number ≡ 33 = cc in (cc, rw n (first refl))
by_refuses false true c result number line e = let n : number ≡ 34 = cc in (cc, rw n (second refl refl))
by_refuses false false true result number line e = let n : number ≡ 35 = cc in (cc, rw n (third refl refl refl))
by_refuses false false false result number line e = absurd (let z : ◌≡◌ {A = ℕ} 0 1 = cc in omega arith)

pub fires_refuses : {a b c : Bool} (result : ℕ) {number : ℕ} → Fires a b c number → answer_by a b c result ≡ refused_at number 0
unfolding first_broken
fires_refuses result (first p) = rw p
fires_refuses result (second p q) = rw (p, q)
fires_refuses result (third p q r) = rw (p, q, r)

pub fires_first : {a b c : Bool} {number : ℕ} → Fires a b c number → number ≡ 33 → a ≡ true
fires_first (first p) e = p
fires_first (second p q) e = absurd (omega arith)
fires_first (third p q r) e = absurd (omega arith)

pub fires_least : {a b c : Bool} {number : ℕ} → Fires a b c number → 33 ≤ number
fires_least (first p) = omega arith
fires_least (second p q) = omega arith
fires_least (third p q r) = omega arith

-- ---- What the rules ask

pub form_other : (wanted form : Bool) → is_form_lem wanted form ≡ false → form ≡ not wanted
form_other true form e = e
form_other false true e = refl
form_other false false e = absurd (let z : ◌≡◌ {A = ℕ} 0 1 = cc in omega arith)

pub form_wanted : (wanted form : Bool) → is_form_lem wanted form ≡ true → form ≡ wanted
form_wanted true form e = e
form_wanted false false e = refl
form_wanted false true e = absurd (let z : ◌≡◌ {A = ℕ} 0 1 = cc in omega arith)

pub other_form : (wanted : Bool) → is_form_lem wanted (not wanted) ≡ false
other_form true = refl
other_form false = refl

pub wanted_form : (wanted : Bool) → is_form_lem wanted wanted ≡ true
wanted_form true = refl
wanted_form false = refl

every_unheld : (arcs : List Arc) → every (λ a. eqb a.hold 0) arcs ≡ true → Each (λ a. a.hold ≡ 0) arcs
unfolding Each
every_unheld [] e = tt
every_unheld (arc ∷ arcs) e =
    let parts = true_both (eqb arc.hold 0) (every (λ a. eqb a.hold 0) arcs) e in
    (eqb-true arc.hold 0 parts.0, every_unheld arcs parts.1)

unheld_every : (arcs : List Arc) → Each (λ a. a.hold ≡ 0) arcs → every (λ a. eqb a.hold 0) arcs ≡ true
unfolding Each
unheld_every [] each = refl
unheld_every (arc ∷ arcs) each = both_true (eq-eqb arc.hold 0 each.0) (unheld_every arcs each.1)

-- A test that is kept exactly where a fact holds is broken exactly where it does not.
broken_not : {Fact : Type 0} {test : Bool} → (Fact → test ≡ false) → test ≡ true → Fact → ⊥
broken_not kept broken fact = let both : true ≡ false = sym broken ∙ kept fact in let z : ◌≡◌ {A = ℕ} 0 1 = cc in omega arith

not_broken : {Fact : Type 0} (test : Bool) → (test ≡ false → Fact) → (Fact → ⊥) → test ≡ true
not_broken true kept not-fact = refl
not_broken false kept not-fact = absurd (not-fact (kept refl))

abbrev pub hold_lost : Bool → Town → Bool
hold_lost wanted T = not wanted && some_held T

pub none_lost : (wanted : Bool) (T : Town) → hold_lost wanted T ≡ false → NoHoldLost wanted T
none_lost true T e back = absurd (let z : ◌≡◌ {A = ℕ} 0 1 = cc in omega arith)
none_lost false T e back = every_unheld T.arcs (not-false (every (λ a. eqb a.hold 0) T.arcs) e)

pub lost_none : (wanted : Bool) (T : Town) → NoHoldLost wanted T → hold_lost wanted T ≡ false
lost_none true T unheld = refl
lost_none false T unheld = ap not (unheld_every T.arcs (unheld refl))

pub has_room : (result output : ℕ) → is_too_long result output ≡ false → HasRoom result output
has_room result output e = elim (ltb_cases 65536 result) [
  | inl long ↦ (let no : true ≡ false = rw long.0 at e in absurd (let z : ◌≡◌ {A = ℕ} 0 1 = cc in omega arith))
  | inr short ↦ (short.1, ltb-false output result (rw short.0 at e))
]

pub room_has : (result output : ℕ) → HasRoom result output → is_too_long result output ≡ false
room_has result output room = rw (le-ltb 65536 result room.0, le-ltb output result room.1)

-- The rules that fire of a town in the other form.
pub fires_hindered : (wanted : Bool) (T : Town) {result output number : ℕ} → Fires false (hold_lost wanted T) (is_too_long result output) number →
    Hindered wanted T result output number
fires_hindered wanted T (first already) = absurd (let z : ◌≡◌ {A = ℕ} 0 1 = cc in omega arith)
fires_hindered wanted T (second other lost) = hold_is_lost (broken_not (lost_none wanted T) lost)
fires_hindered wanted T {result} {output} (third other kept long) = no_room (none_lost wanted T kept) (broken_not (room_has result output) long)

pub hindered_fires : {wanted : Bool} {T : Town} {result output number : ℕ} → Hindered wanted T result output number →
    Fires false (hold_lost wanted T) (is_too_long result output) number
hindered_fires {wanted} {T} (hold_is_lost lost) = second refl (not_broken (hold_lost wanted T) (none_lost wanted T) lost)
hindered_fires {wanted} {T} {result} {output} (no_room kept long) = third refl (lost_none wanted T kept) (not_broken (is_too_long result output) (has_room result output) long)
