-- Linking the arcs of each tail, from the last arc back: from arc a on, each tail leads to its first arc and each arc to the next.
use Prim.Native.Nat.{ℕ, zero, suc, ◌+◌, ◌-◌, ◌≤◌, ◌<◌}
use mathlib.Core.Path.{◌≡◌, refl, sym, ap, ◌∙◌}
use mathlib.Core.Bool.{cond}
use mathlib.Core.List.{List, [], ◌∷◌}
use mathlib.Core.Logic.{◌⊎◌, inl, inr, ⊎_elim}
use native.Mathlib.Nat.{le_refl, eq-or-lt_of_le}
use native.Mathlib.Omega.{arith}
use lib.Dec.{eqb}
use lib.ListN.{length, get_or, set, drop, replicate, length-set, length-drop, get_or-replicate, drop_of_length-le}
use lib.Seq.{drop-cons, get_or-drop, get_or-set_same, get_or-set_other}
use borrow.Author.Tests.{eq-eqb}
use Rattle.model.specs.Labels.{no_arc}
use Rattle.model.proofs.Tests.{eqb_cases}
use Rattle.dijkstra.specs.Code.Linked.{first_arc, arc_from, Linked}

-- ---- The first arc of a tail from an arc on

-- The arc is itself the first, or leads to the later ones.
pub arc_here : (tails : List ℕ) (tail a : ℕ) → a < length tails → arc_from tails tail a ≡ cond (eqb (get_or tails a 0) tail) a (arc_from tails tail (suc a))
unfolding first_arc
arc_here tails tail a h = rw (drop-cons tails a 0 h)

pub arc_none : (tails : List ℕ) (tail a : ℕ) → length tails ≤ a → arc_from tails tail a ≡ no_arc
unfolding first_arc
arc_none tails tail a h = rw (drop_of_length-le tails h)

-- What the first arc is: none, or an arc from a on with that tail.
first_arc_law : (tails : List ℕ) (tail a : ℕ) → (first_arc tails tail a ≡ no_arc) ⊎ ((i : ℕ) × (i < length tails) × (first_arc tails tail a ≡ a + i) × (get_or tails i 0 ≡ tail))
unfolding first_arc
first_arc_law [] tail a = inl refl
first_arc_law (t ∷ tails) tail a =
    ⊎_elim
    (λ w. rw w.0 (inr (0, omega arith, omega arith, w.1)))
    (λ w. rw w.0 (⊎_elim inl (λ f. inr (suc f.0, omega (arith, f.1), omega (arith, f.2), f.3)) (first_arc_law tails tail (suc a))))
    (eqb_cases t tail)

first_least : (tails : List ℕ) (tail a i : ℕ) → i < length tails → get_or tails i 0 ≡ tail → first_arc tails tail a ≤ a + i
unfolding first_arc
first_least [] tail a i h e = absurd (omega arith)
first_least (t ∷ tails) tail a zero h e = rw (eq-eqb t tail e) (omega arith)
first_least (t ∷ tails) tail a (suc i) h e =
    ⊎_elim (λ w. rw w.0 (omega arith)) (λ w. rw w.0 (omega (arith, first_least tails tail (suc a) i (omega arith) e))) (eqb_cases t tail)

-- An arc with this tail, from a on.
abbrev HasTail : List ℕ → ℕ → ℕ → ℕ → Type 0
HasTail tails tail a arc = (arc < length tails) × (get_or tails arc 0 ≡ tail) × (a ≤ arc)

pub arc_from_law : (tails : List ℕ) (tail a : ℕ) → a ≤ length tails → (arc_from tails tail a ≡ no_arc) ⊎ HasTail tails tail a (arc_from tails tail a)
arc_from_law tails tail a inside =
    ⊎_elim inl
    (λ f. inr (
      omega (arith, f.1, f.2, length-drop a tails),
      rw f.2 (sym (get_or-drop a tails f.0 0) ∙ f.3),
      omega (arith, f.2),
    ))
    (first_arc_law (drop a tails) tail a)

pub arc_from_least : (tails : List ℕ) (tail a b : ℕ) → a ≤ b → b < length tails → get_or tails b 0 ≡ tail → arc_from tails tail a ≤ b
arc_from_least tails tail a b h inside e =
    let split : a + (b - a) ≡ b = omega arith in
    omega (arith, first_least (drop a tails) tail a (b - a) (omega (arith, length-drop a tails)) (get_or-drop a tails (b - a) 0 ∙ rw split e))

-- ---- The loop's state

pub record Linking (tails first next : List ℕ) (a : ℕ) : Type 0 where
  pub within : a ≤ length tails
  pub first_long : length first ≡ 200
  pub next_long : length next ≡ 640
  pub first_is : (tail : ℕ) → tail < 200 → get_or first tail 0 ≡ arc_from tails tail a
  pub next_is : (b : ℕ) → a ≤ b → b < length tails → get_or next b 0 ≡ arc_from tails (get_or tails b 0) (suc b)

pub linking_starts : (tails first next : List ℕ) → first ≡ replicate 200 no_arc → length first ≡ 200 → length next ≡ 640 → Linking tails first next (length tails)
linking_starts tails first next none first_long next_long = record {
  within = le_refl (length tails);
  first_long = first_long;
  next_long = next_long;
  first_is = λ tail h. ap (λ l. get_or l tail 0) none ∙ get_or-replicate 200 tail no_arc 0 h ∙ sym (arc_none tails tail (length tails) (le_refl (length tails)));
  next_is = λ b h l. absurd (omega arith);
}

pub linking_goes_on : (tails first next : List ℕ) (a p : ℕ) → Linking tails first next a → suc p ≡ a → length tails ≤ 640 → get_or tails p 0 < 200
    → Linking tails (set first (get_or tails p 0) p) (set next p (get_or first (get_or tails p 0) 0)) p
linking_goes_on tails first next a p l back few known = record {
  within = omega (arith, l.within);
  first_long = length-set first (get_or tails p 0) p ∙ l.first_long;
  next_long = length-set next p (get_or first (get_or tails p 0) 0) ∙ l.next_long;
  first_is = λ tail h.
      ⊎_elim
      (λ w. rw (arc_here tails tail p (omega (arith, l.within)), w.0, ← w.1) (get_or-set_same first (get_or tails p 0) p 0 (omega (arith, l.first_long))))
      (λ w. rw (arc_here tails tail p (omega (arith, l.within)), w.0, back) (get_or-set_other first (get_or tails p 0) tail p 0 (λ e. w.1 (sym e)) ∙ l.first_is tail h))
      (eqb_cases (get_or tails p 0) tail);
  next_is = λ b h m.
      ⊎_elim
      (λ e. rw (← e) (get_or-set_same next p (get_or first (get_or tails p 0) 0) 0 (omega (arith, l.next_long)) ∙ l.first_is (get_or tails p 0) known ∙ rw back))
      (λ o. get_or-set_other next p b (get_or first (get_or tails p 0) 0) 0 (λ e. omega arith) ∙ l.next_is b (omega arith) m)
      (eq-or-lt_of_le h);
}

pub linking_ends : (tails first next : List ℕ) (a : ℕ) → Linking tails first next a → a ≡ 0 → Linked tails first next
linking_ends tails first next a l done = record {
  first_is = λ tail h. l.first_is tail h ∙ rw done;
  next_is = λ b h. l.next_is b (omega arith) h;
}
