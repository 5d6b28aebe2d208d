-- What a call of one rule or of two answers.
use Prim.Native.Nat.{ℕ}
use mathlib.Core.Path.{◌≡◌, refl, sym, ap, ◌∙◌}
use mathlib.Core.Bool.{Bool, true, false, not, cond, true≢false}
use mathlib.Core.Logic.{◌↔◌, ◌⊎◌, inl, inr}
use mathlib.Core.List.{[], ◌∷◌}
use native.Mathlib.Omega.{arith}
use Rattle.refusals.specs.Rules.{Outcome, refused, replied, ◌if◌, first_broken}
use Rattle.week.proofs.ListTest.{refuted}

-- ---- One rule, and two

module _ (a reply : ℕ) where
  abbrev pub one_rule : Bool → Outcome ℕ
  one_rule p = first_broken ((a if not p) ∷ []) reply

  pub one_broken : (p : Bool) → p ≡ false → refused a ≡ one_rule p
  unfolding first_broken
  one_broken p broken = rw broken refl

  pub one_kept : (p : Bool) → p ≡ true → replied reply ≡ one_rule p
  unfolding first_broken
  one_kept p kept = rw kept refl

module _ (a b : ℕ) (reply : ℕ) where
  abbrev pub two_rules : Bool → Bool → Outcome ℕ
  two_rules p q = first_broken ((a if not p) ∷ (b if not q) ∷ []) reply

  pub first_broken_law : (p q : Bool) → p ≡ false → refused a ≡ two_rules p q
  unfolding first_broken
  first_broken_law p q broken = rw broken refl

  pub second_broken : (p q : Bool) → p ≡ true → q ≡ false → refused b ≡ two_rules p q
  unfolding first_broken
  second_broken p q kept broken = rw (kept, broken) refl

  pub none_broken : (p q : Bool) → p ≡ true → q ≡ true → replied reply ≡ two_rules p q
  unfolding first_broken
  none_broken p q kept kept' = rw (kept, kept') refl

  pub second_decides : (p q : Bool) → p ≡ true → two_rules p q ≡ cond q (replied reply) (refused b)
  unfolding first_broken
  second_decides p true kept = rw kept refl
  second_decides p false kept = rw kept refl

-- ---- What two rules say in plain words

decided : {P : Type 0} (p : Bool) → (p ≡ true) ↔ P → (p ≡ false) ↔ (P → ⊥)
decided p iff = ((λ e held. true≢false (sym (iff.1 held) ∙ e)), (λ not. refuted p (λ e. not (iff.0 e))))

absurd_codes : {A : Type 0} {a r : ℕ} → ◌≡◌ {A = Outcome ℕ} (refused a) (replied r) → A
absurd_codes e = absurd (let z : ◌≡◌ {A = ℕ} 0 1 = cc e in omega arith)

number_of : {a b : ℕ} → ◌≡◌ {A = Outcome ℕ} (refused a) (refused b) → a ≡ b
number_of e = cc e

pub only_two : (a b reply : ℕ) (p q : Bool) (number : ℕ) → two_rules a b reply p q ≡ refused number → (number ≡ a) ⊎ (number ≡ b)
unfolding first_broken
only_two a b reply true true number e = absurd_codes (sym e)
only_two a b reply true false number e = inr (sym (number_of e))
only_two a b reply false q number e = inl (sym (number_of e))

-- One rule, kept exactly where a condition holds.
module _ (a reply : ℕ) (p : Bool) (P : Type 0) (p-is : (p ≡ true) ↔ P) where
  pub is_refused : (number : ℕ) → (one_rule a reply p ≡ refused number) ↔ ((number ≡ a) × (P → ⊥))
  unfolding first_broken
  is_refused number = (to p refl, λ (same, not). sym (one_broken a reply p ((decided p p-is).1 not)) ∙ ap refused (sym same))
    where
      to : (p' : Bool) → p ≡ p' → one_rule a reply p' ≡ refused number → (number ≡ a) × (P → ⊥)
      to true is e = absurd_codes (sym e)
      to false is e = (sym (number_of e), (decided p p-is).0 is)

  pub is_replied : (r : ℕ) → (one_rule a reply p ≡ replied r) ↔ ((r ≡ reply) × P)
  unfolding first_broken
  is_replied r = (to p refl, λ (same, held). sym (one_kept a reply p (p-is.1 held)) ∙ ap replied (sym same))
    where
      to : (p' : Bool) → p ≡ p' → one_rule a reply p' ≡ replied r → (r ≡ reply) × P
      to true is e = (cc e, p-is.0 is)
      to false is e = absurd_codes e

-- The first rule is kept exactly where some number keeps a condition, and then the second exactly where this number keeps another; and the reply is right
-- for it exactly where a third holds.
module _ (a b reply : ℕ) (apart : a ≡ b → ⊥) (p q : Bool) (P Q : ℕ → Type 0) (R : ℕ → ℕ → Type 0)
    (p-is : (p ≡ true) ↔ ((n : ℕ) × P n)) (q-is : (n : ℕ) → P n → (q ≡ true) ↔ Q n) (r-is : (n : ℕ) → P n → Q n → (r : ℕ) → (reply ≡ r) ↔ R n r) where
  is_first : (two_rules a b reply p q ≡ refused a) ↔ ((n : ℕ) → P n → ⊥)
  unfolding first_broken
  is_first = (to p q refl refl, λ none. sym (first_broken_law a b reply p q ((decided p p-is).1 (λ (n, held). none n held))))
    where
      to : (p' q' : Bool) → p ≡ p' → q ≡ q' → two_rules a b reply p' q' ≡ refused a → (n : ℕ) → P n → ⊥
      to true true is is' e n held = absurd_codes (sym e)
      to true false is is' e n held = apart (sym (number_of e))
      to false q' is is' e n held = (decided p p-is).0 is (n, held)

  is_second : (two_rules a b reply p q ≡ refused b) ↔ ((n : ℕ) × P n × (Q n → ⊥))
  unfolding first_broken
  is_second = (
    to p q refl refl,
    λ (n, held, not). sym (second_broken a b reply p q (p-is.1 (n, held)) ((decided q (q-is n held)).1 not)),
  )
    where
      to : (p' q' : Bool) → p ≡ p' → q ≡ q' → two_rules a b reply p' q' ≡ refused b → (n : ℕ) × P n × (Q n → ⊥)
      to true true is is' e = absurd_codes (sym e)
      to true false is is' e = let (n, held) = p-is.0 is in (n, held, (decided q (q-is n held)).0 is')
      to false q' is is' e = absurd (apart (number_of e))

  is_reply : (r : ℕ) → (two_rules a b reply p q ≡ replied r) ↔ ((n : ℕ) × P n × Q n × R n r)
  unfolding first_broken
  is_reply r = (
    to p q refl refl,
    λ (n, held, kept, right). sym (none_broken a b reply p q (p-is.1 (n, held)) ((q-is n held).1 kept)) ∙ ap replied ((r-is n held kept r).1 right),
  )
    where
      to : (p' q' : Bool) → p ≡ p' → q ≡ q' → two_rules a b reply p' q' ≡ replied r → (n : ℕ) × P n × Q n × R n r
      to true true is is' e =
          let (n, held) = p-is.0 is in
          let kept = (q-is n held).0 is' in
          (n, held, kept, (r-is n held kept r).0 (cc e))
      to true false is is' e = absurd_codes e
      to false q' is is' e = absurd_codes e

  pub plainly : ((two_rules a b reply p q ≡ refused a) ↔ ((n : ℕ) → P n → ⊥))
      × ((two_rules a b reply p q ≡ refused b) ↔ ((n : ℕ) × P n × (Q n → ⊥)))
      × ((r : ℕ) → (two_rules a b reply p q ≡ replied r) ↔ ((n : ℕ) × P n × Q n × R n r))
  plainly = (is_first, is_second, is_reply)
