-- The pigeonhole principle: a list without repetition, all of whose members are below n, has at most n of them.
-- By induction on n: the last number, n - 1, is removed from the list, if it is a member. And lists without repetition, with
-- one member more, and by their places.
use Prim.Native.Nat.{ℕ, zero, suc, ◌≤◌, ◌<◌}
use mathlib.Core.Path.{◌≡◌, refl, sym, ap, ◌∙◌, subst}
use mathlib.Core.Logic.{◌≢◌, ◌⊎◌, inl, inr, ⊎_elim}
use mathlib.Core.List.{List, [], ◌∷◌, ◌++◌}
use native.Mathlib.Decide.{ℕ_discrete}
use native.Mathlib.Omega.{arith}
use lib.ListN.{length, get_or}
use Rattle.model.specs.Routes.{AllDiffer}

abbrev pub Member : ℕ → List ℕ → Type 0
Member a [] = ⊥
Member a (x ∷ xs) = (a ≡ x) ⊎ Member a xs

-- No number stands in the list twice.
abbrev pub Distinct : List ℕ → Type 0
Distinct [] = Unit {0}
Distinct (x ∷ xs) = (¬ Member x xs) × Distinct xs

pub member? : (a : ℕ) (xs : List ℕ) → Dec (Member a xs)
member? a [] = no (λ m. m)
member? a (x ∷ xs) = go (ℕ_discrete a x) (member? a xs)
  where
    go : Dec (a ≡ x) → Dec (Member a xs) → Dec (Member a (x ∷ xs))
    go (yes e) found = yes (inl e)
    go (no differs) (yes m) = yes (inr m)
    go (no differs) (no missing) = no λ m. elim m [ inl e ↦ differs e | inr later ↦ missing later ]

-- The list without the member that stands there.
abbrev remove : (a : ℕ) (xs : List ℕ) → Member a xs → List ℕ
remove a [] m = absurd m
remove a (x ∷ xs) (inl e) = xs
remove a (x ∷ xs) (inr m) = x ∷ remove a xs m

length_remove : (a : ℕ) (xs : List ℕ) (m : Member a xs) → length xs ≡ suc (length (remove a xs m))
length_remove a [] m = absurd m
length_remove a (x ∷ xs) (inl e) = refl
length_remove a (x ∷ xs) (inr m) = ap suc (length_remove a xs m)

member_remove : (a : ℕ) (xs : List ℕ) (m : Member a xs) (b : ℕ) → Member b (remove a xs m) → Member b xs
member_remove a [] m b k = absurd m
member_remove a (x ∷ xs) (inl e) b k = inr k
member_remove a (x ∷ xs) (inr m) b (inl e) = inl e
member_remove a (x ∷ xs) (inr m) b (inr k) = inr (member_remove a xs m b k)

distinct_remove : (a : ℕ) (xs : List ℕ) (m : Member a xs) → Distinct xs → Distinct (remove a xs m)
distinct_remove a [] m d = absurd m
distinct_remove a (x ∷ xs) (inl e) d = d.1
distinct_remove a (x ∷ xs) (inr m) d = (λ k. d.0 (member_remove a xs m x k), distinct_remove a xs m d.1)

remove_removes : (a : ℕ) (xs : List ℕ) (m : Member a xs) → Distinct xs → (b : ℕ) → Member b (remove a xs m) → b ≢ a
remove_removes a [] m d b k e = absurd m
remove_removes a (x ∷ xs) (inl e₁) d b k e = d.0 (subst (λ (y : ℕ). Member y xs) (e ∙ e₁) k)
remove_removes a (x ∷ xs) (inr m) d b (inl e₁) e = d.0 (subst (λ (y : ℕ). Member y xs) (sym e ∙ e₁) m)
remove_removes a (x ∷ xs) (inr m) d b (inr k) e = remove_removes a xs m d.1 b k e

pub distinct_length : (n : ℕ) (xs : List ℕ) → ((a : ℕ) → Member a xs → a < n) → Distinct xs → length xs ≤ n
distinct_length zero [] below d = omega arith
distinct_length zero (x ∷ xs) below d = omega (arith, below x (inl refl))
distinct_length (suc n) xs below d = go (distinct_length n) (member? n xs)
  where
    go : ((ys : List ℕ) → ((a : ℕ) → Member a ys → a < n) → Distinct ys → length ys ≤ n) → Dec (Member n xs) → length xs ≤ suc n
    go shorter (yes m) = omega (arith, length_remove n xs m, shorter (remove n xs m) below_rest (distinct_remove n xs m d))
      where
        below_rest : (a : ℕ) → Member a (remove n xs m) → a < n
        below_rest a k = omega (arith, below a (member_remove n xs m a k), remove_removes n xs m d a k)
    go shorter (no missing) = omega (arith, shorter xs below_all d)
      where
        below_all : (a : ℕ) → Member a xs → a < n
        below_all a k =
            let differs : a ≢ n = λ e. missing (subst (λ (y : ℕ). Member y xs) e k) in
            omega (arith, below a k)

-- ---- One member more at the end

module _ (y : ℕ) where
  pub member_snoc : (i : ℕ) (xs : List ℕ) → Member i (xs ++ (y ∷ [])) → Member i xs ⊎ (i ≡ y)
  member_snoc i [] (inl e) = inr e
  member_snoc i [] (inr m) = absurd m
  member_snoc i (x ∷ xs) (inl e) = inl (inl e)
  member_snoc i (x ∷ xs) (inr m) = ⊎_elim (λ k. inl (inr k)) (λ e. inr e) (member_snoc i xs m)

  pub distinct_snoc : (xs : List ℕ) → Distinct xs → (Member y xs → ⊥) → Distinct (xs ++ (y ∷ []))
  distinct_snoc [] d new = (λ m. m, tt)
  distinct_snoc (x ∷ xs) d new =
      (λ m. ⊎_elim d.0 (λ e. new (inl (sym e))) (member_snoc x xs m), distinct_snoc xs d.1 λ m. new (inr m))

-- ---- Places

pub member_at : (xs : List ℕ) (i d : ℕ) → i < length xs → Member (get_or xs i d) xs
member_at [] i d inside = absurd (omega arith)
member_at (x ∷ xs) zero d inside = inl refl
member_at (x ∷ xs) (suc i) d inside = inr (member_at xs i d (omega arith))

-- Two places hold different numbers.
pub distinct_differ : (xs : List ℕ) → Distinct xs → AllDiffer xs
distinct_differ [] d i k before inside same = omega arith
distinct_differ (x ∷ xs) d i zero before inside same = omega arith
distinct_differ (x ∷ xs) d zero (suc k) before inside same = d.0 (rw same (member_at xs k 0 (omega arith)))
distinct_differ (x ∷ xs) d (suc i) (suc k) before inside same = distinct_differ xs d.1 i k (omega arith) (omega arith) same
