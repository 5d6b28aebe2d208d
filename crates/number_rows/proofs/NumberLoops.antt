-- The loops over the numbers of a line. At each turn the numbers left, behind a flag for those that have been read, come to what all
-- of them come to. A number is tested alone, or by what stands before it: then the test of the numbers left changes with each.
use Prim.Native.Nat.{ℕ, zero, suc, ◌+◌, ◌-◌, ◌≤◌, ◌<◌}
use mathlib.Core.Path.{◌≡◌, refl, sym, ap, ◌∙◌}
use mathlib.Core.Bool.{Bool, true, false, cond, ◌&&◌, and_assoc}
use mathlib.Core.List.{List, [], ◌∷◌}
use Rattle.std.specs.Prelude.{Some, None, Result, Err}
use native.Mathlib.Omega.{arith}
use lib.Dec.{eqb, eqb-suc-zero}
use lib.ListN.{length, get_or, take}
use borrow.Author.Tests.{ne_eqb}
use Rattle.model.specs.Rules.{every, rise_from, fences_keep_lem, speed_keeps, hold_keeps}
use Rattle.townfile.specs.Bytes.{pieces, up_to}
use Rattle.fields.specs.Fields.{line_from, field, field_at, numbers_from}
use Rattle.fields.proofs.FieldsLeft.{field_read, no_bytes}
use Rattle.number_rows.specs.NumbersRead.{numbers_read, row_keeps}
use Rattle.number_rows.specs.Code.Fences.{fence_keeps_lem}
use Rattle.refusals.specs.declared.refusal.Refusal.{Refusal}
use Rattle.refusals.specs.declared.refusal.Refusal.TheVariants.{FieldForm}
use Rattle.number_rows.proofs.NumbersLeft.{numbers_same, numbers_go_on, numbers_malformed, numbers_not_ended}

-- ---- Any test

-- Behind k numbers and a flag for them, what is left from a place on comes to what all numbers come to.
pub record Left (all : List ℕ → Bool) (text : List ℕ) (at count : ℕ) (within : Bool) (left : List ℕ → Bool) (k i : ℕ) : Type 0 where
  pub same : numbers_read (λ numbers. within && left numbers) (count - k) text i ≡ numbers_read all count text at

pub all_left : (all : List ℕ → Bool) (text : List ℕ) (at count : ℕ) → Left all text at count true all 0 at
all_left all text at count = record { same = ap (λ some. numbers_read all some text at) (omega arith) }

-- No number is left: the flag decides.
last_test : (test : List ℕ → Bool) (text : List ℕ) (i : ℕ) (within : Bool) → within ≡ test [] →
    numbers_read (λ numbers. within) 0 text i ≡ numbers_read test 0 text i
unfolding numbers_read pieces up_to
last_test test text i within e = go (eqb (length (line_from text i)) 0) refl
  where
    go : (ended : Bool) → eqb (length (line_from text i)) 0 ≡ ended → numbers_read (λ numbers. within) 0 text i ≡ numbers_read test 0 text i
    go true end = rw (no_bytes (line_from text i) end, e)
    go false end = sym (numbers_not_ended text i (λ numbers. within) end) ∙ numbers_not_ended text i test end

-- The flag with one number more.
flag_goes_on : (within keeps rest : Bool) → ((within && keeps) && rest) ≡ (within && (keeps && rest))
flag_goes_on true keeps rest = refl
flag_goes_on false keeps rest = refl

flag_alone : (within : Bool) → within ≡ (within && true)
flag_alone true = refl
flag_alone false = refl

module _ {all : List ℕ → Bool} {text : List ℕ} {at count : ℕ} {within : Bool} {left : List ℕ → Bool} {k i : ℕ} (here : Left all text at count within left k i) where
  abbrev flagged : List ℕ → Bool
  flagged numbers = within && left numbers

  -- Where a number is left.
  module _ (more : k < count) where
    left_is : count - k ≡ suc (count - (k + 1))
    left_is = omega arith

    pub left_malformed : field_at text i ≡ None → Err FieldForm ≡ numbers_read all count text at
    left_malformed e = rw left_is (numbers_malformed text i flagged (count - (k + 1)) e) ∙ here.same

    pub left_goes_on : {value next : ℕ} {within' : Bool} (keeps : Bool) (left' : List ℕ → Bool) →
        field_at text i ≡ Some (field value next) → within' ≡ (within && keeps) →
        ((numbers : List ℕ) → left (value ∷ numbers) ≡ (keeps && left' numbers)) → Left all text at count within' left' (k + 1) next
    left_goes_on {value} {next} {within'} keeps left' e flag goes =
        let rest = numbers_from text next in
        let test : (within' && left' rest) ≡ flagged (value ∷ rest) = rw (flag, goes rest) (flag_goes_on within keeps (left' rest)) in
        let taken = numbers_go_on text i value next (field_read text i e) flagged (count - (k + 1)) in
        record {
          same =
              numbers_same (λ numbers. within' && left' numbers) (λ numbers. flagged (value ∷ numbers)) (count - (k + 1)) text next test
              ∙ sym taken
              ∙ ap (λ some. numbers_read flagged some text i) (sym left_is)
              ∙ here.same;
        }

    -- A number that is tested together with those behind it.
    pub left_taken : {value next : ℕ} → field_at text i ≡ Some (field value next) → Left all text at count within (λ numbers. left (value ∷ numbers)) (k + 1) next
    left_taken {value} e = left_goes_on true (λ numbers. left (value ∷ numbers)) e (flag_alone within) (λ numbers. refl)

  pub left_decides : count ≤ k → {kept : Bool} → kept ≡ (within && left []) → numbers_read (λ numbers. kept) 0 text i ≡ numbers_read all count text at
  left_decides least {kept} decides =
      let ended : count - k ≡ 0 = omega arith in
      last_test flagged text i kept decides ∙ ap (λ some. numbers_read flagged some text i) (sym ended) ∙ here.same

  pub left_ends : count ≤ k → left [] ≡ true → numbers_read (λ numbers. within) 0 text i ≡ numbers_read all count text at
  left_ends least none = left_decides least (flag_alone within ∙ ap (λ kept. within && kept) (sym none))

-- ---- Fences

-- The fences behind k others, the last of which is known.
abbrev pub fences_left_keep : ℕ → ℕ → List ℕ → Bool
fences_left_keep k before fences = cond (eqb k 0) (fences_keep_lem fences) (rise_from before fences)

pub fence_goes : (k before fence : ℕ) {keeps : Bool} → keeps ≡ fence_keeps_lem k before fence → (fences : List ℕ) →
    fences_left_keep k before (fence ∷ fences) ≡ (keeps && fences_left_keep (k + 1) fence fences)
unfolding rise_from fences_keep_lem
fence_goes zero before fence e fences = rw e
fence_goes (suc k) before fence e fences = rw (e, eqb-suc-zero k, ne_eqb (suc k + 1) 0 (λ e. omega arith))

pub no_fence : (k before : ℕ) → fences_left_keep k before [] ≡ true
unfolding rise_from fences_keep_lem
no_fence zero before = refl
no_fence (suc k) before = rw (eqb-suc-zero k)

-- ---- The row of an arc

-- A speed is tested in front of those behind it and of the hold.
pub row_next : (count k : ℕ) → k < count → (speed : ℕ) (numbers : List ℕ) →
    row_keeps (count - k) (speed ∷ numbers) ≡ (speed_keeps speed && row_keeps (count - (k + 1)) numbers)
row_next count k more speed numbers =
    let next : count - k ≡ suc (count - (k + 1)) = omega arith in
    rw next (and_assoc (speed_keeps speed) (every speed_keeps (take (count - (k + 1)) numbers)) (hold_keeps (get_or numbers (count - (k + 1)) 0)))

module _ (text : List ℕ) (at : ℕ) where
  pub row_starts : (count numbers : ℕ) → Left (row_keeps count) text at numbers true (row_keeps (count - 0)) 0 at
  row_starts count numbers = let none : count - 0 ≡ count = omega arith in rw none (all_left (row_keeps count) text at numbers)

  -- Behind the speeds: the hold, where there is one, and the end.
  module _ (within : Bool) where
    abbrev ending : List ℕ → Bool
    ending numbers = within && row_keeps 0 numbers

    abbrev asked : ℕ → Result ℕ Refusal
    asked holds = numbers_read ending holds text at

    pub ends_unheld_law : numbers_read (λ numbers. within) 0 text at ≡ asked 0
    ends_unheld_law = left_decides (all_left ending text at 0) (omega arith) (flag_alone within)

    pub no_hold_law : field_at text at ≡ None → Err FieldForm ≡ asked 1
    no_hold_law e = left_malformed (all_left ending text at 1) (omega arith) e

    pub ends_held : {hold next : ℕ} {kept : Bool} → field_at text at ≡ Some (field hold next) → kept ≡ (within && hold_keeps hold) →
        numbers_read (λ numbers. kept) 0 text next ≡ asked 1
    ends_held e k = left_decides (left_taken (all_left ending text at 1) (omega arith) e) (omega arith) k

-- Behind all speeds what is left of the row is its end.
pub row_left : {text : List ℕ} {at count : ℕ} (holds : ℕ) {numbers : ℕ} {within : Bool} {k i : ℕ} → Left (row_keeps count) text at numbers within (row_keeps (count - k)) k i →
    k ≡ count → numbers ≡ count + holds → numbers_read (λ numbers. within && row_keeps 0 numbers) holds text i ≡ numbers_read (row_keeps count) numbers text at
row_left {count = count} holds {numbers} {k = k} left all long =
    let none : count - k ≡ 0 = omega arith in
    let rest : numbers - k ≡ holds = omega arith in
    rw (none, rest) at left.same
