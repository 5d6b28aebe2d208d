-- A line from a place on: it ends at the text's end and at a line feed, and otherwise goes on by a byte. So does a word, which ends
-- at a space too.
use Prim.Native.Nat.{ℕ, zero, suc, ◌+◌, ◌-◌, ◌*◌, ◌≤◌, ◌<◌, max}
use mathlib.Core.Path.{◌≡◌, refl, sym, ap, ◌∙◌}
use mathlib.Core.Bool.{true, false}
use mathlib.Core.Logic.{◌⊎◌, inl, inr}
use mathlib.Core.List.{List, [], ◌∷◌}
use native.Mathlib.Numerals.{add-one}
use native.Mathlib.Omega.{arith}
use lib.Dec.{eqb}
use lib.ListN.{length, get_or, drop, drop_of_length-le, length-drop}
use lib.Seq.{drop-cons, get_or-drop, drop-drop, drop-length}
use borrow.Author.Tests.{eq-eqb, ne_eqb}
use Rattle.model.proofs.Tests.{eqb_cases, ltb_cases}
use Rattle.townfile.specs.Bytes.{line_feed, space, up_to}
use Rattle.townfile.specs.Lines.{first_two}
use Rattle.fields.specs.Fields.{line_from, word_from}

module _ (text : List ℕ) (at : ℕ) where
  pub line_ends : length text ≤ at → line_from text at ≡ []
  unfolding line_from up_to
  line_ends h = rw (drop_of_length-le text h)

  pub line_feed_ends : at < length text → get_or text at 0 ≡ line_feed → line_from text at ≡ []
  unfolding line_from up_to
  line_feed_ends h e = rw (drop-cons text at 0 h, up_to, eq-eqb (get_or text at 0) line_feed e)

  pub line_goes_on : at < length text → (get_or text at 0 ≡ line_feed → ⊥) → line_from text at ≡ get_or text at 0 ∷ line_from text (at + 1)
  unfolding line_from up_to
  line_goes_on h e = rw (drop-cons text at 0 h, up_to, ne_eqb (get_or text at 0) line_feed e, add-one)

  pub word_ends : line_from text at ≡ [] → word_from text at ≡ []
  unfolding up_to
  word_ends e = rw e

  pub space_ends : at < length text → get_or text at 0 ≡ space → word_from text at ≡ []
  unfolding up_to
  space_ends h e = rw (line_goes_on h (λ f. omega arith), up_to, eq-eqb (get_or text at 0) space e)

  -- A separator of lines or of fields.
  pub separator_ends : at < length text → (get_or text at 0 ≡ line_feed) ⊎ (get_or text at 0 ≡ space) → word_from text at ≡ []
  separator_ends h (inl feed) = word_ends (line_feed_ends h feed)
  separator_ends h (inr gap) = space_ends h gap

  pub word_goes_on : at < length text → (get_or text at 0 ≡ line_feed → ⊥) → (get_or text at 0 ≡ space → ⊥) → word_from text at ≡ get_or text at 0 ∷ word_from text (at + 1)
  unfolding up_to
  word_goes_on h f e = rw (line_goes_on h f, up_to, ne_eqb (get_or text at 0) space e)

  -- A line that begins with a space, and one that does not.
  pub gap_begins : at < length text → get_or text at 0 ≡ space → eqb (get_or (line_from text at) 0 0) space ≡ true
  gap_begins h e = rw (line_goes_on h (λ f. omega arith)) (eq-eqb (get_or text at 0) space e)

  pub no_gap_begins : at < length text → (get_or text at 0 ≡ space → ⊥) → eqb (get_or (line_from text at) 0 0) space ≡ false
  no_gap_begins h e = elim (eqb_cases (get_or text at 0) line_feed) [
    | inl feed ↦ rw (line_feed_ends h feed.1)
    | inr other ↦ rw (line_goes_on h other.1, ne_eqb (get_or text at 0) space e)
  ]

  -- ---- What the small functions answer

  pub at_end_test : length text ≤ at → true ≡ eqb (length (line_from text at)) 0
  at_end_test h = rw (line_ends h)

  pub line_feed_test : at < length text → eqb (get_or text at 0) line_feed ≡ eqb (length (line_from text at)) 0
  line_feed_test h = elim (eqb_cases (get_or text at 0) line_feed) [
    | inl here ↦ rw (here.0, line_feed_ends h here.1)
    | inr other ↦ rw (other.0, line_goes_on h other.1) (sym (ne_eqb (length (get_or text at 0 ∷ line_from text (at + 1))) 0 (λ e. omega arith)))
  ]

  no_line_no_mark : line_from text at ≡ [] → 0 ≡ first_two (line_from text at)
  unfolding first_two
  no_line_no_mark e = rw e

  one_byte_no_mark : at < length text → line_from text (at + 1) ≡ [] → 0 ≡ first_two (line_from text at)
  unfolding first_two
  one_byte_no_mark h e = elim (eqb_cases (get_or text at 0) line_feed) [
    | inl here ↦ no_line_no_mark (line_feed_ends h here.1)
    | inr other ↦ rw (line_goes_on h other.1, e)
  ]

module _ (text : List ℕ) (at : ℕ) where
  pub no_first_byte : length text ≤ at → 0 ≡ first_two (line_from text at)
  no_first_byte h = no_line_no_mark text at (line_ends text at h)

  pub no_second_byte : at < length text → length text ≤ at + 1 → 0 ≡ first_two (line_from text at)
  no_second_byte h l = one_byte_no_mark text at h (line_ends text (at + 1) l)

  pub first_is_feed : at < length text → get_or text at 0 ≡ line_feed → 0 ≡ first_two (line_from text at)
  first_is_feed h e = no_line_no_mark text at (line_feed_ends text at h e)

  pub second_is_feed : at < length text → at + 1 < length text → get_or text (at + 1) 0 ≡ line_feed → 0 ≡ first_two (line_from text at)
  second_is_feed h l e = one_byte_no_mark text at h (line_feed_ends text (at + 1) l e)

  pub two_bytes_mark : at < length text → at + 1 < length text → (get_or text at 0 ≡ line_feed → ⊥) → (get_or text (at + 1) 0 ≡ line_feed → ⊥) →
      get_or text at 0 * 256 + get_or text (at + 1) 0 ≡ first_two (line_from text at)
  unfolding first_two
  two_bytes_mark h l e f = rw (line_goes_on text at h e, line_goes_on text (at + 1) l f, first_two)

  -- ---- Where the line ends

  pub end_here : line_from text at ≡ [] → at ≡ at + length (line_from text at)
  end_here e = rw e (omega arith)

  pub end_goes_on : at < length text → (get_or text at 0 ≡ line_feed → ⊥) → at + 1 + length (line_from text (at + 1)) ≡ at + length (line_from text at)
  end_goes_on h e = rw (line_goes_on text at h e) (omega arith)

-- ---- The line's bytes are the text's

up_to_at : (separator : ℕ) (bytes : List ℕ) (k : ℕ) → k < length (up_to separator bytes) → get_or (up_to separator bytes) k 0 ≡ get_or bytes k 0
unfolding up_to
up_to_at separator [] k h = refl
up_to_at separator (byte ∷ bytes) k h = elim (eqb_cases byte separator) [
  | inl here ↦ (let none : k < 0 = rw here.0 at h in absurd (omega arith))
  | inr other ↦ rw other.0 (go (up_to_at separator bytes) k (rw other.0 at h))
]
  where
    go : ((k : ℕ) → k < length (up_to separator bytes) → get_or (up_to separator bytes) k 0 ≡ get_or bytes k 0) → (k : ℕ) → k < suc (length (up_to separator bytes)) →
        get_or (byte ∷ up_to separator bytes) k 0 ≡ get_or (byte ∷ bytes) k 0
    go later zero h = refl
    go later (suc k) h = later k (omega arith)

pub up_to_length : (separator : ℕ) (bytes : List ℕ) → length (up_to separator bytes) ≤ length bytes
unfolding up_to
up_to_length separator [] = omega arith
up_to_length separator (byte ∷ bytes) = elim (eqb_cases byte separator) [
  | inl here ↦ rw here.0 (omega arith)
  | inr other ↦ rw other.0 (omega (arith, up_to_length separator bytes))
]

module _ (text : List ℕ) (at : ℕ) where
  pub line_at : (k : ℕ) → k < length (line_from text at) → get_or (line_from text at) k 0 ≡ get_or text (at + k) 0
  unfolding line_from
  line_at k h = up_to_at line_feed (drop at text) k h ∙ get_or-drop at text k 0

  pub word_at : (k : ℕ) → k < length (word_from text at) → get_or (word_from text at) k 0 ≡ get_or text (at + k) 0
  word_at k h = up_to_at space (line_from text at) k h ∙ line_at k (omega (arith, up_to_length space (line_from text at)))

  pub line_inside : length (line_from text at) ≤ length text - at
  unfolding line_from
  line_inside = omega (arith, up_to_length line_feed (drop at text), length-drop at text)

-- ---- Later places of a line

up_to_later : (separator : ℕ) (bytes : List ℕ) (k : ℕ) → k ≤ length (up_to separator bytes) → up_to separator (drop k bytes) ≡ drop k (up_to separator bytes)
unfolding up_to
up_to_later separator bytes zero h = refl
up_to_later separator [] (suc k) h = refl
up_to_later separator (byte ∷ bytes) (suc k) h = elim (eqb_cases byte separator) [
  | inl here ↦ (let none : suc k ≤ 0 = rw here.0 at h in absurd (omega arith))
  | inr other ↦ rw other.0 (up_to_later separator bytes k (let h' : suc k ≤ suc (length (up_to separator bytes)) = rw other.0 at h in omega arith))
]

-- Nothing stands between what is before the first separator and that.
pub up_to_behind : (separator : ℕ) (bytes : List ℕ) → up_to separator (drop (length (up_to separator bytes)) bytes) ≡ []
up_to_behind separator bytes = up_to_later separator bytes (length (up_to separator bytes)) (omega arith) ∙ drop-length (up_to separator bytes)

pub line_later : (text : List ℕ) (at k : ℕ) → k ≤ length (line_from text at) → line_from text (at + k) ≡ drop k (line_from text at)
unfolding line_from
line_later text at k h = ap (up_to line_feed) (sym (drop-drop k at text)) ∙ up_to_later line_feed (drop at text) k h

-- Where a loop from a place up to the text's end stops: at the end, or at a place behind it from which it has not gone on.
pub at_last : (at size i : ℕ) → size ≤ i → (at ≤ size → i ≤ size) → (size ≤ at → i ≡ at) → max at size ≡ i
at_last at size i past near far = elim (ltb_cases at size) [
  | inl inside ↦ omega (arith, inside.1, near (omega (arith, inside.1)))
  | inr outside ↦ omega (arith, outside.1, far outside.1)
]
