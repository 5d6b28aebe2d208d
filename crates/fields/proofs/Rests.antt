-- The rest of a line whose bytes all pass a test: what is left from here on decides, and where it ends is where the whole ends.
use Prim.Native.Nat.{ℕ, ◌+◌, ◌-◌, ◌≤◌, ◌<◌}
use mathlib.Core.Path.{◌≡◌, refl, sym, ap, ◌∙◌}
use mathlib.Core.Bool.{Bool, true, false, cond, not, ◌&&◌}
use mathlib.Core.List.{List, []}
use Rattle.std.specs.Prelude.{Some, None}
use native.Mathlib.Omega.{arith}
use lib.Dec.{leb, ltb, eqb}
use lib.ListN.{length, get_or}
use borrow.Author.Tests.{lt-ltb, le-ltb, le-leb, lt-leb, eq-eqb, ne_eqb}
use Rattle.model.specs.Rules.{every}
use Rattle.townfile.specs.Bytes.{line_feed, space, printable}
use Rattle.townfile.specs.Lines.{name_keeps}
use Rattle.fields.specs.Fields.{line_from, rest_if, printable_rest, name_rest_lem, name_at}
use Rattle.fields.proofs.LineFrom.{line_ends, line_goes_on, gap_begins, no_gap_begins, line_at, line_inside}

module _ (text : List ℕ) (i : ℕ) where
  pub rest_ends : line_from text i ≡ [] → Some i ≡ printable_rest text i
  rest_ends e = rw e (ap Some (omega arith))

  pub rest_goes_on : i < length text → 32 ≤ get_or text i 0 → get_or text i 0 < 127 → printable_rest text (i + 1) ≡ printable_rest text i
  rest_goes_on h low high =
      rw (line_goes_on text i h (λ e. omega arith), le-leb 32 (get_or text i 0) low, le-leb (get_or text i 0) 126 (omega arith))
      (ap (λ end. cond (every printable (line_from text (i + 1))) (Some end) None) (omega arith))

  pub rest_too_low : i < length text → (get_or text i 0 ≡ line_feed → ⊥) → get_or text i 0 < 32 → None ≡ printable_rest text i
  rest_too_low h e low = rw (line_goes_on text i h e, lt-leb 32 (get_or text i 0) low)

  pub rest_too_high : i < length text → 127 ≤ get_or text i 0 → None ≡ printable_rest text i
  rest_too_high h high = rw (line_goes_on text i h (λ e. omega arith), le-leb 32 (get_or text i 0) (omega arith), lt-leb (get_or text i 0) 126 (omega arith))

-- ---- What an answer tells

module _ (test : List ℕ → Bool) (text : List ℕ) (at : ℕ) where
  pub rest_good : {end : ℕ} → rest_if test text at ≡ Some end → (test (line_from text at) ≡ true) × (at + length (line_from text at) ≡ end)
  rest_good {end} e = go (test (line_from text at)) e
    where
      go : (kept : Bool) → cond kept (Some (at + length (line_from text at))) None ≡ Some end → (kept ≡ true) × (at + length (line_from text at) ≡ end)
      go true e = (refl, cc)
      go false e = absurd (let z : ◌≡◌ {A = ℕ} 0 1 = cc in omega arith)

  pub rest_malformed : rest_if test text at ≡ None → test (line_from text at) ≡ false
  rest_malformed e = go (test (line_from text at)) e
    where
      go : (kept : Bool) → cond kept (Some (at + length (line_from text at))) None ≡ None → kept ≡ false
      go true e = absurd (let z : ◌≡◌ {A = ℕ} 0 1 = cc in omega arith)
      go false e = refl

-- ---- A name

unprintable_name : (name : List ℕ) → every printable name ≡ false → name_keeps name ≡ false
unfolding name_keeps
unprintable_name name e = rw e (go (ltb 0 (length name) && leb (length name) 24) (not (eqb (get_or name 0 0) space)) (not (eqb (get_or name (length name - 1) 0) space)))
  where
    go : (a b c : Bool) → (a && false && b && c) ≡ false
    go true b c = refl
    go false b c = refl

module _ (text : List ℕ) (at : ℕ) where
  name_fails : name_keeps (line_from text at) ≡ false → None ≡ name_rest_lem text at
  name_fails e = rw e

  pub name_not_printable : printable_rest text at ≡ None → None ≡ name_rest_lem text at
  name_not_printable e = name_fails (unprintable_name (line_from text at) (rest_malformed (every printable) text at e))

  module _ {end : ℕ} (good : printable_rest text at ≡ Some end) where
    line_end_is : at + length (line_from text at) ≡ end
    line_end_is = (rest_good (every printable) text at good).1

    pub name_inside : at < end → end ≤ length text
    name_inside h = omega (arith, line_end_is, line_inside text at)

    pub name_empty : end ≤ at → None ≡ name_rest_lem text at
    unfolding name_keeps
    name_empty h = rw (le-ltb 0 (length (line_from text at)) (omega (arith, line_end_is)))

    pub name_too_long : at < end → 24 < end - at → None ≡ name_rest_lem text at
    unfolding name_keeps
    name_too_long h l = rw (lt-ltb 0 (length (line_from text at)) (omega (arith, line_end_is)), lt-leb (length (line_from text at)) 24 (omega (arith, line_end_is)))

    module _ (some : at < end) (few : end - at ≤ 24) where
      long : 0 < length (line_from text at)
      long = omega (arith, line_end_is)

      first_byte : get_or (line_from text at) 0 0 ≡ get_or text at 0
      first_byte = line_at text at 0 long ∙ ap (λ k. get_or text k 0) (omega arith)

      last_byte : get_or (line_from text at) (length (line_from text at) - 1) 0 ≡ get_or text (end - 1) 0
      last_byte = line_at text at (length (line_from text at) - 1) (omega (arith, long)) ∙ ap (λ k. get_or text k 0) (omega (arith, line_end_is, long))

      -- What is left to ask of a name: its first and its last byte.
      ends_decide : name_keeps (line_from text at) ≡ (not (eqb (get_or text at 0) space) && not (eqb (get_or text (end - 1) 0) space))
      unfolding name_keeps
      ends_decide =
          let room : length (line_from text at) ≤ 24 = omega (arith, line_end_is) in
          let printed = (rest_good (every printable) text at good).0 in
          rw (lt-ltb 0 (length (line_from text at)) long, le-leb (length (line_from text at)) 24 room, printed, first_byte, last_byte)

      pub name_begins_with_space : get_or text at 0 ≡ space → None ≡ name_rest_lem text at
      name_begins_with_space e = name_fails (ends_decide ∙ rw (eq-eqb (get_or text at 0) space e))

      module _ (first : get_or text at 0 ≡ space → ⊥) where
        pub name_ends_with_space : get_or text (end - 1) 0 ≡ space → None ≡ name_rest_lem text at
        name_ends_with_space e = name_fails (ends_decide ∙ rw (ne_eqb (get_or text at 0) space first, eq-eqb (get_or text (end - 1) 0) space e))

        pub name_is_good : (get_or text (end - 1) 0 ≡ space → ⊥) → Some end ≡ name_rest_lem text at
        name_is_good e = rw (ends_decide, ne_eqb (get_or text at 0) space first, ne_eqb (get_or text (end - 1) 0) space e) (ap Some (sym line_end_is))

-- ---- A name behind a space

module _ (text : List ℕ) (at : ℕ) where
  pub no_name_at_end : length text ≤ at → None ≡ name_at text at
  no_name_at_end h = rw (line_ends text at h)

  pub no_name_without_gap : at < length text → (get_or text at 0 ≡ space → ⊥) → None ≡ name_at text at
  no_name_without_gap h e = rw (no_gap_begins text at h e)

  pub name_behind_gap : at < length text → get_or text at 0 ≡ space → name_rest_lem text (at + 1) ≡ name_at text at
  name_behind_gap h e = rw (gap_begins text at h e)
