-- What a converter answers and leaves, by what the scan comes to and the three rules. A text without fault describes a town: the ends of its lines tell
-- its holds, and the count of its arcs the result's length.
use Prim.Native.Nat.{ℕ, ◌+◌, ◌*◌, ◌≤◌}
use mathlib.Core.Path.{◌≡◌, refl, sym, ap, ◌∙◌}
use mathlib.Core.Bool.{Bool, true, false, not, ◌&&◌}
use mathlib.Core.List.{List}
use native.Mathlib.Omega.{arith}
use lib.ListN.{length}
use lib.Seq.{sets-eq}
use Rattle.model.specs.Rules.{first_broken, written}
use Rattle.townfile.specs.Grammar.{Bytes, Town, Describes}
use Rattle.townfile.specs.FirstFault.{Reading, refused_at, accepted, first_fault}
use Rattle.townfile.specs.Tables.{town_of}
use Rattle.townfile.specs.declared.progress.Progress.{Progress}
use Rattle.townfile.proofs.Described.{faultless_described, described_town}
use Rattle.formatting.specs.Putting.{PutIfRoom}
use Rattle.conversion.specs.Conversion.{converted, is_form_lem, some_held, is_too_long, convert_answer, output_after}
use Rattle.conversion.proofs.Conversion.{length_by_arcs}
use Rattle.conversion.proofs.HoldEnds.{holds_by_ends}
use Rattle.conversion.proofs.Peeled.{lines_described}
use Rattle.conversion.proofs.ThreeRules.{form_other, has_room}
use Rattle.converting.specs.Code.Lines.{InLines, loses_hold_lem, length_by}

-- ---- What a text without fault tells

pub record Faultless (text : List ℕ) (p : Progress) : Type 0 where
  pub bytes : Bytes text
  pub read : accepted p ≡ first_fault text

-- The result's length by the count of arcs.
pub record LengthTold (wanted : Bool) (text : List ℕ) (arcs : ℕ) : Type 0 where
  pub holds_inside : wanted ≡ false → 2 * arcs ≤ length text
  pub length_is : length_by wanted (length text) arcs ≡ length (converted wanted text)

holds_told : (wanted : Bool) {text : List ℕ} {held : Bool} {T : Town} → Describes text held T → held ≡ not wanted → loses_hold_lem wanted text ≡ (not wanted && some_held T)
holds_told true described is = refl
holds_told false described is = ap not (holds_by_ends (rw is at described))

arcs_told : (wanted : Bool) {text : List ℕ} {p : Progress} → Faultless text p → p.held ≡ not wanted → LengthTold wanted text p.arcs
arcs_told true {text} {p} found is = record {
  holds_inside = λ back. let z : ◌≡◌ {A = ℕ} 0 1 = cc in absurd (omega arith);
  length_is = sym ((length_by_arcs text found.bytes p (sym found.read)).0 is);
}
arcs_told false {text} {p} found is =
    let fewer = (length_by_arcs text found.bytes p (sym found.read)).1 is in
    record { holds_inside = λ back. omega arith; length_is = omega arith }

module _ {text : List ℕ} {p : Progress} (found : Faultless text p) where
  described : (T : Town) × Describes text p.held T
  described = faultless_described found.bytes (sym found.read)

  pub in_lines : InLines text
  in_lines = let in-form = described.1 in rw (lines_described in-form) in-form.in_lines

  pub short_enough : length text ≤ 65536
  short_enough = described.1.short_enough

  module _ (wanted : Bool) (other : is_form_lem wanted p.held ≡ false) where
    same_holds : loses_hold_lem wanted text ≡ (not wanted && some_held (town_of text))
    same_holds = let (T, in-form) = described in rw (described_town in-form) (holds_told wanted in-form (form_other wanted p.held other))

    pub length_told : LengthTold wanted text p.arcs
    length_told = arcs_told wanted found (form_other wanted p.held other)

-- ---- The answers

module _ (wanted : Bool) (text output : List ℕ) where
  -- An answer and what the output holds, as the contract says them.
  abbrev Ends : Reading ℕ → List ℕ → Type 0
  Ends answer after = (answer ≡ convert_answer wanted text output) × (after ≡ output_after wanted text output)

  module _ {p : Progress} (found : Faultless text p) where
    module _ (other : is_form_lem wanted p.held ≡ false) where
      pub hold_is_lost : loses_hold_lem wanted text ≡ true → Ends (refused_at 34 0) output
      unfolding convert_answer output_after first_broken
      hold_is_lost lost = let is = sym (same_holds found wanted other) ∙ lost in (rw (← found.read, other, is), rw (← found.read, other, is))

      module _ (kept : loses_hold_lem wanted text ≡ false) {result : ℕ} (told : result ≡ length_by wanted (length text) p.arcs) where
        none_held : (not wanted && some_held (town_of text)) ≡ false
        none_held = sym (same_holds found wanted other) ∙ kept

        result_is : result ≡ length (converted wanted text)
        result_is = told ∙ (length_told found wanted other).length_is

        pub no_room : is_too_long result (length output) ≡ true → Ends (refused_at 35 0) output
        unfolding convert_answer output_after first_broken
        no_room long = let is = rw result_is at long in (rw (← found.read, other, none_held, is), rw (← found.read, other, none_held, is))

        pub replies : is_too_long result (length output) ≡ false → {after : List ℕ} {behind : ℕ} →
            PutIfRoom (converted wanted text) 0 output after behind → Ends (accepted behind) after
        unfolding convert_answer output_after first_broken
        replies short {after} {behind} puts =
            let is = rw result_is at short in
            let room = (has_room (length (converted wanted text)) (length output) is).1 in
            let put = puts (omega arith) in
            let from_start : 0 + length (converted wanted text) ≡ length (converted wanted text) = omega arith in
            let whole : after ≡ written (converted wanted text) output = put.holds ∙ sets-eq (converted wanted text) output 0 (omega arith) ∙ rw from_start in
            (rw (← found.read, other, none_held, is) (ap accepted (put.next ∙ from_start)), rw (← found.read, other, none_held, is) whole)
