-- Whether a hold is lost, line by line: the lines from a place on decide for all.
use Prim.Native.Nat.{ℕ, ◌+◌, ◌≤◌}
use mathlib.Core.Path.{◌≡◌, refl}
use mathlib.Core.Bool.{true, false}
use mathlib.Core.List.{List}
use lib.ListN.{length, drop}
use Rattle.model.specs.Rules.{every}
use Rattle.conversion.specs.Conversion.{lines_of}
use Rattle.conversion.specs.Code.LineEnds.{loses_none}
use Rattle.converting.specs.Code.Lines.{InLines, LineFound}
use Rattle.converting.proofs.LineFound.{no_line_left}

pub record HoldsLeft (text : List ℕ) (at : ℕ) : Type 0 where
  pub lines_left : InLines (drop at text)
  pub same_answer : every loses_none (lines_of (drop at text)) ≡ every loses_none (lines_of text)

pub all_left : {text : List ℕ} → InLines text → HoldsLeft text 0
all_left lines = record { lines_left = lines; same_answer = refl }

module _ {text : List ℕ} {at : ℕ} (left : HoldsLeft text at) where
  module _ {line : List ℕ} (found : LineFound text at line) where
    pub line_loses : loses_none line ≡ false → false ≡ every loses_none (lines_of text)
    line_loses lost = rw (found.lines_are, lost) at left.same_answer

    pub line_passed : loses_none line ≡ true → HoldsLeft text (at + (length line + 1))
    line_passed none = record { lines_left = found.lines_left; same_answer = rw (found.lines_are, none) at left.same_answer }

  pub none_left : length text ≤ at → true ≡ every loses_none (lines_of text)
  none_left past = rw (no_line_left text at past) at left.same_answer
