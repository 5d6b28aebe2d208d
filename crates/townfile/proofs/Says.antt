-- What a line says by its mark, as a function of its bytes and of the count of intervals.
use Prim.Native.Nat.{ℕ}
use mathlib.Core.List.{List}
use lib.ListN.{get_or}
use Rattle.townfile.specs.Grammar.{Line, TN, FN, JN, AR, CM}
use Rattle.townfile.specs.Lines.{mark_tn, mark_fn, mark_jn, mark_ar, mark_cm, mark_of, by_mark, numbers_of}
use Rattle.townfile.specs.Tables.{named_of, arc_of}

unfoldable pub says_of : (intervals : ℕ) → List ℕ → Line
says_of intervals line =
    by_mark (mark_of line) (TN (get_or (numbers_of line) 0 0) (get_or (numbers_of line) 1 0)) (FN (numbers_of line)) (JN (named_of line)) (AR (arc_of intervals line)) CM CM

abbrev pub mark_of_says : Line → ℕ
mark_of_says (TN junctions intervals) = mark_tn
mark_of_says (FN fences) = mark_fn
mark_of_says (JN named) = mark_jn
mark_of_says (AR arc) = mark_ar
mark_of_says CM = mark_cm
