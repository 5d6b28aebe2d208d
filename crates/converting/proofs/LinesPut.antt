-- Lines put one by one: what the lines left come to, put behind the lines so far, makes what the text comes to.
use Prim.Native.Nat.{ℕ, ◌+◌, ◌≤◌}
use mathlib.Core.Bool.{Bool}
use mathlib.Core.List.{List, [], ◌∷◌}
use lib.ListN.{length, drop, drop_of_length-le}
use Rattle.townfile.specs.Bytes.{line_feed}
use Rattle.formatting.specs.Putting.{PutIfRoom}
use Rattle.formatting.proofs.Putting.{nothing_put, room_then}
use Rattle.conversion.specs.Conversion.{converted_line, converted}
use Rattle.conversion.proofs.Peeled.{converted_nothing}
use Rattle.converting.specs.Code.Lines.{InLines, LineFound}
use Rattle.converting.proofs.LineFound.{converted_next}

pub record LinesPut (wanted : Bool) (text : List ℕ) (at : ℕ) (before output : List ℕ) (put : ℕ) : Type 0 where
  pub lines_left : InLines (drop at text)
  pub with_rest : (after : List ℕ) (behind : ℕ) → PutIfRoom (converted wanted (drop at text)) put output after behind →
      PutIfRoom (converted wanted text) 0 before after behind

pub none_put : {wanted : Bool} {text before : List ℕ} → InLines text → LinesPut wanted text 0 before before 0
none_put lines = record { lines_left = lines; with_rest = λ after behind rest. rest }

module _ {wanted : Bool} {text : List ℕ} {at : ℕ} {before output : List ℕ} {put : ℕ} (puts : LinesPut wanted text at before output put) where
  pub line_put : {line : List ℕ} → LineFound text at line → {between after : List ℕ} {middle behind : ℕ} →
      PutIfRoom (converted_line wanted line) put output between middle → PutIfRoom (line_feed ∷ []) middle between after behind →
      LinesPut wanted text (at + (length line + 1)) before after behind
  line_put found put_line put_feed = record {
    lines_left = found.lines_left;
    with_rest = λ after behind rest. puts.with_rest after behind (rw (converted_next found wanted) (room_then put_line (room_then put_feed rest)));
  }

  pub all_put : length text ≤ at → PutIfRoom (converted wanted text) 0 before output put
  all_put past = puts.with_rest output put (rw (drop_of_length-le text past, converted_nothing wanted) (nothing_put output put))
