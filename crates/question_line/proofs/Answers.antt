-- The answer to an input, by its length and by whether its first line asks.
use Prim.Native.Nat.{ℕ, suc, ◌+◌, ◌≤◌, ◌<◌}
use mathlib.Core.Path.{◌≡◌}
use mathlib.Core.Bool.{Bool, true, false}
use mathlib.Core.List.{List, ◌∷◌}
use native.Mathlib.Omega.{arith}
use lib.ListN.{length, length-append}
use lib.Seq.{get_or-append-add}
use borrow.Author.Tests.{lt-ltb, le-ltb}
use Rattle.townfile.specs.Bytes.{line_feed}
use Rattle.townfile.specs.FirstFault.{Reading, refused_at}
use Rattle.townfile.specs.Grammar.{Bytes}
use Rattle.question_line.specs.Answers.{where_asked}
use Rattle.question_line.specs.Line.{LineAndRest, of_form, rest_start}
use Rattle.question_line.proofs.Forms.{tested}

module _ {Reply : Type 0} (input : List ℕ) (answer : Reading Reply) where
  pub asked_too_long : (asked : Bool) → 65536 < length input → where_asked asked input answer ≡ refused_at 20 0
  unfolding where_asked
  asked_too_long asked h = rw (lt-ltb 65536 (length input) h)

  module _ (short : length input ≤ 65536) {asked : Bool} where
    pub asked_not : asked ≡ false → where_asked asked input answer ≡ refused_at 25 0
    unfolding where_asked
    asked_not a = rw (le-ltb 65536 (length input) short, a)

    pub asked_so : asked ≡ true → where_asked asked input answer ≡ answer
    unfolding where_asked
    asked_so a = rw (le-ltb 65536 (length input) short, a)

-- What follows a line of the form begins within the input.
pub rest_inside : (mark : ℕ) (input : List ℕ) → of_form mark input ≡ true → rest_start input ≤ length input
rest_inside mark input form = omega (arith, (tested mark input form).ended)

-- What follows a line of an input of bytes is bytes.
pub rest_bytes : {first second : ℕ} {input numbers rest : List ℕ} → Bytes input → LineAndRest first second input numbers rest → Bytes rest
rest_bytes {rest = rest} bytes line i h =
    let fields = line.bytes in
    rw (get_or-append-add fields (line_feed ∷ rest) (suc i) 0) at (rw line.in_all at bytes (suc (suc (length fields + suc i))) (rw length-append (omega arith)))
