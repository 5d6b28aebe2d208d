-- The lines of a text: the pieces of lines that are joined are these lines, and an empty one.
use Prim.Native.Nat.{ℕ}
use mathlib.Core.Path.{◌≡◌, refl}
use mathlib.Core.Bool.{Bool}
use mathlib.Core.List.{List, [], ◌∷◌, ◌++◌}
use Rattle.townfile.specs.Bytes.{pieces}
use Rattle.townfile.specs.Grammar.{Town, Each, Unbroken, joined, Describes}
use Rattle.townfile.proofs.Described.{all_unbroken}
use Rattle.townfile.proofs.Joined.{joined_pieces}
use Rattle.conversion.specs.Conversion.{all_but_last, lines_of, converted}

but_last : (lines : List (List ℕ)) (last : List ℕ) → all_but_last (lines ++ (last ∷ [])) ≡ lines
unfolding all_but_last
but_last [] last = refl
but_last (line ∷ []) last = refl
but_last (line ∷ next ∷ lines) last = rw (but_last (next ∷ lines) last)

pub lines_of_joined : (lines : List (List ℕ)) → Each Unbroken lines → lines_of (joined lines) ≡ lines
lines_of_joined lines unbroken = rw (joined_pieces lines unbroken) (but_last lines [])

pub lines_described : {text : List ℕ} {held : Bool} {T : Town} (described : Describes text held T) → lines_of text ≡ described.lines
lines_described described = rw described.in_lines (lines_of_joined described.lines (all_unbroken described.each_reads))

-- No line is converted to nothing.
pub converted_nothing : (wanted : Bool) → converted wanted [] ≡ []
unfolding converted all_but_last pieces joined
converted_nothing wanted = refl
