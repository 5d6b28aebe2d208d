-- What the programs print beside their numbers: a mark for no number, and "`refused 25 line 0`". "Each printed line ends in LF."
use Rattle.std.specs.Prelude.{ℕ, Bool, true, false, cond, List, [], ◌∷◌, ◌++◌, eqb}
use Rattle.townfile.specs.Bytes.{line_feed}
use Rattle.townfile.specs.FirstFault.{Reading, refused_at, accepted}
use Rattle.formatting.specs.Digits.{digits_of}

-- A number, or `-` where it is the mark for none.
unfoldable pub number_unless : ℕ → ℕ → List ℕ
number_unless none n = cond (eqb n none) (45 ∷ []) (digits_of n)

-- `refused ` and ` line `
abbrev pub refused_word : List ℕ
refused_word = 114 ∷ 101 ∷ 102 ∷ 117 ∷ 115 ∷ 101 ∷ 100 ∷ 32 ∷ []

abbrev pub line_word : List ℕ
line_word = 32 ∷ 108 ∷ 105 ∷ 110 ∷ 101 ∷ 32 ∷ []

unfoldable pub refusal_text : ℕ → ℕ → List ℕ
refusal_text number line = refused_word ++ (digits_of number ++ (line_word ++ (digits_of line ++ (line_feed ∷ []))))

-- The room that is enough for one.
abbrev pub refusal_room : ℕ
refusal_room = 35

-- A program prints a refusal's line, or what it has for the reply.
abbrev pub answer_text : {Reply : Type 0} → (Reply → List ℕ) → Reading Reply → List ℕ
answer_text print (refused_at number line) = refusal_text number line
answer_text print (accepted reply) = print reply

abbrev pub is_refusal : {Reply : Type 0} → Reading Reply → Bool
is_refusal (refused_at number line) = true
is_refusal (accepted reply) = false
