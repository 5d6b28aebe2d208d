-- The bytes of a town file, and a text in pieces.
use Rattle.std.specs.Prelude.{ℕ, Bool, cond, ◌&&◌, List, [], ◌∷◌, leb, eqb}

abbrev pub line_feed : ℕ
line_feed = 10

abbrev pub space : ℕ
space = 32

-- "Bytes of 32 to 126."
abbrev pub printable : ℕ → Bool
printable byte = leb 32 byte && leb byte 126

abbrev pub digit : ℕ → Bool
digit byte = leb 48 byte && leb byte 57

-- The bytes before the first separator, or all of them.
unfoldable pub up_to : ℕ → List ℕ → List ℕ
up_to separator [] = []
up_to separator (byte ∷ bytes) = cond (eqb byte separator) [] (byte ∷ up_to separator bytes)

unfoldable pub on_first : ℕ → List (List ℕ) → List (List ℕ)
on_first byte [] = []
on_first byte (piece ∷ pieces) = (byte ∷ piece) ∷ pieces

-- The pieces that the separators part, empty ones too: always one more than there are separators.
unfoldable pub pieces : ℕ → List ℕ → List (List ℕ)
pieces separator [] = [] ∷ []
pieces separator (byte ∷ bytes) = let rest = pieces separator bytes in cond (eqb byte separator) ([] ∷ rest) (on_first byte rest)
