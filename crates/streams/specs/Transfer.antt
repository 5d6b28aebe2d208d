-- What a read of a whole input answers: how many bytes it took, or none where it failed.
use Rattle.std.specs.Prelude.{◌≡◌, ℕ, ◌<◌, ◌≤◌, List, length, take, Option, Some, None}
use Rattle.std.specs.Io.KnownBytes.{Consumes, IsAtEnd}

-- The bytes counted stand in what was lent.
abbrev pub Within : Option ℕ → List ℕ → Type 0
Within (Some count) lent = (count ≤ length lent) × (count ≡ length (take count lent))
Within None lent = Unit {0}

-- Where a reader's bytes are known: those counted are its next ones, in their order, and where they do not fill what was lent, none is left.
abbrev pub ReadsWhole : Option ℕ → Option (List ℕ) → Option (List ℕ) → List ℕ → Type 0
ReadsWhole (Some count) old new lent = Consumes old new (take count lent) × (count < length lent → IsAtEnd new)
ReadsWhole None old new lent = Unit {0}
