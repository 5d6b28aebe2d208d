-- What a buffer holds after bytes are put into it from a place on. A buffer may have any length; where it has no room, nothing is said
-- of it.
use Rattle.std.specs.Prelude.{ℕ, ◌+◌, ◌≤◌, ◌≡◌, List, length}
use Rattle.std.proofs.lemmas.List.Edits.{sets}

-- Bytes are put from a place of the buffer on; the answer is the place behind them.
pub record Put (bytes : List ℕ) (at : ℕ) (before after : List ℕ) (behind : ℕ) : Type 0 where
  pub next : behind ≡ at + length bytes
  pub holds : after ≡ sets before at bytes

-- They are put where the buffer has room for them.
abbrev pub PutIfRoom : List ℕ → ℕ → List ℕ → List ℕ → ℕ → Type 0
PutIfRoom bytes at before after behind = at + length bytes ≤ length before → Put bytes at before after behind
