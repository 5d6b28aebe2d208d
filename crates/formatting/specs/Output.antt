-- What an output holds after bytes are put behind those that it has: its buffer is still the one that was lent.
use Rattle.std.specs.Prelude.{◌≡◌, ℕ, List}
use Rattle.formatting.specs.Putting.{PutIfRoom}
use Rattle.formatting.specs.declared.output.Output.{Output}

pub record Puts (bytes : List ℕ) (before after : Output) : Type 0 where
  pub lent : after.buffer.ghost_name ≡ before.buffer.ghost_name
  pub puts : PutIfRoom bytes before.length before.buffer.now after.buffer.now after.length
