-- What stands in the output behind a converter's answer.
use Rattle.std.specs.Prelude.{ℕ, ◌≡◌, true, false, List}
use Rattle.townfile.specs.FirstFault.{Reading, refused_at, accepted}
use Rattle.formatting.specs.Printed.{Printed}
use Rattle.formatting.specs.Texts.{refusal_text}
use Rattle.formatting.specs.declared.text.Text.{Text}

-- A refusal's line is put; a result is left as it stands.
abbrev pub Prints : Reading ℕ → List ℕ → List ℕ → Text → Type 0
Prints (refused_at number line) before after said = Printed (refusal_text number line) true before after said
Prints (accepted reply) before after said = (said.length ≡ reply) × ((said.refused ≡ false) × (after ≡ before))
