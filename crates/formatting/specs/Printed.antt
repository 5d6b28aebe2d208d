-- What is said of a whole output: its text, and whether that is a refusal.
use Rattle.std.specs.Prelude.{ℕ, ◌≡◌, Bool, List, length}
use Rattle.model.specs.Rules.{written}
use Rattle.townfile.specs.FirstFault.{Reading}
use Rattle.formatting.specs.Texts.{answer_text, is_refusal}
use Rattle.formatting.specs.declared.text.Text.{Text}

-- The output begins with a text. Its length is said, and whether it is a refusal.
pub record Printed (text : List ℕ) (refusal : Bool) (before after : List ℕ) (said : Text) : Type 0 where
  pub counted : said.length ≡ length text
  pub told : said.refused ≡ refusal
  pub holds : after ≡ written text before

-- The text is that of an answer.
abbrev pub PrintedAnswer : {Reply : Type 0} → (Reply → List ℕ) → Reading Reply → List ℕ → List ℕ → Text → Type 0
PrintedAnswer print answer before after said = Printed (answer_text print answer) (is_refusal answer) before after said
