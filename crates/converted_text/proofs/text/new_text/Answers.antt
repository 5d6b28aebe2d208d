-- `text::new_text`: what the converter leaves, or its refusal's line.
use mathlib.Core.Bool.{true}
use native.Mathlib.Omega.{arith}
use Rattle.townfile.specs.Answers.{reading_of}
use Rattle.converted_text.proofs.Texts.{ends_printed}
use Rattle.converted_text.proofs.text.new_text.Goals as goal

pub returns : goal.returns
returns c =
    let (counted, (told, holds)) = ends_printed true c.args.input.now c.args.output.now (λ i h. (c.type_inv.input i).fits) (omega arith)
    (reading_of c.to_new-answer.result) c.to_new-answer.ensures.answer c.to_new-answer.ensures.output c.text_of.ensures in
    record { length = counted; refused = told; output = holds }
