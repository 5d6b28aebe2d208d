-- What a program's output holds, from what the converter answers and leaves: a result stands there already, and behind a refusal the output is as
-- it was, so that the refusal's line is put into it.
use Prim.Native.Nat.{ℕ}
use mathlib.Core.Path.{◌≡◌, sym, ap, ◌∙◌}
use mathlib.Core.Bool.{Bool}
use mathlib.Core.List.{List}
use lib.ListN.{length, length-replicate}
use Rattle.model.specs.Rules.{first_broken, written}
use Rattle.townfile.specs.Grammar.{Bytes}
use Rattle.townfile.specs.FirstFault.{Reading, refused_at, accepted, first_fault}
use Rattle.townfile.specs.Tables.{town_of}
use Rattle.formatting.specs.Texts.{refusal_text, is_refusal}
use Rattle.formatting.specs.declared.text.Text.{Text}
use Rattle.conversion.specs.Conversion.{converted, conversion_rules, behind_faults, convert_answer, output_after}
use Rattle.conversion.proofs.Conversion.{converts_when_described}
use Rattle.converted_text.specs.Printing.{room, conversion_for, conversion_text}
use Rattle.converted_text.specs.Code.Prints.{Prints}

-- The answer depends on the output's length alone.
same_room : (wanted : Bool) (input output : List ℕ) → length output ≡ 65536 → convert_answer wanted input output ≡ convert_answer wanted input room
unfolding convert_answer
same_room wanted input output long =
    let result = length (converted wanted input) in
    ap (λ size. behind_faults (first_fault input) (λ p. first_broken (conversion_rules wanted p.held (town_of input) result size) result))
    (long ∙ sym (length-replicate {A = ℕ} 65536 0))

pub ends_printed : (wanted : Bool) (input output : List ℕ) → Bytes input → length output ≡ 65536 → (answer : Reading ℕ) {left after : List ℕ} {said : Text} →
    answer ≡ convert_answer wanted input output → left ≡ output_after wanted input output → Prints answer left after said →
    (said.length ≡ length (conversion_text wanted input))
    × ((said.refused ≡ is_refusal (conversion_for wanted input)) × (after ≡ written (conversion_text wanted input) output))
unfolding conversion_text conversion_for output_after
ends_printed wanted input output bytes long (refused_at number line) answers left printed =
    let refuses = sym (same_room wanted input output long) ∙ sym answers in
    let unchanged = rw (← answers) at left in
    rw refuses (printed.counted, (printed.told, printed.holds ∙ ap (written (refusal_text number line)) unchanged))
ends_printed wanted input output bytes long (accepted reply) answers left (counted, (told, same)) =
    let replies = sym (same_room wanted input output long) ∙ sym answers in
    let result = rw (← answers) at left in
    let long-so = ((converts_when_described wanted input output bytes reply).0 (sym answers)).1 in
    rw replies (counted ∙ long-so, (told, same ∙ result))
