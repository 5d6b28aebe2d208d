-- The answer to an input, by its length and by what its first line asks.
use Prim.Native.Nat.{ℕ, ◌≤◌, ◌<◌}
use mathlib.Core.Path.{◌≡◌, refl, ap, ◌∙◌}
use mathlib.Core.Bool.{Bool, true, false, cond}
use mathlib.Core.List.{List}
use native.Mathlib.Omega.{arith}
use lib.Dec.{eqb}
use lib.ListN.{length, drop}
use Rattle.std.specs.Prelude.{Some, None}
use Rattle.model.proofs.Rules.{true_both}
use Rattle.townfile.specs.FirstFault.{refused_at}
use Rattle.question_line.specs.Line.{numbers_in, of_form, rest_start}
use Rattle.question_line.specs.Question.{mark_qu, source_in, town_text}
use Rattle.question_line.proofs.Answers.{asked_too_long, asked_not, asked_so, rest_inside}
use Rattle.town_labels.specs.Labelling.{town_labelling}
use Rattle.arrivals_text.specs.Answer.{answer_to}
use Rattle.arrivals_text.specs.Question.{asks, departure_in}
use Rattle.arrivals_text.specs.Code.Found.{question, question_in_lem}
use Rattle.arrivals_text.specs.declared.question.Question.{Question}

-- ---- The answer

module _ (input : List ℕ) where
  pub answer_too_long : 65536 < length input → answer_to input ≡ refused_at 20 0
  unfolding answer_to
  answer_too_long h = asked_too_long input _ (asks input) h

  pub answer_not_asked : length input ≤ 65536 → asks input ≡ false → answer_to input ≡ refused_at 25 0
  unfolding answer_to
  answer_not_asked h a = asked_not input _ h a

  pub answer_asked : length input ≤ 65536 → asks input ≡ true → answer_to input ≡ town_labelling (town_text input) (source_in input) (departure_in input)
  unfolding answer_to
  answer_asked h a = asked_so input _ h a

-- ---- By what the code finds

pub question_malformed : (input : List ℕ) → length input ≤ 65536 → question_in_lem input ≡ None → answer_to input ≡ refused_at 25 0
unfolding question_in_lem
question_malformed input h e = go (asks input) refl e
  where
    go : (test : Bool) → asks input ≡ test → cond test (Some (question (source_in input) (departure_in input) (rest_start input))) None ≡ None → answer_to input ≡ refused_at 25 0
    go true a e = absurd (let z : ◌≡◌ {A = ℕ} 0 1 = cc in omega arith)
    go false a e = answer_not_asked input h a

-- The town file begins within the input.
town_inside : (input : List ℕ) → asks input ≡ true → rest_start input ≤ length input
unfolding asks
town_inside input a = rest_inside mark_qu input (true_both (of_form mark_qu input) (eqb (length (numbers_in input)) 2) a).0

pub record QuestionAsked (input : List ℕ) (source departure town : ℕ) : Type 0 where
  pub inside : town ≤ length input
  pub answers : length input ≤ 65536 → answer_to input ≡ town_labelling (drop town input) source departure

pub question_asked : (input : List ℕ) {line : Question} → question_in_lem input ≡ Some line → QuestionAsked input line.source line.departure line.town
unfolding question_in_lem
question_asked input {line} e = go (asks input) refl e
  where
    go : (test : Bool) → asks input ≡ test → cond test (Some (question (source_in input) (departure_in input) (rest_start input))) None ≡ Some line →
        QuestionAsked input line.source line.departure line.town
    go true a e =
        (let same : question (source_in input) (departure_in input) (rest_start input) ≡ line = cc in
        let same_source : source_in input ≡ line.source = ap (λ l. l.source) same in
        let same-departure : departure_in input ≡ line.departure = ap (λ l. l.departure) same in
        let same_town : rest_start input ≡ line.town = ap (λ l. l.town) same in
        record { inside = omega (arith, town_inside input a, same_town); answers = λ h. answer_asked input h a ∙ rw (same_source, same-departure, same_town) })
    go false a e = absurd (let z : ◌≡◌ {A = ℕ} 0 1 = cc in omega arith)
