-- `line::numbers_line`: no mark, another mark, another form, or the numbers that were counted and then copied.
use Prim.Native.Nat.{ℕ}
use mathlib.Core.List.{List}
use mathlib.Core.Path.{◌≡◌, sym, ◌∙◌}
use Rattle.townfile.specs.Lines.{first_two}
use Rattle.fields.specs.Fields.{line_from}
use Rattle.question_line.specs.Line.{first_line}
use Rattle.question_line.proofs.Marked.{no_mark_law, other_mark, refused, answer_is, counted_only, not_counted, table_is}
use Rattle.question_line.proofs.line.numbers_line.Goals as goal

marked : (text : List ℕ) {found mark : ℕ} → found ≡ first_two (line_from text 0) → found ≡ mark → first_two (first_line text) ≡ mark
unfolding line_from
marked text e same = sym e ∙ same

pub returns-then-mark-eq-NONE : goal.returns-then-mark-eq-NONE
returns-then-mark-eq-NONE c =
    let none = refused c.args.mark c.args.text.now (no_mark_law _ _ c.if-mark-eq-NONE.true) c.args.numbers.now in
    record { answer = none.0; numbers = none.1 }

pub returns-then-mark_at-mark : goal.returns-then-mark_at-mark
unfolding line_from
returns-then-mark_at-mark c =
    let other = refused c.args.mark c.args.text.now (other_mark _ _ (λ e. c.if-mark_at-mark.true (c.mark_at.ensures ∙ e))) c.args.numbers.now in
    record { answer = other.0; numbers = other.1 }

pub returns-in_err-asked : goal.returns-in_err-asked
returns-in_err-asked c =
    let is = marked _ c.mark_at.ensures c.if-mark_at-mark.false in
    let other = refused c.args.mark c.args.text.now (not_counted _ _ is c.if-mark-eq-NONE.false (sym c.count_numbers.ensures ∙ c.in_err-asked.was)) c.args.numbers.now in
    record { answer = c.from_residual.ensures ∙ other.0; numbers = other.1 }

pub copy_numbers-requires : goal.copy_numbers-requires
copy_numbers-requires c =
    let is = marked _ c.mark_at.ensures c.if-mark_at-mark.false in
    (counted_only _ _ is c.if-mark-eq-NONE.false (sym c.count_numbers.ensures ∙ c.in_ok-asked.was)).1

pub returns : goal.returns
returns c =
    let is = marked _ c.mark_at.ensures c.if-mark_at-mark.false in
    let form = (counted_only _ _ is c.if-mark-eq-NONE.false (sym c.count_numbers.ensures ∙ c.in_ok-asked.was)).0 in
    record {
      answer = sym c.in_ok-asked.was ∙ c.count_numbers.ensures ∙ answer_is _ _ is c.if-mark-eq-NONE.false;
      numbers = c.copy_numbers.ensures ∙ table_is _ _ is c.if-mark-eq-NONE.false form _;
    }
