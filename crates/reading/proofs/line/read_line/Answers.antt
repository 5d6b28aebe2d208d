-- `line::read_line`: by the mark, each kind of line is the whole line.
use borrow.Author.Rules.{rules}
use Prim.Native.Nat.{ℕ, ◌+◌}
use mathlib.Core.Path.{◌≡◌, refl, sym, ◌∙◌}
use mathlib.Core.List.{List, [], ◌∷◌}
use mathlib.Core.Logic.{inl, inr}
use native.Mathlib.Omega.{arith}
use types.Run.{OneOf}
use Rattle.townfile.specs.Lines.{mark_tn, mark_tw, mark_fn, mark_jn, mark_ar, mark_cm, first_two, mark_of}
use Rattle.townfile.proofs.Marks.{two_mark, mark_two, held_mark, town_two}
use Rattle.fields.specs.Fields.{line_from}
use Rattle.fields.proofs.BehindMark.{behind_known}
use Rattle.reading.proofs.LineMarks.{town_line_is, fences_line_is, junction_line_is, arc_line_is, comment_line_is, no_line_is}
use Rattle.reading.proofs.line.read_line.Goals as goal

-- either of the two that begin a file
town : (line : List ℕ) {found : ℕ} → found ≡ first_two line → OneOf (mark_tn ∷ mark_tw ∷ []) found → mark_of line ≡ mark_tn
town line f (inl e) = two_mark line (sym f ∙ e) (λ e. omega arith)
town line f (inr e) = held_mark line (sym f ∙ e)

pub returns-in-21582 : goal.returns-in-21582
returns-in-21582 c =
    let mark = town (line_from c.args.text.now c.args.at) c.mark_at-mark.ensures c.in-21582.is in
    c.town_line.ensures ∙ town_line_is _ _ _ _ (behind_known _ _ (c.type_inv.text (c.args.at + 1)).fits refl mark) mark (rw (← c.mark_at-mark.ensures))

pub overflow_add-at : goal.overflow_add-at
overflow_add-at c =
    let mark = town (line_from c.args.text.now c.args.at) c.mark_at-mark.ensures c.in-21582.is in
    record { fits = omega (arith, (behind_known _ _ (c.type_inv.text (c.args.at + 1)).fits refl mark).inside) }

pub returns-in-17998 : goal.returns-in-17998
returns-in-17998 c =
    let mark = two_mark (line_from c.args.text.now c.args.at) (sym c.mark_at-mark.ensures ∙ c.in-17998.is) (λ e. omega arith) in
    c.fences_line.ensures ∙ fences_line_is _ _ _ (behind_known _ _ (c.type_inv.text (c.args.at + 1)).fits refl mark) mark

pub overflow_add-at-in-17998 : goal.overflow_add-at-in-17998
overflow_add-at-in-17998 c =
    let mark = two_mark (line_from c.args.text.now c.args.at) (sym c.mark_at-mark.ensures ∙ c.in-17998.is) (λ e. omega arith) in
    record { fits = omega (arith, (behind_known _ _ (c.type_inv.text (c.args.at + 1)).fits refl mark).inside) }

pub returns-in-19022 : goal.returns-in-19022
returns-in-19022 c =
    let mark = two_mark (line_from c.args.text.now c.args.at) (sym c.mark_at-mark.ensures ∙ c.in-19022.is) (λ e. omega arith) in
    c.junction_line.ensures ∙ junction_line_is _ _ _ (behind_known _ _ (c.type_inv.text (c.args.at + 1)).fits refl mark) mark

pub overflow_add-at-in-19022 : goal.overflow_add-at-in-19022
overflow_add-at-in-19022 c =
    let mark = two_mark (line_from c.args.text.now c.args.at) (sym c.mark_at-mark.ensures ∙ c.in-19022.is) (λ e. omega arith) in
    record { fits = omega (arith, (behind_known _ _ (c.type_inv.text (c.args.at + 1)).fits refl mark).inside) }

pub returns-in-16722 : goal.returns-in-16722
returns-in-16722 c =
    let mark = two_mark (line_from c.args.text.now c.args.at) (sym c.mark_at-mark.ensures ∙ c.in-16722.is) (λ e. omega arith) in
    c.arc_line.ensures ∙ arc_line_is _ _ _ (behind_known _ _ (c.type_inv.text (c.args.at + 1)).fits refl mark) mark

pub overflow_add-at-in-16722 : goal.overflow_add-at-in-16722
overflow_add-at-in-16722 c =
    let mark = two_mark (line_from c.args.text.now c.args.at) (sym c.mark_at-mark.ensures ∙ c.in-16722.is) (λ e. omega arith) in
    record { fits = omega (arith, (behind_known _ _ (c.type_inv.text (c.args.at + 1)).fits refl mark).inside) }

pub returns-in-17229 : goal.returns-in-17229
returns-in-17229 c =
    let mark = two_mark (line_from c.args.text.now c.args.at) (sym c.mark_at-mark.ensures ∙ c.in-17229.is) (λ e. omega arith) in
    c.comment_line.ensures ∙ comment_line_is _ _ _ (behind_known _ _ (c.type_inv.text (c.args.at + 1)).fits refl mark) mark

pub overflow_add-at-in-17229 : goal.overflow_add-at-in-17229
overflow_add-at-in-17229 c =
    let mark = two_mark (line_from c.args.text.now c.args.at) (sym c.mark_at-mark.ensures ∙ c.in-17229.is) (λ e. omega arith) in
    record { fits = omega (arith, (behind_known _ _ (c.type_inv.text (c.args.at + 1)).fits refl mark).inside) }

pub returns-in_default : goal.returns-in_default
returns-in_default c =
    let line = line_from c.args.text.now c.args.at in
    let is : c.mark_at-mark.result ≡ first_two line = c.mark_at-mark.ensures in
    let no_town : OneOf (mark_tn ∷ mark_tw ∷ []) c.mark_at-mark.result → ⊥ = search rules in
    let other : (mark : ℕ) → (mark ≡ mark_tn → ⊥) → (c.mark_at-mark.result ≡ mark → ⊥) → mark_of line ≡ mark → ⊥ =
    λ mark town no e. no (is ∙ mark_two line e town) in
    no_line_is _ _ _ (λ e. town_two line e (λ e. no_town (inl (is ∙ e))) (λ e. no_town (inr (is ∙ e)))) (other mark_fn (λ e. omega arith) (search rules))
    (other mark_jn (λ e. omega arith) (search rules)) (other mark_ar (λ e. omega arith) (search rules)) (other mark_cm (λ e. omega arith) (search rules))
