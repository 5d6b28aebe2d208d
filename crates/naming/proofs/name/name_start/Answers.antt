-- `name::name_start`: of a line with the mark the number behind it is read, and the name begins behind the number's space.
use mathlib.Core.Path.{◌≡◌, sym, ◌∙◌}
use native.Mathlib.Omega.{arith}
use Rattle.townfile.specs.Lines.{mark_jn, mark_of}
use Rattle.townfile.proofs.Marks.{two_mark, mark_two}
use Rattle.fields.proofs.LineFrom.{line_inside}
use Rattle.naming.proofs.Naming.{other_mark, other_junction, this_junction, name_begins, field_not_malformed, next_is}
use Rattle.naming.proofs.name.name_start.Goals as goal
use mathlib.Core.List.{List}
use Prim.Native.Nat.{ℕ}
use Rattle.townfile.specs.Lines.{first_two}

pub returns-then-mark_at-ne-JUNCTION : goal.returns-then-mark_at-ne-JUNCTION
returns-then-mark_at-ne-JUNCTION c = other_mark _ _ _ (λ is. c.if-mark_at-ne-JUNCTION.true (c.mark_at.ensures ∙ mark_two _ is (λ e. omega arith)))

marked : (line : List ℕ) {found : ℕ} → found ≡ first_two line → found ≡ mark_jn → mark_of line ≡ mark_jn
marked line f e = two_mark line (sym f ∙ e) (λ e. omega arith)

pub overflow_add-at : goal.overflow_add-at
overflow_add-at c =
    let is = marked _ c.mark_at.ensures c.if-mark_at-ne-JUNCTION.false in
    omega (arith, name_begins _ _ c.requires is, line_inside c.args.text.now c.args.at)

pub returns-in_err-number : goal.returns-in_err-number
returns-in_err-number c =
    let is = marked _ c.mark_at.ensures c.if-mark_at-ne-JUNCTION.false in
    absurd (field_not_malformed _ _ c.requires is (sym c.in_err-number.ensures))

pub returns-then-number-junction : goal.returns-then-number-junction
returns-then-number-junction c =
    let is = marked _ c.mark_at.ensures c.if-mark_at-ne-JUNCTION.false in
    other_junction _ _ c.requires is (sym c.in_ok-number.ensures) _ c.if-number-junction.true

pub overflow_add-result : goal.overflow_add-result
overflow_add-result c =
    let is = marked _ c.mark_at.ensures c.if-mark_at-ne-JUNCTION.false in
    let next = next_is _ _ c.requires is (sym c.in_ok-number.ensures) in
    omega (arith, next, name_begins _ _ c.requires is, line_inside c.args.text.now c.args.at)

pub returns : goal.returns
returns c =
    let is = marked _ c.mark_at.ensures c.if-mark_at-ne-JUNCTION.false in
    this_junction _ _ c.requires is (sym c.in_ok-number.ensures) _ c.if-number-junction.false
