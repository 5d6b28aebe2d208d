-- `list::list_keeps`: the invariant is that the masks still to come, after those counted so far, come to what the list comes to.
use mathlib.Core.Path.{refl, sym, ◌∙◌}
use borrow.Author.Rules.{rules}
use borrow.Author.Tests.{ne_eqb, eq-eqb}
use Rattle.week.proofs.Masks.{one_more, all_looked_at}
use Rattle.week.proofs.ListTest.{mask_keeps_law, few_ones, two_tests_left}
use Rattle.week.proofs.list.list_keeps.Goals as goal

pub loop-mask-preserved : goal.loop-mask-preserved
loop-mask-preserved c =
    one_more _ c.loop-mask.invariant c.loop-mask-test.true (mask_keeps_law _ c.if-mask-eq0.false c.if-mask-gt-ALL_DAYS.false) (few_ones _ c.if-mask-gt-ALL_DAYS.false)

pub returns-then-together-ne-ALL_DAYS : goal.returns-then-together-ne-ALL_DAYS
returns-then-together-ne-ALL_DAYS c =
    let looked = all_looked_at _ c.loop-mask.invariant c.loop-mask-test.false in
    sym (two_tests_left _ (search rules) c.if-masks-gt-WEEKDAYS.false looked ∙ rw (ne_eqb _ _ c.if-together-ne-ALL_DAYS.true) refl)

pub returns : goal.returns
returns c =
    let looked = all_looked_at _ c.loop-mask.invariant c.loop-mask-test.false in
    sym (two_tests_left _ (search rules) c.if-masks-gt-WEEKDAYS.false looked ∙ rw (eq-eqb _ _ c.if-together-ne-ALL_DAYS.false) refl)
