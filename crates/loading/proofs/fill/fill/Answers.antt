-- `fill::fill`: at each turn storing what the lines that are left give comes to storing what all give; behind the last line none is left.
use borrow.Author.Rules.{rules}
use Prim.Native.Nat.{◌+◌}
use mathlib.Core.Path.{◌≡◌, refl, sym, ap, ◌∙◌}
use native.Mathlib.Omega.{arith}
use lib.Seq.{sets}
use Rattle.townfile.specs.Lines.{mark_fn, mark_ar}
use Rattle.townfile.proofs.Marks.{two_mark, mark_two}
use Rattle.fields.proofs.LineFrom.{line_inside}
use Rattle.fields.proofs.BehindMark.{behind_known}
use Rattle.loading.proofs.Taking.{row_long, row_stored}
use Rattle.loading.proofs.Filling.{fillable_starts, fences_asked, fences_next, arc_asked, arc_next, other_next, filled_whole}
use Rattle.loading.proofs.fill.fill.Goals as goal

pub loop-at-init : goal.loop-at-init
loop-at-init c = (fillable_starts c.requires, search rules)

-- ---- A line of fences
pub overflow_add-fence : goal.overflow_add-fence
overflow_add-fence c =
    let is = two_mark _ (sym c.mark_at-mark.ensures ∙ c.in-17998.is) (λ e. omega arith) in
    let behind = behind_known _ _ (c.type_inv.text (c.loop-at.at + 1)).fits refl is in
    record { fits = omega (arith, (fences_asked _ _ c.loop-at.invariant.0 behind is (c.requires.lines_end c.loop-at.at c.loop-at-test.true)).1) }

pub slice_bounds-fill_fences-end : goal.slice_bounds-fill_fences-end
slice_bounds-fill_fences-end c =
    let is = two_mark _ (sym c.mark_at-mark.ensures ∙ c.in-17998.is) (λ e. omega arith) in
    let behind = behind_known _ _ (c.type_inv.text (c.loop-at.at + 1)).fits refl is in
    (fences_asked _ _ c.loop-at.invariant.0 behind is (c.requires.lines_end c.loop-at.at c.loop-at-test.true)).1

pub fill_fences-at-requires : goal.fill_fences-at-requires
fill_fences-at-requires c =
    let is = two_mark _ (sym c.mark_at-mark.ensures ∙ c.in-17998.is) (λ e. omega arith) in
    let behind = behind_known _ _ (c.type_inv.text (c.loop-at.at + 1)).fits refl is in
    let (fill, room) = fences_asked _ _ c.loop-at.invariant.0 behind is (c.requires.lines_end c.loop-at.at c.loop-at-test.true) in
    rw (row_long c.loop-at.fence c.args.intervals c.loop-at.tables.fences.now room) fill

pub overflow_add-at-in-17998 : goal.overflow_add-at-in-17998
overflow_add-at-in-17998 c =
    let is = two_mark _ (sym c.mark_at-mark.ensures ∙ c.in-17998.is) (λ e. omega arith) in
    let behind = behind_known _ _ (c.type_inv.text (c.loop-at.at + 1)).fits refl is in
    record { fits = omega (arith, c.fill_fences-at.ensures.end, line_inside c.args.text.now (c.loop-at.at + 2), behind.inside) }

pub loop-at-preserved-in-17998 : goal.loop-at-preserved-in-17998
loop-at-preserved-in-17998 c =
    let is = two_mark _ (sym c.mark_at-mark.ensures ∙ c.in-17998.is) (λ e. omega arith) in
    let behind = behind_known _ _ (c.type_inv.text (c.loop-at.at + 1)).fits refl is in
    let (fill, room) = fences_asked _ _ c.loop-at.invariant.0 behind is (c.requires.lines_end c.loop-at.at c.loop-at-test.true) in
    let long = row_long c.loop-at.fence c.args.intervals c.loop-at.tables.fences.now room in
    let stored = row_stored c.loop-at.fence c.args.intervals c.loop-at.tables.fences.now room c.fill_fences-at.new.fences (c.fill_fences-at.auto.fences ∙ long) in
    let row = c.fill_fences-at.ensures.fences in (
      fences_next _ _ c.loop-at.invariant.0 behind is _ (ap (λ end. end + 1) c.fill_fences-at.ensures.end) _
          (stored ∙ ap (sets c.loop-at.tables.fences.now c.loop-at.fence) row),
      search rules,
    )

-- ---- An arc
pub fill_arc-at-requires : goal.fill_arc-at-requires
fill_arc-at-requires c =
    let is = two_mark _ (sym c.mark_at-mark.ensures ∙ c.in-16722.is) (λ e. omega arith) in
    let behind = behind_known _ _ (c.type_inv.text (c.loop-at.at + 1)).fits refl is in
    let (fills, room) = arc_asked _ _ c.loop-at.invariant.0 behind is (c.requires.lines_end c.loop-at.at c.loop-at-test.true) in
    record { arc_fills = fills; room = room }

pub overflow_add-at-in-16722-2 : goal.overflow_add-at-in-16722-2
overflow_add-at-in-16722-2 c =
    let is = two_mark _ (sym c.mark_at-mark.ensures ∙ c.in-16722.is) (λ e. omega arith) in
    let behind = behind_known _ _ (c.type_inv.text (c.loop-at.at + 1)).fits refl is in
    record { fits = omega (arith, c.fill_arc-at.ensures.end, line_inside c.args.text.now (c.loop-at.at + 2), behind.inside) }

pub loop-at-preserved-in-16722 : goal.loop-at-preserved-in-16722
loop-at-preserved-in-16722 c =
    let is = two_mark _ (sym c.mark_at-mark.ensures ∙ c.in-16722.is) (λ e. omega arith) in
    let behind = behind_known _ _ (c.type_inv.text (c.loop-at.at + 1)).fits refl is in
    let ends = c.fill_arc-at.ensures in
    (arc_next _ _ c.loop-at.invariant.0 behind is _ (ap (λ end. end + 1) ends.end) _ ends.tables, search rules)

-- ---- Another line
pub loop-at-preserved : goal.loop-at-preserved
loop-at-preserved c =
    let no_fences : c.mark_at-mark.result ≡ mark_fn → ⊥ = search rules in
    let no_arc : c.mark_at-mark.result ≡ mark_ar → ⊥ = search rules in (
      other_next _ _ c.loop-at.invariant.0 (λ e. no_fences (c.mark_at-mark.ensures ∙ mark_two _ e (λ e. omega arith)))
          (λ e. no_arc (c.mark_at-mark.ensures ∙ mark_two _ e (λ e. omega arith))) _ (ap (λ end. end + 1) c.line_end-at.ensures),
      c.loop-at.invariant.1,
    )

pub returns : goal.returns
returns c = record { tables = filled_whole _ _ c.loop-at.invariant.0 c.loop-at-test.false c.requires; same = c.loop-at.invariant.1 }
