-- `fill::fill_arc`: the first three numbers of the line are taken one by one, the speeds behind them as a row, and the hold.
use Prim.Native.Nat.{ℕ, suc, ◌+◌, ◌*◌}
use mathlib.Core.Path.{◌≡◌, ap, ◌∙◌}
use mathlib.Core.Bool.{Bool, cond}
use mathlib.Core.List.{List}
use native.Mathlib.Omega.{arith}
use lib.ListN.{get_or, take, drop}
use lib.Seq.{sets, get_or-drop}
use Rattle.fields.specs.Fields.{numbers_from}
use Rattle.townfile.specs.Lent.{lent_tables}
use Rattle.loading.specs.Code.Filling.{ArcFills, taken_at}
use Rattle.fields.specs.declared.field.Field.{Field}
use Rattle.loading.proofs.Taking.{number_asked, Taking, taking, ArcTaken, arc_starts, arc_taken, row_long, row_stored, arc_written}
use Rattle.loading.proofs.fill.fill_arc.Goals as goal

-- the first three numbers, with as many behind them as are left
module _ {intervals : ℕ} {held : Bool} {text : List ℕ} {at : ℕ} (fills : ArcFills intervals held text at) {tail : Field} (t : tail ≡ taken_at text at) where
  abbrev rest : ℕ
  rest = intervals + cond held 1 0

  tail_took : Taking text at (suc (suc rest)) tail
  tail_took = taking _ _ _ _ t (arc_starts fills)

  module _ {head : Field} (h : head ≡ taken_at text tail.next) where
    head_took : Taking text tail.next (suc rest) head
    head_took = taking _ _ _ _ h tail_took.still_fill

    arc_took : {metres : Field} → metres ≡ taken_at text head.next → ArcTaken rest text at tail head metres
    arc_took m = arc_taken _ _ _ _ _ _ tail_took head_took (taking _ _ _ _ m head_took.still_fill)

-- the hold is the first of the numbers behind the speeds
hold_is : {rest : ℕ} {text : List ℕ} {at : ℕ} {tail head metres : Field} (intervals next : ℕ) → numbers_from text next ≡ drop intervals (numbers_from text metres.next) →
    ArcTaken rest text at tail head metres → get_or (numbers_from text next) 0 0 ≡ get_or (drop 3 (numbers_from text at)) intervals 0
hold_is {text = text} {at = at} intervals next left arc =
    let zeroth : intervals + 0 ≡ intervals = omega arith in
    ap (λ numbers. get_or numbers 0 0) (left ∙ ap (drop intervals) arc.speeds_are)
    ∙ get_or-drop intervals (drop 3 (numbers_from text at)) 0 0
    ∙ ap (λ k. get_or (drop 3 (numbers_from text at)) k 0) zeroth

pub take_number-tail-requires : goal.take_number-tail-requires
take_number-tail-requires c =
    let asked = number_asked _ _ _ (arc_starts c.requires.arc_fills) in
    record { at_value = asked.0; ends_inside = asked.1 }

pub take_number-head-requires : goal.take_number-head-requires
take_number-head-requires c =
    let asked = number_asked _ _ _ (tail_took c.requires.arc_fills c.take_number-tail.ensures).still_fill in
    record { at_value = asked.0; ends_inside = asked.1 }

pub take_number-metres-requires : goal.take_number-metres-requires
take_number-metres-requires c =
    let asked = number_asked _ _ _ (head_took c.requires.arc_fills c.take_number-tail.ensures c.take_number-head.ensures).still_fill in
    record { at_value = asked.0; ends_inside = asked.1 }

pub overflow_cast-tables : goal.overflow_cast-tables
overflow_cast-tables c =
    let arc = arc_took c.requires.arc_fills c.take_number-tail.ensures c.take_number-head.ensures c.take_number-metres.ensures in
    record { fits = omega (arith, arc.tail_is, c.requires.arc_fills.tail_fits) }

pub overflow_cast-tables-2 : goal.overflow_cast-tables-2
overflow_cast-tables-2 c =
    let arc = arc_took c.requires.arc_fills c.take_number-tail.ensures c.take_number-head.ensures c.take_number-metres.ensures in
    record { fits = omega (arith, arc.head_is, c.requires.arc_fills.head_fits) }

pub fill_speeds-next-requires : goal.fill_speeds-next-requires
fill_speeds-next-requires c =
    let arc = arc_took c.requires.arc_fills c.take_number-tail.ensures c.take_number-head.ensures c.take_number-metres.ensures in
    let long = row_long (c.args.arc * c.args.intervals) c.args.intervals c.args.tables.now.speeds.now c.requires.room.speeds_inside in
    rw long (record { others = cond c.args.held 1 0; numbers_fill = arc.still_fill; speeds_fit = rw arc.speeds_are c.requires.arc_fills.speeds_fit })

pub take_hold-hold-requires : goal.take_hold-hold-requires
take_hold-hold-requires c =
    let arc = arc_took c.requires.arc_fills c.take_number-tail.ensures c.take_number-head.ensures c.take_number-metres.ensures in
    let long = row_long (c.args.arc * c.args.intervals) c.args.intervals c.args.tables.now.speeds.now c.requires.room.speeds_inside in
    (rw long at c.fill_speeds-next.ensures.end).others_fill _ arc.still_fill

pub overflow_cast-tables-3 : goal.overflow_cast-tables-3
overflow_cast-tables-3 c =
    let arc = arc_took c.requires.arc_fills c.take_number-tail.ensures c.take_number-head.ensures c.take_number-metres.ensures in
    let long = row_long (c.args.arc * c.args.intervals) c.args.intervals c.args.tables.now.speeds.now c.requires.room.speeds_inside in
    let is = hold_is c.args.intervals _ (rw long at c.fill_speeds-next.ensures.end).numbers_left arc in
    record { fits = omega (arith, c.take_hold-hold.ensures.value, is, c.requires.arc_fills.hold_fits) }

pub returns-clause-end : goal.returns-clause-end
returns-clause-end c =
    let arc = arc_took c.requires.arc_fills c.take_number-tail.ensures c.take_number-head.ensures c.take_number-metres.ensures in
    c.take_hold-hold.ensures.end ∙ c.fill_speeds-next.ensures.end.same_end ∙ arc.same_end

pub returns-clause-tables : goal.returns-clause-tables
returns-clause-tables c =
    let arc = arc_took c.requires.arc_fills c.take_number-tail.ensures c.take_number-head.ensures c.take_number-metres.ensures in
    let start = c.args.arc * c.args.intervals in
    let speeds = c.args.tables.now.speeds.now in
    let long = row_long start c.args.intervals speeds c.requires.room.speeds_inside in
    let stored = row_stored start c.args.intervals speeds c.requires.room.speeds_inside c.fill_speeds-next.new.speeds (c.fill_speeds-next.auto.speeds ∙ long) in
    let row : c.fill_speeds-next.new.speeds ≡ take c.args.intervals (drop 3 (numbers_from c.args.text.now c.args.at)) =
    rw (long, arc.speeds_are) at c.fill_speeds-next.ensures.speeds in
    let hold = c.take_hold-hold.ensures.value ∙ hold_is c.args.intervals _ (rw long at c.fill_speeds-next.ensures.end).numbers_left arc in
    arc_written c.args.intervals c.args.arc (numbers_from c.args.text.now c.args.at) (lent_tables c.args.tables.now) arc.tail_is arc.head_is arc.metres_is hold (stored ∙ ap (sets speeds start) row)
