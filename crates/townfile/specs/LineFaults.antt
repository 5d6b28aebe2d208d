-- What 23, 25 and 26 say of a line, in the grammar's terms: "23, no known mark; [..] 25, fields not of the form above or not of the right number;
-- 26, a field outside the network's limits, a first fence not 0, a `JN` number not below the junction count, a fence or `JN` number not rising,
-- tail equal to head, or the 641st `AR`." The tests themselves stand in Lines.
use Rattle.std.specs.Prelude.{ℕ, ◌≤◌, ◌<◌, ◌≡◌, Bool, true, List, ◌↔◌, length, get_or}
use Rattle.model.specs.Intervals.{FencesKept}
use Rattle.model.specs.Limits.{max_junctions, max_intervals, max_arcs, max_length, max_hold, max_speed}
use Rattle.townfile.specs.Grammar.{Bytes, Arc, Line, TN, FN, JN, AR, CM, Reads}
use Rattle.townfile.specs.Lines.{mark_tn, mark_fn, mark_jn, mark_ar, mark_cm, form_keeps, values_keep}
use Rattle.townfile.specs.declared.progress.Progress.{Progress}

-- The five marks, `TW` standing for `TN`.
pub data Known (mark : ℕ) : Type 0 where
  town_mark : mark ≡ mark_tn → Known mark
  fences_mark : mark ≡ mark_fn → Known mark
  junction_mark : mark ≡ mark_jn → Known mark
  arc_mark : mark ≡ mark_ar → Known mark
  comment_mark : mark ≡ mark_cm → Known mark

-- The right number of fields, after the lines before: "the fences, as many as intervals", "one speed per interval", and a hold in the new form.
abbrev pub CountsMatch : Progress → Bool → Line → Type 0
CountsMatch p held (TN junctions intervals) = Unit {0}
CountsMatch p held (FN fences) = length fences ≡ p.intervals
CountsMatch p held (JN named) = Unit {0}
CountsMatch p held (AR arc) = (held ≡ p.held) × (length arc.speeds ≡ p.intervals)
CountsMatch p held CM = Unit {0}

pub record TownWithin (junctions intervals : ℕ) : Type 0 where
  pub some_junction : 1 ≤ junctions
  pub junctions_fit : junctions ≤ max_junctions
  pub some_interval : 1 ≤ intervals
  pub intervals_fit : intervals ≤ max_intervals

pub record JunctionWithin (p : Progress) (number : ℕ) : Type 0 where
  pub below : number < p.junctions
  pub rises : p.unnamed ≤ number

pub record ArcWithin (p : Progress) (arc : Arc) : Type 0 where
  pub tail_below : arc.tail < p.junctions
  pub head_below : arc.head < p.junctions
  pub ends_are_apart : arc.tail ≡ arc.head → ⊥
  pub some_length : 1 ≤ arc.metres
  pub length_fits : arc.metres ≤ max_length
  pub hold_fits : arc.hold ≤ max_hold
  pub speed_fits : (k : ℕ) → k < length arc.speeds → get_or arc.speeds k 0 ≤ max_speed
  pub arcs_fit : p.arcs < max_arcs

-- The limits of what a line says, after the lines before.
abbrev pub WithinLimits : Progress → Line → Type 0
WithinLimits p (TN junctions intervals) = TownWithin junctions intervals
WithinLimits p (FN fences) = FencesKept fences
WithinLimits p (JN named) = JunctionWithin p named.number
WithinLimits p (AR arc) = ArcWithin p arc
WithinLimits p CM = Unit {0}

-- ---- What is proved of the tests

-- A line keeps 25 exactly where it reads, in one of the forms, as some line whose counts match.
abbrev pub FormKeptWhenReads : Type 0
FormKeptWhenReads = (p : Progress) (line : List ℕ) → Bytes line → (form_keeps p line ≡ true) ↔ ((held : Bool) × (says : Line) × Reads held line says × CountsMatch p held says)

-- Such a line keeps 26 exactly where what it says is within the limits.
abbrev pub ValuesKeptWhenWithin : Type 0
ValuesKeptWhenWithin = (p : Progress) (line : List ℕ) (held : Bool) (says : Line) → Reads held line says → CountsMatch p held says →
    (values_keep p line ≡ true) ↔ WithinLimits p says
