-- In a network that the check accepts, a sheet into buffers of the right length is refused only with 9, 30 and 10, and no junction
-- counts more departures than the list has. One departure too many is refused as any more are.
use Prim.Native.Nat.{ℕ, zero, suc, ◌+◌, ◌*◌, ◌≤◌, ◌<◌}
use mathlib.Core.Path.{◌≡◌, sym, ap, ◌∙◌}
use mathlib.Core.Bool.{Bool, true, false, cond}
use mathlib.Core.Logic.{inl, inr}
use mathlib.Core.List.{List, [], ◌∷◌, ◌++◌, append_assoc}
use native.Mathlib.Omega.{arith}
use lib.Dec.{eqb}
use lib.ListN.{length, take, length-append, length-map}
use lib.Seq.{get_or-take, length-take-le, take_all}
use borrow.Author.Tests.{eq-eqb}
use Rattle.model.specs.Demands.{label}
use Rattle.model.specs.Network.{Network, Accepted}
use Rattle.model.specs.Parties.{brigade}
use Rattle.model.specs.NetworkRules.{network_check_lem}
use Rattle.model.specs.Rules.{refused, replied, first_broken}
use Rattle.model.specs.Ticks.{never}
use Rattle.model.proofs.NetworkRules.{accepts_when_kept}
use Rattle.checking.specs.ClosedNetwork.{closed_network_rules}
use Rattle.checking.proofs.QuestionRules.{open_kept}
use Rattle.model.proofs.Rules.{kept_before, refused_before, kept_replies, replies_kept}
use Rattle.model.proofs.Tests.{ltb_cases}
use Rattle.townfile.specs.FirstFault.{refused_at, accepted, first_fault}
use Rattle.sheeting.specs.Figures.{reaching, journey, journeys, four_of, figures_from, figures_of, figure_in}
use Rattle.sheeting.specs.Sheet.{ShiftTaken, shift_rules, sheet_buffer_rules, sheet_answer, sheet_figures_after}
use Rattle.sheeting.proofs.Means.{figure_is}
use Rattle.sheeting.proofs.SheetRules.{sheet_replies_when_sheetable}
use Rattle.sheet_text.proofs.Listed.{too_many_listed}
use Rattle.question_line.specs.Answers.{at_line_zero, unless_faulty, in_town}
use Rattle.sheet_text.specs.Answer.{sheet_in, network_sheet_lem, town_sheet_lem, sheet_lines}
use Rattle.sheet_text.specs.Code.Parts.{LinesFit}
use Rattle.sheet_text.proofs.LineByLine.{lines_of_part}

-- ---- The figures of a network

module _ (N : Network) (source : ℕ) (departures : List ℕ) where
  figures_from_long : (j k : ℕ) → length (figures_from N source departures j k) ≡ 4 * k
  unfolding figures_from
  figures_from_long j zero = omega arith
  figures_from_long j (suc k) =
      omega (arith, length-append (four_of (journeys N source j departures)) (figures_from N source departures (suc j) k), figures_from_long (suc j) k)

  pub figures_long : length (figures_of N source departures) ≡ 4 * N.junctions
  unfolding figures_of
  figures_long = figures_from_long 0 N.junctions

  reaching_few : (j : ℕ) (listed : List ℕ) → length (reaching N source j listed) ≤ length listed
  unfolding reaching
  reaching_few j [] = omega arith
  reaching_few j (departure ∷ listed) = go (eqb (label N source departure j) never) (reaching_few j listed)
    where
      go : (unreached : Bool) → length (reaching N source j listed) ≤ length listed →
          length (cond unreached (reaching N source j listed) (departure ∷ reaching N source j listed)) ≤ suc (length listed)
      go true few = omega arith
      go false few = omega arith

  count_short : (j : ℕ) → j < N.junctions → figure_in (figures_of N source departures) j 0 ≤ length departures
  count_short j h =
      rw (figure_is N source departures j 0 h (omega arith))
      (omega (arith, length-map (reaching N source j departures) (journey N source j), reaching_few j departures))

-- ---- What the sheet answers

module _ (N : Network) (source : ℕ) (departures : List ℕ) (checked : network_check_lem N ≡ replied tt) where
  keeps : Accepted N
  keeps = (accepts_when_kept N).0 checked

  pub few_junctions : N.junctions ≤ 200
  few_junctions = keeps.junctions_fit

  module _ (none : N.closures ≡ []) (labels figures : List ℕ) (labels_long : length labels ≡ length departures * N.junctions)
      (figures_long : length figures ≡ 4 * N.junctions) where
    shift_only : sheet_answer N brigade source departures labels figures ≡ first_broken (shift_rules N source departures) tt
    unfolding sheet_answer first_broken
    shift_only =
        let buffers = sheet_buffer_rules N departures labels figures in
        let shift = shift_rules N source departures in
        let network-kept = kept_before (closed_network_rules N brigade) (shift ++ buffers) tt (open_kept N none keeps) in
        let labels-kept = eq-eqb (length labels) (length departures * N.junctions) labels_long in
        let figures-kept = eq-eqb (length figures) (4 * N.junctions) figures_long in
        ap (λ rules. first_broken rules tt) (append_assoc (closed_network_rules N brigade) shift buffers) ∙ network-kept ∙ rw (labels-kept, figures-kept)

    pub sheet_refused : {number : ℕ} → refused number ≡ sheet_answer N brigade source departures labels figures → network_sheet_lem N source departures ≡ refused_at number 0
    unfolding network_sheet_lem
    sheet_refused {number} e = ap at_line_zero (refused_before (shift_rules N source departures) [] tt (sheet_in N source departures) number (sym (e ∙ shift_only)))

    module _ (e : replied tt ≡ sheet_answer N brigade source departures labels figures) where
      pub sheet_written : network_sheet_lem N source departures ≡ accepted (sheet_in N source departures)
      unfolding network_sheet_lem
      sheet_written =
          let rules = shift_rules N source departures in
          ap at_line_zero (kept_replies rules (sheet_in N source departures) (replies_kept rules tt tt (sym (e ∙ shift_only))))

      taken : ShiftTaken N source departures
      taken = ((sheet_replies_when_sheetable N brigade source departures labels figures).0 (sym e)).1.taken

      -- The table that then starts with the figures.
      module _ (table : List ℕ) (long : 4 * N.junctions ≤ length table) (starts : take (4 * N.junctions) table ≡ sheet_figures_after N brigade source departures labels figures) where
        starts_with : take (4 * N.junctions) table ≡ figures_of N source departures
        starts_with = starts ∙ rw (← e, none)

        pub sheet_fits : LinesFit N.junctions table
        sheet_fits = record { few = few_junctions; long = long; counts_short = short }
          where
            short : (j : ℕ) → j < N.junctions → figure_in table j 0 < 100
            short j h =
                let entry = get_or-take (4 * N.junctions) table (4 * j + 0) 0 (omega arith) in
                let same = ap (λ figures. figure_in figures j 0) starts_with in
                omega (arith, entry, same, count_short N source departures j h, taken.at_most)

        pub sheet_lines_law : sheet_lines table 0 N.junctions ≡ sheet_lines (figures_of N source departures) 0 N.junctions
        sheet_lines_law = lines_of_part table (4 * N.junctions) 0 N.junctions (omega arith) ∙ rw starts_with

-- ---- An overlong list

shortened : (N : Network) (source : ℕ) (departures : List ℕ) → network_sheet_lem N source (take 97 departures) ≡ network_sheet_lem N source departures
unfolding network_sheet_lem first_broken
shortened N source departures = elim (ltb_cases 97 (length departures)) [
  | inl many ↦
      let first = length-take-le 97 departures (omega (arith, many.1)) in
      let broken = too_many_listed {n = length (take 97 departures)} (omega (arith, first)) in
      let broken' = too_many_listed {n = length departures} (omega (arith, many.1)) in
      rw (broken, broken')
  | inr few ↦ rw (take_all 97 departures few.1)
]

pub shortened_in_town : (text : List ℕ) (source : ℕ) (departures : List ℕ) → town_sheet_lem text source (take 97 departures) ≡ town_sheet_lem text source departures
unfolding in_town
shortened_in_town text source departures = ap (unless_faulty (first_fault text)) (shortened _ source departures)
