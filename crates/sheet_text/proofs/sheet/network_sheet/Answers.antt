-- `sheet::network_sheet`: what the sheet refuses, or the lines of the figures that it writes.
use Prim.Native.Nat.{ℕ, ◌*◌, ◌≤◌}
use mathlib.Core.Path.{◌≡◌, refl, sym, ap, ◌∙◌}
use mathlib.Core.List.{List, []}
use native.Mathlib.Nat.{mul-le-mul}
use native.Mathlib.Omega.{arith}
use lib.ListN.{length, take, replicate, length-replicate}
use lib.Seq.{length-take-le}
use Rattle.model.specs.Network.{Network}
use Rattle.model.specs.NetworkRules.{network_check_lem}
use Rattle.model.specs.Parties.{brigade}
use Rattle.model.specs.Rules.{Outcome, refused, replied}
use Rattle.townfile.specs.FirstFault.{refused_at, accepted}
use Rattle.refusals.specs.Answers.{outcome_of}
use Rattle.sheeting.specs.Sheet.{sheet_answer, sheet_figures_after}
use Rattle.sheet_text.specs.Answer.{sheet_in, network_sheet_lem, sheet_lines, lines_of}
use Rattle.sheet_text.specs.Code.Parts.{LinesFit}
use Rattle.sheet_text.proofs.Networks.{few_junctions, sheet_refused, sheet_written, sheet_fits, sheet_lines_law}
use Rattle.sheet_text.proofs.sheet.network_sheet.Goals as goal

pub sheet_parts-requires : goal.sheet_parts-requires
sheet_parts-requires c =
    record {
      few_junctions = few_junctions _ c.args.source c.args.departures.now c.requires.speeds_value;
      few_departures = c.requires.departures_len_bound;
      labels_long = omega (arith, length-replicate {A = ℕ} 19400 0);
      figures_long = omega (arith, length-replicate {A = ℕ} 800 0);
    }

-- The parts that the sheet is lent, of a network with no closures.
module _ (N : Network) (source : ℕ) (departures : List ℕ) (checked : network_check_lem N ≡ replied tt) (none : N.closures ≡ []) (few : length departures ≤ 97) where
  abbrev labels : List ℕ
  labels = take (length departures * N.junctions) (replicate 19400 0)

  abbrev figures : List ℕ
  figures = take (4 * N.junctions) (replicate 800 0)

  junctions_few : N.junctions ≤ 200
  junctions_few = few_junctions N source departures checked

  labels_long : length labels ≡ length departures * N.junctions
  labels_long = length-take-le _ (replicate 19400 0) (rw (length-replicate {A = ℕ} 19400 0) (mul-le-mul few junctions_few))

  figures_long : length figures ≡ 4 * N.junctions
  figures_long = length-take-le _ (replicate 800 0) (rw (length-replicate {A = ℕ} 800 0) (omega (arith, junctions_few)))

  abbrev answer : Outcome (Unit {0})
  answer = sheet_answer N brigade source departures labels figures

  refuses : {number : ℕ} → refused number ≡ answer → network_sheet_lem N source departures ≡ refused_at number 0
  refuses e = sheet_refused N source departures checked none labels figures labels_long figures_long e

  -- Where it has written, the figures stand at the table's start.
  module _ (e : replied tt ≡ answer) (table : List ℕ) (long : length table ≡ 800)
      (starts : take (4 * N.junctions) table ≡ sheet_figures_after N brigade source departures labels figures) where
    room : 4 * N.junctions ≤ length table
    room = omega (arith, junctions_few, long)

    fits : LinesFit N.junctions table
    fits = sheet_fits N source departures checked none labels figures labels_long figures_long e table room starts

    answers : network_sheet_lem N source departures ≡ accepted (sheet_in N source departures)
    answers = sheet_written N source departures checked none labels figures labels_long figures_long e

    lines : sheet_lines table 0 N.junctions ≡ lines_of (sheet_in N source departures)
    lines = sheet_lines_law N source departures checked none labels figures labels_long figures_long e table room starts

pub returns-in-Err : goal.returns-in-Err
returns-in-Err c =
    rw (refuses _ c.args.source c.args.departures.now c.requires.speeds_value refl c.requires.departures_len_bound
    (ap outcome_of (sym c.in-Err.is) ∙ c.sheet_parts.ensures.answer))
    c.refuse.ensures

pub put_sheet-requires : goal.put_sheet-requires
put_sheet-requires c =
    fits _ c.args.source c.args.departures.now c.requires.speeds_value refl c.requires.departures_len_bound
    (ap outcome_of (sym c.in-Ok.is) ∙ c.sheet_parts.ensures.answer) c.sheet_parts.new.figures (omega arith) c.sheet_parts.ensures.figures

pub returns-in-Ok : goal.returns-in-Ok
returns-in-Ok c =
    let written = ap outcome_of (sym c.in-Ok.is) ∙ c.sheet_parts.ensures.answer in
    let long : length c.sheet_parts.new.figures ≡ 800 = omega arith in
    let same = answers _ c.args.source c.args.departures.now c.requires.speeds_value refl c.requires.departures_len_bound written
    c.sheet_parts.new.figures long c.sheet_parts.ensures.figures in
    let lines-are = lines _ c.args.source c.args.departures.now c.requires.speeds_value refl c.requires.departures_len_bound written
    c.sheet_parts.new.figures long c.sheet_parts.ensures.figures in
    rw same (rw lines-are at c.put_sheet.ensures)
