-- What a call answers and writes. A text without fault describes one town in one form, so that the three rules are asked of that town; where it
-- replies, the output begins with the conversion, and the laws of texts say what that is.
use Prim.Native.Nat.{ℕ, ◌*◌}
use mathlib.Core.Path.{◌≡◌, refl, sym, ap, ◌∙◌}
use mathlib.Core.Bool.{Bool, true, false, not, cond}
use mathlib.Core.List.{List}
use mathlib.Core.Logic.{◌↔◌}
use native.Mathlib.Omega.{arith}
use lib.ListN.{length, drop}
use lib.Seq.{take_at, drop_at}
use Rattle.model.specs.Rules.{first_broken}
use Rattle.townfile.specs.Grammar.{Bytes, Town, lines_in_order, Describes}
use Rattle.townfile.specs.FirstFault.{Reading, refused_at, accepted, start, first_fault}
use Rattle.townfile.specs.Tables.{town_of}
use Rattle.townfile.specs.Load.{counts_of, is_too_short, into_tables, load_answer}
use Rattle.townfile.specs.declared.progress.Progress.{Progress}
use Rattle.townfile.proofs.Described.{described_faultless, described_town, faultless_described}
use Rattle.townfile.proofs.FaultNumbers.{Fault, text_fault}
use Rattle.townfile.proofs.Order.{after_all}
use Rattle.townfile.proofs.Turns.{town_counted}
use Rattle.conversion.specs.Conversion.{converted, is_form_lem, is_too_long, conversion_rules, behind_faults, convert_answer, output_after, NoHoldLost, HasRoom, result_of}
use Rattle.conversion.specs.Conversion.{ConvertsLineByLine, ConvertsWhenDescribed, ConvertedDescribesSame, RoundTrip}
use Rattle.conversion.specs.Conversion.{RefusesAsLoad, RefusedOnlyBy, AlreadyWanted, LengthByArcs}
use Rattle.conversion.proofs.Lengths.{Longer}
use Rattle.conversion.proofs.Texts.{text_longer, text_changes, result_describes, text_back}
use Rattle.conversion.proofs.ThreeRules.{answer_by, by_replies, first, by_refuses, fires_refuses, fires_first, fires_least}
use Rattle.conversion.proofs.ThreeRules.{form_other, form_wanted, other_form, wanted_form}
use Rattle.conversion.proofs.ThreeRules.{hold_lost, none_lost, lost_none, has_room, room_has, fires_hindered, hindered_fires}

-- ---- The answer

module _ (wanted : Bool) (text output : List ℕ) where
  abbrev result : ℕ
  result = length (converted wanted text)

  abbrev answer_for : (already : Bool) → Town → Reading ℕ
  answer_for already T = answer_by already (hold_lost wanted T) (is_too_long result (length output)) result

  abbrev answer_behind : Reading Progress → Reading ℕ
  answer_behind reading = behind_faults reading (λ p. first_broken (conversion_rules wanted p.held (town_of text) result (length output)) result)

  described_answer : {form : Bool} {T : Town} → Describes text form T → convert_answer wanted text output ≡ answer_for (is_form_lem wanted form) T
  unfolding convert_answer
  described_answer {form} {T} described = rw (described_faultless described, (town_counted form T).form_is, described_town described)

  other_answer : {T : Town} → Describes text (not wanted) T → convert_answer wanted text output ≡ answer_for false T
  other_answer {T} described = described_answer described ∙ ap (λ already. answer_for already T) (other_form wanted)

  -- An answer that no fault of a text gives is given of a town.
  described_unless_fault : {answer : Reading ℕ} → Bytes text → convert_answer wanted text output ≡ answer →
      ((number line : ℕ) → Fault number → refused_at number line ≡ answer → ⊥) → (form : Bool) × (T : Town) × Describes text form T
  unfolding convert_answer
  described_unless_fault {answer} bytes e no-fault = go (first_fault text) refl e
    where
      go : (reading : Reading Progress) → first_fault text ≡ reading → answer_behind reading ≡ answer → (form : Bool) × (T : Town) × Describes text form T
      go (refused_at number line) r e = absurd (no-fault number line (text_fault text number line r) e)
      go (accepted p) r e = let found = faultless_described bytes r in (p.held, found.0, found.1)

  -- ---- A reply

  module _ {reply : ℕ} (replies : convert_answer wanted text output ≡ accepted reply) where
    reply_described : Bytes text → (T : Town) × Describes text (not wanted) T
    reply_described bytes =
        let (form, T, described) = described_unless_fault bytes replies (λ number line fault e. let z : ◌≡◌ {A = ℕ} 0 1 = cc in omega arith) in
        let kept = by_replies (is_form_lem wanted form) (hold_lost wanted T) (is_too_long result (length output)) result reply (sym (described_answer described) ∙ replies) in
        (T, rw (form_other wanted form kept.0) at described)

    reply_keeps : {T : Town} → Describes text (not wanted) T → NoHoldLost wanted T × HasRoom result (length output)
    reply_keeps {T} described =
        let kept = by_replies false (hold_lost wanted T) (is_too_long result (length output)) result reply (sym (other_answer described) ∙ replies) in
        (none_lost wanted T kept.1, has_room result (length output) kept.2)

    reply_is_length : reply ≡ result
    unfolding convert_answer
    reply_is_length = go (first_fault text) replies
      where
        go : (reading : Reading Progress) → answer_behind reading ≡ accepted reply → reply ≡ result
        go (refused_at number line) e = absurd (let z : ◌≡◌ {A = ℕ} 0 1 = cc in omega arith)
        go (accepted p) e = (by_replies (is_form_lem wanted p.held) (hold_lost wanted (town_of text)) (is_too_long result (length output)) result reply e).3

    result_is : result_of wanted text output reply ≡ converted wanted text
    unfolding output_after
    result_is = rw replies (take_at (converted wanted text) _ reply (sym reply_is_length))

    rest_is : drop reply (output_after wanted text output) ≡ drop reply output
    unfolding output_after
    rest_is = rw replies (drop_at (converted wanted text) _ reply (sym reply_is_length) ∙ ap (λ n. drop n output) (sym reply_is_length))

-- ---- The statements

pub converts_line_by_line : ConvertsLineByLine
converts_line_by_line wanted text output bytes reply e =
    let (T, described) = reply_described wanted text output e bytes in
    let kept = reply_keeps wanted text output e described in
    (rw (result_is wanted text output e) (text_changes wanted described kept.0), rest_is wanted text output e)

pub converts_when_described : ConvertsWhenDescribed
unfolding first_broken
converts_when_described wanted text output bytes reply = (
  (λ e.
      let (T, described) = reply_described wanted text output e bytes in
      let kept = reply_keeps wanted text output e described in
      let is = reply_is_length wanted text output e in
      ((T, described, kept.0), is, rw is kept.1)),
  (λ can.
      let (T, described, kept) = can.0 in
      other_answer wanted text output described ∙ rw (lost_none wanted T kept, ← can.1, room_has reply (length output) can.2)),
)

pub converted_describes_same : ConvertedDescribesSame
converted_describes_same wanted text output T described reply e =
    let kept = reply_keeps wanted text output e described in
    rw (result_is wanted text output e) (result_describes wanted described kept.0 kept.1.0)

pub round_trip : RoundTrip
round_trip wanted text output bytes reply e output' reply' e' =
    let result = result_of wanted text output reply in
    result_is (not wanted) result output' e' ∙ text_back wanted text result (converts_line_by_line wanted text output bytes reply e).0

same_refusal : {Reply Reply' : Type 0} {number number' line line' : ℕ} → ◌≡◌ {A = Reading Reply} (refused_at number line) (refused_at number' line') →
    ◌≡◌ {A = Reading Reply'} (refused_at number line) (refused_at number' line')
same_refusal {number = number} {number'} {line} {line'} e = let n : number ≡ number' = cc in let l : line ≡ line' = cc in rw (n, l)

pub refuses_as_load : RefusesAsLoad
unfolding convert_answer load_answer
refuses_as_load wanted text output lent number line few = go (first_fault text)
  where
    go : (reading : Reading Progress) → (answer_behind wanted text output reading ≡ refused_at number line) ↔ (into_tables reading lent ≡ refused_at number line)
    go (refused_at fault at) = (same_refusal, same_refusal)
    go (accepted p) = (
      (λ e.
          let n = length (converted wanted text) in
          let fires = (by_refuses (is_form_lem wanted p.held) (hold_lost wanted (town_of text)) (is_too_long n (length output)) n number line e).1 in
          absurd (omega (arith, fires_least fires))),
      (λ e. absurd (omega (arith, loads (is_too_short (counts_of p) lent) e))),
    )
      where
        loads : (short : Bool) → cond short (refused_at 28 0) (accepted (counts_of p)) ≡ refused_at number line → number ≡ 28
        loads true e = cc
        loads false e = absurd (let z : ◌≡◌ {A = ℕ} 0 1 = cc in omega arith)

pub refused_only_by : RefusedOnlyBy
refused_only_by wanted text output T described number line =
    let n = length (converted wanted text) in
    let answer = other_answer wanted text output described in (
      (λ e. let (at-0, fires) = by_refuses false (hold_lost wanted T) (is_too_long n (length output)) n number line (sym answer ∙ e) in (at-0, fires_hindered wanted T fires)),
      (λ why. answer ∙ fires_refuses n (hindered_fires why.1) ∙ ap (refused_at number) (sym why.0)),
    )

pub already_wanted : AlreadyWanted
already_wanted wanted text output bytes line = (
  (λ e.
      let (form, T, described) = described_unless_fault wanted text output bytes e (λ number line fault e. let same : number ≡ 33 = cc in omega arith) in
      let n = length (converted wanted text) in
      let answer = sym (described_answer wanted text output described) ∙ e in
      let (at-0, fires) = by_refuses (is_form_lem wanted form) (hold_lost wanted T) (is_too_long n (length output)) n 33 line answer in
      (at-0, (T, rw (form_wanted wanted form (fires_first fires refl)) at described))),
  (λ has. described_answer wanted text output has.1.1 ∙ fires_refuses (length (converted wanted text)) (first (wanted_form wanted)) ∙ ap (refused_at 33) (sym has.0)),
)

pub length_by_arcs : LengthByArcs
length_by_arcs text bytes p e = let found = faultless_described bytes e in (of_town found.0 found.1 true, of_town found.0 found.1 false)
  where
    of_town : (T : Town) → Describes text p.held T → (wanted : Bool) → p.held ≡ not wanted →
        Longer wanted (length text) (2 * p.arcs) (length (converted wanted text))
    of_town T described wanted other =
        let same : accepted p ≡ accepted (after_all p.held start (lines_in_order T)) = sym e ∙ described_faultless described in
        let is : p ≡ after_all p.held start (lines_in_order T) = cc in
        let counted : p.arcs ≡ length T.arcs = ap (λ p. p.arcs) is ∙ (town_counted p.held T).arcs_counted in
        rw counted (text_longer wanted (rw other at described))
