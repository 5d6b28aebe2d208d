-- The scan line by line: what the lines from here on come to is what the text comes to. A line's 21 and 22 come before what its
-- bytes say.
use Prim.Native.Nat.{ℕ, suc, ◌+◌, ◌-◌, ◌≤◌, ◌<◌}
use mathlib.Core.Path.{◌≡◌, refl, sym, ap, ◌∙◌}
use mathlib.Core.Bool.{Bool, true, false, cond}
use mathlib.Core.Logic.{inl, inr}
use mathlib.Core.List.{List, []}
use native.Mathlib.Numerals.{add-one}
use native.Mathlib.Omega.{arith}
use lib.Dec.{ltb, eqb}
use lib.ListN.{length, drop, drop_of_length-le}
use borrow.Author.Tests.{lt-ltb, le-ltb, eq-eqb, ne_eqb}
use Rattle.model.specs.Rules.{Outcome, refused, replied, Rule, first_broken}
use Rattle.model.proofs.Rules.{kept_replies, replies_kept, refused_before}
use Rattle.model.proofs.Tests.{eqb_cases, ltb_cases}
use Rattle.townfile.specs.Bytes.{line_feed, pieces}
use Rattle.townfile.specs.Lines.{line_rules, line_read, line_answer}
use Rattle.townfile.specs.FirstFault.{refused_at, start, at_end, onward, lines_from, first_fault}
use Rattle.townfile.specs.declared.progress.Progress.{Progress}
use Rattle.townfile.proofs.Pieces.{pieces_next}
use Rattle.fields.specs.Fields.{line_from}
use Rattle.reading.specs.LineSteps.{step, step_of_line}
use Rattle.reading.specs.declared.line.LineRead.{LineRead}
use Rattle.scanning.specs.Scans.{line_keeps_lem, fault_of, unless_fault, whole_line}
use Rattle.fields.proofs.LineFrom.{line_inside}
use Rattle.scanning.proofs.RestLines.{next_lines, last_line}

replied_same : {s t : LineRead} → replied s ≡ replied t → s ≡ t
replied_same e = cc

refused_same : {Reply : Type 0} {a b : ℕ} → ◌≡◌ {A = Outcome Reply} (refused a) (refused b) → a ≡ b
refused_same e = cc

neither : {Reply : Type 0} {fault : ℕ} {reply : Reply} → refused fault ≡ replied reply → ⊥
neither e = let z : ◌≡◌ {A = ℕ} 0 1 = cc in omega arith

-- ---- A line with its line feed

module _ (p : Progress) (text : List ℕ) (at : ℕ) where
  abbrev end : ℕ
  end = at + length (line_from text at)

  -- 21 and 22 before what the line comes to.
  abbrev first_of : Bool → Bool → Outcome LineRead → Outcome LineRead
  first_of unended long outcome = cond unended (refused 21) (cond long (refused 22) outcome)

  whole_is : whole_line p text at ≡ first_of (eqb end (length text)) (ltb 700 (length (line_from text at))) (step_of_line p text at)
  unfolding whole_line
  whole_is = go (step_of_line p text at) (eqb end (length text)) refl (ltb 700 (length (line_from text at))) refl
    where
      go : (o : Outcome LineRead) (none : Bool) → eqb end (length text) ≡ none → (long : Bool) → ltb 700 (length (line_from text at)) ≡ long →
          unless_fault text at o ≡ first_of none long o
      go (refused fault) true e long l = rw e
      go (refused fault) false e true l = rw (e, l)
      go (refused fault) false e false l = rw (e, l)
      go (replied s) true e long l = rw e
      go (replied s) false e true l = rw (e, l)
      go (replied s) false e false l = rw (e, l)

  pub line_without_feed : end ≡ length text → refused 21 ≡ whole_line p text at
  line_without_feed e = rw (whole_is, eq-eqb end (length text) e)

  pub line_too_long : (end ≡ length text → ⊥) → 700 < length (line_from text at) → refused 22 ≡ whole_line p text at
  line_too_long e l = rw (whole_is, ne_eqb end (length text) e, lt-ltb 700 (length (line_from text at)) l)

  pub line_of_bytes : (end ≡ length text → ⊥) → length (line_from text at) ≤ 700 → step_of_line p text at ≡ whole_line p text at
  line_of_bytes e l = rw (whole_is, ne_eqb end (length text) e, le-ltb 700 (length (line_from text at)) l)

  pub line_faults : {fault fault' : ℕ} → refused fault ≡ step_of_line p text at → fault' ≡ fault_of text at fault → refused fault' ≡ whole_line p text at
  unfolding whole_line
  line_faults e f = ap refused f ∙ ap (unless_fault text at) e

  -- Its line feed and its length refuse the line, or leave it to its bytes.
  module _ {at_end_law : ℕ} (is : at_end_law ≡ end) where
    pub keeps_refuse : {fault : ℕ} → refused fault ≡ line_keeps_lem text at at_end_law → refused fault ≡ whole_line p text at
    keeps_refuse e = elim (eqb_cases at_end_law (length text)) [
      | inl none ↦ ap refused (refused_same (rw none.0 at e)) ∙ line_without_feed (sym is ∙ none.1)
      | inr feed ↦ elim (ltb_cases 700 (at_end_law - at)) [
        | inl long ↦ ap refused (refused_same (rw (feed.0, long.0) at e)) ∙ line_too_long (λ x. feed.1 (is ∙ x)) (omega (arith, long.1))
        | inr short ↦ absurd (neither (rw (feed.0, short.0) at e))
      ]
    ]

    pub keeps_pass : replied tt ≡ line_keeps_lem text at at_end_law → step_of_line p text at ≡ whole_line p text at
    keeps_pass e = elim (eqb_cases at_end_law (length text)) [
      | inl none ↦ absurd (neither (sym (rw none.0 at e)))
      | inr feed ↦ elim (ltb_cases 700 (at_end_law - at)) [
        | inl long ↦ absurd (neither (sym (rw (feed.0, long.0) at e)))
        | inr short ↦ line_of_bytes (λ x. feed.1 (is ∙ x)) (omega (arith, short.1))
      ]
    ]

  -- The rules of a line's bytes, and what they let through.
  abbrev bytes_rules : List Rule
  bytes_rules = drop 1 (line_rules p (line_from text at))

  abbrev bytes_reply : LineRead
  bytes_reply = step (line_read p (line_from text at)) end

  -- A line that is read ends where it ends, and its rules are kept.
  pub read_ends : {q : Progress} {at_end_law : ℕ} → replied (step q at_end_law) ≡ step_of_line p text at → (q ≡ line_read p (line_from text at)) × (at_end_law ≡ end)
  unfolding step_of_line
  read_ends {q} {at_end_law} e =
      let kept = replies_kept bytes_rules bytes_reply (step q at_end_law) (sym e) in
      let same : step q at_end_law ≡ bytes_reply = replied_same (e ∙ kept_replies bytes_rules bytes_reply kept) in
      (ap (λ s. s.progress) same, ap (λ s. s.end) same)

  -- The bytes answer the same whether the line's end is told or not.
  bytes_refuse : {fault : ℕ} → refused fault ≡ step_of_line p text at → first_broken bytes_rules (line_read p (line_from text at)) ≡ refused fault
  unfolding step_of_line
  bytes_refuse {fault} e = refused_before bytes_rules [] bytes_reply (line_read p (line_from text at)) fault (sym e)

  bytes_reply_to : {q : Progress} {at_end_law : ℕ} → replied (step q at_end_law) ≡ step_of_line p text at → first_broken bytes_rules (line_read p (line_from text at)) ≡ replied q
  unfolding step_of_line
  bytes_reply_to {q} {at_end_law} e =
      let kept = replies_kept bytes_rules bytes_reply (step q at_end_law) (sym e) in
      kept_replies bytes_rules (line_read p (line_from text at)) kept ∙ ap replied (sym (read_ends e).0)

-- ---- The lines from here on

module _ (p : Progress) (number : ℕ) (text : List ℕ) (at : ℕ) (here : at < length text) where
  abbrev left : List (List ℕ)
  left = pieces line_feed (drop at text)

  abbrev behind : List (List ℕ)
  behind = pieces line_feed (drop (at + length (line_from text at) + 1) text)

  -- The last line has no line feed.
  unended : at + length (line_from text at) ≡ length text → lines_from p number left ≡ refused_at 21 number
  unfolding lines_from
  unended e = rw (last_line text at (omega arith), lines_from, ne_eqb (length (line_from text at)) 0 (λ none. omega arith))

  ended : at + length (line_from text at) < length text → lines_from p number left ≡ onward (line_answer p (line_from text at)) number (λ q. lines_from q (suc number) behind)
  unfolding lines_from
  ended h = rw (next_lines text at h, pieces_next line_feed (drop (at + length (line_from text at) + 1) text))

  inside : (at + length (line_from text at) ≡ length text → ⊥) → at + length (line_from text at) < length text
  inside e = omega (arith, line_inside text at)

  answer_long : 700 < length (line_from text at) → line_answer p (line_from text at) ≡ refused 22
  unfolding line_answer first_broken
  answer_long l = rw (lt-ltb 700 (length (line_from text at)) l)

  answer_short : length (line_from text at) ≤ 700 → line_answer p (line_from text at) ≡ first_broken (drop 1 (line_rules p (line_from text at))) (line_read p (line_from text at))
  unfolding line_answer first_broken
  answer_short l = rw (le-ltb 700 (length (line_from text at)) l)

  -- The line's answer goes on to the lines behind it.
  goes_on : (at + length (line_from text at) ≡ length text → ⊥) → {answer : Outcome Progress} → line_answer p (line_from text at) ≡ answer →
      lines_from p number left ≡ onward answer number (λ q. lines_from q (suc number) behind)
  goes_on feed e = ended (inside feed) ∙ ap (λ answer. onward answer number (λ q. lines_from q (suc number) behind)) e

  pub scan_refused : {fault : ℕ} → refused fault ≡ whole_line p text at → refused_at fault number ≡ lines_from p number left
  scan_refused {fault} e = elim (eqb_cases (at + length (line_from text at)) (length text)) [
    | inl none ↦ rw (refused_same (e ∙ sym (line_without_feed p text at none.1))) (sym (unended none.1))
    | inr feed ↦ elim (ltb_cases 700 (length (line_from text at))) [
      | inl long ↦ rw (refused_same (e ∙ sym (line_too_long p text at feed.1 long.1))) (sym (goes_on feed.1 (answer_long long.1)))
      | inr short ↦
          (let faulty = bytes_refuse p text at (e ∙ sym (line_of_bytes p text at feed.1 short.1)) in
          sym (goes_on feed.1 (answer_short short.1 ∙ faulty)))
    ]
  ]

  pub scan_goes_on : {q : Progress} {end : ℕ} → replied (step q end) ≡ whole_line p text at →
      (end < length text) × (end ≡ at + length (line_from text at)) × (lines_from q (number + 1) (pieces line_feed (drop (end + 1) text)) ≡ lines_from p number left)
  scan_goes_on {q} {end} e = elim (eqb_cases (at + length (line_from text at)) (length text)) [
    | inl none ↦ absurd (neither (line_without_feed p text at none.1 ∙ sym e))
    | inr feed ↦ elim (ltb_cases 700 (length (line_from text at))) [
      | inl long ↦ absurd (neither (line_too_long p text at feed.1 long.1 ∙ sym e))
      | inr short ↦
          (let read : replied (step q end) ≡ step_of_line p text at = e ∙ sym (line_of_bytes p text at feed.1 short.1) in
          let ends = (read_ends p text at read).1 in
          let answer = answer_short short.1 ∙ bytes_reply_to p text at read in
          (rw ends (inside feed.1), ends, rw (ends, add-one number) (sym (goes_on feed.1 answer))))
    ]
  ]

-- ---- The end, and the whole text

pub scan_ends : (p : Progress) (number : ℕ) (text : List ℕ) (at : ℕ) → length text ≤ at → lines_from p number (pieces line_feed (drop at text)) ≡ at_end p number
unfolding lines_from pieces
scan_ends p number text at h = rw (drop_of_length-le text h)

pub text_too_long : (text : List ℕ) → 65536 < length text → refused_at 20 0 ≡ first_fault text
unfolding first_fault
text_too_long text h = rw (lt-ltb 65536 (length text) h)

pub scan_starts : (text : List ℕ) → length text ≤ 65536 → lines_from start 1 (pieces line_feed (drop 0 text)) ≡ first_fault text
unfolding first_fault
scan_starts text h = rw (le-ltb 65536 (length text) h)
