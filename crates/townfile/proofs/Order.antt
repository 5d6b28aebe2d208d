-- What lines say one after another: a list of values is a legal continuation of a progress where each is in its turn, matches the
-- counts and keeps its limits. Reading lines is accepted exactly where what they say is legal.
use Prim.Native.Nat.{ℕ, suc, ◌≤◌, ◌<◌}
use mathlib.Core.Path.{◌≡◌, refl, sym, ap, ◌∙◌, subst}
use mathlib.Core.Bool.{Bool, true, false, cond, ◌&&◌}
use mathlib.Core.List.{List, [], ◌∷◌, ◌++◌}
use native.Mathlib.Omega.{arith}
use lib.Dec.{leb, ltb, eqb}
use lib.ListN.{length}
use borrow.Author.Tests.{not-false, ltb-true, ltb-false, eqb-true, le-ltb, ne_eqb}
use Rattle.model.specs.Limits.{max_arcs, max_intervals}
use Rattle.model.specs.NetworkRules.{junctions_keep}
use Rattle.model.specs.Rules.{Outcome, refused, replied, every, fences_keep_lem, length_keeps_lem, speed_keeps, hold_keeps}
use Rattle.model.proofs.Rules.{true_both, kept_replies, replies_kept}
use Rattle.townfile.specs.Grammar.{Bytes, Arc, Each, Line, TN, FN, JN, AR, CM, Reads, ReadsAll, no_lines, reads_line}
use Rattle.townfile.specs.Lines.{mark_tn, mark_ar, begins_held, mark_of, by_mark, known, town_due, in_turn, numbers_of, form_keeps, junction_keeps_lem, ends_differ, values_keep, line_rules}
use Rattle.townfile.specs.Lines.{after_town_lem, after_fences_lem, after_junction, after_arc_lem, line_read, line_answer}
use Rattle.townfile.specs.LineFaults.{CountsMatch, town_mark, fences_mark, junction_mark, arc_mark, comment_mark}
use Rattle.townfile.specs.FirstFault.{refused_at, accepted, at_end, onward, lines_from}
use Rattle.townfile.specs.declared.progress.Progress.{Progress}
use Rattle.townfile.proofs.Says.{says_of, mark_of_says}
use Rattle.townfile.proofs.LineForm.{form_reads, form_counts, reads_says, reads_mark, reads_begins, reads_form, says_mark}
use Rattle.townfile.proofs.Marks.{known_mark}

-- ---- A legal continuation

-- The limits of what a line says.
abbrev pub said_keeps : Progress → Line → Bool
said_keeps p (TN junctions intervals) = junctions_keep junctions && ltb 0 intervals && leb intervals max_intervals
said_keeps p (FN fences) = fences_keep_lem fences
said_keeps p (JN named) = junction_keeps_lem p named.number
said_keeps p (AR arc) =
    ends_differ p.junctions arc.tail arc.head && length_keeps_lem arc.metres && every speed_keeps arc.speeds && hold_keeps arc.hold && ltb p.arcs max_arcs
said_keeps p CM = true

-- The limits of an arc, one by one.
pub arc_limits : (p : Progress) (arc : Arc) → said_keeps p (AR arc) ≡ true →
    (ends_differ p.junctions arc.tail arc.head ≡ true) × (length_keeps_lem arc.metres ≡ true) × (every speed_keeps arc.speeds ≡ true) × (hold_keeps arc.hold ≡ true)
    × (p.arcs < max_arcs)
arc_limits p arc e =
    let ends = ends_differ p.junctions arc.tail arc.head in
    let metres = length_keeps_lem arc.metres in
    let speeds = every speed_keeps arc.speeds in
    let few = true_both (ends && metres && speeds && hold_keeps arc.hold) (ltb p.arcs max_arcs) e in
    let held = true_both (ends && metres && speeds) (hold_keeps arc.hold) few.0 in
    let driven = true_both (ends && metres) speeds held.0 in
    let first = true_both ends metres driven.0 in
    (first.0, first.1, driven.1, held.1, ltb-true p.arcs max_arcs few.1)

-- The progress after a line, in one of the forms.
abbrev pub after_said : Bool → Progress → Line → Progress
after_said held p (TN junctions intervals) = after_town_lem p held (junctions ∷ intervals ∷ [])
after_said held p (FN fences) = after_fences_lem p
after_said held p (JN named) = after_junction p named.number
after_said held p (AR arc) = after_arc_lem p
after_said held p CM = p

pub record Allowed (held : Bool) (p : Progress) (says : Line) : Type 0 where
  pub mark_in_turn : in_turn p.turn (mark_of_says says) ≡ true
  pub counts_match : CountsMatch p held says
  pub keeps : said_keeps p says ≡ true

unfoldable pub Legal : Bool → Progress → List Line → Type 0
Legal held p [] = 2 ≤ p.turn
Legal held p (says ∷ say) = Allowed held p says × Legal held (after_said held p says) say

unfoldable pub after_all : Bool → Progress → List Line → Progress
after_all held p [] = p
after_all held p (says ∷ say) = after_all held (after_said held p says) say

-- What lines say, each behind those before it.
unfoldable pub sayings : Progress → List (List ℕ) → List Line
sayings p [] = []
sayings p (line ∷ lines) = says_of p.intervals line ∷ sayings (line_read p line) lines

-- ---- What a line does is what it says

on_cond : {A B : Type 0} (f : A → B) (test : Bool) (x y : A) → f (cond test x y) ≡ cond test (f x) (f y)
on_cond f true x y = refl
on_cond f false x y = refl

on_mark : {A B : Type 0} (f : A → B) (mark : ℕ) (town fences junction arc comment other : A) →
    f (by_mark mark town fences junction arc comment other) ≡ by_mark mark (f town) (f fences) (f junction) (f arc) (f comment) (f other)
on_mark f mark town fences junction arc comment other = simp (on_cond f)

pub values_said : (p : Progress) (line : List ℕ) → said_keeps p (says_of p.intervals line) ≡ values_keep p line
unfolding says_of values_keep
values_said p line = on_mark (said_keeps p) (mark_of line) _ _ _ _ _ _

after_said_law : (p : Progress) (held : Bool) (line : List ℕ) → known (mark_of line) ≡ true → (mark_of line ≡ mark_tn → held ≡ begins_held line) →
    after_said held p (says_of p.intervals line) ≡ line_read p line
unfolding says_of line_read
after_said_law p held line mark own = elim (known_mark (mark_of line) mark) [
  | town_mark is ↦ rw (is, own is)
  | fences_mark is ↦ rw is
  | junction_mark is ↦ rw is
  | arc_mark is ↦ rw is
  | comment_mark is ↦ rw is
]

known_said : (says : Line) → known (mark_of_says says) ≡ true
known_said (TN junctions intervals) = refl
known_said (FN fences) = refl
known_said (JN named) = refl
known_said (AR arc) = refl
known_said CM = refl

-- ---- Lines

-- A line in front of others and of a last piece behind them.
pub lines_next : (p : Progress) (number : ℕ) (line : List ℕ) (lines : List (List ℕ)) (next : List ℕ) (rest : List (List ℕ)) →
    lines_from p number (line ∷ (lines ++ (next ∷ rest))) ≡ onward (line_answer p line) number (λ q. lines_from q (suc number) (lines ++ (next ∷ rest)))
unfolding lines_from
lines_next p number line [] next rest = refl
lines_next p number line (other ∷ lines) next rest = refl

at_end_law : (p q : Progress) (number : ℕ) → at_end p number ≡ accepted q → 2 ≤ p.turn
at_end_law p q number e = go (ltb p.turn 2) refl e
  where
    go : (test : Bool) → ltb p.turn 2 ≡ test → cond test (refused_at 27 number) (accepted p) ≡ accepted q → 2 ≤ p.turn
    go true t e = absurd (let z : ◌≡◌ {A = ℕ} 0 1 = cc in omega arith)
    go false t e = ltb-false p.turn 2 t

-- An accepted text ends in a line feed.
pub accepted_ends : (p q : Progress) (number : ℕ) (line : List ℕ) (lines : List (List ℕ)) → lines_from p number (line ∷ lines) ≡ accepted q →
    (front : List (List ℕ)) × (line ∷ lines ≡ front ++ ([] ∷ []))
unfolding lines_from
accepted_ends p q number [] [] e = ([], refl)
accepted_ends p q number (byte ∷ line) [] e =
    let more : eqb (length (byte ∷ line)) 0 ≡ false = ne_eqb (length (byte ∷ line)) 0 (λ z. omega arith) in
    let refusal : refused_at 21 number ≡ accepted q = rw more at e in
    absurd (let z : ◌≡◌ {A = ℕ} 0 1 = cc in omega arith)
accepted_ends p q number line (next ∷ lines) e = go (line_answer p line) (λ q'. accepted_ends q' q (suc number) next lines) e
  where
    go : (answer : Outcome Progress) →
        ((q' : Progress) → lines_from q' (suc number) (next ∷ lines) ≡ accepted q → (front : List (List ℕ)) × (next ∷ lines ≡ front ++ ([] ∷ []))) →
        onward answer number (λ q'. lines_from q' (suc number) (next ∷ lines)) ≡ accepted q → (front : List (List ℕ)) × (line ∷ next ∷ lines ≡ front ++ ([] ∷ []))
    go (refused fault) later e = absurd (let z : ◌≡◌ {A = ℕ} 0 1 = cc in omega arith)
    go (replied q') later e = let rest = later q' e in (line ∷ rest.0, rw rest.1)

-- ---- The form of a text

-- A line that is accepted behind the beginning is no other, and leaves the form as it is.
line_keeps_form : (p q : Progress) (line : List ℕ) → line_answer p line ≡ replied q → 1 ≤ p.turn → (q.held ≡ p.held) × (1 ≤ q.turn)
unfolding line_answer line_read
line_keeps_form p q line e begun =
    let kept = replies_kept (line_rules p line) (line_read p line) q e in
    let marked = not-false (known (mark_of line)) kept.1.0 in
    let turn = not-false (in_turn p.turn (mark_of line)) kept.1.1.0 in
    let same : replied q ≡ replied (line_read p line) = sym e ∙ kept_replies (line_rules p line) (line_read p line) kept in
    let is : q ≡ line_read p line = cc in
    elim (known_mark (mark_of line) marked) [
      | town_mark m ↦ absurd (omega (arith, eqb-true p.turn town_due (rw m at turn)))
      | fences_mark m ↦ rw (is, m) (refl, omega arith)
      | junction_mark m ↦ rw (is, m) (refl, begun)
      | arc_mark m ↦ rw (is, m) (refl, omega arith)
      | comment_mark m ↦ rw (is, m) (refl, begun)
    ]

form_kept : (p q : Progress) (number : ℕ) (lines : List (List ℕ)) → lines_from p number (lines ++ ([] ∷ [])) ≡ accepted q → 1 ≤ p.turn → q.held ≡ p.held
unfolding lines_from
form_kept p q number [] e begun = go (ltb p.turn 2) e
  where
    go : (test : Bool) → cond test (refused_at 27 number) (accepted p) ≡ accepted q → q.held ≡ p.held
    go true e = absurd (let z : ◌≡◌ {A = ℕ} 0 1 = cc in omega arith)
    go false e = (let same : q ≡ p = cc in ap (λ p. p.held) same)
form_kept p q number (line ∷ lines) e begun =
    go (line_answer p line) refl (λ q'. form_kept q' q (suc number) lines) (sym (lines_next p number line lines [] []) ∙ e)
  where
    go : (answer : Outcome Progress) → line_answer p line ≡ answer →
        ((q' : Progress) → lines_from q' (suc number) (lines ++ ([] ∷ [])) ≡ accepted q → 1 ≤ q'.turn → q.held ≡ q'.held) →
        onward answer number (λ q'. lines_from q' (suc number) (lines ++ ([] ∷ []))) ≡ accepted q → q.held ≡ p.held
    go (refused fault) a later e = absurd (let z : ◌≡◌ {A = ℕ} 0 1 = cc in omega arith)
    go (replied q') a later e = let kept = line_keeps_form p q' line a begun in later q' e kept.1 ∙ kept.0

-- ---- Lines that are accepted

-- A line that is accepted, where the text goes on to an end of this form.
record LineSaid (held : Bool) (p q : Progress) (line : List ℕ) : Type 0 where
  short : length line ≤ 700
  reads : Reads held line (says_of p.intervals line)
  allowed : Allowed held p (says_of p.intervals line)
  after : q ≡ after_said held p (says_of p.intervals line)
  after_line : q ≡ line_read p line

line_said : (held : Bool) (p q : Progress) (line : List ℕ) → Bytes line → line_answer p line ≡ replied q → (1 ≤ q.turn → held ≡ q.held) → LineSaid held p q line
unfolding line_answer line_read
line_said held p q line bytes e ends =
    let kept = replies_kept (line_rules p line) (line_read p line) q e in
    let marked = not-false (known (mark_of line)) kept.1.0 in
    let turn = not-false (in_turn p.turn (mark_of line)) kept.1.1.0 in
    let formed = not-false (form_keeps p line) kept.1.1.1.0 in
    let same : replied q ≡ replied (line_read p line) = sym e ∙ kept_replies (line_rules p line) (line_read p line) kept in
    let is : q ≡ line_read p line = cc in
    let own : mark_of line ≡ mark_tn → held ≡ begins_held line = λ m.
    let town : q ≡ after_town_lem p (begins_held line) (numbers_of line) = rw m at is in
    rw town at (ends (rw town (omega arith))) in
    let arc : mark_of line ≡ mark_ar → held ≡ p.held = λ m.
    let counted : q ≡ after_arc_lem p = rw m at is in
    rw counted at (ends (rw counted (omega arith))) in
    record {
      short = ltb-false 700 (length line) kept.0;
      reads = form_reads p held line (own, arc) bytes marked formed;
      allowed = record {
        mark_in_turn = rw (says_mark p.intervals line marked) at turn;
        counts_match = form_counts p held line (own, arc) marked formed;
        keeps = values_said p line ∙ not-false (values_keep p line) kept.1.1.1.1.0;
      };
      after = is ∙ sym (after_said_law p held line marked own);
      after_line = is;
    }

said_line : (held : Bool) (p : Progress) {line : List ℕ} {says : Line} → length line ≤ 700 → Reads held line says → Allowed held p says →
    line_answer p line ≡ replied (after_said held p says)
unfolding line_answer
said_line held p {line} {says} short reads allowed =
    let mark = reads_mark reads in
    let same = reads_says p reads allowed.counts_match in
    let marked : known (mark_of line) ≡ true = rw (mark, known_said says) in
    kept_replies (line_rules p line) (line_read p line) (
      le-ltb 700 (length line) short,
      (
        rw (mark, known_said says),
        (rw (mark, allowed.mark_in_turn), (rw (reads_form p reads allowed.counts_match), (rw (← (values_said p line), same, allowed.keeps), tt))),
      ),
    )
    ∙ ap replied (sym (after_said_law p held line marked (λ m. begins says reads (sym mark ∙ m)))) ∙ rw same
  where
    begins : (says : Line) → Reads held line says → mark_of_says says ≡ mark_tn → held ≡ begins_held line
    begins (TN junctions intervals) reads m = sym (reads_begins reads)
    begins (FN fences) reads m = absurd (omega arith)
    begins (JN named) reads m = absurd (omega arith)
    begins (AR arc) reads m = absurd (omega arith)
    begins CM reads m = absurd (omega arith)

pub accepted_legal : (p q : Progress) (number : ℕ) (lines : List (List ℕ)) → Each Bytes lines → lines_from p number (lines ++ ([] ∷ [])) ≡ accepted q →
    ReadsAll q.held lines (sayings p lines) × Legal q.held p (sayings p lines)
unfolding lines_from Each Legal sayings
accepted_legal p q number [] bytes e = (no_lines, at_end_law p q number e)
accepted_legal p q number (line ∷ lines) bytes e =
    go (line_answer p line) refl (λ q'. accepted_legal q' q (suc number) lines bytes.1) (sym (lines_next p number line lines [] []) ∙ e)
  where
    go : (answer : Outcome Progress) → line_answer p line ≡ answer →
        ((q' : Progress) → lines_from q' (suc number) (lines ++ ([] ∷ [])) ≡ accepted q → ReadsAll q.held lines (sayings q' lines) × Legal q.held q' (sayings q' lines)) →
        onward answer number (λ q'. lines_from q' (suc number) (lines ++ ([] ∷ []))) ≡ accepted q →
        ReadsAll q.held (line ∷ lines) (sayings p (line ∷ lines)) × Legal q.held p (sayings p (line ∷ lines))
    go (refused fault) a later e = absurd (let z : ◌≡◌ {A = ℕ} 0 1 = cc in omega arith)
    go (replied q') a later e =
        let rest = later q' e in
        let said = line_said q.held p q' line bytes.0 a (form_kept q' q (suc number) lines e) in
        let legal = subst (λ (x : Progress). Legal q.held q' (sayings x lines)) said.after_line rest.1 in (
          reads_line said.short said.reads (rw said.after_line at rest.0),
          (said.allowed, subst (λ (x : Progress). Legal q.held x (sayings (line_read p line) lines)) said.after legal),
        )

pub legal_accepted : (held : Bool) (p : Progress) (number : ℕ) {lines : List (List ℕ)} {say : List Line} → ReadsAll held lines say → Legal held p say →
    lines_from p number (lines ++ ([] ∷ [])) ≡ accepted (after_all held p say)
unfolding lines_from Legal after_all
legal_accepted held p number no_lines legal = rw (le-ltb p.turn 2 legal)
legal_accepted held p number (reads_line {bytes = line} {says = says} {lines = lines} short reads all) legal =
    lines_next p number line lines [] [] ∙ rw (said_line held p short reads legal.0) (legal_accepted held (after_said held p says) (suc number) all legal.1)
