-- A text describes a town exactly where it has no fault: the pieces of the text are its lines, what they say is legal, and legal lines
-- are those of a town that keeps its limits.
use Prim.Native.Nat.{ℕ}
use mathlib.Core.Path.{◌≡◌, refl, sym, ap, ◌∙◌}
use mathlib.Core.Bool.{Bool, true, false, cond}
use mathlib.Core.List.{List, [], ◌∷◌, ◌++◌}
use native.Mathlib.Omega.{arith}
use lib.Dec.{ltb}
use lib.ListN.{length, get_or}
use borrow.Author.Tests.{ltb-false, le-ltb}
use Rattle.model.proofs.NetworkRules.{accepts_when_kept}
use Rattle.townfile.specs.Bytes.{line_feed, pieces}
use Rattle.townfile.specs.Grammar.{Bytes, Town, network_of, Each, ReadsAll, no_lines, reads_line, Line, joined, lines_in_order, Describes, Unbroken}
use Rattle.townfile.specs.FirstFault.{Reading, refused_at, accepted, start, lines_from, first_fault}
use Rattle.townfile.specs.Tables.{town_in, town_of, DescribesWhenFaultless, OneTown, DescribedIsAccepted}
use Rattle.townfile.specs.declared.progress.Progress.{Progress}
use Rattle.townfile.proofs.Pieces.{pieces_next}
use Rattle.townfile.proofs.Joined.{joined_pieces, pieces_joined, joined_bytes}
use Rattle.townfile.proofs.Order.{after_all, sayings, accepted_ends, accepted_legal, legal_accepted}
use Rattle.townfile.proofs.Kept.{parts_kept, kept_parts}
use Rattle.townfile.proofs.Turns.{commented_legal, after_commented, legal_town, town_legal, town_counted}
use Rattle.townfile.proofs.Gathered.{town_said_law, town_counts_said, town_per_interval, counts_given, lines_give}
use Rattle.townfile.proofs.LineForm.{reads_unbroken}

not_too_long : (test : Bool) (rest : Reading Progress) (p : Progress) → cond test (refused_at 20 0) rest ≡ accepted p → (test ≡ false) × (rest ≡ accepted p)
not_too_long true rest p e = absurd (let z : ◌≡◌ {A = ℕ} 0 1 = cc in omega arith)
not_too_long false rest p e = (refl, e)

pub all_unbroken : {held : Bool} {lines : List (List ℕ)} {say : List Line} → ReadsAll held lines say → Each Unbroken lines
unfolding Each
all_unbroken no_lines = tt
all_unbroken (reads_line short reads all) = (reads_unbroken reads, all_unbroken all)

-- ---- From a town to its text

described_pieces : {text : List ℕ} {held : Bool} {T : Town} (described : Describes text held T) → pieces line_feed text ≡ described.lines ++ ([] ∷ [])
described_pieces described = rw described.in_lines (joined_pieces described.lines (all_unbroken described.each_reads))

pub described_faultless : {text : List ℕ} {held : Bool} {T : Town} → Describes text held T → first_fault text ≡ accepted (after_all held start (lines_in_order T))
unfolding first_fault
described_faultless {text} {held} {T} described =
    let legal = commented_legal held start described.say (rw described.in_order (town_legal held T (kept_parts described.kept))) in
    let read = legal_accepted held start 1 described.each_reads legal in
    rw (le-ltb 65536 (length text) described.short_enough, described_pieces described, read, after_commented held start described.say, described.in_order)

-- The second number of the beginning is the count of the town's intervals.
pub described_intervals : {text : List ℕ} {held : Bool} {T : Town} → Describes text held T → get_or (town_in (pieces line_feed text)) 1 0 ≡ length T.fences
described_intervals {T = T} described =
    ap (λ lines. get_or (town_in lines) 1 0) (described_pieces described)
    ∙ ap (λ numbers. get_or numbers 1 0) (counts_given described.each_reads ∙ town_counts_said described.say T described.in_order)

pub described_town : {text : List ℕ} {held : Bool} {T : Town} → Describes text held T → town_of text ≡ T
unfolding town_of
described_town {text} {T = T} described =
    let per = town_per_interval described.say T described.in_order described.kept.speeds_per_interval in
    rw (described_intervals described, described_pieces described)
    (lines_give (length T.fences) described.each_reads per ∙ town_said_law described.say T described.in_order)

-- ---- From a text to its town

pub faultless_described : {text : List ℕ} {p : Progress} → Bytes text → first_fault text ≡ accepted p → (T : Town) × Describes text p.held T
unfolding first_fault
faultless_described {text} {p} bytes e =
    let parts = not_too_long (ltb 65536 (length text)) (lines_from start 1 (pieces line_feed text)) p e in
    let ends = accepted_ends start p 1 _ _ (rw (pieces_next line_feed text) at parts.1) in
    let lines = ends.0 in
    let in_pieces : pieces line_feed text ≡ lines ++ ([] ∷ []) = pieces_next line_feed text ∙ ends.1 in
    let in_lines : text ≡ joined lines = pieces_joined text lines in_pieces in
    let legal = accepted_legal start p 1 lines (joined_bytes lines (rw in_lines at bytes)) (rw in_pieces at parts.1) in
    let town = legal_town p.held (sayings start lines) legal.1 in (
      town.0,
      record {
        short_enough = ltb-false 65536 (length text) parts.0;
        lines = lines;
        in_lines = in_lines;
        say = sayings start lines;
        each_reads = legal.0;
        in_order = town.1;
        kept = parts_kept {T = town.0} town.2;
      },
    )

pub describes_when_faultless : DescribesWhenFaultless
describes_when_faultless text bytes held T = (
  (λ described. ((after_all held start (lines_in_order T), described_faultless described, (town_counted held T).form_is), described_town described)),
  (λ faultless.
      let (p, accepts, form) = faultless.0 in
      let found = faultless_described bytes accepts in
      let same : found.0 ≡ T = sym (described_town found.1) ∙ faultless.1 in
      rw (same, form) at found.1),
)

-- The form is that of the progress in the end.
described_form : {text : List ℕ} {held : Bool} {T : Town} {p : Progress} → Describes text held T → first_fault text ≡ accepted p → p.held ≡ held
described_form {held = held} {T} {p} described e =
    let same : accepted p ≡ accepted (after_all held start (lines_in_order T)) = sym e ∙ described_faultless described in
    let is : p ≡ after_all held start (lines_in_order T) = cc in
    ap (λ p. p.held) is ∙ (town_counted held T).form_is

pub one_town : OneTown
one_town text held held' T T' described described' = (
  sym (described_form described (described_faultless described)) ∙ described_form described' (described_faultless described),
  sym (described_town described) ∙ described_town described',
)

pub described_is_accepted : DescribedIsAccepted
described_is_accepted text held T described = (accepts_when_kept (network_of T)).1 described.kept.network_accepted
