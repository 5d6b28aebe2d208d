-- Load accepts a text that describes a town where the tables are long enough: the counts that it ends with are the town's. Where they
-- are not it says 28, and of no other text, since no fault of a text has that number (`described_unless_fault`).
use Prim.Native.Nat.{ℕ, ◌*◌}
use mathlib.Core.Path.{◌≡◌, refl, sym, ap, ◌∙◌}
use mathlib.Core.Bool.{Bool, true, false, cond, ◌||◌}
use mathlib.Core.List.{List}
use native.Mathlib.Omega.{arith}
use lib.ListN.{length, length-map}
use borrow.Author.Tests.{ltb-false, le-ltb}
use Rattle.model.specs.Network.{arcs, intervals}
use Rattle.townfile.specs.Grammar.{Bytes, Town, network_of, lines_in_order, Describes}
use Rattle.townfile.specs.FirstFault.{Reading, refused_at, accepted, start, first_fault}
use Rattle.townfile.specs.Load.{Tables, counts_of, is_too_short, into_tables, load_answer, holding, tables_after, LongEnough, counts_of_town}
use Rattle.townfile.specs.declared.counts.Counts.{Counts}
use Rattle.townfile.specs.Load.{LoadAcceptsWhenDescribed, TooShortWhenDescribed}
use Rattle.townfile.specs.declared.progress.Progress.{Progress}
use Rattle.townfile.proofs.Order.{after_all}
use Rattle.townfile.proofs.Turns.{town_counted}
use Rattle.townfile.proofs.Described.{described_faultless, described_town, faultless_described}
use Rattle.townfile.proofs.FaultNumbers.{Fault, text_fault}

-- ---- Long enough

false_both : (a b : Bool) → (a || b) ≡ false → (a ≡ false) × (b ≡ false)
false_both true b e = absurd (let z : ◌≡◌ {A = ℕ} 0 1 = cc in omega arith)
false_both false b e = (refl, e)

both_false : {a b : Bool} → a ≡ false → b ≡ false → (a || b) ≡ false
both_false p q = rw (p, q)

all_false : (a b c d e f : Bool) → (a || b || c || d || e || f) ≡ false → (a ≡ false) × (b ≡ false) × (c ≡ false) × (d ≡ false) × (e ≡ false) × (f ≡ false)
all_false a b c d e f h =
    let sixth = false_both (a || b || c || d || e) f h in
    let fifth = false_both (a || b || c || d) e sixth.0 in
    let fourth = false_both (a || b || c) d fifth.0 in
    let third = false_both (a || b) c fourth.0 in
    let first = false_both a b third.0 in
    (first.0, first.1, third.1, fourth.1, fifth.1, sixth.1)

module _ (T : Town) (lent : Tables) where
  fits_long : is_too_short (counts_of_town T) lent ≡ false → LongEnough (counts_of_town T) lent
  fits_long e =
      let N = network_of T in
      let all = all_false _ _ _ _ _ _ e in
      record {
        fences_long = ltb-false (length lent.fences) (intervals N) all.0;
        tails_long = ltb-false (length lent.tails) (arcs N) all.1;
        heads_long = ltb-false (length lent.heads) (arcs N) all.2;
        lengths_long = ltb-false (length lent.lengths) (arcs N) all.3;
        holds_long = ltb-false (length lent.holds) (arcs N) all.4;
        speeds_long = ltb-false (length lent.speeds) (arcs N * intervals N) all.5;
      }

  pub long_fits : LongEnough (counts_of_town T) lent → is_too_short (counts_of_town T) lent ≡ false
  long_fits long =
      let N = network_of T in
      both_false
      (both_false
      (both_false
      (both_false
      (both_false (le-ltb (length lent.fences) (intervals N) long.fences_long) (le-ltb (length lent.tails) (arcs N) long.tails_long))
      (le-ltb (length lent.heads) (arcs N) long.heads_long))
      (le-ltb (length lent.lengths) (arcs N) long.lengths_long))
      (le-ltb (length lent.holds) (arcs N) long.holds_long))
      (le-ltb (length lent.speeds) (arcs N * intervals N) long.speeds_long)

-- ---- The counts

town_counts : (held : Bool) (T : Town) → counts_of (after_all held start (lines_in_order T)) ≡ counts_of_town T
town_counts held T =
    let counted = town_counted held T in
    rw (counted.junctions_counted, counted.intervals_counted, counted.arcs_counted, length-map T.arcs (λ a. a.tail))

-- The answer from the counts, by whether a table is too short.
abbrev answer_by : Bool → Counts → Reading Counts
answer_by short counts = cond short (refused_at 28 0) (accepted counts)

abbrev answer_for : Counts → Tables → Reading Counts
answer_for counts lent = answer_by (is_too_short counts lent) counts

answer_accepted : (short : Bool) (counts reply : Counts) → answer_by short counts ≡ accepted reply → (short ≡ false) × (reply ≡ counts)
answer_accepted true counts reply e = absurd (let z : ◌≡◌ {A = ℕ} 0 1 = cc in omega arith)
answer_accepted false counts reply e = (refl, cc)

answer_refused : (short : Bool) (counts : Counts) (number line : ℕ) → answer_by short counts ≡ refused_at number line → (short ≡ true) × (line ≡ 0)
answer_refused true counts number line e = (refl, cc)
answer_refused false counts number line e = absurd (let z : ◌≡◌ {A = ℕ} 0 1 = cc in omega arith)

-- ---- Load

pub described_answer : {text : List ℕ} {held : Bool} {T : Town} (lent : Tables) → Describes text held T → load_answer text lent ≡ answer_for (counts_of_town T) lent
unfolding load_answer
described_answer {held = held} {T} lent described = rw (described_faultless described) (ap (λ counts. answer_for counts lent) (town_counts held T))

-- An answer that no fault of a text gives is given of a town.
described_unless_fault : {text : List ℕ} (lent : Tables) {answer : Reading Counts} → Bytes text → load_answer text lent ≡ answer →
    ((number line : ℕ) → Fault number → refused_at number line ≡ answer → ⊥) → (held : Bool) × (T : Town) × Describes text held T
unfolding load_answer
described_unless_fault {text} lent {answer} bytes e no-fault = go (first_fault text) refl e
  where
    go : (reading : Reading Progress) → first_fault text ≡ reading → into_tables reading lent ≡ answer → (held : Bool) × (T : Town) × Describes text held T
    go (refused_at number line) r e = absurd (no-fault number line (text_fault text number line r) e)
    go (accepted p) r e = let found = faultless_described bytes r in (p.held, found.0, found.1)

holds_town : {text : List ℕ} {held : Bool} {T : Town} (lent : Tables) (counts : Counts) → Describes text held T → load_answer text lent ≡ accepted counts →
    tables_after text lent ≡ holding (network_of T) lent
unfolding tables_after
holds_town lent counts described e = rw (e, described_town described)

pub load_accepts_when_described : LoadAcceptsWhenDescribed
load_accepts_when_described text bytes lent counts = (
  (λ e.
      let found = described_unless_fault lent bytes e (λ number line fault e. let z : ◌≡◌ {A = ℕ} 0 1 = cc in omega arith) in
      let (held, T, described) = found in
      let answer = answer_accepted (is_too_short (counts_of_town T) lent) (counts_of_town T) counts (sym (described_answer lent described) ∙ e) in
      (held, T, described, fits_long T lent answer.0, answer.1, holds_town lent counts described e)),
  (λ loaded. described_answer lent loaded.2 ∙ rw (long_fits loaded.1 lent loaded.3, loaded.4)),
)

-- A table is too short exactly where not each is long enough.
short_not_long : (T : Town) (lent : Tables) → is_too_short (counts_of_town T) lent ≡ true → LongEnough (counts_of_town T) lent → ⊥
short_not_long T lent short long =
    let both : true ≡ false = sym short ∙ long_fits T lent long in
    let z : ◌≡◌ {A = ℕ} 0 1 = cc in
    omega arith

not_long_short : (T : Town) (lent : Tables) → (LongEnough (counts_of_town T) lent → ⊥) → is_too_short (counts_of_town T) lent ≡ true
not_long_short T lent not-long = go (is_too_short (counts_of_town T) lent) refl
  where
    go : (short : Bool) → is_too_short (counts_of_town T) lent ≡ short → short ≡ true
    go true t = refl
    go false t = absurd (not-long (fits_long T lent t))

pub too_short_when_described : TooShortWhenDescribed
too_short_when_described text bytes lent line = (
  (λ e.
      let found = described_unless_fault lent bytes e (λ number line fault e. let same : number ≡ 28 = cc in omega arith) in
      let (held, T, described) = found in
      let answer = answer_refused (is_too_short (counts_of_town T) lent) (counts_of_town T) 28 line (sym (described_answer lent described) ∙ e) in
      (answer.1, (held, T, described, short_not_long T lent answer.0))),
  (λ short. described_answer lent short.1.2 ∙ rw (not_long_short short.1.1 lent short.1.3, short.0)),
)
