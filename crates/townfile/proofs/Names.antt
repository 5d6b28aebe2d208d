-- The names of a text: they rise, so the first that bears a junction's number is its only one, and none that was read is empty.
use Prim.Native.Nat.{ℕ, ◌+◌, ◌≤◌, ◌<◌}
use mathlib.Core.Path.{◌≡◌, refl, ◌∙◌}
use mathlib.Core.Bool.{Bool}
use mathlib.Core.List.{List, [], ◌∷◌}
use native.Mathlib.Omega.{arith}
use lib.ListN.{length}
use borrow.Author.Tests.{eq-eqb, ne_eqb}
use Rattle.townfile.specs.Grammar.{Named, Town, Each, Line, TN, FN, JN, AR, CM, Reads, ReadsAll, no_lines, reads_line, junction_line, Describes}
use Rattle.townfile.specs.FirstFault.{Reading, refused_at, accepted, first_fault}
use Rattle.townfile.specs.Tables.{town_of}
use Rattle.townfile.specs.Name.{if_read, name_among, name_of, NameGivesNames, NameOfNoTown}
use Rattle.townfile.specs.declared.progress.Progress.{Progress}
use Rattle.townfile.proofs.Kept.{NamesFrom, kept_parts}
use Rattle.townfile.proofs.Gathered.{town_said, town_said_law}
use Rattle.townfile.proofs.Described.{described_faultless, described_town, faultless_described}

each_so : {A : Type 0} {P Q : A → Type 0} (xs : List A) → ((x : A) → P x → Q x) → Each P xs → Each Q xs
unfolding Each
each_so [] so each = tt
each_so (x ∷ xs) so each = (so x each.0, each_so xs so each.1)

each_with : {A : Type 0} {P Q R : A → Type 0} (xs : List A) → ((x : A) → P x → Q x → R x) → Each P xs → Each Q xs → Each R xs
unfolding Each
each_with [] so each each' = tt
each_with (x ∷ xs) so each each' = (so x each.0 each'.0, each_with xs so each.1 each'.1)

-- ---- Among the names

names_found : (junctions least : ℕ) (names : List Named) → NamesFrom junctions least names → Each (λ n. (least ≤ n.number) × (name_among n.number names ≡ n.name)) names
unfolding NamesFrom Each name_among
names_found junctions least [] kept = tt
names_found junctions least (named ∷ names) kept = (
  (kept.0.1, rw (eq-eqb named.number named.number refl)),
  each_so names
      (λ n later. (omega (arith, kept.0.1, later.0), rw (ne_eqb named.number n.number (λ same. omega (arith, later.0))) later.1))
      (names_found junctions (named.number + 1) names kept.1),
)

none_found : (junction : ℕ) (names : List Named) → Each (λ n. n.number ≡ junction → ⊥) names → name_among junction names ≡ []
unfolding Each name_among
none_found junction [] others = refl
none_found junction (named ∷ names) others = rw (ne_eqb named.number junction others.0) (none_found junction names others.1)

-- ---- No name is empty

name_some : {held : Bool} {line : List ℕ} {named : Named} → Reads held line (JN named) → 0 < length named.name
name_some (junction_line number name) = name.some_byte

names_some : {held : Bool} {lines : List (List ℕ)} {say : List Line} → ReadsAll held lines say → Each (λ n. 0 < length n.name) (town_said say).names
unfolding Each town_said
names_some no_lines = tt
names_some (reads_line {says = TN junctions intervals} short reads all) = names_some all
names_some (reads_line {says = FN fences} short reads all) = names_some all
names_some (reads_line {says = JN named} short reads all) = (name_some reads, names_some all)
names_some (reads_line {says = AR arc} short reads all) = names_some all
names_some (reads_line {says = CM} short reads all) = names_some all

-- ---- Name

name_among_law : {text : List ℕ} {held : Bool} {T : Town} (junction : ℕ) → Describes text held T → name_of text junction ≡ name_among junction T.names
unfolding name_of
name_among_law junction described = rw (described_faultless described, described_town described)

pub name_gives_names : NameGivesNames
name_gives_names text held T described = record {
  each_named = each_with T.names (λ n found some. (name_among_law n.number described ∙ found.1, some))
      (names_found T.junctions 0 T.names (kept_parts described.kept).names_kept)
      (rw (town_said_law described.say T described.in_order) at (names_some described.each_reads));
  others_none = λ junction others. name_among_law junction described ∙ none_found junction T.names others;
}

pub name_of_no_town : NameOfNoTown
unfolding name_of
name_of_no_town text bytes none junction = go (first_fault text) refl
  where
    go : (reading : Reading Progress) → first_fault text ≡ reading → if_read reading (name_among junction (town_of text).names) [] ≡ []
    go (refused_at number line) r = refl
    go (accepted p) r = let found = faultless_described bytes r in absurd (none p.held found.0 found.1)
