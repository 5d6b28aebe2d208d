-- The town that lines give is the one they say: comments give nothing, and the lines of a town in order give that town.
use Prim.Native.Nat.{ℕ}
use mathlib.Core.Path.{◌≡◌, refl}
use mathlib.Core.Bool.{Bool}
use mathlib.Core.List.{List, [], ◌∷◌, ◌++◌, map, flatten, append-nil}
use lib.ListN.{length, get_or}
use Rattle.townfile.specs.Grammar.{Named, Arc, Town, Each, Line, TN, FN, JN, AR, CM, ReadsAll, no_lines, reads_line, without_comments, lines_in_order}
use Rattle.townfile.specs.Lines.{mark_ar, first_two, mark_of, numbers_of}
use Rattle.townfile.specs.Tables.{marked, town_in, fences_in, names_in, named_of, arc_of}
use Rattle.townfile.specs.declared.progress.Progress.{Progress}
use Rattle.townfile.proofs.Says.{says_of}
use Rattle.townfile.proofs.LineForm.{reads_says, reads_mark, reads_town}

-- The town of some lines' values, each put in front of what the later ones say.
unfoldable pub town_said : List Line → Town
town_said [] = record { junctions = 0; fences = []; names = []; arcs = [] }
town_said (TN junctions intervals ∷ say) = let T = town_said say in record { junctions = junctions; fences = T.fences; names = T.names; arcs = T.arcs }
town_said (FN fences ∷ say) = let T = town_said say in record { junctions = T.junctions; fences = fences ++ T.fences; names = T.names; arcs = T.arcs }
town_said (JN named ∷ say) = let T = town_said say in record { junctions = T.junctions; fences = T.fences; names = named ∷ T.names; arcs = T.arcs }
town_said (AR arc ∷ say) = let T = town_said say in record { junctions = T.junctions; fences = T.fences; names = T.names; arcs = arc ∷ T.arcs }
town_said (CM ∷ say) = town_said say

-- ---- Values in order

comments_say_nothing : (say : List Line) → town_said say ≡ town_said (without_comments say)
unfolding town_said without_comments
comments_say_nothing [] = refl
comments_say_nothing (TN junctions intervals ∷ say) = rw (comments_say_nothing say)
comments_say_nothing (FN fences ∷ say) = rw (comments_say_nothing say)
comments_say_nothing (JN named ∷ say) = rw (comments_say_nothing say)
comments_say_nothing (AR arc ∷ say) = rw (comments_say_nothing say)
comments_say_nothing (CM ∷ say) = comments_say_nothing say

arcs_said : (arcs : List Arc) → town_said (map AR arcs) ≡ record { junctions = 0; fences = []; names = []; arcs = arcs }
unfolding town_said
arcs_said [] = refl
arcs_said (arc ∷ arcs) = rw (arcs_said arcs)

names_said : (names : List Named) (arcs : List Arc) → town_said (map JN names ++ map AR arcs) ≡ record { junctions = 0; fences = []; names = names; arcs = arcs }
unfolding town_said
names_said [] arcs = arcs_said arcs
names_said (named ∷ names) arcs = rw (names_said names arcs)

pub town_said_law : (say : List Line) (T : Town) → without_comments say ≡ lines_in_order T → town_said say ≡ T
unfolding town_said
town_said_law say T e = rw (comments_say_nothing say, e, names_said T.names T.arcs, append-nil)

-- The numbers of the beginning, and the count of an arc's speeds, said by each.
unfoldable pub counts_said : List Line → List ℕ
counts_said [] = []
counts_said (TN junctions intervals ∷ say) = junctions ∷ intervals ∷ counts_said say
counts_said (FN fences ∷ say) = counts_said say
counts_said (JN named ∷ say) = counts_said say
counts_said (AR arc ∷ say) = counts_said say
counts_said (CM ∷ say) = counts_said say

unfoldable pub PerInterval : ℕ → List Line → Type 0
PerInterval n [] = Unit {0}
PerInterval n (TN junctions intervals ∷ say) = PerInterval n say
PerInterval n (FN fences ∷ say) = PerInterval n say
PerInterval n (JN named ∷ say) = PerInterval n say
PerInterval n (AR arc ∷ say) = (length arc.speeds ≡ n) × PerInterval n say
PerInterval n (CM ∷ say) = PerInterval n say

comments_count_nothing : (say : List Line) → counts_said say ≡ counts_said (without_comments say)
unfolding counts_said without_comments
comments_count_nothing [] = refl
comments_count_nothing (TN junctions intervals ∷ say) = rw (comments_count_nothing say)
comments_count_nothing (FN fences ∷ say) = comments_count_nothing say
comments_count_nothing (JN named ∷ say) = comments_count_nothing say
comments_count_nothing (AR arc ∷ say) = comments_count_nothing say
comments_count_nothing (CM ∷ say) = comments_count_nothing say

comments_per_interval : (n : ℕ) (say : List Line) → PerInterval n (without_comments say) → PerInterval n say
unfolding PerInterval without_comments
comments_per_interval n [] per = per
comments_per_interval n (TN junctions intervals ∷ say) per = comments_per_interval n say per
comments_per_interval n (FN fences ∷ say) per = comments_per_interval n say per
comments_per_interval n (JN named ∷ say) per = comments_per_interval n say per
comments_per_interval n (AR arc ∷ say) per = (per.0, comments_per_interval n say per.1)
comments_per_interval n (CM ∷ say) per = comments_per_interval n say per

arcs_count : (arcs : List Arc) → counts_said (map AR arcs) ≡ []
unfolding counts_said
arcs_count [] = refl
arcs_count (arc ∷ arcs) = arcs_count arcs

names_count : (names : List Named) (arcs : List Arc) → counts_said (map JN names ++ map AR arcs) ≡ []
unfolding counts_said
names_count [] arcs = arcs_count arcs
names_count (named ∷ names) arcs = names_count names arcs

pub town_counts_said : (say : List Line) (T : Town) → without_comments say ≡ lines_in_order T → counts_said say ≡ T.junctions ∷ length T.fences ∷ []
unfolding counts_said
town_counts_said say T e = rw (comments_count_nothing say, e, names_count T.names T.arcs)

arcs_per_interval : (n : ℕ) (arcs : List Arc) → Each (λ a. length a.speeds ≡ n) arcs → PerInterval n (map AR arcs)
unfolding PerInterval Each
arcs_per_interval n [] each = tt
arcs_per_interval n (arc ∷ arcs) each = (each.0, arcs_per_interval n arcs each.1)

names_per_interval : (n : ℕ) (names : List Named) (arcs : List Arc) → Each (λ a. length a.speeds ≡ n) arcs → PerInterval n (map JN names ++ map AR arcs)
unfolding PerInterval
names_per_interval n [] arcs each = arcs_per_interval n arcs each
names_per_interval n (named ∷ names) arcs each = names_per_interval n names arcs each

pub town_per_interval : (say : List Line) (T : Town) → without_comments say ≡ lines_in_order T →
    Each (λ a. length a.speeds ≡ length T.fences) T.arcs → PerInterval (length T.fences) say
unfolding PerInterval
town_per_interval say T e each = comments_per_interval (length T.fences) say (rw e (names_per_interval (length T.fences) T.names T.arcs each))

-- ---- Lines

abbrev pub town_from : (intervals : ℕ) → List (List ℕ) → Town
town_from intervals lines = record { junctions = get_or (town_in lines) 0 0; fences = fences_in lines; names = names_in lines; arcs = map (arc_of intervals) (marked mark_ar lines) }

pub counts_given : {held : Bool} {lines : List (List ℕ)} {say : List Line} → ReadsAll held lines say → town_in (lines ++ ([] ∷ [])) ≡ counts_said say
unfolding counts_said marked flatten mark_of first_two
counts_given no_lines = refl
counts_given (reads_line {says = TN junctions intervals} short reads all) = rw (reads_mark reads, reads_town reads, counts_given all)
counts_given (reads_line {says = FN fences} short reads all) = rw (reads_mark reads) (counts_given all)
counts_given (reads_line {says = JN named} short reads all) = rw (reads_mark reads) (counts_given all)
counts_given (reads_line {says = AR arc} short reads all) = rw (reads_mark reads) (counts_given all)
counts_given (reads_line {says = CM} short reads all) = rw (reads_mark reads) (counts_given all)

-- A progress in one of the forms, with these intervals.
abbrev behind : Bool → ℕ → Progress
behind held n = record { turn = 0; held = held; junctions = 0; intervals = n; unnamed = 0; arcs = 0 }

pub lines_give : (n : ℕ) {held : Bool} {lines : List (List ℕ)} {say : List Line} → ReadsAll held lines say → PerInterval n say →
    town_from n (lines ++ ([] ∷ [])) ≡ town_said say
unfolding town_said PerInterval marked flatten mark_of first_two says_of
lines_give n no_lines per = refl
lines_give n (reads_line {bytes = line} {says = TN junctions intervals} short reads all) per =
    rw (reads_mark reads, ← (lines_give n all per), reads_town reads)
lines_give n {held} (reads_line {bytes = line} {says = FN fences} short reads all) per =
    let said : FN (numbers_of line) ≡ FN fences = rw (reads_mark reads) at (reads_says (behind held (length fences)) reads refl) in
    let same : numbers_of line ≡ fences = cc in
    rw (reads_mark reads, ← (lines_give n all per), same)
lines_give n {held} (reads_line {bytes = line} {says = JN named} short reads all) per =
    let said : JN (named_of line) ≡ JN named = rw (reads_mark reads) at (reads_says (behind held n) reads tt) in
    let same : named_of line ≡ named = cc in
    rw (reads_mark reads, ← (lines_give n all per), ← same)
lines_give n {held} (reads_line {bytes = line} {says = AR arc} short reads all) per =
    let said : AR (arc_of n line) ≡ AR arc = rw (reads_mark reads) at (reads_says (behind held n) reads (refl, per.0)) in
    let same : arc_of n line ≡ arc = cc in
    rw (reads_mark reads, ← (lines_give n all per.1), ← same)
lines_give n (reads_line {says = CM} short reads all) per = rw (reads_mark reads) (lines_give n all per)
