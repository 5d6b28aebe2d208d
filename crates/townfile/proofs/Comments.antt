-- Comments change nothing: a text's lines are its own, and with comments among them they say the same once comments are left out.
use Prim.Native.Nat.{ℕ, ◌≤◌}
use mathlib.Core.Path.{◌≡◌, refl, sym, ap, ◌∙◌}
use mathlib.Core.Bool.{Bool}
use mathlib.Core.List.{List, [], ◌∷◌, append_cancel_right}
use native.Mathlib.Omega.{arith}
use lib.ListN.{length, length-append}
use Rattle.townfile.specs.Bytes.{line_feed, pieces}
use Rattle.townfile.specs.Grammar.{Town, Each, Line, TN, FN, JN, AR, CM, Reads, ReadsAll, no_lines, reads_line, joined, without_comments, Describes, Unbroken}
use Rattle.townfile.specs.Grammar.{Commented, nothing_added, kept_line, added_comment}
use Rattle.townfile.specs.Lines.{mark_cm}
use Rattle.townfile.specs.Tables.{CommentsChangeNothing}
use Rattle.townfile.proofs.Joined.{joined_pieces}
use Rattle.townfile.proofs.Described.{all_unbroken}
use Rattle.townfile.proofs.LineForm.{reads_mark, comment_alike, reads_unbroken}
use Rattle.townfile.proofs.Says.{mark_of_says}

joined_once : (lines lines' : List (List ℕ)) → Each Unbroken lines → Each Unbroken lines' → joined lines ≡ joined lines' → lines ≡ lines'
joined_once lines lines' unbroken unbroken' e =
    append_cancel_right lines lines' ([] ∷ []) (sym (joined_pieces lines unbroken) ∙ ap (pieces line_feed) e ∙ joined_pieces lines' unbroken')

joined_shorter : {lines more : List (List ℕ)} → Commented lines more → length (joined lines) ≤ length (joined more)
unfolding joined
joined_shorter nothing_added = omega arith
joined_shorter (kept_line unbroken commented) = rw (length-append, length-append) (omega (arith, joined_shorter commented))
joined_shorter (added_comment reads short commented) = rw length-append (omega (arith, joined_shorter commented))

same_behind : (says : Line) (say say' : List Line) → without_comments say ≡ without_comments say' → without_comments (says ∷ say) ≡ without_comments (says ∷ say')
unfolding without_comments
same_behind (TN junctions intervals) say say' e = rw e
same_behind (FN fences) say say' e = rw e
same_behind (JN named) say say' e = rw e
same_behind (AR arc) say say' e = rw e
same_behind CM say say' e = e

-- Lines that say a given list once comments are left out.
record SayAs (held : Bool) (lines : List (List ℕ)) (said : List Line) : Type 0 where
  say : List Line
  reads : ReadsAll held lines say
  same : without_comments say ≡ said

next_says : {held : Bool} {line : List ℕ} {lines : List (List ℕ)} (says : Line) (say : List Line) → length line ≤ 700 → Reads held line says →
    SayAs held lines (without_comments say) → SayAs held (line ∷ lines) (without_comments (says ∷ say))
next_says says say short reads later = record { say = says ∷ later.say; reads = reads_line short reads later.reads; same = same_behind says later.say say later.same }

comments_added : {held : Bool} {lines more : List (List ℕ)} {say : List Line} → Commented lines more → ReadsAll held lines say → SayAs held more (without_comments say)
unfolding without_comments
comments_added nothing_added no_lines = record { say = []; reads = no_lines; same = refl }
comments_added (kept_line unbroken commented) (reads_line {says = says} {say = say} short reads all) = next_says says say short reads (comments_added commented all)
comments_added {say = say} (added_comment reads short commented) all = next_says CM say short (comment_alike reads) (comments_added commented all)

both_unbroken : {lines more : List (List ℕ)} → Commented lines more → Each Unbroken lines × Each Unbroken more
unfolding Each
both_unbroken nothing_added = (tt, tt)
both_unbroken (kept_line unbroken commented) = let later = both_unbroken commented in ((unbroken, later.0), (unbroken, later.1))
both_unbroken (added_comment reads short commented) = let later = both_unbroken commented in (later.0, (reads_unbroken reads, later.1))

comment_says : (says : Line) → mark_of_says says ≡ mark_cm → says ≡ CM
comment_says (TN junctions intervals) e = absurd (omega arith)
comment_says (FN fences) e = absurd (omega arith)
comment_says (JN named) e = absurd (omega arith)
comment_says (AR arc) e = absurd (omega arith)
comment_says CM e = refl

comments_dropped : {held : Bool} {lines more : List (List ℕ)} {say : List Line} → Commented lines more → ReadsAll held more say → SayAs held lines (without_comments say)
unfolding without_comments
comments_dropped nothing_added no_lines = record { say = []; reads = no_lines; same = refl }
comments_dropped (kept_line unbroken commented) (reads_line {says = says} {say = say} short reads all) = next_says says say short reads (comments_dropped commented all)
comments_dropped (added_comment comment few commented) (reads_line {says = says} {say = say} short reads all) =
    let silent : says ≡ CM = comment_says says (sym (reads_mark reads) ∙ reads_mark comment) in
    rw silent (comments_dropped commented all)

-- A text of other lines that say the same describes the same town.
same_town : {held : Bool} {lines lines' : List (List ℕ)} {T : Town} → Each Unbroken lines →
    ((say : List Line) → ReadsAll held lines say → SayAs held lines' (without_comments say)) →
    length (joined lines') ≤ 65536 → Describes (joined lines) held T → Describes (joined lines') held T
same_town {lines = lines} {lines'} unbroken told short described =
    let own = joined_once described.lines lines (all_unbroken described.each_reads) unbroken (sym described.in_lines) in
    let others = told described.say (rw own at described.each_reads) in
    record {
      short_enough = short;
      lines = lines';
      in_lines = refl;
      say = others.say;
      each_reads = others.reads;
      in_order = others.same ∙ described.in_order;
      kept = described.kept;
    }

pub comments_change_nothing : CommentsChangeNothing
comments_change_nothing lines more commented short held T = (
  same_town (both_unbroken commented).0 (λ say. comments_added commented) short,
  same_town (both_unbroken commented).1 (λ say. comments_dropped commented) (omega (arith, joined_shorter commented)),
)
