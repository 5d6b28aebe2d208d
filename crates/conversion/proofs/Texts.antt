-- A whole text, line after line: of a town in the other form whose holds are not lost, each line has its step, so that the result's lines are those that
-- the plain words ask for and say the same town.
use Prim.Native.Nat.{ℕ, suc, ◌+◌, ◌*◌, ◌≤◌}
use mathlib.Core.Path.{◌≡◌, refl}
use mathlib.Core.Bool.{Bool, true, false, not, cond}
use mathlib.Core.List.{List, [], ◌∷◌, map}
use native.Mathlib.Omega.{arith}
use lib.ListN.{length, length-append}
use Rattle.model.specs.Limits.{max_junctions, max_intervals}
use Rattle.townfile.specs.Bytes.{line_feed}
use Rattle.townfile.specs.Grammar.{Arc, Town, Each, Line, TN, FN, JN, AR, CM, ReadsAll, no_lines, reads_line, joined, Describes}
use Rattle.townfile.proofs.Described.{all_unbroken}
use Rattle.townfile.proofs.Gathered.{town_said, town_said_law}
use Rattle.townfile.proofs.Kept.{ArcTested, kept_parts}
use Rattle.conversion.specs.Conversion.{converted_line, converted, LinesChange, no_more, next_line, Converts, NoHoldLost}
use Rattle.conversion.proofs.Lengths.{hold_bytes, Longer, line_longer, line_short}
use Rattle.conversion.proofs.LineSteps.{OfArc, line_step, new_of_old, old_of_new}
use Rattle.conversion.proofs.Peeled.{lines_of_joined, lines_described}

-- ---- What holds of each arc

said_arcs : (P : Arc → Type 0) (says : Line) (say : List Line) → Each P (town_said (says ∷ say)).arcs → OfArc P says × Each P (town_said say).arcs
unfolding town_said Each
said_arcs P (TN junctions intervals) say each = (tt, each)
said_arcs P (FN fences) say each = (tt, each)
said_arcs P (JN named) say each = (tt, each)
said_arcs P (AR arc) say each = each
said_arcs P CM say each = (tt, each)

arcs_more : (says : Line) (say : List Line) → 2 * length (town_said (says ∷ say)).arcs ≡ hold_bytes says + 2 * length (town_said say).arcs
unfolding town_said
arcs_more (TN junctions intervals) say = omega arith
arcs_more (FN fences) say = omega arith
arcs_more (JN named) say = omega arith
arcs_more (AR arc) say = omega arith
arcs_more CM say = omega arith

-- ---- The lines

-- No hold is lost.
abbrev Kept : (wanted : Bool) → Arc → Type 0
Kept wanted arc = wanted ≡ false → arc.hold ≡ 0

lines_change : (wanted : Bool) {lines : List (List ℕ)} {say : List Line} → ReadsAll (not wanted) lines say → Each (Kept wanted) (town_said say).arcs →
    let results = map (converted_line wanted) lines in cond wanted (LinesChange lines results) (LinesChange results lines)
lines_change true no_lines kept = no_more
lines_change false no_lines kept = no_more
lines_change true (reads_line {says = says} {say = say} short reads all) kept =
    let parts = said_arcs (Kept true) says say kept in
    next_line (line_step true reads parts.0).changes (lines_change true all parts.1)
lines_change false (reads_line {says = says} {say = say} short reads all) kept =
    let parts = said_arcs (Kept false) says say kept in
    next_line (line_step false reads parts.0).changes (lines_change false all parts.1)

module _ {junctions intervals : ℕ} (junctions_fit : junctions ≤ max_junctions) (intervals_fit : intervals ≤ max_intervals) where
  lines_read : (wanted : Bool) {lines : List (List ℕ)} {say : List Line} → ReadsAll (not wanted) lines say → Each (Kept wanted) (town_said say).arcs →
      Each (ArcTested junctions intervals) (town_said say).arcs → ReadsAll wanted (map (converted_line wanted) lines) say
  lines_read wanted no_lines kept tested = no_lines
  lines_read wanted (reads_line {says = says} {say = say} short reads all) kept tested =
      let unheld = said_arcs (Kept wanted) says say kept in
      let within = said_arcs (ArcTested junctions intervals) says say tested in
      reads_line (line_short wanted says junctions_fit intervals_fit within.0 reads short) (line_step wanted reads unheld.0).reads
      (lines_read wanted all unheld.1 within.1)

joined_length : (line : List ℕ) (lines : List (List ℕ)) → length (joined (line ∷ lines)) ≡ length line + suc (length (joined lines))
unfolding joined
joined_length line lines = length-append line (line_feed ∷ joined lines)

lines_longer : (wanted : Bool) {lines : List (List ℕ)} {say : List Line} → ReadsAll (not wanted) lines say →
    Longer wanted (length (joined lines)) (2 * length (town_said say).arcs) (length (joined (map (converted_line wanted) lines)))
unfolding joined town_said
lines_longer true no_lines = refl
lines_longer false no_lines = refl
lines_longer true (reads_line {bytes = line} {says = says} {lines = lines} {say = say} short reads all) =
    let results = map (converted_line true) lines in
    omega (arith, line_longer true reads, lines_longer true all, arcs_more says say, joined_length line lines, joined_length (converted_line true line) results)
lines_longer false (reads_line {bytes = line} {says = says} {lines = lines} {say = say} short reads all) =
    let results = map (converted_line false) lines in
    omega (arith, line_longer false reads, lines_longer false all, arcs_more says say, joined_length line lines, joined_length (converted_line false line) results)

-- ---- The text

-- No hold is lost where none is on the way back.
each_kept : (wanted : Bool) (arcs : List Arc) → (wanted ≡ false → Each (λ a. a.hold ≡ 0) arcs) → Each (Kept wanted) arcs
unfolding Each
each_kept wanted [] unheld = tt
each_kept wanted (arc ∷ arcs) unheld = ((λ back. (unheld back).0), each_kept wanted arcs (λ back. (unheld back).1))

module _ (wanted : Bool) {text : List ℕ} {T : Town} (described : Describes text (not wanted) T) where
  abbrev results : List (List ℕ)
  results = map (converted_line wanted) described.lines

  converted_lines : converted wanted text ≡ joined results
  unfolding converted
  converted_lines = rw (lines_described described)

  said : town_said described.say ≡ T
  said = town_said_law described.say T described.in_order

  pub text_longer : Longer wanted (length text) (2 * length T.arcs) (length (converted wanted text))
  text_longer = rw (converted_lines, ← said, described.in_lines) (lines_longer wanted described.each_reads)

  module _ (unheld : NoHoldLost wanted T) where
    kept : Each (Kept wanted) (town_said described.say).arcs
    kept = rw said (each_kept wanted T.arcs unheld)

    results_read : ReadsAll wanted results described.say
    results_read =
        let fits = described.kept.network_accepted in
        lines_read fits.junctions_fit fits.intervals_fit wanted described.each_reads kept (rw said (kept_parts described.kept).arcs_kept)

    pub result_describes : length (converted wanted text) ≤ 65536 → Describes (converted wanted text) wanted T
    result_describes short = record {
      short_enough = short;
      lines = results;
      in_lines = converted_lines;
      say = described.say;
      each_reads = results_read;
      in_order = described.in_order;
      kept = described.kept;
    }

pub text_changes : (wanted : Bool) {text : List ℕ} {T : Town} → Describes text (not wanted) T → NoHoldLost wanted T → Converts wanted text (converted wanted text)
text_changes true described unheld = record {
  old_lines = described.lines;
  new_lines = results true described;
  old_text = described.in_lines;
  new_text = converted_lines true described;
  old_unbroken = all_unbroken described.each_reads;
  new_unbroken = all_unbroken (results_read true described unheld);
  line_by_line = lines_change true described.each_reads (kept true described unheld);
}
text_changes false described unheld = record {
  old_lines = results false described;
  new_lines = described.lines;
  old_text = converted_lines false described;
  new_text = described.in_lines;
  old_unbroken = all_unbroken (results_read false described unheld);
  new_unbroken = all_unbroken described.each_reads;
  line_by_line = lines_change false described.each_reads (kept false described unheld);
}

-- ---- There and back

lines_back : {olds news : List (List ℕ)} → LinesChange olds news → (map (converted_line true) olds ≡ news) × (map (converted_line false) news ≡ olds)
lines_back no_more = (refl, refl)
lines_back (next_line here later) = let rest = lines_back later in (rw (new_of_old here, rest.0), rw (old_of_new here, rest.1))

-- The result of a conversion is converted back to the text.
pub text_back : (wanted : Bool) (text result : List ℕ) → Converts wanted text result → converted (not wanted) result ≡ text
unfolding converted
text_back true text result c = rw (c.new_text, lines_of_joined c.new_lines c.new_unbroken, (lines_back c.line_by_line).1, c.old_text)
text_back false text result c = rw (c.old_text, lines_of_joined c.old_lines c.old_unbroken, (lines_back c.line_by_line).0, c.new_text)
