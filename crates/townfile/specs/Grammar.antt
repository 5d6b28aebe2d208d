-- The grammar of the town file: which text describes which town. It says what a file is and nothing of how one is read. Document 02, order 6:
-- "The new form begins with `TW` where the old has `TN`, and each `AR` line ends with one more number, the hold." `held` says that a file is of
-- the new form.
use Rattle.std.specs.Prelude.{ℕ, suc, ◌≤◌, ◌<◌, ◌≡◌, Bool, true, false, length, get_or}
use mathlib.Core.List.{List, [], ◌∷◌, ◌++◌, map, flatten}
use Rattle.model.specs.Network.{Network, Accepted}
use Rattle.townfile.specs.Bytes.{line_feed, space}
use Rattle.townfile.specs.Numbers.{decimal}

-- A text is of bytes.
abbrev pub Bytes : List ℕ → Type 0
Bytes text = (i : ℕ) → i < length text → get_or text i 0 < 256

-- ---- Numbers, fields and names

-- "A number is decimal, 1 to 7 digits, without a leading zero unless it is just 0."
pub record Number (bytes : List ℕ) (n : ℕ) : Type 0 where
  pub some_digit : 1 ≤ length bytes
  pub few_digits : length bytes ≤ 7
  pub digits : (i : ℕ) → i < length bytes → (48 ≤ get_or bytes i 0) × (get_or bytes i 0 ≤ 57)
  pub no_leading_zero : get_or bytes 0 0 ≡ 48 → length bytes ≡ 1
  pub value : decimal bytes ≡ n

-- "Fields follow, each after one space."
pub data Fields : List ℕ → List ℕ → Type 0 where
  no_fields : Fields [] []
  field : {bytes rest numbers : List ℕ} {n : ℕ} → Number bytes n → Fields rest numbers → Fields (space ∷ (bytes ++ rest)) (n ∷ numbers)

-- "Any number of bytes of 32 to 126."
abbrev pub Printable : List ℕ → Type 0
Printable bytes = (i : ℕ) → i < length bytes → (32 ≤ get_or bytes i 0) × (get_or bytes i 0 ≤ 126)

-- "A name of 1 to 24 bytes of 32 to 126, neither first nor last a space."
pub record Name (bytes : List ℕ) : Type 0 where
  pub some_byte : 1 ≤ length bytes
  pub few_bytes : length bytes ≤ 24
  pub all_printable : Printable bytes
  pub first_no_space : get_or bytes 0 0 ≡ space → ⊥
  pub last_no_space : (i : ℕ) → suc i ≡ length bytes → get_or bytes i 0 ≡ space → ⊥

-- ---- A town

-- A junction with its name.
pub record Named : Type 0 where
  pub number : ℕ
  pub name : List ℕ

pub record Arc : Type 0 where
  pub tail : ℕ
  pub head : ℕ
  pub metres : ℕ
  pub speeds : List ℕ
  pub hold : ℕ

pub record Town : Type 0 where
  pub junctions : ℕ
  pub fences : List ℕ
  pub names : List Named
  pub arcs : List Arc

-- The town's network: a table for each of the arcs' fields, and "the speeds arc by arc". A file has no closures.
abbrev pub network_of : Town → Network
network_of T = record {
  junctions = T.junctions;
  fences = T.fences;
  tails = map (λ a. a.tail) T.arcs;
  heads = map (λ a. a.head) T.arcs;
  lengths = map (λ a. a.metres) T.arcs;
  holds = map (λ a. a.hold) T.arcs;
  speeds = flatten (map (λ a. a.speeds) T.arcs);
  closures = [];
}

abbrev pub numbers_of_names : List Named → List ℕ
numbers_of_names names = map (λ n. n.number) names

unfoldable pub Each : {A : Type 0} → (A → Type 0) → List A → Type 0
Each P [] = Unit {0}
Each P (x ∷ xs) = P x × Each P xs

-- The limits that a town keeps: the network's rules, "one speed per interval", and for the names "the numbers rise from line to
-- line" and lie below the junction count.
pub record TownKept (T : Town) : Type 0 where
  pub network_accepted : Accepted (network_of T)
  pub speeds_per_interval : Each (λ a. length a.speeds ≡ length T.fences) T.arcs
  pub names_rise : (k : ℕ) → suc k < length T.names → get_or (numbers_of_names T.names) k 0 < get_or (numbers_of_names T.names) (suc k) 0
  pub names_below : (k : ℕ) → k < length T.names → get_or (numbers_of_names T.names) k 0 < T.junctions

-- ---- Lines

-- What a line says, by its mark.
pub data Line : Type 0 where
  TN : (junctions intervals : ℕ) → Line
  FN : (fences : List ℕ) → Line
  JN : Named → Line
  AR : Arc → Line
  CM : Line

-- The bytes of a line, before its line feed, and what they say, in either form. The two bytes of each mark stand for its letters. "The old one has
-- hold 0 throughout."
pub data Reads : (held : Bool) → List ℕ → Line → Type 0 where
  town_line : {bytes : List ℕ} {junctions intervals : ℕ} → Fields bytes (junctions ∷ intervals ∷ []) → Reads false (84 ∷ 78 ∷ bytes) (TN junctions intervals)
  held_town_line : {bytes : List ℕ} {junctions intervals : ℕ} → Fields bytes (junctions ∷ intervals ∷ []) → Reads true (84 ∷ 87 ∷ bytes) (TN junctions intervals)
  fences_line : {held : Bool} {bytes numbers : List ℕ} → Fields bytes numbers → Reads held (70 ∷ 78 ∷ bytes) (FN numbers)
  junction_line : {held : Bool} {bytes name : List ℕ} {n : ℕ} → Number bytes n → Name name →
      Reads held (74 ∷ 78 ∷ space ∷ (bytes ++ (space ∷ name))) (JN (record { number = n; name = name }))
  arc_line : {bytes speeds : List ℕ} {tail head metres : ℕ} → Fields bytes (tail ∷ head ∷ metres ∷ speeds) →
      Reads false (65 ∷ 82 ∷ bytes) (AR (record { tail = tail; head = head; metres = metres; speeds = speeds; hold = 0 }))
  held_arc_line : {bytes speeds : List ℕ} {tail head metres hold : ℕ} → Fields bytes (tail ∷ head ∷ metres ∷ (speeds ++ (hold ∷ []))) →
      Reads true (65 ∷ 82 ∷ bytes) (AR (record { tail = tail; head = head; metres = metres; speeds = speeds; hold = hold }))
  bare_comment : {held : Bool} → Reads held (67 ∷ 77 ∷ []) CM
  comment_line : {held : Bool} {bytes : List ℕ} → Printable bytes → Reads held (67 ∷ 77 ∷ space ∷ bytes) CM

-- "A line has at most 700 bytes before its LF."
pub data ReadsAll (held : Bool) : List (List ℕ) → List Line → Type 0 where
  no_lines : ReadsAll held [] []
  reads_line : {bytes : List ℕ} {says : Line} {lines : List (List ℕ)} {say : List Line} →
      length bytes ≤ 700 → Reads held bytes says → ReadsAll held lines say → ReadsAll held (bytes ∷ lines) (says ∷ say)

-- No line feed inside.
abbrev pub Unbroken : List ℕ → Type 0
Unbroken line = (i : ℕ) → i < length line → get_or line i 0 ≡ line_feed → ⊥

-- "In lines that each end in byte 10 (LF)."
unfoldable pub joined : List (List ℕ) → List ℕ
joined [] = []
joined (line ∷ lines) = line ++ (line_feed ∷ joined lines)

-- ---- A text

-- "`CM` may stand anywhere, before `TN` and after the last `AR` too."
unfoldable pub without_comments : List Line → List Line
without_comments [] = []
without_comments (TN junctions intervals ∷ lines) = TN junctions intervals ∷ without_comments lines
without_comments (FN fences ∷ lines) = FN fences ∷ without_comments lines
without_comments (JN named ∷ lines) = JN named ∷ without_comments lines
without_comments (AR arc ∷ lines) = AR arc ∷ without_comments lines
without_comments (CM ∷ lines) = without_comments lines

-- "One `TN`[, or `TW`], one `FN`, then any `JN`, then any `AR`, in that order", and "the fences, as many as intervals".
abbrev pub lines_in_order : Town → List Line
lines_in_order T = TN T.junctions (length T.fences) ∷ FN T.fences ∷ (map JN T.names ++ map AR T.arcs)

-- A text describes a town, in the old form or in the new.
pub record Describes (text : List ℕ) (held : Bool) (T : Town) : Type 0 where
  pub short_enough : length text ≤ 65536
  pub lines : List (List ℕ)
  pub in_lines : text ≡ joined lines
  pub say : List Line
  pub each_reads : ReadsAll held lines say
  pub in_order : without_comments say ≡ lines_in_order T
  pub kept : TownKept T

-- A text describes a town, in either form.
abbrev pub DescribesTown : List ℕ → Town → Type 0
DescribesTown text T = (held : Bool) × Describes text held T

-- ---- Comments

-- The second list of lines is the first with comments added anywhere.
pub data Commented : List (List ℕ) → List (List ℕ) → Type 0 where
  nothing_added : Commented [] []
  kept_line : {line : List ℕ} {lines more : List (List ℕ)} → Unbroken line → Commented lines more → Commented (line ∷ lines) (line ∷ more)
  added_comment : {comment : List ℕ} {lines more : List (List ℕ)} → Reads false comment CM → length comment ≤ 700 → Commented lines more → Commented lines (comment ∷ more)
