-- A tournament of keys: what its functions keep and answer.
use Rattle.std.specs.Prelude.{ℕ, ◌+◌, ◌*◌, ◌%◌, ◌≤◌, ◌<◌, min, ◌≡◌, List, length, get_or}

-- The least power of two that is not below the number of junctions.
abbrev pub leaves : ℕ
leaves = 256

-- The key of a junction's leaf.
abbrev pub leaf : List ℕ → ℕ → ℕ
leaf tree j = get_or tree (leaves + j) 0

-- A node above the leaves holds the lesser key of the two nodes below it.
abbrev pub Played : List ℕ → ℕ → Type 0
Played tree k = get_or tree k 0 ≡ min (get_or tree (2 * k) 0) (get_or tree (2 * k + 1) 0)

pub record Tournament (tree : List ℕ) : Type 0 where
  pub long : length tree ≡ 2 * leaves
  pub played : (k : ℕ) → 1 ≤ k → k < leaves → Played tree k

-- The least key of the leaves, and one of them has it.
pub record Least (tree : List ℕ) (key : ℕ) : Type 0 where
  pub no_lower : (j : ℕ) → j < leaves → key ≤ leaf tree j
  pub holder : ℕ
  pub holder_inside : holder < leaves
  pub held : leaf tree holder ≡ key

-- The tournament after a junction's key is set: the other leaves are as before.
pub record Entered (before : List ℕ) (junction key : ℕ) (after : List ℕ) : Type 0 where
  pub tournament : Tournament after
  pub is_set : leaf after junction ≡ key
  pub others_stay : (j : ℕ) → j < leaves → (j ≡ junction → ⊥) → leaf after j ≡ leaf before j

-- The key of a junction that is reached, and the junction of a key. Labels below 2^24 = 16,777,216, as every tick is, have keys of their
-- own, and so have the junctions of the leaves.
abbrev pub key_of : ℕ → ℕ → ℕ
key_of label junction = label % 16777216 * leaves + junction % leaves

abbrev pub junction_of_lem : ℕ → ℕ
junction_of_lem key = key % leaves
