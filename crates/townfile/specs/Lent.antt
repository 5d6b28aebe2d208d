-- The tables that are lent to Load, by which contracts name them: as the struct that holds them, or one by one where C
-- lends them.
use Rattle.std.specs.Prelude.{ℕ, ◌≡◌, List}
use Rattle.std.specs.Borrow.{MutBor}
use denote.Triple.Both.{Both}
use Rattle.townfile.specs.Load.{Tables, tables}
use Rattle.townfile.specs.declared.tables.Tables.{Tables as LentTables}

abbrev pub lent_tables : LentTables → Tables
lent_tables lent = tables lent.fences.now lent.tails.now lent.heads.now lent.lengths.now lent.holds.now lent.speeds.now

-- Each table is the one that was lent, so that what stands in the struct in the end stands behind the caller's reference.
pub record SameTables (before after : LentTables) : Type 0 where
  pub fences : after.fences.ghost_name ≡ before.fences.ghost_name
  pub tails : after.tails.ghost_name ≡ before.tails.ghost_name
  pub heads : after.heads.ghost_name ≡ before.heads.ghost_name
  pub lengths : after.lengths.ghost_name ≡ before.lengths.ghost_name
  pub holds : after.holds.ghost_name ≡ before.holds.ghost_name
  pub speeds : after.speeds.ghost_name ≡ before.speeds.ghost_name

-- ---- One by one: for what a function ensures, where a table's name stands for the table at entry and at exit

abbrev pub tables_to_fill : {A B C D E F : Type 0} → Both (MutBor (List ℕ)) A → Both (MutBor (List ℕ)) B → Both (MutBor (List ℕ)) C →
    Both (MutBor (List ℕ)) D → Both (MutBor (List ℕ)) E → Both (MutBor (List ℕ)) F → Tables
tables_to_fill fences tails heads lengths holds speeds =
    tables fences.entry.now tails.entry.now heads.entry.now lengths.entry.now holds.entry.now speeds.entry.now

abbrev pub left_tables : {A B C D E F : Type 0} → Both A (MutBor (List ℕ)) → Both B (MutBor (List ℕ)) → Both C (MutBor (List ℕ)) →
    Both D (MutBor (List ℕ)) → Both E (MutBor (List ℕ)) → Both F (MutBor (List ℕ)) → Tables
left_tables fences tails heads lengths holds speeds =
    tables fences.exit.now tails.exit.now heads.exit.now lengths.exit.now holds.exit.now speeds.exit.now
