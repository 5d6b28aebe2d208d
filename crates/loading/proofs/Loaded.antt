-- What Load comes to, from what the scan comes to and the room in the tables.
use mathlib.Core.Path.{◌≡◌}
use mathlib.Core.Bool.{true, false}
use mathlib.Core.List.{List}
use Prim.Native.Nat.{ℕ}
use Rattle.std.specs.Prelude.{Result, Ok, Err, IfOk}
use Rattle.townfile.specs.Answers.{reading_of}
use Rattle.townfile.specs.declared.fault.Fault.{Fault}
use Rattle.townfile.proofs.Held.{loaded_stands}
use Rattle.townfile.specs.Grammar.{Bytes, network_of}
use Rattle.townfile.specs.declared.counts.Counts.{Counts}
use Rattle.townfile.specs.FirstFault.{Reading, refused_at, accepted, first_fault}
use Rattle.townfile.specs.Tables.{town_of}
use Rattle.townfile.specs.Load.{Tables, counts_of, is_too_short, load_answer, holding, tables_after, Stands}
use Rattle.townfile.specs.declared.progress.Progress.{Progress}

-- An answer and what the tables hold, as the contract says them.
abbrev LoadEnds : List ℕ → Tables → Reading Counts → Tables → Type 0
LoadEnds text lent answer after = (answer ≡ load_answer text lent) × (after ≡ tables_after text lent)

module _ (text : List ℕ) (lent : Tables) where
  pub load_refused : {number line : ℕ} → refused_at number line ≡ first_fault text → LoadEnds text lent (refused_at number line) lent
  unfolding load_answer tables_after
  load_refused e = (rw (← e), rw (← e))

  module _ {p : Progress} (read : accepted p ≡ first_fault text) where
    pub load_short : is_too_short (counts_of p) lent ≡ true → LoadEnds text lent (refused_at 28 0) lent
    unfolding load_answer tables_after
    load_short s = (rw (← read, s), rw (← read, s))

    pub load_filled : is_too_short (counts_of p) lent ≡ false → LoadEnds text lent (accepted (counts_of p)) (holding (network_of (town_of text)) lent)
    unfolding load_answer tables_after
    load_filled s = (rw (← read, s), rw (← read, s))

-- Where a text is loaded, its town's network stands at the tables' start.
pub loaded_town : (text : List ℕ) (lent held : Tables) (result : Result Counts Fault) → Bytes text → reading_of result ≡ load_answer text lent → held ≡ tables_after text lent →
    IfOk result (λ counts. Stands (network_of (town_of text)) counts held)
loaded_town text lent held (Ok counts) bytes e are = loaded_stands text lent bytes e are
loaded_town text lent held (Err fault) bytes e are = tt
