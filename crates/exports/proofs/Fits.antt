-- What the codes are made of is small: a loaded town keeps the network's limits, and a name stands in a text of at most 65,536 bytes.
use Prim.Native.Nat.{ℕ, ◌+◌, ◌≤◌}
use mathlib.Core.Path.{◌≡◌}
use mathlib.Core.Logic.{inl, inr}
use mathlib.Core.Bool.{Bool}
use mathlib.Core.List.{List}
use native.Mathlib.Omega.{arith}
use lib.ListN.{length}
use Rattle.model.specs.Limits.{max_junctions, max_arcs, max_intervals}
use Rattle.model.proofs.Tests.{ltb_cases}
use Rattle.townfile.specs.Grammar.{Bytes, Town, Describes}
use Rattle.townfile.specs.FirstFault.{accepted, first_fault}
use Rattle.townfile.specs.Load.{Tables, counts_of_town, load_answer}
use Rattle.townfile.specs.declared.counts.Counts.{Counts}
use Rattle.townfile.specs.Name.{name_place_lem}
use Rattle.townfile.proofs.Load.{load_accepts_when_described}
use Rattle.townfile.proofs.NamePlace.{name_stands_at_place}

pub record CountsFit (reply : Counts) : Type 0 where
  pub junctions_fit : reply.junctions ≤ max_junctions
  pub intervals_fit : reply.intervals ≤ max_intervals
  pub arcs_fit : reply.arcs ≤ max_arcs

pub counts_fit : (text : List ℕ) (lent : Tables) {reply : Counts} → Bytes text → load_answer text lent ≡ accepted reply → CountsFit reply
counts_fit text lent {reply} bytes e = let found = (load_accepts_when_described text bytes lent reply).0 e in go found.0 found.1 found.2 found.4
  where
    go : (held : Bool) (T : Town) → Describes text held T → reply ≡ counts_of_town T → CountsFit reply
    go held T described counted =
        let kept = described.kept.network_accepted in
        rw counted (record { junctions_fit = kept.junctions_fit; intervals_fit = kept.intervals_fit; arcs_fit = kept.arcs_fit })

pub place_fits : (text : List ℕ) (junction : ℕ) → (name_place_lem text junction).start + (name_place_lem text junction).length ≤ 65536
unfolding name_place_lem first_fault
place_fits text junction = elim (ltb_cases 65536 (length text)) [
  | inl long ↦ rw long.0 (omega arith)
  | inr short ↦ omega (arith, short.1, (name_stands_at_place text junction).inside)
]
