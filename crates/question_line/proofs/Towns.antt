-- A text's first fault is the answer, or the town that it describes is asked. Load into tables with room for every town refuses just
-- that fault, and otherwise the town's network, which Network check accepts, stands at the tables' start.
use Prim.Native.Nat.{ℕ}
use mathlib.Core.Path.{◌≡◌, refl, sym, ap, ◌∙◌}
use mathlib.Core.Bool.{Bool}
use mathlib.Core.List.{List}
use native.Mathlib.Omega.{arith}
use Rattle.model.specs.Network.{Network}
use Rattle.model.specs.NetworkRules.{network_check_lem}
use Rattle.model.specs.Rules.{replied}
use Rattle.townfile.specs.Grammar.{Bytes, Town, Describes, network_of}
use Rattle.townfile.specs.FirstFault.{Reading, refused_at, accepted, first_fault}
use Rattle.townfile.specs.Load.{Tables, roomy_tables, network_at, into_tables, load_answer, tables_after}
use Rattle.townfile.specs.declared.counts.Counts.{Counts}
use Rattle.townfile.specs.declared.progress.Progress.{Progress}
use Rattle.townfile.proofs.Described.{described_faultless, described_town, faultless_described, described_is_accepted}
use Rattle.townfile.proofs.Held.{loaded_stands, town_loads}
use Rattle.townfile.proofs.Load.{load_accepts_when_described}
use Rattle.question_line.specs.Answers.{in_town}

module _ {Reply : Type 0} (answer : Network → Reading Reply) (text : List ℕ) where
  pub answer_faulty : {number line : ℕ} → first_fault text ≡ refused_at number line → in_town answer text ≡ refused_at number line
  unfolding in_town
  answer_faulty fault = rw fault

  pub answer_described : {held : Bool} {town : Town} → Describes text held town → in_town answer text ≡ answer (network_of town)
  unfolding in_town
  answer_described described = rw (described_faultless described, described_town described)

  module _ (bytes : Bytes text) where
    refused_so : {number line : ℕ} → refused_at number line ≡ load_answer text roomy_tables → in_town answer text ≡ refused_at number line
    unfolding load_answer
    refused_so {number} {line} e = go (first_fault text) refl
      where
        go : (reading : Reading Progress) → first_fault text ≡ reading → in_town answer text ≡ refused_at number line
        go (refused_at n l) r =
            (let same : refused_at number line ≡ refused_at n l = e ∙ ap (λ reading. into_tables reading roomy_tables) r in answer_faulty r ∙ cc)
        go (accepted p) r = (let loaded = town_loads (faultless_described bytes r).1 in absurd (let z : ◌≡◌ {A = ℕ} 0 1 = cc in omega arith))

    -- The network that the tables then lend is asked.
    pub record TownLent (lent : Network) : Type 0 where
      pub checked : network_check_lem lent ≡ replied tt
      pub answers : in_town answer text ≡ answer lent

    module _ {made : Tables} (roomy : made ≡ roomy_tables) where
      pub town_refused : {number line : ℕ} → refused_at number line ≡ load_answer text made → in_town answer text ≡ refused_at number line
      town_refused e = refused_so (rw roomy at e)

      pub town_lent : {reply : Counts} {held : Tables} {lent : Network} → accepted reply ≡ load_answer text made → held ≡ tables_after text made →
          lent ≡ network_at reply held → TownLent lent
      town_lent {reply} e are is =
          let stands = loaded_stands text made bytes e are in
          let found = (load_accepts_when_described text bytes made reply).0 (sym e) in
          let same = described_town found.2 in
          rw (is, stands.is_network, same) (record { checked = described_is_accepted text found.0 found.1 found.2; answers = answer_described found.2 })
