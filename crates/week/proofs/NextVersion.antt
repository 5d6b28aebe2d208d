-- A good store stays one: with the next version in its slot it holds the versions up to that. A store that is made holds those up to 1, after none.
use Prim.Native.Nat.{ℕ, ◌+◌, ◌≤◌, ◌<◌}
use mathlib.Core.Path.{◌≡◌, refl, sym, ap, ◌∙◌}
use mathlib.Core.List.{List}
use mathlib.Core.Logic.{by_cases}
use native.Mathlib.Decide.{ℕ_discrete}
use native.Mathlib.Omega.{arith}
use lib.ListN.{get_or-replicate}
use Rattle.week.specs.WeekList.{WeekList}
use Rattle.week.specs.Store.{Store, Sized, slots, slot_of_lem, version_at, list_at, Kept, Keeps, with_version, no_versions}
use Rattle.week.proofs.Slots.{one_slot, one_round}
use Rattle.week.proofs.Writing.{version_there, version_stays, list_there, other_list_stays}

-- A store that holds the versions up to a number, which may be 0.
pub record UpTo (S : Store) (newest : ℕ) : Type 0 where
  pub each : (version : ℕ) → Kept newest version → version_at S (slot_of_lem version) ≡ version
  pub lists : (version : ℕ) → Kept newest version → WeekList (list_at S (slot_of_lem version))
  pub no_other : (slot : ℕ) → slot < slots → 1 ≤ version_at S slot → Kept newest (version_at S slot) × (slot_of_lem (version_at S slot) ≡ slot)

pub up_to : (S : Store) (newest : ℕ) → Keeps S newest → UpTo S newest
up_to S newest kept = record { each = kept.each; lists = kept.lists; no_other = kept.no_other }

pub no_versions_law : UpTo no_versions 0
no_versions_law =
    record {
      each = λ version stays. absurd (omega (arith, stays));
      lists = λ version stays. absurd (omega (arith, stays));
      no_other = λ slot inside there. absurd (omega (arith, there, get_or-replicate {A = ℕ} slots slot 0 0 inside));
    }

module _ (S : Store) (newest : ℕ) (sized : Sized S) (held : UpTo S newest) (masks : List ℕ) (good : WeekList masks) where
  abbrev next : ℕ
  next = newest + 1

  abbrev after : Store
  after = with_version next masks S

  -- A version that is still kept was kept before, in another slot than the next.
  pub earlier : (version : ℕ) → Kept next version → (version ≡ next → ⊥) → Kept newest version × (slot_of_lem version ≡ slot_of_lem next → ⊥)
  earlier version stays other =
      ((stays.0, omega (arith, stays.1, other), omega (arith, stays.2)), λ same. other (one_slot next version next stays (omega arith, omega arith, omega arith) same))

  pub next_keeps : Keeps after next
  next_keeps =
      record {
        some = omega arith;
        each = λ version stays. by_cases (ℕ_discrete version next) (λ same. rw same (version_there next masks S sized good))
            (λ other. let before = earlier version stays other in version_stays next masks S sized good (slot_of_lem version) before.1 ∙ held.each version before.0);
        lists = λ version stays. by_cases (ℕ_discrete version next) (λ same. rw (same, list_there next masks S sized good) good)
            (λ other. let before = earlier version stays other in rw (other_list_stays next masks S sized good (slot_of_lem version) before.1) (held.lists version before.0));
        no_other = λ slot inside there. by_cases (ℕ_discrete slot (slot_of_lem next)) (own slot) (others slot inside there);
      }
    where
      own : (slot : ℕ) → slot ≡ slot_of_lem next → Kept next (version_at after slot) × (slot_of_lem (version_at after slot) ≡ slot)
      own slot same = rw (same, version_there next masks S sized good) ((omega arith, omega arith, omega arith), refl)

      others : (slot : ℕ) → slot < slots → 1 ≤ version_at after slot → (slot ≡ slot_of_lem next → ⊥) → Kept next (version_at after slot) × (slot_of_lem (version_at after slot) ≡ slot)
      others slot inside there apart =
          let stands = version_stays next masks S sized good slot apart in
          let before = held.no_other slot inside (omega (arith, there, stands)) in
          let w = version_at S slot in
          let not-out : w + slots ≡ next → ⊥ = λ out. apart (sym before.1 ∙ sym (one_round w before.0.0) ∙ ap slot_of_lem out) in
          rw stands ((before.0.0, omega (arith, before.0.1), omega (arith, before.0.2, not-out)), before.1)
