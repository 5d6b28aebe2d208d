-- Who is stopped by what: by a walk through the list, a record is kept exactly where it stops the asker. So what keeps the rules keeps them.
use Prim.Native.Nat.{ℕ, zero, suc, ◌≤◌, ◌<◌}
use mathlib.Core.Path.{◌≡◌, refl, ap}
use mathlib.Core.Bool.{Bool, true, false, cond}
use mathlib.Core.List.{List, [], ◌∷◌, ◌++◌}
use native.Mathlib.Omega.{arith}
use lib.ListN.{length, get_or}
use Rattle.model.specs.Closures.{no_closure, Closes, Closed, closed?, with_closures, closure_keeps_lem, party_keeps, ClosuresKept}
use Rattle.model.specs.Intervals.{speed_at}
use Rattle.model.specs.Network.{speeds_of, speed_on, SpeedForAsker}
use Rattle.model.specs.Parties.{both, Stops, ClosedTo, stops?, closures_for, StoppedByOwnAndBoth}
use Rattle.model.specs.Rules.{every}
use Rattle.model.specs.declared.closure.Closure.{Closure}
use Rattle.model.proofs.Closures.{closed_when_tested, closures_kept, kept_closures, kept_parties}
use Rattle.model.proofs.Rules.{both_true, true_both}
use Rattle.model.proofs.Tests.{one_of, is_one_of}

pub not_stopping : (asker : ℕ) (c : Closure) → (Stops asker c → ⊥) → stops? asker c ≡ false
not_stopping asker c none = go (stops? asker c) refl
  where
    go : (stops : Bool) → stops? asker c ≡ stops → stops ≡ false
    go true e = absurd (none (one_of c.party both asker e))
    go false e = refl

-- ---- The records that stop the asker

module _ (asker : ℕ) where
  later : (c : Closure) (closures : List Closure) (a t : ℕ) → ClosedTo asker closures a t → ClosedTo asker (c ∷ closures) a t
  later c closures a t (k, inside, stops, closes) = (suc k, omega arith, stops, closes)

  kept_stopped : (closures : List Closure) (a t k : ℕ) → k < length (closures_for asker closures) → Closes (get_or (closures_for asker closures) k no_closure) a t →
      ClosedTo asker closures a t
  kept_stopped [] a t k inside closes = absurd (omega arith)
  kept_stopped (c ∷ closures) a t k inside closes = go (stops? asker c) refl k (kept_stopped closures a t) inside closes
    where
      go : (stops : Bool) → stops? asker c ≡ stops → (k : ℕ) →
          ((k : ℕ) → k < length (closures_for asker closures) → Closes (get_or (closures_for asker closures) k no_closure) a t → ClosedTo asker closures a t) →
          let kept = cond stops (c ∷ closures_for asker closures) (closures_for asker closures) in
          k < length kept → Closes (get_or kept k no_closure) a t → ClosedTo asker (c ∷ closures) a t
      go true e zero rest inside closes = (0, omega arith, one_of c.party both asker e, closes)
      go true e (suc k) rest inside closes = later c closures a t (rest k (omega arith) closes)
      go false e k rest inside closes = later c closures a t (rest k inside closes)

  stopped_kept : (closures : List Closure) (a t k : ℕ) → k < length closures → Stops asker (get_or closures k no_closure) → Closes (get_or closures k no_closure) a t →
      Closed (closures_for asker closures) a t
  stopped_kept [] a t k inside stops closes = absurd (omega arith)
  stopped_kept (c ∷ closures) a t zero inside stops closes = rw (is_one_of c.party both asker stops) (0, omega arith, closes)
  stopped_kept (c ∷ closures) a t (suc k) inside stops closes = go (stops? asker c) (stopped_kept closures a t k (omega arith) stops closes)
    where
      go : (stops : Bool) → Closed (closures_for asker closures) a t → Closed (cond stops (c ∷ closures_for asker closures) (closures_for asker closures)) a t
      go true (k, inside, closes) = (suc k, omega arith, closes)
      go false closed = closed

  -- They are among the list's, in their order.
  for_shorter : (closures : List Closure) → length (closures_for asker closures) ≤ length closures
  for_shorter [] = omega arith
  for_shorter (c ∷ closures) = go (stops? asker c) (for_shorter closures)
    where
      go : (stops : Bool) → length (closures_for asker closures) ≤ length closures →
          length (cond stops (c ∷ closures_for asker closures) (closures_for asker closures)) ≤ suc (length closures)
      go true h = omega arith
      go false h = omega arith

  pub for_append : (first second : List Closure) → closures_for asker (first ++ second) ≡ closures_for asker first ++ closures_for asker second
  for_append [] second = refl
  for_append (c ∷ first) second = go (stops? asker c) (for_append first second)
    where
      go : (stops : Bool) → closures_for asker (first ++ second) ≡ closures_for asker first ++ closures_for asker second →
          cond stops (c ∷ closures_for asker (first ++ second)) (closures_for asker (first ++ second))
          ≡ cond stops (c ∷ closures_for asker first) (closures_for asker first) ++ closures_for asker second
      go true e = ap (λ rest. c ∷ rest) e
      go false e = e

  every_for : (keeps : Closure → Bool) (closures : List Closure) → every keeps closures ≡ true → every keeps (closures_for asker closures) ≡ true
  every_for keeps [] e = refl
  every_for keeps (c ∷ closures) e =
      let (first, rest) = true_both (keeps c) (every keeps closures) e in
      go (stops? asker c) first (every_for keeps closures rest)
    where
      go : (stops : Bool) → keeps c ≡ true → every keeps (closures_for asker closures) ≡ true →
          every keeps (cond stops (c ∷ closures_for asker closures) (closures_for asker closures)) ≡ true
      go true first rest = both_true first rest
      go false first rest = rest

  pub kept_for : {arcs : ℕ} {closures : List Closure} → ClosuresKept arcs closures → ClosuresKept arcs (closures_for asker closures)
  kept_for {arcs} {closures} kept =
      closures_kept arcs (closures_for asker closures) (omega (arith, for_shorter closures, kept.at_most))
      (every_for (closure_keeps_lem arcs) closures (kept_closures arcs closures kept)) (every_for party_keeps closures (kept_parties arcs closures kept))

-- ---- The statements

pub stopped_by_own_and_both : StoppedByOwnAndBoth
stopped_by_own_and_both asker closures a t = (
  (λ closed. kept_stopped asker closures a t closed.0 closed.1 closed.2),
  (λ stopped. stopped_kept asker closures a t stopped.0 stopped.1 stopped.2 stopped.3),
)

pub speed_for_asker : SpeedForAsker
unfolding speed_on with_closures
speed_for_asker N asker a t = go (closed? (closures_for asker N.closures) a t) refl
  where
    go : (closed : Bool) → closed? (closures_for asker N.closures) a t ≡ closed →
        let speed = cond closed 0 (speed_at N.fences (speeds_of N a) t) in
        (ClosedTo asker N.closures a t → speed ≡ 0) × ((ClosedTo asker N.closures a t → ⊥) → speed ≡ speed_at N.fences (speeds_of N a) t)
    go true e =
        let stopped = (stopped_by_own_and_both asker N.closures a t).0 ((closed_when_tested (closures_for asker N.closures) a t).0 e) in
        ((λ is. refl), (λ open-to. absurd (open-to stopped)))
    go false e = (
      (λ stopped.
          let closed = (closed_when_tested (closures_for asker N.closures) a t).1 ((stopped_by_own_and_both asker N.closures a t).1 stopped) in
          absurd (let z : ◌≡◌ {A = ℕ} 0 1 = cc in omega arith)),
      (λ open-to. refl),
    )
