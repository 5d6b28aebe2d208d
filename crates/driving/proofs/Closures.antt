-- The closures of an arc by their edges. From a tick up to the first edge after it no record of the arc starts or ends, so that the arc stays closed
-- or open as it is there: a piece of constant speed, cut at that edge, has one speed with closures too. A scan of the list finds the edge.
use Rattle.std.proofs.Common.{◌≡◌, ℕ, suc, ◌+◌, ◌<◌, ◌≤◌, Bool, true, false, cond, ◌||◌, List, [], ◌∷◌, length, get_or, drop, refl, ◌∙◌, ⊎_elim, le_refl, add-one, arith, drop_of_length-le, drop-cons, le-ltb, lt-ltb, le-leb}
use borrow.Author.Tests.{lt-leb}
use Rattle.model.specs.Flow.{Piece}
use Rattle.model.specs.Closures.{closes?, closed?, with_closures, closure_of, closures_of}
use Rattle.model.specs.declared.closure.Closure.{Closure}
use Rattle.model.proofs.Tests.{ltb_cases, eqb_cases}
use Rattle.driving.specs.Code.Closed.{next_edge, same_until}

-- ---- One record

-- Its edge comes after the tick and by the limit, and until then the record closes each tick or none.
record Edge (c : Closure) (a t limit edge : ℕ) : Type 0 where
  after : t < limit → t < edge
  by_limit : edge ≤ limit
  same : (u : ℕ) → t ≤ u → u < edge → closes? c a u ≡ closes? c a t

edge_of : (c : Closure) (a t limit : ℕ) → Edge c a t limit (next_edge c a t limit)
unfolding next_edge
edge_of c a t limit =
    let first = c.first in
    let end = c.end in
    ⊎_elim
    (λ its.
    ⊎_elim
    (λ later. rw (its.0, later.0) record {
      after = λ h. omega (arith, later.1);
      by_limit = omega arith;
      same = λ u from before. rw (its.0, lt-leb first u (omega arith), lt-leb first t later.1);
    })
    (λ begun.
    ⊎_elim
    (λ inside. rw (its.0, begun.0, inside.0) record {
      after = λ h. omega (arith, inside.1);
      by_limit = omega arith;
      same = λ u from before. rw (its.0, le-leb first u (omega (arith, begun.1)), le-leb first t begun.1, inside.0, lt-ltb u end (omega arith));
    })
    (λ over. rw (its.0, begun.0, over.0) record {
      after = λ h. h;
      by_limit = le_refl limit;
      same = λ u from before. rw (its.0, le-leb first u (omega (arith, begun.1)), le-leb first t begun.1, over.0, le-ltb u end (omega (arith, over.1)));
    })
    (ltb_cases t end))
    (ltb_cases t first))
    (λ other. rw other.0 record { after = λ h. h; by_limit = le_refl limit; same = λ u from before. rw other.0 })
    (eqb_cases c.arc a)

-- ---- All records

module _ (a t : ℕ) where
  pub same_after : (closures : List Closure) {limit : ℕ} → t < limit → t < same_until closures a t limit
  unfolding same_until
  same_after [] h = h
  same_after (c ∷ closures) {limit} h = same_after closures ((edge_of c a t limit).after h)

  pub same_by_limit : (closures : List Closure) (limit : ℕ) → same_until closures a t limit ≤ limit
  unfolding same_until
  same_by_limit [] limit = le_refl limit
  same_by_limit (c ∷ closures) limit = omega (arith, same_by_limit closures (next_edge c a t limit), (edge_of c a t limit).by_limit)

  pub closed_same : (closures : List Closure) (limit u : ℕ) → t ≤ u → u < same_until closures a t limit → closed? closures a u ≡ closed? closures a t
  unfolding same_until closed?
  closed_same [] limit u from before = refl
  closed_same (c ∷ closures) limit u from before =
      rw (
        (edge_of c a t limit).same u from (omega (arith, same_by_limit closures (next_edge c a t limit))),
        closed_same closures (next_edge c a t limit) u from before,
      )

-- A piece of constant speed, up to the first edge in it.
pub piece_with_closures : {v : ℕ → ℕ} {at end speed : ℕ} (closures : List Closure) (a : ℕ) → at < end → Piece v at end speed →
    Piece (with_closures closures a v) at (same_until closures a at end) (cond (closed? closures a at) 0 speed)
unfolding with_closures
piece_with_closures {v} {at} {end} {speed} closures a some piece = record {
  forward = omega (arith, same_after a at closures some);
  in_time = omega (arith, same_by_limit a at closures end, piece.in_time);
  steady = λ t from before.
      rw (closed_same a at closures end t from before, piece.steady t from (omega (arith, same_by_limit a at closures end)));
}

-- ---- One scan of the list

-- The records left behind the first i add the rest.
pub record Scanned (rows : List (List ℕ)) (a t limit : ℕ) (closed : Bool) (until i : ℕ) : Type 0 where
  pub to_close : (closed? (closures_of (drop i rows)) a t || closed) ≡ closed? (closures_of rows) a t
  pub to_cut : same_until (closures_of (drop i rows)) a t until ≡ same_until (closures_of rows) a t limit

or_false : (x : Bool) → (x || false) ≡ x
or_false true = refl
or_false false = refl

-- a record that is taken over from those left
or_moved : (x y z : Bool) → (y || (x || z)) ≡ (x || y || z)
or_moved true true z = refl
or_moved true false z = refl
or_moved false y z = refl

module _ {rows : List (List ℕ)} {a t limit : ℕ} where
  pub scan_starts : Scanned rows a t limit false limit 0
  scan_starts = record { to_close = or_false _; to_cut = refl }

  pub scan_goes_on : {closed closed' : Bool} {until until' i : ℕ} → Scanned rows a t limit closed until i → i < length rows →
      closed' ≡ (closes? (closure_of (get_or rows i [])) a t || closed) → until' ≡ next_edge (closure_of (get_or rows i [])) a t until →
      Scanned rows a t limit closed' until' (i + 1)
  unfolding same_until closed?
  scan_goes_on {closed} {closed'} {until} {until'} {i} s more closed_is until_is =
      rw (closed_is, until_is, add-one)
      record {
        to_close =
            or_moved (closes? (closure_of (get_or rows i [])) a t) (closed? (closures_of (drop (suc i) rows)) a t) closed
            ∙ (rw (drop-cons rows i [] more) at s.to_close);
        to_cut = rw (drop-cons rows i [] more, same_until) at s.to_cut;
      }

  pub scan_ends : {closed : Bool} {until i : ℕ} → Scanned rows a t limit closed until i → length rows ≤ i →
      (closed ≡ closed? (closures_of rows) a t) × (until ≡ same_until (closures_of rows) a t limit)
  unfolding same_until closed?
  scan_ends s done = (rw (drop_of_length-le rows done) at s.to_close, rw (drop_of_length-le rows done) at s.to_cut)
