-- Marks: row by row each record is in the part of its arc, and stays in it. So the records of its part close the ticks that the whole list closes, and where
-- there are none in it its plan alone decides.
use Prim.Native.Nat.{ℕ, zero, suc, ◌+◌, ◌-◌, ◌<◌, ◌≤◌}
use mathlib.Core.Path.{◌≡◌, refl, sym, ap, ◌∙◌}
use mathlib.Core.List.{List, []}
use mathlib.Core.Logic.{◌⊎◌, ⊎_elim, ◌↔◌}
use native.Mathlib.Omega.{arith}
use lib.ListN.{length, get_or, replicate, take, drop, length-map, length-take, length-drop, length-replicate, get_or-map}
use lib.Seq.{get_or-take, get_or-drop}
use Rattle.model.specs.Closures.{max_closures, no_closure, closure_of, closures_of, closed?, Closed, with_closures}
use Rattle.model.specs.Limits.{max_arcs}
use Rattle.model.specs.Flow.{spans_of}
use Rattle.model.specs.Holds.{arrival_with_hold}
use Rattle.model.specs.Intervals.{speed_at}
use Rattle.model.specs.Network.{Roads, arc_speeds, speed_on, drive_of}
use Rattle.model.specs.declared.closure.Closure.{Closure}
use Rattle.model.proofs.Closures.{closed_alike}
use Rattle.model.proofs.Entries.{get_or-all}
use Rattle.model.proofs.Holds.{same_arrival}
use Rattle.closed_arcs.specs.Marks.{start_of, end_of, mark_of, no_mark, unmarked, Marked}

-- the arc of row k
abbrev arc_at : List (List ℕ) → ℕ → ℕ
arc_at rows k = get_or (get_or rows k []) 0 0

-- The first k rows are in the parts of their arcs.
pub record MarkedSoFar (rows : List (List ℕ)) (k : ℕ) (marks : List (List ℕ)) : Type 0 where
  pub long : length marks ≡ max_arcs
  pub in_order : (a : ℕ) → start_of (mark_of marks a) ≤ end_of (mark_of marks a)
  pub so_far : (a : ℕ) → end_of (mark_of marks a) ≤ k
  pub in_part : (i : ℕ) → i < k → arc_at rows i < max_arcs → (start_of (mark_of marks (arc_at rows i)) ≤ i) × (i < end_of (mark_of marks (arc_at rows i)))
  pub in_list : k ≤ length rows
  pub in_bytes : k ≤ max_closures

-- ---- No marks

no_part : (n a i : ℕ) → get_or (get_or (replicate n no_mark) a []) i 0 ≡ 0
no_part zero a i = refl
no_part (suc n) zero i = get_or-all 2 0 i
no_part (suc n) (suc a) i = no_part n a i

pub none_marked : (rows marks : List (List ℕ)) → marks ≡ unmarked → MarkedSoFar rows 0 marks
none_marked rows marks none = rw none record {
  long = length-replicate max_arcs no_mark;
  in_order = λ a. omega (arith, no_part max_arcs a 0, no_part max_arcs a 1);
  so_far = λ a. omega (arith, no_part max_arcs a 1);
  in_part = λ i h. absurd (omega arith);
  in_list = omega arith;
  in_bytes = omega arith;
}

pub all_marked : (rows : List (List ℕ)) (k : ℕ) (marks : List (List ℕ)) → MarkedSoFar rows k marks → (length rows ≤ max_closures → length rows ≤ k) → Marked (closures_of rows) marks
all_marked rows k marks so_far all =
    let as_many = length-map rows closure_of in
    record {
      in_order = so_far.in_order;
      in_list = λ a. omega (arith, so_far.so_far a, so_far.in_list, as_many);
      in_bytes = λ a. omega (arith, so_far.so_far a, so_far.in_bytes);
      in_part = λ few i inside known.
          let at = ap (λ (c : Closure). c.arc) (get_or-map closure_of rows i []) in
          rw at (so_far.in_part i (omega (arith, as_many, all (omega (arith, as_many, few)))) (omega (arith, at, known)));
    }

-- ---- What the marks tell

-- An arc's part lies in the list.
pub part_inside : (rows : List (List ℕ)) {marks : List (List ℕ)} → Marked (closures_of rows) marks → (a : ℕ) →
    (start_of (mark_of marks a) ≤ end_of (mark_of marks a)) × (end_of (mark_of marks a) ≤ length rows) × (end_of (mark_of marks a) ≤ max_closures)
part_inside rows marked a = (marked.in_order a, omega (arith, marked.in_list a, length-map rows closure_of), marked.in_bytes a)

-- The rows of an arc's part.
abbrev pub part_of : List (List ℕ) → List (List ℕ) → ℕ → List (List ℕ)
part_of rows marks a = take (end_of (mark_of marks a) - start_of (mark_of marks a)) (drop (start_of (mark_of marks a)) rows)

-- The arc's speeds by its plan, and the arrival by any speeds.
abbrev pub plan : Roads → ℕ → ℕ → ℕ
plan R a = speed_at R.fences (arc_speeds R a)

abbrev pub arrival_by : Roads → ℕ → (ℕ → ℕ) → ℕ → ℕ
arrival_by R a v t = arrival_with_hold v (spans_of (get_or R.lengths a 0)) (get_or R.holds a 0) t

module _ (R : Roads) (rows : List (List ℕ)) {marks : List (List ℕ)} (marked : Marked (closures_of rows) marks) (few : length (closures_of rows) ≤ max_closures)
    (a : ℕ) (is_arc : a < max_arcs) (are : R.closures ≡ closures_of rows) where
  abbrev start : ℕ
  start = start_of (mark_of marks a)

  abbrev size : ℕ
  size = end_of (mark_of marks a) - start

  abbrev part : List (List ℕ)
  part = part_of rows marks a

  part_length : length (closures_of part) ≡ size
  part_length = length-map part closure_of ∙ simp (length-take, length-drop) (omega (arith, (part_inside rows marked a).1))

  entry : (k : ℕ) → k < size → get_or (closures_of part) k no_closure ≡ get_or (closures_of rows) (start + k) no_closure
  entry k within =
      get_or-map closure_of part k []
      ∙ (ap closure_of (get_or-take _ (drop start rows) k [] within ∙ get_or-drop start rows k []) ∙ sym (get_or-map closure_of rows (start + k) []))

  -- The records of its part close what the list closes.
  part_closes : (t : ℕ) → Closed (closures_of part) a t ↔ Closed (closures_of rows) a t
  part_closes t = (from_part, from_list)
    where
      from_part : Closed (closures_of part) a t → Closed (closures_of rows) a t
      from_part (k, inside, closes) =
          (start + k, omega (arith, inside, part_length, marked.in_order a, marked.in_list a), rw (entry k (omega (arith, inside, part_length))) at closes)

      from_list : Closed (closures_of rows) a t → Closed (closures_of part) a t
      from_list (k, inside, closes) =
          let its = closes.its_arc in
          let (from, to) = rw its at (marked.in_part few k inside (omega (arith, its, is_arc))) in
          let there : start + (k - start) ≡ k = omega (arith, from) in
          let within : k - start < size = omega (arith, from, to) in
          (k - start, omega (arith, within, part_length), rw (entry (k - start) within, there) closes)

  -- So they decide its drive.
  pub part_drive : (t : ℕ) → arrival_by R a (with_closures (closures_of part) a (plan R a)) t ≡ drive_of R a t
  unfolding drive_of speed_on
  part_drive t = same_arrival _ _ _ _ t (λ u. rw are (closed_alike (closures_of part) (closures_of rows) a u (plan R a) (part_closes u)))

  -- Where there are none in it, its plan alone does.
  pub open_drive : (end_of (mark_of marks a) ≡ 0) ⊎ (length rows ≡ 0) → (t : ℕ) → arrival_by R a (plan R a) t ≡ drive_of R a t
  unfolding with_closures closed?
  open_drive none t = same_arrival _ _ _ _ t (λ u. sym (none_closed u)) ∙ part_drive t
    where
      none_in_part : size ≡ 0
      none_in_part = ⊎_elim (λ is. omega (arith, is)) (λ is. omega (arith, is, (part_inside rows marked a).1)) none

      none_closed : (u : ℕ) → with_closures (closures_of part) a (plan R a) u ≡ plan R a u
      none_closed u = rw none_in_part
