-- Following predecessors: the arcs that are left lead on to the source. Counting adds one for each; writing puts each before
-- those already written, so that the list ends in driving order.
use Prim.Native.Nat.{ℕ, zero, suc, ◌+◌, ◌≤◌, ◌<◌, zero-le, suc-le-suc}
use mathlib.Core.Path.{◌≡◌, refl, sym, ap, ◌∙◌}
use mathlib.Core.Bool.{Bool, true, false, cond}
use mathlib.Core.List.{List, [], ◌∷◌, ◌++◌, reverse_aux, append_assoc}
use native.Mathlib.Omega.{arith}
use lib.Dec.{eqb}
use lib.ListN.{length, get_or, set, take, drop, length-set}
use lib.Seq.{take-suc, set_at, length-take-le}
use Rattle.model.specs.Labels.{no_arc}
use Rattle.model.specs.Routes.{arcs_back}
use Rattle.routing.specs.Code.Following.{back_from, HasStep, StepIs, Leads, here, back}

-- No more arcs are found than are allowed.
at_most : (at : Bool) (a : ℕ) (before : List ℕ) (most : ℕ) → length before ≤ most → length (cond at [] (a ∷ before)) ≤ suc most
at_most true a before most h = zero-le
at_most false a before most h = suc-le-suc h

arcs_back_at_most : (tail : ℕ → ℕ) (source : ℕ) (predecessors : List ℕ) (most j : ℕ) → length (arcs_back tail source predecessors most j) ≤ most
unfolding arcs_back
arcs_back_at_most tail source predecessors zero j = zero-le
arcs_back_at_most tail source predecessors (suc most) j =
    at_most (eqb j source) (get_or predecessors j no_arc) (arcs_back tail source predecessors most (tail (get_or predecessors j no_arc))) most
    (arcs_back_at_most tail source predecessors most (tail (get_or predecessors j no_arc)))

pub way_at_most : (tails : List ℕ) (source : ℕ) (predecessors : List ℕ) (j : ℕ) → length (back_from tails source predecessors j) ≤ length predecessors
way_at_most tails source predecessors j = arcs_back_at_most (λ a. get_or tails a 0) source predecessors (length predecessors) j

-- ---- One arc back

-- The tables have the junction's step back, and its tail leads on.
pub record LeadsOn (tails : List ℕ) (source : ℕ) (predecessors : List ℕ) (j : ℕ) (arcs : List ℕ) : Type 0 where
  pub has_step : HasStep tails predecessors j
  pub rest : List ℕ
  pub arcs_are : arcs ≡ get_or predecessors j 0 ∷ rest
  pub leads_on : Leads tails source predecessors (get_or tails (get_or predecessors j 0) 0) rest

module _ {tails : List ℕ} {source : ℕ} {predecessors : List ℕ} where
  step_of : {j : ℕ} {arcs : List ℕ} → Leads tails source predecessors j arcs → 0 < length arcs → LeadsOn tails source predecessors j arcs
  step_of here some = absurd (omega arith)
  step_of (back j {arcs} other has rest) some = record { has_step = has; rest = arcs; arcs_are = refl; leads_on = rest }

  some_arc : {j : ℕ} {arcs : List ℕ} → Leads tails source predecessors j arcs → (j ≡ source → ⊥) → 0 < length arcs
  some_arc here other = absurd (other refl)
  some_arc (back j other' has rest) other = omega arith

-- ---- Counting

pub record Counting (tails : List ℕ) (source : ℕ) (predecessors : List ℕ) (total j count : ℕ) : Type 0 where
  pub left : List ℕ
  pub leads : Leads tails source predecessors j left
  pub adds_up : count + length left ≡ total

module _ {tails : List ℕ} {source : ℕ} {predecessors : List ℕ} {total j count : ℕ} (c : Counting tails source predecessors total j count) where
  pub counting_more : (j ≡ source → ⊥) → count < total
  counting_more other = omega (arith, some_arc c.leads other, c.adds_up)

-- ---- Writing

-- The arcs left and those written behind them, in driving order, are the route; the list is as it was before and behind these.
pub record Writing (tails : List ℕ) (source : ℕ) (predecessors route before arcs : List ℕ) (count j k : ℕ) : Type 0 where
  pub left : List ℕ
  pub done : List ℕ
  pub leads : Leads tails source predecessors j left
  pub k_left : k ≡ length left
  pub make_route : reverse_aux left done ≡ route
  pub arcs_are : arcs ≡ take k before ++ (done ++ drop count before)
  pub k_fits : k ≤ length before
  pub arcs_long : length arcs ≡ length before

module _ {tails : List ℕ} {source : ℕ} {predecessors route before arcs : List ℕ} {count j k : ℕ} (w : Writing tails source predecessors route before arcs count j k) where
  pub writing_step : 0 < k → LeadsOn tails source predecessors j w.left
  writing_step some = step_of w.leads (omega (arith, w.k_left))

  pub writing_goes_on : (p : ℕ) → suc p ≡ k → {step : ℕ × ℕ} → StepIs tails predecessors j step →
      Writing tails source predecessors route before (set arcs p step.0) count step.1 p
  writing_goes_on p less made =
      let s = writing_step (omega arith) in
      let a = get_or predecessors j 0 in
      let behind = w.done ++ drop count before in
      let inside : p < length before = omega (arith, w.k_fits) in
      let split : arcs ≡ take p before ++ (get_or before p 0 ∷ behind) =
      w.arcs_are ∙ rw (← less, take-suc before p 0 inside, append_assoc) in
      rw (made.arc_is, made.tail_is) record {
        left = s.rest;
        done = a ∷ w.done;
        leads = s.leads_on;
        k_left = omega (arith, w.k_left, ap length s.arcs_are);
        make_route = ap (λ l. reverse_aux l w.done) (sym s.arcs_are) ∙ w.make_route;
        arcs_are = rw split (set_at (take p before) (get_or before p 0) behind a p (length-take-le p before (omega arith)));
        k_fits = omega arith;
        arcs_long = length-set arcs p a ∙ w.arcs_long;
      }
