-- Following predecessors through the tables, for the contracts inside the crate.
use Rattle.std.specs.Prelude.{ℕ, ◌≤◌, ◌<◌, ◌≡◌, List, [], ◌∷◌, reverse, length, get_or, Result, Ok, Err}
use Rattle.model.specs.Routes.{arcs_back}
use Rattle.model.specs.Rules.{written}
use Rattle.model.specs.Ticks.{never}
use Rattle.refusals.specs.declared.refusal.Refusal.TheVariants.{Destination, Unreached, ArcListLength}
use Rattle.refusals.specs.declared.refusal.Refusal.{Refusal}
use Rattle.routing.specs.declared.route.Routed.{Routed}
use Rattle.routing.specs.declared.route.WayBack.{WayBack}

-- The arcs from a junction back to the source, the last arc first.
abbrev pub back_from : List ℕ → ℕ → List ℕ → ℕ → List ℕ
back_from tails source predecessors j = arcs_back (λ a. get_or tails a 0) source predecessors (length predecessors) j

-- The tables have the junction's predecessor, and that arc's tail.
pub record HasStep (tails predecessors : List ℕ) (j : ℕ) : Type 0 where
  pub has_predecessor : j < length predecessors
  pub has_tail : get_or predecessors j 0 < length tails

-- The junction's predecessor, and that arc's tail.
pub record StepIs (tails predecessors : List ℕ) (j : ℕ) (step : ℕ × ℕ) : Type 0 where
  pub arc_is : step.0 ≡ get_or predecessors j 0
  pub tail_is : step.1 ≡ get_or tails (get_or predecessors j 0) 0

-- The predecessors lead from the junction by these arcs to the source, through entries that the tables have.
pub data Leads (tails : List ℕ) (source : ℕ) (predecessors : List ℕ) : ℕ → List ℕ → Type 0 where
  here : Leads tails source predecessors source []
  back : (j : ℕ) {arcs : List ℕ} → (j ≡ source → ⊥) → HasStep tails predecessors j →
      Leads tails source predecessors (get_or tails (get_or predecessors j 0) 0) arcs → Leads tails source predecessors j (get_or predecessors j 0 ∷ arcs)

-- The same of the tables as the code holds them.
abbrev pub way_from : WayBack → ℕ → List ℕ
way_from b j = back_from b.tails.now b.source b.predecessors.now j

abbrev pub LeadsBack : WayBack → ℕ → Type 0
LeadsBack b j = Leads b.tails.now b.source b.predecessors.now j (way_from b j)

-- ---- From the tables to the answer

pub record Reached (labels : List ℕ) (destination : ℕ) : Type 0 where
  pub is_junction : destination < length labels
  pub has_label : get_or labels destination 0 ≡ never → ⊥

-- What is answered, and what the list then holds, where the way back has these arcs: the destination is no junction, or is unreached,
-- or the list is shorter than the way; otherwise the arcs stand at its start in driving order.
pub data Follows (labels : List ℕ) (destination : ℕ) (way arcs : List ℕ) : Result Routed Refusal → List ℕ → Type 0 where
  no_junction : length labels ≤ destination → Follows labels destination way arcs (Err Destination) arcs
  unreached : destination < length labels → get_or labels destination 0 ≡ never → Follows labels destination way arcs (Err Unreached) arcs
  too_short : Reached labels destination → length arcs < length way → Follows labels destination way arcs (Err ArcListLength) arcs
  found : Reached labels destination → length way ≤ length arcs → {count : ℕ} → count ≡ length way → {arcs' : List ℕ} → arcs' ≡ written (reverse way) arcs →
      Follows labels destination way arcs (Ok (record { count = count; arrival = get_or labels destination 0 })) arcs'
