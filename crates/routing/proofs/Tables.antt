-- The tables that Labels leaves to Route: where it refuses, Route refuses alike; where it writes, the predecessors lead back to the
-- source, and what following them comes to is what Route's own rules say.
use Prim.Native.Nat.{ℕ, ◌≤◌, ◌<◌}
use mathlib.Core.Path.{◌≡◌, refl, sym, ap, ◌∙◌}
use mathlib.Core.List.{List, reverse}
use Rattle.std.specs.Prelude.{Option, Result}
use mathlib.Core.Logic.{by_cases}
use native.Mathlib.Decide.{dec_lt}
use native.Mathlib.Omega.{arith}
use lib.ListN.{length, get_or, length-reverse}
use lib.Seq.{length-take-le}
use borrow.Author.Tests.{lt-ltb, le-ltb, eq-eqb, ne_eqb, lt-leb}
use Rattle.model.specs.Ticks.{never, last}
use Rattle.model.specs.Limits.{max_junctions}
use Rattle.model.specs.Network.{Network, network_for, Accepted, net_of}
use Rattle.model.specs.Parties.{KnownAsker}
use Rattle.model.specs.Demands.{label}
use Rattle.model.specs.Labels.{no_arc, labels_of, predecessors_of, Certified}
use Rattle.model.specs.Routes.{route_of}
use Rattle.model.specs.Rules.{Outcome, refused, replied, first_broken, AllKept, written}
use Rattle.model.proofs.Networks.{accepted_sound}
use Rattle.model.proofs.OnlyTables.{labels_certified}
use Rattle.model.proofs.Routes.{all_back, route_reverses, whole}
use Rattle.model.proofs.Trails.{Trail, here, back}
use Rattle.model.proofs.Rules.{refused_before}
use Rattle.checking.specs.Question.{question_rules, question_check_lem, Taken}
use Rattle.checking.proofs.QuestionRules.{taken_kept, taken_for}
use Rattle.labelling.specs.Labels.{buffer_rules, labels_answer}
use Rattle.labelling.specs.Within.{front, answer_within, labels_within_lem, predecessors_within}
use Rattle.labelling.proofs.Front.{labels_front, predecessors_front}
use Rattle.labelling.proofs.LabelRules.{answered}
use Rattle.model.proofs.Entries.{get_or-inside}
use Rattle.routing.specs.Code.Following.{back_from, HasStep, Leads, Reached, Follows, no_junction, unreached, too_short, found}
use Rattle.routing.specs.Route.{route_outcome, arrival_of, route_answer, route_arrival, arcs_after}
use Rattle.refusals.specs.declared.refusal.Refusal.{Refusal}
use Rattle.routing.specs.declared.route.Routed.{Routed}
use Rattle.routing.proofs.RouteRules.{route, own, own_decides, replies}

-- An answer together with the arrival and with what the list holds afterwards.
abbrev Ends : Network → ℕ → ℕ → ℕ → ℕ → List ℕ → Outcome ℕ → Option ℕ → List ℕ → Type 0
Ends N asker source departure destination arcs outcome arrival arcs' =
    (outcome ≡ route_answer N asker source departure destination arcs)
    × ((arrival ≡ route_arrival N asker source departure destination arcs) × (arcs' ≡ arcs_after N asker source departure destination arcs))

-- ---- The call of Labels

-- The tables as Labels leaves them, with an entry for each junction.
pub record TablesLeft (N : Network) (asker source departure : ℕ) (labels predecessors : List ℕ) : Type 0 where
  pub known : KnownAsker asker
  pub asked : Taken N source departure
  pub labels_are : labels ≡ labels_of (net_of (network_for N asker)) source departure
  pub predecessors_are : predecessors ≡ predecessors_of (net_of (network_for N asker)) source departure

module _ (N : Network) (asker source departure : ℕ) where
  -- A count for which they have no room is refused by the first rule.
  many_refused : max_junctions < N.junctions → question_check_lem N asker source departure ≡ refused 1
  unfolding question_check_lem first_broken
  many_refused many = rw (lt-ltb 0 N.junctions (omega arith), lt-leb N.junctions max_junctions many)

  module _ (labels predecessors : List ℕ) where
    refused_alike : {number : ℕ} → question_check_lem N asker source departure ≡ refused number → labels_answer N asker source departure labels predecessors ≡ refused number
    unfolding labels_answer question_check_lem
    refused_alike {number} e = refused_before (question_rules N asker source departure) (buffer_rules N labels predecessors) tt tt number e

    long_alike : length labels ≡ N.junctions → length predecessors ≡ N.junctions → labels_answer N asker source departure labels predecessors ≡ question_check_lem N asker source departure
    unfolding labels_answer question_check_lem first_broken
    long_alike labels_long predecessors_long =
        rw (eq-eqb (length labels) N.junctions labels_long, eq-eqb (length predecessors) N.junctions predecessors_long)

  -- In tables that have room for every network it answers what the question's rules do.
  module _ (labels predecessors : List ℕ) (labels_room : max_junctions ≤ length labels) (predecessors_room : max_junctions ≤ length predecessors) where
    within_asks : answer_within N asker source departure labels predecessors ≡ question_check_lem N asker source departure
    within_asks =
        let l = front N labels in
        let p = front N predecessors in
        by_cases (dec_lt max_junctions N.junctions)
        (λ many. let first = many_refused many in refused_alike l p first ∙ sym first)
        (λ few. long_alike l p (length-take-le N.junctions labels (omega arith)) (length-take-le N.junctions predecessors (omega arith)))

    pub labels_refuse : {number : ℕ} → refused number ≡ answer_within N asker source departure labels predecessors → (destination : ℕ) (arcs : List ℕ) →
        refused number ≡ route_answer N asker source departure destination arcs
    unfolding route_answer question_check_lem
    labels_refuse {number} e destination arcs =
        let own = own N asker source departure destination arcs in
        let count = length (route N asker source departure destination arcs) in
        sym (refused_before (question_rules N asker source departure) own tt count number (sym (e ∙ within_asks)))

    pub tables_left : replied tt ≡ answer_within N asker source departure labels predecessors → {labels' predecessors' : List ℕ} →
        labels' ≡ labels_within_lem N asker source departure labels predecessors → predecessors' ≡ predecessors_within N asker source departure labels predecessors →
        TablesLeft N asker source departure (front N labels') (front N predecessors')
    tables_left e labels_end predecessors_end =
        let (known, labelable) = answered N asker source departure (front N labels) (front N predecessors) (sym e) in
        record {
          known = known;
          asked = labelable.taken;
          labels_are = rw (← e) at (ap (front N) labels_end ∙ labels_front N asker source departure labels predecessors);
          predecessors_are = rw (← e) at (ap (front N) predecessors_end ∙ predecessors_front N asker source departure labels predecessors);
        }

-- ---- Following them

trail_leads : (N : Network) → Accepted N → (source : ℕ) (labels predecessors : List ℕ) → length predecessors ≡ N.junctions → {j : ℕ} {arcs : List ℕ} →
    Trail (net_of N) source labels predecessors j arcs → Leads N.tails source predecessors j arcs
trail_leads N accepted source labels predecessors long here = Leads.here
trail_leads N accepted source labels predecessors long (back j other at rest) =
    let inside : j < length predecessors = omega (arith, at.into, accepted.head_below (get_or predecessors j no_arc) at.is_arc) in
    let same = get_or-inside predecessors j no_arc 0 inside in
    let has : HasStep N.tails predecessors j = record { has_predecessor = inside; has_tail = rw same at at.is_arc } in
    rw same (Leads.back j other has (rw same at (trail_leads N accepted source labels predecessors long rest)))

module _ {N : Network} {asker source departure : ℕ} {labels predecessors : List ℕ} (t : TablesLeft N asker source departure labels predecessors) where
  -- The network as the asker finds it.
  abbrev M : Network
  M = network_for N asker

  pub taken : Taken M source departure
  taken = taken_for asker t.asked

  kept : AllKept (question_rules N asker source departure)
  kept = taken_kept N asker source departure t.known t.asked

  in_time : departure ≤ last
  in_time = omega (arith, taken.departure_below)

  certified : Certified (net_of M) source departure labels predecessors
  certified =
      rw (t.labels_are, t.predecessors_are)
      (labels_certified (net_of M) (accepted_sound M taken.accepted) source departure taken.source_below in_time)

  pub few : length predecessors ≤ max_junctions
  few = omega (arith, certified.predecessors_long, taken.accepted.junctions_fit)

  module _ (destination : ℕ) where
    abbrev way : List ℕ
    way = back_from N.tails source predecessors destination

    way_is : way ≡ all_back (net_of M) source departure destination
    way_is = rw (certified.predecessors_long, t.predecessors_are)

    route_is : reverse way ≡ route_of (net_of M) source departure destination
    route_is = ap reverse way_is ∙ sym (route_reverses (net_of M) source departure destination)

    route_long : length way ≡ length (route_of (net_of M) source departure destination)
    route_long = sym (length-reverse way) ∙ ap length route_is

    below : destination < length labels → destination < N.junctions
    below inside = omega (arith, certified.labels_long)

    -- The destination's label, as it stands in the table.
    label_is : destination < length labels → label M source departure destination ≡ get_or labels destination 0
    label_is inside = ap (λ l. get_or l destination never) (sym (t.labels_are)) ∙ get_or-inside labels destination never 0 inside

    has_label : Reached labels destination → label M source departure destination ≡ never → ⊥
    has_label r e = r.has_label (sym (label_is r.is_junction) ∙ e)

    pub leads : Reached labels destination → Leads N.tails source predecessors destination way
    leads r =
        let sound = accepted_sound M taken.accepted in
        let trail = whole (net_of M) sound source departure taken.source_below in_time destination (below r.is_junction) (has_label r) in
        rw way_is
        (trail_leads M taken.accepted source labels predecessors certified.predecessors_long
        (rw (t.labels_are, t.predecessors_are) trail))

    -- Each test of Route's own rules, as following finds it.
    pub follows_ends : {arcs arcs' : List ℕ} {answer : Result Routed Refusal} → Follows labels destination way arcs answer arcs' →
        Ends N asker source departure destination arcs (route_outcome answer) (arrival_of answer) arcs'
    unfolding first_broken
    follows_ends {arcs} (no_junction outside) =
        let unknown = le-ltb destination N.junctions (omega (arith, certified.labels_long)) in
        rw (own_decides N asker source departure destination arcs kept, unknown) (refl, (refl, refl))
    follows_ends {arcs} (unreached inside e) =
        let known = lt-ltb destination N.junctions (below inside) in
        let never-there = eq-eqb (label M source departure destination) never (label_is inside ∙ e) in
        rw (own_decides N asker source departure destination arcs kept, known, never-there) (refl, (refl, refl))
    follows_ends {arcs} (too_short r short) =
        let known = lt-ltb destination N.junctions (below r.is_junction) in
        let there = ne_eqb (label M source departure destination) never (has_label r) in
        let no_room = lt-ltb (length arcs) (length (route_of (net_of M) source departure destination)) (omega (arith, route_long)) in
        rw (own_decides N asker source departure destination arcs kept, known, there, no_room) (refl, (refl, refl))
    follows_ends {arcs} (found r room same is) =
        rw (replies N asker source departure destination arcs kept (below r.is_junction) (has_label r) (omega (arith, route_long)))
        (ap replied (same ∙ route_long), (rw (label_is r.is_junction), is ∙ ap (λ l. written l arcs) route_is))
