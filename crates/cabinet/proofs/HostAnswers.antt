-- The host question is answered from the town that the text describes: the tables have room for every town, so that Load refuses only
-- with a fault of the text; the town's network is accepted, so that Route refuses only a question; and what is left is the
-- destination's label, which is the earliest arrival and lies below the codes.
use Prim.Native.Nat.{ℕ, zero, suc, ◌+◌, ◌≤◌, ◌<◌}
use mathlib.Core.Path.{◌≡◌, refl, sym, subst, ◌∙◌}
use mathlib.Core.Bool.{false}
use mathlib.Core.List.{List, ◌++◌}
use mathlib.Core.Logic.{◌⊎◌, inl, inr}
use native.Mathlib.Omega.{arith}
use lib.ListN.{length, get_or, take}
use borrow.Author.Tests.{not-false, ltb-true, eqb-false}
use Rattle.model.specs.Ticks.{day, last, never}
use Rattle.model.specs.Limits.{max_junctions}
use Rattle.model.specs.Network.{Network, Accepted, net_of}
use Rattle.model.specs.Parties.{brigade}
use Rattle.model.specs.Demands.{label}
use Rattle.model.specs.Routes.{route_of}
use Rattle.refusals.specs.Refusals.{refusal_base}
use Rattle.model.specs.Rules.{Outcome, refused, replied, Rule, ◌if◌, AllKept}
use Rattle.model.proofs.Demands.{demand_2}
use Rattle.model.proofs.Walks.{arrives_by_last}
use Rattle.model.proofs.Rules.{refused_exactly_when, kept_before}
use Rattle.checking.specs.ClosedNetwork.{closed_network_rules}
use Rattle.checking.specs.Question.{start_rules}
use Rattle.checking.proofs.QuestionRules.{no_closures_keep, open_kept}
use Rattle.routing.specs.Route.{Routable, destination_rules, found_rules, route_answer}
use Rattle.routing.proofs.RouteRules.{route_replies_when_routable, room_for_every_route}
use Rattle.townfile.specs.FirstFault.{Reading, refused_at, accepted, first_fault}
use Rattle.townfile.specs.Grammar.{Bytes, Town, DescribesTown, network_of}
use Rattle.townfile.specs.Load.{roomy_tables, load_answer}
use Rattle.townfile.specs.declared.progress.Progress.{Progress}
use Rattle.townfile.proofs.Described.{described_town, faultless_described}
use Rattle.townfile.proofs.FaultNumbers.{Fault, text_fault}
use Rattle.townfile.proofs.Held.{zeros_long, town_loads}
use Rattle.cabinet.specs.Host.{host_list, after_route, label_or_code, host_answer, HostRefusal, HostRefusesOnly, EarliestAt, Answers, HostAnswersEarliest}

-- A text describes a town, or Load refuses it for a fault.
abbrev TownOrFault : List ℕ → Type 0
TownOrFault text = ((T : Town) × DescribesTown text T) ⊎ ((number : ℕ) × (line : ℕ) × (load_answer text roomy_tables ≡ refused_at number line) × Fault number)

loads : (text : List ℕ) → Bytes text → TownOrFault text
unfolding load_answer
loads text bytes = go (first_fault text) refl
  where
    go : (reading : Reading Progress) → first_fault text ≡ reading → TownOrFault text
    go (refused_at number line) e = inr (number, line, rw e, text_fault text number line e)
    go (accepted p) e = let found = faultless_described bytes e in inl (found.0, (p.held, found.1))

-- ---- The answer

-- a town's network has no closures, so that the brigade finds it as it is
module _ (T : Town) (kept : Accepted (network_of T)) (source departure destination : ℕ) where
  abbrev N : Network
  N = network_of T

  abbrev answer : Outcome ℕ
  answer = route_answer N brigade source departure destination host_list

  abbrev arrival : ℕ
  arrival = label N source departure destination

  label_earliest : Routable N brigade source departure destination host_list → EarliestAt (net_of N) source departure destination arrival
  label_earliest r =
      let d = demand_2 N kept source departure r.taken.source_below r.taken.departure_below in
      record {
        attained = d.attained destination r.destination_below r.reached;
        no_sooner = λ t walk. d.no_sooner destination t walk;
        no_sooner_waiting = λ t walk. d.no_sooner_waiting destination t walk;
      }

  label_below : Routable N brigade source departure destination host_list → arrival < refusal_base
  label_below r = omega (arith, arrives_by_last {departure = departure} (omega (arith, r.taken.departure_below)) (label_earliest r).attained)

  answered_routable : (count : ℕ) → answer ≡ replied count → Routable N brigade source departure destination host_list
  answered_routable count e = ((route_replies_when_routable N brigade source departure destination host_list count).0 e).0

  -- The list has room for every route.
  route_found : source < N.junctions → departure < day → destination < N.junctions → (arrival ≡ never → ⊥) →
      answer ≡ replied (length (route_of (net_of N) source departure destination))
  route_found source_below departure_below destination_below reached =
      room_for_every_route N brigade source departure destination host_list
      (inl refl) (record { accepted = kept; closures_kept = no_closures_keep refl; source_below = source_below; departure_below = departure_below })
      destination_below reached (zeros_long max_junctions (omega arith))

  earliest_answered : source < N.junctions → departure < day → destination < N.junctions → {tick : ℕ} →
      EarliestAt (net_of N) source departure destination tick → after_route answer arrival ≡ tick
  earliest_answered source_below departure_below destination_below {tick} earliest =
      let d = demand_2 N kept source departure source_below departure_below in
      let reached : arrival ≡ never → ⊥ = λ e. d.unreached destination tick e earliest.attained in
      let sooner = d.no_sooner destination tick earliest.attained in
      let later = earliest.no_sooner arrival (d.attained destination destination_below reached) in
      rw (route_found source_below departure_below destination_below reached) (omega (arith, sooner, later))

  -- Of the rules behind the network's, the last is never broken.
  abbrev rules : List Rule
  rules = start_rules N source departure ++ (destination_rules N destination ++ found_rules N source departure destination host_list)

  rule_refusal : (k : ℕ) {number : ℕ} → k < 5 → AllKept (take k rules) → (get_or rules k (0 if false)).number ≡ number → answer ≡ refused number → HostRefusal number
  rule_refusal zero h before e r = subst HostRefusal e HostRefusal.source
  rule_refusal (suc zero) h before e r = subst HostRefusal e HostRefusal.departure
  rule_refusal (suc (suc zero)) h before e r = subst HostRefusal e HostRefusal.destination
  rule_refusal (suc (suc (suc zero))) h before e r = subst HostRefusal e HostRefusal.unreached
  rule_refusal (suc (suc (suc (suc zero)))) h before e r =
      let (from, (at, (to, (label, _)))) = before in
      let source_below = ltb-true source N.junctions (not-false _ from) in
      let departure_below = ltb-true departure day (not-false _ at) in
      let destination_below = ltb-true destination N.junctions (not-false _ to) in
      let reached = eqb-false arrival never label in
      let replies = route_found source_below departure_below destination_below reached in
      absurd (let z : ◌≡◌ {A = ℕ} 0 1 = cc in omega arith)
  rule_refusal (suc (suc (suc (suc (suc k))))) h before e r = absurd (omega arith)

  route_refusal : (number : ℕ) → answer ≡ refused number → HostRefusal number
  unfolding route_answer
  route_refusal number e =
      let at = (refused_exactly_when ℕ rules _ number).0 (sym (kept_before (closed_network_rules N brigade) rules _ (open_kept N refl kept)) ∙ e) in
      rule_refusal at.0 at.1 at.2 at.4 e

-- ---- The host's answer

module _ (text : List ℕ) (source departure destination : ℕ) where
  described_answers : {T : Town} → DescribesTown text T → host_answer text source departure destination ≡ label_or_code (network_of T) source departure destination
  unfolding host_answer
  described_answers described = rw (town_loads described.1, described_town described.1)

  fault_answers : {number line : ℕ} → load_answer text roomy_tables ≡ refused_at number line → host_answer text source departure destination ≡ refusal_base + number
  unfolding host_answer
  fault_answers e = rw e

pub host_refuses_only : HostRefusesOnly
host_refuses_only text bytes source departure destination number e = go (loads text bytes)
  where
    routed : (T : Town) → Accepted (network_of T) → (outcome : Outcome ℕ) → route_answer (network_of T) brigade source departure destination host_list ≡ outcome →
        after_route outcome (label (network_of T) source departure destination) ≡ refusal_base + number → HostRefusal number
    routed T kept (refused n) is e = let same : n ≡ number = omega arith in route_refusal T kept source departure destination number (is ∙ rw same)
    routed T kept (replied count) is e =
        absurd (omega (arith, label_below T kept source departure destination (answered_routable T kept source departure destination count is)))

    go : TownOrFault text → HostRefusal number
    go (inl found) = routed found.0 found.1.1.kept.network_accepted _ refl (sym (described_answers text source departure destination found.1) ∙ e)
    go (inr fault) =
        let answer = fault_answers text source departure destination fault.2 in
        HostRefusal.text number (omega (arith, answer, e, fault.3.0)) (omega (arith, answer, e, fault.3.1))

pub host_answers_earliest : HostAnswersEarliest
host_answers_earliest text bytes source departure destination tick = (forward, back)
  where
    routed : {T : Town} → DescribesTown text T → (outcome : Outcome ℕ) → route_answer (network_of T) brigade source departure destination host_list ≡ outcome →
        after_route outcome (label (network_of T) source departure destination) ≡ tick → tick < refusal_base → Answers text source departure destination tick
    routed described (refused number) is e below = absurd (omega arith)
    routed {T} described (replied count) is e below =
        let kept = described.1.kept.network_accepted in
        let r = answered_routable T kept source departure destination count is in
        record {
          town = T;
          described = described;
          source_below = r.taken.source_below;
          departure_below = r.taken.departure_below;
          destination_below = r.destination_below;
          earliest = rw e at (label_earliest T kept source departure destination r);
        }

    forward : (host_answer text source departure destination ≡ tick) × (tick < refusal_base) → Answers text source departure destination tick
    forward answers = go (loads text bytes)
      where
        go : TownOrFault text → Answers text source departure destination tick
        go (inl found) = routed found.1 _ refl (sym (described_answers text source departure destination found.1) ∙ answers.0) answers.1
        go (inr fault) = absurd (omega (arith, fault_answers text source departure destination fault.2, answers.0, answers.1))

    back : Answers text source departure destination tick → (host_answer text source departure destination ≡ tick) × (tick < refusal_base)
    back a =
        let kept = a.described.1.kept.network_accepted in
        let early : departure ≤ last = omega (arith, a.departure_below) in
        let is-tick = earliest_answered a.town kept source departure destination a.source_below a.departure_below a.destination_below a.earliest in
        (described_answers text source departure destination a.described ∙ is-tick, omega (arith, arrives_by_last early a.earliest.attained))
