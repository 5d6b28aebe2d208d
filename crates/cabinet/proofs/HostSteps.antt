-- The host question's steps: each ends in its refusal's code or hands on.
use Prim.Native.Nat.{ℕ, ◌+◌}
use mathlib.Core.Path.{◌≡◌}
use mathlib.Core.List.{List}
use Rattle.std.specs.Prelude.{Option, Some}
use Rattle.model.specs.Demands.{label}
use Rattle.model.specs.Network.{Network, network_for}
use Rattle.model.specs.Parties.{brigade}
use Rattle.refusals.specs.Refusals.{refusal_base}
use Rattle.model.specs.Rules.{refused, replied}
use Rattle.routing.specs.Route.{route_answer, route_arrival}
use Rattle.townfile.specs.FirstFault.{refused_at, accepted}
use Rattle.townfile.specs.Grammar.{network_of}
use Rattle.townfile.specs.Tables.{town_of}
use Rattle.townfile.specs.Load.{roomy_tables, load_answer}
use Rattle.townfile.specs.declared.counts.Counts.{Counts}
use Rattle.cabinet.specs.Host.{host_list, after_route, label_or_code, host_answer}

module _ (N : Network) (source departure destination : ℕ) where
  pub route_refuses : {number : ℕ} → refused number ≡ route_answer N brigade source departure destination host_list → refusal_base + number ≡ label_or_code N source departure destination
  route_refuses e = rw (← e)

  -- The label is that of the network as the brigade finds it, which a town's network is.
  pub route_arrives : {count arrival : ℕ} → replied count ≡ route_answer N brigade source departure destination host_list →
      Some arrival ≡ route_arrival N brigade source departure destination host_list →
      arrival ≡ after_route (route_answer N brigade source departure destination host_list) (label (network_for N brigade) source departure destination)
  route_arrives e arrives = rw (← e) (same (rw (← e) at arrives))
    where
      same : {a b : ℕ} → ◌≡◌ {A = Option ℕ} (Some a) (Some b) → a ≡ b
      same e = cc

module _ (text : List ℕ) (source departure destination : ℕ) where
  pub load_refuses : {number line : ℕ} → refused_at number line ≡ load_answer text roomy_tables → refusal_base + number ≡ host_answer text source departure destination
  unfolding host_answer
  load_refuses e = rw (← e)

  pub load_hands_on : {reply : Counts} → accepted reply ≡ load_answer text roomy_tables →
      label_or_code (network_of (town_of text)) source departure destination ≡ host_answer text source departure destination
  unfolding host_answer
  load_hands_on e = rw (← e)
