-- "Host question, called from the cabinet's C program: town text as bytes, source, departure, destination. It loads into tables of
-- its own, long enough for every file, then answers as Route with enough space for the route. A refusal in either step ends the
-- host question at once, as 4,294,900,000 + its number; otherwise the result is the destination's label."
use Rattle.std.specs.Prelude.{ℕ, ◌+◌, ◌≤◌, ◌<◌, ◌≡◌, List, ◌↔◌, replicate}
use Rattle.model.specs.Limits.{max_junctions}
use Rattle.model.specs.Ticks.{day}
use Rattle.model.specs.Network.{Network, net_of}
use Rattle.model.specs.Parties.{brigade}
use Rattle.model.specs.Walks.{Net, Arrives, ArrivesWaiting}
use Rattle.model.specs.Demands.{label}
use Rattle.refusals.specs.Refusals.{refusal_base}
use Rattle.model.specs.Rules.{Outcome, refused, replied}
use Rattle.routing.specs.Route.{route_answer}
use Rattle.townfile.specs.FirstFault.{Reading, refused_at, accepted}
use Rattle.townfile.specs.Grammar.{Bytes, Town, DescribesTown, network_of}
use Rattle.townfile.specs.Tables.{town_of}
use Rattle.townfile.specs.Load.{roomy_tables, load_answer}
use Rattle.townfile.specs.declared.counts.Counts.{Counts}

-- The list for the route, before anything is written.
abbrev pub host_list : List ℕ
host_list = replicate max_junctions 0

-- The steps, each a refusal's code or what follows.
abbrev pub after_load : Reading Counts → ℕ → ℕ
after_load (refused_at number line) next = refusal_base + number
after_load (accepted counts) next = next

abbrev pub after_route : Outcome ℕ → ℕ → ℕ
after_route (refused number) next = refusal_base + number
after_route (replied count) next = next

-- "Answers as Route with enough space for the route." A town has no closures, so that the brigade, which asks, finds it as it is.
abbrev pub label_or_code : Network → ℕ → ℕ → ℕ → ℕ
label_or_code N source departure destination = after_route (route_answer N brigade source departure destination host_list) (label N source departure destination)

unfoldable pub host_answer : List ℕ → ℕ → ℕ → ℕ → ℕ
host_answer text source departure destination = after_load (load_answer text roomy_tables) (label_or_code (network_of (town_of text)) source departure destination)

-- ---- What is proved of it

-- The refusals that it can end in: Load's 20 to 27, then 9, 10, 12 and 13.
pub data HostRefusal : ℕ → Type 0 where
  text : (number : ℕ) → 20 ≤ number → number ≤ 27 → HostRefusal number
  source : HostRefusal 9
  departure : HostRefusal 10
  destination : HostRefusal 12
  unreached : HostRefusal 13

-- Of a text of bytes the host question ends in no other refusal: its tables and its list are never too short (28, 14), and no town's network is
-- refused (1 to 8, 32), nor its empty list of closures (36 to 38), nor the brigade (39).
abbrev pub HostRefusesOnly : Type 0
HostRefusesOnly = (text : List ℕ) → Bytes text → (source departure destination number : ℕ) →
    host_answer text source departure destination ≡ refusal_base + number → HostRefusal number

-- A tick is the earliest arrival at a junction over all walks from the source, also over those that wait.
pub record EarliestAt (N : Net) (source departure j tick : ℕ) : Type 0 where
  pub attained : Arrives N source departure j tick
  pub no_sooner : (t : ℕ) → Arrives N source departure j t → tick ≤ t
  pub no_sooner_waiting : (t : ℕ) → ArrivesWaiting N source departure j t → tick ≤ t

-- What an answer below the codes says: the text describes a town, the source and the destination are junctions of it, the departure
-- lies in the day, and the answer is the earliest arrival.
pub record Answers (text : List ℕ) (source departure destination tick : ℕ) : Type 0 where
  pub town : Town
  pub described : DescribesTown text town
  pub source_below : source < town.junctions
  pub departure_below : departure < day
  pub destination_below : destination < town.junctions
  pub earliest : EarliestAt (net_of (network_of town)) source departure destination tick

-- An answer below the codes is the earliest arrival in the town that the text describes, and there is no other way to get one.
abbrev pub HostAnswersEarliest : Type 0
HostAnswersEarliest = (text : List ℕ) → Bytes text → (source departure destination tick : ℕ) →
    ((host_answer text source departure destination ≡ tick) × (tick < refusal_base)) ↔ Answers text source departure destination tick
