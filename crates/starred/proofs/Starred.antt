-- Every starred row holds: its rules are tests that compute, and so does its arrival, tick by tick, but for the row that stands until
-- midnight: there the law of the flow over a piece of constant speed gives it. The sample town's network is read off its text, and its labels
-- are computed from that network.
use Prim.Native.Nat.{ℕ, ◌<◌}
use mathlib.Core.Path.{◌≡◌, refl, sym, ap, subst, ◌∙◌}
use mathlib.Core.Bool.{true, false}
use mathlib.Core.List.{List, [], ◌∷◌, flatten}
use Rattle.std.specs.Prelude.{Some}
use native.Mathlib.Omega.{arith}
use lib.Dec.{ltb}
use lib.ListN.{get_or}
use borrow.Author.Tests.{ltb-true}
use Rattle.model.specs.Ticks.{day}
use Rattle.model.specs.Closures.{closed?, with_closures}
use Rattle.model.specs.Flow.{covered, first_tick, arrival}
use Rattle.model.specs.Holds.{arrival_with_hold}
use Rattle.model.specs.Intervals.{FencesKept, interval_of_lem, passed, speed_at, tick_and_interval?}
use Rattle.model.specs.Labels.{offer, offers, within, labels_of}
use Rattle.model.specs.Network.{Network, network, net_of, speed_on, drive_of}
use Rattle.model.specs.NetworkRules.{ends_keep_lem, network_check_lem}
use Rattle.model.specs.Rules.{replied, first_broken, every, rise_from, fences_keep_lem}
use Rattle.model.proofs.Holds.{no_hold_law}
use Rattle.model.proofs.IntervalPieces.{interval_is_piece}
use Rattle.model.proofs.NetworkRules.{accepts_when_kept}
use Rattle.model.proofs.Pieces.{arrival_over_piece}
use Rattle.model.proofs.Rules.{every_at, fences_kept}
use Rattle.checking.proofs.QuestionRules.{no_closures_keep}
use Rattle.dijkstra.specs.Labelable.{Labelable}
use Rattle.labelling.proofs.LabelRules.{labels_replies_when_labelable}
use Rattle.arc_arrival.specs.ArcArrival.{arc_arrival_lem}
use Rattle.townfile.specs.Bytes.{up_to, on_first, pieces}
use Rattle.townfile.specs.Numbers.{decimal_from, number_keeps}
use Rattle.townfile.specs.Lines.{first_two, mark_of, name_keeps, form_keeps, values_keep, line_read, line_answer}
use Rattle.townfile.specs.FirstFault.{refused_at, accepted, lines_from, first_fault}
use Rattle.townfile.specs.Grammar.{Bytes, DescribesTown, network_of, joined}
use Rattle.townfile.specs.Tables.{marked, town_of}
use Rattle.townfile.specs.Load.{Tables, load_answer, tables_after}
use Rattle.townfile.specs.declared.progress.Progress.{Progress}
use Rattle.townfile.proofs.Described.{describes_when_faultless}
use Rattle.starred.specs.Rows.{Row, LabelsAre, Claims, ◌also◌, no_more, sample_text, sample_without_comment, StarredRows}

-- From midnight on the first tick covers the rest.
driven_on : arrival (speed_at (0 ∷ 100 ∷ []) (36 ∷ 0 ∷ [])) 36 day ≡ 864001
unfolding speed_at interval_of_lem passed arrival first_tick covered
driven_on = refl

-- An arc that comes to stand short of its end is driven on after midnight: its two intervals are pieces of constant speed.
standing_row : Claims (Row.arc 2 (0 ∷ 100 ∷ []) (36 ∷ 0 ∷ []) 99 0 (Some (864001, 0)))
unfolding arc_arrival_lem first_broken rise_from fences_keep_lem interval_of_lem passed
standing_row = ap (λ (t : ℕ). replied (tick_and_interval? (0 ∷ 100 ∷ []) t)) (no_hold_law v 72 99 ∙ moves ∙ stands ∙ driven_on)
  where
    v : ℕ → ℕ
    v = speed_at (0 ∷ 100 ∷ []) (36 ∷ 0 ∷ [])

    kept : FencesKept (0 ∷ 100 ∷ [])
    kept = fences_kept (0 ∷ 100 ∷ []) refl

    moves : arrival v 72 99 ≡ arrival v 36 100
    moves = arrival_over_piece v 99 100 36 72 (interval_is_piece (0 ∷ 100 ∷ []) kept 99 0 (omega arith) refl 0 (omega arith) (36 ∷ 0 ∷ [])) (omega arith)

    stands : arrival v 36 100 ≡ arrival v 36 day
    stands = arrival_over_piece v 100 day 0 36 (interval_is_piece (0 ∷ 100 ∷ []) kept 100 1 (omega arith) refl 0 (omega arith) (36 ∷ 0 ∷ [])) (omega arith)

labels_are : (N : Network) → N.closures ≡ [] → (source departure : ℕ) (expected : List ℕ) → network_check_lem N ≡ replied tt → source < N.junctions → departure < day →
    labels_of (net_of N) source departure ≡ expected → LabelsAre N source departure expected
labels_are N none source departure expected checked source_below departure_below computed asker known labels predecessors labels_long predecessors_long =
    let q : Labelable N source departure labels predecessors = record {
      taken = record { accepted = (accepts_when_kept N).0 checked; closures_kept = no_closures_keep none; source_below = source_below; departure_below = departure_below };
      labels_long = labels_long;
      predecessors_long = predecessors_long;
    } in
    let answer = (labels_replies_when_labelable N asker source departure labels predecessors).1 (known, q) in
    (answer, rw (answer, none) (rw none at computed))

-- A text whose scan computes describes the town that its lines give.
describes : (text : List ℕ) (p : Progress) → every (λ byte. ltb byte 256) text ≡ true → first_fault text ≡ accepted p → DescribesTown text (town_of text)
describes text p small faultless =
    let bytes : Bytes text = λ i h. ltb-true (get_or text i 0) 256 (every_at (λ byte. ltb byte 256) 0 text small i h) in
    (p.held, (describes_when_faultless text bytes p.held (town_of text)).1 ((p, faultless, refl), refl))

-- Texts that describe one town load alike.
loads_alike : (text text' : List ℕ) (p : Progress) → first_fault text ≡ accepted p → first_fault text' ≡ accepted p → town_of text ≡ town_of text' → (lent : Tables) →
    (load_answer text lent ≡ load_answer text' lent) × (tables_after text lent ≡ tables_after text' lent)
unfolding load_answer tables_after
loads_alike text text' p a b same lent = (rw (a, b), rw (a, b, same))

refused_text : (text : List ℕ) (number line : ℕ) → first_fault text ≡ refused_at number line → (lent : Tables) →
    (load_answer text lent ≡ refused_at number line) × (tables_after text lent ≡ lent)
unfolding load_answer tables_after
refused_text text number line e lent = (rw e, rw e)

-- ---- The sample town

sample_read : Progress
sample_read = record { turn = 3; held = false; junctions = 3; intervals = 2; unnamed = 1; arcs = 3 }

scanned : (first_fault sample_text ≡ accepted sample_read) × (first_fault sample_without_comment ≡ accepted sample_read)
unfolding sample_read joined first_broken rise_from fences_keep_lem up_to on_first pieces decimal_from number_keeps first_two mark_of name_keeps form_keeps values_keep
    line_read line_answer lines_from first_fault
scanned = (refl, refl)

same_town : town_of sample_text ≡ town_of sample_without_comment
unfolding joined pieces up_to on_first decimal_from first_two mark_of marked town_of flatten
same_town = refl

sample_described : DescribesTown sample_text (town_of sample_text)
unfolding joined
sample_described = describes sample_text sample_read refl scanned.0

-- The network that the lines give.
abbrev sample_network : Network
sample_network = network 3 (0 ∷ 100 ∷ []) (0 ∷ 0 ∷ 1 ∷ []) (1 ∷ 2 ∷ 2 ∷ []) (50 ∷ 100 ∷ 50 ∷ []) (0 ∷ 0 ∷ 0 ∷ []) (36 ∷ 18 ∷ 40 ∷ 20 ∷ 36 ∷ 36 ∷ []) []

sample_network_law : network_of (town_of sample_text) ≡ sample_network
unfolding joined pieces up_to on_first decimal_from first_two mark_of marked town_of flatten
sample_network_law = refl

sample_checked : network_check_lem sample_network ≡ replied tt
unfolding network_check_lem first_broken rise_from fences_keep_lem ends_keep_lem
sample_checked = refl

sample_labels : labels_of (net_of sample_network) 0 10 ≡ 10 ∷ 60 ∷ 100 ∷ []
unfolding labels_of within offers offer drive_of arrival_with_hold speed_on with_closures closed? speed_at interval_of_lem passed arrival first_tick covered
sample_labels = refl

town_row : Claims (Row.town sample_text 0 10 (10 ∷ 60 ∷ 100 ∷ []))
town_row =
    let labelled = labels_are sample_network refl 0 10 (10 ∷ 60 ∷ 100 ∷ []) sample_checked (omega arith) (omega arith) sample_labels in
    (town_of sample_text, sample_described, subst (λ (N : Network). LabelsAre N 0 10 (10 ∷ 60 ∷ 100 ∷ [])) (sym sample_network_law) labelled)

alike_row : Claims (Row.alike sample_text sample_without_comment)
unfolding joined
alike_row = (
  town_of sample_text,
  sample_described,
  rw same_town (describes sample_without_comment sample_read refl scanned.1),
  loads_alike sample_text sample_without_comment sample_read scanned.0 scanned.1 same_town,
)

-- ---- All rows

empty_row : Claims (Row.refuses [] 27 1)
unfolding pieces lines_from first_fault
empty_row = refused_text [] 27 1 refl

pub starred_rows : StarredRows
unfolding arc_arrival_lem arrival_with_hold first_broken rise_from fences_keep_lem speed_at interval_of_lem passed arrival first_tick covered
starred_rows =
    refl
    also refl
    also refl
    also refl
    also refl
    also standing_row
    also refl
    also refl
    also town_row
    also alike_row
    also empty_row
    also no_more
