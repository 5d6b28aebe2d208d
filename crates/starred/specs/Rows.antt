-- "Reckonings to keep. Starred ones form the proved set. A row is length; fences; speeds; departure; arrival." Document 02, order 2: "The
-- starred row with length 2 and departure 99 now arrives at 864,001." By order 3 a row has the interval of the departure and that of the
-- arrival. By order 5 "the rows to keep (..) have hold 0".
use Rattle.std.specs.Prelude.{ℕ, ◌≡◌, List, [], ◌∷◌, ◌++◌, length, Option, None, Some}
use Rattle.model.specs.Network.{Network}
use Rattle.model.specs.Parties.{KnownAsker}
use Rattle.model.specs.Rules.{replied}
use Rattle.arc_arrival.specs.ArcArrival.{arc_arrival_lem}
use Rattle.labelling.specs.Labels.{labels_answer, labels_after}
use Rattle.townfile.specs.Grammar.{Town, DescribesTown, network_of, joined}
use Rattle.townfile.specs.FirstFault.{refused_at}
use Rattle.townfile.specs.Load.{Tables, load_answer, tables_after}

-- A row of an arc, whose arrival is a tick and its interval, or none where the arc cannot be driven; one of a town's text, with its labels;
-- two texts that load alike; and a text that is refused.
pub data Row : Type 0 where
  arc : (metres : ℕ) (fences speeds : List ℕ) (departure interval : ℕ) (arrival : Option (ℕ × ℕ)) → Row
  town : (text : List ℕ) (source departure : ℕ) (expected : List ℕ) → Row
  alike : (text text' : List ℕ) → Row
  refuses : (text : List ℕ) (number line : ℕ) → Row

-- The labels of a network, for either asker and all lent buffers of the right length.
abbrev pub LabelsAre : Network → ℕ → ℕ → List ℕ → Type 0
LabelsAre N source departure expected = (asker : ℕ) → KnownAsker asker → (labels predecessors : List ℕ) → length labels ≡ N.junctions → length predecessors ≡ N.junctions →
    (labels_answer N asker source departure labels predecessors ≡ replied tt) × (labels_after N asker source departure labels predecessors ≡ expected)

-- What a row claims, from the definitions of the operations. The labels of a text are those of the town that it describes. Texts load
-- alike, or are refused, whatever tables are lent.
abbrev pub Claims : Row → Type 0
Claims (arc metres fences speeds departure interval arrival) = arc_arrival_lem departure interval metres 0 fences speeds ≡ replied arrival
Claims (town text source departure expected) = (T : Town) × DescribesTown text T × LabelsAre (network_of T) source departure expected
Claims (alike text text') = (T : Town) × DescribesTown text T × DescribesTown text' T
    × ((lent : Tables) → (load_answer text lent ≡ load_answer text' lent) × (tables_after text lent ≡ tables_after text' lent))
Claims (refuses text number line) = (lent : Tables) → (load_answer text lent ≡ refused_at number line) × (tables_after text lent ≡ lent)

infixr 5 ◌also◌
-- Every row of a list holds.
pub data AllHold : List Row → Type 0 where
  no_more : AllHold []
  ◌also◌ : {row : Row} {rows : List Row} → Claims row → AllHold rows → AllHold (row ∷ rows)

-- The sample town's lines, without its comment, and with it at the end.
abbrev pub sample_lines : List (List ℕ)
sample_lines =
    -- TN 3 2
    (84 ∷ 78 ∷ 32 ∷ 51 ∷ 32 ∷ 50 ∷ [])
    -- FN 0 100
    ∷ (70 ∷ 78 ∷ 32 ∷ 48 ∷ 32 ∷ 49 ∷ 48 ∷ 48 ∷ [])
    -- JN 0 Mill Cross
    ∷ (74 ∷ 78 ∷ 32 ∷ 48 ∷ 32 ∷ 77 ∷ 105 ∷ 108 ∷ 108 ∷ 32 ∷ 67 ∷ 114 ∷ 111 ∷ 115 ∷ 115 ∷ [])
    -- AR 0 1 50 36 18
    ∷ (65 ∷ 82 ∷ 32 ∷ 48 ∷ 32 ∷ 49 ∷ 32 ∷ 53 ∷ 48 ∷ 32 ∷ 51 ∷ 54 ∷ 32 ∷ 49 ∷ 56 ∷ [])
    -- AR 0 2 100 40 20
    ∷ (65 ∷ 82 ∷ 32 ∷ 48 ∷ 32 ∷ 50 ∷ 32 ∷ 49 ∷ 48 ∷ 48 ∷ 32 ∷ 52 ∷ 48 ∷ 32 ∷ 50 ∷ 48 ∷ [])
    -- AR 1 2 50 36 36
    ∷ (65 ∷ 82 ∷ 32 ∷ 49 ∷ 32 ∷ 50 ∷ 32 ∷ 53 ∷ 48 ∷ 32 ∷ 51 ∷ 54 ∷ 32 ∷ 51 ∷ 54 ∷ [])
    ∷ []

-- CM end of plan
abbrev pub comment : List ℕ
comment = 67 ∷ 77 ∷ 32 ∷ 101 ∷ 110 ∷ 100 ∷ 32 ∷ 111 ∷ 102 ∷ 32 ∷ 112 ∷ 108 ∷ 97 ∷ 110 ∷ []

abbrev pub sample_without_comment : List ℕ
sample_without_comment = joined sample_lines

abbrev pub sample_text : List ℕ
sample_text = joined (sample_lines ++ (comment ∷ []))

abbrev pub starred : List Row
starred =
    arc 1 (0 ∷ []) (36 ∷ []) 0 0 (Some (1, 0))
    ∷ arc 1 (0 ∷ []) (35 ∷ []) 0 0 (Some (2, 0))
    ∷ arc 1 (0 ∷ []) (10 ∷ []) 0 0 (Some (4, 0))
    ∷ arc 1 (0 ∷ 100 ∷ []) (0 ∷ 36 ∷ []) 10 0 (Some (101, 1))
    ∷ arc 1 (0 ∷ 100 ∷ []) (36 ∷ 0 ∷ []) 99 0 (Some (100, 1))
    ∷ arc 2 (0 ∷ 100 ∷ []) (36 ∷ 0 ∷ []) 99 0 (Some (864001, 0))
    ∷ arc 1 (0 ∷ []) (1 ∷ []) 1727964 0 (Some (1728000, 0))
    ∷ arc 1 (0 ∷ []) (1 ∷ []) 1727965 0 None
    ∷ town sample_text 0 10 (10 ∷ 60 ∷ 100 ∷ [])
    ∷ alike sample_text sample_without_comment
    ∷ refuses [] 27 1
    ∷ []

-- The one claim.
abbrev pub StarredRows : Type 0
StarredRows = AllHold starred
