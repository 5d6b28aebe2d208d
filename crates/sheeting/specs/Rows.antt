-- "Each departure's labels go into its own row of one lent buffer, as long as the list times the junction count. Rows stand in list
-- order, and a row holds exactly the labels that Labels gives for that departure."
use Rattle.std.specs.Prelude.{ℕ, ◌*◌, List, [], ◌∷◌, ◌++◌, take, drop}
use Rattle.model.specs.Network.{Network, net_of}
use Rattle.model.specs.Labels.{labels_of}

unfoldable pub rows_of : Network → ℕ → List ℕ → List ℕ
rows_of N source [] = []
rows_of N source (departure ∷ departures) = labels_of (net_of N) source departure ++ rows_of N source departures

-- Row k of a buffer of labels.
abbrev pub row : Network → ℕ → List ℕ → List ℕ
row N k labels = take N.junctions (drop (k * N.junctions) labels)
