-- "There are 1 to 200 junctions, numbered from 0; 0 to 640 arcs, numbered from 0; 1 to 96 intervals." "A speed is a whole
-- number of km/h, 0 to 200. A length is a whole number of metres, 1 to 100,000." Document 02, order 5: "Each arc gets a hold of 0 to 1,200 ticks (..)".
use Rattle.std.specs.Prelude.{ℕ}

abbrev pub max_junctions : ℕ
max_junctions = 200

abbrev pub max_arcs : ℕ
max_arcs = 640

abbrev pub max_intervals : ℕ
max_intervals = 96

abbrev pub max_length : ℕ
max_length = 100000

abbrev pub max_speed : ℕ
max_speed = 200

abbrev pub max_hold : ℕ
max_hold = 1200
