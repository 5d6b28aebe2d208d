-- The number that each function for C answers, from what its operation comes to.
use Rattle.std.specs.Prelude.{ℕ, ◌+◌, ◌*◌, ◌^◌, Bool, true, false, Option, None, Some}
use Rattle.refusals.specs.Refusals.{refusal_base}
use Rattle.model.specs.Rules.{Outcome, refused, replied}
use Rattle.townfile.specs.FirstFault.{Reading, refused_at, accepted}
use Rattle.townfile.specs.declared.counts.Counts.{Counts}
use Rattle.townfile.specs.declared.part.Part.{Part}

-- Network check and Labels: the refusal's number, or 0. No refusal has number 0.
abbrev pub number_or0 : Outcome (Unit {0}) → ℕ
number_or0 (refused number) = number
number_or0 (replied tt) = 0

-- Arc arrival: tick + interval × 2^32; 2^62 where the arc cannot be driven; 2^63 + the refusal's number.
abbrev pub arrival_code : Outcome (Option (ℕ × ℕ)) → ℕ
arrival_code (refused number) = 2 ^ 63 + number
arrival_code (replied (Some (tick, interval))) = tick + interval * 2 ^ 32
arrival_code (replied None) = 2 ^ 62

-- Route, Passes and the week store: the refusal's code, or the number of arcs or of passes, a version or a place.
abbrev pub count_code : Outcome ℕ → ℕ
count_code (refused number) = refusal_base + number
count_code (replied count) = count

-- The check of sent tables: the refusal's code, or 1 for yes and 0 for no.
abbrev pub yes_code : Outcome Bool → ℕ
yes_code (refused number) = refusal_base + number
yes_code (replied true) = 1
yes_code (replied false) = 0

-- Load: the counts, each from a bit of its own on, or 2^63 with the refusal's number and line.
abbrev pub load_code_lem : Reading Counts → ℕ
load_code_lem (refused_at number line) = 2 ^ 63 + number * 2 ^ 32 + line
load_code_lem (accepted reply) = reply.junctions + reply.intervals * 2 ^ 16 + reply.arcs * 2 ^ 32

-- The converters: the length of the result, or 2^63 with the refusal's number and line.
abbrev pub length_code_lem : Reading ℕ → ℕ
length_code_lem (refused_at number line) = 2 ^ 63 + number * 2 ^ 32 + line
length_code_lem (accepted reply) = reply

-- Name: where it starts, and its length. 0 says that there is none.
abbrev pub place_code : Part → ℕ
place_code place = place.start * 2 ^ 32 + place.length
