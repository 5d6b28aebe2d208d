-- In which order a program refuses: "For more than 65,536 bytes in all it prints only `refused 20 line 0`. Then a first line not of that
-- form, or none, gives `refused 25 line 0`, then Load's refusals with their town-file line", then the operation's "with line 0".
use Rattle.std.specs.Prelude.{ℕ, Bool, cond, not, List, ltb, length}
use Rattle.model.specs.Network.{Network}
use Rattle.model.specs.Rules.{Outcome, refused, replied}
use Rattle.townfile.specs.FirstFault.{Reading, refused_at, accepted, first_fault}
use Rattle.townfile.specs.Grammar.{network_of}
use Rattle.townfile.specs.Tables.{town_of}
use Rattle.townfile.specs.declared.progress.Progress.{Progress}

-- The operation's, "with line 0".
abbrev pub at_line_zero : {Reply : Type 0} → Outcome Reply → Reading Reply
at_line_zero (refused number) = refused_at number 0
at_line_zero (replied reply) = accepted reply

-- "Then Load's refusals with their town-file line."
abbrev pub unless_faulty : {Reply : Type 0} → Reading Progress → Reading Reply → Reading Reply
unless_faulty (refused_at number line) answer = refused_at number line
unless_faulty (accepted progress) answer = answer

-- What is answered of the network of a text's town.
unfoldable pub in_town : {Reply : Type 0} → (Network → Reading Reply) → List ℕ → Reading Reply
in_town answer text = unless_faulty (first_fault text) (answer (network_of (town_of text)))

-- What is answered where the input's first line asks.
unfoldable pub where_asked : {Reply : Type 0} → Bool → List ℕ → Reading Reply → Reading Reply
where_asked asked input answer = cond (ltb 65536 (length input)) (refused_at 20 0) (cond (not asked) (refused_at 25 0) answer)
