-- The faults of a text have the numbers 20 to 27: those of a line are the rules' own, and the others stand in the definition.
use Prim.Native.Nat.{ℕ, zero, suc, ◌≤◌, ◌<◌}
use mathlib.Core.Path.{◌≡◌, refl}
use mathlib.Core.Bool.{Bool, true, false, cond}
use mathlib.Core.List.{List, [], ◌∷◌}
use native.Mathlib.Omega.{arith}
use lib.Dec.{ltb, eqb}
use lib.ListN.{length, get_or}
use Rattle.model.specs.Rules.{Outcome, refused, replied, ◌if◌}
use Rattle.model.proofs.Rules.{refused_exactly_when}
use Rattle.townfile.specs.Bytes.{line_feed, pieces}
use Rattle.townfile.specs.Lines.{line_rules, line_answer}
use Rattle.townfile.specs.FirstFault.{Reading, refused_at, start, at_end, lines_from, onward, first_fault}
use Rattle.townfile.specs.declared.progress.Progress.{Progress}

abbrev pub Fault : ℕ → Type 0
Fault number = (20 ≤ number) × (number ≤ 27)

same_fault : {Reply : Type 0} {number number' line line' : ℕ} → ◌≡◌ {A = Reading Reply} (refused_at number line) (refused_at number' line') → Fault number → Fault number'
same_fault {number = number} {number'} e fault = let same : number ≡ number' = cc in rw same at fault

rule_fault : (p : Progress) (line : List ℕ) (k : ℕ) {number : ℕ} → k < 5 → (get_or (line_rules p line) k (0 if false)).number ≡ number → Fault number
rule_fault p line zero h e = (omega arith, omega arith)
rule_fault p line (suc zero) h e = (omega arith, omega arith)
rule_fault p line (suc (suc zero)) h e = (omega arith, omega arith)
rule_fault p line (suc (suc (suc zero))) h e = (omega arith, omega arith)
rule_fault p line (suc (suc (suc (suc zero)))) h e = (omega arith, omega arith)
rule_fault p line (suc (suc (suc (suc (suc k))))) h e = absurd (omega arith)

line_fault : (p : Progress) (line : List ℕ) (number : ℕ) → line_answer p line ≡ refused number → Fault number
unfolding line_answer
line_fault p line number e =
    let at = (refused_exactly_when Progress (line_rules p line) _ number).0 e in
    rule_fault p line at.0 at.1 at.4

end_fault : (test : Bool) {rest : Reading Progress} (first at : ℕ) {number line : ℕ} → Fault first → cond test (refused_at first at) rest ≡ refused_at number line →
    (rest ≡ refused_at number line → Fault number) → Fault number
end_fault true first at fault e later = same_fault e fault
end_fault false first at fault e later = later e

at_end_fault : (p : Progress) (n number line : ℕ) → at_end p n ≡ refused_at number line → Fault number
at_end_fault p n number line e = end_fault (ltb p.turn 2) 27 n (omega arith, omega arith) e (λ z. absurd (let z : ◌≡◌ {A = ℕ} 0 1 = cc in omega arith))

lines_fault : (p : Progress) (n : ℕ) (lines : List (List ℕ)) (number line : ℕ) → lines_from p n lines ≡ refused_at number line → Fault number
unfolding lines_from
lines_fault p n [] number line e = at_end_fault p n number line e
lines_fault p n (behind ∷ []) number line e = go (eqb (length behind) 0) e
  where
    go : (empty : Bool) → cond empty (at_end p n) (refused_at 21 n) ≡ refused_at number line → Fault number
    go true e = at_end_fault p n number line e
    go false e = same_fault e (omega arith, omega arith)
lines_fault p n (first ∷ next ∷ lines) number line e = go (line_answer p first) refl (λ q. lines_fault q (suc n) (next ∷ lines) number line) e
  where
    go : (outcome : Outcome Progress) → line_answer p first ≡ outcome → ((q : Progress) → lines_from q (suc n) (next ∷ lines) ≡ refused_at number line → Fault number) →
        onward outcome n (λ q. lines_from q (suc n) (next ∷ lines)) ≡ refused_at number line → Fault number
    go (refused fault) is rest e = same_fault e (line_fault p first fault is)
    go (replied q) is rest e = rest q e

pub text_fault : (text : List ℕ) (number line : ℕ) → first_fault text ≡ refused_at number line → Fault number
unfolding first_fault
text_fault text number line e = end_fault (ltb 65536 (length text)) 20 0 (omega arith, omega arith) e (lines_fault start 1 (pieces line_feed text) number line)
