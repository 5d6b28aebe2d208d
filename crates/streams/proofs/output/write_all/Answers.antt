-- What one more write took, behind what was written, both together are the text's start.
use Rattle.std.proofs.Common.{◌≡◌, ℕ, ◌+◌, ◌-◌, List, ◌++◌, rules, length, take, drop, sym, ap, ◌∙◌, subst}
use Rattle.std.proofs.lemmas.List.{take_rest}
use Rattle.std.specs.Io.KnownBytes.{Appends}
use Rattle.std.proofs.KnownBytes.{Appends-trans}
use lib.Seq.{take-add}
use Rattle.streams.proofs.output.write_all.Goals as goal

joined : (a n : ℕ) (text : List ℕ) → take a text ++ take n (take (length text - a) (drop a text)) ≡ take (a + n) text
joined a n text = ap (λ l. take a text ++ take n l) (take_rest text a) ∙ sym (take-add a n text)

pub loop-length-preserved : goal.loop-length-preserved
loop-length-preserved g c =
    (search rules, subst (Appends _ _) (joined _ _ _) (Appends-trans _ _ _ _ _ c.loop-length.invariant.1 c.in-Ok.ensures.bytes))
