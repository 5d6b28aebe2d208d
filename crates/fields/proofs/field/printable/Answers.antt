-- `field::printable`: at each turn the rest from here on answers as the whole does.
use native.Mathlib.Omega.{arith}
use borrow.Author.Rules.{rules}
use mathlib.Core.Path.{◌≡◌, ap, ◌∙◌}
use Rattle.std.specs.Prelude.{Some}
use Rattle.fields.proofs.LineFrom.{at_last, line_ends, line_feed_ends}
use Rattle.fields.proofs.Rests.{rest_ends, rest_goes_on, rest_too_low, rest_too_high}
use Rattle.fields.proofs.field.printable.Goals as goal

pub returns-in-10 : goal.returns-in-10
returns-in-10 c = rest_ends _ _ (line_feed_ends _ _ c.loop-i-test.true c.in-10.is) ∙ c.loop-i.invariant.0

pub returns-in_default : goal.returns-in_default
returns-in_default c =
    rest_too_low _ _ c.loop-i-test.true (search rules) (omega arith) ∙ c.loop-i.invariant.0

pub returns-in_default-2 : goal.returns-in_default-2
returns-in_default-2 c = rest_too_high _ _ c.loop-i-test.true (omega arith) ∙ c.loop-i.invariant.0

pub loop-i-preserved : goal.loop-i-preserved
loop-i-preserved c =
    (rest_goes_on _ _ c.loop-i-test.true (omega arith) (omega arith) ∙ c.loop-i.invariant.0, λ past. absurd (omega (arith, past)))

pub returns : goal.returns
returns c =
    let last : c.max.result ≡ c.loop-i.i = c.max.ensures ∙ at_last _ _ _ c.loop-i-test.false c.loop-i.auto.i-end c.loop-i.invariant.1 in
    ap Some last ∙ rest_ends _ _ (line_ends _ _ c.loop-i-test.false) ∙ c.loop-i.invariant.0
