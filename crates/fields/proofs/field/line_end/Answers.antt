-- `field::line_end`: at each turn the line from here on ends where the whole line ends.
use mathlib.Core.Path.{◌≡◌, ◌∙◌}
use native.Mathlib.Omega.{arith}
use Rattle.fields.proofs.LineFrom.{at_last, end_here, end_goes_on, line_ends, line_feed_ends}
use Rattle.fields.proofs.field.line_end.Goals as goal

pub returns-then-text-i-eq-LINE_FEED : goal.returns-then-text-i-eq-LINE_FEED
returns-then-text-i-eq-LINE_FEED c = end_here _ _ (line_feed_ends _ _ c.loop-i-test.true c.if-text-i-eq-LINE_FEED.true) ∙ c.loop-i.invariant.0

pub loop-i-preserved : goal.loop-i-preserved
loop-i-preserved c = (end_goes_on _ _ c.loop-i-test.true c.if-text-i-eq-LINE_FEED.false ∙ c.loop-i.invariant.0, λ past. absurd (omega (arith, past)))

pub returns : goal.returns
returns c =
    let last : c.max.result ≡ c.loop-i.i = c.max.ensures ∙ at_last _ _ _ c.loop-i-test.false c.loop-i.auto.i-end c.loop-i.invariant.1 in
    last ∙ end_here _ _ (line_ends _ _ c.loop-i-test.false) ∙ c.loop-i.invariant.0
