-- `text::refuse`: a refusal's line is short, and stands at the output's start.
use mathlib.Core.Bool.{true}
use native.Mathlib.Omega.{arith}
use borrow.Author.Rules.{rules}
use Rattle.formatting.proofs.Putting.{puts_printed}
use Rattle.formatting.proofs.Texts.{refusal_fits}
use Rattle.formatting.proofs.text.refuse.Goals as goal

pub returns : goal.returns
returns c =
    let short = refusal_fits c.args.refusal c.args.line (omega (arith, c.ranges)) in
    let printed = puts_printed true c.new-output.ensures.length c.new-output.ensures.buffer c.put_refusal.ensures (omega (arith, short)) in
    search (rules, printed)
