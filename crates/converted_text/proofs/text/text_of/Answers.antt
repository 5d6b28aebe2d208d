-- `text::text_of`: a refusal's line has room.
use mathlib.Core.Bool.{true}
use native.Mathlib.Omega.{arith}
use borrow.Author.Rules.{rules}
use Rattle.formatting.proofs.Putting.{puts_printed}
use Rattle.formatting.proofs.Texts.{refusal_fits}
use Rattle.converted_text.proofs.text.text_of.Goals as goal

pub returns-in-Err : goal.returns-in-Err
returns-in-Err c =
    let short = refusal_fits c.in-Err.fault.refusal c.in-Err.fault.line (omega arith) in
    let printed = puts_printed true c.new-printed.ensures.length c.new-printed.ensures.buffer c.put_refusal.ensures (omega (arith, short)) in
    search (rules, printed)
