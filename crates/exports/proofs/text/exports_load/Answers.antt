-- `text::exports_load`: the code of what Load answers fits, since a loaded town is small.
use Rattle.std.proofs.Common.{sym, arith}
use Rattle.exports.proofs.Fits.{CountsFit, counts_fit}
use Rattle.exports.proofs.text.exports_load.Goals as goal

pub overflow_add-result-in-Ok : goal.overflow_add-result-in-Ok
overflow_add-result-in-Ok c =
    let fit : CountsFit c.in-Ok.counts = counts_fit c.args.text.now _ (λ i h. (c.type_inv.text i).fits) (sym c.in-Ok.ensures.answer) in
    omega (arith, fit.junctions_fit, fit.intervals_fit, fit.arcs_fit)
