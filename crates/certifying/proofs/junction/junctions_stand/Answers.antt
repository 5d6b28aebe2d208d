-- `junction::junctions_stand` goes on while each junction stands.
use Rattle.std.proofs.Common.{ℕ, length, ap, arith, length-set}
use Rattle.certifying.proofs.Looking.{next_unreached, next_reached}
use Rattle.certifying.proofs.junction.junctions_stand.Goals as goal
use Rattle.certifying.proofs.junction.junctions_stand.Goals.{then-label, else-label}

pub loop-junction-preserved : goal.loop-junction-preserved
loop-junction-preserved c =
    let at = c.loop-junction.invariant.0 in
    elim c.if-label.branch [
      | then-label w ↦ (
        rw w.intervals-is
            (next_reached at c.loop-junction-test.true c.requires.as_many c.stands.ensures c.if-not-stands.false
            (omega (arith, c.if-label.array_long, ap length w.intervals-is, length-set {A = ℕ}, c.requires.few_junctions)) _
            (w.interval_from-interval.ensures.value c.requires.fences_kept)),
        rw w.interval-is w.interval_from-interval.ensures.upper_bound,
      )
      | else-label w ↦ (
        rw w.intervals-is (next_unreached at c.loop-junction-test.true c.requires.as_many c.stands.ensures c.if-not-stands.false w.if-label.false),
        rw w.interval-is c.loop-junction.invariant.1,
      )
    ]
