-- `fit::fits`: where the tests passed, the tables decide.
use Rattle.std.proofs.Common.{arith}
use Rattle.index_bounds.proofs.fit.fits.Goals as goal

pub returns-then-predecessor_count-junctions : goal.returns-then-predecessor_count-junctions
returns-then-predecessor_count-junctions c = λ closures. (
  λ e. record {
    tables_fit = (c.tables_fit.ensures closures).0 e;
    source_below = omega arith;
    in_time = omega arith;
    labels_long = omega arith;
    predecessors_long = omega arith;
  },
  λ fit. (c.tables_fit.ensures closures).1 fit.tables_fit,
)
