-- `fit::tables_fit`: where the lengths agree, the highest tail and the highest head decide.
use Rattle.std.proofs.Common.{◌<◌, arith}
use borrow.Author.Tests.{ltb-true, lt-ltb}
use Rattle.checking.proofs.HighestScan.{no_higher, least}
use Rattle.index_bounds.proofs.fit.tables_fit.Goals as goal

pub returns-then-highest-junctions : goal.returns-then-highest-junctions
returns-then-highest-junctions c = λ closures.
    let network = c.args.network.now in
    let heads = c.highest-then-highest-junctions.result in (
      λ e.
          let below : heads < network.junctions = ltb-true heads network.junctions e in
          record {
            some_junction = omega arith;
            junctions_fit = omega arith;
            intervals_fit = omega arith;
            arcs_fit = omega arith;
            heads_long = omega arith;
            lengths_long = omega arith;
            holds_long = omega arith;
            speeds_long = c.if-network-arcs-4.false;
            tail_below = λ a inside. omega (arith, no_higher 0 network.tails.now a inside);
            head_below = λ a inside. omega (arith, no_higher 0 network.heads.now a (omega arith));
          },
      λ fit.
          let below = least network.junctions 0 network.heads.now fit.some_junction (λ a inside. fit.head_below a (omega (arith, fit.heads_long))) in
          lt-ltb heads network.junctions (omega arith),
    )

pub returns-else-highest-junctions : goal.returns-else-highest-junctions
returns-else-highest-junctions c = λ closures.
    let network = c.args.network.now in
    let tails = c.highest.result in (
      λ e. let below : tails < network.junctions = ltb-true tails network.junctions e in absurd (omega arith),
      λ fit. let below = least network.junctions 0 network.tails.now fit.some_junction fit.tail_below in absurd (omega arith),
    )
