-- `store::sum_of` is the library's sum.
use Rattle.std.proofs.Common.{rules, ◌≡◌, ◌∙◌}
use Rattle.std.specs.List.{sum}
use Rattle.week.proofs.Prefix.{sum_total}
use Rattle.week.proofs.store.sum_of.Goals as goal

pub returns : goal.returns
returns c = let added : c.sum.result ≡ sum c.args.masks.now = search rules in added ∙ sum_total c.args.masks.now
