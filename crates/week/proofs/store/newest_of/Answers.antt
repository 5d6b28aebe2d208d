-- `store::newest_of` takes the greater number at each version.
use Rattle.std.proofs.Common.{rules, ◌≡◌, ◌∙◌, max}
use Rattle.std.specs.List.{fold}
use Rattle.week.proofs.Slots.{greatest_is}
use Rattle.week.proofs.store.newest_of.Goals as goal

pub returns : goal.returns
returns c = let found : c.fold.result ≡ fold max 0 c.args.versions.now = search rules in found ∙ greatest_is c.args.versions.now
