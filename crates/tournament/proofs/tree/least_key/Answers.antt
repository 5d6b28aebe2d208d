-- `tree::least_key` reads the root, which holds the least key.
use Rattle.tournament.proofs.Matches.{root_is_least}
use Rattle.tournament.proofs.tree.least_key.Goals as goal

pub returns : goal.returns
returns c = root_is_least
