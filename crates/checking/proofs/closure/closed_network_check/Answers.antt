-- `closure::closed_network_check`: Network check's refusal is its own.
use Rattle.std.proofs.lemmas.Result.{err_from_is_err_and}
use Rattle.checking.proofs.QuestionRules.{alone_refuses}
use Rattle.checking.proofs.closure.closed_network_check.Goals as goal

pub returns-in_err-network_check : goal.returns-in_err-network_check
returns-in_err-network_check c =
    let p = err_from_is_err_and c.from_residual.result c.from_residual.ensures.1 in
    rw (p.1, p.2) (alone_refuses _ _ _ c.in_err-network_check.ensures)
