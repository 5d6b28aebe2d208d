-- `interval::fences_passed`: the first fence ahead stands behind as many as have been reached.
use Rattle.std.proofs.Common.{rules, ap, ◌∙◌}
use Rattle.std.proofs.lemmas.Iterator.{YieldsList-from_slice}
use Rattle.std.proofs.lemmas.Iterator.Search.{position_from_yields_List}
use Rattle.std.specs.Prelude.{length, nat_lt}
use Rattle.std.specs.Option.{unwrap_or}
use Rattle.driving.proofs.FenceCount.{passed_found}
use Rattle.driving.proofs.interval.fences_passed.Goals as goal

pub returns : goal.returns
returns c =
    let fences = c.args.fences.now in
    let found = position_from_yields_List (λ fence. nat_lt c.args.time fence) _ _ _ c.position.ensures.ran (YieldsList-from_slice fences cc) (λ x b q k. search rules) in
    c.unwrap_or.ensures ∙ ap (λ r. unwrap_or r (length fences)) found ∙ passed_found fences c.args.time
