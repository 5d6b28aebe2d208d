-- `store::list_length` looks for the last mask that is not 0.
use Rattle.std.proofs.Common.{rules, ◌≡◌, ◌≢◌, ◌+◌, ◌<◌, ℕ, List, Option, Some, None, length, get_or, take, MatchOption}
use Rattle.week.specs.Store.{trimmed}
use Rattle.week.proofs.Trimming.{last_is, none_is}
use Rattle.week.proofs.store.list_length.Goals as goal

abbrev Found : List ℕ → Option ℕ → Type 0
Found masks last = MatchOption last ((k : ℕ) → k < length masks → get_or masks k 0 ≡ 0)
    (λ i. (i < length masks) × ((get_or masks i 0 ≢ 0) × ((k : ℕ) → i < k → k < length masks → get_or masks k 0 ≡ 0)))

is_trimmed : (masks : List ℕ) (last : Option ℕ) (count : ℕ) → Found masks last → MatchOption last (count ≡ 0) (λ i. count ≡ i + 1) → take count masks ≡ trimmed masks
is_trimmed masks (Some i) count (inside, (some, zeros)) is = rw is (last_is masks i inside some zeros)
is_trimmed masks None count zeros is = rw is (none_is masks zeros)

pub returns-clause-masks_value : goal.returns-clause-masks_value
returns-clause-masks_value c =
    let found : Found c.args.masks.now c.rposition.result = search rules in
    let is : MatchOption c.rposition.result (c.map_or.result ≡ 0) (λ i. c.map_or.result ≡ i + 1) = search rules in
    is_trimmed c.args.masks.now c.rposition.result c.map_or.result found is
