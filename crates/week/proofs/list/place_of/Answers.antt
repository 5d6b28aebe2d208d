-- `list::place_of`: before the place found no mask has the day.
use Rattle.std.proofs.Common.{rules, arith, ◌≡◌, ◌≢◌, ◌∙◌, ◌<◌, ℕ, List, length, get_or, MatchOption, Some, None, Option}
use Rattle.std.specs.Option.{unwrap_or}
use Rattle.week.specs.WeekList.{place_of_lem}
use Rattle.week.proofs.Places.{Bit, first_place}
use Rattle.week.proofs.list.place_of.Goals as goal

abbrev Found : ℕ → List ℕ → Option ℕ → Type 0
Found day masks place = MatchOption place ((k : ℕ) → k < length masks → Bit day (get_or masks k 0) ≢ 1)
    (λ i. (i < length masks) × ((Bit day (get_or masks i 0) ≡ 1) × ((k : ℕ) → k < i → Bit day (get_or masks k 0) ≢ 1)))

is_first : (day : ℕ) (masks : List ℕ) (place : Option ℕ) → Found day masks place → unwrap_or place (length masks) ≡ place_of_lem day masks
is_first day masks (Some i) (inside, (has, not)) = first_place day masks i (omega arith) not (λ less. has)
is_first day masks None not = first_place day masks (length masks) (omega arith) not (λ less. absurd (omega (arith, less)))

pub returns : goal.returns
returns c =
    let found : Found c.args.day c.args.masks.now c.position.result = search rules in
    c.unwrap_or.ensures ∙ is_first c.args.day c.args.masks.now c.position.result found
