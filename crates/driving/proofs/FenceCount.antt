-- How many fences a time of day has reached: as many as stand before the first that is still ahead.
use Rattle.std.proofs.Common.{◌≡◌, ℕ, List, length, ltb, refl, ⊎_elim, arith}
use Rattle.std.specs.List.{position, position_or_len}
use Rattle.std.specs.Option.{unwrap_or}
use Rattle.std.proofs.lemmas.List.Recursion.{is_position_or_len}
use borrow.Author.Tests.{lt-leb, le-leb}
use Rattle.model.specs.Intervals.{passed}
use Rattle.model.proofs.Tests.{ltb_cases}
use Rattle.model.proofs.Passed.{passed_at_most}

passed_is : (fences : List ℕ) (time : ℕ) → passed fences time ≡ position_or_len (λ fence. ltb time fence) fences
unfolding passed
passed_is fences time =
    is_position_or_len (λ rest. passed rest time) (λ fence. ltb time fence) refl
    (λ fence rest. ⊎_elim (λ w. rw (w.0, lt-leb fence time w.1)) (λ w. rw (w.0, le-leb fence time w.1) (omega arith)) (ltb_cases time fence)) fences

pub passed_found : (fences : List ℕ) (time : ℕ) → unwrap_or (position (λ fence. ltb time fence) fences) (length fences) ≡ passed fences time
passed_found fences time =
    rw (← passed_is fences time)
    (⊎_elim (λ w. rw w.0) (λ w. rw w.0 (omega (arith, w.1, passed_at_most fences time))) (ltb_cases (passed fences time) (length fences)))
