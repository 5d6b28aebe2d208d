-- Which rule counts: an operation replies where no rule is broken, and is refused by the first that is; and a test that runs through a table holds
-- exactly where it holds at every entry.
use Prim.Native.Nat.{ℕ, zero, suc, ◌<◌}
use mathlib.Core.Path.{◌≡◌, refl, sym, ap, ◌∙◌}
use mathlib.Core.Bool.{Bool, true, false, ◌&&◌, cond}
use mathlib.Core.List.{List, [], ◌∷◌, ◌++◌}
use native.Mathlib.Omega.{arith}
use lib.ListN.{length, get_or, take}
use Rattle.refusals.specs.Rules.{Outcome, refused, replied, replying, Rule, ◌if◌, first_broken, AllKept, RefusedExactlyWhen, every}

-- ---- Which rule counts

pub kept_replies : {Reply : Type 0} (rules : List Rule) (reply : Reply) → AllKept rules → first_broken rules reply ≡ replied reply
unfolding first_broken
kept_replies [] reply kept = refl
kept_replies (rule ∷ rules) reply kept = rw kept.0 (kept_replies rules reply kept.1)

not_refused : {Reply : Type 0} (broken : Bool) (number : ℕ) (rest : Outcome Reply) (reply : Reply) →
    cond broken (refused number) rest ≡ replied reply → (broken ≡ false) × (rest ≡ replied reply)
not_refused true number rest reply e = absurd (let z : ◌≡◌ {A = ℕ} 0 1 = cc in omega arith)
not_refused false number rest reply e = (refl, e)

pub replies_kept : {Reply : Type 0} (rules : List Rule) (reply reply' : Reply) → first_broken rules reply ≡ replied reply' → AllKept rules
unfolding first_broken
replies_kept [] reply reply' e = tt
replies_kept (rule ∷ rules) reply reply' e =
    let parts = not_refused rule.broken rule.number (first_broken rules reply) reply' e in
    (parts.0, replies_kept rules reply reply' parts.1)

pub append_kept : (rules rest : List Rule) → AllKept rules → AllKept rest → AllKept (rules ++ rest)
append_kept [] rest kept more = more
append_kept (rule ∷ rules) rest kept more = (kept.0, append_kept rules rest kept.1 more)

-- One rule more.
pub kept_next : (rules : List Rule) (k : ℕ) → AllKept (take k rules) → (get_or rules k (0 if false)).broken ≡ false → AllKept (take (suc k) rules)
kept_next [] k kept here = tt
kept_next (rule ∷ rules) zero kept here = (here, tt)
kept_next (rule ∷ rules) (suc k) kept here = (kept.0, kept_next rules k kept.1 here)

-- The rule at a place of the list counts where it is broken and those before it are kept.
pub refused_at_law : {Reply : Type 0} (rules : List Rule) (reply : Reply) (k : ℕ) → AllKept (take k rules) → (get_or rules k (0 if false)).broken ≡ true →
    refused (get_or rules k (0 if false)).number ≡ first_broken rules reply
unfolding first_broken
refused_at_law [] reply k kept broken = absurd (let z : ◌≡◌ {A = ℕ} 0 1 = cc in omega arith)
refused_at_law (rule ∷ rules) reply zero kept broken = rw broken
refused_at_law (rule ∷ rules) reply (suc k) kept broken = rw kept.0 (refused_at_law rules reply k kept.1 broken)

-- A rule of that number is broken, and those before it are kept.
abbrev BrokenFirst : List Rule → ℕ → Type 0
BrokenFirst rules number =
    (k : ℕ) × (k < length rules) × AllKept (take k rules) × ((get_or rules k (0 if false)).broken ≡ true) × ((get_or rules k (0 if false)).number ≡ number)

refused_place : {Reply : Type 0} (rules : List Rule) (reply : Reply) (number : ℕ) → first_broken rules reply ≡ refused number → BrokenFirst rules number
unfolding first_broken
refused_place [] reply number e = absurd (let z : ◌≡◌ {A = ℕ} 0 1 = cc in omega arith)
refused_place (rule ∷ rules) reply number e = go rule.broken refl (refused_place rules reply number) e
  where
    go : (broken : Bool) → rule.broken ≡ broken → (first_broken rules reply ≡ refused number → BrokenFirst rules number) →
        cond broken (refused rule.number) (first_broken rules reply) ≡ refused number → BrokenFirst (rule ∷ rules) number
    go true b rest e = (0, omega arith, tt, b, cc)
    go false b rest e = let r = rest e in (suc r.0, omega (arith, r.1), (b, r.2), r.3, r.4)

pub refused_exactly_when : RefusedExactlyWhen
refused_exactly_when Reply rules reply number =
    (refused_place rules reply number, (λ r. sym (refused_at_law rules reply r.0 r.2 r.3) ∙ ap refused r.4))

-- A list of rules with more behind it: where the first list refuses, so does the whole; where it is kept, the rest decides.
pub refused_before : {Reply Reply' : Type 0} (rules more : List Rule) (reply : Reply) (reply' : Reply') (number : ℕ) →
    first_broken rules reply ≡ refused number → first_broken (rules ++ more) reply' ≡ refused number
unfolding first_broken
refused_before [] more reply reply' number e = absurd (let z : ◌≡◌ {A = ℕ} 0 1 = cc in omega arith)
refused_before (rule ∷ rules) more reply reply' number e = go rule.broken (refused_before rules more reply reply' number) e
  where
    go : (broken : Bool) → (first_broken rules reply ≡ refused number → first_broken (rules ++ more) reply' ≡ refused number) →
        cond broken (refused rule.number) (first_broken rules reply) ≡ refused number → cond broken (refused rule.number) (first_broken (rules ++ more) reply') ≡ refused number
    go true rest e = cc
    go false rest e = rest e

pub kept_before : {Reply : Type 0} (rules more : List Rule) (reply : Reply) → AllKept rules → first_broken (rules ++ more) reply ≡ first_broken more reply
unfolding first_broken
kept_before [] more reply kept = refl
kept_before (rule ∷ rules) more reply kept = rw kept.0 (kept_before rules more reply kept.1)

-- With another reply an operation refuses as before.
pub replying_refused : {Reply Reply' : Type 0} (outcome : Outcome Reply) (reply : Reply') {number : ℕ} → replying outcome reply ≡ refused number → outcome ≡ refused number
replying_refused (refused n) reply e = cc e
replying_refused (replied own) reply e = let none : ◌≡◌ {A = ℕ} 0 1 = cc e in absurd (omega arith)

pub replying_replied : {Reply' : Type 0} (outcome : Outcome (Unit {0})) (reply : Reply') {reply' : Reply'} → replying outcome reply ≡ replied reply' →
    (outcome ≡ replied tt) × (reply ≡ reply')
replying_replied (refused n) reply e = let none : ◌≡◌ {A = ℕ} 0 1 = cc e in absurd (omega arith)
replying_replied (replied own) reply e = (refl, cc e)

pub kept_append : (rules more : List Rule) → AllKept (rules ++ more) → AllKept rules × AllKept more
kept_append [] more kept = (tt, kept)
kept_append (rule ∷ rules) more kept = let rest = kept_append rules more kept.1 in ((kept.0, rest.0), rest.1)

-- ---- Tests that hold together

pub both_true : {a b : Bool} → a ≡ true → b ≡ true → (a && b) ≡ true
both_true p q = rw (p, q)

pub true_both : (a b : Bool) → (a && b) ≡ true → (a ≡ true) × (b ≡ true)
true_both true b e = (refl, e)
true_both false b e = absurd (let z : ◌≡◌ {A = ℕ} 0 1 = cc in omega arith)

pub true_three : (a b c : Bool) → (a && b && c) ≡ true → (a ≡ true) × (b ≡ true) × (c ≡ true)
true_three a b c e =
    let parts = true_both (a && b) c e in
    let first = true_both a b parts.0 in
    (first.0, first.1, parts.1)

-- ---- Tests that run through a table

module _ {A : Type 0} (test : A → Bool) (d : A) where
  pub every_at : (xs : List A) → every test xs ≡ true → (k : ℕ) → k < length xs → test (get_or xs k d) ≡ true
  every_at [] e k h = absurd (omega arith)
  every_at (x ∷ xs) e zero h = (true_both (test x) (every test xs) e).0
  every_at (x ∷ xs) e (suc k) h = every_at xs (true_both (test x) (every test xs) e).1 k (omega arith)

  pub at_every : (xs : List A) → ((k : ℕ) → k < length xs → test (get_or xs k d) ≡ true) → every test xs ≡ true
  at_every [] all = refl
  at_every (x ∷ xs) all = both_true (all 0 (omega arith)) (at_every xs (λ k h. all (suc k) (omega arith)))
