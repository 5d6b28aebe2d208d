-- How an operation refuses: its rules "in this order, each over the whole table before the next", each a number and a test, of which the
-- first that is broken counts; and a test that runs through a table.
use Rattle.std.specs.List.{list_all}
use Rattle.std.specs.Prelude.{ℕ, ◌<◌, ◌≡◌, ◌↔◌, Bool, true, false, cond, List, [], ◌∷◌, length, get_or, take}

-- What an operation comes to: the refusal's number, or the reply.
pub data Outcome (Reply : Type 0) : Type 0 where
  refused : ℕ → Outcome Reply
  replied : Reply → Outcome Reply

pub record Rule : Type 0 where
  pub number : ℕ
  pub broken : Bool

infix 40 ◌if◌
abbrev pub ◌if◌ : ℕ → Bool → Rule
number if broken = record { number = number; broken = broken }

unfoldable pub first_broken : {Reply : Type 0} → List Rule → Reply → Outcome Reply
first_broken [] reply = replied reply
first_broken (rule ∷ rules) reply = cond rule.broken (refused rule.number) (first_broken rules reply)

-- "A refused operation changes no lent table, buffer or text": what a lent table holds afterwards.
abbrev pub after : {Reply Table : Type 0} → Outcome Reply → Table → Table → Table
after (refused number) written before = before
after (replied reply) written before = written

-- One operation's refusal, or another reply in the place of its own.
abbrev pub replying : {Reply Reply' : Type 0} → Outcome Reply → Reply' → Outcome Reply'
replying (refused number) reply' = refused number
replying (replied reply) reply' = replied reply'

-- No rule of the list is broken.
abbrev pub AllKept : List Rule → Type 0
AllKept [] = Unit {0}
AllKept (rule ∷ rules) = (rule.broken ≡ false) × AllKept rules

-- An operation is refused with a number exactly where a rule with that number is broken and those before it are kept.
abbrev pub RefusedExactlyWhen : Type 1
RefusedExactlyWhen = (Reply : Type 0) (rules : List Rule) (reply : Reply) (number : ℕ) →
    (first_broken rules reply ≡ refused number)
    ↔ ((k : ℕ) × (k < length rules) × AllKept (take k rules) × ((get_or rules k (0 if false)).broken ≡ true) × ((get_or rules k (0 if false)).number ≡ number))

-- A test that runs through a whole table.
abbrev pub every : {A : Type 0} → (A → Bool) → List A → Bool
every test xs = list_all test xs
