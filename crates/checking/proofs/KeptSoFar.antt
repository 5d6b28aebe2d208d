-- Rules asked one by one, as an operation asks them: while each test is passed one rule more is kept, and the first that is broken gives
-- the answer.
use Prim.Native.Nat.{ℕ, suc}
use mathlib.Core.Path.{◌≡◌, sym, ◌∙◌}
use mathlib.Core.Bool.{true, false}
use mathlib.Core.List.{List, ◌++◌}
use lib.ListN.{length, get_or, take}
use lib.Seq.{take-append_seam}
use Rattle.model.specs.Rules.{Outcome, refused, replied, Rule, ◌if◌, first_broken, AllKept}
use Rattle.model.proofs.Rules.{kept_next, refused_at_law, kept_replies}

-- An answer by rules, of which the first k are kept.
pub record KeptSoFar (k : ℕ) : Type 1 where
  pub Reply : Type 0
  pub answer : Outcome Reply
  pub rules : List Rule
  pub reply : Reply
  pub by_rules : answer ≡ first_broken rules reply
  pub kept : AllKept (take k rules)

module _ {Reply : Type 0} {answer : Outcome Reply} (reply : Reply) where
  abbrev pub none_asked : (rules : List Rule) → answer ≡ first_broken rules reply → KeptSoFar 0
  none_asked rules by_rules = record { Reply = Reply; answer = answer; rules = rules; reply = reply; by_rules = by_rules; kept = tt }

  -- Those of another operation come first, and are kept.
  abbrev pub others_kept : (others rules : List Rule) → answer ≡ first_broken (others ++ rules) reply → AllKept others → KeptSoFar (length others)
  others_kept others rules by_rules kept = record {
    Reply = Reply;
    answer = answer;
    rules = others ++ rules;
    reply = reply;
    by_rules = by_rules;
    kept = rw (take-append_seam others rules) kept;
  }

module _ {k : ℕ} (before : KeptSoFar k) where
  -- The rule that is asked next.
  abbrev next : Rule
  next = get_or before.rules k (0 if false)

  abbrev pub next_kept : next.broken ≡ false → KeptSoFar (suc k)
  next_kept here = record {
    Reply = before.Reply;
    answer = before.answer;
    rules = before.rules;
    reply = before.reply;
    by_rules = before.by_rules;
    kept = kept_next before.rules k before.kept here;
  }

  pub next_refused : next.broken ≡ true → refused next.number ≡ before.answer
  next_refused here = refused_at_law before.rules before.reply k before.kept here ∙ sym before.by_rules

  -- No rule is left.
  pub all_kept : take k before.rules ≡ before.rules → replied before.reply ≡ before.answer
  all_kept all = sym (before.by_rules ∙ kept_replies before.rules before.reply (rw all at before.kept))
