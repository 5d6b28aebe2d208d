-- Bytes put behind bytes are put together, where there is room for both: the buffer keeps its length. What is put from the start on
-- is what the buffer then begins with.
use Prim.Native.Nat.{ℕ, suc, ◌+◌, ◌-◌, ◌≤◌}
use mathlib.Core.Path.{◌≡◌, refl, sym, ap, ◌∙◌}
use mathlib.Core.Bool.{Bool}
use mathlib.Core.List.{List, [], ◌∷◌, ◌++◌}
use mathlib.Core.List.{append_assoc}
use borrow.Rule.Slice.PartMut.{put_mid, Post-is}
use native.Mathlib.Omega.{arith}
use lib.ListN.{length, set, take, drop, length-append}
use lib.Seq.{sets, sets-eq, length-sets}
use Rattle.model.specs.Rules.{written}
use Rattle.townfile.specs.FirstFault.{Reading}
use Rattle.formatting.specs.Putting.{Put, PutIfRoom}
use Rattle.formatting.specs.Output.{Puts}
use Rattle.formatting.specs.Texts.{answer_text, is_refusal}
use Rattle.formatting.specs.Printed.{Printed, PrintedAnswer}
use Rattle.formatting.specs.declared.output.Output.{Output}
use Rattle.formatting.specs.declared.text.Text.{Text}

sets_append : (bytes more table : List ℕ) (at : ℕ) → sets (sets table at bytes) (at + length bytes) more ≡ sets table at (bytes ++ more)
sets_append [] more table at = ap (λ k. sets table k more) (omega arith)
sets_append (byte ∷ bytes) more table at =
    ap (λ k. sets (sets (set table at byte) (suc at) bytes) k more) (omega arith) ∙ sets_append bytes more (set table at byte) (suc at)

module _ {bytes more before between after : List ℕ} {at middle behind : ℕ} where
  put_then : Put bytes at before between middle → Put more middle between after behind → Put (bytes ++ more) at before after behind
  put_then p q = record {
    next = omega (arith, p.next, q.next, length-append bytes more);
    holds = q.holds ∙ rw (p.next, p.holds) (sets_append bytes more before at);
  }

  pub room_then : PutIfRoom bytes at before between middle → PutIfRoom more middle between after behind → PutIfRoom (bytes ++ more) at before after behind
  room_then puts puts-more room =
      let all = length-append bytes more in
      let p = puts (omega arith) in
      let same : length between ≡ length before = ap length p.holds ∙ length-sets before at bytes in
      put_then p (puts-more (omega (arith, p.next)))

module _ {bytes more : List ℕ} {before between after : Output} where
  pub puts_then : Puts bytes before between → Puts more between after → Puts (bytes ++ more) before after
  puts_then p q = record { lent = q.lent ∙ p.lent; puts = room_then p.puts q.puts }

-- ---- Nothing, and a whole text

pub nothing_put : (before : List ℕ) (at : ℕ) → PutIfRoom [] at before before at
nothing_put before at room = record { next = omega arith; holds = refl }

-- A text's copy stands between what is before and what is behind it.
text_put : (text before : List ℕ) (at : ℕ) → PutIfRoom text at before (take at before ++ (text ++ drop (at + length text) before)) (at + length text)
text_put text before at room = record { next = refl; holds = sym (sets-eq text before at room ∙ append_assoc (take at before) text (drop (at + length text) before)) }

pub copied : {text copy before : List ℕ} {at : ℕ} → copy ≡ text →
    PutIfRoom text at before (put_mid at (at + length text - at) before copy) (at + length text)
copied {text} {copy} {before} {at} same = rw (same, Post-is at (at + length text) before (omega arith)) (text_put text before at)

-- ---- A program's output

pub puts_printed : (refusal : Bool) {bytes before : List ℕ} {start end : Output} → start.length ≡ 0 → start.buffer.now ≡ before → Puts bytes start end →
    length bytes ≤ length before → Printed bytes refusal before end.buffer.now (record { length = end.length; refused = refusal })
puts_printed refusal {bytes} {before} none same puts h =
    let from_start : 0 + length bytes ≡ length bytes = omega arith in
    let p = (rw (none, same) at puts.puts) (omega arith) in
    record {
      counted = p.next ∙ from_start;
      told = refl;
      holds = p.holds ∙ sets-eq bytes before 0 (omega arith) ∙ ap (λ k. bytes ++ drop k before) from_start;
    }

-- An answer that is printed, clause by clause.
pub answer_printed : {Reply : Type 0} (print : Reply → List ℕ) {answer answer' : Reading Reply} {before after : List ℕ} {said : Text} →
    answer ≡ answer' → PrintedAnswer print answer' before after said →
    (said.length ≡ length (answer_text print answer)) × ((said.refused ≡ is_refusal answer) × (after ≡ written (answer_text print answer) before))
answer_printed print same printed = rw same (printed.counted, (printed.told, printed.holds))
