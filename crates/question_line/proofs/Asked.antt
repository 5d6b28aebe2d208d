-- What an answer tells of the line.
use Prim.Native.Nat.{ℕ}
use mathlib.Core.Path.{◌≡◌, refl, ap}
use mathlib.Core.Bool.{Bool, true, false, cond}
use mathlib.Core.List.{List}
use native.Mathlib.Omega.{arith}
use lib.ListN.{length, take}
use Rattle.std.specs.Prelude.{Some, None}
use Rattle.model.specs.Rules.{written}
use Rattle.question_line.specs.Line.{numbers_in, of_form, rest_start, asked, asked_by, numbers_after}
use Rattle.question_line.specs.declared.line.Asked.{Asked}

module _ (mark : ℕ) (text : List ℕ) where
  pub record NumbersAsked (count next : ℕ) : Type 0 where
    pub form : of_form mark text ≡ true
    pub counted : length (numbers_in text) ≡ count
    pub behind : rest_start text ≡ next
    pub table : (before : List ℕ) → numbers_after mark text before ≡ written (take (length before) (numbers_in text)) before

  pub numbers_asked : {line : Asked} → asked_by mark text ≡ Some line → NumbersAsked line.count line.next
  unfolding asked_by numbers_after
  numbers_asked {line} e = go (of_form mark text) refl e
    where
      go : (form : Bool) → of_form mark text ≡ form → cond form (Some (asked (length (numbers_in text)) (rest_start text))) None ≡ Some line → NumbersAsked line.count line.next
      go true form e =
          let same : asked (length (numbers_in text)) (rest_start text) ≡ line = cc in
          record { form = form; counted = ap (λ l. l.count) same; behind = ap (λ l. l.next) same; table = λ before. rw form }
      go false form e = absurd (let z : ◌≡◌ {A = ℕ} 0 1 = cc in omega arith)

  pub malformed_asked : asked_by mark text ≡ None → of_form mark text ≡ false
  unfolding asked_by
  malformed_asked e = go (of_form mark text) refl e
    where
      go : (form : Bool) → of_form mark text ≡ form → cond form (Some (asked (length (numbers_in text)) (rest_start text))) None ≡ None → of_form mark text ≡ false
      go true form e = absurd (let z : ◌≡◌ {A = ℕ} 0 1 = cc in omega arith)
      go false form e = form
