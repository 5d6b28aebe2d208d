-- The test of a name asks one by one for what makes one.
use Prim.Native.Nat.{ℕ, ◌-◌}
use mathlib.Core.Path.{◌≡◌, ap}
use mathlib.Core.Bool.{true, not, ◌&&◌}
use mathlib.Core.List.{List}
use native.Mathlib.Omega.{arith}
use lib.Dec.{leb, ltb, eqb}
use lib.ListN.{length, get_or}
use borrow.Author.Tests.{ltb-true, lt-ltb, leb-true, le-leb, eqb-false, ne_eqb, not-true}
use Rattle.model.specs.Rules.{every}
use Rattle.model.proofs.Rules.{true_both, both_true}
use Rattle.townfile.specs.Bytes.{space, printable}
use Rattle.townfile.specs.Lines.{name_keeps}
use Rattle.townfile.specs.Grammar.{Name, Printable}
use Rattle.townfile.proofs.Between.{every_between, between_every}

pub keeps_printable : (bytes : List ℕ) → every printable bytes ≡ true → Printable bytes
keeps_printable bytes e = every_between 32 126 bytes e

pub printable_keeps : (bytes : List ℕ) → Printable bytes → every printable bytes ≡ true
printable_keeps bytes all = between_every 32 126 bytes all

pub keeps_name : (name : List ℕ) → name_keeps name ≡ true → Name name
unfolding name_keeps
keeps_name name e =
    let last : ℕ = length name - 1 in
    let all = true_both (ltb 0 (length name) && leb (length name) 24 && every printable name && not (eqb (get_or name 0 0) space)) (not (eqb (get_or name last 0) space)) e in
    let before = true_both (ltb 0 (length name) && leb (length name) 24 && every printable name) (not (eqb (get_or name 0 0) space)) all.0 in
    let bytes = true_both (ltb 0 (length name) && leb (length name) 24) (every printable name) before.0 in
    let lengths = true_both (ltb 0 (length name)) (leb (length name) 24) bytes.0 in
    let last-differs = eqb-false (get_or name last 0) space (not-true (eqb (get_or name last 0) space) all.1) in
    record {
      some_byte = ltb-true 0 (length name) lengths.0;
      few_bytes = leb-true (length name) 24 lengths.1;
      all_printable = keeps_printable name bytes.1;
      first_no_space = eqb-false (get_or name 0 0) space (not-true (eqb (get_or name 0 0) space) before.1);
      last_no_space = λ i h e. (let is_last : length name - 1 ≡ i = omega arith in last-differs (rw is_last e));
    }

pub name_keeps_law : {name : List ℕ} → Name name → name_keeps name ≡ true
unfolding name_keeps
name_keeps_law {name} kept =
    both_true
    (both_true
    (both_true (both_true (lt-ltb 0 (length name) kept.some_byte) (le-leb (length name) 24 kept.few_bytes)) (printable_keeps name kept.all_printable))
    (ap not (ne_eqb (get_or name 0 0) space kept.first_no_space)))
    (ap not (ne_eqb (get_or name (length name - 1) 0) space (kept.last_no_space (length name - 1) (omega arith))))
