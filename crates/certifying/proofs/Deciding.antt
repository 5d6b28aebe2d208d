-- What a junction and an arc decide.
use Prim.Native.Nat.{ℕ, ◌≤◌, ◌<◌}
use mathlib.Core.Path.{◌≡◌, refl, sym, ◌∙◌}
use mathlib.Core.Bool.{Bool, true, false, ◌&&◌, true≢false}
use mathlib.Core.List.{List}
use mathlib.Core.Logic.{⊎_elim}
use Rattle.std.specs.Prelude.{Option, Decides}
use Rattle.std.proofs.lemmas.Bool.Decides.{Decides-like, Decides-and, Decides-eqb}
use native.Mathlib.Omega.{arith}
use lib.Dec.{eqb}
use lib.ListN.{length, get_or}
use borrow.Author.Tests.{eqb-true, eqb-false}
use Rattle.model.specs.Ticks.{never}
use Rattle.model.specs.Limits.{max_arcs}
use Rattle.model.specs.Labels.{no_arc}
use Rattle.model.specs.Network.{Network, arcs}
use Rattle.model.proofs.Entries.{get_or-inside}
use Rattle.model.proofs.Tests.{leb_cases, eqb_cases}
use Rattle.closed_arcs.specs.FromLabels.{TimedLabels, OnArc, arrives, too_late, not_driven}
use Rattle.closed_arcs.proofs.FromLabels.{placed, at_most_never, head_label}
use Rattle.certifying.specs.Code.Certifying.{Stands, at_source, unreached, reached, comes_to?, Keeps}

-- ---- Deciding

pub shown : {P : Type 0} → P → Decides true P
shown p = (λ _. p, λ _. refl)

pub refuted : {P : Type 0} → (P → ⊥) → Decides false P
refuted falls = (λ e. absurd (true≢false (sym e)), λ p. absurd (falls p))

-- ---- A junction

module _ (heads : List ℕ) (source departure j label predecessor : ℕ) where
  abbrev Here : Type 0
  Here = Stands heads source departure j label predecessor

  pub source_decides : j ≡ source → Decides (eqb predecessor no_arc && eqb label departure) Here
  source_decides same = Decides-like _ (λ (mark, is). at_source same is mark) its (Decides-and _ _ (Decides-eqb predecessor no_arc) (Decides-eqb label departure))
    where
      its : Here → (predecessor ≡ no_arc) × (label ≡ departure)
      its (at_source _ is mark) = (mark, is)
      its (unreached other _ _) = absurd (other same)
      its (reached other _ _ _) = absurd (other same)

  -- With the mark for no predecessor the label of any other junction decides.
  -- A network with so many arcs has none of the mark's number.
  pub marked_other : length heads ≤ max_arcs → predecessor ≡ no_arc → (j ≡ source → ⊥) → Decides (eqb label never) Here
  marked_other few mark other = Decides-like _ (λ is. unreached other is mark) its (Decides-eqb label never)
    where
      its : Here → label ≡ never
      its (at_source same _ _) = absurd (other same)
      its (unreached _ is _) = is
      its (reached _ _ is_arc _) = absurd (omega (arith, few, mark, is_arc))

-- ---- An arc

module _ {N : Network} {labels intervals' : List ℕ} (p : TimedLabels N labels intervals') {a : ℕ} (is_arc : a < arcs N) (predecessors : List ℕ) where
  abbrev head : ℕ
  head = get_or N.heads a 0

  -- Whether the arc is its head's predecessor is known. What driving it came to decides whether it keeps.
  arrival_decides : {arrived : Option (ℕ × ℕ)} → OnArc N labels a arrived → (chosen : Bool) → eqb (get_or predecessors head no_arc) a ≡ chosen →
      Decides (comes_to? arrived (get_or labels head never) chosen) (Keeps N labels predecessors a)
  arrival_decides (arrives {tick} {interval} is by_Last in_interval) true its =
      ⊎_elim
      (λ (test, same). rw test (shown record { no_lower = omega (arith, is, same); attains = λ own. (omega (arith, is), omega (arith, is, same)) }))
      (λ (test, other). rw test (refuted λ k. other (is ∙ (k.attains (eqb-true _ a its)).1)))
      (eqb_cases tick (get_or labels head never))
  arrival_decides (arrives {tick} {interval} is by_Last in_interval) false other =
      ⊎_elim
      (λ (test, no-earlier). rw test (shown record { no_lower = omega (arith, is); attains = λ own. absurd (eqb-false _ a other own) }))
      (λ (test, sooner). rw test (refuted λ k. omega (arith, is, k.no_lower)))
      (leb_cases (get_or labels head never) tick)
  arrival_decides (too_late later) true its = refuted λ k. omega (arith, (k.attains (eqb-true _ a its)).1)
  arrival_decides (too_late later) false other = shown record { no_lower = omega arith; attains = λ own. absurd (eqb-false _ a other own) }
  arrival_decides (not_driven is) true its = refuted λ k. omega (arith, is, (k.attains (eqb-true _ a its)).0)
  arrival_decides (not_driven is) false other =
      shown record { no_lower = omega (arith, is, at_most_never p is_arc head); attains = λ own. absurd (eqb-false _ a other own) }

  -- As the code has it: both entries are inside their tables.
  pub arc_decides : length predecessors ≡ length labels → {arrived : Option (ℕ × ℕ)} → OnArc N labels a arrived →
      Decides (comes_to? arrived (get_or labels head 0) (eqb (get_or predecessors head 0) a)) (Keeps N labels predecessors a)
  arc_decides as_many on =
      rw (head_label p is_arc, get_or-inside predecessors head 0 no_arc (omega (arith, as_many, (placed p is_arc).head_inside))) (arrival_decides on _ refl)
