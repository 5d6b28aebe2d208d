-- A column's figures, from its last departure to its first: each that reaches the junction adds its journey to those behind it. And the
-- figures of one column after another fill the table.
use Prim.Native.Nat.{ℕ, zero, suc, ◌+◌, ◌-◌, ◌*◌, ◌≤◌, ◌<◌}
use mathlib.Core.Path.{◌≡◌, refl, sym, ap, subst, ◌∙◌}
use mathlib.Core.Bool.{cond}
use mathlib.Core.List.{List, [], ◌∷◌, ◌++◌, append_assoc, append-nil}
use mathlib.Core.Logic.{inl, inr}
use native.Mathlib.Omega.{arith}
use lib.Dec.{eqb}
use lib.ListN.{length, get_or, take, drop}
use lib.Seq.{drop-cons, drop-length, take_all}
use borrow.Rule.Slice.PartMut.{put_mid}
use Rattle.std.proofs.lemmas.Slice.{take-put_mid}
use borrow.Author.Tests.{eq-eqb, ne_eqb}
use Rattle.model.specs.Ticks.{last, never}
use Rattle.sheeting.specs.Figures.{least, greatest, sum, four_of}
use Rattle.sheeting.specs.Code.Columns.{column_ticks, column_figures_lem, figures_in, with_journey_lem, ColumnKept}
use Rattle.sheeting.specs.declared.figures.Figures.{Figures}

-- ---- One more journey

least_of_more : (t : ℕ) (ts : List ℕ) → (with_journey_lem (figures_in ts) t).least ≡ least (t ∷ ts)
unfolding least
least_of_more t [] = refl
least_of_more t (u ∷ us) = rw (ne_eqb (length (u ∷ us)) 0 (λ e. omega arith))

with_journey : (t : ℕ) (ts : List ℕ) → with_journey_lem (figures_in ts) t ≡ figures_in (t ∷ ts)
unfolding greatest sum
with_journey t ts =
    let counts : length ts + 1 ≡ length (t ∷ ts) = omega arith in
    let adds : sum ts + t ≡ sum (t ∷ ts) = omega arith in
    rw (counts, least_of_more t ts, adds)

-- ---- A column

-- What the departures from k on come to.
pub record Tallied (labels departures : List ℕ) (junctions j k : ℕ) (f : Figures) : Type 0 where
  pub k_fits : k ≤ length departures
  pub are : f ≡ figures_in (column_ticks labels junctions (k * junctions + j) (drop k departures))
  pub few : f.count + k ≤ length departures
  pub small : f.sum + k * last ≤ length departures * last

pub tally_starts : (labels departures : List ℕ) (junctions j : ℕ) (f : Figures) → f.count ≡ 0 → f.least ≡ 0 → f.greatest ≡ 0 → f.sum ≡ 0 →
    Tallied labels departures junctions j (length departures) f
unfolding column_ticks least greatest sum
tally_starts labels departures junctions j f count fewest most total = record {
  k_fits = omega arith;
  are = let none : record { count = f.count; least = f.least; greatest = f.greatest; sum = f.sum } ≡ figures_in [] = rw (count, fewest, most, total) in rw (drop-length departures) none;
  few = omega arith;
  small = omega arith;
}

module _ {labels departures : List ℕ} {junctions j : ℕ} where
  pub tally_before : {k : ℕ} {f : Figures} → Tallied labels departures junctions j k f → 0 < k → Tallied labels departures junctions j (suc (k - 1)) f
  tally_before {k} {f} t some = let same : suc (k - 1) ≡ k = omega arith in subst (λ n. Tallied labels departures junctions j n f) (sym same) t

  module _ (kept : ColumnKept labels departures junctions j) {f : Figures} (p : ℕ) (t : Tallied labels departures junctions j (suc p) f) where
    abbrev place : ℕ
    place = p * junctions + j

    p_inside : p < length departures
    p_inside = t.k_fits

    abbrev others : List ℕ
    others = column_ticks labels junctions (suc p * junctions + j) (drop (suc p) departures)

    ticks_from : column_ticks labels junctions place (drop p departures)
        ≡ cond (eqb (get_or labels place 0) never) others ((get_or labels place 0 - get_or departures p 0) ∷ others)
    unfolding column_ticks
    ticks_from =
        let next : place + junctions ≡ suc p * junctions + j = omega arith in
        rw (drop-cons departures p 0 p_inside, next)

    pub tally_unreached : get_or labels place 0 ≡ never → Tallied labels departures junctions j p f
    tally_unreached e = record {
      k_fits = omega (arith, t.k_fits);
      are = t.are ∙ ap figures_in (sym (ticks_from ∙ rw (eq-eqb (get_or labels place 0) never e)));
      few = omega (arith, t.few);
      small = omega (arith, t.small);
    }

    module _ (reached : get_or labels place 0 ≡ never → ⊥) where
      in_time : (get_or departures p 0 ≤ get_or labels place 0) × (get_or labels place 0 ≤ last)
      in_time = elim (kept.in_time p p_inside) [
        | inl never-there ↦ absurd (reached never-there)
        | inr between ↦ between
      ]

      pub tally_reached : Tallied labels departures junctions j p (with_journey_lem f (get_or labels place 0 - get_or departures p 0))
      tally_reached = record {
        k_fits = omega (arith, t.k_fits);
        are = ap (λ g. with_journey_lem g (get_or labels place 0 - get_or departures p 0)) t.are
            ∙ with_journey (get_or labels place 0 - get_or departures p 0) others
            ∙ ap figures_in (sym (ticks_from ∙ rw (ne_eqb (get_or labels place 0) never reached)));
        few = omega (arith, t.few);
        small = omega (arith, t.small, in_time.1);
      }

-- ---- One column after another

columns_snoc : (labels departures : List ℕ) (junctions j k : ℕ) →
    column_figures_lem labels departures junctions j (suc k) ≡ column_figures_lem labels departures junctions j k ++ four_of (column_ticks labels junctions (j + k) departures)
unfolding column_figures_lem
columns_snoc labels departures junctions j zero = let same : j + 0 ≡ j = omega arith in rw (append-nil (four_of (column_ticks labels junctions j departures)), same)
columns_snoc labels departures junctions j (suc k) =
    let next : suc j + k ≡ j + suc k = omega arith in
    ap (λ behind. four_of (column_ticks labels junctions j departures) ++ behind) (columns_snoc labels departures junctions (suc j) k)
    ∙ rw (next, append_assoc)

-- The table starts with the figures of the first j columns. With the next column's behind them it starts with those of one more.
module _ (labels departures : List ℕ) (junctions j : ℕ) (figures : List ℕ)
    (written : take (4 * j) figures ≡ column_figures_lem labels departures junctions 0 j) (long : length figures ≡ 4 * junctions) where
  pub figures_go_on : j < junctions → (size : ℕ) (four : List ℕ) → four ≡ four_of (column_ticks labels junctions j departures) →
      take (4 * (j + 1)) (put_mid (4 * j) size figures four) ≡ column_figures_lem labels departures junctions 0 (j + 1)
  figures_go_on more size four is =
      let four_long : length four ≡ 4 = ap length is in
      let next : j + 1 ≡ suc j = omega arith in
      let here : 0 + j ≡ j = omega arith in
      take-put_mid (4 * j) size figures four (4 * (j + 1)) (omega arith) (omega (arith, long))
      ∙ rw (written, is, next, columns_snoc labels departures junctions 0 j, here)

  pub figures_end : j ≡ junctions → figures ≡ column_figures_lem labels departures junctions 0 junctions
  figures_end same = sym (take_all (4 * j) figures (omega (arith, long))) ∙ written ∙ rw same
