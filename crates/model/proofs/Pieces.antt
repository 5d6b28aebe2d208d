-- The law of the flow over a piece of constant speed. Its spans are a product, so either those left are covered in it, after as many ticks
-- as the quotient rounded up (`stop`), or the arrival is that from its end on with what is left (`skip`).
use Prim.Native.Nat.{ℕ, suc, ◌+◌, ◌-◌, ◌*◌, ◌≤◌, ◌<◌}
use mathlib.Core.Path.{◌≡◌, sym, ap, subst}
use mathlib.Core.Logic.{⊎_elim}
use native.Mathlib.Nat.{eq-zero-or-pos, div-lt_iff_lt-mul, le-div_iff_mul-le, div-zero, mul-zero}
use native.Mathlib.Omega.{arith}
use Rattle.model.specs.Ticks.{last}
use Rattle.model.specs.Flow.{covered, IsArrival, ticks_for_lem, Piece, ArrivalOverPiece, NeverFromLast}
use Rattle.model.proofs.Tests.{leb_cases}
use Rattle.model.proofs.Covered.{covered_add, covered_more, covered_steady}
use Rattle.model.proofs.Arrival.{arrival_is, arrival_is_least}

-- ---- The quotient rounded up is the least number of ticks

ticks_enough : (spans speed : ℕ) → 0 < speed → spans ≤ ticks_for_lem spans speed * speed
ticks_enough spans speed some = omega (arith, (div-lt_iff_lt-mul {x = spans + (speed - 1)} {y = ticks_for_lem spans speed + 1} some).0 (omega arith))

ticks_least : (spans speed m : ℕ) → 0 < speed → m < ticks_for_lem spans speed → m * speed < spans
ticks_least spans speed m some h = omega (arith, (le-div_iff_mul-le {x = suc m} {y = spans + (speed - 1)} some).0 h)

pub ticks_within : (spans speed n : ℕ) → spans ≤ n * speed → ticks_for_lem spans speed ≤ n
ticks_within spans speed n enough =
    ⊎_elim
    (λ still. rw still (omega (arith, div-zero (spans + 0))))
    (λ moving. ⊎_elim (λ w. w.1) (λ w. absurd (omega (arith, ticks_least spans speed n moving w.1))) (leb_cases (ticks_for_lem spans speed) n))
    (eq-zero-or-pos speed)

-- ---- One piece

-- Until its end it covers a product.
pub covered_over_piece : {v : ℕ → ℕ} {at end speed : ℕ} → Piece v at end speed → (n : ℕ) → n ≤ end - at → covered v at n ≡ n * speed
covered_over_piece {v} {at} {end} {speed} piece n h =
    covered_steady v at n speed (λ i l. piece.steady (at + i) (omega arith) (omega (arith, piece.forward)))

module _ (v : ℕ → ℕ) (at end speed left : ℕ) (piece : Piece v at end speed) where
  stop : 0 < left → left ≤ (end - at) * speed → IsArrival v left at (at + ticks_for_lem left speed)
  stop some enough =
      let moving : 0 < speed = ⊎_elim (λ z. absurd (omega (arith, mul-zero (end - at), ap (λ (n : ℕ). (end - at) * n) z))) (λ p. p) (eq-zero-or-pos speed) in
      let here : ticks_for_lem left speed ≤ end - at = ticks_within left speed (end - at) enough in
      IsArrival.attained (ticks_for_lem left speed) (omega (arith, piece.forward, piece.in_time))
      (omega (arith, covered_over_piece piece (ticks_for_lem left speed) here, ticks_enough left speed moving))
      (λ m h. omega (arith, covered_over_piece piece m (omega arith), ticks_least left speed m moving h))

  from_end : (n : ℕ) → covered v at (end - at + n) ≡ (end - at) * speed + covered v end n
  from_end n =
      let same : at + (end - at) ≡ end = omega (arith, piece.forward) in
      omega (arith, covered_add v at (end - at) n, covered_over_piece piece (end - at) (omega arith), ap (λ (t : ℕ). covered v t n) same)

  -- before the end too little is covered, and after it what is left counts
  still_short : (m : ℕ) → (end - at) * speed < left → (end - at ≤ m → covered v end (m - (end - at)) < left - (end - at) * speed) → covered v at m < left
  still_short m short later =
      ⊎_elim
      (λ w. let split : m ≡ end - at + (m - (end - at)) = omega arith in omega (arith, later w.1, from_end (m - (end - at)), ap (covered v at) split))
      (λ w. omega (arith, covered_more v at m (end - at) (omega arith), covered_over_piece piece (end - at) (omega arith)))
      (leb_cases (end - at) m)

  skip : {t : ℕ} → (end - at) * speed < left → IsArrival v (left - (end - at) * speed) end t → IsArrival v left at t
  skip short (IsArrival.attained n by_Last enough before) =
      let same : at + (end - at + n) ≡ end + n = omega (arith, piece.forward) in
      subst (IsArrival v left at) same
      (IsArrival.attained (end - at + n) (omega arith) (omega (arith, from_end n)) (λ m h. still_short m short (λ l. before (m - (end - at)) (omega arith))))
  skip short (IsArrival.none too-little) =
      IsArrival.none (λ m h. still_short m short (λ l. too-little (m - (end - at)) (omega (arith, piece.forward))))

pub arrival_over_piece : ArrivalOverPiece
arrival_over_piece v at end speed left piece some =
    ⊎_elim
    (λ w. rw w.0 (sym ((arrival_is_least v left at _).1 (stop v at end speed left piece some w.1))))
    (λ w. rw w.0 (sym ((arrival_is_least v left at _).1 (skip v at end speed left piece w.1 (arrival_is v _ end)))))
    (leb_cases left ((end - at) * speed))

pub never_from_last : NeverFromLast
never_from_last v left some = sym ((arrival_is_least v left last _).1 (IsArrival.none (λ n h. let none_yet : n ≡ 0 = omega arith in rw none_yet (unfold covered in some))))
