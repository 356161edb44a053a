-- The code's sums of columns are the ends that a pair sets, and its tests are the rule's; all of them fit an i32.
use mathlib.Core.Path.{◌≡◌, sym, ◌∙◌}
use mathlib.Core.Bool.{Bool}
use mathlib.Core.List.{List}
use Prim.Native.Nat.{ℕ, ◌+◌, ◌-◌, ◌≤◌, ◌<◌, ◌^◌}
use native.Mathlib.Omega.{arith}
use lib.ListN.{length}
use lib.IntN.{ℤ, pos, ◌+ℤ◌, ◌-ℤ◌, nat_abs}
use lib.Signed.{lt_z, mag}
use Rattle.whole.specs.Pick.{largest_at, smallest_at}
use Rattle.whole.proofs.Arith.{arithℤ, sum, dif}
use Rattle.whole.proofs.Order.{lt_same}
use Rattle.std.proofs.Common.{FitsSigned, to_z, of_z, w32}
use Rattle.std.proofs.lemmas.Int.{to_z_pos}
use Rattle.whole.proofs.Machine.{back, fits32, abs_sum, abs_dif}
use Rattle.wiring.specs.Wiring.{pad}
use Rattle.wiring.specs.Fit.{lean_of, low_end, high_end}
use Rattle.jumper.specs.Limits.{AcceptedOffset}
use Rattle.jumper.specs.Rows.{AcceptedRow, AcceptedRows}
use Rattle.jumper.specs.declared.asked.Question.{Question}
use Rattle.jumper.proofs.Accepted.{near, near_offset}
use Rattle.fit.specs.Misfit.{too_right, too_left}
use Rattle.fit.specs.Offsets.{low_gap, high_gap, gaps_of}

module _ (a b : List ℤ) (s i : ℕ) where
  pub low_is : (pad a i -ℤ pad b (i + s)) +ℤ pos s ≡ low_end (lean_of a) (lean_of b) s i
  low_is =
      let x = pad a i in
      let y = pad b (i + s) in
      omega (arithℤ, sum (x -ℤ y) (pos s), dif x y, dif (lean_of a i) (lean_of b (i + s)), dif x (pos i), dif y (pos (i + s)))

  pub high_is : (pad a (i + s) -ℤ pad b i) -ℤ pos s ≡ high_end (lean_of a) (lean_of b) s i
  high_is =
      let x = pad a (i + s) in
      let y = pad b i in
      omega (arithℤ, dif (x -ℤ y) (pos s), dif x y, dif (lean_of a (i + s)) (lean_of b i), dif x (pos (i + s)), dif y (pos i))

  module _ (d : ℤ) where
    pub right_test : lt_z (pad a (i + s)) ((pad b i +ℤ d) +ℤ pos s) ≡ too_right (lean_of a) (lean_of b) s d i
    right_test =
        let x = pad a (i + s) in
        let y = pad b i in
        lt_same x ((y +ℤ d) +ℤ pos s) (high_end (lean_of a) (lean_of b) s i) d
        (λ h. omega (arithℤ, sum (y +ℤ d) (pos s), sum y d, dif (lean_of a (i + s)) (lean_of b i), dif x (pos (i + s)), dif y (pos i)))
        (λ h. omega (arithℤ, sum (y +ℤ d) (pos s), sum y d, dif (lean_of a (i + s)) (lean_of b i), dif x (pos (i + s)), dif y (pos i)))

    pub left_test : lt_z (pad b (i + s) +ℤ d) (pad a i +ℤ pos s) ≡ too_left (lean_of a) (lean_of b) s d i
    left_test =
        let x = pad a i in
        let y = pad b (i + s) in
        lt_same (y +ℤ d) (x +ℤ pos s) d (low_end (lean_of a) (lean_of b) s i)
        (λ h. omega (arithℤ, sum y d, sum x (pos s), dif (lean_of a i) (lean_of b (i + s)), dif x (pos i), dif y (pos (i + s))))
        (λ h. omega (arithℤ, sum y d, sum x (pos s), dif (lean_of a i) (lean_of b (i + s)), dif x (pos i), dif y (pos (i + s))))

-- what the code adds and subtracts is far from the ends of an i32
module _ {a b : List ℤ} (r : AcceptedRows a b) (s i j : ℕ) (few : s < length a) where
  small : nat_abs (pos s) ≤ 2048
  small = omega (arith, r.few)

  pub fit_difference : mag (pad a i -ℤ pad b j) < 2 ^ 31
  fit_difference = fits32 (pad a i -ℤ pad b j) (omega (arith, abs_dif (pad a i) (pad b j), near a r.bottom i, near b r.top j))

  fit_low : mag ((pad a i -ℤ pad b j) +ℤ pos s) < 2 ^ 31
  fit_low = fits32 ((pad a i -ℤ pad b j) +ℤ pos s) (omega (arith, abs_sum (pad a i -ℤ pad b j) (pos s), abs_dif (pad a i) (pad b j), near a r.bottom i, near b r.top j, small))

  fit_high : mag ((pad a i -ℤ pad b j) -ℤ pos s) < 2 ^ 31
  fit_high = fits32 ((pad a i -ℤ pad b j) -ℤ pos s) (omega (arith, abs_dif (pad a i -ℤ pad b j) (pos s), abs_dif (pad a i) (pad b j), near a r.bottom i, near b r.top j, small))

  pub fit_bottom : mag (pad a i +ℤ pos s) < 2 ^ 31
  fit_bottom = fits32 (pad a i +ℤ pos s) (omega (arith, abs_sum (pad a i) (pos s), near a r.bottom i, small))

  module _ (d : ℤ) (o : AcceptedOffset d) where
    pub fit_top : mag (pad b j +ℤ d) < 2 ^ 31
    fit_top = fits32 (pad b j +ℤ d) (omega (arith, abs_sum (pad b j) d, near b r.top j, near_offset d o))

    pub fit_top_on : mag ((pad b j +ℤ d) +ℤ pos s) < 2 ^ 31
    fit_top_on = fits32 ((pad b j +ℤ d) +ℤ pos s) (omega (arith, abs_sum (pad b j +ℤ d) (pos s), abs_sum (pad b j) d, near b r.top j, near_offset d o, small))

-- the tests as the code makes them of a question, on machine numbers
module _ (q : Question) (s i : ℕ) (inside : i + s < length q.rows.bottom.now) where
  abbrev a : List ℤ
  a = q.rows.bottom.now

  abbrev b : List ℤ
  b = q.rows.top.now

  abbrev d : ℤ
  d = q.offset

  abbrev r : AcceptedRows a b
  r = q.rows.accepted

  few : s < length a
  few = omega (arith, inside)

  of_pad : {c : List ℤ} → AcceptedRow c → (j : ℕ) → to_z w32 (of_z w32 (pad c j)) ≡ pad c j
  of_pad {c} k j = back (pad c j) (fits32 (pad c j) (omega (arith, near c k j)))

  of_offset : to_z w32 (of_z w32 d) ≡ d
  of_offset = back d (fits32 d (omega (arith, near_offset d q.shift)))

  of_few : to_z w32 s ≡ pos s
  of_few = to_z_pos w32 s (omega (arith, r.few))

  pub right_fits : FitsSigned w32 (to_z w32 (of_z w32 (to_z w32 (of_z w32 (pad b i)) +ℤ to_z w32 (of_z w32 d))) +ℤ to_z w32 s)
  right_fits = rw (of_pad r.top i, of_offset, back (pad b i +ℤ d) (fit_top r s i i few d q.shift), of_few) (record { sfits = fit_top_on r s i i few d q.shift })

  pub left_top_fits : FitsSigned w32 (to_z w32 (of_z w32 (pad b (i + s))) +ℤ to_z w32 (of_z w32 d))
  left_top_fits = rw (of_pad r.top (i + s), of_offset) (record { sfits = fit_top r s i (i + s) few d q.shift })

  pub left_bottom_fits : FitsSigned w32 (to_z w32 (of_z w32 (pad a i)) +ℤ to_z w32 s)
  left_bottom_fits = rw (of_pad r.bottom i, of_few) (record { sfits = fit_bottom r s i i few })

  module _ (t : Bool) where
    pub right_tested : lt_z (to_z w32 (of_z w32 (pad a (i + s)))) (to_z w32 (of_z w32 (to_z w32 (of_z w32 (to_z w32 (of_z w32 (pad b i)) +ℤ to_z w32 (of_z w32 d))) +ℤ to_z w32 s))) ≡ t → too_right (lean_of a) (lean_of b) s d i ≡ t
    right_tested e =
        sym (right_test a b s i d)
        ∙ rw (of_pad r.bottom (i + s), of_pad r.top i, of_offset, back (pad b i +ℤ d) (fit_top r s i i few d q.shift), of_few, back ((pad b i +ℤ d) +ℤ pos s) (fit_top_on r s i i few d q.shift)) at e

    pub left_tested : lt_z (to_z w32 (of_z w32 (to_z w32 (of_z w32 (pad b (i + s))) +ℤ to_z w32 (of_z w32 d)))) (to_z w32 (of_z w32 (to_z w32 (of_z w32 (pad a i)) +ℤ to_z w32 s))) ≡ t → too_left (lean_of a) (lean_of b) s d i ≡ t
    left_tested e =
        sym (left_test a b s i d)
        ∙ rw (of_pad r.top (i + s), of_pad r.bottom i, of_offset, back (pad b (i + s) +ℤ d) (fit_top r s i (i + s) few d q.shift), of_few, back (pad a i +ℤ pos s) (fit_bottom r s i i few)) at e

module _ {a b : List ℤ} (r : AcceptedRows a b) (s : ℕ) (few : s < length a) where
  pub fit_low_gap : mag ((gaps_of a b s).low +ℤ pos s) < 2 ^ 31
  fit_low_gap = let i = largest_at (low_gap a b s) (length a - s - 1) in fit_low r s i (i + s) few

  pub fit_high_gap : mag ((gaps_of a b s).high -ℤ pos s) < 2 ^ 31
  fit_high_gap = let i = smallest_at (high_gap a b s) (length a - s - 1) in fit_high r s (i + s) i few

-- what the code asks of a pair, for its tests
pub ruleset tests = (right_fits, left_top_fits, left_bottom_fits, right_tested, left_tested)
