-- THE LAWS OF ENTRIES AT A STRIDE: which entries the even half has, that they never fall, and that a trial's range is read from the columns.
use mathlib.Core.Path.{◌≡◌, sym, ◌∙◌, fun_ext}
use mathlib.Core.List.{List}
use Prim.Native.Nat.{ℕ, ◌+◌, ◌-◌, ◌*◌, ◌≤◌, ◌<◌, ◌^◌}
use native.Mathlib.Nat.{zero-add, one-mul, mul-add, mul_assoc, mul_left_comm, mul-le-mul_left}
use native.Mathlib.Omega.{arith}
use lib.ListN.{length}
use lib.IntN.{ℤ, pos, neg_ℤ, ◌+ℤ◌, ◌-ℤ◌, nat_abs}
use lib.Signed.{mag}
use mir.Syntax.{w32}
use mir.Val.{to_z, of_z, SFits}
use Rattle.std.proofs.lemmas.Int.{to_z_pos}
use Rattle.whole.specs.Pick.{largest_at, smallest_at, largest, smallest}
use Rattle.whole.proofs.Arith.{arithℤ, dif, sum}
use Rattle.whole.proofs.Machine.{back, abs_sum, abs_dif, fits32}
use Rattle.whole.proofs.Extremes.{largest_further, smallest_further}
use Rattle.wiring.specs.Wiring.{pad}
use Rattle.wiring.specs.Fit.{lean_of, Rising, Steady, low_end, high_end, evens}
use Rattle.wiring.proofs.Rule.{lean_steady}
use Rattle.jumper.specs.Rows.{AcceptedRows}
use Rattle.jumper.specs.Span.{range_of}
use Rattle.jumper.specs.declared.range.OffsetRange.{OffsetRange}
use Rattle.jumper.proofs.Accepted.{near}
use Rattle.best.specs.Strides.{Strided}
use Rattle.best.specs.declared.entries.Entries.{Entries}
use Rattle.best.specs.Work.{entries, level_entries, x_of, y_of, low_read, high_read, read_of, trial_of}

-- at stride 1 they are x and y
pub whole_entries : (a : List ℤ) → level_entries a 1 ≡ lean_of a
whole_entries a = fun_ext (λ j. rw (one-mul j, zero-add j))

-- "the even half (entries 0, 2, 4 .. of x and y)" stands at twice the stride
twice_times : (p j : ℕ) → 2 * p * j ≡ p * (2 * j)
twice_times p j = mul_assoc 2 p j ∙ mul_left_comm 2 p j

pub even_entries : (a : List ℤ) (p : ℕ) → evens (level_entries a p) ≡ level_entries a (2 * p)
even_entries a p = fun_ext (λ j. rw (twice_times p j))

pub even_strided : {n p m k : ℕ} → 1 < m → m ≤ 2 * k → 2 * k ≤ m + 1 → Strided n p m → Strided n (2 * p) k
even_strided {n} {p} {m} {k} more low high s =
    record {
      some = omega arith;
      few = omega (arith, s.few);
      inside = omega (arith, s.inside, twice_times p (k - 1), mul-le-mul_left {m = 2 * (k - 1)} {n = m - 1} p (omega arith));
    }

-- the pad of an entry is in its row
pub inside_row : {n p m : ℕ} → Strided n p m → (j : ℕ) → j < m → p * j < n
inside_row {n} {p} {m} s j h = omega (arith, s.inside, mul-le-mul_left {m = j} {n = m - 1} p (omega arith))

-- they never fall
pub level_steady : {n p m : ℕ} (a : List ℤ) → Rising n (pad a) → Strided n p m → Steady m (level_entries a p)
level_steady {n} {p} {m} a r s i j h g =
    rw (zero-add (p * i), zero-add (p * j)) (lean_steady r (p * i) (p * j) (mul-le-mul_left {m = i} {n = j} p h) (inside_row s j g))

pub bottom_steady : {a b : List ℤ} {p m : ℕ} → AcceptedRows a b → Strided (length a) p m → Steady m (level_entries a p)
bottom_steady {a} r s = level_steady a r.bottom.rising s

pub top_steady : {a b : List ℤ} {p m : ℕ} → AcceptedRows a b → Strided (length a) p m → Steady m (level_entries b p)
top_steady {b = b} r s = level_steady b (rw r.equal r.top.rising) s

-- the difference of two pads of accepted rows is no large number
pub near_difference : {a b : List ℤ} → AcceptedRows a b → (i j : ℕ) → nat_abs (pad a i -ℤ pad b j) ≤ 2000000
near_difference {a} {b} r i j = omega (arith, abs_dif (pad a i) (pad b j), near a r.bottom i, near b r.top j)

-- every low end is `lower` s further on than what is read for it, every high end as much less
module _ (a b : List ℤ) (first step lower s : ℕ) where
  abbrev x : ℕ → ℤ
  x = entries a first step lower

  abbrev y : ℕ → ℤ
  y = entries b first step lower

  abbrev lows : ℕ → ℤ
  lows = low_read a b first step (step * s)

  abbrev highs : ℕ → ℤ
  highs = high_read a b first step (step * s)

  next : (i : ℕ) → first + step * (i + s) ≡ first + step * i + step * s
  next i = omega (arith, mul-add step i s)

  low_is : (i : ℕ) → low_end x y s i ≡ lows i +ℤ pos (lower * s)
  low_is i =
      rw (next i)
      (let k = pad a (first + step * i) in
      let l = pad b (first + step * i + step * s) in
      let u = pos (lower * i) in
      let v = pos (lower * (i + s)) in
      omega (arithℤ, mul-add lower i s, dif (k -ℤ u) (l -ℤ v), dif k u, dif l v, sum (k -ℤ l) (pos (lower * s)), dif k l))

  high_is : (i : ℕ) → high_end x y s i ≡ highs i -ℤ pos (lower * s)
  high_is i =
      rw (next i)
      (let k = pad a (first + step * i + step * s) in
      let l = pad b (first + step * i) in
      let u = pos (lower * (i + s)) in
      let v = pos (lower * i) in
      omega (arithℤ, mul-add lower i s, dif (k -ℤ u) (l -ℤ v), dif k u, dif l v, dif (k -ℤ l) (pos (lower * s)), dif k l))

  -- so they are set by the same pads
  low_from : (m : ℕ) → largest lows (m - s - 1) +ℤ pos (lower * s) ≡ (range_of m x y s).low
  low_from m = rw (largest_further (low_end x y s) lows (pos (lower * s)) low_is (m - s - 1)) (sym (low_is (largest_at lows (m - s - 1))))

  high_from : (m : ℕ) → smallest highs (m - s - 1) -ℤ pos (lower * s) ≡ (range_of m x y s).high
  high_from m = rw (smallest_further (high_end x y s) highs (neg_ℤ (pos (lower * s))) high_is (m - s - 1)) (sym (high_is (smallest_at highs (m - s - 1))))

  -- wherever the entries stand and however they are lowered: what is read of the columns, its ends moved once, is the trial of the rule, and so is its count
  pub trial_read : (m : ℕ) → s < m → (r : OffsetRange × ℕ) → r ≡ read_of a b first step (step * s) (m - s)
      → ◌≡◌ {A = OffsetRange × ℕ} (record { low = r.0.low +ℤ pos (lower * s); high = r.0.high -ℤ pos (lower * s) }, r.1) (trial_of m x y s)
  trial_read m h r e = rw e (rw (low_from m, high_from m))

-- as a trial works them out, from what is read and in an i32
module _ (e : Entries) (s : ℕ) (h : s < e.len) (r : OffsetRange × ℕ)
    (q : r ≡ read_of e.rows.now.bottom.now e.rows.now.top.now 0 e.step (e.step * s) (e.len - s)) where
  abbrev g : OffsetRange
  g = r.0

  abbrev a : List ℤ
  a = e.rows.now.bottom.now

  abbrev b : List ℤ
  b = e.rows.now.top.now

  abbrev z : ℤ
  z = pos (e.step * s)

  shift : to_z w32 (e.step * s) ≡ z
  shift = to_z_pos w32 (e.step * s) (omega (arith, inside_row e.strided s h, e.rows.now.accepted.few))

  low_near : nat_abs g.low ≤ 2000000
  low_near =
      let k = 0 + e.step * largest_at (low_read a b 0 e.step (e.step * s)) (e.len - s - 1) in
      rw q (near_difference e.rows.now.accepted k (k + e.step * s))

  high_near : nat_abs g.high ≤ 2000000
  high_near =
      let k = 0 + e.step * smallest_at (high_read a b 0 e.step (e.step * s)) (e.len - s - 1) in
      rw q (near_difference e.rows.now.accepted (k + e.step * s) k)

  low_inside : mag (g.low +ℤ z) < 2 ^ 31
  low_inside = fits32 (g.low +ℤ z) (omega (arith, abs_sum g.low z, low_near, inside_row e.strided s h, e.rows.now.accepted.few))

  high_inside : mag (g.high -ℤ z) < 2 ^ 31
  high_inside = fits32 (g.high -ℤ z) (omega (arith, abs_dif g.high z, high_near, inside_row e.strided s h, e.rows.now.accepted.few))

  low_shown : to_z w32 (of_z w32 g.low) ≡ g.low
  low_shown = back g.low (fits32 g.low (omega (arith, low_near)))

  high_shown : to_z w32 (of_z w32 g.high) ≡ g.high
  high_shown = back g.high (fits32 g.high (omega (arith, high_near)))

  pub low_fits : SFits w32 (to_z w32 (of_z w32 g.low) +ℤ to_z w32 (e.step * s))
  low_fits = rw (low_shown, shift) (record { sfits = low_inside })

  pub high_fits : SFits w32 (to_z w32 (of_z w32 g.high) -ℤ to_z w32 (e.step * s))
  high_fits = rw (high_shown, shift) (record { sfits = high_inside })

  pub tried : ◌≡◌ {A = OffsetRange × ℕ} (
    record {
      low = to_z w32 (of_z w32 (to_z w32 (of_z w32 g.low) +ℤ to_z w32 (e.step * s)));
      high = to_z w32 (of_z w32 (to_z w32 (of_z w32 g.high) -ℤ to_z w32 (e.step * s)));
    },
    r.1,
  )
      (trial_of e.len (x_of e) (y_of e) s)
  tried =
      rw (low_shown, high_shown, shift, back (g.low +ℤ z) low_inside, back (g.high -ℤ z) high_inside)
      (trial_read a b 0 e.step e.step s e.len h r q)
