-- THE CHECKER READS ITS FIRST n(s + 1) PLACES: two tables that agree there get the same answer.
use mathlib.Core.Path.{◌≡◌, refl, sym, ap, ◌∙◌}
use mathlib.Core.Bool.{Bool}
use mathlib.Core.List.{List}
use Prim.Native.Nat.{ℕ, zero, suc, ◌+◌, ◌*◌, ◌≤◌, ◌<◌}
use native.Mathlib.Decide.{dec_lt, ℕ_discrete}
use native.Mathlib.Omega.{arith}
use borrow.Author.Tests.{lt-ltb, le-ltb}
use lib.ListN.{length, take, length-take, get_or}
use lib.Seq.{get_or-take}
use lib.IntN.{ℤ, pos}
use Rattle.wiring.specs.Wiring.{pad, top_pad}
use Rattle.route.specs.Table.{column_in, no_room}
use Rattle.route.specs.Check.{start_wrong, end_wrong, steps_aside, run_touches, fault_at, wire_fault, track_fault, route_checked}
use Rattle.route.proofs.Places.{place_in}
use Rattle.route.proofs.Faults.{aside_here, aside_flat, aside_off, touches_here, touches_last, touches_top}

-- the same columns have the same faults
module _ (n s : ℕ) (a c : ℕ → ℤ) (e f : ℕ → ℕ → ℤ) (same : (i t : ℕ) → i < n → t ≤ s → e i t ≡ f i t) where
  touches_same : (t i : ℕ) → i < n → run_touches n s e t i ≡ run_touches n s f t i
  touches_same t i l = go (dec_lt t s) (dec_lt (i + 1) n)
    where
      go : Dec (t < s) → Dec (i + 1 < n) → run_touches n s e t i ≡ run_touches n s f t i
      go (yes h) (yes k) =
          touches_here n s a c e t i h k
          ∙ rw (same (i + 1) t k (omega arith), same (i + 1) (suc t) k (omega arith), same i t l (omega arith), same i (suc t) l (omega arith))
          (sym (touches_here n s a c f t i h k))
      go (yes h) (no k) = touches_last n s a c e t i (omega arith) ∙ sym (touches_last n s a c f t i (omega arith))
      go (no h) k = touches_top n s a c e t i (omega arith) ∙ sym (touches_top n s a c f t i (omega arith))

  aside_same : (t i : ℕ) → i < n → steps_aside s e t i ≡ steps_aside s f t i
  aside_same t i l = go (ℕ_discrete t 0) (dec_lt 0 s)
    where
      go : Dec (t ≡ 0) → Dec (0 < s) → steps_aside s e t i ≡ steps_aside s f t i
      go (yes h) (yes k) = aside_here n s a c e t i h k ∙ rw (same i 1 l (omega arith), same i 0 l (omega arith)) (sym (aside_here n s a c f t i h k))
      go (yes h) (no k) = aside_flat n s a c e t i h (omega arith) ∙ sym (aside_flat n s a c f t i h (omega arith))
      go (no h) k = aside_off n s a c e t i h ∙ sym (aside_off n s a c f t i h)

  fault_same : (t i : ℕ) → i < n → fault_at n s a c e t i ≡ fault_at n s a c f t i
  unfolding fault_at start_wrong end_wrong
  fault_same t i l = rw (same i 0 l (omega arith), same i s l (omega arith), aside_same t i l, touches_same t i l)

-- the same tests find the same fault
wire_fault_same : (p q : ℕ → Bool) (t i k : ℕ) → ((j : ℕ) → j < i + k → p j ≡ q j) → wire_fault p t i k ≡ wire_fault q t i k
unfolding wire_fault
wire_fault_same p q t i zero h = refl
wire_fault_same p q t i (suc k) h = rw (h i (omega arith), wire_fault_same p q t (suc i) k (λ j l. h j (omega arith)))

track_fault_same : (p q : ℕ → ℕ → Bool) (n t k : ℕ) → ((u j : ℕ) → j < n → p u j ≡ q u j) → track_fault p n t k ≡ track_fault q n t k
unfolding track_fault
track_fault_same p q n t zero h = refl
track_fault_same p q n t (suc k) h = rw (wire_fault_same (p t) (q t) t 0 n (λ j l. h t j (omega arith)), track_fault_same p q n (suc t) k h)

module _ (a b : List ℤ) (s : ℕ) (d : ℤ) (table other : List ℤ) (agree : take (length a * (s + 1)) other ≡ take (length a * (s + 1)) table) where
  columns_agree : (i t : ℕ) → i < length a → t ≤ s → column_in table s i t ≡ column_in other s i t
  unfolding column_in
  columns_agree i t h l =
      let k = i * (s + 1) + t in
      let g = place_in (length a) s i t h l in
      sym (get_or-take (length a * (s + 1)) table k (pos 0) g) ∙ ap (λ (x : List ℤ). get_or x k (pos 0)) (sym agree) ∙ get_or-take (length a * (s + 1)) other k (pos 0) g

  room_same : no_room (length a * (s + 1)) (length table) ≡ no_room (length a * (s + 1)) (length other)
  room_same = go (dec_lt (length table) w) (dec_lt (length other) w)
    where
      w : ℕ
      w = length a * (s + 1)

      go : Dec (length table < w) → Dec (length other < w) → no_room w (length table) ≡ no_room w (length other)
      go (yes h) (yes k) = rw (lt-ltb (length table) w h, lt-ltb (length other) w k)
      go (no h) (no k) = rw (le-ltb (length table) w (omega arith), le-ltb (length other) w (omega arith))
      go (yes h) (no k) = absurd (omega (arith, length-take w table, length-take w other, ap (length {A = ℤ}) agree))
      go (no h) (yes k) = absurd (omega (arith, length-take w table, length-take w other, ap (length {A = ℤ}) agree))

  pub reads_only : route_checked a b s d table ≡ route_checked a b s d other
  reads_only =
      let faults = fault_at (length a) s (pad a) (top_pad b d) in
      let same = fault_same (length a) s (pad a) (top_pad b d) (column_in table s) (column_in other s) columns_agree in
      let f = track_fault_same (faults (column_in table s)) (faults (column_in other s)) (length a) 0 (s + 1) same in
      rw (room_same, f)
