-- The columns of one wire, 01's, where a pad holds it and where none does; and the wire in a buffer.
use mathlib.Core.Path.{◌≡◌, sym, ap, ◌∙◌}
use mathlib.Core.Bool.{true, false}
use mathlib.Core.Logic.{⊎_elim}
use mathlib.Core.List.{List, [], ◌∷◌, ◌++◌}
use Prim.Native.Nat.{ℕ, zero, suc, ◌+◌, ◌-◌, ◌≤◌, ◌<◌}
use native.Mathlib.Omega.{arith}
use borrow.Author.Tests.{lt-ltb, le-ltb}
use lib.ListN.{length, drop, set}
use borrow.Rule.Slice.PartMut.{put_mid}
use Rattle.std.proofs.lemmas.List.{get_or_append_left, drop_at, length-append}
use native.Mathlib.Numerals.{add-one}
use lib.IntN.{ℤ, pos, ◌+ℤ◌, ◌-ℤ◌}
use lib.Signed.{◌≤ℤ◌, lt_z}
use Rattle.std.proofs.lemmas.Bool.{cases_lt}
use Rattle.std.specs.Int.{int_min, int_max}
use Rattle.std.proofs.lemmas.Int.{ints, clamps, to_z-of_z}
use Rattle.whole.specs.Pick.{larger_of, smaller_of}
use Rattle.whole.proofs.Arith.{arithℤ, sum, dif}
use Rattle.whole.proofs.Order.{true_lt, false_lt, larger_is}
use Rattle.wiring.specs.Wiring.{pad, top_pad}
use Rattle.wiring.specs.Drawing.{rightward, leftward, entry}
use Rattle.wiring.proofs.Drawing.{column_first, column_next}
use Rattle.route.specs.Draw.{drawn_of, wire_drawn}
use Rattle.route.proofs.Places.{columns_first}

module _ (n : ℕ) (a : ℕ → ℤ) (c : ℤ) (i t : ℕ) where
  pub rightward_held : i + t < n → rightward n a c i t ≡ int_min c (a (i + t) -ℤ pos t)
  unfolding rightward smaller_of
  rightward_held h = rw (lt-ltb (i + t) n h)

  pub rightward_free : n ≤ i + t → rightward n a c i t ≡ c
  unfolding rightward
  rightward_free h = rw (le-ltb (i + t) n h)

  pub leftward_held : t ≤ i → leftward a c i t ≡ int_max c (a (i - t) +ℤ pos t)
  unfolding leftward larger_of
  leftward_held h = rw (le-ltb i t h) (sym (larger_is c (a (i - t) +ℤ pos t)))

  pub leftward_free : i < t → leftward a c i t ≡ c
  unfolding leftward
  leftward_free h = rw (lt-ltb i t h)

-- 01's two directions, at every number: at 0 both are the pad itself
module _ (n : ℕ) (a : ℕ → ℤ) (c : ℤ) (i : ℕ) where
  pub to_left : lt_z c (a i) ≡ true → (t : ℕ) → entry n a c i t ≡ leftward a c i t
  unfolding entry
  to_left h zero =
      let p : a (i - 0) ≡ a i = ap a (omega arith) in
      let q : a (i - 0) +ℤ pos 0 ≡ a i = omega (arithℤ, sum (a (i - 0)) (pos 0)) in
      let l : c ≤ℤ a i = omega (arithℤ, true_lt c (a i) h) in
      sym (leftward_held n a c i 0 (omega arith) ∙ rw q (omega (arith, ints, clamps)))
  to_left h (suc t) = rw h

  pub to_right : i < n → lt_z c (a i) ≡ false → (t : ℕ) → entry n a c i t ≡ rightward n a c i t
  unfolding entry
  to_right lt h zero =
      let p : a (i + 0) ≡ a i = ap a (omega arith) in
      let q : a (i + 0) -ℤ pos 0 ≡ a i = omega (arithℤ, dif (a (i + 0)) (pos 0)) in
      let l : a i ≤ℤ c = false_lt c (a i) h in
      sym (rightward_held n a c i 0 (omega arith) ∙ rw q (omega (arith, ints, clamps)))
  to_right lt h (suc t) = rw h

  -- so columns that pads hold, and above them the last one, are 01's
  module _ (o : ℕ → ℤ) (k : ℕ) where
    pub left_drawn : lt_z c (a i) ≡ true → ((t : ℕ) → t < i + 1 → t < k → o t ≡ leftward a c i t)
        → ((t : ℕ) → i + 1 ≤ t → t < k → o t ≡ c) → (t : ℕ) → t < k → o t ≡ entry n a c i t
    left_drawn h f g t l =
        ⊎_elim (λ m. f t m l ∙ sym (to_left h t)) (λ m. g t m l ∙ sym (to_left h t ∙ leftward_free n a c i t (omega arith))) (cases_lt t (i + 1))

    pub right_drawn : i < n → lt_z c (a i) ≡ false → ((t : ℕ) → t < n - i → t < k → o t ≡ rightward n a c i t)
        → ((t : ℕ) → n - i ≤ t → t < k → o t ≡ c) → (t : ℕ) → t < k → o t ≡ entry n a c i t
    right_drawn lt h f g t l =
        ⊎_elim (λ m. f t m l ∙ sym (to_right lt h t)) (λ m. g t m l ∙ sym (to_right lt h t ∙ rightward_free n a c i t (omega arith))) (cases_lt t (n - i))

-- what the code of a wire's columns needs
pub ruleset ways = (to_z-of_z, leftward_free, rightward_free, to_left, to_right)

-- WIRE i IN A BUFFER: 01's first s columns after the first place, and pad i's column in the first place
pub wire_stands : (a b : List ℤ) (s : ℕ) (d : ℤ) (i : ℕ) (out ys : List ℤ) (k : ℕ) (x : ℤ) → s < length out → length ys ≡ s → k ≡ s → x ≡ pad a i
    → ((t : ℕ) → t < s → pad ys t ≡ entry (length a) (pad a) (top_pad b d i) i t) → set (put_mid 1 k out ys) 0 x ≡ wire_drawn a b s d i out
wire_stands a b s d i [] ys k x room all h first f = absurd (omega arith)
wire_stands a b s d i (y ∷ out) ys k x room all h first f =
    columns_first (drawn_of a b d i) (s + 1) (y ∷ out) (x ∷ (ys ++ drop k out)) (omega (arith, length-append ys (drop k out))) each rest
  where
    each : (t : ℕ) → t < s + 1 → pad (x ∷ (ys ++ drop k out)) t ≡ drawn_of a b d i t
    each zero l = first ∙ sym (column_first (length a) (pad a) (top_pad b d i) i)
    each (suc t) l = get_or_append_left ys (drop k out) (pos 0) t (omega arith) ∙ f t (omega arith) ∙ sym (column_next (length a) (pad a) (top_pad b d i) i t)

    rest : drop (s + 1) (x ∷ (ys ++ drop k out)) ≡ drop (s + 1) (y ∷ out)
    rest = rw (add-one s, h) (drop_at ys (drop s out) s all)
