-- A TABLE HAS NO FAULT exactly when its wires are a legal wiring.
-- From legal to faultless the tracks are climbed one by one: the wires enter each in order, and runs that share no column leave it in order.
use mathlib.Core.Path.{◌≡◌, refl, ap}
use mathlib.Core.Logic.{◌⊎◌, inl, inr, ⊎_elim, ◌↔◌}
use Prim.Native.Nat.{ℕ, zero, suc, ◌+◌, ◌-◌, ◌≤◌, ◌<◌}
use native.Mathlib.Decide.{dec_lt}
use native.Mathlib.Omega.{arith}
use lib.IntN.{ℤ}
use lib.Signed.{◌≤ℤ◌, ◌<ℤ◌}
use Rattle.whole.specs.Pick.{larger_of, smaller_of}
use Rattle.whole.proofs.Arith.{arithℤ, ≤_or_<}
use Rattle.whole.proofs.Order.{larger_law, smaller_law, larger_left, larger_right, smaller_left, smaller_right}
use Rattle.wiring.specs.Wiring.{at}
use Rattle.wiring.specs.Fit.{Rising}
use Rattle.wiring.specs.Table.{Between, LegalTable}
use Rattle.wiring.proofs.Rule.{rising_less}
use Rattle.wiring.proofs.Build.{wire_fills, wire_starts, wire_ends, wire_rises, Ordered, ordered_legal}
use Rattle.route.specs.Check.{rightmost, leftmost, WireClear, NoFault}

-- the checker's rule, said of what is right
record InOrder (n s : ℕ) (a c : ℕ → ℤ) (e : ℕ → ℕ → ℤ) : Type 0 where
  starts : (i : ℕ) → i < n → e i 0 ≡ a i
  ends : (i : ℕ) → i < n → e i s ≡ c i
  rises : (i : ℕ) → i < n → 0 < s → e i 1 ≡ e i 0
  runs : (t i : ℕ) → t < s → suc i < n → rightmost e i t <ℤ leftmost e (suc i) t

-- two columns that do not differ are the same
same : (x y : ℤ) → ((x ≡ y → ⊥) → ⊥) → x ≡ y
same x y h = ⊎_elim (λ le. ⊎_elim (λ ge. omega arithℤ) (λ lt. absurd (h (λ e. omega arithℤ))) (≤_or_< y x)) (λ lt. absurd (h (λ e. omega arithℤ))) (≤_or_< x y)

-- two runs that share no column, the first entered to the left of the second, are in order
order : (p p' q q' : ℤ) → p <ℤ q → ((x : ℤ) → Between x p p' → Between x q q' → ⊥) → larger_of p p' <ℤ smaller_of q q'
order p p' q q' lt none = ⊎_elim (λ h. absurd (clash h)) (λ h. h) (≤_or_< (smaller_of q q') (larger_of p p'))
  where
    inside : (x y z : ℤ) → smaller_of y z ≤ℤ x → x ≤ℤ larger_of y z → Between x y z
    inside x y z l h =
        ⊎_elim (λ o. inl (omega (arithℤ, smaller_left y z o), omega (arithℤ, larger_right y z o)))
        (λ o. let o' : z ≤ℤ y = omega arithℤ in inr (omega (arithℤ, smaller_right y z o'), omega (arithℤ, larger_left y z o')))
        (≤_or_< y z)

    -- otherwise the greater of p and the second's leftmost is in both
    clash : smaller_of q q' ≤ℤ larger_of p p' → ⊥
    clash h =
        let x = larger_of p (smaller_of q q') in
        let m = larger_law p (smaller_of q q') in
        let lp = smaller_law p p' in
        let hp = larger_law p p' in
        let lq = smaller_law q q' in
        let hq = larger_law q q' in
        none x
        (inside x p p' (omega (arithℤ, m.first, lp.first)) (⊎_elim (λ g. omega (arithℤ, hp.first)) (λ g. omega arithℤ) m.one))
        (inside x q q' m.second (⊎_elim (λ g. omega (arithℤ, hq.first)) (λ g. omega (arithℤ, hq.first, lq.first)) m.one))

module _ (n s : ℕ) (a c : ℕ → ℤ) (e : ℕ → ℕ → ℤ) where
  faultless : NoFault n s a c e ↔ InOrder n s a c e
  faultless = (
    (λ f. record {
      starts = λ i h. same (e i 0) (a i) (λ k. f i h 0 (omega arith) (inl (refl, k)));
      ends = λ i h. same (e i s) (c i) (λ k. f i h s (omega arith) (inr (inl (refl, k))));
      rises = λ i h l. same (e i 1) (e i 0) (λ k. f i h 0 (omega arith) (inr (inr (inl (refl, l, k)))));
      runs = λ t i h k. ⊎_elim (λ l. absurd (untouched f t i h k l)) (λ l. l) (≤_or_< (leftmost e (suc i) t) (rightmost e i t));
    }),
    (λ o i h. clear i h o),
  )
    where
      untouched : NoFault n s a c e → (t i : ℕ) → t < s → suc i < n → leftmost e (suc i) t ≤ℤ rightmost e i t → ⊥
      untouched f t i h k l = f i (omega arith) t (omega arith) (inr (inr (inr (record { track = h; wire = k; touches = l }))))

      clear : (i : ℕ) → i < n → InOrder n s a c e → WireClear n s a c e i
      clear i h o t l (inl f) = f.1 (o.starts i h)
      clear i h o t l (inr (inl f)) = f.1 (o.ends i h)
      clear i h o t l (inr (inr (inl f))) = f.2 (o.rises i h f.1)
      clear i h o t l (inr (inr (inr f))) = omega (arithℤ, f.touches, o.runs t i f.track f.wire)

  -- the order of neighbours is the order of all
  chain : InOrder n s a c e → (t k i j : ℕ) → t < s → i + suc k ≡ j → j < n → rightmost e i t <ℤ leftmost e j t
  chain A t zero i j lt h l = let g : j ≡ suc i = omega arith in rw g (A.runs t i lt (omega arith))
  chain A t (suc k) i j lt h l =
      let m = i + suc k in
      let g : j ≡ suc m = omega arith in
      let r : rightmost e i t <ℤ leftmost e m t = chain A t k i m lt refl (omega arith) in
      let x = smaller_law (e m t) (e m (suc t)) in
      let y = larger_law (e m t) (e m (suc t)) in
      rw g (omega (arithℤ, A.runs t m lt (omega arith), x.first, y.first))

  apart : InOrder n s a c e → (t i j : ℕ) → t < s → i < j → j < n → rightmost e i t <ℤ leftmost e j t
  apart A t i j lt h l = chain A t (j - suc i) i j lt (omega arith) l

  in_order_ordered : Rising n c → InOrder n s a c e → Ordered n s a c e
  in_order_ordered rc A = record { bottom = A.starts; rises = A.rises; top = A.ends; clear = clear }
    where
      -- both columns belong to the runs of track m
      on : (i j m t t' : ℕ) → i < j → j < n → m < s → (t ≡ m) ⊎ (t ≡ suc m) → (t' ≡ m) ⊎ (t' ≡ suc m) → e i t <ℤ e j t'
      on i j m t t' lt l ms p q =
          let r = apart A m i j ms lt l in
          let h = larger_law (e i m) (e i (suc m)) in
          let k = smaller_law (e j m) (e j (suc m)) in
          let x : e i t ≤ℤ rightmost e i m = ⊎_elim (λ g. rw g h.first) (λ g. rw g h.second) p in
          let y : leftmost e j m ≤ℤ e j t' = ⊎_elim (λ g. rw g k.first) (λ g. rw g k.second) q in
          omega arithℤ

      clear : (i j : ℕ) → i < j → j < n → (t t' : ℕ) → t ≤ s → t' ≤ s → t ≤ suc t' → t' ≤ suc t → e i t <ℤ e j t'
      clear i j lt l t t' ts ts' h k = go (dec_lt t' t) (dec_lt t t') (dec_lt t s)
        where
          go : Dec (t' < t) → Dec (t < t') → Dec (t < s) → e i t <ℤ e j t'
          go (yes r) q p = on i j t' t t' lt l (omega arith) (inr (omega arith)) (inl refl)
          go (no r) (yes q) p = on i j t t t' lt l (omega arith) (inl refl) (inr (omega arith))
          go (no r) (no q) (yes p) = on i j t t t' lt l p (inl refl) (inl (omega arith))
          go (no r) (no q) (no p) =
              let g : t ≡ s = omega arith in
              let g' : t' ≡ s = omega arith in
              omega (arithℤ, ap (e i) g, ap (e j) g', A.ends i (omega arith), A.ends j l, rising_less rc i j lt l)

  module _ (ra : Rising n a) (L : LegalTable n s a c e) where
    starts : (i : ℕ) → i < n → e i 0 ≡ a i
    starts i h = wire_starts (e i) s (a i) (c i) (L.wires i h)

    ends : (i : ℕ) → i < n → e i s ≡ c i
    ends i h = wire_ends (e i) s (a i) (c i) (L.wires i h)

    -- runs on track t share no column
    alone : (t i j : ℕ) → t < s → i < j → j < n → (x : ℤ) → Between x (e i t) (e i (suc t)) → Between x (e j t) (e j (suc t)) → ⊥
    alone t i j ts lt l x p q = L.apart i j lt l (at x t) ((wire_fills (e i) s (at x t)).1 (inl (ts, p))) ((wire_fills (e j) s (at x t)).1 (inl (ts, q)))

    entered : (t : ℕ) → t ≤ s → (i : ℕ) → suc i < n → e i t <ℤ e (suc i) t
    entered zero ts i l = omega (arithℤ, starts i (omega arith), starts (suc i) l, rising_less ra i (suc i) (omega arith) l)
    entered (suc t) ts i l =
        let r = order (e i t) (e i (suc t)) (e (suc i) t) (e (suc i) (suc t)) (entered t (omega arith) i l) (alone t i (suc i) (omega arith) (omega arith) l) in
        let x = larger_law (e i t) (e i (suc t)) in
        let y = smaller_law (e (suc i) t) (e (suc i) (suc t)) in
        omega (arithℤ, x.second, y.second)

    legal_in_order : InOrder n s a c e
    legal_in_order =
        record {
          starts = starts;
          ends = ends;
          rises = λ i h. wire_rises (e i) s (a i) (c i) (L.wires i h);
          runs = λ t i ts l. order (e i t) (e i (suc t)) (e (suc i) t) (e (suc i) (suc t)) (entered t (omega arith) i l) (alone t i (suc i) ts (omega arith) l);
        }

  in_order_legal : Rising n a → Rising n c → InOrder n s a c e ↔ LegalTable n s a c e
  in_order_legal ra rc = ((λ o. ordered_legal (in_order_ordered rc o)), legal_in_order ra)

  pub faultless_legal : Rising n a → Rising n c → NoFault n s a c e ↔ LegalTable n s a c e
  faultless_legal ra rc = let p = in_order_legal ra rc in ((λ f. p.0 (faultless.0 f)), (λ l. faultless.1 (p.1 l)))
