-- The pass over a table as it lies in memory: four comparisons a track, wire by wire.
use mathlib.Core.Path.{◌≡◌, refl, sym, ◌∙◌}
use mathlib.Core.Bool.{Bool, true, false, not, cond}
use mathlib.Core.List.{List}
use mathlib.Core.Logic.{inl, inr, ⊎_elim, ◌↔◌}
use Prim.Native.Nat.{ℕ, suc, ◌+◌, ◌*◌, ◌≤◌, ◌<◌}
use native.Mathlib.Nat.{eq-or-lt_of_le}
use native.Mathlib.Numerals.{add-one}
use native.Mathlib.Omega.{arith}
use lib.ListN.{length, get_or, take, drop}
use lib.Seq.{get_or-take, get_or-drop}
use Rattle.std.specs.Bool.{MatchBool}
use Rattle.std.specs.List.{AllWithin, HoldsAt, range_with_len}
use Rattle.std.proofs.lemmas.List.FromFn.{get_or-range_with_len, length-range_with_len}
use Rattle.std.proofs.Common.{subst}
use lib.IntN.{ℤ, pos}
use lib.Signed.{◌<ℤ◌, lt_z}
use Rattle.whole.specs.Pick.{larger_of, smaller_of}
use Rattle.whole.proofs.Arith.{arithℤ, ≤_or_<}
use Rattle.whole.proofs.Order.{untrue, true_lt, false_lt, larger_law, smaller_law}
use Rattle.wiring.specs.Wiring.{pad}
use Rattle.route.specs.Table.{column_in}
use Rattle.route.specs.Asked.{ends_wrong, Clear}
use Rattle.route.specs.declared.checking.Table.{Table}
use Rattle.route.specs.Check.{rightmost, leftmost, WireClear, NoFault, RunsApart}
use Rattle.route.proofs.Faults.{ends_tell}

-- what one comparison adds
record Added (x y : ℤ) (k : ℕ) : Type 0 where
  few : k ≤ 1
  none : k ≡ 0 → x <ℤ y
  some : x <ℤ y → k ≡ 0

added : (x y : ℤ) → Added x y (cond (lt_z x y) 0 1)
added x y = go (lt_z x y) refl
  where
    go : (t : Bool) → lt_z x y ≡ t → Added x y (cond t 0 1)
    go true e = record { few = omega arith; none = λ z. true_lt x y e; some = λ z. refl }
    go false e = record { few = omega arith; none = λ z. absurd (omega arith); some = λ z. absurd (omega (arithℤ, false_lt x y e)) }

pub four : (p p' q q' : ℤ) (k : ℕ) → k ≡ cond (lt_z p q) 0 1 + cond (lt_z p q') 0 1 + cond (lt_z p' q) 0 1 + cond (lt_z p' q') 0 1
    → (k ≤ 4) × ((k ≡ 0) ↔ (larger_of p p' <ℤ smaller_of q q'))
four p p' q q' k e =
    let a = added p q in
    let b = added p q' in
    let c = added p' q in
    let d = added p' q' in
    let h = larger_law p p' in
    let l = smaller_law q q' in (
      omega arith,
      (
        (λ z.
            let wa : p <ℤ q = a.none (omega arith) in
            let wb : p <ℤ q' = b.none (omega arith) in
            let wc : p' <ℤ q = c.none (omega arith) in
            let wd : p' <ℤ q' = d.none (omega arith) in
            ⊎_elim (λ x. ⊎_elim (λ y. omega arithℤ) (λ y. omega arithℤ) l.one) (λ x. ⊎_elim (λ y. omega arithℤ) (λ y. omega arithℤ) l.one) h.one),
        (λ z.
            let wa = a.some (omega (arithℤ, h.first, l.first)) in
            let wb = b.some (omega (arithℤ, h.first, l.second)) in
            let wc = c.some (omega (arithℤ, h.second, l.first)) in
            let wd = d.some (omega (arithℤ, h.second, l.second)) in
            omega arith),
      ),
    )

-- one track more
pub runs_more : (p q : ℕ → ℤ) (t m k : ℕ) → (m ≡ 0) ↔ RunsApart p q t
    → (k ≡ 0) ↔ (larger_of (p t) (p (t + 1)) <ℤ smaller_of (q t) (q (t + 1))) → (m + k ≡ 0) ↔ RunsApart p q (t + 1)
runs_more p q t m k f g = (
  (λ z u h. let le : u ≤ t = omega arith in ⊎_elim (λ e. rw e (rw (add-one t) at (g.0 (omega arith)))) (f.0 (omega arith) u) (eq-or-lt_of_le le)),
  (λ r.
      let x : m ≡ 0 = f.1 (λ u h. r u (omega arith)) in
      let y : k ≡ 0 = g.1 (rw (add-one t) (r t (omega arith))) in
      omega arith),
)

-- the places from `at` on are wire i's columns
pub row_from : (table : List ℤ) (s i at k t : ℕ) → at ≡ i * (s + 1) → t < k → pad (take k (drop at table)) t ≡ column_in table s i t
unfolding column_in
row_from table s i at k t e h = get_or-take k (drop at table) t (pos 0) h ∙ get_or-drop at table t (pos 0) ∙ rw e

pub runs_same : (p p' q q' : ℕ → ℤ) (s : ℕ) → ((t : ℕ) → t ≤ s → p t ≡ p' t) → ((t : ℕ) → t ≤ s → q t ≡ q' t) → RunsApart p q s ↔ RunsApart p' q' s
runs_same p p' q q' s f g = (
  λ r t h. rw (← f t (omega arith), ← f (suc t) (omega arith), ← g t (omega arith), ← g (suc t) (omega arith)) (r t h),
  λ r t h. rw (f t (omega arith), f (suc t) (omega arith), g t (omega arith), g (suc t) (omega arith)) (r t h),
)

-- A WIRE IS CLEAR when it starts and ends right, goes straight up from its pad, and its runs are to the left of the next wire's
module _ (n s : ℕ) (a c : ℕ → ℤ) (e : ℕ → ℕ → ℤ) (i : ℕ) where
  clear_of : ends_wrong s a c e i ≡ false → (suc i < n → RunsApart (e i) (e (suc i)) s) → WireClear n s a c e i
  clear_of f r t h (inl x) = (ends_tell s a c e i).no f (inl (refl, x.1))
  clear_of f r t h (inr (inl x)) = (ends_tell s a c e i).no f (inr (inl (refl, x.1)))
  clear_of f r t h (inr (inr (inl x))) = (ends_tell s a c e i).no f (inr (inr (refl, x.1, x.2)))
  clear_of f r t h (inr (inr (inr x))) = omega (arithℤ, x.touches, r x.wire t x.track)

  ends_unclear : ends_wrong s a c e i ≡ true → WireClear n s a c e i → ⊥
  ends_unclear f w =
      ⊎_elim (λ x. w 0 (omega arith) (inl x))
      (λ y. ⊎_elim (λ x. w s (omega arith) (inr (inl x))) (λ x. w 0 (omega arith) (inr (inr (inl x)))) y)
      ((ends_tell s a c e i).yes f)

  clear_runs : suc i < n → WireClear n s a c e i → RunsApart (e i) (e (suc i)) s
  clear_runs l w t h =
      ⊎_elim
      (λ x. absurd (w t (omega arith) (inr (inr (inr (record { track = h; wire = l; touches = x }))))))
      (λ x. x)
      (≤_or_< (leftmost e (suc i) t) (rightmost e i t))

  -- as the code finds it: `right` tells that it starts, ends and leaves its pad as it should
  module _ (right : Bool) (tells : right ≡ not (ends_wrong s a c e i)) where
    go : (x : Bool) → right ≡ not x → ((right ≡ true → x ≡ false) × (right ≡ false → x ≡ true))
    go true h = ((λ z. untrue (sym h ∙ z)), (λ z. refl))
    go false h = ((λ z. refl), (λ z. untrue (sym z ∙ h)))

    pub clear_by : (p q : ℕ → ℤ) (apart : Bool) → right ≡ true → suc i < n → ((t : ℕ) → t ≤ s → p t ≡ e i t) → ((t : ℕ) → t ≤ s → q t ≡ e (suc i) t)
        → (apart ≡ true) ↔ RunsApart p q s → (apart ≡ true) ↔ WireClear n s a c e i
    clear_by p q apart f l here there r =
        let same = runs_same p (e i) q (e (suc i)) s here there in
        ((λ z. clear_of ((go _ tells).0 f) (λ h. same.0 (r.0 z))), (λ w. r.1 (same.1 (clear_runs l w))))

    pub clear_last : right ≡ true → n ≤ suc i → (true ≡ true) ↔ WireClear n s a c e i
    clear_last f l = ((λ z. clear_of ((go _ tells).0 f) (λ h. absurd (omega arith))), (λ w. refl))

    pub unclear : right ≡ false → (false ≡ true) ↔ WireClear n s a c e i
    unclear f = ((λ z. untrue z), (λ w. absurd (ends_unclear ((go _ tells).1 f) w)))

-- what is found of a wire of a table is so of the table's wire
pub same_clear : (t t' : Table) (i i' : ℕ) (r : Bool) → (t' ≡ t) × (i' ≡ i) → (r ≡ true) ↔ Clear t'.asked t'.columns.now i' → (r ≡ true) ↔ Clear t.asked t.columns.now i
same_clear t t' i i' r same told = rw (← same.0, ← same.1) told

-- all wires, as `all` asks them
module _ (n s : ℕ) (a c : ℕ → ℤ) (e : ℕ → ℕ → ℤ) where
  asked : (i : ℕ) → i < n → get_or (range_with_len 0 n) i 0 ≡ i
  asked i l = get_or-range_with_len 0 n i 0 l ∙ omega arith

  pub all_clear : (r : Bool) → MatchBool r (AllWithin (WireClear n s a c e) (range_with_len 0 n) 0 (length (range_with_len 0 n)))
      ((k : ℕ) × (k < length (range_with_len 0 n)) × HoldsAt (λ i. WireClear n s a c e i → ⊥) (range_with_len 0 n) k)
      → (r ≡ true) ↔ NoFault n s a c e
  all_clear true h = ((λ z i l. subst (WireClear n s a c e) (asked i l) (h i 0 (omega arith) (omega (arith, length-range_with_len 0 n)))), (λ f. refl))
  all_clear false h =
      let l : h.0 < n = omega (arith, h.1, length-range_with_len 0 n) in
      ((λ z. untrue z), (λ f. absurd (subst (λ i. WireClear n s a c e i → ⊥) (asked h.0 l) (h.2 0) (f h.0 l))))
