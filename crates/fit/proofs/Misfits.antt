-- The search for the least misfit: its steps as the code takes them, and what it says of the rule and of wirings.
use Rattle.std.specs.Prelude.{Option, Some, None, Err}
use mathlib.Core.Path.{◌≡◌, refl, sym, ◌∙◌}
use mathlib.Core.Bool.{Bool, true, false, cond}
use mathlib.Core.List.{List}
use mathlib.Core.Logic.{◌⊎◌, inl, inr, ⊎_elim}
use Prim.Native.Nat.{ℕ, zero, suc, ◌+◌, ◌-◌, ◌<◌, ◌≤◌}
use native.Mathlib.Nat.{eq-or-lt_of_le}
use native.Mathlib.Numerals.{add-one}
use native.Mathlib.Omega.{arith}
use lib.ListN.{length}
use lib.IntN.{ℤ}
use lib.Signed.{◌≤ℤ◌, ◌<ℤ◌}
use Rattle.whole.proofs.Arith.{arithℤ}
use Rattle.whole.proofs.Order.{true_lt, false_lt}
use Rattle.wiring.specs.Wiring.{HasWiring}
use Rattle.wiring.specs.Fit.{lean_of, low_end, high_end, Fits, TooRight, TooLeft}
use Rattle.wiring.specs.Tracks.{rule_at}
use Rattle.wiring.proofs.Rule.{right_breaks, left_breaks}
use Rattle.jumper.specs.Asked.{check_asked, Asked}
use Rattle.jumper.specs.Refusals.{side_number}
use Rattle.jumper.specs.declared.asked.Question.{Question}
use Rattle.jumper.specs.declared.refusal.Side.{Side}
use Rattle.jumper.specs.declared.refusal.Side.TheVariants.{Right, Left}
use Rattle.jumper.specs.declared.refusal.Refusal.{Refusal}
use Rattle.jumper.proofs.Wired.{wiring_exactly}
use Rattle.jumper.proofs.Accepted.{numbered, refused_not}
use Rattle.jumper.proofs.Checks.{asked_accepted, early_asked}
use Rattle.fit.specs.Misfit.{too_right, too_left, side_broken, misfit_at, misfit_from, misfit_of, no_fit, PadsPrevent, Witness, FitAnswer}
use Rattle.fit.specs.declared.misfit.Misfit.{Misfit}

-- one step at i, of the pairs that have a pair s places on among n
module _ (x y : ℕ → ℤ) (s : ℕ) (d : ℤ) (n i : ℕ) (lt : i + s < n) where
  more : n - s - i ≡ suc (n - s - (i + 1))
  more = omega arith

  -- the pair that breaks the rule is what is found
  pub broken_here : (k : Side) → side_broken x y s d i ≡ Some k → misfit_from x y s d i (n - s - i) ≡ Some (misfit_at i k)
  unfolding misfit_from
  broken_here k e = rw more (go (too_right x y s d i) (too_left x y s d i) _ e)
    where
      go : (t u : Bool) (rest : Option Misfit) → cond t (Some Right) (cond u (Some Left) None) ≡ Some k → cond t (Some (misfit_at i Right)) (cond u (Some (misfit_at i Left)) rest) ≡ Some (misfit_at i k)
      go true u rest e = cc
      go false true rest e = cc
      go false false rest e = cc

  -- any other is passed over
  pub free_here : side_broken x y s d i ≡ None → misfit_from x y s d i (n - s - i) ≡ misfit_from x y s d (i + 1) (n - s - (i + 1))
  unfolding misfit_from
  free_here e = rw (more, add-one) (go (too_right x y s d i) (too_left x y s d i) _ e)
    where
      go : (t u : Bool) (rest : Option Misfit) → cond t (Some Right) (cond u (Some Left) None) ≡ None → cond t (Some (misfit_at i Right)) (cond u (Some (misfit_at i Left)) rest) ≡ rest
      go true u rest e = cc
      go false true rest e = cc
      go false false rest e = refl

pub at_end_lem : (x y : ℕ → ℤ) (s : ℕ) (d : ℤ) (n i : ℕ) → n ≤ i + s → misfit_from x y s d i (n - s - i) ≡ None
unfolding misfit_from
at_end_lem x y s d n i h = let e : n - s - i ≡ 0 = omega arith in rw e

-- what it finds among the k pairs from i on
pub record Free (x y : ℕ → ℤ) (s : ℕ) (d : ℤ) (j : ℕ) : Type 0 where
  pub low : low_end x y s j ≤ℤ d
  pub high : d ≤ℤ high_end x y s j

-- pair i breaks the rule on side k
abbrev Breaks : (x y : ℕ → ℤ) (s : ℕ) (d : ℤ) (i : ℕ) → Side → Type 0
Breaks x y s d i Right = high_end x y s i <ℤ d
Breaks x y s d i Left = d <ℤ low_end x y s i

record First (x y : ℕ → ℤ) (s : ℕ) (d : ℤ) (i k : ℕ) (m : Misfit) : Type 0 where
  breaks : Breaks x y s d m.pair m.side
  from : i ≤ m.pair
  within : m.pair < i + k
  free : (j : ℕ) → i ≤ j → j < m.pair → Free x y s d j

abbrev Found : (x y : ℕ → ℤ) (s : ℕ) (d : ℤ) (i k : ℕ) → Option Misfit → Type 0
Found x y s d i k None = (j : ℕ) → i ≤ j → j < i + k → Free x y s d j
Found x y s d i k (Some m) = First x y s d i k m

-- pair i is free: what is found after it is found from it
later : (x y : ℕ → ℤ) (s : ℕ) (d : ℤ) (i k : ℕ) (m : Option Misfit) → Free x y s d i → Found x y s d (suc i) k m → Found x y s d i (suc k) m
later x y s d i k None f g = λ j l h. ⊎_elim (λ e. rw (← e) f) (λ lt. g j (omega arith) (omega arith)) (eq-or-lt_of_le l)
later x y s d i k (Some m) f g =
    record {
      breaks = g.breaks;
      from = omega (arith, g.from);
      within = omega (arith, g.within);
      free = λ j l h. ⊎_elim (λ e. rw (← e) f) (λ lt. g.free j (omega arith) h) (eq-or-lt_of_le l);
    }

found : (x y : ℕ → ℤ) (s : ℕ) (d : ℤ) (i k : ℕ) → Found x y s d i k (misfit_from x y s d i k)
unfolding misfit_from
found x y s d i zero = λ j l h. absurd (omega arith)
found x y s d i (suc k) = go (too_right x y s d i) (too_left x y s d i) refl refl (found x y s d (suc i) k)
  where
    go : (t u : Bool) → too_right x y s d i ≡ t → too_left x y s d i ≡ u → Found x y s d (suc i) k (misfit_from x y s d (suc i) k) → Found x y s d i (suc k) (cond t (Some (misfit_at i Right)) (cond u (Some (misfit_at i Left)) (misfit_from x y s d (suc i) k)))
    go true u e f g = record { breaks = true_lt (high_end x y s i) d e; from = omega arith; within = omega arith; free = λ j l h. absurd (omega arith) }
    go false true e f g = record { breaks = true_lt d (low_end x y s i) f; from = omega arith; within = omega arith; free = λ j l h. absurd (omega arith) }
    go false false e f g = later x y s d i k (misfit_from x y s d (suc i) k) (record { low = false_lt d (low_end x y s i) f; high = false_lt (high_end x y s i) d e }) g

-- THE WITNESS: none exactly where the rule holds, else the least pair that breaks it
pub none_fits : (a b : List ℤ) (s : ℕ) (d : ℤ) → misfit_of a b s d ≡ None → Fits (length a) s (lean_of a) (lean_of b) d
none_fits a b s d e =
    let f = rw e at (found (lean_of a) (lean_of b) s d 0 (length a - s)) in
    record { low = λ i h. (f i (omega arith) (omega arith)).low; high = λ i h. (f i (omega arith) (omega arith)).high }

-- what is found breaks the rule, and nothing before it does
pub record Broken (a b : List ℤ) (s : ℕ) (d : ℤ) (i side : ℕ) : Type 0 where
  pub breaks : ((side ≡ 1) × TooRight (length a) s (lean_of a) (lean_of b) d i) ⊎ ((side ≡ 2) × TooLeft (length a) s (lean_of a) (lean_of b) d i)
  pub least : (j : ℕ) → j < i → (TooRight (length a) s (lean_of a) (lean_of b) d j → ⊥) × (TooLeft (length a) s (lean_of a) (lean_of b) d j → ⊥)

pub at_broken : (a b : List ℤ) (s : ℕ) (d : ℤ) (m : Misfit) → misfit_of a b s d ≡ Some m → Broken a b s d m.pair (side_number m.side)
at_broken a b s d m e =
    let f : First (lean_of a) (lean_of b) s d 0 (length a - s) m = rw e at (found (lean_of a) (lean_of b) s d 0 (length a - s)) in
    let inside : m.pair + s < length a = omega (arith, f.within) in
    record {
      breaks = on m.side f.breaks inside;
      least = λ j h. let g = f.free j (omega arith) h in ((λ r. omega (arithℤ, r.above, g.high)), (λ l. omega (arithℤ, l.under, g.low)));
    }
  where
    x : ℕ → ℤ
    x = lean_of a

    y : ℕ → ℤ
    y = lean_of b

    on : (k : Side) → Breaks x y s d m.pair k → m.pair + s < length a
        → ((side_number k ≡ 1) × TooRight (length a) s x y d m.pair) ⊎ ((side_number k ≡ 2) × TooLeft (length a) s x y d m.pair)
    on Right h g = inl (refl, record { inside = g; above = h })
    on Left h g = inr (refl, record { inside = g; under = h })

pub broken_breaks : {a b : List ℤ} {s : ℕ} {d : ℤ} {i k : ℕ} → Broken a b s d i k → Fits (length a) s (lean_of a) (lean_of b) d → ⊥
broken_breaks w f = ⊎_elim (λ r. right_breaks r.1 f) (λ l. left_breaks l.1 f) w.breaks

pub broken_inside : {a b : List ℤ} {s : ℕ} {d : ℤ} {i k : ℕ} → Broken a b s d i k → i + s < length a
broken_inside w = ⊎_elim (λ r. r.1.inside) (λ l. l.1.inside) w.breaks

-- THE TWO PADS prevent it, in any accepted rows: what breaks the rule at pair i are these two columns alone
module _ (a b : List ℤ) (s : ℕ) (d : ℤ) (i : ℕ) where
  pub right_pads : TooRight (length a) (rule_at s) (lean_of a) (lean_of b) d i → PadsPrevent a b s d (i + rule_at s) i
  right_pads r a' b' k e f w = right_breaks {i = i} (record { inside = e.0; above = rw (e.1, f.1) r.above }) ((wiring_exactly k s d).0 w)

  pub left_pads : TooLeft (length a) (rule_at s) (lean_of a) (lean_of b) d i → PadsPrevent a b s d i (i + rule_at s)
  left_pads l a' b' k e f w = left_breaks {i = i} (record { inside = omega (arith, f.0, k.equal); under = rw (e.1, f.1) l.under }) ((wiring_exactly k s d).0 w)

-- the witness at a separation is what is found where the rule serves it
pub at_witness : (a b : List ℤ) (s : ℕ) (d : ℤ) (m : Misfit) → misfit_of a b (rule_at s) d ≡ Some m → Witness a b s d m.pair (side_number m.side)
at_witness a b s d m e =
    let w = at_broken a b (rule_at s) d m e in
    record {
      breaks = w.breaks;
      least = w.least;
      pads = ⊎_elim (λ r. inl (r.0, right_pads a b s d m.pair r.1)) (λ l. inr (l.0, left_pads a b s d m.pair l.1)) w.breaks;
    }

-- the pairs before it are free
pub free_before : (a b : List ℤ) (s : ℕ) (d : ℤ) (m : Misfit) → misfit_of a b s d ≡ Some m → (j : ℕ) → j < m.pair → Free (lean_of a) (lean_of b) s d j
free_before a b s d m e j h =
    let f : First (lean_of a) (lean_of b) s d 0 (length a - s) m = rw e at (found (lean_of a) (lean_of b) s d 0 (length a - s)) in
    f.free j (omega arith) h

pub fits_none : (a b : List ℤ) (s : ℕ) (d : ℤ) → Fits (length a) s (lean_of a) (lean_of b) d → misfit_of a b s d ≡ None
fits_none a b s d f = go (misfit_of a b s d) refl
  where
    go : (m : Option Misfit) → misfit_of a b s d ≡ m → m ≡ None
    go None e = refl
    go (Some m) e = absurd (broken_breaks (at_broken a b s d m e) f)

-- WHAT `fit` PROMISES, from its answer
by_misfit : (a b : List ℤ) (s : ℕ) (d : ℤ) → Asked a b s d → (m : Option Misfit) → misfit_of a b (rule_at s) d ≡ m → FitAnswer a b s d (no_fit m)
by_misfit a b s d k None e =
    let w = (wiring_exactly k.rows s d).1 (none_fits a b (rule_at s) d e) in
    record {
      answer = sym (rw (asked_accepted a b s d k, e));
      fits = ((λ z. (k, w)), (λ z. refl));
      prevents = ((λ z. absurd (omega arith)), (λ z. absurd (z.1 w)));
      witness = λ z. absurd (omega arith);
    }
by_misfit a b s d k (Some m) e =
    let none : HasWiring a b s d → ⊥ = λ h. broken_breaks (at_broken a b (rule_at s) d m e) ((wiring_exactly k.rows s d).0 h) in
    record {
      answer = sym (rw (asked_accepted a b s d k, e));
      fits = ((λ z. absurd (omega arith)), (λ z. absurd (none z.1)));
      prevents = ((λ z. (k, none)), (λ z. refl));
      witness = λ z. at_witness a b s d m e;
    }

-- a refusal by the checks is none of NOFIT
pub fit_refused : (a b : List ℤ) (s : ℕ) (d : ℤ) (r : Refusal) → check_asked a b s d ≡ Err r → FitAnswer a b s d (Err r)
fit_refused a b s d r e =
    let l = rw e at (early_asked a b s d) in
    let not : Asked a b s d → ⊥ = λ k. refused_not r (sym e ∙ asked_accepted a b s d k) in
    record {
      answer = sym (rw e);
      fits = ((λ z. absurd (numbered r z)), (λ z. absurd (not z.0)));
      prevents = ((λ z. absurd (omega arith)), (λ z. absurd (not z.0)));
      witness = λ z. absurd (omega arith);
    }

-- what a question holds of the call that it comes from
module _ (q : Question) {a b : List ℤ} {s : ℕ} {d : ℤ} (e : (q.rows.bottom.now ≡ a) × (q.rows.top.now ≡ b) × (q.separation ≡ s) × (q.offset ≡ d)) where
  pub asked_of : Asked a b s d
  asked_of =
      let k : Asked q.rows.bottom.now q.rows.top.now q.separation q.offset = record { rows = q.rows.accepted; tracks = q.tracks; offset = q.shift } in
      rw (e.0, e.1, e.2, e.3) at k

  pub found_of : (m : Option Misfit) → m ≡ misfit_of q.rows.bottom.now q.rows.top.now (rule_at q.separation) q.offset → misfit_of a b (rule_at s) d ≡ m
  found_of m h = sym (rw (e.0, e.1, e.2, e.3) at h)

  pub fit_found : (m : Option Misfit) → m ≡ misfit_of q.rows.bottom.now q.rows.top.now (rule_at q.separation) q.offset → FitAnswer a b s d (no_fit m)
  fit_found m h = by_misfit a b s d asked_of m (found_of m h)
