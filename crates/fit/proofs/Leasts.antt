-- The least separation (003, theorem 3): what the scan of the definition finds, what the code's search finds, and what `least_at` promises.
use Rattle.std.specs.Prelude.{Option, Some, None, Result, Ok, Err}
use mathlib.Core.Path.{◌≡◌, refl, sym, ◌∙◌}
use mathlib.Core.Bool.{Bool, true, false, cond}
use mathlib.Core.List.{List}
use mathlib.Core.Logic.{◌⊎◌, inl, inr, ⊎_elim}
use Prim.Native.Nat.{ℕ, zero, suc, ◌+◌, ◌-◌, ◌<◌, ◌≤◌, min}
use native.Mathlib.Decide.{dec_lt}
use native.Mathlib.Numerals.{add-one}
use native.Mathlib.Omega.{arith}
use lib.ListN.{length}
use lib.IntN.{ℤ}
use lib.Signed.{◌≤ℤ◌}
use Rattle.whole.proofs.Arith.{arithℤ}
use Rattle.whole.proofs.Order.{true_lt, false_lt, lt_false}
use Rattle.wiring.specs.Wiring.{HasWiring}
use Rattle.wiring.specs.Fit.{lean_of, Steady, low_end, high_end, Fits, TooRight, TooLeft}
use Rattle.wiring.specs.Tracks.{rule_at, tracks_for}
use Rattle.wiring.proofs.Rule.{lean_steady, fits_above, fits_past, ends_next, right_breaks, left_breaks}
use Rattle.wiring.proofs.Serves.{rule_zero, rule_back, rule_below, rule_fewer, tracks_zero, tracks_up}
use Rattle.jumper.specs.Limits.{max_tracks}
use Rattle.jumper.specs.Rows.{Checked, or_else, check_rows}
use Rattle.jumper.specs.Asked.{offset_fault, check_offset, check_asked, AcceptedShift}
use Rattle.jumper.specs.declared.refusal.Refusal.{Refusal}
use Rattle.jumper.proofs.Accepted.{numbered, refused_not}
use Rattle.jumper.proofs.Checks.{shift_accepted}
use Rattle.fit.specs.Misfit.{too_right, too_left, misfit_from, misfit_of}
use Rattle.fit.specs.Least.{pair_of, least_numbers, breaks_at, least_of, with_witness, LeastAnswer}
use Rattle.fit.specs.declared.misfit.Misfit.{Misfit}
use Rattle.fit.specs.declared.least.Least.{Least}
use Rattle.jumper.proofs.Wired.{wiring_exactly, wired_first, tracks_given}
use Rattle.fit.proofs.Misfits.{Free, free_here, none_fits, at_broken, broken_inside, broken_breaks, at_witness, free_before}

-- pair i, by the test
breaks : (x y : ℕ → ℤ) (s : ℕ) (d : ℤ) (n i : ℕ) → i + s < n → breaks_at x y s d i ≡ true → TooRight n s x y d i ⊎ TooLeft n s x y d i
breaks x y s d n i h e = go (too_right x y s d i) refl e
  where
    go : (t : Bool) → too_right x y s d i ≡ t → cond t true (too_left x y s d i) ≡ true → TooRight n s x y d i ⊎ TooLeft n s x y d i
    go true f g = inl (record { inside = h; above = true_lt (high_end x y s i) d f })
    go false f g = inr (record { inside = h; under = true_lt d (low_end x y s i) g })

holds : (x y : ℕ → ℤ) (s : ℕ) (d : ℤ) (i : ℕ) → breaks_at x y s d i ≡ false → (low_end x y s i ≤ℤ d) × (d ≤ℤ high_end x y s i)
holds x y s d i e = go (too_right x y s d i) refl e
  where
    go : (t : Bool) → too_right x y s d i ≡ t → cond t true (too_left x y s d i) ≡ false → (low_end x y s i ≤ℤ d) × (d ≤ℤ high_end x y s i)
    go true f g = let z : ◌≡◌ {A = ℕ} 0 1 = cc in absurd (omega arith)
    go false f g = (false_lt d (low_end x y s i) g, false_lt (high_end x y s i) d f)

-- s is the least number at which the rule holds for the first n pairs at d
pub record Leastly (n : ℕ) (x y : ℕ → ℤ) (d : ℤ) (s : ℕ) : Type 0 where
  pub within : s ≤ n
  pub fits : Fits n s x y d
  pub least : (t : ℕ) → t < s → Fits n t x y d → ⊥

-- fewer pairs fit where more do
fewer : {n : ℕ} {x y : ℕ → ℤ} {d : ℤ} {s : ℕ} → Fits (suc n) s x y d → Fits n s x y d
fewer f = record { low = λ i h. f.low i (omega arith); high = λ i h. f.high i (omega arith) }

steady_fewer : {n : ℕ} {x : ℕ → ℤ} → Steady (suc n) x → Steady n x
steady_fewer s i j h l = s i j h (omega arith)

-- one pair more, by the test at the number found before it
one_more : (n : ℕ) (x y : ℕ → ℤ) (d : ℤ) (s : ℕ) → Steady (suc n) x → Steady (suc n) y → Leastly n x y d s
    → (t : Bool) → breaks_at x y s d (n - s) ≡ t → Leastly (suc n) x y d (cond t (suc s) s)
one_more n x y d s sx sy l true e =
    let b = breaks x y s d (suc n) (n - s) (omega (arith, l.within)) e in
    record {
      within = omega (arith, l.within);
      fits = record {
        low = λ i h. omega (arithℤ, l.fits.low i (omega arith), (ends_next sx sy s i h).0);
        high = λ i h. omega (arithℤ, l.fits.high i (omega arith), (ends_next sx sy s i h).1);
      };
      least = λ t h f. let g = fits_above sx sy (s - t) t s (omega arith) f in ⊎_elim (λ r. right_breaks r g) (λ r. left_breaks r g) b;
    }
one_more n x y d s sx sy l false e =
    let c = holds x y s d (n - s) e in
    record {
      within = omega (arith, l.within);
      fits = record { low = λ i h. low i h (dec_lt (i + s) n); high = λ i h. high i h (dec_lt (i + s) n) };
      least = λ t h f. l.least t h (fewer f);
    }
  where
    low : (i : ℕ) → i + s < suc n → Dec (i + s < n) → low_end x y s i ≤ℤ d
    low i h (yes k) = l.fits.low i k
    low i h (no k) = let g : i ≡ n - s = omega arith in rw g (holds x y s d (n - s) e).0

    high : (i : ℕ) → i + s < suc n → Dec (i + s < n) → d ≤ℤ high_end x y s i
    high i h (yes k) = l.fits.high i k
    high i h (no k) = let g : i ≡ n - s = omega arith in rw g (holds x y s d (n - s) e).1

pub leastly : (n : ℕ) (x y : ℕ → ℤ) (d : ℤ) → Steady n x → Steady n y → Leastly n x y d (least_of x y d n)
unfolding least_of
leastly zero x y d sx sy = record { within = omega arith; fits = fits_past 0 0 x y d (omega arith); least = λ t h f. absurd (omega arith) }
leastly (suc n) x y d sx sy =
    let s = least_of x y d n in
    one_more n x y d s sx sy (leastly n x y d (steady_fewer sx) (steady_fewer sy)) (breaks_at x y s d (n - s)) refl

-- there is one least number
pub least_once : {n : ℕ} {x y : ℕ → ℤ} {d : ℤ} {s t : ℕ} → Leastly n x y d s → Leastly n x y d t → s ≡ t
least_once {n} {x} {y} {d} {s} {t} l m = go (dec_lt s t) (dec_lt t s)
  where
    go : Dec (s < t) → Dec (t < s) → s ≡ t
    go (yes h) k = absurd (m.least s h l.fits)
    go (no h) (yes k) = absurd (l.least t k m.fits)
    go (no h) (no k) = omega arith

-- WHAT `least_at` PROMISES, from its answer
module _ (a b : List ℤ) (d : ℤ) where
  abbrev s : ℕ
  s = least_of (lean_of a) (lean_of b) d (length a)

  module _ (k : AcceptedShift a b d) where
    l : Leastly (length a) (lean_of a) (lean_of b) d s
    l = leastly (length a) (lean_of a) (lean_of b) d (lean_steady k.rows.bottom.rising) (rw k.rows.equal (lean_steady k.rows.top.rising))

    below : (t : ℕ) → t < tracks_for s → HasWiring a b t d → ⊥
    below t h w = l.least (rule_at t) (rule_below s t h) ((wiring_exactly k.rows t d).0 w)

    pub straight : s ≡ 0 → LeastAnswer a b d (Ok (record { separation = 0; witness = None }))
    straight e =
        record {
          answer = rw (shift_accepted a b d k, e);
          accepts = ((λ z. k), (λ z. refl));
          within = λ z. omega arith;
          fits = λ z. (wiring_exactly k.rows 0 d).1 (rw (rule_zero, ← e) l.fits);
          least = λ z t h. absurd (omega arith);
          witness = λ z h. absurd (omega arith);
        }

    pub tracks : (m : Misfit) → 0 < s → misfit_of a b (s - 1) d ≡ Some m → LeastAnswer a b d (Ok (record { separation = tracks_for s; witness = Some m }))
    tracks m h e =
        record {
          answer = rw (shift_accepted a b d k, e) (shows s h);
          accepts = ((λ z. k), (λ z. refl));
          within = λ z. tracks_up s (length a) l.within;
          fits = λ z. (wiring_exactly k.rows (tracks_for s) d).1 (rw (rule_back s) l.fits);
          least = λ z t q. below t q;
          witness = λ z q. at_witness a b (tracks_for s - 1) d m (rw (rule_fewer s) e);
        }
      where
        shows : (s : ℕ) → 0 < s → ◌≡◌ {A = Result Least Refusal} (Ok (record { separation = tracks_for s; witness = Some m })) (Ok (with_witness s (Some m)))
        shows zero h = absurd (omega arith)
        shows (suc s) h = refl

  -- separation 0 is accepted, so the check of it is that of the offset
  any_tracks : (r s : Checked) → or_else (or_else r (Ok tt)) s ≡ or_else r s
  any_tracks (Ok u) s = refl
  any_tracks (Err r) s = refl

  pub least_refused : (r : Refusal) → check_asked a b 0 d ≡ Err r → LeastAnswer a b d (Err r)
  least_refused r h =
      let e : check_offset a b d ≡ Err r = sym (any_tracks (check_rows a b) (offset_fault d)) ∙ h in
      record {
        answer = rw e;
        accepts = ((λ z. absurd (numbered r z)), (λ z. absurd (refused_not r (sym e ∙ shift_accepted a b d z))));
        within = λ z. absurd (numbered r z);
        fits = λ z. absurd (numbered r z);
        least = λ z. absurd (numbered r z);
        witness = λ z. absurd (numbered r z);
      }

-- THE SEARCH: the pairs before the witness's are free at s; and where s isn't 0, the witness is the misfit just below s
pub record Seeking (a b : List ℤ) (d : ℤ) (s : ℕ) (witness : Option Misfit) : Type 0 where
  pub below : s ≤ length a
  pub start : pair_of witness ≤ length a
  pub here : misfit_of a b s d ≡ misfit_from (lean_of a) (lean_of b) s d (pair_of witness) (length a - s - pair_of witness)
  pub first : s ≡ 0 → witness ≡ None
  pub last : 0 < s → (m : Misfit) × ((misfit_of a b (s - 1) d ≡ Some m) × (witness ≡ Some m))

-- free pairs are passed over
skip : (x y : ℕ → ℤ) (s : ℕ) (d : ℤ) (n j : ℕ) → ((k : ℕ) → k < j → (k + s < n) × Free x y s d k) → misfit_from x y s d 0 (n - s) ≡ misfit_from x y s d j (n - s - j)
skip x y s d n zero f = let e : n - s - 0 ≡ n - s = omega arith in rw e
skip x y s d n (suc j) f =
    let g = f j (omega arith) in
    let e = free_here x y s d n j g.0 (rw (lt_false (high_end x y s j) d g.1.high, lt_false d (low_end x y s j) g.1.low)) in
    skip x y s d n j (λ k h. f k (omega arith)) ∙ rw (add-one j) at e

module _ (a b : List ℤ) (d : ℤ) (k : AcceptedShift a b d) (s : ℕ) (w : Option Misfit) (c : Seeking a b d s w) where
  sx : Steady (length a) (lean_of a)
  sx = lean_steady k.rows.bottom.rising

  sy : Steady (length a) (lean_of b)
  sy = rw k.rows.equal (lean_steady k.rows.top.rising)

  pub seek_next : (m : Misfit) → misfit_from (lean_of a) (lean_of b) s d (pair_of w) (length a - s - pair_of w) ≡ Some m
      → (s < length a) × Seeking a b d (s + 1) (Some m)
  seek_next m e =
      let f : misfit_of a b s d ≡ Some m = c.here ∙ e in
      let l = broken_inside (at_broken a b s d m f) in
      let q : s + 1 - 1 ≡ s = omega arith in (
        omega arith,
        record {
          below = omega arith;
          start = omega arith;
          here = skip (lean_of a) (lean_of b) (s + 1) d (length a) m.pair (λ p h. (omega arith, freed p h (free_before a b s d m f p h) (omega arith)));
          first = λ h. absurd (omega arith);
          last = λ h. (m, (rw q f, refl));
        },
      )
    where
      -- free at s, free at s + 1
      freed : (p : ℕ) → p < m.pair → Free (lean_of a) (lean_of b) s d p → p + suc s < length a → Free (lean_of a) (lean_of b) (s + 1) d p
      freed p h f l = let n = ends_next sx sy s p l in rw (add-one s) (record { low = omega (arithℤ, f.low, n.0); high = omega (arithℤ, f.high, n.1) })

  pub seek_done : misfit_from (lean_of a) (lean_of b) s d (pair_of w) (length a - s - pair_of w) ≡ None → s ≡ least_of (lean_of a) (lean_of b) d (length a)
  seek_done e =
      let f : misfit_of a b s d ≡ None = c.here ∙ e in
      least_once
      (record { within = c.below; fits = none_fits a b s d f; least = λ t h g. below t h g (c.last (omega arith)).0 (c.last (omega arith)).1.0 })
      (leastly (length a) (lean_of a) (lean_of b) d sx sy)
    where
      below : (t : ℕ) → t < s → Fits (length a) t (lean_of a) (lean_of b) d → (m : Misfit) → misfit_of a b (s - 1) d ≡ Some m → ⊥
      below t h g m e = broken_breaks (at_broken a b (s - 1) d m e) (fits_above sx sy (s - 1 - t) t (s - 1) (omega arith) g)

  pub seek_found : (t : ℕ) → t ≡ min (tracks_for s) max_tracks → misfit_from (lean_of a) (lean_of b) s d (pair_of w) (length a - s - pair_of w) ≡ None
      → LeastAnswer a b d (Ok (record { separation = t; witness = w }))
  seek_found t q e = go (dec_lt 0 s)
    where
      g : t ≡ tracks_for s
      g = q ∙ tracks_given s (omega (arith, c.below, k.rows.few))

      f : s ≡ least_of (lean_of a) (lean_of b) d (length a)
      f = seek_done e

      go : Dec (0 < s) → LeastAnswer a b d (Ok (record { separation = t; witness = w }))
      go (yes h) = let l = c.last h in rw (g, l.1.1, f) (tracks a b d k l.0 (rw f at h) (rw f at l.1.0))
      go (no h) = let z : s ≡ 0 = omega arith in rw (g, z, tracks_zero, c.first z) (straight a b d k (sym f ∙ z))

-- "a least .. separation of 0 stays and any other grows by one" (02, #106): none is 1, since what fits at 1 fits at 0
pub least_not_one : {a b : List ℤ} {d : ℤ} {r : Result Least Refusal} → LeastAnswer a b d r → (least_numbers r).refusal ≡ 0 → (least_numbers r).separation ≡ 1 → ⊥
least_not_one {a} {b} {d} {r} l z e = l.least z 0 (omega arith) (wired_first (l.accepts.0 z).rows d (rw e at (l.fits z)))
