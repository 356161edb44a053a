-- What each of the four calls promises, said of the numbers that answer its wish.
use Rattle.std.specs.Prelude.{Option, Some, None, Result, Ok, Err}
use mathlib.Core.Path.{◌≡◌, refl, ap, ◌∙◌}
use mathlib.Core.Bool.{Bool, true, false, cond}
use mathlib.Core.List.{List}
use mathlib.Core.Logic.{◌↔◌}
use Prim.Native.Nat.{ℕ, zero, suc, ◌+◌, ◌-◌, ◌≤◌, ◌<◌}
use native.Mathlib.Decide.{dec_lt}
use native.Mathlib.Omega.{arith}
use lib.Dec.{ltb}
use lib.ListN.{length, replicate}
use lib.IntN.{ℤ}
use lib.Signed.{lt_z}
use Rattle.whole.proofs.Arith.{arithℤ}
use Rattle.wiring.specs.Wiring.{HasWiring}
use Rattle.wiring.specs.Fit.{lean_of, half}
use Rattle.wiring.specs.Tracks.{rule_at}
use Rattle.wiring.proofs.Serves.{rule_under, tracks_some}
use Rattle.jumper.specs.Limits.{max_ladder, max_tracks, AcceptedOffset}
use Rattle.jumper.specs.Refusals.{refusal_numbers}
use Rattle.jumper.specs.Rows.{AcceptedRows, Checked, unless_refused, check_rows}
use Rattle.jumper.specs.Asked.{check_tracks, check_offset, check_asked, AcceptedTracks}
use Rattle.jumper.specs.Range.{whole_range, is_empty}
use Rattle.jumper.specs.Span.{lowest_at, highest_at, range_of}
use Rattle.jumper.specs.declared.refusal.Refusal.{Refusal}
use Rattle.jumper.specs.declared.refusal.Refusal.TheVariants.{NoOffset}
use Rattle.jumper.specs.declared.range.OffsetRange.{OffsetRange}
use Rattle.jumper.proofs.Accepted.{numbered}
use Rattle.jumper.proofs.Wired.{wired_accepted, tracks_most}
use Rattle.jumper.proofs.Checks.{Early, tracks_accepted, early_rows, early_tracks, early_shift, early_asked}
use Rattle.fit.specs.Misfit.{misfit_of, no_fit, fit_of, FitAnswer}
use Rattle.fit.specs.Least.{pair_of, side_of, least_of, with_witness, least_answer, LeastAnswer}
use Rattle.fit.specs.Offsets.{offsets_answer, range_found, OffsetsAnswer}
use Rattle.fit.specs.declared.misfit.Misfit.{Misfit}
use Rattle.fit.specs.declared.least.Least.{Least}
use Rattle.fit.proofs.Spans.{past_all, empty_range, some_range}
use Rattle.best.specs.Halving.{levels}
use Rattle.best.specs.Best.{Best, best_numbers, best_answer, ladder_of, planned_of, room_or, BestAnswer}
use Rattle.best.proofs.Levels.{one_level, more_levels}
use Rattle.best.proofs.Bests.{ladder_length}
use Rattle.plan.specs.Plan.{fit_plan, least_plan, range_plan, plan_of, Asks, Meetable, Unfit, Offsetless, Names, PlanAnswer}
use Rattle.plan.proofs.Known.{refused_by, Known, known_fit, known_least, known_range, known_best}
use Rattle.plan.specs.declared.wish.Wish.{Wish}
use Rattle.plan.specs.declared.wish.Wish.TheVariants.{Fit, Least as Leastwise, Range, Best as Bestwise}

-- a number that is never given, since what is given lies below it
never_above : (n k : ℕ) → n < k → (n ≡ k) ↔ ⊥
never_above n k h = ((λ e. omega arith), (λ z. absurd z))

-- WITH WHICH NUMBERS A WISH IS REFUSED: with those of the check that comes first, or of what comes after it
early_after : {A : Type 0} (m n : ℕ) (c : Checked) (x : Result A Refusal) → m ≤ n → Early m c → refused_by x ≤ n → refused_by (unless_refused c Err x) ≤ n
early_after m n (Ok u) x l h k = k
early_after m n (Err r) x l h k = omega arith

-- a least separation there always is: its refusals are those of the checks
least_early : (a b : List ℤ) (d : ℤ) → refused_by (least_answer a b d) ≤ 7
least_early a b d = early_after 7 7 (check_offset a b d) _ (omega arith) (early_shift a b d) (omega arith)

-- and one of 0 has no witness
abbrev Straight : Least → Type 0
Straight l = (pair_of l.witness ≡ 0) × (side_of l.witness ≡ 0)

least_straight : (a b : List ℤ) (d : ℤ) (l : Least) → Ok l ≡ least_answer a b d → l.separation ≡ 0 → Straight l
least_straight a b d l e z =
    let s = least_of (lean_of a) (lean_of b) d (length a) in
    go (check_offset a b d) s (misfit_of a b (s - 1) d) e
  where
    go : (c : Checked) (s : ℕ) (m : Option Misfit) → Ok l ≡ unless_refused c Err (Ok (with_witness s m)) → Straight l
    go (Err q) s m e = cc
    go (Ok u) zero m e = let f : l ≡ with_witness zero m = cc in rw f (refl, refl)
    go (Ok u) (suc s) None e = let f : l ≡ with_witness (suc s) None = cc in rw f (refl, refl)
    go (Ok u) (suc s) (Some m) e =
        let f : l ≡ with_witness (suc s) (Some m) = cc in
        absurd (omega (arith, ap (λ (k : Least). k.separation) f, tracks_some (suc s) (omega arith)))

-- and so there is a best one: its refusals are those of the rows, and BUFFER
best_early : (a b : List ℤ) (before : List ℕ) → refused_by (best_answer a b before) ≤ 9
best_early a b before = early_after 5 9 (check_rows a b) _ (omega arith) (early_rows a b) (go (ltb (length before) (length (ladder_of a b))))
  where
    go : (t : Bool) → refused_by (room_or t (planned_of a b)) ≤ 9
    go true = omega arith
    go false = omega arith

-- a separation and an offset are refused with at most 10; a separation alone never with 10
fit_early : (a b : List ℤ) (s : ℕ) (d : ℤ) → refused_by (fit_of a b s d) ≤ 10
fit_early a b s d = early_after 7 10 (check_asked a b s d) _ (omega arith) (early_asked a b s d) (go (misfit_of a b (rule_at s) d))
  where
    go : (m : Option Misfit) → refused_by (no_fit m) ≤ 10
    go None = omega arith
    go (Some m) = omega arith

range_early : (a b : List ℤ) (s : ℕ) → refused_by (offsets_answer a b s) ≡ 10 → ⊥
range_early a b s = go (check_tracks a b s) (early_tracks a b s) (ltb (rule_at s) (length a)) (is_empty o)
  where
    o : OffsetRange
    o = range_of (length a) (lean_of a) (lean_of b) (rule_at s)

    places : Refusal
    places = NoOffset (lowest_at (length a) (lean_of a) (lean_of b) (rule_at s)) (highest_at (length a) (lean_of a) (lean_of b) (rule_at s))

    go : (c : Checked) → Early 6 c → (t u : Bool) → refused_by (unless_refused c Err (cond t (cond u (Err places) (Ok o)) (Ok whole_range))) ≡ 10 → ⊥
    go (Err q) l t u z = omega arith
    go (Ok v) l true true z = omega arith
    go (Ok v) l true false z = omega arith
    go (Ok v) l false u z = omega arith

-- refused although the separation is accepted: no offset fits
range_never : (a b : List ℤ) (s : ℕ) (r : Refusal) → Err r ≡ offsets_answer a b s → AcceptedTracks a b s → (refusal_numbers r).refusal ≡ 11
range_never a b s r e t = go (dec_lt (rule_at s) (length a))
  where
    found : Result OffsetRange Refusal
    found = range_found (length a) (lean_of a) (lean_of b) (rule_at s)

    o : OffsetRange
    o = range_of (length a) (lean_of a) (lean_of b) (rule_at s)

    number : (q : Result OffsetRange Refusal) → found ≡ q → (refusal_numbers r).refusal ≡ refused_by q
    number q f = ap (λ (c : Result OffsetRange Refusal). refused_by c) (rw (tracks_accepted a b s t) at e ∙ f)

    tested : rule_at s < length a → (u : Bool) → lt_z o.high o.low ≡ u → (refusal_numbers r).refusal ≡ 11
    tested l true f = number _ (empty_range (length a) (lean_of a) (lean_of b) (rule_at s) l f)
    tested l false f = absurd (numbered r (number _ (some_range (length a) (lean_of a) (lean_of b) (rule_at s) l f)))

    go : Dec (rule_at s < length a) → (refusal_numbers r).refusal ≡ 11
    go (yes l) = tested l (lt_z o.high o.low) refl
    go (no l) = absurd (numbered r (number _ (past_all (length a) (lean_of a) (lean_of b) (rule_at s) (omega arith))))

-- twice as many pairs have one level more, so 2,048 pairs have 12
abbrev doubled : ℕ → ℕ
doubled zero = 1
doubled (suc k) = doubled k + doubled k

levels_few : (k m : ℕ) → 1 ≤ m → m ≤ doubled k → levels m ≤ suc k
levels_few zero m l h = let e : m ≡ 1 = omega arith in rw (e, one_level) (omega arith)
levels_few (suc k) m l h = go (dec_lt 1 m) (levels_few k (half m))
  where
    go : Dec (1 < m) → (1 ≤ half m → half m ≤ doubled k → levels (half m) ≤ suc k) → levels m ≤ suc (suc k)
    go (yes g) less = rw (more_levels m g) (omega (arith, less (omega arith) (omega arith)))
    go (no g) less = let e : m ≡ 1 = omega arith in rw (e, one_level) (omega arith)

ladder_room : (a b : List ℤ) → AcceptedRows a b → length (ladder_of a b) ≤ max_ladder
ladder_room a b h = omega (arith, ladder_length (length a) (lean_of a) (lean_of b) h.some, levels_few 11 (length a) h.some h.few)

module _ (a b : List ℤ) where
  -- a refusal: what is asked isn't accepted, or no wiring meets it
  refused_plan : {A : Type 0} (w : Wish) (r : Refusal) → refusal_numbers r ≡ plan_of w a b
      → (Asks w a b → Meetable w a b → (refusal_numbers r).refusal ≡ 0)
      → ((refusal_numbers r).refusal ≡ 10) ↔ Unfit w a b → ((refusal_numbers r).refusal ≡ 11) ↔ Offsetless w a b → Names w a b (refusal_numbers r)
      → Known a b {A = A} (Err r) → PlanAnswer w a b (refusal_numbers r)
  refused_plan w r e never p o n k =
      record {
        answer = e;
        accepts = ((λ z. absurd (numbered r z)), (λ m. never m.0 m.1));
        means = λ z. absurd (numbered r z);
        prevents = p;
        none = o;
        names = n;
        numbered = λ z. (r, refl);
        rows = λ z. absurd (numbered r z);
        drawable = λ z. absurd (numbered r z);
        known = k.few;
        equal = k.equal;
      }

  pub fit_plan_lem : (s : ℕ) (d : ℤ) (c : Checked) → FitAnswer a b s d c → PlanAnswer (Fit s d) a b (fit_plan s d c)
  fit_plan_lem s d (Ok tt) h =
      let w = h.fits.0 refl in
      record {
        answer = ap (fit_plan s d) h.answer;
        accepts = ((λ z. w), (λ z. refl));
        means = λ z. record { named = refl; fits = w.1 };
        prevents = ((λ z. absurd (omega arith)), (λ z. absurd (z.1 w.1)));
        none = never_above 0 11 (omega arith);
        names = λ z. absurd (omega arith);
        numbered = λ z. absurd (z refl);
        rows = λ z. w.0.rows;
        drawable = λ z. w;
        known = omega arith;
        equal = λ e z. omega arith;
      }
  fit_plan_lem s d (Err r) h =
      refused_plan (Fit s d) r (ap (fit_plan s d) h.answer) (λ k w. h.fits.1 (k, w)) h.prevents
      (never_above _ 11 (omega (arith, rw (← h.answer) at (fit_early a b s d)))) h.witness
      (rw (← h.answer) at (known_fit a b s d))

  pub least_plan_lem : (d : ℤ) (l : Result Least Refusal) → LeastAnswer a b d l → PlanAnswer (Leastwise d) a b (least_plan d l)
  least_plan_lem d (Err r) h =
      refused_plan (Leastwise d) r (ap (least_plan d) h.answer) (λ k w. h.accepts.1 k)
      (never_above _ 10 (omega (arith, rw (← h.answer) at (least_early a b d))))
      (never_above _ 11 (omega (arith, rw (← h.answer) at (least_early a b d)))) tt
      (rw (← h.answer) at (known_least a b d))
  least_plan_lem d (Ok l) h =
      let g = h.accepts.0 refl in
      let within = h.within refl in
      let fits = h.fits refl in
      record {
        answer = ap (least_plan d) h.answer;
        accepts = ((λ z. (g, tt)), (λ w. refl));
        means = λ z.
            record {
              named = refl;
              within = within;
              fits = fits;
              least = h.least refl;
              witness = h.witness refl;
              straight = least_straight a b d l h.answer;
            };
        prevents = never_above 0 10 (omega arith);
        none = never_above 0 11 (omega arith);
        names = tt;
        numbered = λ z. absurd (z refl);
        rows = λ z. g.rows;
        drawable = λ z. (record { rows = g.rows; tracks = omega (arith, within, tracks_most (length a) g.rows.few); offset = g.offset }, fits);
        known = omega arith;
        equal = λ e z. omega arith;
      }

  pub range_plan_lem : (s : ℕ) (q : Result OffsetRange Refusal) → OffsetsAnswer a b s q → PlanAnswer (Range s) a b (range_plan s q)
  range_plan_lem s (Err r) h =
      refused_plan (Range s) r (ap (range_plan s) h.answer) (λ k w. absurd ((h.none.0 (range_never a b s r h.answer k)).1 w.0 w.1))
      ((λ z. (rw (← h.answer) at (range_early a b s)) z), (λ z. absurd z)) h.none h.places
      (rw (← h.answer) at (known_range a b s))
  range_plan_lem s (Ok r) h =
      record {
        answer = ap (range_plan s) h.answer;
        accepts = ((λ z. (k, (r.low, fits))), (λ w. refl));
        means = λ z. record { named = refl; some = h.some refl; exactly = h.exactly refl; every = h.every refl };
        prevents = never_above 0 10 (omega arith);
        none = ((λ z. absurd (omega arith)), (λ z. absurd (z.1 r.low fits)));
        names = λ z. absurd (omega arith);
        numbered = λ z. absurd (z refl);
        rows = λ z. k.rows;
        drawable = λ z. (record { rows = k.rows; tracks = k.tracks; offset = accepted (dec_lt (rule_at s) (length a)) }, fits);
        known = omega arith;
        equal = λ e z. omega arith;
      }
    where
      k : AcceptedTracks a b s
      k = h.asked.0 refl

      wired : Dec (rule_at s < length a) → HasWiring a b s r.low
      wired (yes l) = (h.exactly refl l r.low).1 (record { low = omega arithℤ; high = h.some refl })
      wired (no l) = (h.every refl (omega arith)).1 r.low

      fits : HasWiring a b s r.low
      fits = wired (dec_lt (rule_at s) (length a))

      accepted : Dec (rule_at s < length a) → AcceptedOffset r.low
      accepted (yes l) = wired_accepted k.rows s r.low l fits
      accepted (no l) =
          let e = (h.every refl (omega arith)).0 in
          rw (ap (λ (o : OffsetRange). o.low) e) (record { low = omega arithℤ; high = omega arithℤ })

  pub best_plan_lem : (before after : List ℕ) (q : Best) → before ≡ replicate max_ladder 0 → BestAnswer a b before after q
      → PlanAnswer Bestwise a b (best_numbers q)
  best_plan_lem before after (Err r) e h =
      refused_plan Bestwise r (ap best_numbers h.answer ∙ ap (λ (l : List ℕ). best_numbers (best_answer a b l)) e)
      (λ k w. h.accepts.1 (k, rw e (ladder_room a b k)))
      (never_above _ 10 (omega (arith, rw (← h.answer) at (best_early a b before))))
      (never_above _ 11 (omega (arith, rw (← h.answer) at (best_early a b before)))) tt
      (rw (← h.answer) at (known_best a b before))
  best_plan_lem before after (Ok p) e h =
      let k = (h.accepts.0 refl).0 in
      let w = (h.exactly refl p.range.low).1 (record { low = omega arithℤ; high = h.some refl }) in
      let tracks : p.separation ≤ max_tracks = omega (arith, rule_under (length a) p.separation (h.below refl), tracks_most (length a) k.few) in
      record {
        answer = ap best_numbers h.answer ∙ ap (λ (l : List ℕ). best_numbers (best_answer a b l)) e;
        accepts = ((λ z. (k, tt)), (λ w. refl));
        means = λ z.
            record {
              named = refl;
              some = h.some refl;
              exactly = h.exactly refl;
              none = h.none refl;
              within = h.within refl;
              fixed = h.fixed refl;
              cheap = h.cheap refl;
            };
        prevents = never_above 0 10 (omega arith);
        none = never_above 0 11 (omega arith);
        names = tt;
        numbered = λ z. absurd (z refl);
        rows = λ z. k;
        drawable = λ z. (record { rows = k; tracks = tracks; offset = wired_accepted k p.separation p.range.low (h.below refl) w }, w);
        known = omega arith;
        equal = λ e z. omega arith;
      }
