-- The promise of the best call, case by case: refused rows, a short buffer, an answer.
use mathlib.Core.Path.{◌≡◌, refl, sym, ◌∙◌}
use Rattle.std.specs.Prelude.{Ok, Err}
use mathlib.Core.List.{List}
use mathlib.Core.Logic.{◌↔◌}
use Prim.Native.Nat.{ℕ, ◌*◌, ◌≤◌, ◌<◌}
use native.Mathlib.Omega.{arith}
use borrow.Author.Tests.{lt-ltb, le-ltb}
use lib.ListN.{length}
use lib.IntN.{ℤ}
use Rattle.whole.proofs.Arith.{arithℤ}
use Rattle.wiring.specs.Wiring.{pad, HasWiring}
use Rattle.wiring.specs.Fit.{lean_of}
use Rattle.wiring.specs.Tracks.{rule_at, tracks_for}
use Rattle.wiring.proofs.Rule.{lean_steady}
use Rattle.wiring.proofs.Serves.{rule_back, rule_below}
use Rattle.jumper.specs.Refusals.{refusal_numbers, AnswerNumbers}
use Rattle.jumper.specs.declared.refusal.Numbers.{Numbers}
use Rattle.jumper.specs.Rows.{AcceptedRows, check_rows}
use Rattle.jumper.specs.declared.refusal.Refusal.{Refusal}
use Rattle.jumper.specs.declared.rows.Rows.{Rows}
use Rattle.jumper.specs.declared.refusal.Refusal.TheVariants.{Buffer}
use Rattle.jumper.proofs.Accepted.{numbered, refused_not, of_rows}
use Rattle.jumper.proofs.Checks.{early_rows}
use Rattle.jumper.proofs.Spans.{range_exactly}
use Rattle.jumper.proofs.Wired.{wiring_exactly, wired_first}
use Rattle.best.specs.Halving.{levels}
use Rattle.best.specs.Best.{Best, planned_numbers, best_numbers, halving_of, ladder_of, best_answer, BestAnswer}
use Rattle.best.specs.Work.{IsPlanned}
use Rattle.best.specs.declared.plan.Planned.{Planned}
use Rattle.best.proofs.Bests.{BestOf, best_is_best, count_fixed, count_cheap, ladder_length}

-- rows that were let through
pub let_through : {a b : List ℤ} (w : Rows) → (w.bottom.now ≡ a) × (w.top.now ≡ b) → AcceptedRows a b
let_through w e = rw (e.0, e.1) at w.accepted

module _ (a b : List ℤ) (before : List ℕ) where
  -- a refusal: nothing is said of a separation, and the buffer is as it was
  best_refused : (f : Refusal) → Err f ≡ best_answer a b before → (AcceptedRows a b → length (ladder_of a b) ≤ length before → ⊥)
      → ((refusal_numbers f).refusal ≡ 9) ↔ (AcceptedRows a b × (length before < length (ladder_of a b))) → BestAnswer a b before before (Err f)
  best_refused f e none short =
      record {
        answer = e;
        buffer = refl;
        accepts = ((λ q. absurd (numbered f q)), (λ w. absurd (none w.0 w.1)));
        short = short;
        refused = λ q. refl;
        exactly = λ q. absurd (numbered f q);
        some = λ q. absurd (numbered f q);
        none = λ q. absurd (numbered f q);
        within = λ q. absurd (numbered f q);
        below = λ q. absurd (numbered f q);
        fixed = λ q. absurd (numbered f q);
        cheap = λ q. absurd (numbered f q);
      }

  pub rows_refused : (f : Refusal) → check_rows a b ≡ Err f → BestAnswer a b before before (Err f)
  rows_refused f e =
      let n : (refusal_numbers f).refusal ≤ 5 = rw e at (early_rows a b) in
      let z : AcceptedRows a b → ⊥ = λ r. refused_not f (sym e ∙ of_rows a b r) in
      best_refused f (rw e) (λ r l. z r) ((λ q. absurd (omega arith)), (λ w. absurd (z w.0)))

  module _ (rows : AcceptedRows a b) where
    e : check_rows a b ≡ Ok tt
    e = of_rows a b rows

    pub buffer_short : length before < length (ladder_of a b) → BestAnswer a b before before (Err Buffer)
    buffer_short h = best_refused Buffer (rw (e, lt-ltb (length before) (length (ladder_of a b)) h)) (λ r l. omega arith) ((λ q. (rows, h)), (λ w. refl))

    -- demand 3, of the rule's best
    best : BestOf (length a) (lean_of a) (lean_of b) (halving_of a b).best
    best = best_is_best (length a) (lean_of a) (lean_of b) rows.some (lean_steady rows.bottom.rising) (lean_steady {a = pad b} (rw rows.equal rows.top.rising))

    inside : (halving_of a b).best < length a
    inside = omega (arith, best.within, rows.some)

    pub found : length (ladder_of a b) ≤ length before → (after : List ℕ) (p : Planned) → IsPlanned a b before after p → BestAnswer a b before after (Ok p)
    found h after p i =
        rw i.planned
        (record {
          answer = rw (e, le-ltb (length before) (length (ladder_of a b)) h);
          buffer = i.ladder;
          accepts = ((λ q. (rows, h)), (λ w. refl));
          short = ((λ q. absurd (omega arith)), (λ w. absurd (omega (arith, w.1))));
          refused = λ q. absurd (q refl);
          exactly = λ q d.
              let s = (halving_of a b).best in
              let r = range_exactly (length a) (lean_of a) (lean_of b) s inside d in
              let f = rw (rule_back s) at (wiring_exactly rows (tracks_for s) d) in
              ((λ w. let v = r.1 (f.0 w) in record { low = v.low; high = v.high }), (λ v. f.1 (r.0 (record { low = v.low; high = v.high }))));
          some = λ q.
              let d = best.some.0 in
              let v = (range_exactly (length a) (lean_of a) (lean_of b) (halving_of a b).best inside d).1 best.some.1 in
              omega (arithℤ, v.low, v.high);
          none = λ q t l d w. best.none (rule_at t) (rule_below (halving_of a b).best t l) d ((wiring_exactly rows t d).0 w);
          within = λ q. rw (rule_back (halving_of a b).best) best.within;
          below = λ q. rw (rule_back (halving_of a b).best) inside;
          fixed = λ q. count_fixed (length a) (lean_of a) (lean_of b) rows.some;
          cheap = λ q. omega (arith, count_cheap (length a) (lean_of a) (lean_of b) rows.some);
        })

    -- the buffer by the number of levels, as the code measures it
    pub ladder_rungs : length (ladder_of a b) ≡ 2 * levels (length a)
    ladder_rungs = ladder_length (length a) (lean_of a) (lean_of b) rows.some

-- "a .. best separation of 0 stays and any other grows by one" (02, #106): none is 1, since what fits at 1 fits at 0
pub best_not_one : {a b : List ℤ} {before after : List ℕ} {r : Best} → BestAnswer a b before after r → (best_numbers r).refusal ≡ 0
    → (best_numbers r).separation ≡ 1 → ⊥
best_not_one {a} {b} {before} {after} {r} h z e =
    let d = (best_numbers r).lowest in
    let w : HasWiring a b (best_numbers r).separation d = (h.exactly z d).1 (record { low = omega arithℤ; high = h.some z }) in
    h.none z 0 (omega arith) d (wired_first (h.accepts.0 z).0 d (rw e at w))

-- the numbers of an answer, as `Numbers::from` gives them
pub best_told : (r : Best) (n : Numbers) → AnswerNumbers (λ p m. m ≡ planned_numbers p) r n → n ≡ best_numbers r
best_told (Ok p) n h = h
best_told (Err f) n h = h
