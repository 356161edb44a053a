-- The tests of the checker say what they are to say, and the search finds the first fault, or none where there is none.
-- Sections: what a test tells; the tests as the code meets them; the search, a step at a time; what it finds.
use mathlib.Core.Path.{◌≡◌, refl, sym, ◌∙◌}
use mathlib.Core.Bool.{Bool, true, false, cond, true≢false}
use Rattle.std.specs.Prelude.{Ok, Err, Option, Some, None, MatchOption}
use Rattle.std.proofs.lemmas.Bool.{cases_order}
use mathlib.Core.Logic.{◌⊎◌, inl, inr, ⊎_elim, ◌≢◌, ◌↔◌}
use Prim.Native.Nat.{ℕ, zero, suc, ◌+◌, ◌-◌, ◌≤◌, ◌<◌}
use native.Mathlib.Nat.{eq-or-lt_of_le}
use native.Mathlib.Numerals.{add-one}
use native.Mathlib.Omega.{arith}
use borrow.Author.Tests.{ltb-true, ltb-false, lt-ltb, le-ltb, eqb-true, eqb-false, eq-eqb, ne_eqb}
use lib.Dec.{eqb, ltb}
use lib.IntN.{ℤ}
use lib.Signed.{◌≤ℤ◌, lt_z, le_z}
use Rattle.whole.specs.Pick.{differ}
use Rattle.whole.proofs.Arith.{arithℤ}
use Rattle.whole.proofs.Order.{untrue, true_lt, false_lt, true_le, false_le}
use Rattle.jumper.specs.Rows.{pick, or_else}
use Rattle.jumper.proofs.Accepted.{refused_not}
use Rattle.jumper.specs.declared.refusal.Refusal.{Refusal}
use Rattle.jumper.specs.declared.refusal.Refusal.TheVariants.{BadWire}
use Rattle.jumper.specs.Rows.{Checked}
use Rattle.route.specs.Asked.{ends_wrong, FirstWire}
use Rattle.route.specs.Check.{rightmost, leftmost, WrongStart, WrongEnd, StepsAside, Touching, Fault, NoFault, FirstFault}
use Rattle.route.specs.Check.{start_wrong, end_wrong, steps_aside, run_touches, fault_at, wire_fault, track_fault}

-- WHAT A TEST TELLS
pub record Tells (t : Bool) (P : Type 0) : Type 0 where
  pub yes : t ≡ true → P
  pub no : t ≡ false → P → ⊥

either : (t : Bool) {u : Bool} {P Q : Type 0} → Tells t P → Tells u Q → Tells (cond t true u) (P ⊎ Q)
either true p q = record { yes = λ h. inl (p.yes refl); no = λ h k. untrue (sym h) }
either false p q = record { yes = λ h. inr (q.yes h); no = λ h k. ⊎_elim (p.no refl) (q.no h) k }

also : (t : Bool) {u : Bool} {P Q : Type 0} → Tells t P → Tells u Q → Tells (cond t u false) (P × Q)
also true p q = record { yes = λ h. (p.yes refl, q.yes h); no = λ h k. q.no h k.1 }
also false p q = record { yes = λ h. untrue h; no = λ h k. p.no refl k.0 }

equal_tells : (x y : ℕ) → Tells (eqb x y) (x ≡ y)
equal_tells x y = record { yes = eqb-true x y; no = eqb-false x y }

less_tells : (x y : ℕ) → Tells (ltb x y) (x < y)
less_tells x y = record { yes = ltb-true x y; no = λ h l. omega (arith, ltb-false x y h) }

below_tells : (x y : ℤ) → Tells (le_z x y) (x ≤ℤ y)
below_tells x y = record { yes = true_le x y; no = λ h l. omega (arithℤ, false_le x y h) }

differ_tells : (x y : ℤ) → Tells (differ x y) (x ≢ y)
differ_tells x y = go (lt_z x y) refl (lt_z y x) refl
  where
    go : (t : Bool) → lt_z x y ≡ t → (u : Bool) → lt_z y x ≡ u → Tells (cond t true u) (x ≢ y)
    go true e u f = record { yes = λ h k. omega (arithℤ, true_lt x y e); no = λ h k. untrue (sym h) }
    go false e true f = record { yes = λ h k. omega (arithℤ, true_lt y x f); no = λ h k. untrue (sym h) }
    go false e false f = record { yes = λ h. untrue h; no = λ h k. k (omega (arithℤ, false_lt x y e, false_lt y x f)) }

start_tells : (a : ℕ → ℤ) (e : ℕ → ℕ → ℤ) (t i : ℕ) → Tells (start_wrong a e t i) (WrongStart a e t i)
unfolding start_wrong
start_tells a e t i = also (eqb t 0) (equal_tells t 0) (differ_tells (e i 0) (a i))

end_tells : (s : ℕ) (c : ℕ → ℤ) (e : ℕ → ℕ → ℤ) (t i : ℕ) → Tells (end_wrong s c e t i) (WrongEnd s c e t i)
unfolding end_wrong
end_tells s c e t i = also (eqb t s) (equal_tells t s) (differ_tells (e i s) (c i))

aside_tells : (s : ℕ) (e : ℕ → ℕ → ℤ) (t i : ℕ) → Tells (steps_aside s e t i) (StepsAside s e t i)
unfolding steps_aside
aside_tells s e t i =
    let r = also (eqb t 0) (equal_tells t 0) (also (ltb 0 s) (less_tells 0 s) (differ_tells (e i 1) (e i 0))) in
    record { yes = λ h. let f = r.yes h in (f.0, f.1.0, f.1.1); no = λ h f. r.no h (f.0, (f.1, f.2)) }

pub ends_tell : (s : ℕ) (a c : ℕ → ℤ) (e : ℕ → ℕ → ℤ) (i : ℕ) → Tells (ends_wrong s a c e i) (WrongStart a e 0 i ⊎ WrongEnd s c e s i ⊎ StepsAside s e 0 i)
ends_tell s a c e i = either (start_wrong a e 0 i) (start_tells a e 0 i) (either (end_wrong s c e s i) (end_tells s c e s i) (aside_tells s e 0 i))

run_tells : (n s : ℕ) (e : ℕ → ℕ → ℤ) (t i : ℕ) → Tells (run_touches n s e t i) (Touching n s e t i)
unfolding run_touches
run_tells n s e t i =
    let r = also (ltb t s) (less_tells t s) (also (ltb (suc i) n) (less_tells (suc i) n) (below_tells (leftmost e (suc i) t) (rightmost e i t))) in
    record {
      yes = λ h. let f = r.yes h in record { track = f.0; wire = f.1.0; touches = f.1.1 };
      no = λ h f. r.no h (f.track, (f.wire, f.touches));
    }

fault_tells : (n s : ℕ) (a c : ℕ → ℤ) (e : ℕ → ℕ → ℤ) (t i : ℕ) → Tells (fault_at n s a c e t i) (Fault n s a c e t i)
unfolding fault_at
fault_tells n s a c e t i =
    either (start_wrong a e t i) (start_tells a e t i)
    (either (end_wrong s c e t i) (end_tells s c e t i)
    (either (steps_aside s e t i) (aside_tells s e t i) (run_tells n s e t i)))

-- THE TESTS AS THE CODE MEETS THEM
module _ (n s : ℕ) (a c : ℕ → ℤ) (e : ℕ → ℕ → ℤ) (t i : ℕ) where
  pub aside_here : t ≡ 0 → 0 < s → steps_aside s e t i ≡ differ (e i 1) (e i 0)
  unfolding steps_aside
  aside_here h l = rw (eq-eqb t 0 h, lt-ltb 0 s l)

  pub aside_flat : t ≡ 0 → s ≤ 0 → steps_aside s e t i ≡ false
  unfolding steps_aside
  aside_flat h l = rw (eq-eqb t 0 h, le-ltb 0 s l)

  pub aside_off : t ≢ 0 → steps_aside s e t i ≡ false
  unfolding steps_aside
  aside_off h = rw (ne_eqb t 0 h)

  pub touches_here : t < s → i + 1 < n → run_touches n s e t i ≡ le_z (leftmost e (i + 1) t) (rightmost e i t)
  unfolding run_touches
  touches_here h l = rw (lt-ltb t s h, lt-ltb (suc i) n (omega arith), add-one)

  pub touches_last : n ≤ i + 1 → run_touches n s e t i ≡ false
  unfolding run_touches
  touches_last h = rw (le-ltb (suc i) n (omega arith)) (go (ltb t s))
    where
      go : (x : Bool) → cond x false false ≡ false
      go true = refl
      go false = refl

  pub touches_top : s ≤ t → run_touches n s e t i ≡ false
  unfolding run_touches
  touches_top h = rw (le-ltb t s h)

-- THE SEARCH, a step at a time
module _ (wrong : ℕ → ℕ → Bool) (n m t : ℕ) where
  pub track_found : (r : Refusal) → t < m → wire_fault (wrong t) t 0 n ≡ Err r → track_fault wrong n t (m - t) ≡ Err r
  unfolding track_fault
  track_found r h k = let e : m - t ≡ suc (m - (t + 1)) = omega arith in rw (e, k)

  pub track_next : t < m → wire_fault (wrong t) t 0 n ≡ Ok tt → track_fault wrong n t (m - t) ≡ track_fault wrong n (t + 1) (m - (t + 1))
  unfolding track_fault
  track_next h k = let e : m - t ≡ suc (m - (t + 1)) = omega arith in rw (e, k, add-one)

  pub track_done : m ≤ t → track_fault wrong n t (m - t) ≡ Ok tt
  unfolding track_fault
  track_done h = let e : m - t ≡ 0 = omega arith in rw e

-- WHAT IT FINDS: none, and then nothing is wrong; or the first
abbrev WireSaid : (wrong : ℕ → Bool) (t i k : ℕ) → Checked → Type 0
WireSaid wrong t i k r =
    ((r ≡ Ok tt) × ((j : ℕ) → i ≤ j → j < i + k → wrong j ≡ false))
    ⊎ ((j : ℕ) × (r ≡ Err (BadWire j t)) × (j < i + k) × (wrong j ≡ true) × ((l : ℕ) → i ≤ l → l < j → wrong l ≡ false))

wire_said : (wrong : ℕ → Bool) (t k i : ℕ) → WireSaid wrong t i k (wire_fault wrong t i k)
unfolding wire_fault
wire_said wrong t zero i = inl (refl, λ j l m. absurd (omega arith))
wire_said wrong t (suc k) i = go (wrong i) refl (wire_said wrong t k (suc i))
  where
    go : (x : Bool) → wrong i ≡ x → WireSaid wrong t (suc i) k (wire_fault wrong t (suc i) k)
        → WireSaid wrong t i (suc k) (pick x (Err (BadWire i t)) (wire_fault wrong t (suc i) k))
    go true e r = inr (i, refl, omega arith, e, λ l m o. absurd (omega arith))
    go false e (inl r) = inl (r.0, λ j l m. ⊎_elim (λ g. rw (← g) e) (λ g. r.1 j g (omega arith)) (eq-or-lt_of_le l))
    go false e (inr r) = inr (r.0, r.1, omega (arith, r.2), r.3, λ j l m. ⊎_elim (λ g. rw (← g) e) (λ g. r.4 j g m) (eq-or-lt_of_le l))

-- so the first wire that a search meets is the first with a fault
pub first_wire : (wrong : ℕ → Bool) (t n : ℕ) (found : Option ℕ)
    → MatchOption found ((j : ℕ) → 0 ≤ j → j < n → wrong j ≡ false) (λ i. (0 ≤ i) × (i < n) × (wrong i ≡ true) × ((j : ℕ) → 0 ≤ j → j < i → wrong j ≡ false))
    → FirstWire wrong t n found
first_wire wrong t n None h =
    ⊎_elim (λ r. r.0) (λ r. absurd (true≢false (sym r.3 ∙ h r.0 (omega arith) (omega (arith, r.2))))) (wire_said wrong t n 0)
first_wire wrong t n (Some i) h =
    ⊎_elim (λ r. absurd (true≢false (sym h.2 ∙ r.1 i (omega arith) (omega (arith, h.1)))))
    (λ r.
    ⊎_elim (λ e. rw e r.1)
    (λ d.
    ⊎_elim (λ l. absurd (true≢false (sym h.2 ∙ r.4 i (omega arith) l)))
    (λ l. absurd (true≢false (sym r.3 ∙ h.3 r.0 (omega arith) l))) d)
    (cases_order i r.0))
    (wire_said wrong t n 0)

record Found (wrong : ℕ → ℕ → Bool) (n t k : ℕ) (r : Checked) (j u : ℕ) : Type 0 where
  answer : r ≡ Err (BadWire j u)
  inside : (j < n) × (t ≤ u) × (u < t + k)
  here : wrong u j ≡ true
  wires : (l : ℕ) → l < j → wrong u l ≡ false
  tracks : (v l : ℕ) → t ≤ v → v < u → l < n → wrong v l ≡ false

abbrev TrackSaid : (wrong : ℕ → ℕ → Bool) (n t k : ℕ) → Checked → Type 0
TrackSaid wrong n t k r =
    ((r ≡ Ok tt) × ((u j : ℕ) → t ≤ u → u < t + k → j < n → wrong u j ≡ false))
    ⊎ ((j : ℕ) × (u : ℕ) × Found wrong n t k r j u)

track_said : (wrong : ℕ → ℕ → Bool) (n k t : ℕ) → TrackSaid wrong n t k (track_fault wrong n t k)
unfolding track_fault
track_said wrong n zero t = inl (refl, λ u j l m q. absurd (omega arith))
track_said wrong n (suc k) t = go (wire_fault (wrong t) t 0 n) (wire_said (wrong t) t n 0) (track_said wrong n k (suc t))
  where
    rest : Checked
    rest = track_fault wrong n (suc t) k

    go : (x : Checked) → WireSaid (wrong t) t 0 n x → TrackSaid wrong n (suc t) k rest → TrackSaid wrong n t (suc k) (or_else x rest)
    go x (inr w) r =
        let e : x ≡ Err (BadWire w.0 t) = w.1 in
        rw e
        (inr (
          w.0,
          t,
          record {
            answer = refl;
            inside = omega (arith, w.2);
            here = w.3;
            wires = λ l m. w.4 l (omega arith) m;
            tracks = λ v l m o q. absurd (omega arith);
          },
        ))
    go x (inl w) (inl r) =
        let e : x ≡ Ok tt = w.0 in
        rw e (inl (r.0, λ u j l m q. ⊎_elim (λ g. rw (← g) (w.1 j (omega arith) (omega arith))) (λ g. r.1 u j g (omega arith) q) (eq-or-lt_of_le l)))
    go x (inl w) (inr r) =
        let e : x ≡ Ok tt = w.0 in
        let f = r.2 in
        rw e
        (inr (
          r.0,
          r.1,
          record {
            answer = f.answer;
            inside = (f.inside.0, omega (arith, f.inside), omega (arith, f.inside));
            here = f.here;
            wires = f.wires;
            tracks = λ v l m o q. ⊎_elim (λ g. rw (← g) (w.1 l (omega arith) (omega arith))) (λ g. f.tracks v l g o q) (eq-or-lt_of_le m);
          },
        ))

-- THE FIRST FAULT, or none
module _ (n s : ℕ) (a c : ℕ → ℤ) (e : ℕ → ℕ → ℤ) where
  abbrev pub search : Checked
  search = track_fault (fault_at n s a c e) n 0 (s + 1)

  clean : (t i : ℕ) → fault_at n s a c e t i ≡ false → Fault n s a c e t i → ⊥
  clean t i h = (fault_tells n s a c e t i).no h

  pub searched : ((search ≡ Ok tt) × NoFault n s a c e) ⊎ ((i : ℕ) × (t : ℕ) × (search ≡ Err (BadWire i t)) × FirstFault n s a c e i t)
  searched = go (track_said (fault_at n s a c e) n (s + 1) 0)
    where
      go : TrackSaid (fault_at n s a c e) n 0 (s + 1) search
          → ((search ≡ Ok tt) × NoFault n s a c e) ⊎ ((i : ℕ) × (t : ℕ) × (search ≡ Err (BadWire i t)) × FirstFault n s a c e i t)
      go (inl r) = inl (r.0, λ i m t l. clean t i (r.1 t i (omega arith) (omega arith) m))
      go (inr r) =
          let f = r.2 in
          inr (
            r.0,
            r.1,
            f.answer,
            record {
              wire = f.inside.0;
              track = omega (arith, f.inside);
              fault = (fault_tells n s a c e r.1 r.0).yes f.here;
              tracks = λ u j l m. clean u j (f.tracks u j (omega arith) l m);
              wires = λ j l. clean r.1 j (f.wires j l);
            },
          )

  -- the search finds none exactly where there is none
  pub none_exactly : (search ≡ Ok tt) ↔ NoFault n s a c e
  none_exactly = (there, back)
    where
      there : search ≡ Ok tt → NoFault n s a c e
      there h = ⊎_elim (λ r. r.1) (λ r. absurd (refused_not (BadWire r.0 r.1) (sym r.2 ∙ h))) searched

      back : NoFault n s a c e → search ≡ Ok tt
      back f = ⊎_elim (λ r. r.0) (λ r. absurd (f r.0 r.3.wire r.1 r.3.track r.3.fault)) searched
