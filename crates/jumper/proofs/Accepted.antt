-- Rows that are not refused are the accepted rows, both ways; and what follows for them.
use Rattle.std.specs.Prelude.{Ok, Err}
use mathlib.Core.Path.{◌≡◌, refl, ap}
use mathlib.Core.Bool.{Bool, true, false}
use mathlib.Core.List.{List, [], ◌∷◌}
use mathlib.Core.Logic.{◌↔◌}
use Prim.Native.Nat.{ℕ, zero, suc, ◌+◌, ◌-◌, ◌≤◌, ◌<◌}
use native.Mathlib.Numerals.{add-one}
use native.Mathlib.Omega.{arith}
use borrow.Author.Tests.{eqb-true, eqb-false, eq-eqb, ne_eqb, ltb-false, le-ltb}
use lib.Dec.{eqb, ltb}
use lib.ListN.{length}
use lib.IntN.{ℤ, pos, nat_abs, ◌-ℤ◌}
use lib.Signed.{◌≤ℤ◌, ◌<ℤ◌, lt_z, le_z}
use Rattle.whole.proofs.Arith.{arithℤ}
use Rattle.whole.proofs.Order.{false_lt, lt_false, false_le, le_false}
use Rattle.whole.proofs.Machine.{abs_of}
use Rattle.wiring.specs.Wiring.{pad}
use Rattle.wiring.specs.Fit.{Rising}
use Rattle.wiring.proofs.Rule.{rising_steady}
use Rattle.jumper.specs.Limits.{max_pairs, first_column, last_column, AcceptedColumn, AcceptedOffset}
use Rattle.jumper.specs.Refusals.{refusal_numbers}
use Rattle.jumper.specs.Rows.{AcceptedRow, AcceptedRows, checked_numbers, pick, or_else, fault_after, row_fault, check_rows, RowCheck}
use Rattle.jumper.specs.declared.refusal.Refusal.{Refusal}
use Rattle.jumper.specs.declared.refusal.Refusal.TheVariants.{Unequal, Empty, Long, Column, Order, Tracks, Offset, Wire, Buffer, NoFit, NoOffset, Line, Frame, Sequence, Twice, BadWire}
use Rattle.jumper.specs.Rows.{Checked}

-- no refusal has the number 0
pub numbered : (r : Refusal) → (refusal_numbers r).refusal ≡ 0 → ⊥
numbered Unequal e = omega arith
numbered Empty e = omega arith
numbered Long e = omega arith
numbered (Column p) e = omega arith
numbered (Order p) e = omega arith
numbered Tracks e = omega arith
numbered Offset e = omega arith
numbered Wire e = omega arith
numbered Buffer e = omega arith
numbered (NoFit i k) e = omega arith
numbered (NoOffset l h) e = omega arith
numbered Line e = omega arith
numbered Frame e = omega arith
numbered Sequence e = omega arith
numbered Twice e = omega arith
numbered (BadWire i t) e = omega arith

-- the answer with number 0
pub accepted_of : (r : Checked) → (checked_numbers r).refusal ≡ 0 → r ≡ (Ok tt)
accepted_of (Ok u) e = refl
accepted_of (Err r) e = absurd (numbered r e)

pub number_of : (r : Checked) → r ≡ (Ok tt) → (checked_numbers r).refusal ≡ 0
number_of r e = ap (λ (q : Checked). (checked_numbers q).refusal) e

pub refused_not : (r : Refusal) → ◌≡◌ {A = Checked} (Err r) (Ok tt) → ⊥
refused_not r e = let z : ◌≡◌ {A = ℕ} 0 1 = cc in omega arith

-- a choice that comes out as (Ok tt), where the one side is a refusal, took the other
pub second : (t : Bool) (f : Refusal) (r : Checked) → pick t (Err f) r ≡ (Ok tt) → (t ≡ false) × (r ≡ (Ok tt))
second true f r e = absurd (refused_not f e)
second false f r e = (refl, e)

pub first : (t : Bool) (r : Checked) (f : Refusal) → pick t r (Err f) ≡ (Ok tt) → (t ≡ true) × (r ≡ (Ok tt))
first true r f e = (refl, e)
first false r f e = absurd (refused_not f e)

pub both : (r s : Checked) → or_else r s ≡ (Ok tt) → (r ≡ (Ok tt)) × (s ≡ (Ok tt))
both (Ok u) s e = (refl, e)
both (Err r) s e = absurd (refused_not r e)

-- what no fault at a column says of it, and that none follows
record Fine (p : ℤ) (k : ℕ) (x : ℤ) (xs : List ℤ) : Type 0 where
  column : AcceptedColumn x
  above : p <ℤ x
  rest : fault_after x (k + 1) xs ≡ (Ok tt)

fine : (p : ℤ) (k : ℕ) (x : ℤ) (xs : List ℤ) → fault_after p k (x ∷ xs) ≡ (Ok tt) → Fine p k x xs
unfolding fault_after
fine p k x xs e =
    let r = fault_after x (k + 1) xs in
    let a = second (lt_z x first_column) (Column k) (pick (lt_z last_column x) (Err (Column k)) (pick (le_z x p) (Err (Order k)) r)) e in
    let b = second (lt_z last_column x) (Column k) (pick (le_z x p) (Err (Order k)) r) a.1 in
    let c = second (le_z x p) (Order k) r b.1 in
    record { column = record { low = false_lt x first_column a.0; high = false_lt last_column x b.0 }; above = false_le x p c.0; rest = c.1 }

-- an accepted row without its first column
pub tail_row : {x : ℤ} {xs : List ℤ} → AcceptedRow (x ∷ xs) → AcceptedRow xs
tail_row {x} {xs} r = record { columns = λ i g. r.columns (suc i) (omega arith); rising = λ i g. rw (add-one i) (rw (add-one (suc i)) at (r.rising (suc i) (omega arith))) }

row_of : (p : ℤ) (k : ℕ) (xs : List ℤ) → fault_after p k xs ≡ (Ok tt) → AcceptedRow xs
row_of p k xs e = record { columns = columns p k xs e; rising = rising p k xs e }
  where
    columns : (p : ℤ) (k : ℕ) (xs : List ℤ) → fault_after p k xs ≡ (Ok tt) → (i : ℕ) → i < length xs → AcceptedColumn (pad xs i)
    columns p k [] e i h = absurd (omega arith)
    columns p k (x ∷ xs) e zero h = (fine p k x xs e).column
    columns p k (x ∷ xs) e (suc i) h = columns x (k + 1) xs (fine p k x xs e).rest i (omega arith)

    rising : (p : ℤ) (k : ℕ) (xs : List ℤ) → fault_after p k xs ≡ (Ok tt) → Rising (length xs) (pad xs)
    rising p k [] e i h = absurd (omega arith)
    rising p k (x ∷ []) e i h = absurd (omega arith)
    rising p k (x ∷ y ∷ xs) e zero h = (fine x (k + 1) y xs (fine p k x (y ∷ xs) e).rest).above
    rising p k (x ∷ y ∷ xs) e (suc i) h = rw (add-one (suc i)) (rw (add-one i) at (rising x (k + 1) (y ∷ xs) (fine p k x (y ∷ xs) e).rest i (omega arith)))

-- and back: an accepted row that stands after p has no fault
of_row : (p : ℤ) (k : ℕ) (xs : List ℤ) → (0 < length xs → p <ℤ pad xs 0) → AcceptedRow xs → fault_after p k xs ≡ (Ok tt)
unfolding fault_after
of_row p k [] h r = refl
of_row p k (x ∷ xs) h r =
    let c = r.columns 0 (omega arith) in
    rw (lt_false x first_column c.low, lt_false last_column x c.high, le_false x p (h (omega arith)))
    (of_row x (k + 1) xs (λ g. r.rising 0 (omega arith)) (tail_row r))

pub of_row_fault : (k : ℕ) (xs : List ℤ) → AcceptedRow xs → row_fault k xs ≡ (Ok tt)
of_row_fault k xs r = of_row (first_column -ℤ pos 1) k xs (λ h. let c = r.columns 0 h in omega (arithℤ, c.low)) r

-- a rising row is in range where its two ends are
pub sound_row : (a : List ℤ) → 0 < length a → Rising (length a) (pad a) → first_column ≤ℤ pad a 0 → pad a (length a - 1) ≤ℤ last_column → AcceptedRow a
sound_row a some r low high =
    record {
      columns = λ k h. record { low = omega (arithℤ, rising_steady r 0 k (omega arith) h); high = omega (arithℤ, rising_steady r k (length a - 1) (omega arith) (omega arith)) };
      rising = r;
    }

-- THE ROW CHECK: no refusal exactly for accepted rows
pub rows_of : (a b : List ℤ) → check_rows a b ≡ (Ok tt) → AcceptedRows a b
rows_of a b e =
    let r = or_else (row_fault 0 a) (row_fault (length a) b) in
    let u = first (eqb (length a) (length b)) (pick (eqb (length a) 0) (Err Empty) (pick (ltb max_pairs (length a)) (Err Long) r)) Unequal e in
    let v = second (eqb (length a) 0) Empty (pick (ltb max_pairs (length a)) (Err Long) r) u.1 in
    let w = second (ltb max_pairs (length a)) Long r v.1 in
    let f = both (row_fault 0 a) (row_fault (length a) b) w.1 in
    let z = eqb-false (length a) 0 v.0 in
    record {
      equal = eqb-true (length a) (length b) u.0;
      some = omega arith;
      few = ltb-false max_pairs (length a) w.0;
      bottom = row_of (first_column -ℤ pos 1) 0 a f.0;
      top = row_of (first_column -ℤ pos 1) (length a) b f.1;
    }

pub of_rows : (a b : List ℤ) → AcceptedRows a b → check_rows a b ≡ (Ok tt)
of_rows a b r = rw (eq-eqb (length a) (length b) r.equal, some (length a) r.some, le-ltb max_pairs (length a) r.few, of_row_fault 0 a r.bottom) (of_row_fault (length a) b r.top)
  where
    some : (n : ℕ) → 1 ≤ n → eqb n 0 ≡ false
    some zero h = absurd (omega arith)
    some (suc n) h = ne_eqb (suc n) 0 (λ e. omega arith)

pub rows_exactly : (a b : List ℤ) → ((checked_numbers (check_rows a b)).refusal ≡ 0) ↔ AcceptedRows a b
rows_exactly a b = ((λ e. rows_of a b (accepted_of (check_rows a b) e)), (λ r. number_of (check_rows a b) (of_rows a b r)))

pub row_check : (a b : List ℤ) (r : Checked) → r ≡ check_rows a b → RowCheck a b r
row_check a b r e = record { answer = e; accepts = rw e (rows_exactly a b) }

-- accepted columns and offsets are far from the ends of an i32: no proof above says how far
pub near : (a : List ℤ) → AcceptedRow a → (k : ℕ) → nat_abs (pad a k) ≤ 1000000
near [] r k = omega arith
near (x ∷ xs) r zero = let c = r.columns 0 (omega arith) in abs_of x 1000000 (omega (arithℤ, c.high)) (omega (arithℤ, c.low))
near (x ∷ xs) r (suc k) = near xs (tail_row r) k

pub near_offset : (d : ℤ) → AcceptedOffset d → nat_abs d ≤ 1000000
near_offset d o = abs_of d 1000000 (omega (arithℤ, o.high)) (omega (arithℤ, o.low))
