-- One step of `fault_after` at a place of the row, by the code's tests.
use Rattle.std.specs.Prelude.{Ok, Err}
use mathlib.Core.Path.{◌≡◌, refl}
use mathlib.Core.Bool.{Bool, true, false}
use mathlib.Core.List.{List}
use Prim.Native.Nat.{ℕ, ◌+◌, ◌<◌, ◌≤◌}
use native.Mathlib.Nat.{add-suc}
use native.Mathlib.Numerals.{add-one}
use lib.ListN.{length, drop, drop_of_length-le}
use lib.Seq.{drop-cons}
use lib.IntN.{ℤ, pos}
use lib.Signed.{lt_z, le_z}
use Rattle.whole.proofs.Order.{false_lt, lt_false}
use Rattle.wiring.specs.Wiring.{pad}
use Rattle.jumper.specs.Limits.{first_column, last_column, AcceptedColumn}
use Rattle.jumper.specs.Rows.{pick, fault_after}
use Rattle.jumper.specs.declared.refusal.Refusal.TheVariants.{Column, Order}
use Rattle.jumper.specs.Rows.{Checked}

-- a column out of range breaks one of the two tests
outside : (x : ℤ) (r s : Checked) → (AcceptedColumn x → ⊥) → pick (lt_z x first_column) r (pick (lt_z last_column x) r s) ≡ r
outside x r s h = go (lt_z x first_column) refl (lt_z last_column x) refl
  where
    go : (t : Bool) → lt_z x first_column ≡ t → (u : Bool) → lt_z last_column x ≡ u → pick t r (pick u r s) ≡ r
    go true p u q = refl
    go false p true q = refl
    go false p false q = absurd (h (record { low = false_lt x first_column p; high = false_lt last_column x q }))

module _ (a : List ℤ) (p : ℤ) (base i : ℕ) (lt : i < length a) where
  pub column : (AcceptedColumn (pad a i) → ⊥) → fault_after p (base + i) (drop i a) ≡ Err (Column (base + i))
  unfolding fault_after
  column h = rw (drop-cons a i (pos 0)) (outside (pad a i) (Err (Column (base + i))) _ h)

  module _ (c : AcceptedColumn (pad a i)) where
    pub order : le_z (pad a i) p ≡ true → fault_after p (base + i) (drop i a) ≡ Err (Order (base + i))
    unfolding fault_after
    order k = rw (drop-cons a i (pos 0), lt_false (pad a i) first_column c.low, lt_false last_column (pad a i) c.high, k)

    pub next : le_z (pad a i) p ≡ false → fault_after p (base + i) (drop i a) ≡ fault_after (pad a i) (base + (i + 1)) (drop (i + 1) a)
    unfolding fault_after
    next k = rw (drop-cons a i (pos 0), lt_false (pad a i) first_column c.low, lt_false last_column (pad a i) c.high, k, add-one, add-one, add-suc)

pub done : (a : List ℤ) (p : ℤ) (base i : ℕ) → length a ≤ i → fault_after p (base + i) (drop i a) ≡ (Ok tt)
unfolding fault_after
done a p base i le = rw drop_of_length-le
