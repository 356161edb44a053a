-- Which rows are accepted, and which refusal the others get (01, "What comes back", 1 to 5).
use Rattle.std.specs.Prelude.{Bool, true, false, ⊤, Result, Ok, Err, ◌≡◌, List, [], ◌∷◌, ◌↔◌, ℕ, ◌+◌, ◌≤◌, ◌<◌, eqb, ltb, length, ℤ, pos, ◌-ℤ◌}
use Rattle.std.specs.Int.Signed.{lt_z, le_z}
use Rattle.wiring.specs.Wiring.{pad}
use Rattle.wiring.specs.Fit.{Rising}
use Rattle.jumper.specs.Limits.{max_pairs, first_column, last_column, AcceptedColumn}
use Rattle.jumper.specs.Refusals.{refusal_numbers, nothing}
use Rattle.jumper.specs.declared.refusal.Numbers.{Numbers}
use Rattle.jumper.specs.declared.refusal.Refusal.{Refusal}
use Rattle.jumper.specs.declared.refusal.Refusal.TheVariants.{Unequal, Empty, Long, Column, Order}

-- 02: "Columns become -65,535 to 65,535"; 01: "each greater than the one before"
pub record AcceptedRow (a : List ℤ) : Type 0 where
  pub columns : (k : ℕ) → k < length a → AcceptedColumn (pad a k)
  pub rising : Rising (length a) (pad a)

-- two rows as we accept them
pub record AcceptedRows (a b : List ℤ) : Type 0 where
  pub equal : length a ≡ length b
  pub some : 1 ≤ length a
  pub few : length a ≤ max_pairs
  pub bottom : AcceptedRow a
  pub top : AcceptedRow b

-- the answer of a check: accepted, or the first refusal
abbrev pub Checked : Type 0
Checked = Result ⊤ Refusal

-- the numbers of a check
abbrev pub checked_numbers : Checked → Numbers
checked_numbers (Ok u) = nothing
checked_numbers (Err r) = refusal_numbers r

abbrev pub pick : Bool → Checked → Checked → Checked
pick true r s = r
pick false r s = s

-- what comes after a check: where it refuses, what is made of its refusal, else x
abbrev pub unless_refused : {X : Type 0} → Checked → (Refusal → X) → X → X
unless_refused (Ok u) f x = x
unless_refused (Err r) f x = f r

-- the first check's refusal, else the second check's answer
abbrev pub or_else : Checked → Checked → Checked
or_else r s = unless_refused r Err s

-- "COLUMN before ORDER at each place, the first fault deciding": of columns of which the first has place k and stands after a column p
unfoldable pub fault_after : ℤ → ℕ → List ℤ → Checked
fault_after p k [] = Ok tt
fault_after p k (x ∷ xs) =
    pick (lt_z x first_column) (Err (Column k))
    (pick (lt_z last_column x) (Err (Column k))
    (pick (le_z x p) (Err (Order k))
    (fault_after x (k + 1) xs)))

-- of a row whose first column has place k: nothing stands before it, so it is set after the column left of all
abbrev pub row_fault : ℕ → List ℤ → Checked
row_fault k a = fault_after (first_column -ℤ pos 1) k a

-- "rows are read bottom then top, each from its left"; the place is "the index for a bottom fault, n plus it for a top fault"
abbrev pub check_rows : List ℤ → List ℤ → Checked
check_rows a b =
    pick (eqb (length a) (length b))
    (pick (eqb (length a) 0) (Err Empty)
    (pick (ltb max_pairs (length a)) (Err Long)
    (or_else (row_fault 0 a) (row_fault (length a) b))))
    (Err Unequal)

-- What the row check promises: which refusal, and that there is none exactly for accepted rows.
pub record RowCheck (a b : List ℤ) (r : Checked) : Type 0 where
  pub answer : r ≡ check_rows a b
  pub accepts : ((checked_numbers r).refusal ≡ 0) ↔ AcceptedRows a b
