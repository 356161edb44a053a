-- With which numbers the calls refuse two rows: none above 11, and UNEQUAL only rows that are not equally long.
use Rattle.std.specs.Prelude.{Option, Some, None, Result, Ok, Err}
use mathlib.Core.Path.{◌≡◌, refl}
use mathlib.Core.Bool.{Bool, true, false, cond}
use mathlib.Core.List.{List, [], ◌∷◌}
use Prim.Native.Nat.{ℕ, ◌+◌, ◌≤◌}
use native.Mathlib.Omega.{arith}
use borrow.Author.Tests.{eqb-false}
use lib.Dec.{eqb, ltb}
use lib.ListN.{length}
use lib.IntN.{ℤ}
use lib.Signed.{lt_z, le_z}
use Rattle.wiring.specs.Tracks.{rule_at}
use Rattle.jumper.specs.Limits.{max_pairs, first_column, last_column}
use Rattle.jumper.specs.Refusals.{refusal_numbers}
use Rattle.jumper.specs.Rows.{Checked, pick, unless_refused, or_else, fault_after, row_fault, check_rows}
use Rattle.jumper.specs.Asked.{offset_fault, check_tracks, check_offset, check_asked}
use Rattle.jumper.specs.declared.refusal.Refusal.{Refusal}
use Rattle.jumper.specs.declared.refusal.Refusal.TheVariants.{Unequal, Empty, Long, Column, Order, Tracks as NoTracks, Offset, Buffer, NoFit, NoOffset}
use Rattle.fit.specs.Misfit.{misfit_of, no_fit, fit_of}
use Rattle.fit.specs.Least.{least_answer}
use Rattle.fit.specs.Offsets.{offsets_answer}
use Rattle.best.specs.Best.{planned_of, room_or, best_answer}
use Rattle.best.specs.declared.plan.Planned.{Planned}
use Rattle.fit.specs.declared.misfit.Misfit.{Misfit}

-- the number of an answer's refusal, or 0
abbrev pub refused_by : {A : Type 0} → Result A Refusal → ℕ
refused_by (Ok x) = 0
refused_by (Err r) = (refusal_numbers r).refusal

-- what is said of it, of an answer about rows a and b
pub record Known (a b : List ℤ) {A : Type 0} (c : Result A Refusal) : Type 0 where
  pub few : refused_by c ≤ 11
  pub equal : length a ≡ length b → refused_by c ≡ 1 → ⊥

module _ {a b : List ℤ} where
  answered : {A : Type 0} {x : A} → Known a b (Ok x)
  answered = record { few = omega arith; equal = λ e z. omega arith }

  -- any refusal from EMPTY to NOOFFSET
  refused : {A : Type 0} (r : Refusal) → 2 ≤ (refusal_numbers r).refusal → (refusal_numbers r).refusal ≤ 11 → Known a b {A = A} (Err r)
  refused r low high = record { few = high; equal = λ e z. omega arith }

  known_pick : {r s : Checked} (t : Bool) → Known a b r → Known a b s → Known a b (pick t r s)
  known_pick true h k = h
  known_pick false h k = k

  known_cond : {A : Type 0} {r s : Result A Refusal} (t : Bool) → Known a b r → Known a b s → Known a b (cond t r s)
  known_cond true h k = h
  known_cond false h k = k

  -- an answer that comes after a check
  known_after : {A : Type 0} {x : Result A Refusal} (c : Checked) → Known a b c → Known a b x → Known a b (unless_refused c Err x)
  known_after (Ok u) h k = k
  known_after (Err r) h k = record { few = h.few; equal = h.equal }

  known_fault : (p : ℤ) (k : ℕ) (xs : List ℤ) → Known a b (fault_after p k xs)
  unfolding fault_after
  known_fault p k [] = answered
  known_fault p k (x ∷ xs) =
      known_pick (lt_z x first_column) (refused (Column k) (omega arith) (omega arith))
      (known_pick (lt_z last_column x) (refused (Column k) (omega arith) (omega arith))
      (known_pick (le_z x p) (refused (Order k) (omega arith) (omega arith)) (known_fault x (k + 1) xs)))

  known_offset : (d : ℤ) → Known a b (offset_fault d)
  known_offset d = known_pick _ (refused Offset (omega arith) (omega arith)) (known_pick _ (refused Offset (omega arith) (omega arith)) answered)

  known_misfit : (m : Option Misfit) → Known a b (no_fit m)
  known_misfit None = answered
  known_misfit (Some m) = refused (NoFit m.pair m.side) (omega arith) (omega arith)

  known_room : (t : Bool) (p : Planned) → Known a b (room_or t p)
  known_room true p = refused Buffer (omega arith) (omega arith)
  known_room false p = answered

module _ (a b : List ℤ) where
  known_rows : Known a b (check_rows a b)
  known_rows = go (eqb (length a) (length b)) refl
    where
      sized : Checked
      sized = pick (ltb max_pairs (length a)) (Err Long) (or_else (row_fault 0 a) (row_fault (length a) b))

      go : (t : Bool) → eqb (length a) (length b) ≡ t → Known a b (pick t (pick (eqb (length a) 0) (Err Empty) sized) (Err Unequal))
      go true e =
          known_pick _ (refused Empty (omega arith) (omega arith))
          (known_pick _ (refused Long (omega arith) (omega arith))
          (known_after (row_fault 0 a) (known_fault _ 0 a) (known_fault _ (length a) b)))
      go false e = record { few = omega arith; equal = λ f z. eqb-false (length a) (length b) e f }

  known_tracks : (s : ℕ) → Known a b (check_tracks a b s)
  known_tracks s = known_after (check_rows a b) known_rows (known_pick _ (refused NoTracks (omega arith) (omega arith)) answered)

  pub known_fit : (s : ℕ) (d : ℤ) → Known a b (fit_of a b s d)
  known_fit s d =
      known_after (check_asked a b s d)
      (known_after (check_tracks a b s) (known_tracks s) (known_offset d))
      (known_misfit (misfit_of a b (rule_at s) d))

  pub known_least : (d : ℤ) → Known a b (least_answer a b d)
  known_least d = known_after (check_offset a b d) (known_after (check_rows a b) known_rows (known_offset d)) answered

  pub known_range : (s : ℕ) → Known a b (offsets_answer a b s)
  known_range s =
      known_after (check_tracks a b s) (known_tracks s)
      (known_cond _ (known_cond _ (refused (NoOffset _ _) (omega arith) (omega arith)) answered) answered)

  pub known_best : (before : List ℕ) → Known a b (best_answer a b before)
  known_best before = known_after (check_rows a b) known_rows (known_room _ (planned_of a b))
