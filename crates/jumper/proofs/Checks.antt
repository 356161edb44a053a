-- The checks 1 to 7 let through exactly what is accepted; and a check after another, by the first one's answer.
use Rattle.std.specs.Prelude.{Result, Ok, Err, IsErrAnd}
use Rattle.std.proofs.lemmas.Result.{err_from_is_err_and}
use mathlib.Core.Path.{◌≡◌, ap, ◌∙◌}
use mathlib.Core.Bool.{Bool, true, false}
use mathlib.Core.List.{List, [], ◌∷◌}
use Prim.Native.Nat.{ℕ, ◌+◌, ◌≤◌}
use native.Mathlib.Omega.{arith}
use borrow.Author.Tests.{ltb-false, le-ltb}
use lib.Dec.{eqb, ltb}
use lib.ListN.{length}
use lib.IntN.{ℤ}
use lib.Signed.{lt_z, le_z}
use Rattle.whole.proofs.Order.{false_lt, lt_false}
use Rattle.jumper.specs.Limits.{max_pairs, first_column, last_column, max_tracks, lowest_offset, highest_offset, AcceptedOffset}
use Rattle.jumper.specs.Refusals.{refusal_numbers}
use Rattle.jumper.specs.Rows.{pick, or_else, fault_after, row_fault, check_rows}
use Rattle.jumper.specs.Asked.{tracks_fault, offset_fault, check_tracks, check_offset, check_asked, AcceptedTracks, AcceptedShift, Asked}
use Rattle.jumper.specs.declared.refusal.Refusal.{Refusal}
use Rattle.jumper.specs.declared.refusal.Refusal.TheVariants.{Unequal, Empty, Long, Column, Order, Tracks, Offset}
use Rattle.jumper.specs.Rows.{Checked}
use Rattle.jumper.proofs.Accepted.{second, both, rows_of, of_rows}

-- A refusal that `?` hands on: the answer is refused, and by the same refusal.
pub passed_on : {A : Type 0} {f : Refusal} (q : Result A Refusal) → IsErrAnd q (λ e. e ≡ f) → q ≡ Err f
passed_on q h = let p = err_from_is_err_and q h in p.1 ∙ ap Err p.2

tracks_of : (s : ℕ) → tracks_fault s ≡ (Ok tt) → s ≤ max_tracks
tracks_of s e = ltb-false max_tracks s (second (ltb max_tracks s) Tracks (Ok tt) e).0

of_tracks : (s : ℕ) → s ≤ max_tracks → tracks_fault s ≡ (Ok tt)
of_tracks s h = rw (le-ltb max_tracks s h)

offset_of : (d : ℤ) → offset_fault d ≡ (Ok tt) → AcceptedOffset d
offset_of d e =
    let u = second (lt_z d lowest_offset) Offset (pick (lt_z highest_offset d) (Err Offset) (Ok tt)) e in
    let v = second (lt_z highest_offset d) Offset (Ok tt) u.1 in
    record { low = false_lt d lowest_offset u.0; high = false_lt highest_offset d v.0 }

of_offset : (d : ℤ) → AcceptedOffset d → offset_fault d ≡ (Ok tt)
of_offset d o = rw (lt_false d lowest_offset o.low, lt_false highest_offset d o.high)

pub accepted_tracks : (a b : List ℤ) (s : ℕ) → check_tracks a b s ≡ (Ok tt) → AcceptedTracks a b s
accepted_tracks a b s e = let f = both (check_rows a b) (tracks_fault s) e in record { rows = rows_of a b f.0; tracks = tracks_of s f.1 }

pub accepted_asked : (a b : List ℤ) (s : ℕ) (d : ℤ) → check_asked a b s d ≡ (Ok tt) → Asked a b s d
accepted_asked a b s d e =
    let f = both (check_tracks a b s) (offset_fault d) e in
    let t = accepted_tracks a b s f.0 in
    record { rows = t.rows; tracks = t.tracks; offset = offset_of d f.1 }

pub tracks_accepted : (a b : List ℤ) (s : ℕ) → AcceptedTracks a b s → check_tracks a b s ≡ (Ok tt)
tracks_accepted a b s t = rw (of_rows a b t.rows) (of_tracks s t.tracks)

pub shift_accepted : (a b : List ℤ) (d : ℤ) → AcceptedShift a b d → check_offset a b d ≡ (Ok tt)
shift_accepted a b d t = rw (of_rows a b t.rows) (of_offset d t.offset)

pub asked_accepted : (a b : List ℤ) (s : ℕ) (d : ℤ) → Asked a b s d → check_asked a b s d ≡ (Ok tt)
asked_accepted a b s d t = rw (tracks_accepted a b s (record { rows = t.rows; tracks = t.tracks })) (of_offset d t.offset)

-- the checks refuse with their own numbers only: at most 5, 6 and 7
abbrev pub Early : ℕ → Checked → Type 0
Early n (Ok u) = Unit {0}
Early n (Err r) = (refusal_numbers r).refusal ≤ n

pub early_pick : (n : ℕ) (t : Bool) (r s : Checked) → Early n r → Early n s → Early n (pick t r s)
early_pick n true r s h k = h
early_pick n false r s h k = k

pub early_or : (n : ℕ) (r s : Checked) → Early n r → Early n s → Early n (or_else r s)
early_or n (Ok u) s h k = k
early_or n (Err r) s h k = h

early_up : (m n : ℕ) (r : Checked) → m ≤ n → Early m r → Early n r
early_up m n (Ok u) l h = tt
early_up m n (Err r) l h = omega arith

early_fault : (p : ℤ) (k : ℕ) (xs : List ℤ) → Early 5 (fault_after p k xs)
unfolding fault_after
early_fault p k [] = tt
early_fault p k (x ∷ xs) =
    early_pick 5 (lt_z x first_column) (Err (Column k)) (pick (lt_z last_column x) (Err (Column k)) (pick (le_z x p) (Err (Order k)) (fault_after x (k + 1) xs))) (omega arith)
    (early_pick 5 (lt_z last_column x) (Err (Column k)) (pick (le_z x p) (Err (Order k)) (fault_after x (k + 1) xs)) (omega arith)
    (early_pick 5 (le_z x p) (Err (Order k)) (fault_after x (k + 1) xs) (omega arith) (early_fault x (k + 1) xs)))

pub early_rows : (a b : List ℤ) → Early 5 (check_rows a b)
early_rows a b =
    let r = or_else (row_fault 0 a) (row_fault (length a) b) in
    early_pick 5 (eqb (length a) (length b)) (pick (eqb (length a) 0) (Err Empty) (pick (ltb max_pairs (length a)) (Err Long) r)) (Err Unequal)
    (early_pick 5 (eqb (length a) 0) (Err Empty) (pick (ltb max_pairs (length a)) (Err Long) r) (omega arith)
    (early_pick 5 (ltb max_pairs (length a)) (Err Long) r (omega arith) (early_or 5 (row_fault 0 a) (row_fault (length a) b) (early_fault _ 0 a) (early_fault _ (length a) b))))
    (omega arith)

early_offset : (d : ℤ) → Early 7 (offset_fault d)
early_offset d =
    let above = pick (lt_z highest_offset d) (Err Offset) (Ok tt) in
    early_pick 7 (lt_z d lowest_offset) (Err Offset) above (omega arith)
    (early_pick 7 (lt_z highest_offset d) (Err Offset) (Ok tt) (omega arith) tt)

pub early_tracks : (a b : List ℤ) (s : ℕ) → Early 6 (check_tracks a b s)
early_tracks a b s =
    early_or 6 (check_rows a b) (tracks_fault s)
    (early_up 5 6 (check_rows a b) (omega arith) (early_rows a b))
    (early_pick 6 (ltb max_tracks s) (Err Tracks) (Ok tt) (omega arith) tt)

pub early_shift : (a b : List ℤ) (d : ℤ) → Early 7 (check_offset a b d)
early_shift a b d = early_or 7 (check_rows a b) (offset_fault d) (early_up 5 7 (check_rows a b) (omega arith) (early_rows a b)) (early_offset d)

pub early_asked : (a b : List ℤ) (s : ℕ) (d : ℤ) → Early 7 (check_asked a b s d)
early_asked a b s d = early_or 7 (check_tracks a b s) (offset_fault d) (early_up 6 7 (check_tracks a b s) (omega arith) (early_tracks a b s)) (early_offset d)
