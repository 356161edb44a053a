-- What is asked about two rows, and the refusals 1 to 7 in 01's order ("Checks 1 to 11 go by number where the call has that input").
use Rattle.std.specs.Prelude.{◌≡◌, Ok, Err, List, ◌↔◌, ℕ, ◌≤◌, ltb, ℤ}
use Rattle.std.specs.Int.Signed.{lt_z}
use Rattle.jumper.specs.Limits.{max_tracks, lowest_offset, highest_offset, AcceptedOffset}
use Rattle.jumper.specs.Rows.{AcceptedRows, Checked, checked_numbers, pick, or_else, check_rows}
use Rattle.jumper.specs.declared.refusal.Refusal.TheVariants.{Tracks, Offset}

-- 02, #106: "TRACKS is given above 2,049"
abbrev pub tracks_fault : ℕ → Checked
tracks_fault s = pick (ltb max_tracks s) (Err Tracks) (Ok tt)

-- "offset out of range"
abbrev pub offset_fault : ℤ → Checked
offset_fault d = pick (lt_z d lowest_offset) (Err Offset) (pick (lt_z highest_offset d) (Err Offset) (Ok tt))

abbrev pub check_tracks : List ℤ → List ℤ → ℕ → Checked
check_tracks a b s = or_else (check_rows a b) (tracks_fault s)

abbrev pub check_offset : List ℤ → List ℤ → ℤ → Checked
check_offset a b d = or_else (check_rows a b) (offset_fault d)

abbrev pub check_asked : List ℤ → List ℤ → ℕ → ℤ → Checked
check_asked a b s d = or_else (check_tracks a b s) (offset_fault d)

-- rows and a separation, rows and an offset, and all of them, as we accept them
pub record AcceptedTracks (a b : List ℤ) (s : ℕ) : Type 0 where
  pub rows : AcceptedRows a b
  pub tracks : s ≤ max_tracks

pub record AcceptedShift (a b : List ℤ) (d : ℤ) : Type 0 where
  pub rows : AcceptedRows a b
  pub offset : AcceptedOffset d

pub record Asked (a b : List ℤ) (s : ℕ) (d : ℤ) : Type 0 where
  pub rows : AcceptedRows a b
  pub tracks : s ≤ max_tracks
  pub offset : AcceptedOffset d

-- What the checks promise: which refusal, and that there is none exactly for what is accepted.
pub record TracksCheck (a b : List ℤ) (s : ℕ) (r : Checked) : Type 0 where
  pub answer : r ≡ check_tracks a b s
  pub accepts : ((checked_numbers r).refusal ≡ 0) ↔ AcceptedTracks a b s

pub record OffsetCheck (a b : List ℤ) (d : ℤ) (r : Checked) : Type 0 where
  pub answer : r ≡ check_offset a b d
  pub accepts : ((checked_numbers r).refusal ≡ 0) ↔ AcceptedShift a b d

pub record AskedCheck (a b : List ℤ) (s : ℕ) (d : ℤ) (r : Checked) : Type 0 where
  pub answer : r ≡ check_asked a b s d
  pub accepts : ((checked_numbers r).refusal ≡ 0) ↔ Asked a b s d
