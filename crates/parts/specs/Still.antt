-- THE PROMISE of `still_fits` (02, #113: "the planner wants to serve it from the old record"; refusals 1 to 7, then 10).
--
-- Worked: J fits at separation 3, offset 0, and so does what the bytes 1,0,7,1 leave of it: rows 0,4,5 and 1,3,4, with x = 0,3,3 and y = 1,2,2. At separation
-- 2, the rule's number 1, its low ends x_i - y_(i+1) are -2, 1 and its high ends x_(i+1) - y_i are 2, 1: offset 1 does, where J has none. At offset 0 top pad 2
-- is too far left for bottom pad 1: the witness is pair 1 of the part, side LEFT; in J these two pads have the numbers 3 and 2.
use Rattle.std.specs.Prelude.{◌≡◌, List, ◌↔◌, ℕ, ℤ}
use Rattle.wiring.specs.Wiring.{HasWiring}
use Rattle.wiring.specs.Tracks.{rule_at}
use Rattle.jumper.specs.Rows.{Checked, checked_numbers, or_else}
use Rattle.fit.specs.Misfit.{misfit_of, no_fit, Witness}
use Rattle.parts.specs.Stays.{row_kept, check_part, AskedPart}

-- NOFIT's pair is a pair of the part: "the witness is told by pair numbers of the part that remains"
abbrev pub still_of : (a b : List ℤ) (stays : List ℕ) (s : ℕ) (d : ℤ) → Checked
still_of a b stays s d = or_else (check_part a b stays s d) (no_fit (misfit_of (row_kept stays a) (row_kept stays b) (rule_at s) d))

-- What `still_fits` promises: "no refusal exactly when what remains has a legal wiring there", NOFIT exactly when it has none, and then the pads that prevent
-- it. Where the whole jumper has a legal wiring there, as its old record says, there is no refusal: so a record that was answered serves every part.
pub record StillAnswer (a b : List ℤ) (stays : List ℕ) (s : ℕ) (d : ℤ) (r : Checked) : Type 0 where
  pub answer : r ≡ still_of a b stays s d
  pub fits : ((checked_numbers r).refusal ≡ 0) ↔ (AskedPart a b stays s d × HasWiring (row_kept stays a) (row_kept stays b) s d)
  pub prevents : ((checked_numbers r).refusal ≡ 10) ↔ (AskedPart a b stays s d × (HasWiring (row_kept stays a) (row_kept stays b) s d → ⊥))
  pub witness : (checked_numbers r).refusal ≡ 10 → Witness (row_kept stays a) (row_kept stays b) s d (checked_numbers r).pair (checked_numbers r).side
  pub serves : AskedPart a b stays s d → HasWiring a b s d → (checked_numbers r).refusal ≡ 0
