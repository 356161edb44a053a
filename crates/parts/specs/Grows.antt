-- WHAT A PAIR ADDED AFTER THE LAST DOES to a least or best separation (02, #113): it "raises each by at most one before #106's extra track, and by at most
-- two with it". That this holds of what `least_at` and `best_of` answer is said by `least_added` and `best_added` of proofs/Laws.antt.
--
-- Worked: rows 0 and 0 have least separation 0 at offset 0, and best separation 0. With the pair 1, 2 added they are rows 0,1 and 0,2, and both are 2: a rise
-- of two. With the pair 2, 4 added after these they are rows 0,1,2 and 0,2,4; the least is 3, a rise of one, and the best 2, a rise of none.
use Rattle.std.specs.Prelude.{ℕ, ◌+◌, ◌≤◌, ◌<◌}
use Rattle.wiring.specs.Tracks.{rule_at}

-- a separation, and the one after the pair was added
pub record Grows (before after : ℕ) : Type 0 where
  pub no_fall : before ≤ after
  pub two : after ≤ before + 2
  -- "by at most one before #106's extra track": in the numbers at which the rule is read
  pub inside : rule_at after ≤ rule_at before + 1
  -- a rise of two is from 0 only: not in 02's words, but it follows from `inside`
  pub one : 0 < before → after ≤ before + 1
