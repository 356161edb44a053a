-- What a complete line is answered: the answer to the wish of its header, as in a form.
use Rattle.std.specs.Prelude.{◌≡◌, List, ℕ, ℤ}
use Rattle.jumper.specs.Asked.{Asked}
use Rattle.jumper.specs.declared.refusal.Numbers.{Numbers}
use Rattle.plan.specs.Wish.{wish_of}
use Rattle.plan.specs.Plan.{plan_of}

-- "separation (2, FFFF = least), offset (4, 80000000 = best)": the result numbers for two rows, by the separation and the offset of their header
unfoldable pub planned : (separation : ℕ) (offset : ℤ) (a b : List ℤ) → Numbers
planned s d a b = plan_of (wish_of s d) a b

-- What the code is told: the numbers, and that a route can be drawn at the separation and the lowest offset if the line isn't refused.
pub record PlanTold (s : ℕ) (d : ℤ) (a b : List ℤ) (r : Numbers) : Type 0 where
  pub is : r ≡ planned s d a b
  pub asked : r.refusal ≡ 0 → Asked a b r.separation r.lowest
