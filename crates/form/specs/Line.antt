-- A line's record, an order and its answer (01, "Form").
use Rattle.std.specs.Prelude.{Bool, cond, ◌≡◌, List, ◌↔◌, ℕ, ◌+◌, ◌≤◌, ltb, length, take, drop, ℤ, pos}
use Rattle.jumper.specs.Refusals.{refusal_numbers}
use Rattle.jumper.specs.declared.refusal.Numbers.{Numbers}
use Rattle.jumper.specs.declared.refusal.Refusal.TheVariants.{Line as NoLine}
use Rattle.plan.specs.Wish.{wish_of}
use Rattle.plan.specs.Plan.{plan_of, PlanAnswer}
use Rattle.plan.specs.declared.wish.Wish.{Wish}
use Rattle.form.specs.declared.line.Order.{Order}
use Rattle.form.specs.declared.line.Line.{Line}

-- "a start plus count over its pool's length"
abbrev pub outside : (start pairs len : ℕ) → Bool
outside i n l = ltb l (i + n)

-- n pads of a pool, from i on; the bottom and top pads that a line orders, and its wish
abbrev pub pads_of : (start pairs : ℕ) → List ℤ → List ℤ
pads_of i n pool = take n (drop i pool)

abbrev pub bottom_of : Order → List ℤ → List ℤ
bottom_of o p = pads_of o.bottom o.pairs p

abbrev pub top_of : Order → List ℤ → List ℤ
top_of o q = pads_of o.top o.pairs q

abbrev pub wished : Order → Wish
wished o = wish_of o.separation o.offset

-- "LINE is tested before 1 to 11."
abbrev pub answer_of : Order → (pool_a pool_b : List ℤ) → Numbers
answer_of o p q =
    cond (outside o.bottom o.pairs (length p)) (refusal_numbers NoLine)
    (cond (outside o.top o.pairs (length q)) (refusal_numbers NoLine)
    (plan_of (wished o) (bottom_of o p) (top_of o q)))

-- "writes the answer fields of record k (a refusal included) and nothing else"
abbrev pub with_answer : Line → Numbers → Line
with_answer l r = record { order = l.order; answer = r }

abbrev pub answered_of : Line → (pool_a pool_b : List ℤ) → Line
answered_of l p q = with_answer l (answer_of l.order p q)

-- the ordered pads lie in the pools
pub record Inside (o : Order) (p q : List ℤ) : Type 0 where
  pub bottom : o.bottom + o.pairs ≤ length p
  pub top : o.top + o.pairs ≤ length q

-- What `answered` promises, for any record and pools: which record, LINE exactly when the pads don't lie in the pools, and else all that `plan`
-- promises of the line's own pads. They are equally many, so no answer is UNEQUAL.
pub record LineAnswer (l : Line) (p q : List ℤ) (r : Line) : Type 0 where
  pub answer : r ≡ answered_of l p q
  pub line : (r.answer.refusal ≡ 12) ↔ (Inside l.order p q → ⊥)
  pub inside : r.answer.refusal ≡ 0 → Inside l.order p q
  pub planned : Inside l.order p q → PlanAnswer (wished l.order) (bottom_of l.order p) (top_of l.order q) r.answer
  pub equal : r.answer.refusal ≡ 1 → ⊥

-- The orders of two lines, each with its pools, that are the same but for where their pads lie: as many pairs, the same wish, the same pads. Their
-- answers are the same (`own_answer` of proofs/Tables.antt).
pub record SameLine (o : Order) (p q : List ℤ) (o' : Order) (p' q' : List ℤ) : Type 0 where
  pub pairs : o.pairs ≡ o'.pairs
  pub wish : wished o ≡ wished o'
  pub inside : Inside o p q ↔ Inside o' p' q'
  pub bottom : bottom_of o p ≡ bottom_of o' p'
  pub top : top_of o q ≡ top_of o' q'

-- the order of no line
abbrev pub no_order : Order
no_order = record { bottom = 0; top = 0; pairs = 0; separation = 0; offset = pos 0 }
