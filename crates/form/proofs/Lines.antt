-- The answer to a record: LINE without a sum that could wrap, and what `plan` promises of the line's own pads.
use mathlib.Core.Path.{◌≡◌, refl, sym, ap, ◌∙◌}
use mathlib.Core.Bool.{Bool, true, false, cond}
use mathlib.Core.List.{List}
use Prim.Native.Nat.{ℕ, ◌+◌, ◌≤◌, ◌<◌}
use native.Mathlib.Decide.{dec_lt}
use native.Mathlib.Omega.{arith}
use borrow.Author.Tests.{le-ltb, ltb-false}
use lib.ListN.{length, drop, length-drop}
use lib.Seq.{length-take-le}
use lib.IntN.{ℤ}
use Rattle.jumper.specs.Refusals.{refusal_numbers}
use Rattle.jumper.specs.declared.refusal.Numbers.{Numbers}
use Rattle.jumper.specs.declared.refusal.Refusal.TheVariants.{Line as NoLine}
use Rattle.plan.specs.Plan.{plan_of, PlanAnswer}
use Rattle.form.specs.Line.{outside, answer_of, pads_of, bottom_of, top_of, wished, with_answer, Inside, LineAnswer}
use Rattle.plan.specs.declared.wish.Wish.{Wish}
use Rattle.form.specs.declared.line.Order.{Order}
use Rattle.form.specs.declared.line.Line.{Line}

-- whether the ordered pads lie in the pools
pub dec_inside : (o : Order) (p q : List ℤ) → Dec (Inside o p q)
dec_inside o p q = go (dec_lt (length p) (o.bottom + o.pairs)) (dec_lt (length q) (o.top + o.pairs))
  where
    go : Dec (length p < o.bottom + o.pairs) → Dec (length q < o.top + o.pairs) → Dec (Inside o p q)
    go (yes e) d = no (λ i. omega (arith, i.bottom))
    go (no e) (yes f) = no (λ i. omega (arith, i.top))
    go (no e) (no f) = yes (record { bottom = omega arith; top = omega arith })

-- a line's answer, its pads outside and inside the pools
pub outside_answer : (o : Order) (p q : List ℤ) → (Inside o p q → ⊥) → answer_of o p q ≡ refusal_numbers NoLine
outside_answer o p q h = go (outside o.bottom o.pairs (length p)) (outside o.top o.pairs (length q)) out
  where
    out : outside o.bottom o.pairs (length p) ≡ false → outside o.top o.pairs (length q) ≡ false → ⊥
    out e f = h (record { bottom = ltb-false _ _ e; top = ltb-false _ _ f })

    planned : Numbers
    planned = plan_of (wished o) (bottom_of o p) (top_of o q)

    go : (u v : Bool) → (u ≡ false → v ≡ false → ⊥)
        → cond u (refusal_numbers NoLine) (cond v (refusal_numbers NoLine) planned) ≡ refusal_numbers NoLine
    go true v n = refl
    go false true n = refl
    go false false n = absurd (n refl refl)

pub inside_answer : (o : Order) (p q : List ℤ) → Inside o p q → answer_of o p q ≡ plan_of (wished o) (bottom_of o p) (top_of o q)
inside_answer o p q h = let e = le-ltb _ _ h.bottom in let f = le-ltb _ _ h.top in rw (e, f)

-- a line's rows are as long as it says
pub pads_length : (i n : ℕ) (p : List ℤ) → i + n ≤ length p → length (pads_of i n p) ≡ n
pads_length i n p h = length-take-le n (drop i p) (simp length-drop (omega arith))

-- what `plan` promises of the pads that the code found in the pools
pub line_planned : (l : Line) (p q a b : List ℤ) (w : Wish) (r : Numbers)
    → (l.order.bottom + l.order.pairs ≤ length p) × (a ≡ bottom_of l.order p) → (l.order.top + l.order.pairs ≤ length q) × (b ≡ top_of l.order q)
    → w ≡ wished l.order → PlanAnswer w a b r → LineAnswer l p q (with_answer l r)
line_planned l p q a b w r f g v k =
    let i : Inside l.order p q = record { bottom = f.0; top = g.0 } in
    let h : PlanAnswer (wished l.order) (bottom_of l.order p) (top_of l.order q) r = rw (f.1, g.1, v) at k in
    record {
      answer = ap (with_answer l) (h.answer ∙ sym (inside_answer l.order p q i));
      line = ((λ z. absurd (omega (arith, h.known))), (λ z. absurd (z i)));
      inside = λ z. i;
      planned = λ z. h;
      equal = h.equal (pads_length _ _ p i.bottom ∙ sym (pads_length _ _ q i.top));
    }
