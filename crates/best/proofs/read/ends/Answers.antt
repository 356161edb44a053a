use Rattle.std.proofs.Common.{◌≡◌, ◌∙◌, ◌*◌, refl, arith}
use native.Mathlib.Nat.{zero-add}
use Rattle.whole.proofs.Machine.{back}
use Rattle.best.specs.Work.{low_read, high_read}
use Rattle.best.proofs.Ends.{larger_step, smaller_step, low_first, high_first}
use Rattle.best.proofs.read.ends.Goals as goal

pub loop-i-init : goal.loop-i-init
loop-i-init c =
    let a = c.args in
    record {
      low = back _ c.difference-low.type_inv ∙ c.difference-low.ensures ∙ low_first a.rows.now.bottom.now a.rows.now.top.now a.step a.gap;
      high = back _ c.difference-high.type_inv ∙ c.difference-high.ensures ∙ high_first a.rows.now.bottom.now a.rows.now.top.now a.step a.gap;
      read = refl;
    }

pub loop-i-preserved : goal.loop-i-preserved
loop-i-preserved c =
    let a = c.args in
    let lows = low_read a.rows.now.bottom.now a.rows.now.top.now 0 a.step a.gap in
    let highs = high_read a.rows.now.bottom.now a.rows.now.top.now 0 a.step a.gap in
    let k = zero-add (a.step * c.loop-i.i) in
    let l = rw (back _ c.difference.type_inv) at c.max-low.ensures.value in
    let h = rw (back _ c.difference-in-loop-i.type_inv) at c.min-high.ensures.value in
    record {
      low = back _ c.max-low.type_inv ∙ larger_step lows c.loop-i.i _ _ _ c.loop-i.auto.i c.loop-i.invariant.low (rw k c.difference.ensures) l;
      high = back _ c.min-high.type_inv ∙ smaller_step highs c.loop-i.i _ _ _ c.loop-i.auto.i c.loop-i.invariant.high (rw k c.difference-in-loop-i.ensures) h;
      read = omega (arith, c.loop-i.invariant.read);
    }

pub returns : goal.returns
returns c = let e : c.loop-i.i ≡ c.args.count = omega arith in rw (c.loop-i.invariant.low, c.loop-i.invariant.high, c.loop-i.invariant.read, e)
