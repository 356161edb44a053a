use Rattle.std.proofs.Common.{◌≡◌, ◌+◌, ◌-◌, sym, ◌∙◌, rules, arith, zero-add, w32}
use mir.Val.{SFits}
use Rattle.std.proofs.lemmas.Int.{to_z-of_z}
use Rattle.whole.proofs.Order.{larger_is, smaller_is}
use Rattle.whole.proofs.Extremes.{largest_first, smallest_first, largest_more, smallest_more}
use Rattle.fit.specs.Offsets.{low_gap, high_gap}
use Rattle.fit.proofs.offsets.gaps_of.Goals as goal

pub loop-i-init : goal.loop-i-init
loop-i-init c =
    let x = c.args.rows.bottom.now in
    let y = c.args.rows.top.now in
    let s = c.args.s in
    let fl : SFits w32 c.gap-low.result = search rules in
    let fh : SFits w32 c.gap-high.result = search rules in (
      to_z-of_z w32 _ fl ∙ c.gap-low.ensures ∙ sym (rw zero-add at (largest_first (low_gap x y s))),
      to_z-of_z w32 _ fh ∙ c.gap-high.ensures ∙ sym (rw zero-add at (smallest_first (high_gap x y s))),
    )

pub loop-i-preserved : goal.loop-i-preserved
loop-i-preserved c =
    let x = c.args.rows.bottom.now in
    let y = c.args.rows.top.now in
    let s = c.args.s in
    let i = c.loop-i.i in
    let on : i - 1 + 1 ≡ i = omega arith in
    let off : i + 1 - 1 ≡ i = omega arith in
    let fl : SFits w32 c.gap.result = search rules in
    let fh : SFits w32 c.gap-in-loop-i.result = search rules in
    let fp : SFits w32 c.max-low.result = search rules in
    let fq : SFits w32 c.min-high.result = search rules in (
      to_z-of_z w32 _ fp ∙ rw (to_z-of_z w32 _ fl, c.gap.ensures, c.loop-i.invariant.0, larger_is) at c.max-low.ensures.value ∙ rw on at (largest_more (low_gap x y s) (i - 1)) ∙ rw off,
      to_z-of_z w32 _ fq ∙ rw (to_z-of_z w32 _ fh, c.gap-in-loop-i.ensures, c.loop-i.invariant.1, smaller_is) at c.min-high.ensures.value ∙ rw on at (smallest_more (high_gap x y s) (i - 1)) ∙ rw off,
    )
