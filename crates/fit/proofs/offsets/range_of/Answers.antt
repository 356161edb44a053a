use Rattle.std.proofs.Common.{rules, arith, w32, pos, ◌+ℤ◌, ◌-ℤ◌}
use mir.Val.{SFits}
use Rattle.std.proofs.lemmas.Int.{to_z-of_z, to_z_pos}
use Rattle.whole.proofs.Machine.{back}
use Rattle.fit.specs.Offsets.{gaps_of}
use Rattle.fit.proofs.Ends.{fit_low_gap, fit_high_gap}
use Rattle.fit.proofs.Spans.{low_of_gaps, high_of_gaps}
use Rattle.fit.proofs.offsets.range_of.Goals as goal

pub overflow_sub-result : goal.overflow_sub-result
overflow_sub-result c =
    let s = c.args.s in
    let r = c.args.rows.accepted in
    let f : SFits w32 c.gaps_of-g.result.high = search rules in
    rw (to_z-of_z w32 _ f, to_z_pos w32 s (omega (arith, r.few, c.requires)), c.gaps_of-g.ensures) (record { sfits = fit_high_gap r s c.requires })

pub returns : goal.returns
returns c =
    let s = c.args.s in
    let a = c.args.rows.bottom.now in
    let b = c.args.rows.top.now in
    let r = c.args.rows.accepted in
    let fl : SFits w32 c.gaps_of-g.result.low = search rules in
    let fh : SFits w32 c.gaps_of-g.result.high = search rules in
    rw (to_z-of_z w32 _ fl, to_z-of_z w32 _ fh, to_z_pos w32 s (omega (arith, r.few, c.requires)), c.gaps_of-g.ensures, back ((gaps_of a b s).low +ℤ pos s) (fit_low_gap r s c.requires), back ((gaps_of a b s).high -ℤ pos s) (fit_high_gap r s c.requires), low_of_gaps a b s, high_of_gaps a b s)
