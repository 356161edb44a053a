use Rattle.std.proofs.Common.{ap, ◌∙◌, ◌+◌, ◌≢◌, to_z, of_z, w32}
use Rattle.std.proofs.lemmas.Int.{to_z-of_z}
use Rattle.fit.specs.Offsets.{gap}
use Rattle.fit.proofs.Spans.{none_before, one_left}
use Rattle.fit.proofs.offsets.first_with.Goals as goal

pub loop-k-preserved : goal.loop-k-preserved
loop-k-preserved c =
    let a = c.args.rows.bottom.now in
    let b = c.args.rows.top.now in
    let k = c.loop-k.k in
    let there : gap a b (k + c.args.i) (k + c.args.j) ≢ to_z w32 (of_z w32 c.args.wanted) =
    λ e. c.loop-k-test.true (ap (of_z w32) (c.gap.ensures ∙ e ∙ to_z-of_z w32 c.args.wanted c.ranges.wanted)) in
    record {
      before = none_before (λ p. gap a b (p + c.args.i) (p + c.args.j)) _ k c.loop-k.invariant.before there;
      left = one_left c.loop-k.invariant.left there;
    }
