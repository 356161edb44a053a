use Rattle.std.proofs.Common.{◌≤◌, ◌+◌, length, arith, ◌∙◌, sym, le-leb, eq-eqb}
use Rattle.events.specs.Events.{is_next}
use Rattle.events.proofs.Steps.{stored}
use Rattle.events.proofs.step.fill.Goals as goal

pub returns : goal.returns
unfolding is_next
returns c =
    let fits : c.args.have + length c.args.columns.now ≤ c.args.order.pairs = omega arith in
    let e = eq-eqb _ _ c.if-line-order.false in
    let f = le-leb _ _ fits in
    record {
      count = simp (e, f);
      put = rw c.copy_from_slice.ensures.after (stored c.args.row.now c.args.columns.now c.args.have (omega arith) ∙ sym (simp (e, f)));
    }
