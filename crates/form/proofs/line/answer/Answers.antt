use Rattle.std.proofs.Common.{rules, w32}
use Rattle.std.proofs.lemmas.Int.{to_z-of_z}
use Rattle.form.proofs.Lines.{line_planned}
use Rattle.form.proofs.line.answer.Goals as goal

pub returns : goal.returns
returns c =
    let e = to_z-of_z w32 c.args.line.order.offset (search rules) in
    let found = c.in-Some-Some in
    line_planned _ _ _ _ _ _ _ found.ensures found.ensures' (rw e at c.wish_of.ensures) c.plan.ensures
