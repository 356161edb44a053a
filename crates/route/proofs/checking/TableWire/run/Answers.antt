use Rattle.std.proofs.Common.{rules, arith, ◌∙◌, ◌+◌, add-one, FitsSigned, w32}
use Rattle.std.proofs.lemmas.Int.{to_z-of_z}
use Rattle.whole.proofs.Order.{smaller_is, larger_is}
use Rattle.wiring.specs.Wiring.{pad}
use Rattle.route.proofs.checking.TableWire.run.Goals as goal

pub returns : goal.returns
returns c =
    let t = c.args.t in
    let w = c.columns-columns in
    let e0 = w.ensures.columns t (omega arith) in
    let e1 = w.ensures.columns (t + 1) (omega arith) in
    let f0 : FitsSigned w32 (pad w.result.now t) = search rules in
    let f1 : FitsSigned w32 (pad w.result.now (t + 1)) = search rules in
    let f2 : FitsSigned w32 c.min.result = search rules in
    let f3 : FitsSigned w32 c.max.result = search rules in (
      to_z-of_z w32 _ f2 ∙ (rw (to_z-of_z w32 _ f0, to_z-of_z w32 _ f1, e0, e1, smaller_is, add-one) at c.min.ensures.value),
      to_z-of_z w32 _ f3 ∙ (rw (to_z-of_z w32 _ f0, to_z-of_z w32 _ f1, e0, e1, larger_is, add-one) at c.max.ensures.value),
    )
