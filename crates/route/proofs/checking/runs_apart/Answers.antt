use Rattle.std.proofs.Common.{rules, arith, ◌+◌, FitsSigned, w32}
use Rattle.std.proofs.lemmas.Int.{to_z-of_z}
use Rattle.wiring.specs.Wiring.{pad}
use Rattle.route.proofs.Quick.{runs_more}
use Rattle.route.proofs.checking.runs_apart.Goals as goal

pub loop-t-preserved : goal.loop-t-preserved
loop-t-preserved c =
    let p = pad c.args.p.now in
    let q = pad c.args.q.now in
    let t = c.loop-t.t in
    let f0 : FitsSigned w32 (p t) = search rules in
    let f1 : FitsSigned w32 (p (t + 1)) = search rules in
    let g0 : FitsSigned w32 (q t) = search rules in
    let g1 : FitsSigned w32 (q (t + 1)) = search rules in
    (omega (arith, c.touch-count.ensures.0), runs_more p q t c.loop-t.count c.touch-count.result c.loop-t.invariant.1 (simp to_z-of_z at c.touch-count.ensures.1))
