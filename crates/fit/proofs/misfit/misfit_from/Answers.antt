use Rattle.std.proofs.Common.{sym, ◌∙◌, arith}
use Rattle.fit.proofs.Misfits.{broken_here}
use Rattle.fit.proofs.misfit.misfit_from.Goals as goal

pub returns-in-Some : goal.returns-in-Some
returns-in-Some c = sym (c.loop-i.invariant ∙ broken_here _ _ _ _ _ c.loop-i.i (omega arith) c.in-Some.side (sym c.side_broken.ensures ∙ c.in-Some.is))
