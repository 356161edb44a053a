use Rattle.std.proofs.Common.{sym, ◌∙◌, w32}
use Rattle.std.proofs.lemmas.Int.{to_z-of_z}
use Rattle.fit.proofs.Misfits.{at_broken, broken_inside}
use Rattle.fit.proofs.Stretches.{placed}
use Rattle.fit.proofs.stretch.stretch_place.Goals as goal

pub narrower-requires : goal.narrower-requires
narrower-requires c =
    let q = c.in-Ok.q in
    let e = rw (to_z-of_z w32 c.args.d c.ranges.d) at c.in-Ok.ensures.ok in
    rw (c.rule_at.ensures, ← e.2) (broken_inside (at_broken q.rows.bottom.now q.rows.top.now _ q.offset c.in-Some.m (sym c.first_misfit.ensures ∙ c.in-Some.is)))

pub returns-in-Some : goal.returns-in-Some
returns-in-Some c =
    let e = rw (to_z-of_z w32 c.args.d c.ranges.d) at c.in-Ok.ensures.ok in
    placed c.in-Ok.q e c.in-Some.m (sym c.in-Some.is ∙ c.first_misfit.ensures) _ (rw c.rule_at.ensures at c.narrower.ensures)
