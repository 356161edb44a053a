use Rattle.std.proofs.Common.{ap}
use Rattle.best.proofs.Plans.{best_inside, planned}
use Rattle.best.proofs.plan.halve.Goals as goal

pub kept_or_read-requires-clause-inside : goal.kept_or_read-requires-clause-inside
kept_or_read-requires-clause-inside c = best_inside c.whole-entries.result _ _ _ c.climb-level.ensures

pub returns : goal.returns
returns c =
    let e = c.whole-entries in
    planned e.result _ _ _ c.climb-level.ensures c.args.rows.now c.kept_or_read.result _ (ap (λ r. r.now) e.ensures.of) e.ensures.step e.ensures.len
    c.kept_or_read.ensures c.tracks_for.ensures
