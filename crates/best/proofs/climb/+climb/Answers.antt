use Rattle.std.proofs.Common.{arith}
use Rattle.best.specs.Work.{x_of, y_of}
use Rattle.best.proofs.Levels.{some_levels, more_levels}
use Rattle.best.proofs.Climbs.{one_halved, more_halved, over_next, by_evens}
use Rattle.best.proofs.climb.+climb.Goals as goal
use Rattle.best.proofs.climb.+climb.Goals.{then-entries-gt1, else-entries-gt1}

pub unwrap-requires : goal.unwrap-requires
unwrap-requires t c = c.split_first_chunk_mut.ensures.variant.1 (omega (arith, c.requires, some_levels _ c.args.entries.now.strided.some))

pub climb-requires : goal.climb-requires
climb-requires t c =
    let m = more_levels _ c.if-entries-gt1.true in
    let s = rw c.unwrap.ensures at c.split_first_chunk_mut.ensures.cases in (
      omega (arith, c.decreases, c.if-entries-gt1.true, c.even_half.ensures.len),
      rw c.even_half.ensures.len (omega (arith, c.requires, m, s.2)),
    )

pub over-level-requires-clause-within : goal.over-level-requires-clause-within
over-level-requires-clause-within t c = omega (arith, c.even_half.ensures.len, (over_next c.even_half.result c.climb.ensures).0)

pub over-level-requires-clause-cheap : goal.over-level-requires-clause-cheap
over-level-requires-clause-cheap t c = omega (arith, c.even_half.result.strided.few, (over_next c.even_half.result c.climb.ensures).1)

pub returns : goal.returns
returns t c =
    let e = c.args.entries.now in
    let l = c.args.ladder.now in
    let s = rw c.unwrap.ensures at c.split_first_chunk_mut.ensures.cases in
    elim c.if-entries-gt1.branch [
      | then-entries-gt1 w ↦
          let q = w.even_half.ensures in
          rw (w.below-is, w.level-is)
          (more_halved {l = l} w.if-entries-gt1.true (by_evens e w.even_half.result (q.of, q.step, q.len) (rw s.1 at w.climb.ensures)) w.over-level.ensures)
      | else-entries-gt1 w ↦ rw (w.below-is, w.level-is, s.1) (one_halved e.len (x_of e) (y_of e) l (omega (arith, w.if-entries-gt1.false, e.strided.some)))
    ]
