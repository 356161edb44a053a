use Rattle.std.proofs.Common.{arith}
use Rattle.jumper.proofs.Checks.{passed_on}
use Rattle.best.proofs.Levels.{few_levels}
use Rattle.best.proofs.Answers.{let_through, rows_refused, buffer_short, found, ladder_rungs}
use Rattle.best.proofs.plan.best_of.Goals as goal

pub returns-in_err-rows : goal.returns-in_err-rows
returns-in_err-rows c =
    let a = c.args in
    rw (passed_on _ c.from_residual.ensures.1) (rows_refused a.a.now a.b.now a.ladder.now _ c.in_err-rows.ensures.err)

pub overflow_mul-count_levels : goal.overflow_mul-count_levels
overflow_mul-count_levels c =
    let r = let_through c.in_ok-rows.rows c.in_ok-rows.ensures.ok in
    omega (arith, few_levels _ r.some)

pub returns-then-ladder-count_levels : goal.returns-then-ladder-count_levels
returns-then-ladder-count_levels c =
    let a = c.args in
    let r = let_through c.in_ok-rows.rows c.in_ok-rows.ensures.ok in
    buffer_short a.a.now a.b.now a.ladder.now r (omega (arith, ladder_rungs a.a.now a.b.now a.ladder.now r))

pub returns : goal.returns
returns c =
    let a = c.args in
    let e = c.in_ok-rows.ensures.ok in
    let r = let_through c.in_ok-rows.rows e in
    found a.a.now a.b.now a.ladder.now r (omega (arith, ladder_rungs a.a.now a.b.now a.ladder.now r)) _ c.halve.result (rw (e.0, e.1) at c.halve.ensures)
