use Rattle.std.specs.Prelude.{Ok, Err}
use Rattle.std.proofs.Common.{refl, rules, w32}
use mir.Val.{SFits}
use Rattle.std.proofs.lemmas.Int.{to_z-of_z}
use Rattle.best.proofs.Answers.{best_told}
use Rattle.plan.proofs.Plans.{fit_plan_lem, least_plan_lem, range_plan_lem, best_plan_lem}
use Rattle.plan.proofs.plan.plan.Goals as goal

pub returns-in-Err : goal.returns-in-Err
returns-in-Err c =
    let e = to_z-of_z w32 c.in-Fit.d (search rules) in
    rw (c.in-Fit.is, c.from-in-Err.ensures) (fit_plan_lem _ _ _ _ (Err _) (rw e at c.in-Err.ensures))

pub returns-in-Err-least_at : goal.returns-in-Err-least_at
returns-in-Err-least_at c =
    let e = to_z-of_z w32 c.in-Least.d (search rules) in
    rw (c.in-Least.is, c.from-in-Err-least_at.ensures) (least_plan_lem _ _ _ (Err _) (rw e at c.in-Err-least_at.ensures))

pub returns-in-Err-range_at : goal.returns-in-Err-range_at
returns-in-Err-range_at c = rw (c.in-Range.is, c.from-in-Err-range_at.ensures) (range_plan_lem _ _ _ (Err _) c.in-Err-range_at.ensures)

pub returns-in-Best : goal.returns-in-Best
returns-in-Best c = rw (c.in-Best.is, best_told _ _ c.from-in-Best.ensures) (best_plan_lem _ _ _ _ _ refl c.best_of.ensures)

pub returns-in-Ok-least_at : goal.returns-in-Ok-least_at
returns-in-Ok-least_at c =
    let e = to_z-of_z w32 c.in-Least.d (search rules) in
    rw (c.in-Least.is, c.from-in-Ok-least_at.ensures, e) (least_plan_lem _ _ _ (Ok _) (rw e at c.in-Ok-least_at.ensures))

pub returns-in-Ok-range_at : goal.returns-in-Ok-range_at
returns-in-Ok-range_at c =
    let r = c.in-Ok-range_at.range in
    let low : SFits w32 r.low = search rules in
    let high : SFits w32 r.high = search rules in
    rw (c.in-Range.is, c.from-in-Ok-range_at.ensures, to_z-of_z w32 _ low, to_z-of_z w32 _ high) (range_plan_lem _ _ _ (Ok _) c.in-Ok-range_at.ensures)
