use Rattle.std.proofs.Common.{sym, ap, ◌∙◌, arith}
use Rattle.best.specs.Work.{x_of, y_of}
use Rattle.best.proofs.Choices.{none_tried, one_tried, one_open}
use Rattle.best.proofs.level.Level.over.Goals as goal

pub loop-s-init : goal.loop-s-init
loop-s-init c =
    let e = c.args.entries.now in
    record { tried = rw c.saturating_sub-s.ensures (none_tried e.len (x_of e) (y_of e) c.args.self.best c.args.self.count); few = omega arith }

pub returns-then-not-is_empty : goal.returns-then-not-is_empty
returns-then-not-is_empty c =
    let tried = c.try_at-read.ensures in
    one_open c.loop-s.invariant.tried (ap (λ t. t.0) tried) (omega (arith, ap (λ t. t.1) tried)) (sym c.is_empty.ensures.answer ∙ c.if-not-is_empty.true)
    (omega arith)

pub loop-s-preserved : goal.loop-s-preserved
loop-s-preserved c =
    let t = c.loop-s.invariant.tried in
    let tried = c.try_at-read.ensures in
    let read = ap (λ t. t.1) tried in
    record {
      tried = one_tried t (ap (λ t. t.0) tried) (omega (arith, read)) (sym c.is_empty.ensures.answer ∙ c.if-not-is_empty.false);
      few = omega (arith, c.args.entries.now.strided.few, t.from, read);
    }
