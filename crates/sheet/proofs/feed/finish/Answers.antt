use Rattle.std.proofs.Common.{sym, ◌∙◌}
use Rattle.sheet.proofs.Steps.{ends_fed, ends_cut}
use Rattle.sheet.proofs.feed.finish.Goals as goal
use Rattle.sheet.proofs.feed.finish.Goals.{then-s-eq0, else-s-eq0}

pub returns : goal.returns
returns c = λ a b.
    elim c.if-s-eq0.branch [
      | then-s-eq0 w ↦ ends_fed c.args.s c.args.line.now a b c.told-line (sym c.busy.ensures.answer ∙ c.if-busy.false) _ _ c.take_step.ensures w.if-s-eq0.true (rw w.t-is (w.on_end-t.ensures.told a b))
      | else-s-eq0 w ↦ ends_cut c.args.s c.args.line.now a b c.told-line (sym c.busy.ensures.answer ∙ c.if-busy.false) _ _ c.take_step.ensures w.if-s-eq0.false (rw w.t-is (w.on_rest-t.ensures a b))
    ]
