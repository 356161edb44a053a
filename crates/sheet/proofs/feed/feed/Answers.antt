use Rattle.std.proofs.Common.{rules, sym, ◌∙◌, arith, ◌++◌, drop}
use Rattle.sheet.specs.Owes.{Given}
use Rattle.sheet.proofs.Gives.{given_idle}
use Rattle.sheet.proofs.Feeds.{gave_on, part, fed_more}
use Rattle.sheet.proofs.feed.feed.Goals as goal
use Rattle.sheet.proofs.feed.feed.Goals.{then-busy+else-busy-2, else-busy}

pub loop-used-preserved : goal.loop-used-preserved
loop-used-preserved c =
    let inv = c.loop-used.invariant in
    let given : Given c.loop-used.s c.loop-used.a c.loop-used.b c.loop-used.out c.loop-used.n c.if-busy.s c.if-busy.n c.if-busy.out =
    elim c.if-busy.branch [
      | then-busy+else-busy-2 w ↦ rw (w.out-is, w.s-is, w.n-is) w.give-g.ensures
      | else-busy w ↦ rw (w.out-is, w.s-is, w.n-is) (given_idle (sym c.busy.ensures.answer ∙ w.if-busy.false))
    ] in
    record {
      within = search rules;
      room = search rules;
      owed = fed_more _ _ (part c.args.piece.now _ inv.within) inv.owed given c.take_line-used.ensures;
      fits = λ h. omega (arith, inv.fits h, given.fits);
    }

pub returns-then-busy-2 : goal.returns-then-busy-2
returns-then-busy-2 c =
    let inv = c.loop-used.invariant in
    record {
      owed = (λ rest. inv.owed rest ∙ gave_on _ _ _ _ _ _ _ _ _ c.give-g.ensures (drop c.loop-used.used c.args.piece.now ++ rest));
      within = inv.within;
      fits = (λ h. omega (arith, inv.fits h, c.give-g.ensures.fits));
      far = λ h. omega (arith, c.give-g.ensures.far (sym c.busy-then-busy.ensures.answer ∙ c.if-busy-2.true));
    }
