use mathlib.Core.Bool.{false≢true}
use borrow.Author.Tests.{eqb-false}
use Rattle.std.proofs.Common.{sym, ◌∙◌, ⊎_elim}
use Rattle.frame.proofs.Frames.{no_length, no_header, no_row}
use Rattle.frame.proofs.read.is_framed.Goals as goal
use Rattle.frame.proofs.read.is_framed.Goals.{then-not-is_carrier-via-then-not-is_carrier, then-not-is_carrier-via-else-not-is_carrier+then-text-ne49}

pub returns-then-text-eq49-clause-bad : goal.returns-then-text-eq49-clause-bad
returns-then-text-eq49-clause-bad c = λ e. no_header _ c.if-text-eq22.true (λ x y. eqb-false _ _ e y)

pub returns-else-text-eq49-clause-bad : goal.returns-else-text-eq49-clause-bad
returns-else-text-eq49-clause-bad c = λ e. no_header _ c.if-text-eq22.true (λ x y. eqb-false _ _ e x)

pub returns-then-not-is_carrier-clause-bad : goal.returns-then-not-is_carrier-clause-bad
returns-then-not-is_carrier-clause-bad c = λ e.
    elim c.then-not-is_carrier.branch [
      | then-not-is_carrier-via-then-not-is_carrier w ↦
          no_length _ c.if-text-eq22.false (λ l. false≢true (sym w.if-not-is_carrier.true ∙ c.is_carrier.ensures.1 l))
      | then-not-is_carrier-via-else-not-is_carrier+then-text-ne49 w ↦
          let l = c.is_carrier.ensures.0 w.if-not-is_carrier.false in no_row _ (l.0, l.1) (λ x y. w.if-text-ne49.true x)
    ]

pub returns-else-text-eq49-2-clause-bad : goal.returns-else-text-eq49-2-clause-bad
returns-else-text-eq49-2-clause-bad c = λ e.
    let l = c.is_carrier.ensures.0 c.if-not-is_carrier.false in
    no_row _ (l.0, l.1) (λ x d. ⊎_elim (λ y. c.if-text-eq49-2.false y) (λ y. eqb-false _ _ e y) d)
