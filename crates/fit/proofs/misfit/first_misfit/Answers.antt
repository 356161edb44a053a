use Rattle.std.proofs.Common.{sym, rules, length, w32}
use mir.Val.{SFits}
use Rattle.std.proofs.lemmas.Int.{to_z-of_z}
use Rattle.wiring.specs.Fit.{lean_of}
use Rattle.wiring.proofs.Rule.{fits_past}
use Rattle.jumper.specs.Range.{Within}
use Rattle.jumper.specs.Span.{range_of}
use Rattle.jumper.proofs.Spans.{range_exactly}
use Rattle.fit.proofs.Misfits.{fits_none}
use Rattle.fit.proofs.misfit.first_misfit.Goals as goal

pub returns-then-q-s : goal.returns-then-q-s
returns-then-q-s c =
    let a = c.args.q.rows.bottom.now in
    let b = c.args.q.rows.top.now in
    let d = c.args.q.offset in
    rw (← c.rule_at-s.ensures) (sym (fits_none a b c.rule_at-s.result d (fits_past (length a) c.rule_at-s.result (lean_of a) (lean_of b) d c.if-q-s.true)))

pub returns-then-contains : goal.returns-then-contains
returns-then-contains c =
    let a = c.args.q.rows.bottom.now in
    let b = c.args.q.rows.top.now in
    let s = c.rule_at-s.result in
    let d = c.args.q.offset in
    let fd : SFits w32 d = search rules in
    let w : Within d (range_of (length a) (lean_of a) (lean_of b) s) = rw (to_z-of_z w32 _ fd, c.range_of.ensures) at (c.contains.ensures.0 c.if-contains.true) in
    rw (← c.rule_at-s.ensures) (sym (fits_none a b s d ((range_exactly (length a) (lean_of a) (lean_of b) s c.if-q-s.false d).0 w)))
