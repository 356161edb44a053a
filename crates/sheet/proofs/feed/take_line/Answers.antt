use Rattle.std.proofs.Common.{arith, length, drop_of_length-le}
use Rattle.sheet.proofs.Lines.{none, below, stands, goes_on}
use Rattle.sheet.proofs.Steps.{kept_owes, fed_owes}
use Rattle.sheet.proofs.feed.take_line.Goals as goal
use Rattle.sheet.proofs.feed.take_line.Goals.{then-s-eq0, else-s-eq0}

pub returns-in_default : goal.returns-in_default
returns-in_default c =
    record {
      owed = simp (drop_of_length-le c.args.piece.now {i = length c.args.piece.now} (omega arith)) (kept_owes c.args.s.now _ _ _ _ _ _ c.keep-s.ensures (none _ c.in_default.ensures));
      within = omega arith;
      some = c.requires.1;
    }

pub returns : goal.returns
returns c =
    let at = below _ _ c.in-Some.ensures in
    elim c.if-s-eq0.branch [
      | then-s-eq0 w ↦
          let text = rw w.kept-is at c.text_of.ensures in
          rw w.line-is
          (record {
            owed = fed_owes c.args.s.now _ _ _ _ _ _ c.requires.0 (rw text (stands _ _ c.in-Some.ensures _ _ w.if-s-eq0.true)) _ _ _ _ c.take_text.ensures;
            within = omega arith;
            some = omega arith;
          })
      | else-s-eq0 w ↦
          let text = rw (w.kept-is, w.line-is) at c.text_of.ensures in
          rw w.line-is
          (record {
            owed = fed_owes c.args.s.now _ _ _ _ _ _ c.requires.0 (rw text (goes_on _ _ c.in-Some.ensures _ _ _ _ w.keep.ensures)) _ _ _ _ c.take_text.ensures;
            within = omega arith;
            some = omega arith;
          })
    ]
