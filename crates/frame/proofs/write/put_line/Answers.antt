use Rattle.std.proofs.Common.{refl, arith}
use Rattle.std.proofs.lemmas.Grind.{common_steps}
use Rattle.std.proofs.lemmas.List.{take_all}
use Rattle.frame.proofs.Puts.{line_start, line_more, line_end, is_last, not_put}
use Rattle.frame.proofs.write.put_line.Goals as goal

pub returns-then-saturating_sub-n : goal.returns-then-saturating_sub-n
returns-then-saturating_sub-n c = not_put _ _ _ (omega arith)

pub loop-i-init : goal.loop-i-init
loop-i-init c = (line_start _ c.args.bytes.now _, refl)

pub loop-i-preserved : goal.loop-i-preserved
loop-i-preserved c = (line_more _ _ _ _ _ _ c.loop-i-test.true c.loop-i.invariant.0 c.put_byte.ensures, grind (arith, common_steps))

pub returns : goal.returns
returns c =
    let all = take_all c.loop-i.i c.args.bytes.now c.loop-i-test.false in
    line_end _ _ _ _ _ _ _ refl (omega arith)
    (rw all at c.loop-i.invariant.0)
    (is_last _ _ _ (rw all at c.loop-i.invariant.1) c.wrapping_neg.ensures c.wrapping_neg.type_inv)
    c.put_byte-2.ensures
