use Rattle.std.proofs.Common.{arith, ap, sym, ◌∙◌, ◌++◌, ℕ, List, length, take}
use Rattle.route.proofs.Texts.{route_more, route_stop, route_end}
use Rattle.route.proofs.moves.Moves.give.Goals as goal

pub returns-in-Some-clause-wrote : goal.returns-in-Some-clause-wrote
returns-in-Some-clause-wrote c =
    let q = c.args.self.asked in
    let loop = c.loop-i in
    let w = c.in-Some.ensures.wrote in
    record {
      gave =
          loop.invariant.2
          ∙ route_stop c.args.self.line q.separation q.offset q.rows.bottom.now q.rows.top.now loop.i loop.next c.in-Some.track
          loop.writer.out.now c.give_wire.new.writer.out.now loop.writer.at c.give_wire.new.writer.at c.loop-i-test.true w.gave;
      fits = λ h. let y = loop.invariant.3 h in let z = w.fits (omega (arith, y, loop.invariant.1)) in omega (arith, z, loop.invariant.1);
      far = λ h. let z = w.far (λ e. absurd (cc)) in omega (arith, z, loop.invariant.1);
    }

pub loop-i-preserved : goal.loop-i-preserved
loop-i-preserved c =
    let q = c.args.self.asked in
    let loop = c.loop-i in
    let w = c.in_default.ensures.wrote in
    let same = c.give_wire.ensures.same in (
      same.0 ∙ loop.invariant.0,
      same.1 ∙ loop.invariant.1,
      loop.invariant.2
          ∙ route_more c.args.self.line q.separation q.offset q.rows.bottom.now q.rows.top.now loop.i loop.next
          loop.writer.out.now c.give_wire.new.writer.out.now loop.writer.at c.give_wire.new.writer.at c.loop-i-test.true w.gave,
      λ h. let y = loop.invariant.3 h in let z = w.fits (omega (arith, y, loop.invariant.1)) in omega (arith, z, loop.invariant.1),
    )

pub returns-clause-wrote : goal.returns-clause-wrote
returns-clause-wrote c =
    let q = c.args.self.asked in
    let loop = c.loop-i in
    let none = route_end c.args.self.line q.separation q.offset q.rows.bottom.now q.rows.top.now loop.i loop.next c.loop-i-test.false in
    let past = route_end c.args.self.line q.separation q.offset q.rows.bottom.now q.rows.top.now (length q.rows.bottom.now) 0 (omega arith) in
    record {
      gave = loop.invariant.2 ∙ ap (λ (z : List ℕ). take loop.writer.at loop.writer.out.now ++ z) (none ∙ sym past);
      fits = loop.invariant.3;
      far = λ h. absurd (omega arith);
    }
