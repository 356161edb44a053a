use Rattle.std.proofs.Common.{rules, arith, sym, ap, ◌∙◌, ◌++◌, ◌-◌, ℕ, List, length, take, refl, FitsSigned, w32, to_z}
use Rattle.std.proofs.lemmas.Int.{to_z-of_z}
use Rattle.wiring.specs.Wiring.{pad, top_pad}
use Rattle.wiring.specs.Drawing.{drawn}
use Rattle.route.specs.Moves.{wire_text}
use Rattle.route.proofs.Texts.{wire_step, wire_stays, wire_none}
use Rattle.route.proofs.moves.Moves.give_wire.Goals as goal

pub returns-then-from-wire-clause-wrote : goal.returns-then-from-wire-clause-wrote
returns-then-from-wire-clause-wrote c =
    let loop = c.loop-t in
    let q = c.args.self.asked in
    let w = c.of-wire in
    let f : FitsSigned w32 w.result.end = search rules in
    let there = sym loop.invariant.2 ∙ ap (to_z w32) c.if-from-wire.true ∙ to_z-of_z w32 w.result.end f ∙ w.ensures.2 in
    let stays =
    wire_stays c.args.self.line q.separation (length q.rows.bottom.now) (pad q.rows.bottom.now) (top_pad q.rows.top.now q.offset)
    q.rows.accepted.bottom.rising c.args.i loop.t c.requires there
    in
    record {
      gave = loop.invariant.3 ∙ ap (λ (z : List ℕ). take loop.writer.at loop.writer.out.now ++ z) stays;
      fits = loop.invariant.4;
      far = λ h. absurd (h refl);
    }

pub loop-t-preserved : goal.loop-t-preserved
loop-t-preserved c =
    let loop = c.loop-t in
    let q = c.args.self.asked in
    let e = drawn (length q.rows.bottom.now) (pad q.rows.bottom.now) (top_pad q.rows.top.now q.offset) in
    let W : List ℕ = take c.args.writer.now.at c.args.writer.now.out.now ++ wire_text c.args.self.line e c.args.i c.args.track (q.separation - c.args.track) in
    let w = c.of-wire.ensures in
    let put = c.put in
    let f : FitsSigned w32 c.column-to.result = search rules in
    let to = to_z-of_z w32 _ f ∙ (rw (w.0, w.1, w.2) at c.column-to.ensures) in (
      put.ensures.same.0 ∙ loop.invariant.0,
      put.ensures.same.1 ∙ loop.invariant.1,
      to,
      wire_step c.args.self.line q.separation e c.args.i W loop.writer.out.now put.new.self.out.now loop.t loop.writer.at put.new.self.at _ _ c.loop-t-test.true
          loop.invariant.2 to loop.invariant.3 (put.ensures.wrote.wrote c.if-not-put.false),
      λ h. let y = loop.invariant.4 h in let z = put.ensures.wrote.fits (omega (arith, y, loop.invariant.1)) in omega (arith, z, loop.invariant.1),
    )

pub returns-clause-wrote : goal.returns-clause-wrote
returns-clause-wrote c =
    let loop = c.loop-t in
    let q = c.args.self.asked in
    let none = wire_none c.args.self.line q.separation (drawn (length q.rows.bottom.now) (pad q.rows.bottom.now) (top_pad q.rows.top.now q.offset)) c.args.i loop.t c.loop-t-test.false in
    record {
      gave = loop.invariant.3 ∙ ap (λ (z : List ℕ). take loop.writer.at loop.writer.out.now ++ z) none;
      fits = loop.invariant.4;
      far = λ h. absurd (h refl);
    }

pub returns-then-not-put-clause-wrote : goal.returns-then-not-put-clause-wrote
returns-then-not-put-clause-wrote c =
    let loop = c.loop-t in
    let f = c.put.ensures.wrote.full c.if-not-put.true in
    record {
      gave = rw (f.0, f.1) loop.invariant.3;
      fits = rw f.0 loop.invariant.4;
      far = λ h. omega (arith, f.0, f.2, loop.invariant.1);
    }
