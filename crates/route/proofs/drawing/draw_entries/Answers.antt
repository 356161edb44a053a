use Rattle.std.proofs.Common.{rules, sym, length, ◌∙◌, FitsSigned, w32}
use Rattle.std.proofs.lemmas.Int.{to_z-of_z}
use Rattle.wiring.specs.Wiring.{pad}
use Rattle.route.proofs.Wires.{left_drawn, right_drawn}
use Rattle.route.proofs.drawing.draw_entries.Goals as goal

pub returns-then-goes_left : goal.returns-then-goes_left
returns-then-goes_left c =
    let w = c.args.wire in
    left_drawn (length w.row.now) (pad w.row.now) w.end w.pad (pad c.draw_held.new.out) (length c.args.out.now)
    (sym c.goes_left.ensures ∙ c.if-goes_left.true)
    (λ t l m. search (rules, c.draw_held.ensures.held t l m))
    (let f : FitsSigned w32 w.end = search rules in simp to_z-of_z at c.draw_held.ensures.free)

pub returns-else-goes_left : goal.returns-else-goes_left
returns-else-goes_left c =
    let w = c.args.wire in
    let drawn = c.draw_held-else-goes_left in
    right_drawn (length w.row.now) (pad w.row.now) w.end w.pad (pad drawn.new.out) (length c.args.out.now) w.inside
    (sym c.goes_left.ensures ∙ c.if-goes_left.false)
    (λ t l m. search (rules, drawn.ensures.held t l m))
    (let f : FitsSigned w32 w.end = search rules in simp to_z-of_z at drawn.ensures.free)
