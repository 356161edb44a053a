use Rattle.std.proofs.Common.{rules, arith, ◌≡◌, length}
use Rattle.std.proofs.lemmas.List.{places}
use Rattle.route.proofs.Wires.{wire_stands}
use Rattle.route.proofs.drawing.draw_columns.Goals as goal

pub returns : goal.returns
returns c =
    let q = c.args.q in
    let all : length c.draw_entries.new.out ≡ q.separation = search (rules, places) in
    wire_stands q.rows.bottom.now q.rows.top.now q.separation q.offset c.args.i c.args.out.now _ _ _ c.requires.1
    all (omega arith) (search rules)
    (λ t l. let h = c.draw_entries.ensures t (omega arith) in cc)
