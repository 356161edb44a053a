use Rattle.events.proofs.Steps.{inside_bad, inside_header, inside_bottom, inside_top}
use Rattle.events.proofs.step.on_inside.Goals as goal

pub returns-in-Some-Header : goal.returns-in-Some-Header
returns-in-Some-Header c =
    let e = rw c.in-Some-Header.is at c.in-Some-Header.field-0-is in
    rw (c.in-Some-Header.is, e) (inside_header c.args.w.line _ c.args.w.held _ _ c.told-a c.told-b _ _ (rw c.head.ensures at c.cut_off.ensures))

pub returns-in-Some-Bottom : goal.returns-in-Some-Bottom
returns-in-Some-Bottom c =
    let e = rw c.in-Some-Bottom.is at c.in-Some-Bottom.field-0-is in
    rw (c.in-Some-Bottom.is, e) (inside_bottom c.args.w.line _ c.args.w.held _ _ c.told-a c.told-b _ _ _ _ c.on_bottom.ensures)

pub returns-in-Some-Top : goal.returns-in-Some-Top
returns-in-Some-Top c =
    let e = rw c.in-Some-Top.is at c.in-Some-Top.field-0-is in
    rw (c.in-Some-Top.is, e) (inside_top c.args.w.line _ c.args.w.held _ _ c.told-a c.told-b _ _ _ _ c.on_top.ensures)

pub returns-in-None : goal.returns-in-None
returns-in-None c = rw c.in-None.is (inside_bad c.args.w.line _ c.args.w.held _ _ _ c.refuse_open.ensures)
