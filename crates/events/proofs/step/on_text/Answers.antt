use Rattle.std.proofs.Common.{◌∙◌, ap, refl}
use Rattle.frame.specs.Frame.{said_of}
use Rattle.events.proofs.Steps.{few_said, read_frame, outside_stepped}
use Rattle.events.proofs.step.on_text.Goals as goal

pub on_inside-requires : goal.on_inside-requires
on_inside-requires c = few_said _ _ c.read_text-said.ensures.said

pub returns-in-Some : goal.returns-in-Some
returns-in-Some c =
    let e = read_frame c.args.text.now _ _ _ refl c.read_text-said.ensures in
    rw (c.in-Some.ensures, e) c.on_inside.ensures

pub returns-in-None : goal.returns-in-None
returns-in-None c =
    let e = read_frame c.args.text.now _ _ _ refl c.read_text-said.ensures in
    rw e (outside_stepped c.args.m _ _ c.in-None.ensures _ c.read_text-said.result _ c.on_outside.ensures (c.read_text-said.ensures.said ∙ ap said_of e))
