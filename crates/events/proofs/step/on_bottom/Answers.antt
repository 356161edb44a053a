use Rattle.events.proofs.Steps.{held, bottom_in, bottom_out}
use Rattle.events.proofs.step.on_bottom.Goals as goal

pub fill-requires : goal.fill-requires
fill-requires c = let h = held _ c.args.w.held in (h.bottom, h.few)

pub returns-in-Some : goal.returns-in-Some
returns-in-Some c = λ b tall. bottom_in c.args.w.line (held _ c.args.w.held) _ _ _ _ _ _ c.told-a b tall _ c.in-Some.ensures c.go.ensures

pub returns-in-None : goal.returns-in-None
returns-in-None c = λ b tall. bottom_out c.args.w.line (held _ c.args.w.held) _ _ _ _ _ _ c.told-a b tall c.in-None.ensures c.refuse_open.ensures
