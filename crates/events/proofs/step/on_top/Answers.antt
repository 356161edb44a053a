use Rattle.std.proofs.Common.{refl, arith}
use Rattle.events.proofs.Steps.{held, top_full, top_in, top_out, top_early}
use Rattle.events.proofs.step.on_top.Goals as goal

pub returns-then-w-order : goal.returns-then-w-order
returns-then-w-order c = λ a tall. top_early c.args.w.line (held _ c.args.w.held) _ _ _ _ _ _ c.told-b a tall c.if-w-order.true c.refuse_open.ensures refl

pub fill-requires : goal.fill-requires
fill-requires c = let h = held _ c.args.w.held in (h.top, h.few)

pub returns-in-Some : goal.returns-in-Some
returns-in-Some c =
    λ a tall. top_full c.args.w.line (held _ c.args.w.held) _ _ _ _ _ _ c.told-b a tall c.if-w-order.false _ c.in-Some.ensures (omega arith) c.go.ensures

pub returns-in-Some-2 : goal.returns-in-Some-2
returns-in-Some-2 c =
    λ a tall. top_in c.args.w.line (held _ c.args.w.held) _ _ _ _ _ _ c.told-b a tall c.if-w-order.false _ c.in-Some.ensures
    (λ q. omega arith) c.go-in-Some-2.ensures

pub returns-in-None : goal.returns-in-None
returns-in-None c =
    λ a tall. top_out c.args.w.line (held _ c.args.w.held) _ _ _ _ _ _ c.told-b a tall c.if-w-order.false c.in-None.ensures c.refuse_open-in-None.ensures
