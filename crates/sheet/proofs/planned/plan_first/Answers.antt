use Rattle.std.proofs.Common.{take, w32, ap, ◌∙◌, rules}
use Rattle.std.proofs.lemmas.Int.{to_z-of_z}
use Rattle.plan.specs.Plan.{plan_of}
use Rattle.plan.specs.declared.wish.Wish.{Wish}
use Rattle.sheet.specs.Planned.{planned}
use Rattle.sheet.proofs.planned.plan_first.Goals as goal

pub returns : goal.returns
unfolding planned
returns c =
    let e = to_z-of_z w32 c.args.o.offset (search rules) in
    record {
      is = c.plan.ensures.answer ∙ ap (λ (w : Wish). plan_of w (take c.args.o.pairs c.args.a.now) (take c.args.o.pairs c.args.b.now)) (rw e at c.wish_of.ensures);
      asked = λ h. (c.plan.ensures.drawable h).0;
    }
