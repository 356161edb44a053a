use Rattle.std.proofs.Common.{rules, w32}
use Rattle.std.proofs.lemmas.Int.{to_z-of_z}
use Rattle.route.proofs.Answers.{question_asked}
use Rattle.route.proofs.Texts.{asked_route}
use Rattle.route.proofs.moves.give_moves.Goals as goal

pub returns-in-Ok : goal.returns-in-Ok
returns-in-Ok c =
    let e = rw (to_z-of_z w32 c.args.d c.ranges.d) at c.in-Ok.ensures.ok in
    asked_route c.args.line c.in-Ok.asked e _ _ _ _ _ _ _ c.give.new.writer.out.now _ (question_asked c.in-Ok.asked e) (search rules) c.give.ensures.wrote
