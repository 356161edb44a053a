use Rattle.std.proofs.Common.{w32}
use Rattle.std.proofs.lemmas.Int.{to_z-of_z}
use Rattle.route.proofs.Answers.{question_asked}
use Rattle.route.proofs.drawing.asked.Goals as goal

pub returns-in-Ok-clause-ok : goal.returns-in-Ok-clause-ok
returns-in-Ok-clause-ok c =
    let e = to_z-of_z w32 c.args.d c.ranges.d in
    let same = rw e at c.accepted.ensures in
    record { same = same; accepted = question_asked c.accepted.result same; fits = rw e at c.fit-fits.ensures }
