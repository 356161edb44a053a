use Rattle.std.proofs.Common.{rules, w32, ◌≡◌}
use mir.Val.{SFits}
use Rattle.std.proofs.lemmas.Int.{to_z-of_z}
use Rattle.whole.proofs.Order.{larger_is, smaller_is}
use Rattle.jumper.specs.Range.{meet_of}
use Rattle.jumper.specs.declared.range.OffsetRange.{OffsetRange}
use Rattle.jumper.proofs.Ranges.{meet_exactly}
use Rattle.jumper.proofs.range.OffsetRange.meet.Goals as goal
use Rattle.jumper.proofs.range.OffsetRange.meet.Goals.{After-min}

met : (c : After-min) → ◌≡◌ {A = OffsetRange} (record { low = c.max.result; high = c.min.result }) (meet_of c.args.self c.args.other)
met c =
    let s = c.args in
    let f1 : SFits w32 s.self.low = search rules in
    let f2 : SFits w32 s.other.low = search rules in
    let f3 : SFits w32 s.self.high = search rules in
    let f4 : SFits w32 s.other.high = search rules in
    let el = simp to_z-of_z at c.max.ensures.value in
    let eh = simp to_z-of_z at c.min.ensures.value in
    cc (el, eh, larger_is s.self.low s.other.low, smaller_is s.self.high s.other.high)

pub returns-clause-answer : goal.returns-clause-answer
returns-clause-answer c =
    let fl : SFits w32 c.max.result = search rules in
    let fh : SFits w32 c.min.result = search rules in
    simp to_z-of_z (met c)

pub returns-clause-meaning : goal.returns-clause-meaning
returns-clause-meaning c =
    let fl : SFits w32 c.max.result = search rules in
    let fh : SFits w32 c.min.result = search rules in
    simp to_z-of_z (λ d. rw (met c) (meet_exactly c.args.self c.args.other d))
