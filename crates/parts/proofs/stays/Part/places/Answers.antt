use Rattle.std.proofs.Common.{arith, ◌+◌, ◌*◌, ◌≤◌, length}
use Rattle.std.proofs.Math.Nat.{mul-le-mul}
use Rattle.jumper.specs.Limits.{max_pairs, max_tracks}
use Rattle.parts.proofs.Keeping.{kept_few}
use Rattle.parts.proofs.stays.Part.places.Goals as goal

pub overflow_mul-result : goal.overflow_mul-result
overflow_mul-result c =
    let p = c.args.self in
    let k = p.asked in
    let n = length p.stays.now in
    let few : c.pairs_kept.result ≤ max_pairs = omega (arith, c.pairs_kept.ensures, kept_few p.stays.now n, k.bytes, k.whole.rows.few) in
    let h : c.pairs_kept.result * (p.question.separation + 1) ≤ max_pairs * (max_tracks + 1) =
    mul-le-mul {m₂ = max_tracks + 1} few (omega (arith, k.whole.tracks)) in
    omega arith
