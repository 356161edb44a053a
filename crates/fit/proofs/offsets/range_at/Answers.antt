use Rattle.std.proofs.Common.{sym, ◌∙◌, arith}
use Rattle.jumper.proofs.Checks.{passed_on, accepted_tracks}
use Rattle.jumper.proofs.Wired.{tracks_rule}
use Rattle.fit.proofs.Spans.{range_refused, range_answer}
use Rattle.fit.proofs.offsets.range_at.Goals as goal

pub returns-in_err-check_tracks : goal.returns-in_err-check_tracks
returns-in_err-check_tracks c = rw (passed_on _ c.from_residual.ensures.1) (range_refused _ _ _ _ (sym c.check_tracks.ensures.answer ∙ c.in_err-check_tracks.was))

pub range_found-requires : goal.range_found-requires
range_found-requires c =
    let k = accepted_tracks c.args.a.now c.args.b.now c.args.s (sym c.check_tracks.ensures.answer ∙ c.in_ok-check_tracks.was) in
    omega (arith, k.tracks, (tracks_rule k).tracks, c.rule_at-r.ensures)

pub returns : goal.returns
returns c =
    let k = accepted_tracks c.args.a.now c.args.b.now c.args.s (sym c.check_tracks.ensures.answer ∙ c.in_ok-check_tracks.was) in
    rw c.range_found.ensures (rw (sym c.rule_at-r.ensures) at (range_answer c.args.a.now c.args.b.now c.args.s k))
