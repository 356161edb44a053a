use Rattle.answersheet.proofs.Sendings.{sends_on, sends_before, rest_of}
use Rattle.answersheet.proofs.Desk.pump.Goals as goal

pub loop-preserved : goal.loop-preserved
loop-preserved g c =
    sends_on c.loop.invariant (λ rest. rw (rest_of c.loop.rest.now c.feed-f.result.used c.feed-f.ensures.within) (c.feed-f.ensures.owed rest))
    (sends_before _ c.in_ok-send.ensures.sends)
