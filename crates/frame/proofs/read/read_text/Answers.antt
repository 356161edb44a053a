use Rattle.std.proofs.Common.{◌≡◌, length}
use Rattle.frame.proofs.Frames.{bad_read, unsound_bad, kind_is, header_in}
use Rattle.frame.proofs.read.read_text.Goals as goal

pub returns-then-not-is_framed : goal.returns-then-not-is_framed
returns-then-not-is_framed c = bad_read _ _ (c.is_framed.ensures.bad c.if-not-is_framed.true)

pub returns-in_err-bytes : goal.returns-in_err-bytes
returns-in_err-bytes c = rw c.from_residual.ensures (bad_read _ _ (unsound_bad _ c.in_err-bytes.ensures))

pub returns-then-bytes-eq11 : goal.returns-then-bytes-eq11
returns-then-bytes-eq11 c =
    let e = kind_is _ _ c.in_ok-bytes.ensures in
    let n : length c.in_ok-bytes.bytes.now ≡ 11 = c.if-bytes-eq11.true in
    rw (e, c.header.ensures) (header_in _ n _)

pub returns-else-bytes-eq11 : goal.returns-else-bytes-eq11
returns-else-bytes-eq11 c = let e = kind_is _ _ c.in_ok-bytes.ensures in rw e c.carrier.ensures
