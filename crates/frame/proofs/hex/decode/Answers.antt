use Rattle.std.proofs.Common.{◌/◌, length, ◌∙◌, arith, length-take-le}
use Rattle.frame.proofs.Scan.{no_digits, worth_below, unsound, decoded}
use Rattle.frame.proofs.hex.decode.Goals as goal

pub returns-then-not-worths_of : goal.returns-then-not-worths_of
returns-then-not-worths_of c = no_digits _ _ _ c.requires.0 c.worths_of.ensures c.if-not-worths_of.true

pub bytes_from-requires : goal.bytes_from-requires
bytes_from-requires c =
    let n = length-take-le (length c.args.text.now / 2) c.args.room.now (omega arith) in
    (omega arith, λ i h. worth_below _ _ _ c.requires.0 c.worths_of.ensures c.if-not-worths_of.false i (omega arith))

pub returns-then-bytes_from-ne0 : goal.returns-then-bytes_from-ne0
returns-then-bytes_from-ne0 c =
    let n = length-take-le (length c.args.text.now / 2) c.args.room.now (omega arith) in
    unsound _ _ _ c.requires.0 c.worths_of.ensures c.if-not-worths_of.false _ _ (c.bytes_from.auto.bytes ∙ n) c.bytes_from.ensures c.if-bytes_from-ne0.true

pub returns : goal.returns
returns c =
    let n = length-take-le (length c.args.text.now / 2) c.args.room.now (omega arith) in
    decoded _ _ _ c.requires.0 c.worths_of.ensures c.if-not-worths_of.false _ _ (c.bytes_from.auto.bytes ∙ n) c.bytes_from.ensures c.if-bytes_from-ne0.false
