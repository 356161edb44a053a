use Rattle.std.proofs.Common.{rules}
use Rattle.std.proofs.lemmas.Slice.{overwrites}
use Rattle.sheet.proofs.Lines.{kept}
use Rattle.sheet.proofs.feed.keep.Goals as goal

pub returns : goal.returns
returns c = kept _ _ _ _ _ _ c.told-line (search (rules, overwrites)) c.min-from.ensures c.min-n.ensures (search (rules, overwrites))
