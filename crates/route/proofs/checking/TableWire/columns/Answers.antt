use Rattle.std.proofs.Common.{arith}
use Rattle.route.proofs.Quick.{row_from}
use Rattle.route.proofs.checking.TableWire.columns.Goals as goal

pub returns-clause-columns : goal.returns-clause-columns
returns-clause-columns c = let w = c.args.self in λ t l. row_from w.table.columns.now w.table.asked.separation w.wire c.places-at.result _ t c.places-at.ensures (omega arith)
