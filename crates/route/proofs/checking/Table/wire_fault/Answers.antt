use Rattle.std.proofs.Common.{rules, tests, length, ◌≡◌, true, false}
use Rattle.std.proofs.lemmas.Iterator.{first_from_Range}
use Rattle.route.specs.Check.{fault_of}
use Rattle.route.proofs.Faults.{first_wire}
use Rattle.route.proofs.checking.Table.wire_fault.Goals as goal

pub returns : goal.returns
returns c =
    let q = c.args.self.asked in
    let wrong = fault_of q.rows.bottom.now q.rows.top.now q.separation q.offset c.args.self.columns.now c.args.t in
    first_wire wrong c.args.t (length q.rows.bottom.now) c.find.result
    (first_from_Range _ _ _ c.find.result (λ i. wrong i ≡ true) (λ i. wrong i ≡ false) c.find.ensures.ran (λ x q k. search (rules, tests)) (λ x q k. search (rules, tests)))
