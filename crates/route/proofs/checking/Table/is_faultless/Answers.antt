use Rattle.std.proofs.Common.{rules, tests}
use Rattle.std.specs.List.{range_with_len}
use Rattle.std.proofs.lemmas.Iterator.{cases_from_all, YieldsList-from_range}
use Rattle.route.specs.Asked.{pairs, bottom, top, entered, Clear}
use Rattle.route.proofs.Quick.{all_clear}
use Rattle.route.proofs.checking.Table.is_faultless.Goals as goal

pub returns : goal.returns
returns c =
    let t = c.args.self in
    let q = t.asked in
    let clear = Clear q t.columns.now in
    all_clear (pairs q) q.separation (bottom q) (top q) (entered q t.columns.now) c.all.result
    (cases_from_all {all = range_with_len 0 (pairs q)} _ _ _ clear (λ i. clear i → ⊥) c.all.ensures.ran (YieldsList-from_range 0 (pairs q) (pairs q) (cc) (search rules))
    (λ x q k. search (rules, tests)) (λ x q k. search (rules, tests)))
