use Rattle.std.proofs.Common.{sym, ◌∙◌, rules, length, FitsSigned, w32}
use Rattle.wiring.specs.Fit.{lean_of}
use Rattle.fit.proofs.Spans.{empty_range, low_there, high_there, low_first, high_first, low_back, high_back}
use Rattle.fit.proofs.offsets.range_found.Goals as goal

pub first_with-low-requires : goal.first_with-low-requires
first_with-low-requires c =
    let inside = c.if-rows-s.false in
    let f : FitsSigned w32 c.range_of-r.result.low = search rules in
    low_there c.args.rows.bottom.now c.args.rows.top.now c.args.s inside _ (low_back c.args.rows c.args.s inside c.range_of-r.result c.range_of-r.ensures f)

pub first_with-high-requires : goal.first_with-high-requires
first_with-high-requires c =
    let inside = c.if-rows-s.false in
    let f : FitsSigned w32 c.range_of-r.result.high = search rules in
    high_there c.args.rows.bottom.now c.args.rows.top.now c.args.s inside _ (high_back c.args.rows c.args.s inside c.range_of-r.result c.range_of-r.ensures f)

pub returns-then-is_empty : goal.returns-then-is_empty
returns-then-is_empty c =
    let a = c.args.rows.bottom.now in
    let b = c.args.rows.top.now in
    let inside = c.if-rows-s.false in
    let e = rw c.range_of-r.ensures at (sym c.is_empty.ensures.answer ∙ c.if-is_empty.true) in
    let fl : FitsSigned w32 c.range_of-r.result.low = search rules in
    let fh : FitsSigned w32 c.range_of-r.result.high = search rules in
    rw (
      low_first a b c.args.s inside c.first_with-low.result _ (low_back c.args.rows c.args.s inside c.range_of-r.result c.range_of-r.ensures fl) c.first_with-low.ensures.before c.first_with-low.ensures.found,
      high_first a b c.args.s inside c.first_with-high.result _ (high_back c.args.rows c.args.s inside c.range_of-r.result c.range_of-r.ensures fh) c.first_with-high.ensures.before c.first_with-high.ensures.found,
    )
    (sym (empty_range (length a) (lean_of a) (lean_of b) c.args.s inside e))
