use Rattle.std.proofs.Common.{◌≡◌, sym, ◌∙◌, rules, arith}
use Rattle.jumper.specs.Asked.{AcceptedShift}
use Rattle.jumper.specs.declared.asked.Question.{Question}
use Rattle.fit.specs.Least.{pair_of}
use Rattle.fit.proofs.Leasts.{seek_next, seek_found}
use Rattle.fit.proofs.least.seek_least.Goals as goal
use Rattle.fit.proofs.least.seek_least.Goals.{After-map_or}

shift : (q : Question) → AcceptedShift q.rows.bottom.now q.rows.top.now q.offset
shift q = record { rows = q.rows.accepted; offset = q.shift }

from : (c : After-map_or) → c.map_or.result ≡ pair_of c.loop-m.witness
from c = search rules

pub loop-m-smaller : goal.loop-m-smaller
loop-m-smaller c =
    let e = rw (from (goal.at.loop-m-smaller c).After-map_or) at c.misfit_from.ensures in
    let n = seek_next _ _ _ (shift c.args.q) _ _ c.loop-m.invariant c.in-Some.m (sym e ∙ c.in-Some.is) in
    omega (arith, n.0)

pub loop-m-preserved : goal.loop-m-preserved
loop-m-preserved c =
    let e = rw (from (goal.at.loop-m-preserved c).After-map_or) at c.misfit_from.ensures in
    (seek_next _ _ _ (shift c.args.q) _ _ c.loop-m.invariant c.in-Some.m (sym e ∙ c.in-Some.is)).1

pub returns : goal.returns
returns c =
    let e = rw (from (goal.at.returns c).After-map_or) at c.misfit_from.ensures in
    seek_found _ _ _ (shift c.args.q) _ _ c.loop-m.invariant c.tracks_for.result c.tracks_for.ensures (sym e ∙ c.in_default.is)
