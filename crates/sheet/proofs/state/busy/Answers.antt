use Rattle.std.proofs.Common.{rules, arith}
use Rattle.sheet.specs.Owes.{is_busy}
use Rattle.sheet.proofs.Steps.{busy_told, wires_told}
use Rattle.sheet.proofs.state.busy.Goals as goal

pub returns-else-is_some-2 : goal.returns-else-is_some-2
unfolding is_busy
returns-else-is_some-2 c =
    let w = wires_told c.args.s.route c.is_some_and.result _ c.is_some_and.ensures (λ r p. search rules) in
    busy_told _ _ (grind (arith, w))
