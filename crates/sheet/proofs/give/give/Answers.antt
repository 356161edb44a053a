use Rattle.std.proofs.Common.{rules, w32, ap, ◌∙◌}
use mir.Val.{SFits}
use Rattle.std.proofs.lemmas.Int.{to_z-of_z}
use Rattle.sheet.specs.Owes.{has_wires}
use Rattle.sheet.proofs.Gives.{cut_done, both_done, due_full, no_route, route_given, wide}
use Rattle.sheet.proofs.give.give.Goals as goal

pub returns-in_default-give_answer : goal.returns-in_default-give_answer
returns-in_default-give_answer c =
    let full = c.in_default-give_answer.ensures in
    due_full (cut_done c.cut_answer.ensures c.give_answer.auto.out c.in-Some.ensures) full.0 full.1

pub returns-in-Some-route : goal.returns-in-Some-route
returns-in-Some-route c =
    let fits : SFits w32 c.in-Some-route.r.offset = search rules in
    let moves = simp to_z-of_z at c.give_moves-m.ensures in
    simp to_z-of_z
    (route_given (both_done c.cut_answer.ensures c.give_answer.auto.out c.in-Some.ensures c.give_answer-2.auto.out c.in-Some-give_answer.ensures)
    c.in-Some-route.is c.if-r-le-MAX_PAIRS.true c.told-a moves)

pub returns-in_default-route : goal.returns-in_default-route
returns-in_default-route c =
    no_route (both_done c.cut_answer.ensures c.give_answer.auto.out c.in-Some.ensures c.give_answer-2.auto.out c.in-Some-give_answer.ensures)
    (ap has_wires c.in-Some-route.is ∙ wide c.in-Some-route.r c.if-r-le-MAX_PAIRS.false)

pub returns-in_default-route-2 : goal.returns-in_default-route-2
returns-in_default-route-2 c =
    no_route (both_done c.cut_answer.ensures c.give_answer.auto.out c.in-Some.ensures c.give_answer-2.auto.out c.in-Some-give_answer.ensures)
    (ap has_wires c.in_default-route.is)
