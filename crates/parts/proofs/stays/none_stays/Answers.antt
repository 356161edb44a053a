use Rattle.std.proofs.Common.{◌∙◌, eqb, rules, tests}
use Rattle.std.proofs.lemmas.Iterator.{YieldsList-from_slice}
use Rattle.std.proofs.lemmas.Iterator.Search.{all_from_yields_List}
use Rattle.parts.proofs.Keeping.{none_kept}
use Rattle.parts.proofs.stays.none_stays.Goals as goal

pub returns : goal.returns
returns c =
    let stays = c.args.stays.now in
    all_from_yields_List (λ x. eqb x 0) _ _ _ c.all.ensures.ran (YieldsList-from_slice stays cc) (λ x b q k. search (rules, tests)) ∙ none_kept stays
