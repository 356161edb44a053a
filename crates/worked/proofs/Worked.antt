-- The jumpers worked by hand: one test, computed over the whole table, and so an equation for each case.
use Rattle.std.specs.Prelude.{◌≡◌, refl, [], Bool, true, ℕ, ◌<◌, length}
use Rattle.std.specs.List.{list_all}
use Rattle.std.specs.Ordering.{int_eq}
use Rattle.std.specs.Cmp.Lexicographic.{pointwise}
use Rattle.std.specs.Cmp.Rules.{signed_items}
use Rattle.std.proofs.lemmas.List.Elements.{All-get_or}
use Rattle.std.proofs.lemmas.List.Sums.{AllPass-from_list_all}
use Rattle.whole.specs.Pick.{larger_of, smaller_of, first_by}
use Rattle.wiring.specs.Tracks.{rule_at, tracks_for}
use Rattle.wiring.specs.Drawing.{rightward, leftward, entry}
use Rattle.jumper.specs.Rows.{fault_after}
use Rattle.fit.specs.Misfit.{misfit_from}
use Rattle.fit.specs.Least.{least_of}
use Rattle.best.specs.Halving.{from_even, from_half, halving_in}
use Rattle.route.specs.Table.{column_in, columns, wires}
use Rattle.route.specs.Check.{start_wrong, end_wrong, steps_aside, run_touches, fault_at, wire_fault, track_fault}
use Rattle.parts.specs.Stays.{kept_among}
use Rattle.worked.specs.Table.{Case, case, table, case_at}

-- the test: told and hand are alike
abbrev alike : Case → Bool
alike c = pointwise int_eq c.told c.hand

computed : list_all alike table ≡ true
unfolding rule_at tracks_for first_by fault_after misfit_from least_of from_even from_half halving_in larger_of smaller_of rightward leftward entry columns wires
    column_in start_wrong end_wrong steps_aside run_touches fault_at wire_fault track_fault kept_among
computed = refl

pub worked : (k : ℕ) → k < length table → (case_at k).told ≡ (case_at k).hand
worked k h =
    (signed_items (case_at k).told (case_at k).hand).0
    (All-get_or (λ (c : Case). alike c ≡ true) table k (case [] []) h (AllPass-from_list_all alike table computed))
