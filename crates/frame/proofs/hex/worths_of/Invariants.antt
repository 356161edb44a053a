use Rattle.std.proofs.Common.{◌≡◌, ℕ, ◌<◌, nat_lt, get_or, take}
use Rattle.std.specs.List.{list_all}
use Rattle.frame.specs.Hex.{is_digit, worth}
use Rattle.frame.proofs.hex.worths_of.Given as goal

abbrev pub invariant-loop-i : goal.invariant-loop-i
invariant-loop-i l =
    (nat_lt l.most 16 ≡ list_all is_digit (take l.i l.text)) × ((k : ℕ) → k < l.i → get_or l.worths k 0 ≡ worth (get_or l.text k 0))
