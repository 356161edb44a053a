-- The measure is the number of pairs.
use Rattle.best.proofs.level.+count_levels.Given as goal

abbrev pub decreases-count_levels : goal.decreases-count_levels
decreases-count_levels l = l.n
