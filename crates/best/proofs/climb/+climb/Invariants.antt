-- The measure is the number of entries: at each call on an even half there are fewer.
use Rattle.best.proofs.climb.+climb.Given as goal

abbrev pub decreases-climb : goal.decreases-climb
decreases-climb l = l.entries.now.len
