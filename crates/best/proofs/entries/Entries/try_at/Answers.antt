use Rattle.best.proofs.Strides.{low_fits, high_fits, tried}
use Rattle.best.proofs.entries.Entries.try_at.Goals as goal

pub overflow_add-range : goal.overflow_add-range
overflow_add-range c = low_fits c.args.self.now c.args.s c.requires c.read-count.result c.read-count.ensures

pub overflow_sub-range : goal.overflow_sub-range
overflow_sub-range c = high_fits c.args.self.now c.args.s c.requires c.read-count.result c.read-count.ensures

pub returns : goal.returns
returns c = tried c.args.self.now c.args.s c.requires c.read-count.result c.read-count.ensures
