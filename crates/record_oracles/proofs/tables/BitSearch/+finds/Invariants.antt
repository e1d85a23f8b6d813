use Rattle.std.proofs.Common.{◌-◌}
use Rattle.record_oracles.proofs.tables.BitSearch.+finds.Given as goal

abbrev pub decreases-finds : goal.decreases-finds
decreases-finds l = 8 - l.place
