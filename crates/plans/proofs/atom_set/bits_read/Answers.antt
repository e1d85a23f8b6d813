use Rattle.plans.proofs.Bits.{bits_read}
use Rattle.plans.proofs.atom_set.bits_read.Goals as goal

pub returns : goal.returns
returns c = bits_read
