use Rattle.sources.proofs.Unused.{bits_unused, bits_back, bytes_unused, bytes_back}
use Rattle.sources.proofs.spare.spares_stand.Goals as goal

pub returns : goal.returns
returns c = λ atoms bs. record { bits = bits_unused atoms bs; bits_back = bits_back atoms bs; numbers = bytes_unused atoms bs; numbers_back = bytes_back atoms bs }
