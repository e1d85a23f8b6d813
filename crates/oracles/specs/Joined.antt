-- The meaning of two oracles as one: the first's sources, then the second's, as many as an oracle may have. Assumes nothing.
use Rattle.std.specs.Prelude.{◌+◌, ◌-◌, min, Bool, true, false, cond, nat_lt}
use Rattle.std.proofs.Common.{arith}
use Rattle.semantics.specs.Program.{Interp, Local, Meaning, source_limit}

pub either_local : (b : Bool) (s t : Interp → Bool) → Local s → Local t → Local (λ I. cond b (s I) (t I))
either_local true s t ls lt = ls
either_local false s t ls lt = lt

abbrev pub joined : Meaning → Meaning → Meaning
joined a b = record {
  count = min source_limit (a.count + b.count);
  small = omega arith;
  truth = λ n I. cond (nat_lt n a.count) (a.truth n I) (b.truth (n - a.count) I);
  local = λ n. either_local (nat_lt n a.count) (a.truth n) (b.truth (n - a.count)) (a.local n) (b.local (n - a.count));
}
