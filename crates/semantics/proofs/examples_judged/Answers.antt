-- The twelve plans, by computation. Assumes nothing.
use mathlib.Core.Path.{refl}
use Rattle.semantics.specs.Judge.{judge, seek, any_below}
use Rattle.semantics.proofs.examples_judged.Goals as goal

pub returns : goal.returns
unfolding judge seek any_below
returns c =
    record {
      p1 = refl;
      p2 = refl;
      p3 = refl;
      p4 = refl;
      p5 = refl;
      p6 = refl;
      p7 = refl;
      p8 = refl;
      p9 = refl;
      p10 = refl;
      p11 = refl;
      p12 = refl;
    }
