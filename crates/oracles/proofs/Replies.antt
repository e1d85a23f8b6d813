-- The clauses of a reply and its one definition say the same. Assumes nothing.
use Rattle.std.proofs.Common.{◌≡◌, ℕ, ◌<◌, ◌≤◌, Bool, true, false, cond, refl, arith}
use Rattle.semantics.specs.Program.{Meaning}
use Rattle.plans.specs.Partial.{full}
use Rattle.plans.proofs.Partial.{full_within}
use Rattle.oracles.specs.declared.oracle.Reply.{Reply}
use Rattle.oracles.specs.declared.oracle.Reply.TheVariants.{NoSource, Yes, No, Open}
use Rattle.oracles.specs.Clauses.{ClausesSuffice}

below : (m : Meaning) (n : ℕ) (r : Reply) → (m.count ≤ n → r ≡ NoSource) → (r ≡ NoSource → ⊥) → n < m.count
below m n r none_if told = let some : m.count ≤ n → ⊥ = λ past. told (none_if past) in omega (arith, some)

open≢told : (b : Bool) → Open ≡ cond b Yes No → ⊥
open≢told true e = cc
open≢told false e = cc

pub suffice : ClausesSuffice
suffice m n p NoSource h = h.none_only refl
suffice m n p Yes h = (below m n Yes h.none_if (λ e. cc), h.sound_yes refl)
suffice m n p No h = (below m n No h.none_if (λ e. cc), h.sound_no refl)
suffice m n p Open h =
    let there = below m n Open h.none_if (λ e. cc) in
    (there, λ d. open≢told (m.truth n (full p)) (h.decided there d (full p) (full_within p).agrees))
