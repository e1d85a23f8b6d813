use Rattle.std.proofs.Common.{◌≡◌, ◌+◌, ◌-◌, ◌*◌, sym, ap, ◌∙◌, arith}
use Rattle.plans.specs.Bits.{bits_from, one}
use Rattle.plans.specs.Partial.{removed}
use Rattle.plans.proofs.Bits.{bits_after, bits_fit, bits_none, byte_one}
use Rattle.plans.proofs.removal.Removal.byte.Goals as goal

-- the bit of one atom more in front
added : (c : goal.After-from) → bits_from (removed c.args.self.now.plan.now c.args.self.now.stays.now) (8 * c.args.k + (c.loop-j.j - 1)) (8 - (c.loop-j.j - 1)) ≡ c.from.result + 2 * c.loop-j.byte
added c =
    let X = removed c.args.self.now.plan.now c.args.self.now.stays.now in
    let after = bits_after X (8 * c.args.k + (c.loop-j.j - 1)) (8 * c.args.k + c.loop-j.j) (8 - (c.loop-j.j - 1)) (8 - c.loop-j.j) (omega arith) (omega arith) in
    let bit = ap one c.contains.ensures in
    let here = c.from.ensures ∙ byte_one c.contains.result in
    omega (arith, after, bit, here, c.loop-j.invariant)

pub loop-j-init : goal.loop-j-init
loop-j-init c = sym (bits_none _ _)

pub overflow_mul-byte : goal.overflow_mul-byte
overflow_mul-byte c =
    let X = removed c.args.self.now.plan.now c.args.self.now.stays.now in
    let after = bits_after X (8 * c.args.k + (c.loop-j.j - 1)) (8 * c.args.k + c.loop-j.j) (8 - (c.loop-j.j - 1)) (8 - c.loop-j.j) (omega arith) (omega arith) in
    let fits = bits_fit X (8 * c.args.k + (c.loop-j.j - 1)) (8 - (c.loop-j.j - 1)) (omega arith) in
    omega (arith, after, fits, c.loop-j.invariant)

pub overflow_add-byte : goal.overflow_add-byte
overflow_add-byte c =
    let fits = bits_fit (removed c.args.self.now.plan.now c.args.self.now.stays.now) (8 * c.args.k + (c.loop-j.j - 1)) (8 - (c.loop-j.j - 1)) (omega arith) in
    omega (arith, added c, fits)

pub loop-j-preserved : goal.loop-j-preserved
loop-j-preserved c = omega (arith, added c)
