use Rattle.std.proofs.Common.{◌≡◌, ◌∙◌, arith, refl, rules, tests}
use Rattle.plans.specs.Bits.{byte_of}
use Rattle.plans.specs.Partial.{removed}
use Rattle.plans.proofs.Bits.{bits_top, bytes_all}
use Rattle.plans.proofs.FromFn.{from_fn_gives}
use Rattle.plans.proofs.removal.Removal.set.Goals as goal

pub of_bits-requires : goal.of_bits-requires
of_bits-requires c =
    let top = bits_top (removed c.args.self.now.plan.now c.args.self.now.stays.now) 248 7 refl in
    let e = from_fn_gives (λ x y. y ≡ byte_of (removed c.args.self.now.plan.now c.args.self.now.stays.now) x) _ c.from_fn.result 0 32 (λ x y q l m. search (rules, tests)) c.from_fn.ensures.items.each 31 0 (omega arith) (omega arith) in
    omega (arith, e, top)

pub returns : goal.returns
returns c = c.of_bits.ensures ∙ bytes_all (removed c.args.self.now.plan.now c.args.self.now.stays.now) c.from_fn.result c.from_fn.ensures.items.long (λ k lt. from_fn_gives (λ x y. y ≡ byte_of (removed c.args.self.now.plan.now c.args.self.now.stays.now) x) _ c.from_fn.result 0 32 (λ x y q l m. search (rules, tests)) c.from_fn.ensures.items.each k 0 (omega arith) lt)
