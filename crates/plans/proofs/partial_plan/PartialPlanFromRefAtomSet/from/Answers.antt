use Rattle.std.proofs.Common.{rules, tests, ◌≡◌, if◌then◌else◌, arith}
use Rattle.plans.specs.Bits.{marked}
use Rattle.plans.specs.declared.partial_plan.Status.TheVariants.{Open, In, Out}
use Rattle.plans.proofs.FromFn.{from_fn_gives}
use Rattle.plans.proofs.partial_plan.PartialPlanFromRefAtomSet.from.Goals as goal

pub returns : goal.returns
returns c a lt =
    from_fn_gives (λ x y. y ≡ (if marked c.args.set.now.bytes x then In else Out)) _ c.from_fn-marks.result 0 255 (λ x y q l k. search (rules, tests)) c.from_fn-marks.ensures.items.each a Open (omega arith) lt
