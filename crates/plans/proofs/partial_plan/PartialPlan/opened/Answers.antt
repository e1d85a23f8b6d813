use Rattle.std.proofs.Common.{rules, tests, ◌≡◌, arith}
use Rattle.plans.specs.declared.partial_plan.Status.TheVariants.{Open}
use Rattle.plans.specs.Partial.{status_at, opened}
use Rattle.plans.proofs.FromFn.{from_fn_gives}
use Rattle.plans.proofs.partial_plan.PartialPlan.opened.Goals as goal

pub returns : goal.returns
returns c a lt =
    from_fn_gives (λ x y. y ≡ opened (status_at c.args.self.now x)) _ c.from_fn-marks.result 0 255 (λ x y q l k. search (rules, tests)) c.from_fn-marks.ensures.items.each a Open (omega arith) lt
