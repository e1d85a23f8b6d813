use Rattle.std.proofs.Common.{refl, subst}
use Rattle.std.specs.Io.KnownBytes.{Appends}
use Rattle.office.specs.Printed.{plan_line}
use Rattle.office.proofs.Output.{more_appended, line_taken, line_more}
use Rattle.office.proofs.printing.print_plans.Goals as goal

pub loop-plan-preserved : goal.loop-plan-preserved
loop-plan-preserved g c =
    let f = plan_line c.args.office.now in
    let taken = line_taken (f c.plan-item.result) _ c.write_plan_line.new.place c.in-Ok.len refl c.in-Ok.ensures in
    let more = line_more f c.deref-plan-items.result.now c.loop-plan.plan-index c.plan-item.result _ c.loop-plan-test.true c.plan-item.is taken in
    subst (Appends (g.W.Write.contents c.args.out.now) (g.W.Write.contents c.write_all.new.self)) more (more_appended _ _ _ _ _ c.loop-plan.invariant c.in_ok-write_all-in-Ok.ensures.bytes)
