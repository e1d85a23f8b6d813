use Rattle.std.proofs.Common.{take}
use Rattle.std.specs.List.{flat_map}
use Rattle.std.specs.Io.KnownBytes.{Appends}
use Rattle.office.specs.Printed.{plan_line}
use Rattle.office.proofs.printing.print_plans.Given as goal

abbrev pub invariant-loop-plan : goal.invariant-loop-plan
invariant-loop-plan g l = Appends (g.W.Write.contents l.initial.out) (g.W.Write.contents l.out) (flat_map (plan_line l.office) (take l.plan-index l.plan-items))
