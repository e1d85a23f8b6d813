use Rattle.std.proofs.Common.{refl, inl}
use Rattle.office.specs.Printed.{plan_lines}
use Rattle.office.proofs.Output.{not_both}
use Rattle.office.proofs.printing.print_judgement.Goals as goal

pub returns-in_ok-print_plans-in-Ok-clause-lines : goal.returns-in_ok-print_plans-in-Ok-clause-lines
returns-in_ok-print_plans-in-Ok-clause-lines g c = (
  plan_lines c.in-Ok.office,
  record {
    bad = λ e h. absurd (not_both c.in-Ok.office e (c.in-Ok.ensures.bad e h));
    said = inl (c.in-Ok.office, c.in-Ok.ensures.held, refl);
  },
  c.in_ok-print_plans-in-Ok.ensures,
)
