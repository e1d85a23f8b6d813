use Rattle.std.proofs.Common.{rules as steps, ◌≡◌, length, vec_len, sym, ◌∙◌, arith}
use Rattle.std.proofs.lemmas.List.{length-map}
use Rattle.semantics.specs.Check.{checked}
use Rattle.plans.specs.Bits.{marked}
use Rattle.rulebook.specs.Rules.{rule_of, rules_of}
use Rattle.lines.proofs.Named.{Names, named_fits, named_said, broken_said}
use Rattle.lines.proofs.plan_line.report_of.Goals as goal
use Rattle.lines.proofs.plan_line.report_of.Goals.{in-Err, in-Ok-Stands, in-Ok-Broken, in-Ok-Unfounded+in-Some}

pub unreachable-requires : goal.unreachable-requires
unreachable-requires g c =
    let names : Names (rules_of c.args.book.now.rows.items) (g.O.Oracle.meaning c.args.oracle.now) c.args.plan.now.marks.bytes c.check.new.place = rw c.in-Ok-Unfounded.field-0-is at c.in-Ok-Unfounded.ensures in
    omega (arith, c.in-None.ensures, named_fits _ _ _ _ names)

pub returns : goal.returns
returns g c =
    let rows = c.args.book.now.rows in
    let rules = rules_of rows.items in
    let m = g.O.Oracle.meaning c.args.oracle.now in
    let marks = c.args.plan.now.marks.bytes in
    let label = c.args.plan.now.label in
    let long : vec_len rows ≡ length rules = rows.ok.0 ∙ sym (length-map rows.items rule_of) in
    elim c.match-check.branch [
      | in-Err w ↦ search steps
      | in-Ok-Stands w ↦ search steps
      | in-Ok-Broken w ↦ search (steps, broken_said label rules (checked rules m (marked marks)) w.label.result (vec_len rows) w.in-Ok-Broken.n long)
      | in-Ok-Unfounded+in-Some w ↦
          let names : Names rules m marks c.check.new.place = rw w.in-Ok-Unfounded.field-0-is at w.in-Ok-Unfounded.ensures in
          rw w.outcome-is (named_said rules m marks c.check.new.place names label w.in-Some.atoms.bits w.in-Some.ensures.1)
    ]
