use Rattle.std.proofs.Common.{sym, refl, ap, ◌∙◌}
use Rattle.semantics.specs.Check.{sources_known}
use Rattle.plans.specs.Bits.{marked}
use Rattle.rulebook.specs.Rules.{rules_of}
use Rattle.judge.proofs.Told.{told_source}
use Rattle.judge.proofs.checking.check.Goals as goal

pub returns-then-not-rules_known : goal.returns-then-not-rules_known
returns-then-not-rules_known g c =
    let unknown = ap (λ rows. sources_known (g.O.Oracle.meaning c.args.oracle.now) (rules_of rows)) (sym c.rows-rows.ensures.value) ∙ sym c.rules_known.ensures ∙ c.if-not-rules_known.true in
    (told_source (rules_of c.args.book.now.rows.items) (g.O.Oracle.meaning c.args.oracle.now) (marked c.args.marks.now.bytes) c.args.place.now c.if-place-ne32.false unknown, refl)
