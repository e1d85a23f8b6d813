use Rattle.std.proofs.Common.{◌≡◌, true, false, ◌⊎◌, Option, rules, tests}
use Rattle.std.proofs.lemmas.Iterator.{YieldsList-from_slice, cases_from_all}
use Rattle.plans.specs.Partial.{full}
use Rattle.plans.proofs.Partial.{full_within}
use Rattle.records.specs.declared.literal.Literal.{Literal}
use Rattle.rulebook.specs.Rules.{place_true}
use Rattle.judge.specs.Ways.{Unsettled}
use Rattle.judge.proofs.Rows.{holds_all}
use Rattle.judge.proofs.truth.View.holds.Goals as goal

pub returns : goal.returns
returns g c known decided =
    let m = g.O.Oracle.meaning c.args.self.now.oracle.now in
    let p = c.args.self.now.plan.now in
    let Holds = λ (t : Option Literal). place_true m (full p) t ≡ true in
    let Fails = λ (t : Option Literal). (place_true m (full p) t ≡ false) ⊎ Unsettled m p t in
    let within = full_within p in
    holds_all m p c.args.body.now known decided _
    (cases_from_all _ _ _ Holds Fails c.all.ensures.ran (YieldsList-from_slice c.args.body.now c.iter.ensures.rest) (λ x q k. search (rules, tests)) (λ x q k. search (rules, tests)))
