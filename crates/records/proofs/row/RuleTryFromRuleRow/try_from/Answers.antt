use Rattle.std.proofs.Common.{◌≡◌, not, is_some, length, refl, sym, ap, ◌∙◌, arith}
use Rattle.std.proofs.lemmas.Result.{err_from_is_err_and}
use Rattle.records.specs.Faults.{first_fault, unless}
use Rattle.records.specs.Rules.{rule_fields, rule_tests}
use Rattle.records.specs.Decoding.{unless_err, all_passed}
use Rattle.records.specs.RulesLemmas.{owed}
use Rattle.records.proofs.row.RuleTryFromRuleRow.try_from.Goals as goal

pub returns-in_err-check_rule : goal.returns-in_err-check_rule
returns-in_err-check_rule c =
    let is = c.check_rule.ensures ∙ ap (λ f. unless (first_fault (rule_tests f)) tt) c.rule_fields.ensures in
    let found = unless_err _ _ _ (sym is ∙ c.in_err-check_rule.was) in
    let p = err_from_is_err_and c.from_residual.result c.from_residual.ensures.1 in
    rw (p.1, p.2) (ap (λ o. not (is_some o)) found, sym found)

pub invariant_of-result : goal.invariant_of-result
invariant_of-result c =
    let w = c.args.row in
    let f = rule_fields w.head w.body w.label in
    let is = c.check_rule.ensures ∙ ap (λ f. unless (first_fault (rule_tests f)) tt) c.rule_fields.ensures in
    let o = owed f w.body (all_passed (rule_tests f) _ _ is c.in_ok-check_rule.was) refl in
    let h : length w.head ≡ 8 = omega arith in
    let b : length w.body ≡ 16 = omega arith in
    record { head_long = h; head_ok = o.head; body_long = b; body_ok = o.body; small = omega arith; filled = o.filled }
