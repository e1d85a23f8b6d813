use Rattle.std.proofs.Common.{◌≡◌, length, refl, ap, ◌∙◌, arith}
use Rattle.std.proofs.lemmas.Result.{err_from_is_err_and}
use Rattle.records.specs.Rules.{rule_tests}
use Rattle.records.specs.Decoding.{tests_broke, tests_kept, image_is, all_passed}
use Rattle.records.specs.RulesLemmas.{body_read, body_16, owed}
use Rattle.records.proofs.rule_record.RuleRecordRecord.decode.Goals as goal

pub returns-in_err-check_rule : goal.returns-in_err-check_rule
returns-in_err-check_rule c =
    let p = err_from_is_err_and c.from_residual-in_err-check_rule.result c.from_residual-in_err-check_rule.ensures.1 in
    let bad = tests_broke 82 0 rule_tests c.args.bytes.now c.read_frame.result c.read_frame.ensures c.in_ok-fields.fields c.in_ok-fields.was c.check_rule.result c.check_rule.ensures _ c.in_err-check_rule.was in
    rw (p.1, p.2) (record { fault = bad; value = tt })

pub invariant_of-result : goal.invariant_of-result
invariant_of-result c =
    let f = c.in_ok-fields.fields in
    let p = all_passed (rule_tests f) c.check_rule.result _ c.check_rule.ensures c.in_ok-check_rule.was in
    let l : length f.body ≡ 32 = omega arith in
    let o = owed f c.read_body-body.result p (body_read f.body c.read_body-body.result l p.1.0 c.read_body-body.ensures) in
    let h : length f.atoms ≡ 8 = omega arith in
    record { head_long = h; head_ok = o.head; body_long = ap length c.read_body-body.ensures ∙ body_16 f.body l p.1.0; body_ok = o.body; small = c.number_of-label.type_inv; filled = o.filled }

pub returns : goal.returns
returns c =
    let bs = c.args.bytes.now in
    let f = c.in_ok-fields.fields in
    let p = all_passed (rule_tests f) c.check_rule.result _ c.check_rule.ensures c.in_ok-check_rule.was in
    let l : length f.body ≡ 32 = omega arith in
    record {
      fault = tests_kept 82 0 rule_tests bs c.read_frame.result c.read_frame.ensures f c.in_ok-fields.was c.check_rule.result c.check_rule.ensures _ c.in_ok-check_rule.was;
      value = image_is 82 0 rule_tests bs c.read_frame.result c.read_frame.ensures f c.in_ok-fields.was _ _ _ refl (body_read f.body c.read_body-body.result l p.1.0 c.read_body-body.ensures) c.number_of-label.ensures;
    }
