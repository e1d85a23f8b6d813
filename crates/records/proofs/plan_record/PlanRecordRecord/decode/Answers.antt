use Rattle.std.proofs.Common.{◌≡◌, true, length, None, sym, ap, ◌∙◌, arith, lt-ltb}
use Rattle.std.specs.Result.{result_ok}
use Rattle.records.specs.Faults.{all_are, first_fault}
use Rattle.records.specs.Plans.{plan_tests}
use Rattle.records.specs.Bytes.{demanded_ok, replicated_at}
use Rattle.records.specs.Decoding.{tests_are, image_is}
use Rattle.records.proofs.plan_record.PlanRecordRecord.decode.Goals as goal

pub returns : goal.returns
returns c =
    let bs = c.args.bytes.now in
    let f = c.in_ok-fields.fields in
    let a : all_are 255 f.atoms ≡ true = sym c.all_are.ensures ∙ demanded_ok _ _ _ (sym c.demand.ensures ∙ c.in_ok-demand.was) in
    let made = rw (c.ok_or.ensures.ok_part ∙ ap result_ok c.in_ok-marks.was) at c.new.ensures in
    let none : first_fault (plan_tests f) ≡ None = rw (a, lt-ltb _ _ made.0) in
    let long : length f.atoms ≡ 8 = omega arith in
    record {
      fault = sym none ∙ tests_are 67 0 plan_tests bs c.read_frame.result c.read_frame.ensures f c.in_ok-fields.was;
      value = image_is 67 0 plan_tests bs c.read_frame.result c.read_frame.ensures f c.in_ok-fields.was _ _ _ (replicated_at 8 255 f.atoms long a) made.1 c.number_of-label.ensures;
    }
