use Rattle.std.proofs.Common.{◌≡◌, true, length, rules, ◌∙◌}
use Rattle.records.specs.Decoding.{tests_are, image_is}
use Rattle.sources.specs.Weeks.{week_tail, week_tests}
use Rattle.sources.specs.WeeksLemmas.{kept_zeros, tail_bytes}
use Rattle.sources.proofs.week_record.WeekRecordRecord.decode.Goals as goal

pub returns-in_err-demand-clause-fault : goal.returns-in_err-demand-clause-fault
returns-in_err-demand-clause-fault c =
    search rules ∙ tests_are 83 75 week_tests _ _ c.read_frame.ensures _ c.in_ok-fields.was

pub returns-in_err-demand-2-clause-fault : goal.returns-in_err-demand-2-clause-fault
returns-in_err-demand-2-clause-fault c =
    search rules ∙ tests_are 83 75 week_tests _ _ c.read_frame.ensures _ c.in_ok-fields.was

pub returns-in_err-demand-3-clause-fault : goal.returns-in_err-demand-3-clause-fault
returns-in_err-demand-3-clause-fault c =
    search rules ∙ tests_are 83 75 week_tests _ _ c.read_frame.ensures _ c.in_ok-fields.was

pub returns-clause-fault : goal.returns-clause-fault
returns-clause-fault c =
    search rules ∙ tests_are 83 75 week_tests _ _ c.read_frame.ensures _ c.in_ok-fields.was

pub returns-clause-value : goal.returns-clause-value
returns-clause-value c =
    let f = c.in_ok-fields.fields in
    let long : length f.tail ≡ 4 = search rules in
    let kept : week_tail f.tail ≡ true = search rules in
    image_is 83 75 week_tests _ _ c.read_frame.ensures _ c.in_ok-fields.was _ _ _ c.dated.ensures.atoms c.dated.ensures.body (tail_bytes f.tail long (kept_zeros f.tail kept))
