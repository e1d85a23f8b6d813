use Rattle.std.proofs.Common.{◌≡◌, true, length, rules, refl, ◌∙◌}
use Rattle.records.specs.Bytes.{replicated_at}
use Rattle.records.specs.Decoding.{tests_are, image_is}
use Rattle.records.specs.Faults.{all_are}
use Rattle.sources.specs.Tables.{table_tests}
use Rattle.sources.proofs.table_record.TableRecordRecord.decode.Goals as goal

pub returns-in_err-demand-clause-fault : goal.returns-in_err-demand-clause-fault
returns-in_err-demand-clause-fault c =
    search rules ∙ tests_are 83 84 table_tests _ _ c.read_frame.ensures _ c.in_ok-fields.was

pub returns-in_err-demand-2-clause-fault : goal.returns-in_err-demand-2-clause-fault
returns-in_err-demand-2-clause-fault c =
    search rules ∙ tests_are 83 84 table_tests _ _ c.read_frame.ensures _ c.in_ok-fields.was

pub returns-in_err-demand-3-clause-fault : goal.returns-in_err-demand-3-clause-fault
returns-in_err-demand-3-clause-fault c =
    search rules ∙ tests_are 83 84 table_tests _ _ c.read_frame.ensures _ c.in_ok-fields.was

pub returns-clause-fault : goal.returns-clause-fault
returns-clause-fault c =
    search rules ∙ tests_are 83 84 table_tests _ _ c.read_frame.ensures _ c.in_ok-fields.was

pub returns-clause-value : goal.returns-clause-value
returns-clause-value c =
    let f = c.in_ok-fields.fields in
    let long : length f.tail ≡ 4 = search rules in
    let empty : all_are 0 f.tail ≡ true = search rules in
    image_is 83 84 table_tests _ _ c.read_frame.ensures _ c.in_ok-fields.was _ _ _ refl refl (replicated_at 4 0 f.tail long empty)
