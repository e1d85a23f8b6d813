use Rattle.records.specs.Decoding.{image_is}
use Rattle.sources.specs.Sums.{sum_tests}
use Rattle.sources.proofs.sum_record.SumRecordRecord.decode.Goals as goal

pub returns-clause-value : goal.returns-clause-value
returns-clause-value c =
    image_is 83 87 sum_tests _ _ c.read_frame.ensures _ c.in_ok-fields.was _ _ _
    c.weighted.ensures.atoms c.weighted.ensures.body c.number_of.ensures
