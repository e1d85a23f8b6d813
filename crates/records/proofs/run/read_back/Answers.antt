use Rattle.std.proofs.Common.{◌≡◌, true, length, ◌∙◌}
use Rattle.std.proofs.lemmas.Bool.{cond-true, both_ways}
use Rattle.records.specs.Runs.{place_fits}
use Rattle.records.proofs.Runs.{stands, was_ok, back}
use Rattle.records.proofs.run.read_back.Goals as goal

pub returns : goal.returns
returns g c =
    let xs = c.args.values.now in
    let n = length c.args.place.now in
    let fits : place_fits (length xs) n ≡ true = was_ok _ _ _ _ c.write_run.ensures.fault c.in_ok-write_run.was in
    let written = c.write_run.ensures.bytes ∙ cond-true _ _ _ fits in
    record {
      values = back g.K.Record.image g.K.Record.fault (stands g.K.Record.image g.K.Record.fault g.met.K.Record.size g.met.K.Record.clean g.met.K.Record.single) xs _ n fits written c.read_run.result c.read_run.ensures;
      misfit = λ short. absurd (both_ways _ short fits);
      bytes = c.write_run.ensures.bytes;
    }
