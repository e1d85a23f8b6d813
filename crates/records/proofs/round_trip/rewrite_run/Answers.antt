use Rattle.std.proofs.Common.{◌≡◌, vec_items, refl, ap, ◌∙◌}
use Rattle.std.proofs.lemmas.Result.{err_from_is_err_and}
use Rattle.std.specs.List.{flat_map}
use Rattle.records.proofs.Rewriting.{refused, rewritten}
use Rattle.records.proofs.round_trip.rewrite_run.Goals as goal

pub returns-in_err-values : goal.returns-in_err-values
returns-in_err-values g c =
    let p = err_from_is_err_and c.from_residual.result c.from_residual.ensures.1 in
    rw (p.1, p.2) (refused g.K.Record.image g.K.Record.fault c.args.bytes.now c.args.place.now _ c.in_err-values.ensures)

pub returns : goal.returns
returns g c =
    let read = c.in_ok-values.ensures in
    let same : c.deref.result.now ≡ vec_items c.in_ok-values.values = c.deref.ensures.value in
    rewritten g.K.Record.image g.K.Record.fault g.met.K.Record.size g.met.K.Record.clean g.met.K.Record.single c.args.bytes.now c.args.place.now c.write_run.new.place c.deref.result.now
    read.0 (ap (flat_map g.K.Record.image) same ∙ read.1) _ c.write_run.result refl c.write_run.ensures.fault c.write_run.ensures.bytes
