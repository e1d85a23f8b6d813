use Rattle.std.proofs.Common.{◌/◌, ◌<◌, length, rules, sym, ap, ◌∙◌, arith}
use Rattle.std.proofs.lemmas.Result.{err_from_is_err_and}
use Rattle.std.proofs.lemmas.Bool.{cond-false}
use Rattle.std.specs.Option.{is_none}
use Rattle.records.proofs.Runs.{record_at, placed, count_broke, count_on}
use Rattle.records.proofs.run.check_run.Goals as goal

pub returns-in_err-map_err : goal.returns-in_err-map_err
returns-in_err-map_err g c =
    let bs = c.args.bytes.now in
    let k = c.loop-place.place-counter in
    let some = c.in_ok-records.ensures.ok_part in
    let good = sym c.records_of.ensures.refused ∙ ap is_none some in
    let lt : k < length bs / 48 = omega (arith, rw some at c.records_of.ensures.count) in
    let at = record_at bs _ k (rw some at c.records_of.ensures.records) lt in
    let is = placed k c.decode.result c.map_err.result c.map_err.ensures.cases (λ e p q. search rules) in
    let p = err_from_is_err_and c.from_residual-in_err-map_err.result c.from_residual-in_err-map_err.ensures.1 in
    let broke = count_broke g.K.Record.fault bs k (length bs / 48) _ at lt c.decode.result c.map_err.result _ c.decode.ensures.fault c.in_err-map_err.was is in
    rw (p.1, p.2) (sym broke ∙ c.loop-place.invariant ∙ sym (cond-false _ _ _ good))

pub loop-place-preserved : goal.loop-place-preserved
loop-place-preserved g c =
    let bs = c.args.bytes.now in
    let k = c.loop-place.place-counter in
    let some = c.in_ok-records.ensures.ok_part in
    let lt : k < length bs / 48 = omega (arith, rw some at c.records_of.ensures.count) in
    let at = record_at bs _ k (rw some at c.records_of.ensures.records) lt in
    let is = placed k c.decode.result c.map_err.result c.map_err.ensures.cases (λ e p q. search rules) in
    sym (count_on g.K.Record.fault bs k (length bs / 48) _ at lt c.decode.result c.map_err.result _ c.decode.ensures.fault c.in_ok-map_err.was is) ∙ c.loop-place.invariant
