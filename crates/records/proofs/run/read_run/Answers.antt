use Rattle.std.proofs.Common.{◌*◌, ◌/◌, ◌<◌, [], ◌∷◌, length, vec_items, rules, sym, refl, ap, ◌∙◌, arith, below_more}
use Rattle.std.proofs.lemmas.Result.{err_from_is_err_and}
use Rattle.std.specs.Option.{is_none}
use Rattle.std.proofs.lemmas.Slice.{pushed}
use Rattle.std.specs.List.{flat_map}
use Rattle.records.proofs.Runs.{record_at, placed, first_broke, read_on}
use Rattle.records.proofs.run.read_run.Goals as goal

pub returns-in_err-value : goal.returns-in_err-value
returns-in_err-value g c =
    let bs = c.args.bytes.now in
    let k = c.loop-place.place-counter in
    let some = c.in_ok-records.ensures.ok_part in
    let good = sym c.records_of.ensures.refused ∙ ap is_none some in
    let few : k < length bs / 48 = omega (arith, rw some at c.records_of.ensures.count) in
    let lt : 48 * k < length bs = omega arith in
    let at = record_at bs _ k (rw some at c.records_of.ensures.records) few in
    let is = placed k c.decode.result c.map_err.result c.map_err.ensures.cases (λ e p q. search rules) in
    let p = err_from_is_err_and c.from_residual-in_err-value.result c.from_residual-in_err-value.ensures.1 in
    let first = first_broke g.K.Record.image g.K.Record.fault g.met.K.Record.size bs k _ at c.decode.result c.map_err.result _ good lt c.loop-place.invariant.1 c.decode.ensures.fault c.in_err-value.was is in
    rw (p.1, p.2) first

pub loop-place-preserved : goal.loop-place-preserved
loop-place-preserved g c =
    let bs = c.args.bytes.now in
    let k = c.loop-place.place-counter in
    let some = c.in_ok-records.ensures.ok_part in
    let few : k < length bs / 48 = omega (arith, rw some at c.records_of.ensures.count) in
    let at = record_at bs _ k (rw some at c.records_of.ensures.records) few in
    let is = placed k c.decode.result c.map_err.result c.map_err.ensures.cases (λ e p q. search rules) in
    let on = read_on g.K.Record.image g.K.Record.fault g.met.K.Record.size bs k _ at _ c.decode.result c.map_err.result _ c.loop-place.invariant.0 c.decode.ensures.fault c.decode.ensures.value c.in_ok-value.was is in
    let items = pushed {was = vec_items c.loop-place.out} (c.in_ok-value.value ∷ []) refl c.in_ok-push.was c.push.ensures.items in
    (ap (flat_map g.K.Record.image) items ∙ on.0, below_more _ _ c.loop-place.invariant.1 on.1)
