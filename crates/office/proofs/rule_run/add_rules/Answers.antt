use Rattle.std.proofs.Common.{sym, refl, ◌∙◌, vec_items, arith}
use Rattle.records.proofs.Runs.{record_at}
use Rattle.office.proofs.Adding.{added_more, taken}
use Rattle.office.proofs.rule_run.add_rules.Goals as goal

pub loop-place-preserved : goal.loop-place-preserved
loop-place-preserved c =
    let run = c.args.runs.now.rules.now in
    let k = c.loop-place.place-counter in
    let t = taken _ _ _ c.add.result (sym c.in_ok-map_err.ensures.variant) c.add.ensures in
    let at = record_at run _ k c.as_chunks.ensures.front (omega (arith, c.loop-place-test.true, c.as_chunks.ensures.front_len)) in
    added_more run (vec_items c.args.book.now.rows) (vec_items c.loop-place.book.rows) (vec_items c.add.new.self.rows) k 48 refl c.loop-place.invariant t.0 (t.1 ∙ at) t.2
