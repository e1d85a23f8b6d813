use Rattle.std.proofs.Common.{false, length, sym, ◌∙◌, subst}
use Rattle.std.proofs.lemmas.Bool.{both_ways}
use Rattle.std.proofs.lemmas.Slice.Zip.{zip_turn}
use Rattle.records.specs.declared.row.RuleRow.{RuleRow}
use Rattle.rulebook.specs.Rules.{no_row}
use Rattle.judge.specs.Ways.{Sat, Known, Asks}
use Rattle.judge.specs.declared.ways.Ways.TheVariants.{Several}
use Rattle.judge.proofs.Satisfying.{asked_by_all, sat_more, several_is}
use Rattle.judge.proofs.reduct.Reduct.asks.Goals as goal

pub returns-then-not-is_several : goal.returns-then-not-is_several
returns-then-not-is_several g c =
    let s = c.args.self.now in
    let turn = zip_turn s.rows.now s.live c.loop-row.yielded c.into_iter-row-iterator.result c.loop-row.row-iterator c.next.new.self c.next.result (cc) (cc) c.loop-row.yielded_by (c.in-Some.row, c.in-Some.live) c.in-Some.is c.next.ensures.steps in
    asked_by_all c.args.rest.now _ _ _ _
    (λ K all. subst (λ (r : RuleRow). Sat (g.O.Oracle.meaning s.oracle.now) r K) (sym (turn.2 no_row)) (all (length c.loop-row.yielded) turn.0 (sym (turn.3 false) ∙ c.if-live.true)))
    c.ways-ways.result
    (sym c.is_several.ensures ∙ c.if-not-is_several.true)
    c.ways-ways.ensures

pub loop-row-preserved-else-not-is_several : goal.loop-row-preserved-else-not-is_several
loop-row-preserved-else-not-is_several g c =
    let s = c.args.self.now in
    let m = g.O.Oracle.meaning s.oracle.now in
    let p = c.args.rest.now in
    let turn = zip_turn s.rows.now s.live c.loop-row.yielded c.into_iter-row-iterator.result c.loop-row.row-iterator c.next.new.self c.next.result (cc) (cc) c.loop-row.yielded_by (c.in-Some.row, c.in-Some.live) c.in-Some.is c.next.ensures.steps in
    let told =
    subst (λ (r : RuleRow). Asks p (Sat m r) (Known m r.body) Several) (turn.2 no_row)
    (subst (Asks p (Sat m c.in-Some.row.now) (Known m c.in-Some.row.now.body)) (several_is c.ways-ways.result (sym c.is_several.ensures ∙ c.if-not-is_several.false)) c.ways-ways.ensures)
    in
    λ known d K w. sat_more m s.rows.now s.live K c.loop-row.yielded _ (c.loop-row.invariant known d K w) (λ e. told (known (length c.loop-row.yielded) turn.0) d K w)

pub loop-row-preserved : goal.loop-row-preserved
loop-row-preserved g c =
    let s = c.args.self.now in
    let turn = zip_turn s.rows.now s.live c.loop-row.yielded c.into_iter-row-iterator.result c.loop-row.row-iterator c.next.new.self c.next.result (cc) (cc) c.loop-row.yielded_by (c.in-Some.row, c.in-Some.live) c.in-Some.is c.next.ensures.steps in
    λ known d K w. sat_more (g.O.Oracle.meaning s.oracle.now) s.rows.now s.live K c.loop-row.yielded _ (c.loop-row.invariant known d K w) (λ e. absurd (both_ways _ c.if-live.false (turn.3 false ∙ e)))
