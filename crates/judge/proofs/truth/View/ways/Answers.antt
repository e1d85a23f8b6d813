use Rattle.std.proofs.Common.{◌≡◌, ◌+◌, length, sym, ap, ◌∙◌, subst}
use Rattle.judge.specs.Ways.{Leaves, HeadIn, Meets, Known, ways_and}
use Rattle.judge.specs.declared.ways.Ways.{Ways}
use Rattle.judge.proofs.Satisfying.{heads_out, heads_open, body_none, body_true, body_unsure, done}
use Rattle.judge.proofs.truth.View.ways.Goals as goal
use Rattle.judge.proofs.truth.View.ways.Goals.{in-Out, in-Open, in-Some-true, in-None}

pub loop-a-preserved : goal.loop-a-preserved
loop-a-preserved g c =
    let p = c.args.self.now.plan.now in
    let N = Known (g.O.Oracle.meaning c.args.self.now.oracle.now) c.args.row.now.body in
    let head = c.args.row.now.head in
    let i = c.loop-a.a-index in
    let at_left : (x : Ways) → c.match-status.left ≡ x → Leaves p (HeadIn head (i + 1)) N x → Leaves p (HeadIn head (i + 1)) N c.match-status.left = λ x e. subst (λ (s : Ways). Leaves p (HeadIn head (i + 1)) N s) (sym e) in
    elim c.match-status.branch [
      | in-Out w ↦ at_left _ w.left-is (heads_out p N head i c.loop-a.left c.loop-a.invariant (sym c.status.ensures ∙ w.in-Out.is))
      | in-Open w ↦ at_left _ (w.left-is ∙ w.and-left.ensures) (heads_open p N head i c.loop-a.left c.loop-a.invariant (sym c.status.ensures ∙ w.in-Open.is))
    ]

pub loop-t-init : goal.loop-t-init
loop-t-init g c =
    body_none (g.O.Oracle.meaning c.args.self.now.oracle.now) c.args.self.now.plan.now c.args.row.now c.loop-a.a-index c.loop-a.left c.loop-a-test.false c.loop-a.invariant

pub loop-t-preserved : goal.loop-t-preserved
loop-t-preserved g c =
    let m = g.O.Oracle.meaning c.args.self.now.oracle.now in
    let p = c.args.self.now.plan.now in
    let r = c.args.row.now in
    let i = c.loop-t.t-index in
    let F : Ways → Type 0 = Leaves p (Meets m r (length r.head) (i + 1)) (Known m r.body) in
    let at_left : (x : Ways) → c.match-truth.left ≡ x → F x → F c.match-truth.left = λ x e. subst F (sym e) in
    elim c.match-truth.branch [
      | in-Some-true w ↦ at_left _ w.left-is (body_true m p r i c.loop-t.left c.loop-t.invariant (rw w.in-Some-true.field-0-test at w.in-Some-true.ensures))
      | in-None w ↦
          at_left _ (w.left-is ∙ w.and-left-in-None.ensures ∙ ap (ways_and c.loop-t.left) w.way_to_fail.ensures)
          (body_unsure m p r i c.loop-t.left c.loop-t-test.true c.loop-t.invariant w.in-None.ensures)
    ]

pub returns : goal.returns
returns g c =
    done (g.O.Oracle.meaning c.args.self.now.oracle.now) c.args.self.now.plan.now c.args.row.now c.loop-t.t-index c.loop-t.left c.loop-t-test.false c.loop-t.invariant
