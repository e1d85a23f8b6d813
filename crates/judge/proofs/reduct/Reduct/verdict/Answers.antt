use Rattle.std.proofs.Common.{ℕ, replicate, sym, refl, ap, ◌∙◌}
use Rattle.semantics.specs.Check.{answered}
use Rattle.plans.specs.Partial.{full, removed}
use Rattle.rulebook.specs.Rules.{rules_of}
use Rattle.judge.proofs.Told.{told_broken, told_crowded, told_judged, judged_stands, judged_unfounded}
use Rattle.judge.proofs.reduct.Reduct.verdict.Goals as goal

pub returns-in-Some : goal.returns-in-Some
returns-in-Some g c =
    let s = c.args.self.now in
    let m = g.O.Oracle.meaning s.oracle.now in
    let rules = rules_of s.rows.now in (
      told_broken rules m (full s.plan.now) c.args.place.now c.requires s.known c.in-Some.n (sym c.in-Some.ensures),
      c.fill.ensures.after (λ y e. e) ∙ ap (λ (n : ℕ). replicate n 0) c.requires,
    )

pub returns-then-count_in-gt-SEARCH_LIMIT : goal.returns-then-count_in-gt-SEARCH_LIMIT
returns-then-count_in-gt-SEARCH_LIMIT g c =
    let s = c.args.self.now in
    let m = g.O.Oracle.meaning s.oracle.now in
    let rules = rules_of s.rows.now in (
      told_crowded rules m (full s.plan.now) c.args.place.now c.requires s.known (sym c.in_default.ensures) c.count_in.result c.count_in.ensures c.if-count_in-gt-SEARCH_LIMIT.true,
      refl,
    )

pub returns-in-None : goal.returns-in-None
returns-in-None g c =
    let s = c.args.self.now in
    let m = g.O.Oracle.meaning s.oracle.now in
    let rules = rules_of s.rows.now in
    let unbroken = sym c.in_default.ensures in (
      told_judged rules m (full s.plan.now) c.args.place.now c.requires s.known unbroken c.count_in.result c.count_in.ensures c.if-count_in-gt-SEARCH_LIMIT.false
          ∙ ap answered (judged_stands m s.rows.now s.live s.plan.now c.opened-rest.result s.exact c.opened-rest.ensures unbroken c.in-None.ensures),
      c.fill-in-None.ensures.after (λ y e. e) ∙ ap (λ (n : ℕ). replicate n 0) c.requires,
    )

pub returns-in-Some-search : goal.returns-in-Some-search
returns-in-Some-search g c =
    let s = c.args.self.now in
    let m = g.O.Oracle.meaning s.oracle.now in
    let rules = rules_of s.rows.now in
    let stays = c.in-Some-search.stays in
    let unbroken = sym c.in_default.ensures in (
      removed s.plan.now stays,
      told_judged rules m (full s.plan.now) c.args.place.now c.requires s.known unbroken c.count_in.result c.count_in.ensures c.if-count_in-gt-SEARCH_LIMIT.false
          ∙ ap answered (judged_unfounded m s.rows.now s.live s.plan.now c.opened-rest.result s.exact c.opened-rest.ensures unbroken s.decided stays c.in-Some-search.ensures),
      c.copy_from_slice.ensures.after ∙ c.bytes.ensures ∙ c.removed-unfounded.ensures,
    )
