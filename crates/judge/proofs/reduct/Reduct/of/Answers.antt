use Rattle.std.proofs.Common.{◌≡◌, ℕ, ◌<◌, Bool, false, length, get_or, set, sym, ◌∙◌, subst, ⊎_elim, arith}
use Rattle.std.proofs.lemmas.Bool.{cases_eq}
use Rattle.std.proofs.lemmas.List.{get_or-set_same, get_or-set_other, length-set}
use Rattle.semantics.specs.Program.{body_true}
use Rattle.plans.specs.Partial.{full}
use Rattle.rulebook.specs.Rules.{rule_of, no_row}
use Rattle.judge.proofs.Satisfied.{rows_known}
use Rattle.judge.proofs.reduct.Reduct.of.Goals as goal

pub loop-number-preserved : goal.loop-number-preserved
loop-number-preserved g c =
    let m = g.O.Oracle.meaning c.args.oracle.now in
    let rows = c.args.rows.now in
    let plan = c.args.plan.now in
    let live = c.loop-number.live in
    let i = c.loop-number.number in
    let lt : i < length rows = omega (arith, c.loop-number-test.true) in
    let here = c.holds.ensures (rows_known m rows c.requires.known i lt) c.requires.decided in
    let Exact : ℕ → Bool → Type 0 = λ k v. v ≡ body_true m (full plan) (rule_of (get_or rows k no_row)) in (
      length-set live i c.holds.result ∙ c.loop-number.invariant.0,
      λ k l.
          ⊎_elim
          (λ (e : k ≡ i). subst (λ (n : ℕ). Exact n (get_or (set live i c.holds.result) n false)) (sym e) (get_or-set_same live i c.holds.result false (omega (arith, c.loop-number.invariant.0, c.requires.few)) ∙ here))
          (λ (ne : k ≡ i → ⊥). get_or-set_other live i k c.holds.result false ne ∙ c.loop-number.invariant.1 k (omega (arith, ne)))
          (cases_eq k i),
    )
