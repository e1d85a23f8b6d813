use Rattle.std.proofs.Common.{◌≡◌, ℕ, ◌<◌, ◌+◌, Bool, true, false, length, get_or, refl, ◌∙◌, rules, tests, subst, arith}
use Rattle.std.specs.Bool.{MatchBool}
use Rattle.std.specs.List.{range_with_len, AllWithin, HoldsAt}
use Rattle.std.proofs.lemmas.Iterator.{YieldsList-from_range, cases_from_any}
use Rattle.std.proofs.lemmas.List.FromFn.{length-range_with_len, get_or-range_with_len}
use Rattle.plans.specs.Partial.{full}
use Rattle.plans.specs.declared.partial_plan.PartialPlan.{PartialPlan}
use Rattle.plans.proofs.Partial.{full_within}
use Rattle.judge.specs.Search.{Lacking}
use Rattle.judge.proofs.search.lacks.Goals as goal

module _ (plan rest : PartialPlan) where
  abbrev Gone : ℕ → Type 0
  Gone a = (full plan a ≡ true) × (full rest a ≡ false)

  abbrev Stays : ℕ → Type 0
  Stays a = full plan a ≡ true → full rest a ≡ true

  lacking : (r : Bool) → MatchBool r ((k : ℕ) × (k < length (range_with_len 0 255)) × HoldsAt Gone (range_with_len 0 255) k) (AllWithin Stays (range_with_len 0 255) 0 (length (range_with_len 0 255))) → Lacking plan rest r
  lacking true h =
      let gone = h.2 0 in (get_or (range_with_len 0 255) h.0 0, gone.0, gone.1)
  lacking false h = λ a e.
      let small = (full_within plan).small a e in
      let at : get_or (range_with_len 0 255) a 0 ≡ a = get_or-range_with_len 0 255 a 0 small ∙ (let z : 0 + a ≡ a = omega arith in z) in
      subst Stays at (h a 0 (omega arith) (omega (arith, length-range_with_len 0 255))) e

pub returns : goal.returns
returns c =
    let plan = c.args.plan.now in
    let rest = c.args.rest.now in
    lacking plan rest _ (cases_from_any _ _ _ (Gone plan rest) (Stays plan rest) c.any.ensures.ran (YieldsList-from_range 0 255 255 refl refl) (λ x q k. search (rules, tests)) (λ x q k. search (rules, tests)))
