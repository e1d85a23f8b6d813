-- Sums of the weights that are in. Assumes nothing.
use Rattle.std.proofs.Common.{◌≡◌, ℕ, ◌+◌, ◌<◌, ◌≤◌, Bool, true, false, cond, List, [], ◌∷◌, get_or, drop, length, sym, refl, ap, ◌∙◌, arith}
use Rattle.std.proofs.lemmas.List.{at_drop_more}
use Rattle.std.proofs.lemmas.Bool.{both_ways}
use Rattle.plans.specs.declared.partial_plan.PartialPlan.{PartialPlan}
use Rattle.sources.specs.declared.sum_source.Weighted.{Weighted}
use Rattle.record_oracles.specs.Inputs.{holds, filled}
use Rattle.record_oracles.specs.Sums.{weight_in}
use Rattle.record_oracles.specs.Amounts.{Grows}
use Rattle.record_oracles.proofs.Bounds.{holds_filled}

weigh_mono : (x y : Bool) (w : ℕ) → (x ≡ true → y ≡ true) → cond x w 0 ≤ cond y w 0
weigh_mono true true w h = omega arith
weigh_mono true false w h = absurd (both_ways false refl (h refl))
weigh_mono false y w h = omega arith

pub weight_grows : (ts : List Weighted) → Grows (λ I. weight_in I ts)
weight_grows [] I J sub = omega arith
weight_grows (t ∷ ts) I J sub =
    omega (arith, weigh_mono (holds I t.atom) (holds J t.atom) t.weight (sub t.atom), weight_grows ts I J sub)

-- one input more
pub weight_more : (b : Bool) (p : PartialPlan) (ts : List Weighted) (k : ℕ) (d : Weighted) (v : Bool) → k < length ts → v ≡ filled b p (get_or ts k d).atom → weight_in (filled b p) (drop k ts) ≡ cond v (get_or ts k d).weight 0 + weight_in (filled b p) (drop (k + 1) ts)
weight_more b p ts k d v lt is =
    at_drop_more (weight_in (filled b p)) ts k d lt
    ∙ ap (λ x. cond x (get_or ts k d).weight 0 + weight_in (filled b p) (drop (k + 1) ts)) (holds_filled b p (get_or ts k d).atom ∙ sym is)
