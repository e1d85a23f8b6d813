-- The weeks of the inputs that are in. Assumes nothing.
use Rattle.std.proofs.Common.{◌≡◌, ℕ, suc, ◌+◌, Bool, true, false, cond, not, ◌&&◌, ◌||◌, eqb, leb, List, [], ◌∷◌, length, drop, filter, sym, refl, ap, ◌∙◌, ⊎_elim, arith}
use Rattle.std.specs.List.{list_any, enumerate_from}
use Rattle.std.proofs.lemmas.Bool.{and_parts, and_from, or_cases, or_left, or_right, le-leb, leb-true}
use Rattle.semantics.specs.Program.{Interp, any}
use Rattle.plans.specs.declared.partial_plan.PartialPlan.{PartialPlan}
use Rattle.sources.specs.declared.week_source.Dated.{Dated}
use Rattle.record_oracles.specs.Inputs.{holds, filled}
use Rattle.record_oracles.specs.Weeks.{week_of, weeks_in, distinct, visited, Enough, WeeksStand}
use Rattle.record_oracles.specs.Amounts.{Below, Grows}
use Rattle.record_oracles.proofs.Bounds.{holds_filled}
use Rattle.record_oracles.proofs.Distinct.{among, Inside, choose, different_le, distinct_mono, each_among, among_each}

pub among_if : (h : Bool) (w v : ℕ) (ws : List ℕ) → among w (cond h (v ∷ ws) ws) ≡ ((h && eqb w v) || among w ws)
among_if true w v ws = refl
among_if false w v ws = refl

distinct_if : (h : Bool) (v : ℕ) (ws : List ℕ) → distinct (cond h (v ∷ ws) ws) ≡ cond h (cond (among v ws) 0 1) 0 + distinct ws
distinct_if true v ws = refl
distinct_if false v ws = omega arith

-- more inputs in, no fewer weeks
weeks_inside : (first : ℕ) (ts : List Dated) (I J : Interp) → Below I J → Inside (weeks_in I first ts) (weeks_in J first ts)
weeks_inside first [] I J sub v e = e
weeks_inside first (t ∷ ts) I J sub v e =
    let w = week_of first t.day in
    let i = holds I t.atom in
    let j = holds J t.atom in
    among_if j v w (weeks_in J first ts)
    ∙ ⊎_elim
    (λ (h : (i && eqb v w) ≡ true). let both = and_parts i (eqb v w) h in or_left (j && eqb v w) (among v (weeks_in J first ts)) (and_from j (eqb v w) (sub t.atom both.0) both.1))
    (λ (h : among v (weeks_in I first ts) ≡ true). or_right (j && eqb v w) (among v (weeks_in J first ts)) (weeks_inside first ts I J sub v h))
    (or_cases (i && eqb v w) (among v (weeks_in I first ts)) (sym (among_if i v w (weeks_in I first ts)) ∙ e))

pub weeks_grow : (first : ℕ) (ts : List Dated) → Grows (λ I. distinct (weeks_in I first ts))
weeks_grow first ts I J sub = distinct_mono (weeks_in I first ts) (weeks_in J first ts) (weeks_inside first ts I J sub)

cond_one : (h a : Bool) → ◌≡◌ {A = ℕ} (cond (h && not a) 1 0) (cond h (cond a 0 1) 0)
cond_one true true = refl
cond_one true false = refl
cond_one false a = refl

length_if : {A : Type 0} (h : Bool) (x : A) (xs : List A) → length (cond h (x ∷ xs) xs) ≡ cond h 1 0 + length xs
length_if true x xs = omega arith
length_if false x xs = omega arith

-- the inputs that are in, where the open atoms are filled
module _ (b : Bool) (p : PartialPlan) (first : ℕ) where
  abbrev weeks : List Dated → List ℕ
  weeks ts = weeks_in (filled b p) first ts

  abbrev pub falls : ℕ → Dated → Bool
  falls w t = filled b p t.atom && eqb w (week_of first t.day)

  pub some_falls : (w : ℕ) (ts : List Dated) → list_any (falls w) ts ≡ among w (weeks ts)
  some_falls w [] = refl
  some_falls w (t ∷ ts) =
      ap (λ h. (h && eqb w (week_of first t.day)) || list_any (falls w) ts) (sym (holds_filled b p t.atom))
      ∙ ap (λ r. (holds (filled b p) t.atom && eqb w (week_of first t.day)) || r) (some_falls w ts)
      ∙ sym (among_if (holds (filled b p) t.atom) w (week_of first t.day) (weeks ts))

  -- no later input falls in its week
  abbrev pub is_last : List Dated → ℕ × Dated → Bool
  is_last all t = filled b p t.1.atom && not (among (week_of first t.1.day) (weeks (drop (t.0 + 1) all)))

  last_counted : (all : List Dated) (n : ℕ) (ts : List Dated) → ((k : ℕ) → drop k ts ≡ drop (n + k) all) → length (filter (is_last all) (enumerate_from n ts)) ≡ distinct (weeks ts)
  last_counted all n [] later = refl
  last_counted all n (t ∷ ts) later =
      let w = week_of first t.day in
      let one : ◌≡◌ {A = ℕ} (cond (is_last all (n, t)) 1 0) (cond (holds (filled b p) t.atom) (cond (among w (weeks ts)) 0 1) 0) =
      cond_one (filled b p t.atom) (among w (weeks (drop (n + 1) all)))
      ∙ ap (λ l. cond (filled b p t.atom) (cond (among w (weeks l)) 0 1) 0) (sym (later 1))
      ∙ ap (λ h. cond h (cond (among w (weeks ts)) 0 1) 0) (sym (holds_filled b p t.atom)) in
      let rest = last_counted all (n + 1) ts (λ k. later (suc k) ∙ ap (λ m. drop m all) (omega arith)) in
      omega (arith, length_if (is_last all (n, t)) (n, t) (filter (is_last all) (enumerate_from (n + 1) ts)), one, rest, distinct_if (holds (filled b p) t.atom) w (weeks ts))

  pub lasts_counted : (ts : List Dated) → length (filter (is_last ts) (enumerate_from 0 ts)) ≡ distinct (weeks ts)
  lasts_counted ts = last_counted ts 0 ts (λ k. ap (λ m. drop m ts) (omega arith))

-- the count in the subject's words
visited_among : (I : Interp) (first w : ℕ) (ts : List Dated) → any (λ (t : Dated). holds I t.atom && eqb w (week_of first t.day)) ts ≡ among w (weeks_in I first ts)
visited_among I first w [] = refl
visited_among I first w (t ∷ ts) =
    ap (λ b. (holds I t.atom && eqb w (week_of first t.day)) || b) (visited_among I first w ts)
    ∙ sym (among_if (holds I t.atom) w (week_of first t.day) (weeks_in I first ts))

pub weeks_counted : WeeksStand
weeks_counted s I = (enough, counted)
  where
    enough : leb s.wanted (distinct (weeks_in I s.first s.terms)) ≡ true → Enough I s
    enough e =
        let c = choose (weeks_in I s.first s.terms) s.wanted (leb-true s.wanted (distinct (weeks_in I s.first s.terms)) e) in
        record {
          weeks = c.some;
          many = c.many;
          different = c.different;
          each = each_among (λ w. visited I s w ≡ true) c.some (λ w h. visited_among I s.first w s.terms ∙ c.inside w h);
        }

    counted : Enough I s → leb s.wanted (distinct (weeks_in I s.first s.terms)) ≡ true
    counted e =
        le-leb s.wanted (distinct (weeks_in I s.first s.terms))
        (omega (arith, e.many, different_le e.weeks (weeks_in I s.first s.terms) e.different (λ w h. sym (visited_among I s.first w s.terms) ∙ among_each (λ v. visited I s v ≡ true) e.weeks e.each w h)))
