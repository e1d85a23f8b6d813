-- A row by its places is its rule by the definitions. Assumes nothing.
use Rattle.std.proofs.Common.{◌≡◌, ℕ, zero, suc, ◌<◌, Bool, true, false, cond, not, ltb, List, [], ◌∷◌, length, get_or, None, Option, sym, refl, ◌∙◌, inl, inr, ⊎_elim, arith}
use mathlib.Core.Option.{Option as Found-option, none, some}
use Rattle.std.proofs.lemmas.List.Recursion.{and_at, and_fails_at, or_at}
use Rattle.std.proofs.lemmas.Bool.{both_ways, or_cases, or_left, or_right, and_cases, not-true, not_from_false}
use Rattle.semantics.specs.Program.{Interp, Plan, Rule, Meaning, any, all, Each, literal_true, body_true, satisfied, Model, atom_limit}
use Rattle.semantics.specs.Judge.{first_broken}
use Rattle.semantics.specs.Check.{literal_known, sources_known}
use Rattle.records.specs.declared.literal.Literal.{Literal}
use Rattle.records.specs.declared.row.RuleRow.{RuleRow}
use Rattle.rulebook.specs.Rules.{head_of, body_of, rule_of, rules_of, place_true, place_known, no_row}
use Rattle.judge.specs.Ways.{HeadIn, Fails, Sat, Known}
use Rattle.judge.specs.Search.{KnownAll}
use Rattle.judge.proofs.Rows.{known_one, true_one, head_one}

-- a head atom by its place
head_to : (K : Interp) (hs : List ℕ) → any K (head_of hs) ≡ true → HeadIn hs (length hs) K
head_to K [] e = absurd (both_ways false refl e)
head_to K (a ∷ hs) e = go (ltb a atom_limit) (head_to K hs) e
  where
    later : HeadIn hs (length hs) K → HeadIn (a ∷ hs) (length (a ∷ hs)) K
    later h = record { place = suc h.place; before = (let lt = h.before in omega arith); in_plan = h.in_plan }

    go : (t : Bool) → (any K (head_of hs) ≡ true → HeadIn hs (length hs) K) → any K (cond t (a ∷ head_of hs) (head_of hs)) ≡ true → HeadIn (a ∷ hs) (length (a ∷ hs)) K
    go true f e = ⊎_elim (λ (h : K a ≡ true). record { place = 0; before = omega arith; in_plan = h }) (λ (h : any K (head_of hs) ≡ true). later (f h)) (or_cases (K a) _ e)
    go false f e = later (f e)

head_from : (K : Interp) → Plan K → (hs : List ℕ) (k : ℕ) → k < length hs → K (get_or hs k 0) ≡ true → any K (head_of hs) ≡ true
head_from K small hs k lt e = or_at (λ l. any K (head_of l)) K refl (head_one K small) hs k 0 lt e

-- a literal by its place
module _ (b : Meaning) (K : Interp) where
  fails_later : (t : Option Literal) (ts : List (Option Literal)) → Fails b ts (length ts) K → Fails b (t ∷ ts) (length (t ∷ ts)) K
  fails_later t ts h = record { place = suc h.place; before = (let lt = h.before in omega arith); fails = h.fails }

  fails_here : (t : Option Literal) (ts : List (Option Literal)) → place_true b K t ≡ false → Fails b (t ∷ ts) (length (t ∷ ts)) K
  fails_here t ts e = record { place = 0; before = omega arith; fails = e }

  body_to : (ts : List (Option Literal)) → all (literal_true b K) (body_of ts) ≡ false → Fails b ts (length ts) K
  body_to [] e = absurd (both_ways true e refl)
  body_to (t ∷ ts) e =
      ⊎_elim (λ (h : place_true b K t ≡ false). fails_here t ts h) (λ (h : all (literal_true b K) (body_of ts) ≡ false). fails_later t ts (body_to ts h))
      (and_cases (place_true b K t) _ (sym (true_one b K t ts) ∙ e))

  body_from : (ts : List (Option Literal)) (k : ℕ) → k < length ts → place_true b K (get_or ts k None) ≡ false → all (literal_true b K) (body_of ts) ≡ false
  body_from ts k lt e = and_fails_at (λ l. all (literal_true b K) (body_of l)) (place_true b K) refl (true_one b K) ts k None lt e

  pub sat_to : (r : RuleRow) → satisfied b K (rule_of r) ≡ true → Sat b r K
  sat_to r e =
      ⊎_elim
      (λ (h : not (body_true b K (rule_of r)) ≡ true). inr (body_to r.body (not-true _ h)))
      (λ (h : any K (rule_of r).head ≡ true). inl (head_to K r.head h))
      (or_cases (not (body_true b K (rule_of r))) _ e)

  pub sat_from : Plan K → (r : RuleRow) → Sat b r K → satisfied b K (rule_of r) ≡ true
  sat_from small r (inl h) = or_right (not (body_true b K (rule_of r))) _ (head_from K small r.head h.place h.before h.in_plan)
  sat_from small r (inr h) = or_left _ (any K (rule_of r).head) (not_from_false _ (body_from r.body h.place h.before h.fails))

-- what holds of each rule
pub each_row : (P : Rule → Type 0) (rows : List RuleRow) (k : ℕ) → k < length rows → Each P (rules_of rows) → P (rule_of (get_or rows k no_row))
each_row P [] k lt t = absurd (omega arith)
each_row P (r ∷ rows) zero lt t = t.0
each_row P (r ∷ rows) (suc k) lt t = each_row P rows k (omega arith) t.1

pub rows_each : (P : Rule → Type 0) (rows : List RuleRow) → ((k : ℕ) → k < length rows → P (rule_of (get_or rows k no_row))) → Each P (rules_of rows)
rows_each P [] f = tt
rows_each P (r ∷ rows) f = (f 0 (omega arith), rows_each P rows (λ k lt. f (suc k) (omega arith)))

-- the sources
body_known : (b : Meaning) (ts : List (Option Literal)) → all (literal_known b) (body_of ts) ≡ true → Known b ts
body_known b ts e k lt = and_at (λ l. all (literal_known b) (body_of l)) (place_known b) refl (known_one b) ts k None lt e

pub rows_known : (b : Meaning) (rows : List RuleRow) → sources_known b (rules_of rows) ≡ true → KnownAll b rows
rows_known b rows e k lt = body_known b (get_or rows k no_row).body (and_at (λ l. sources_known b (rules_of l)) (λ r. all (literal_known b) (body_of r.body)) refl (λ _ _. refl) rows k no_row lt e)

-- no rule is broken
pub unbroken : (m : Meaning) (I : Interp) (n : ℕ) (rules : List Rule) → first_broken m I n rules ≡ none → Model m I rules
unbroken m I n [] e = tt
unbroken m I n (r ∷ rules) e = go (satisfied m I r) refl (unbroken m I (suc n) rules) e
  where
    go : (t : Bool) → satisfied m I r ≡ t → (first_broken m I (suc n) rules ≡ none → Model m I rules) → ◌≡◌ {A = Found-option ℕ} (elim t [ false ↦ some n | true ↦ first_broken m I (suc n) rules ]) none → Model m I (r ∷ rules)
    go true q f e = (q, f e)
    go false q f e = absurd (let z : ◌≡◌ {A = ℕ} 0 1 = cc in omega arith)
