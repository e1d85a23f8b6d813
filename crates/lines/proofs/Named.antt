-- What is said of a broken rule, and of a set that a check names: it has few atoms, and its bytes are read as the set.
use Rattle.std.proofs.Common.{◌∙◌, ◌≡◌, ℕ, zero, suc, ◌<◌, ◌≤◌, Bool, true, false, cond, List, [], ◌∷◌, length, get_or, Some, None, Option, unwrap_or, sym, refl, ap, subst, arith, MatchOption}
use Rattle.std.proofs.lemmas.List.{length-append, get_or_past}
use Rattle.semantics.specs.Program.{Interp, Plan, Rule, Meaning, no_rule, atom_limit}
use Rattle.semantics.specs.Judge.{broken, unfounded}
use Rattle.semantics.specs.Check.{Checked, answered, checked, size_below, search_limit}
use Rattle.semantics.proofs.Checks.{named_few}
use Rattle.plans.specs.Bits.{marked, bytes_of}
use Rattle.plans.proofs.Bits.{marked_plan, marked_bytes}
use Rattle.lines.specs.Said.{breaks, circle, members, members_below, said_of}

members_size : (X : Interp) (n : ℕ) → length (members_below X n) ≡ size_below n X
unfolding members_below size_below
members_size X zero = refl
members_size X (suc n) = omega (arith, length-append (members_below X n) (cond (X n) (n ∷ []) []), members_size X n, one (X n))
  where
    one : (b : Bool) → length (cond b (n ∷ []) []) ≡ cond b 1 0
    one true = refl
    one false = refl

-- a check names a set in the place
abbrev pub Names : List Rule → Meaning → List ℕ → List ℕ → Type 0
Names rules m bytes place = (X : Interp) × (checked rules m (marked bytes) ≡ answered (unfounded X)) × (place ≡ bytes_of X)

module _ (rules : List Rule) (m : Meaning) (bytes place : List ℕ) (names : Names rules m bytes place) where
  named_plan : Plan names.0
  named_plan a x = marked_plan bytes a ((named_few rules m (marked bytes) names.0 (marked_plan bytes) names.1).0 a x)

  named_read : marked place ≡ names.0
  named_read = ap marked names.2 ∙ marked_bytes names.0 named_plan

  pub named_fits : length (members (marked place)) ≤ 24
  unfolding search_limit
  named_fits =
      let few = (named_few rules m (marked bytes) names.0 (marked_plan bytes) names.1).1 in
      subst (λ (Y : Interp). length (members Y) ≤ 24) (sym named_read) (omega (arith, members_size names.0 atom_limit, few))

  pub named_said : (label : ℕ) (bits : List ℕ) → bits ≡ place → circle label (marked bits) ≡ said_of label rules (checked rules m (marked bytes))
  named_said label bits same = ap (circle label) (ap marked same ∙ named_read) ∙ sym (ap (said_of label rules) names.1)

-- the label of a broken rule
label_or : (o : Option ℕ) (rules : List Rule) (len n : ℕ) → len ≡ length rules → MatchOption o (len ≤ n) (λ l. (n < len) × (l ≡ (get_or rules n no_rule).label)) → unwrap_or o 0 ≡ (get_or rules n no_rule).label
label_or None rules len n long h = let past : length rules ≤ n = omega arith in sym (ap (λ (r : Rule). r.label) (get_or_past rules n no_rule past))
label_or (Some l) rules len n long h = h.1

pub broken_said : (label : ℕ) (rules : List Rule) (c : Checked) (o : Option ℕ) (len n : ℕ) → len ≡ length rules → c ≡ answered (broken n) → MatchOption o (len ≤ n) (λ l. (n < len) × (l ≡ (get_or rules n no_rule).label)) → breaks label (unwrap_or o 0) ≡ said_of label rules c
broken_said label rules c o len n long e h = ap (breaks label) (label_or o rules len n long h) ∙ sym (ap (said_of label rules) e)
