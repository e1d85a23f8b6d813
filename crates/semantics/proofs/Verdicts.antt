-- Each answer of `judge` is given exactly when it is right. Assumes nothing.
use mathlib.Core.Path.{◌≡◌, refl, sym, ◌∙◌, ap, subst, fun_ext}
use mathlib.Core.Bool.{Bool, true, false, not, ◌||◌, false≢true}
use mathlib.Core.List.{List, [], ◌∷◌}
use mathlib.Core.Option.{Option, none, some}
use mathlib.Core.Logic.{◌⊎◌, inl, inr}
use Prim.Native.Nat.{ℕ, zero, suc, ◌+◌, ◌<◌}
use native.Mathlib.Omega.{arith}
use native.Mathlib.Decide.{dec_lt}
use lib.ListN.{length, get_or}
use Rattle.std.proofs.lemmas.Bool.{cases_Bool, false_from_ne_true, and_from, and_parts, or_left, or_right, or_cases, not-true}
use Rattle.semantics.specs.Program.{Interp, Plan, atom_limit, Rule, Meaning, any, all, Each, body_true, satisfied, Model, Subset, ◌∖◌, Excused, false_here, false_without, other_head, Unfounded, Earlier, Earliest, LowestBroken, no_rule}
use Rattle.semantics.specs.Judge.{Verdict, stands, broken, unfounded, judge, seek, first_broken, any_below, excused, unfounded_test}
use Rattle.semantics.specs.Theorems.{Says, JudgeRight}
use Rattle.semantics.proofs.Facts.{clash, each_map, each_all, all_each}
use Rattle.semantics.proofs.Seeking.{Ranged, Sought, sought}

each_at : {A : Type 0} (P : A → Type 0) (d : A) (xs : List A) (k : ℕ) → k < length xs → Each P xs → P (get_or xs k d)
each_at P d [] k h t = absurd (omega arith)
each_at P d (x ∷ xs) zero h t = t.0
each_at P d (x ∷ xs) (suc k) h t = each_at P d xs k (omega arith) t.1

-- the first broken rule
abbrev Walked : Meaning → Interp → ℕ → List Rule → Option ℕ → Type 0
Walked m I n rules none = Model m I rules
Walked m I n rules (some k) = (j : ℕ) × (n + j ≡ k) × LowestBroken rules m I j

walked : (m : Meaning) (I : Interp) (n : ℕ) (rules : List Rule) → Walked m I n rules (first_broken m I n rules)
walked m I n [] = tt
walked m I n (r ∷ rules) = go (satisfied m I r) refl (first_broken m I (suc n) rules) (walked m I (suc n) rules)
  where
    none_before : (k : ℕ) → k < 0 → satisfied m I (get_or (r ∷ rules) k no_rule) ≡ true
    none_before k h = absurd (omega arith)

    go : (b : Bool) → satisfied m I r ≡ b → (o : Option ℕ) → Walked m I (suc n) rules o → Walked m I n (r ∷ rules) (elim b [ false ↦ some n | true ↦ o ])
    go false e o w = (0, omega arith, record { present = omega arith; broken = e; before = none_before })
    go true e none w = (e, w)
    go true e (some k) w = (suc w.0, omega arith, record { present = omega (arith, w.2.present); broken = w.2.broken; before = before })
      where
        before : (i : ℕ) → i < suc w.0 → satisfied m I (get_or (r ∷ rules) i no_rule) ≡ true
        before zero h = e
        before (suc i) h = w.2.before i (omega arith)

lowest_unique : (rules : List Rule) (m : Meaning) (I : Interp) (n k : ℕ) → LowestBroken rules m I n → LowestBroken rules m I k → n ≡ k
lowest_unique rules m I n k p q =
    elim (dec_lt n k) [
      | yes h ↦ clash (q.before n h) p.broken
      | no h ↦ elim (dec_lt k n) [ yes h' ↦ clash (p.before k h') q.broken | no h' ↦ omega arith ]
    ]

-- a nonempty set
some_below : (n : ℕ) (X : Interp) → any_below n X ≡ true → (a : ℕ) × (X a ≡ true)
unfolding any_below
some_below zero X e = absurd (false≢true e)
some_below (suc n) X e = elim (or_cases (X n) (any_below n X) e) [ inl h ↦ (n, h) | inr h ↦ some_below n X h ]

below_some : (n : ℕ) (X : Interp) (a : ℕ) → a < n → X a ≡ true → any_below n X ≡ true
unfolding any_below
below_some zero X a h e = absurd (omega arith)
below_some (suc n) X a h e =
    elim (dec_lt a n) [
      | yes l ↦ or_right (X n) (any_below n X) (below_some n X a l e)
      | no l ↦ let q : a ≡ n = omega arith in or_left (X n) (any_below n X) (subst (λ (c : ℕ). X c ≡ true) q e)
    ]

-- the test of a rule
module _ (m : Meaning) (I X : Interp) (r : Rule) where
  excuse : excused m I X r ≡ true → any X r.head ≡ true → Excused m I X r
  excuse t x =
      elim (or_cases (not (any X r.head)) _ t) [
        | inl e ↦ clash e (ap not x)
        | inr t ↦
            elim (or_cases (not (body_true m I r)) _ t) [
              | inl e ↦ false_here (not-true (body_true m I r) e)
              | inr t ↦
                  elim (or_cases (not (body_true m (I ∖ X) r)) (any (I ∖ X) r.head) t)
                  [ inl e ↦ false_without (not-true (body_true m (I ∖ X) r) e) | inr e ↦ other_head e ]
            ]
      ]

  excused_by : (any X r.head ≡ true → Excused m I X r) → excused m I X r ≡ true
  excused_by f =
      elim (cases_Bool (any X r.head)) [
        | inr e ↦ or_left _ _ (ap not e)
        | inl e ↦ or_right (not (any X r.head)) _ (given (f e))
      ]
    where
      given : Excused m I X r → (not (body_true m I r) || (not (body_true m (I ∖ X) r) || any (I ∖ X) r.head)) ≡ true
      given (false_here e) = or_left _ _ (ap not e)
      given (false_without e) = or_right (not (body_true m I r)) _ (or_left _ _ (ap not e))
      given (other_head e) = or_right (not (body_true m I r)) _ (or_right (not (body_true m (I ∖ X) r)) _ e)

differ : (n : ℕ) (X Y : Interp) → ((b : ℕ) → b < n → X b ≡ Y b) ⊎ (Earlier X Y ⊎ Earlier Y X)
differ zero X Y = inl (λ b h. absurd (omega arith))
differ (suc n) X Y = elim (differ n X Y) [ inr e ↦ inr e | inl same ↦ go same (X n) (Y n) refl refl ]
  where
    more : ((b : ℕ) → b < n → X b ≡ Y b) → X n ≡ Y n → (b : ℕ) → b < suc n → X b ≡ Y b
    more same e b h = elim (dec_lt b n) [ yes l ↦ same b l | no l ↦ let q : n ≡ b = omega arith in subst (λ (c : ℕ). X c ≡ Y c) q e ]

    go : ((b : ℕ) → b < n → X b ≡ Y b) → (x y : Bool) → X n ≡ x → Y n ≡ y → ((b : ℕ) → b < suc n → X b ≡ Y b) ⊎ (Earlier X Y ⊎ Earlier Y X)
    go same true true p q = inl (more same (p ∙ sym q))
    go same true false p q = inr (inr (record { place = n; same = λ b h. sym (same b h); lacks = q; has = p }))
    go same false true p q = inr (inl (record { place = n; same = same; lacks = p; has = q }))
    go same false false p q = inl (more same (p ∙ sym q))

module _ (rules : List Rule) (m : Meaning) (I : Interp) (plan : Plan I) where
  abbrev Holds : Verdict → Type 0
  Holds = Says rules m I

  pub passes : (X : Interp) → Unfounded rules m I X → unfounded_test rules m I X ≡ true
  passes X u =
      and_from (any_below atom_limit X) (all (excused m I X) rules)
      (below_some atom_limit X u.member.0 (plan u.member.0 (u.inside u.member.0 u.member.1)) u.member.1)
      (each_all (excused m I X) rules (each_map rules (λ r. excused_by m I X r) u.excused))

  pub passed : (X : Interp) → Subset X I → unfounded_test rules m I X ≡ true → Unfounded rules m I X
  passed X s t =
      let parts = and_parts (any_below atom_limit X) (all (excused m I X) rules) t in
      record {
        member = some_below atom_limit X parts.0;
        inside = s;
        excused = each_map rules (λ r. excuse m I X r) (all_each (excused m I X) rules parts.1);
      }

  ranged : (Y : Interp) → Subset Y I → Ranged atom_limit 0 I Y
  ranged Y s b e = let p = plan b (s b e) in (s b e, omega arith, omega arith)

  searched : Model m I rules → (o : Option Interp) → Sought atom_limit 0 I (unfounded_test rules m I) o → Holds (elim o [ some X ↦ unfounded X | none ↦ stands ])
  searched ok none s = record { model = ok; free = λ X u. s X (ranged X u.inside) (passes X u) }
  searched ok (some X) s = (
    ok,
    record {
      holds = passed X (λ a e. (s.0 a e).0) s.1;
      first = λ Y u q. s.2 Y (ranged Y u.inside) (passes Y u) q;
    },
  )

  holds : Holds (judge rules m I)
  unfolding judge
  holds = go (first_broken m I 0 rules) (walked m I 0 rules)
    where
      go : (o : Option ℕ) → Walked m I 0 rules o → Holds (elim o [ some n ↦ broken n | none ↦ elim (seek atom_limit 0 I (unfounded_test rules m I)) [ some X ↦ unfounded X | none ↦ stands ] ])
      go (some n) w = let e : w.0 ≡ n = omega (arith, w.1) in subst (λ (k : ℕ). LowestBroken rules m I k) e w.2
      go none w = searched w (seek atom_limit 0 I (unfounded_test rules m I)) (sought atom_limit 0 I (unfounded_test rules m I))

  not_both : {A : Type 0} (n : ℕ) → Model m I rules → LowestBroken rules m I n → A
  not_both n ok b = clash (each_at (λ r. satisfied m I r ≡ true) no_rule rules n b.present ok) b.broken

  earliest_unique : (X Y : Interp) → Earliest (Unfounded rules m I) X → Earliest (Unfounded rules m I) Y → X ≡ Y
  earliest_unique X Y p q =
      elim (differ atom_limit X Y) [
        | inr e ↦ elim e [ inl e ↦ absurd (q.first X p.holds e) | inr e ↦ absurd (p.first Y q.holds e) ]
        | inl same ↦ fun_ext (λ b. elim (dec_lt b atom_limit) [ yes h ↦ same b h | no h ↦ beyond X p.holds.inside b h ∙ sym (beyond Y q.holds.inside b h) ])
      ]
    where
      beyond : (Z : Interp) → Subset Z I → (b : ℕ) → ¬ (b < atom_limit) → Z b ≡ false
      beyond Z s b h = false_from_ne_true (Z b) (λ e. h (plan b (s b e)))

  unique : (v w : Verdict) → Holds v → Holds w → v ≡ w
  unique stands stands p q = refl
  unique stands (broken n) p q = not_both n p.model q
  unique stands (unfounded X) p q = absurd (p.free X q.1.holds)
  unique (broken n) stands p q = not_both n q.model p
  unique (broken n) (broken k) p q = ap broken (lowest_unique rules m I n k p q)
  unique (broken n) (unfounded X) p q = not_both n q.0 p
  unique (unfounded X) stands p q = absurd (q.free X p.1.holds)
  unique (unfounded X) (broken n) p q = not_both n p.0 q
  unique (unfounded X) (unfounded Y) p q = ap unfounded (earliest_unique X Y p.1 q.1)

pub judge_right : JudgeRight
judge_right rules m I plan v = (
  λ e. subst (Says rules m I) e (holds rules m I plan),
  unique rules m I plan (judge rules m I) v (holds rules m I plan),
)
