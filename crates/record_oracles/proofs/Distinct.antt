-- How many different numbers a list has. Assumes nothing.
use Rattle.std.proofs.Common.{◌≡◌, ℕ, zero, suc, ◌+◌, ◌≤◌, Bool, true, false, cond, ◌||◌, eqb, List, [], ◌∷◌, length, sym, refl, ap, ◌∙◌, subst, ⊎_elim, arith}
use Rattle.std.proofs.lemmas.Bool.{both_ways, cases_Bool, or_cases, or_left, or_right, eqb-true, eqb-false, eq-eqb, ne_eqb}
use Rattle.semantics.specs.Program.{any, Each}
use Rattle.record_oracles.specs.Weeks.{distinct, Different}

abbrev pub among : ℕ → List ℕ → Bool
among v ws = any (eqb v) ws

abbrev pub Inside : List ℕ → List ℕ → Type 0
Inside vs ws = (v : ℕ) → among v vs ≡ true → among v ws ≡ true

pub not_among : (v : ℕ) (vs ws : List ℕ) → Inside vs ws → among v ws ≡ false → among v vs ≡ false
not_among v vs ws sub e =
    ⊎_elim (λ (t : among v vs ≡ true). absurd (both_ways (among v ws) e (sub v t))) (λ (f : among v vs ≡ false). f) (cases_Bool (among v vs))

-- so many different numbers of a list
pub record Chosen (ws : List ℕ) (n : ℕ) : Type 0 where
  pub some : List ℕ
  pub many : length some ≡ n
  pub different : Different some
  pub inside : Inside some ws

chosen_none : (ws : List ℕ) → Chosen ws 0
chosen_none ws = record { some = []; many = refl; different = tt; inside = λ v e. absurd (both_ways false refl e) }

chosen_again : (w : ℕ) (ws : List ℕ) (n : ℕ) → Chosen ws n → Chosen (w ∷ ws) n
chosen_again w ws n c =
    record { some = c.some; many = c.many; different = c.different; inside = λ v e. or_right (eqb v w) (among v ws) (c.inside v e) }

chosen_new : (w : ℕ) (ws : List ℕ) (n : ℕ) → among w ws ≡ false → Chosen ws n → Chosen (w ∷ ws) (suc n)
chosen_new w ws n e c =
    record {
      some = w ∷ c.some;
      many = ap suc c.many;
      different = (not_among w c.some ws c.inside e, c.different);
      inside = λ v h.
          ⊎_elim
          (λ (s : eqb v w ≡ true). or_left (eqb v w) (among v ws) s)
          (λ (t : among v c.some ≡ true). or_right (eqb v w) (among v ws) (c.inside v t))
          (or_cases (eqb v w) (among v c.some) h);
    }

choose_more : (w : ℕ) (ws : List ℕ) → ((n : ℕ) → n ≤ distinct ws → Chosen ws n) → (b : Bool) → among w ws ≡ b → (n : ℕ) → n ≤ cond b 0 1 + distinct ws → Chosen (w ∷ ws) n
choose_more w ws rest true e n le = chosen_again w ws n (rest n (omega arith))
choose_more w ws rest false e zero le = chosen_none (w ∷ ws)
choose_more w ws rest false e (suc n) le = chosen_new w ws n e (rest n (omega arith))

pub choose : (ws : List ℕ) (n : ℕ) → n ≤ distinct ws → Chosen ws n
choose [] zero le = chosen_none []
choose [] (suc n) le = absurd (omega arith)
choose (w ∷ ws) n le = choose_more w ws (choose ws) (among w ws) refl n le

-- a list without one of its numbers
abbrev without : ℕ → List ℕ → List ℕ
without v [] = []
without v (w ∷ ws) = cond (eqb v w) (without v ws) (w ∷ without v ws)

among_passed : (u v w : ℕ) (ws : List ℕ) → (u ≡ v → ⊥) → among u (without v ws) ≡ among u ws → (b : Bool) → eqb v w ≡ b → among u (cond b (without v ws) (w ∷ without v ws)) ≡ (eqb u w || among u ws)
among_passed u v w ws ne rest true e = rest ∙ ap (λ b. b || among u ws) (sym (ne_eqb u w (λ q. ne (q ∙ sym (eqb-true v w e)))))
among_passed u v w ws ne rest false e = ap (λ b. eqb u w || b) rest

among_without : (u v : ℕ) (ws : List ℕ) → (u ≡ v → ⊥) → among u (without v ws) ≡ among u ws
among_without u v [] ne = refl
among_without u v (w ∷ ws) ne = among_passed u v w ws ne (among_without u v ws ne) (eqb v w) refl

one_of : (b : Bool) → cond b 0 1 + cond b 1 0 ≡ 1
one_of true = refl
one_of false = refl

distinct_passed : (v w : ℕ) (ws : List ℕ) → distinct ws ≡ cond (among v ws) 1 0 + distinct (without v ws) → (b : Bool) → eqb v w ≡ b → cond (among w ws) 0 1 + distinct ws ≡ cond (b || among v ws) 1 0 + distinct (cond b (without v ws) (w ∷ without v ws))
distinct_passed v w ws rest true e =
    let same : ◌≡◌ {A = ℕ} (cond (among w ws) 0 1) (cond (among v ws) 0 1) = ap (λ (n : ℕ). cond (among n ws) 0 1) (sym (eqb-true v w e)) in
    omega (arith, same, one_of (among v ws), rest)
distinct_passed v w ws rest false e =
    let same : ◌≡◌ {A = ℕ} (cond (among w (without v ws)) 0 1) (cond (among w ws) 0 1) = ap (λ b. cond b 0 1) (among_without w v ws (λ q. eqb-false v w e (sym q))) in
    omega (arith, same, rest)

distinct_without : (v : ℕ) (ws : List ℕ) → distinct ws ≡ cond (among v ws) 1 0 + distinct (without v ws)
distinct_without v [] = refl
distinct_without v (w ∷ ws) = distinct_passed v w ws (distinct_without v ws) (eqb v w) refl

-- different numbers of a list are no more than it has
pub different_le : (vs ws : List ℕ) → Different vs → Inside vs ws → length vs ≤ distinct ws
different_le [] ws d sub = omega arith
different_le (v ∷ vs) ws d sub =
    let here : among v ws ≡ true = sub v (or_left (eqb v v) (among v vs) (eq-eqb v v refl)) in
    let one : ◌≡◌ {A = ℕ} (cond (among v ws) 1 0) 1 = ap (λ b. cond b 1 0) here in
    let rest = different_le vs (without v ws) d.1 (λ u e. among_without u v ws (λ q. both_ways (among v vs) d.0 (subst (λ (n : ℕ). among n vs ≡ true) q e)) ∙ sub u (or_right (eqb u v) (among u vs) e)) in
    omega (arith, distinct_without v ws, one, rest)

pub distinct_mono : (ws zs : List ℕ) → Inside ws zs → distinct ws ≤ distinct zs
distinct_mono ws zs sub =
    let c = choose ws (distinct ws) (omega arith) in
    omega (arith, c.many, different_le c.some zs c.different (λ v e. sub v (c.inside v e)))

pub each_among : (P : ℕ → Type 0) (vs : List ℕ) → ((v : ℕ) → among v vs ≡ true → P v) → Each P vs
each_among P [] h = tt
each_among P (v ∷ vs) h =
    (h v (or_left (eqb v v) (among v vs) (eq-eqb v v refl)), each_among P vs (λ u e. h u (or_right (eqb u v) (among u vs) e)))

pub among_each : (P : ℕ → Type 0) (vs : List ℕ) → Each P vs → (v : ℕ) → among v vs ≡ true → P v
among_each P [] h v e = absurd (both_ways false refl e)
among_each P (w ∷ ws) h v e =
    ⊎_elim
    (λ (s : eqb v w ≡ true). subst P (sym (eqb-true v w s)) h.0)
    (λ (t : among v ws ≡ true). among_each P ws h.1 v t)
    (or_cases (eqb v w) (among v ws) e)
