-- The indices that a partial plan leaves possible, place by place. Assumes nothing.
use Rattle.std.proofs.Common.{◌≡◌, ℕ, zero, suc, ◌+◌, ◌^◌, ◌<◌, ◌≤◌, min, Bool, true, false, cond, not, ◌&&◌, eqb, ltb, leb, List, [], ◌∷◌, length, get_or, drop, Some, None, Decides, sym, refl, ap, ◌∙◌, subst, ⊎_elim, pow-suc, arith}
use mathlib.Core.Bool.{beq}
use Rattle.std.proofs.lemmas.List.{at_drop_more, at_drop_all}
use Rattle.std.proofs.lemmas.Bool.{leb-true, eqb-true, eq-eqb, ne_eqb, lt-ltb, ltb-true, and_parts, cond_both, cond-true, cond-false, cases_Bool, both_ways}
use Rattle.std.specs.Cmp.{booleans_Decides}
use Rattle.std.proofs.Math.Bool.{not-eq-not}
use Rattle.std.proofs.lemmas.Bool.Decides.{Decides-like}
use Rattle.semantics.specs.Program.{Interp, atom_limit}
use Rattle.plans.specs.declared.partial_plan.Status.{Status}
use Rattle.plans.specs.declared.partial_plan.Status.TheVariants.{Open, In, Out}
use Rattle.plans.specs.declared.partial_plan.PartialPlan.{PartialPlan}
use Rattle.plans.specs.Bits.{bit_in}
use Rattle.plans.specs.Partial.{status_at, place_at, Admits, Agrees, Opened}
use Rattle.plans.proofs.Partial.{place_open}
use Rattle.records.specs.Atoms.{ascends}
use Rattle.sources.specs.declared.table_source.TableSource.{TableSource}
use Rattle.record_oracles.specs.Inputs.{holds, filled, and_same}
use Rattle.record_oracles.specs.Truth.{Settles}
use Rattle.record_oracles.specs.Tables.{index_of, table_truth, Reaches}
use Rattle.record_oracles.proofs.Bounds.{agrees_place, filled_agrees}

-- an index rests on the atoms from `low` on alone, where the inputs ascend from there
index_above : (I J : Interp) (low k : ℕ) (xs : List ℕ) → ((a : ℕ) → low ≤ a → a < atom_limit → I a ≡ J a) → ascends low xs ≡ true → index_of I k xs ≡ index_of J k xs
index_above I J low k [] same up = refl
index_above I J low k (x ∷ xs) same up =
    let both = and_parts (leb low x) (ascends (min 255 (x + 1)) xs) up in
    let above = leb-true low x both.0 in
    let here = and_same (ltb x atom_limit) (I x) (J x) (λ e. same x above (ltb-true x atom_limit e)) in
    let rest = index_above I J (min 255 (x + 1)) (k + 1) xs (λ a ge lt. same a (omega arith) lt) both.1 in
    ap (λ b. cond b (2 ^ k) 0 + index_of I (k + 1) xs) here ∙ ap (λ n. cond (holds J x) (2 ^ k) 0 + n) rest

ascends_drop : (low : ℕ) (xs : List ℕ) (k : ℕ) → k < length xs → ascends low xs ≡ true → ascends (min 255 (get_or xs k 0 + 1)) (drop (k + 1) xs) ≡ true
ascends_drop low [] k lt up = absurd (omega arith)
ascends_drop low (x ∷ xs) zero lt up = (and_parts (leb low x) (ascends (min 255 (x + 1)) xs) up).1
ascends_drop low (x ∷ xs) (suc k) lt up =
    let q : suc k + 1 ≡ suc (k + 1) = omega arith in
    ap (λ (n : ℕ). ascends (min 255 (get_or xs k 0 + 1)) (drop n (x ∷ xs))) q
    ∙ ascends_drop (min 255 (x + 1)) xs k (omega arith) (and_parts (leb low x) (ascends (min 255 (x + 1)) xs) up).1

-- the same interpretation but for one open atom
module _ (p : PartialPlan) (I : Interp) (x : ℕ) (h : Bool) (o : Opened p x) where
  abbrev with_atom : Interp
  with_atom a = cond (eqb a x) h (I a)

  with_agrees : Agrees p I → Agrees p with_atom
  with_agrees ag a lt =
      cond_both (eqb a x) h (I a) (Admits (status_at p a))
      (λ e. subst (λ (s : Status). Admits s h) (sym (ap (status_at p) (eqb-true a x e) ∙ o.undecided)) tt)
      (λ e. ag a lt)

  with_holds : holds with_atom x ≡ h
  with_holds =
      ap (λ b. b && with_atom x) (lt-ltb x atom_limit o.is_atom)
      ∙ cond-true (eqb x x) h (I x) (eq-eqb x x refl)

  with_index : (k : ℕ) (xs : List ℕ) → ascends (min 255 (x + 1)) xs ≡ true → index_of with_atom k xs ≡ index_of I k xs
  with_index k xs up = index_above with_atom I (min 255 (x + 1)) k xs (λ a ge lt. cond-false (eqb a x) h (I a) (ne_eqb a x (λ e. omega arith))) up

-- one place more
module _ (s : TableSource) (p : PartialPlan) (k i : ℕ) (b : Bool) (lt : k < length s.inputs) where
  spelled : (I : Interp) (h : Bool) (j : ℕ) → j ≡ i + cond h (2 ^ k) 0 → holds I (get_or s.inputs k 0) ≡ h → j + index_of I (k + 1) (drop (k + 1) s.inputs) ≡ i + index_of I k (drop k s.inputs)
  spelled I h j is e =
      let more = at_drop_more (index_of I k) s.inputs k 0 lt in
      let one = ap (λ y. cond y (2 ^ k) 0) e in
      omega arith

  reach_back : (r : Reaches s p k i b) (h : Bool) (j : ℕ) → j ≡ i + cond h (2 ^ k) 0 → holds r.at (get_or s.inputs k 0) ≡ h → Reaches s p (k + 1) j b
  reach_back r h j is e = record { at = r.at; agrees = r.agrees; bit = ap (bit_in s.bits) (spelled r.at h j is e) ∙ r.bit }

  reach_on : (h : Bool) (j : ℕ) → j ≡ i + cond h (2 ^ k) 0 → (r : Reaches s p (k + 1) j b) → holds r.at (get_or s.inputs k 0) ≡ h → Reaches s p k i b
  reach_on h j is r e = record { at = r.at; agrees = r.agrees; bit = ap (bit_in s.bits) (sym (spelled r.at h j is e)) ∙ r.bit }

  decided_step : (h : Bool) (j : ℕ) → j ≡ i + cond h (2 ^ k) 0 → ((I : Interp) → Agrees p I → holds I (get_or s.inputs k 0) ≡ h) → (r : Bool) → Decides r (Reaches s p (k + 1) j b) → Decides r (Reaches s p k i b)
  decided_step h j is all r d =
      Decides-like r
      (λ (q : Reaches s p (k + 1) j b). reach_on h j is q (all q.at q.agrees))
      (λ (q : Reaches s p k i b). reach_back q h j is (all q.at q.agrees)) d

  pub in_step : In ≡ place_at p (get_or s.inputs k 0) → (j : ℕ) → j ≡ i + 2 ^ k → (r : Bool) → Decides r (Reaches s p (k + 1) j b) → Decides r (Reaches s p k i b)
  in_step e j is r d = decided_step true j is (λ I ag. subst (λ (y : Status). Admits y (holds I (get_or s.inputs k 0))) (sym e) (agrees_place p I ag (get_or s.inputs k 0))) r d

  pub out_step : Out ≡ place_at p (get_or s.inputs k 0) → (r : Bool) → Decides r (Reaches s p (k + 1) i b) → Decides r (Reaches s p k i b)
  out_step e r d = decided_step false i (omega arith) (λ I ag. subst (λ (y : Status). Admits y (holds I (get_or s.inputs k 0))) (sym e) (agrees_place p I ag (get_or s.inputs k 0))) r d

  reach_open : Open ≡ place_at p (get_or s.inputs k 0) → (h : Bool) (j : ℕ) → j ≡ i + cond h (2 ^ k) 0 → Reaches s p (k + 1) j b → Reaches s p k i b
  reach_open e h j is r =
      let x = get_or s.inputs k 0 in
      let o = place_open p x (sym e) in
      let up = ascends_drop 0 s.inputs k lt s.inputs_ok in
      reach_on h j is
      (record { at = with_atom p r.at x h o; agrees = with_agrees p r.at x h o r.agrees; bit = ap (λ (n : ℕ). bit_in s.bits (j + n)) (with_index p r.at x h o (k + 1) (drop (k + 1) s.inputs) up) ∙ r.bit })
      (with_holds p r.at x h o)

  pub open_first : Open ≡ place_at p (get_or s.inputs k 0) → (r : Bool) → r ≡ true → Decides r (Reaches s p (k + 1) i b) → Decides r (Reaches s p k i b)
  open_first e r t d = (λ q. reach_open e false i (omega arith) (d.0 t), λ q. t)

  pub open_second : Open ≡ place_at p (get_or s.inputs k 0) → Decides false (Reaches s p (k + 1) i b) → (j : ℕ) → j ≡ i + 2 ^ k → (r : Bool) → Decides r (Reaches s p (k + 1) j b) → Decides r (Reaches s p k i b)
  open_second e none j is r d = (
    λ q. reach_open e true j is (d.0 q),
    λ q. ⊎_elim
        (λ (t : holds q.at (get_or s.inputs k 0) ≡ true). d.1 (reach_back q true j is t))
        (λ (f : holds q.at (get_or s.inputs k 0) ≡ false). absurd (both_ways false refl (none.1 (reach_back q false i (omega arith) f))))
        (cases_Bool (holds q.at (get_or s.inputs k 0))),
  )

-- no place is left
pub end_step : (s : TableSource) (p : PartialPlan) (k i : ℕ) (b r : Bool) → length s.inputs ≤ k → r ≡ bit_in s.bits i → Decides (beq r b) (Reaches s p k i b)
end_step s p k i b r le is = (
  λ e. record { at = filled false p; agrees = filled_agrees false p; bit = ap (bit_in s.bits) (whole (filled false p)) ∙ sym is ∙ (booleans_Decides r b).0 e },
  λ q. (booleans_Decides r b).1 (is ∙ ap (bit_in s.bits) (sym (whole q.at)) ∙ q.bit),
)
  where
    whole : (I : Interp) → i + index_of I k (drop k s.inputs) ≡ i
    whole I = let none = at_drop_all (index_of I k) s.inputs k le in omega arith

-- all places are left
module _ (s : TableSource) (p : PartialPlan) where
  start : (I : Interp) → 0 + index_of I 0 (drop 0 s.inputs) ≡ index_of I 0 s.inputs
  start I = omega arith

  pub settles_other : (b : Bool) → Decides false (Reaches s p 0 0 (not b)) → Settles (table_truth s).on p (Some b)
  settles_other b d I ag =
      not-eq-not.0 (λ e. both_ways false refl (d.1 (record { at = I; agrees = ag; bit = ap (bit_in s.bits) (start I) ∙ e })))

  pub settles_none : Decides true (Reaches s p 0 0 false) → Decides true (Reaches s p 0 0 true) → Settles (table_truth s).on p None
  settles_none f t =
      let no_bit = f.0 refl in
      let yes_bit = t.0 refl in
      record {
        one = yes_bit.at;
        other = no_bit.at;
        one_agrees = yes_bit.agrees;
        other_agrees = no_bit.agrees;
        one_true = ap (bit_in s.bits) (sym (start yes_bit.at)) ∙ yes_bit.bit;
        other_false = ap (bit_in s.bits) (sym (start no_bit.at)) ∙ no_bit.bit;
      }

-- the weight of a place
pub doubled : (k : ℕ) → 2 ^ (k + 1) ≡ 2 ^ k + 2 ^ k
doubled k = let q : k + 1 ≡ suc k = omega arith in ap (λ (n : ℕ). 2 ^ n) q ∙ (let m = pow-suc 2 k in omega arith)
