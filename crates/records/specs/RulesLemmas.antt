-- Rule records: a body's bytes and its literals are each the other's, and the laws of a kind.
use Rattle.std.specs.Prelude.{◌≡◌, ℕ, zero, suc, ◌*◌, ◌^◌, ◌<◌, Bool, true, false, cond, not, ◌&&◌, List, [], ◌∷◌, ◌++◌, length, is_some, Some, None, Option, ◌==◌, nat_lt, slice_index, refl}
use Rattle.std.proofs.Common.{sym, ◌∙◌, ap, arith, eqb-true}
use Rattle.std.proofs.Math.Bool.{Bool-set}
use mathlib.Core.HLevel.{is_prop→PathP}
use Rattle.std.proofs.Math.Bridge.{le_prop}
use Rattle.std.proofs.Math.Nat.{ℕ_set}
use Rattle.std.proofs.lemmas.Bool.{and_parts, false≢true}
use Rattle.std.specs.List.{flat_map}
use Rattle.records.specs.declared.literal.Literal.{Literal}
use Rattle.records.specs.declared.literal.Literal.TheVariants.{Atom, NotAtom, Source, NotSource}
use Rattle.records.specs.declared.fields.Fields.{Fields}
use Rattle.records.specs.declared.rule.Rule.{Rule}
use Rattle.records.specs.Faults.{all_are}
use Rattle.records.specs.Atoms.{ascends}
use Rattle.records.specs.Literals.{literal_of, pair_of, body_of, body_rule}
use Rattle.records.specs.Rules.{rule_fields, rule_image, rule_tests, rule_fault}
use Rattle.records.specs.Bytes.{le4_single}
use Rattle.records.specs.Widths.{joined_long, joined_single}
use Rattle.records.specs.FramesLemmas.{Long, Passed, frame_size, frame_single}
use Rattle.records.specs.Decoding.{clean_by}

-- a pair is one place
step : (t : Bool) (l : Literal) (R : Option Literal) (c n : ℕ) → (t ≡ true → pair_of (Some l) ≡ c ∷ n ∷ []) → (is_some R ≡ true → pair_of R ≡ c ∷ n ∷ []) → is_some (cond t (Some l) R) ≡ true → pair_of (cond t (Some l) R) ≡ c ∷ n ∷ []
step true l R c n p q h = p refl
step false l R c n p q h = q h

coded : (c n k : ℕ) (t : Bool) → (c == k && t) ≡ true → k ∷ n ∷ [] ≡ c ∷ n ∷ []
coded c n k t e = ap (λ x. x ∷ n ∷ []) (sym (eqb-true c k (and_parts (c == k) t e).0))

pub pair_literal : (c n : ℕ) → is_some (literal_of c n) ≡ true → pair_of (literal_of c n) ≡ c ∷ n ∷ []
pair_literal c n =
    step (c == 1 && nat_lt n 255) (Atom n) _ c n (coded c n 1 (nat_lt n 255)) (
    step (c == 2 && nat_lt n 255) (NotAtom n) _ c n (coded c n 2 (nat_lt n 255)) (
    step (c == 3 && nat_lt n 64) (Source n) _ c n (coded c n 3 (nat_lt n 64)) (
    step (c == 4 && nat_lt n 64) (NotSource n) None c n (coded c n 4 (nat_lt n 64)) (λ h. absurd (false≢true h)))))

abbrev place_of : ℕ → ℕ → Option Literal
place_of c n = cond (c == 1) (Some (Atom n)) (cond (c == 2) (Some (NotAtom n)) (cond (c == 3) (Some (Source n)) (cond (c == 4) (Some (NotSource n)) None)))

unpair : (x : Option Literal) → place_of (slice_index (pair_of x) 0) (slice_index (pair_of x) 1) ≡ x
unpair None = refl
unpair (Some (Atom n)) = refl
unpair (Some (NotAtom n)) = refl
unpair (Some (Source n)) = refl
unpair (Some (NotSource n)) = refl

pub pair_single : (x y : Option Literal) → pair_of x ≡ pair_of y → x ≡ y
pair_single x y e = sym (unpair x) ∙ ap (λ p. place_of (slice_index p 0) (slice_index p 1)) e ∙ unpair y

pub pair_size : (x : Option Literal) → length (pair_of x) ≡ 2
pair_size None = refl
pair_size (Some (Atom n)) = refl
pair_size (Some (NotAtom n)) = refl
pair_size (Some (Source n)) = refl
pair_size (Some (NotSource n)) = refl

pub pairs_long : (xs : List (Option Literal)) → length (flat_map pair_of xs) ≡ 2 * length xs
pairs_long = joined_long pair_of 2 pair_size

and_cond : (t u : Bool) → cond t u false ≡ true → (t ≡ true) × (u ≡ true)
and_cond true u h = (refl, h)
and_cond false u h = absurd (false≢true h)

zeros_back : (bs : List ℕ) (m : ℕ) → length bs ≡ 2 * m → all_are 0 bs ≡ true → flat_map pair_of (body_of bs) ≡ bs
zeros_back [] m l h = refl
zeros_back (c ∷ []) m l h = absurd (omega arith)
zeros_back (c ∷ n ∷ bs) zero l h = absurd (omega arith)
zeros_back (c ∷ n ∷ bs) (suc m) l h =
    let p = and_cond (c == 0) _ h in
    let q = and_cond (n == 0) _ p.1 in
    let e : c ≡ 0 = eqb-true c 0 p.0 in
    let f : n ≡ 0 = eqb-true n 0 q.0 in
    let g : flat_map pair_of (body_of bs) ≡ bs = zeros_back bs m (omega arith) q.1 in
    ap (λ k. pair_of (literal_of k n) ++ flat_map pair_of (body_of bs)) e ∙ ap (λ t. 0 ∷ 0 ∷ t) g ∙ ap (λ k. k ∷ 0 ∷ bs) (sym e) ∙ ap (λ k. c ∷ k ∷ bs) (sym f)

-- bytes that keep the rule are the bytes of the places that they write
pub body_back : (bs : List ℕ) (m : ℕ) → length bs ≡ 2 * m → body_rule bs ≡ true → flat_map pair_of (body_of bs) ≡ bs
body_back [] m l h = refl
body_back (c ∷ []) m l h = absurd (omega arith)
body_back (c ∷ n ∷ bs) zero l h = absurd (omega arith)
body_back (c ∷ n ∷ bs) (suc m) l h =
    elim (is_some (literal_of c n)) as (λ t. is_some (literal_of c n) ≡ t → cond t (body_rule bs) (all_are 0 (c ∷ n ∷ bs)) ≡ true → flat_map pair_of (body_of (c ∷ n ∷ bs)) ≡ c ∷ n ∷ bs) [
      | true ↦ λ e k. ap (λ p. p ++ flat_map pair_of (body_of bs)) (pair_literal c n e) ∙ ap (λ t. c ∷ n ∷ t) (body_back bs m (omega arith) k)
      | false ↦ λ e k. zeros_back (c ∷ n ∷ bs) (suc m) l k
    ] refl h

pub rule_long : (r : Rule) → Long (rule_fields r.head r.body r.label)
rule_long r = record { atoms = r.head_long; body = omega (arith, pairs_long r.body, r.body_long); tail = refl }

pub rule_size : (r : Rule) → length (rule_image r) ≡ 48
rule_size r = frame_size 82 0 _ (rule_long r)

pub rule_clean : (r : Rule) → rule_fault (rule_image r) ≡ None
rule_clean r = clean_by 82 0 rule_tests _ (rule_long r) (rw (r.head_ok, r.body_ok, r.filled))

pub same_rules : (p q : Rule) → p.head ≡ q.head → p.body ≡ q.body → p.label ≡ q.label → p ≡ q
same_rules p q h b l j = record {
  head = h j;
  body = b j;
  label = l j;
  head_long = is_prop→PathP (λ k. length (h k) ≡ 8) (λ k. ℕ_set _ _) p.head_long q.head_long j;
  head_ok = is_prop→PathP (λ k. ascends 0 (h k) ≡ true) (λ k. Bool-set _ _) p.head_ok q.head_ok j;
  body_long = is_prop→PathP (λ k. length (b k) ≡ 16) (λ k. ℕ_set _ _) p.body_long q.body_long j;
  body_ok = is_prop→PathP (λ k. body_rule (flat_map pair_of (b k)) ≡ true) (λ k. Bool-set _ _) p.body_ok q.body_ok j;
  small = is_prop→PathP (λ k. l k < 2 ^ 32) (λ k. le_prop) p.small q.small j;
  filled = is_prop→PathP (λ k. not (slice_index (h k) 0 == 255 && slice_index (flat_map pair_of (b k)) 0 == 0) ≡ true) (λ k. Bool-set _ _) p.filled q.filled j;
}

pub rule_single : (p q : Rule) → rule_image p ≡ rule_image q → p ≡ q
rule_single p q e =
    let f = frame_single 82 0 _ _ (rule_long p) (rule_long q) e in
    same_rules p q (ap (λ g. g.atoms) f) (joined_single pair_of 2 pair_size (omega arith) pair_single _ _ (ap (λ g. g.body) f)) (le4_single _ _ p.small q.small (ap (λ g. g.tail) f))

-- a tested body has sixteen places
pub body_16 : (bs : List ℕ) → length bs ≡ 32 → body_rule bs ≡ true → length (body_of bs) ≡ 16
body_16 bs l h = omega (arith, l, pairs_long (body_of bs), ap length (body_back bs 16 l h))

-- what tests that passed say of a head and a body
pub record Owed (h : List ℕ) (b : List (Option Literal)) : Type 0 where
  pub head : ascends 0 h ≡ true
  pub body : body_rule (flat_map pair_of b) ≡ true
  pub filled : not (slice_index h 0 == 255 && slice_index (flat_map pair_of b) 0 == 0) ≡ true

pub owed : (f : Fields) (b : List (Option Literal)) → Passed (rule_tests f) → flat_map pair_of b ≡ f.body → Owed f.atoms b
owed f b p e = record {
  head = p.0;
  body = ap body_rule e ∙ p.1.0;
  filled = ap (λ t. not (slice_index f.atoms 0 == 255 && slice_index t 0 == 0)) e ∙ p.1.1.0;
}

-- a tested body is the bytes of the places that it writes
pub body_read : (bs : List ℕ) (b : List (Option Literal)) → length bs ≡ 32 → body_rule bs ≡ true → b ≡ body_of bs → flat_map pair_of b ≡ bs
body_read bs b l h e = ap (flat_map pair_of) e ∙ body_back bs 16 l h
