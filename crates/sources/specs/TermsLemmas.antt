-- Inputs with numbers are told apart by what they are written as.
use Rattle.std.specs.Prelude.{◌≡◌, ℕ, suc, ◌^◌, ◌<◌, List, [], ◌∷◌, map, length, drop, slice_index, refl}
use Rattle.std.proofs.Common.{ap, arith}
use Rattle.std.specs.List.{flat_map}
use Rattle.records.specs.Numbers.{le4}
use Rattle.records.specs.Bytes.{le4_single}
use Rattle.records.specs.Widths.{joined_long, joined_parts}

module _ {X : Type 0} (p n : X → ℕ) where
  -- terms are told apart by their inputs and numbers
  pub terms_single : ((x y : X) → p x ≡ p y → n x ≡ n y → x ≡ y) → (xs ys : List X) → map p xs ≡ map p ys → map n xs ≡ map n ys → xs ≡ ys
  terms_single same [] [] e f = refl
  terms_single same [] (y ∷ ys) e f = absurd (omega (arith, ap length e))
  terms_single same (x ∷ xs) [] e f = absurd (omega (arith, ap length e))
  terms_single same (x ∷ xs) (y ∷ ys) e f =
      let a : x ≡ y = same x y (ap (λ l. slice_index l 0) e) (ap (λ l. slice_index l 0) f) in
      let b : xs ≡ ys = terms_single same xs ys (ap (drop 1) e) (ap (drop 1) f) in
      cc

-- small numbers are told apart by their bytes
pub numbers_single : (xs ys : List ℕ) → ((k : ℕ) → slice_index xs k < 2 ^ 32) → ((k : ℕ) → slice_index ys k < 2 ^ 32) → flat_map le4 xs ≡ flat_map le4 ys → xs ≡ ys
numbers_single [] [] f g e = refl
numbers_single [] (y ∷ ys) f g e = absurd (omega (arith, ap length e))
numbers_single (x ∷ xs) [] f g e = absurd (omega (arith, ap length e))
numbers_single (x ∷ xs) (y ∷ ys) f g e =
    let q = joined_parts le4 4 (λ _. refl) x y xs ys e in
    let a : x ≡ y = le4_single x y (f 0) (g 0) q.0 in
    let b : xs ≡ ys = numbers_single xs ys (λ k. f (suc k)) (λ k. g (suc k)) q.1 in
    cc

pub numbers_long : (ns : List ℕ) → length ns ≡ 8 → length (flat_map le4 ns) ≡ 32
numbers_long ns l = omega (arith, joined_long le4 4 (λ _. refl) ns, l)
