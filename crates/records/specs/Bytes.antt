-- The fields of a list of bytes, and the bytes of a number.
use Rattle.std.specs.Prelude.{◌≡◌, ℕ, ◌+◌, ◌^◌, ◌<◌, ◌≤◌, Bool, true, false, cond, List, [], ◌∷◌, ◌++◌, length, take, drop, replicate, Ok, ◌==◌, slice_index, refl}
use Rattle.std.proofs.Common.{sym, ◌∙◌, ap, arith, take-append-drop, eqb-true}
use Rattle.std.proofs.lemmas.List.{drop-drop, take_all, length-drop, take_at, drop_at, append_assoc}
use borrow.Rule.Slice.PartMut.{put_mid}
use Rattle.std.proofs.lemmas.Nat.{from_le_bytes-to_le_bytes_4}
use Rattle.std.specs.Int.{from_le_bytes, w32}
use Rattle.std.proofs.lemmas.Bool.{false≢true}
use Rattle.records.specs.Faults.{field_of, all_are, demanded}
use Rattle.records.specs.Numbers.{le4}
use Rattle.records.specs.declared.fault.RecordFault.TheVariants.{Letter, Form, Zero, Atoms, Body, Tail}

-- a field and what follows it
next : (bs : List ℕ) (a n m : ℕ) → a + n ≡ m → take n (drop a bs) ++ drop m bs ≡ drop a bs
next bs a n m e = ap (λ k. take n (drop a bs) ++ drop k bs) (sym e) ∙ ap (λ t. take n (drop a bs) ++ t) (sym (drop-drop n a bs)) ∙ take-append-drop n (drop a bs)

-- a record is its fields, one after another
pub whole : (bs : List ℕ) → length bs ≡ 48 → field_of Letter bs ++ (field_of Form bs ++ (field_of Zero bs ++ (field_of Atoms bs ++ (field_of Body bs ++ field_of Tail bs)))) ≡ bs
whole bs h =
    let short : length (drop 44 bs) ≤ 4 = simp length-drop (omega arith) in
    let t6 : take 4 (drop 44 bs) ≡ drop 44 bs = take_all 4 (drop 44 bs) short in
    let t5 : take 32 (drop 12 bs) ++ take 4 (drop 44 bs) ≡ drop 12 bs = ap (λ t. take 32 (drop 12 bs) ++ t) t6 ∙ next bs 12 32 44 refl in
    let t4 = ap (λ t. take 8 (drop 4 bs) ++ t) t5 ∙ next bs 4 8 12 refl in
    let t3 = ap (λ t. take 2 (drop 2 bs) ++ t) t4 ∙ next bs 2 2 4 refl in
    let t2 = ap (λ t. take 1 (drop 1 bs) ++ t) t3 ∙ next bs 1 1 2 refl in
    ap (λ t. take 1 (drop 0 bs) ++ t) t2 ∙ next bs 0 1 1 refl

-- a list of b alone
pub replicated : (b : ℕ) (xs : List ℕ) → all_are b xs ≡ true → replicate (length xs) b ≡ xs
replicated b [] h = refl
replicated b (x ∷ xs) h =
    elim (x == b) as (λ t. (x == b) ≡ t → cond t (all_are b xs) false ≡ true → replicate (length (x ∷ xs)) b ≡ x ∷ xs) [
      | true ↦ λ e k. ap (λ y. y ∷ replicate (length xs) b) (sym (eqb-true x b e)) ∙ ap (λ ys. x ∷ ys) (replicated b xs k)
      | false ↦ λ e k. absurd (false≢true k)
    ] refl h

pub replicated_at : (n b : ℕ) (xs : List ℕ) → length xs ≡ n → all_are b xs ≡ true → replicate n b ≡ xs
replicated_at n b xs l h = ap (λ k. replicate k b) (sym l) ∙ replicated b xs h

-- a number is what its four bytes write
pub le4_single : (m n : ℕ) → m < 2 ^ 32 → n < 2 ^ 32 → le4 m ≡ le4 n → m ≡ n
le4_single m n h k e = sym (from_le_bytes-to_le_bytes_4 m h) ∙ ap (from_le_bytes w32) e ∙ from_le_bytes-to_le_bytes_4 n k

-- a list of four
pub four : (xs : List ℕ) → length xs ≡ 4 → slice_index xs 0 ∷ slice_index xs 1 ∷ slice_index xs 2 ∷ slice_index xs 3 ∷ [] ≡ xs
four (a ∷ b ∷ c ∷ d ∷ []) h = refl
four (a ∷ b ∷ c ∷ d ∷ e ∷ xs) h = absurd (omega arith)
four [] h = absurd (omega arith)
four (a ∷ []) h = absurd (omega arith)
four (a ∷ b ∷ []) h = absurd (omega arith)
four (a ∷ b ∷ c ∷ []) h = absurd (omega arith)

pub demanded_ok : {E : Type 0} (t : Bool) (f : E) (u : Unit {0}) → demanded t f ≡ Ok u → t ≡ true
demanded_ok true f u e = refl
demanded_ok false f u e = let z : ◌≡◌ {A = ℕ} 0 1 = cc in absurd (omega arith)

-- a write to the part that follows `front`
pub put_after : (front rest ys : List ℕ) (a k : ℕ) → length front ≡ a → put_mid a k (front ++ rest) ys ≡ (front ++ ys) ++ drop k rest
put_after front rest ys a k h =
    ap (λ t. t ++ (ys ++ drop k (drop a (front ++ rest)))) (take_at front rest a h)
    ∙ ap (λ t. front ++ (ys ++ drop k t)) (drop_at front rest a h)
    ∙ sym (append_assoc front ys (drop k rest))
