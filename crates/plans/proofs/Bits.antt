-- Bits of a set, written and read. Assumes nothing.
use Rattle.std.proofs.Common.{◌≡◌, ℕ, zero, suc, ◌+◌, ◌*◌, ◌/◌, ◌%◌, ◌^◌, ◌<◌, ◌≤◌, Bool, true, false, ◌&&◌, eqb, ltb, List, length, get_or, sym, refl, ap, ◌∙◌, subst, ⊎_elim, pow-suc, pow_mono, arith}
use mir.Val.{bool_byte}
use mathlib.Core.Path.{fun_ext}
use native.Mathlib.Nat.{pow-succ', div-div-eq-div-mul}
use Rattle.std.proofs.lemmas.List.FromFn.{get_or-map-range_with_len, fill_by_all}
use Rattle.std.proofs.lemmas.Bool.{ltb-true, lt-ltb, le-ltb, and_parts, cases_Bool, cases_lt}
use Rattle.semantics.specs.Program.{Interp, Plan, atom_limit}
use Rattle.plans.specs.Bits.{bit_in, marked, one, bits_from, byte_of, bytes_of, BitsRead}

pub one_le : (b : Bool) → one b ≤ 1
one_le true = omega arith
one_le false = omega arith

one_eqb : (b : Bool) → eqb (one b) 1 ≡ b
one_eqb true = refl
one_eqb false = refl

pub bits_small : (X : Interp) (a n : ℕ) → bits_from X a n < 2 ^ n
unfolding bits_from
bits_small X a zero = omega arith
bits_small X a (suc n) = let h = bits_small X (suc a) n in let o = one_le (X a) in rw pow-suc (omega arith)

-- the highest bit is out
pub bits_top : (X : Interp) (a n : ℕ) → X (a + n) ≡ false → bits_from X a (suc n) < 2 ^ n
unfolding bits_from
bits_top X a zero e = let z : one (X a) ≡ 0 = ap one (subst (λ (k : ℕ). X k ≡ false) (let q : a + 0 ≡ a = omega arith in q) e) in omega arith
bits_top X a (suc n) e =
    let q : a + suc n ≡ suc a + n = omega arith in
    let h = bits_top X (suc a) n (subst (λ (k : ℕ). X k ≡ false) q e) in
    let o = one_le (X a) in
    rw pow-suc (omega arith)

halved : (b r : ℕ) → b ≤ 1 → (b + 2 * r) / 2 ≡ r
halved b r h = omega arith

bit_read : (X : Interp) (a n j : ℕ) → j < n → bits_from X a n / 2 ^ j % 2 ≡ one (X (a + j))
unfolding bits_from
bit_read X a zero j lt = absurd (omega arith)
bit_read X a (suc n) zero lt =
    let o = one_le (X a) in
    let q : a ≡ a + 0 = omega arith in
    subst (λ (k : ℕ). (one (X a) + 2 * bits_from X (suc a) n) / 2 ^ 0 % 2 ≡ one (X k)) q (omega arith)
bit_read X a (suc n) (suc j) lt =
    let q : suc a + j ≡ a + suc j = omega arith in
    let whole = one (X a) + 2 * bits_from X (suc a) n in
    ap (λ (m : ℕ). whole / m % 2) (pow-succ' 2 j)
    ∙ ap (λ (m : ℕ). m % 2) (sym (div-div-eq-div-mul whole 2 (2 ^ j)))
    ∙ ap (λ (m : ℕ). m / 2 ^ j % 2) (halved (one (X a)) (bits_from X (suc a) n) (one_le (X a)))
    ∙ bit_read X (suc a) n j (omega arith)
    ∙ ap (λ (k : ℕ). one (X k)) q

pub bits_read : BitsRead
unfolding bytes_of
bits_read X a lt =
    let k : a / 8 < 32 = omega arith in
    let j : a % 8 < 8 = omega arith in
    let whole : 8 * (a / 8) + a % 8 ≡ a = omega arith in
    ap (λ (n : ℕ). eqb (n / 2 ^ (a % 8) % 2) 1) (get_or-map-range_with_len (byte_of X) 0 32 (a / 8) (a / 8) 0 k (omega arith))
    ∙ ap (λ (n : ℕ). eqb n 1) (bit_read X (8 * (a / 8)) 8 (a % 8) j)
    ∙ one_eqb (X (8 * (a / 8) + a % 8))
    ∙ ap X whole

-- one bit more in front
bits_more : (X : Interp) (a n : ℕ) → bits_from X a (n + 1) ≡ one (X a) + 2 * bits_from X (suc a) n
unfolding bits_from
bits_more X a n = let s : n + 1 ≡ suc n = omega arith in ap (bits_from X a) s

pub bits_after : (X : Interp) (a b m n : ℕ) → b ≡ suc a → m ≡ n + 1 → bits_from X a m ≡ one (X a) + 2 * bits_from X b n
bits_after X a b m n next more = ap (bits_from X a) more ∙ bits_more X a n ∙ ap (λ (k : ℕ). one (X a) + 2 * bits_from X k n) (sym next)

-- a byte holds eight of them
pub bits_fit : (X : Interp) (a n : ℕ) → n ≤ 8 → bits_from X a n < 256
bits_fit X a n le = let h = bits_small X a n in let m = pow_mono le in omega arith

pub byte_one : (b : Bool) → bool_byte b ≡ one b
byte_one true = refl
byte_one false = refl

pub bits_none : (X : Interp) (a : ℕ) → bits_from X a 0 ≡ 0
unfolding bits_from
bits_none X a = refl

pub bytes_all : (X : Interp) (bs : List ℕ) → length bs ≡ 32 → ((k : ℕ) → k < 32 → get_or bs k 0 ≡ byte_of X k) → bs ≡ bytes_of X
unfolding bytes_of
bytes_all X bs l h = fill_by_all (byte_of X) bs 32 0 l h

pub marked_plan : (bytes : List ℕ) → Plan (marked bytes)
marked_plan bytes a e = ltb-true a atom_limit (and_parts (ltb a atom_limit) (bit_in bytes a) e).0

-- the bytes of a set of atoms are read as the set
pub marked_bytes : (X : Interp) → Plan X → marked (bytes_of X) ≡ X
marked_bytes X plan = fun_ext (λ a. ⊎_elim (λ (lt : a < atom_limit). inside a lt) (λ (ge : atom_limit ≤ a). outside a ge) (cases_lt a atom_limit))
  where
    inside : (a : ℕ) → a < atom_limit → marked (bytes_of X) a ≡ X a
    inside a lt = ap (λ (b : Bool). b && bit_in (bytes_of X) a) (lt-ltb a atom_limit lt) ∙ bits_read X a (omega arith)

    outside : (a : ℕ) → atom_limit ≤ a → marked (bytes_of X) a ≡ X a
    outside a ge =
        ap (λ (b : Bool). b && bit_in (bytes_of X) a) (le-ltb a atom_limit ge)
        ∙ ⊎_elim (λ (t : X a ≡ true). absurd (let lt = plan a t in omega arith)) (λ (f : X a ≡ false). sym f) (cases_Bool (X a))
