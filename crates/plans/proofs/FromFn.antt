-- What array::from_fn made, where each call gives a fact of its number and leaves the function as it was. Assumes nothing.
use Rattle.std.proofs.Common.{◌≡◌, ℕ, zero, suc, ◌+◌, ◌<◌, ◌≤◌, List, slice_index_or, sym, subst, ⊎_elim, arith}
use Rattle.std.proofs.lemmas.Bool.{cases_eq}
use Rattle.std.specs.Array.{IsElementAt, IsFromFnResultFrom}
use Rattle.std.specs.Fn.{Called}
use denote.Param.Members.{Mut}

pub from_fn_at : {F B : Type 0} {g : Mut F (ℕ × Unit {0}) B} (P : ℕ → B → Type 0) (f : F) (ys : List B) (i n : ℕ) → ((x : ℕ) (y : B) (q : F) → x < i + n → Called g f (x, tt) y q → (q ≡ f) × P x y) → IsFromFnResultFrom g f ys i n → (k : ℕ) → i ≤ k → k < i + n → (y : B) × IsElementAt ys k y × P k y
from_fn_at P f ys i zero call from k ge lt = absurd (omega arith)
from_fn_at {F = F} {B = B} {g = g} P f ys i (suc n) call from k ge lt =
    let said = call i from.1 from.0 (omega arith) from.3 in
    ⊎_elim
    (λ (same : k ≡ i). subst (λ (j : ℕ). (y : B) × IsElementAt ys j y × P j y) (sym same) (from.1, from.2, said.1))
    (λ (other : k ≡ i → ⊥). from_fn_at {g = g} P f ys (i + 1) n (λ x y q l c. call x y q (omega arith) c) (subst (λ (h : F). IsFromFnResultFrom g h ys (i + 1) n) said.0 from.4) k (omega arith) (omega arith))
    (cases_eq k i)

pub from_fn_gives : {F B : Type 0} {g : Mut F (ℕ × Unit {0}) B} (P : ℕ → B → Type 0) (f : F) (ys : List B) (i n : ℕ) → ((x : ℕ) (y : B) (q : F) → x < i + n → Called g f (x, tt) y q → (q ≡ f) × P x y) → IsFromFnResultFrom g f ys i n → (k : ℕ) (e : B) → i ≤ k → k < i + n → P k (slice_index_or ys k e)
from_fn_gives {g = g} P f ys i n call from k e ge lt = let made = from_fn_at {g = g} P f ys i n call from k ge lt in subst (P k) (sym (made.1.1 e)) made.2
