-- The atoms of a set, as a filter over all atoms gives them, and as a loop meets them.
use Rattle.std.proofs.Common.{◌≡◌, ◌∙◌, ℕ, zero, suc, ◌+◌, Bool, true, false, Bor, List, [], ◌∷◌, ◌++◌, cond, filter, length, refl, ap, map-id, add-one, arith}
use Rattle.std.proofs.lemmas.List.{append-nil, length_push}
use Rattle.std.specs.declared.iter.Filter.{Filter}
use Rattle.std.specs.declared.ops.Range.{Range}
use Rattle.std.specs.List.{range_with_len}
use Rattle.std.specs.Fn.{CalledAt}
use Rattle.std.specs.Iterator.Adapters.{filter_source, filter_callee, filter_steps}
use Rattle.std.proofs.iter.Yields.{nat_range_steps}
use Rattle.std.proofs.lemmas.Iterator.{YieldsList, YieldsList-from_range}
use Rattle.std.proofs.lemmas.Iterator.Consumers.{YieldsList-from_filter}
use Rattle.std.proofs.lemmas.List.FromFn.{filter_of_map_range_with_len_more}
use Rattle.semantics.specs.Program.{Interp, atom_limit}
use Rattle.lines.specs.Said.{members, members_below}
use denote.Param.Members.{Mut}

members_filtered : (X : Interp) (n : ℕ) → filter X (range_with_len 0 n) ≡ members_below X n
unfolding members_below
members_filtered X zero = refl
members_filtered X (suc n) =
    let more = simp map-id at (filter_of_map_range_with_len_more X (λ x. x) 0 n n (omega arith)) in
    rw add-one at more ∙ ap (λ (l : List ℕ). l ++ cond (X n) (n ∷ []) []) (members_filtered X n)

pub members_given : {F : Type 0} {s : Filter (Range ℕ) F} (g : Mut F (Bor ℕ × Unit {0}) Bool) (X : Interp) {f : F} → filter_source s ≡ record { start = 0; end = atom_limit } → filter_callee s ≡ f → ((x : ℕ) (b : Bool) (q : F) → CalledAt g f x b q → (q ≡ f) × (b ≡ X x)) → YieldsList (filter_steps nat_range_steps g) (λ x. x) s (members X)
members_given g X source callee called =
    rw (← members_filtered X atom_limit) (YieldsList-from_filter g X (YieldsList-from_range 0 atom_limit atom_limit source refl) callee called)

-- and as a loop over all atoms meets them
pub members_none : (X : Interp) → members_below X 0 ≡ []
unfolding members_below
members_none X = refl

pub members_more : (X : Interp) (a : ℕ) → X a ≡ true → members_below X (a + 1) ≡ members_below X a ++ a ∷ []
unfolding members_below
members_more X a h = rw add-one (ap (λ (b : Bool). members_below X a ++ cond b (a ∷ []) []) h)

pub members_same : (X : Interp) (a : ℕ) → X a ≡ false → members_below X (a + 1) ≡ members_below X a
unfolding members_below
members_same X a h = rw add-one (ap (λ (b : Bool). members_below X a ++ cond b (a ∷ []) []) h ∙ append-nil (members_below X a))

pub count_more : (X : Interp) (a : ℕ) → X a ≡ true → length (members_below X (a + 1)) ≡ length (members_below X a) + 1
count_more X a h = ap length (members_more X a h) ∙ length_push (members_below X a) a
