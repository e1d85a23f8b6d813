-- Bytes appended one after the other, and the line in a place. Assumes nothing.
use Rattle.std.proofs.Common.{◌≡◌, ℕ, List, [], ◌∷◌, ◌++◌, length, take, Option, Some, None, Ok, Err, sym, ap, ◌∙◌, append-nil, append_assoc, ◌+◌, ◌-◌, ◌<◌, suc, replicate, get_or, Result, subst, arith}
use Rattle.std.specs.List.{flat_map}
use Rattle.std.proofs.lemmas.Bool.{cond-true, eq-eqb}
use Rattle.std.proofs.lemmas.Grind.{flat_map-append}
use Rattle.std.proofs.Math.Seq.{take-append_seam, take-suc}
use Rattle.std.specs.Io.KnownBytes.{Appends}
use Rattle.lines.specs.Padded.{Answered, padded}
use Rattle.judge.specs.declared.verdict.CallFault.{CallFault}

pub more_appended : (a b c : Option (List ℕ)) (xs ys : List ℕ) → Appends a b xs → Appends b c ys → Appends a c (xs ++ ys)
more_appended None b c xs ys h k = tt
more_appended (Some os) None c xs ys h k = absurd h
more_appended (Some os) (Some bs) None xs ys h k = absurd k
more_appended (Some os) (Some bs) (Some cs) xs ys h k = k ∙ ap (λ (zs : List ℕ). zs ++ ys) h ∙ append_assoc os xs ys

pub line_taken : (line place after : List ℕ) (n : ℕ) → length place ≡ 160 → Answered line place (Ok n) after → take n after ≡ line
line_taken line place after n e a =
    let t = eq-eqb (length place) 160 e in
    let value : ◌≡◌ {A = Result ℕ CallFault} (Ok n) (Ok (length line)) = a.value ∙ cond-true _ _ _ t in
    let long : n ≡ length line = cc in
    ap (λ (bs : List ℕ). take n bs) (a.bytes ∙ cond-true _ _ _ t) ∙ ap (λ (k : ℕ). take k (padded line)) long ∙ take-append_seam line (replicate (160 - length line) 0)

-- one more plan's line
pub line_more : {X : Type 0} (f : X → List ℕ) (xs : List X) (i : ℕ) (x : X) (bs : List ℕ) → i < length xs → x ≡ get_or xs i x → bs ≡ f x → flat_map f (take i xs) ++ bs ≡ flat_map f (take (i + 1) xs)
line_more {X} f xs i x bs lt at e =
    let s : suc i ≡ i + 1 = omega arith in
    ap (λ (ys : List ℕ). flat_map f (take i xs) ++ ys) (e ∙ sym (append-nil (f x)) ∙ ap (λ (y : X). f y ++ []) at)
    ∙ sym (flat_map-append f (take i xs) (get_or xs i x ∷ []))
    ∙ ap (flat_map f) (sym (take-suc xs i x lt))
    ∙ ap (λ (k : ℕ). flat_map f (take k xs)) s

abbrev accepts : {A E : Type 0} → Result A E → Type 0
accepts (Ok x) = Unit {0}
accepts (Err e) = ⊥

pub not_both : {A E : Type 0} (x : A) (e : E) → ◌≡◌ {A = Result A E} (Ok x) (Err e) → ⊥
not_both x e k = subst accepts k tt
