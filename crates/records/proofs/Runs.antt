-- Runs of records, for any kind that keeps the laws.
use Rattle.std.proofs.Common.{◌≡◌, ℕ, zero, suc, ◌+◌, ◌-◌, ◌*◌, ◌/◌, ◌%◌, ◌<◌, ◌≤◌, Bool, true, false, cond, List, [], ◌∷◌, ◌++◌, length, get_or, take, drop, IfOk, Some, None, Ok, Err, vec_items, Option, Result, Vec, sym, refl, ap, ◌∙◌, subst, arith, le-ltb, eq-eqb}
use Rattle.std.proofs.lemmas.Bool.{and_parts, not-true, ltb-false, both_ways}
use Rattle.std.proofs.lemmas.List.{take_at, drop_at, drop-drop}
use Rattle.std.proofs.lemmas.Result.{err_from_is_err_and}
use Rattle.std.specs.List.{flat_map}
use Rattle.std.specs.Result.{MatchResult, IsErrAnd}
use Rattle.std.specs.Simd.{first_chunks}
use Rattle.records.specs.Widths.{joined_long, joined_single, read_more}
use Rattle.records.specs.declared.fault.RecordFault.{RecordFault}
use Rattle.records.specs.declared.run_fault.Placed.{Placed}
use Rattle.records.specs.Faults.{fault_in}
use Rattle.records.specs.Runs.{part, bad_run, FirstFault, RunsStand, place_fits, ReadRun, ReadBack, Decided, counted, on_fault, records_in}
use Rattle.records.specs.declared.run_fault.RunFault.{RunFault}
use Rattle.records.specs.declared.run_fault.RunFault.TheVariants.{Memory, Run, Record}
use Rattle.std.specs.declared.alloc.Global.{Global}

pub good_run : (bs : List ℕ) → length bs % 48 ≡ 0 → length bs / 48 ≤ 512 → bad_run bs ≡ false
good_run bs m q = simp (eq-eqb _ _ m, le-ltb 512 (length bs / 48) q)

-- the record after the first
pub part_next : (bs : List ℕ) (j : ℕ) → part j (drop 48 bs) ≡ part (suc j) bs
part_next bs j =
    let far : 48 + 48 * j ≡ 48 * suc j = omega arith in
    ap (take 48) (drop-drop (48 * j) 48 bs ∙ ap (λ z. drop z bs) far)

chunk_at : (n : ℕ) (bs : List ℕ) (k : ℕ) → k < n → get_or (first_chunks 48 n bs) k [] ≡ part k bs
chunk_at zero bs k lt = absurd (omega arith)
chunk_at (suc n) bs zero lt = refl
chunk_at (suc n) bs (suc k) lt = chunk_at n (drop 48 bs) k (omega arith) ∙ part_next bs k

pub record_at : (bs : List ℕ) (records : List (List ℕ)) (k : ℕ) → records ≡ records_in bs → k < length bs / 48 → get_or records k [] ≡ part k bs
record_at bs records k is lt = ap (λ rs. get_or rs k []) is ∙ chunk_at (length bs / 48) bs k lt

-- what a result is, once its fault has the record's place
abbrev pub placed_at : {A : Type 0} → ℕ → Result A RecordFault → Result A Placed
placed_at k (Ok x) = Ok x
placed_at k (Err e) = Err (record { fault = e; place = k })

pub placed : {A : Type 0} {Q : RecordFault → Placed → Type 0} (k : ℕ) (r : Result A RecordFault) (d : Result A Placed) → MatchResult r (λ x. d ≡ Ok x) (λ e. IsErrAnd d (Q e))
    → ((e : RecordFault) (p : Placed) → Q e p → p ≡ record { fault = e; place = k }) → d ≡ placed_at k r
placed k (Ok x) d m q = m
placed k (Err e) d m q = let p = err_from_is_err_and d m in p.1 ∙ ap (λ y. Err y) (q e p.0 p.2)

module _ {A : Type 0} (image : A → List ℕ) (fault : List ℕ → Option RecordFault) (size : (v : A) → length (image v) ≡ 48) (bs : List ℕ) (k : ℕ) (bytes : List ℕ) (part_is : bytes ≡ part k bs) where
  -- the record at k is refused
  pub first_broke : (r : Result A RecordFault) (d : Result A Placed) (e : Placed) → bad_run bs ≡ false → 48 * k < length bs
      → ((j : ℕ) → j < k → fault (part j bs) ≡ None) → fault_in r ≡ fault bytes → d ≡ Err e → d ≡ placed_at k r → FirstFault fault bs e
  first_broke (Ok x) d e good lt before f was is = let z : ◌≡◌ {A = ℕ} 0 1 = cc in absurd (omega arith)
  first_broke (Err f) d e good lt before h was is =
      let same : record { fault = f; place = k } ≡ e = cc in
      let P : Placed → Type 0 = λ p. FirstFault fault bs p in
      subst P same (record { whole = good; within = lt; found = sym (h ∙ ap fault part_is); before = before })

  -- the record at k is read
  pub read_on : (xs : List A) (r : Result A RecordFault) (d : Result A Placed) (v : A) → flat_map image xs ≡ take (48 * k) bs
      → fault_in r ≡ fault bytes → IfOk r (λ x. image x ≡ bytes) → d ≡ Ok v → d ≡ placed_at k r
      → (flat_map image (xs ++ v ∷ []) ≡ take (48 * (k + 1)) bs) × (fault (part k bs) ≡ None)
  read_on xs (Err f) d v so h m was is = let z : ◌≡◌ {A = ℕ} 0 1 = cc in absurd (omega arith)
  read_on xs (Ok x) d v so h m was is =
      let same : x ≡ v = cc in
      let img : image v ≡ part k bs = ap image (sym same) ∙ m ∙ part_is in
      (read_more image 48 size xs v bs k so img, sym (h ∙ ap fault part_is))

module _ {A : Type 0} (image : A → List ℕ) (fault : List ℕ → Option RecordFault)
    (size : (v : A) → length (image v) ≡ 48) (clean : (v : A) → fault (image v) ≡ None) (single : (v w : A) → image v ≡ image w → v ≡ w) where
  pub joined_clean : (xs : List A) (k : ℕ) → k < length xs → fault (part k (flat_map image xs)) ≡ None
  joined_clean [] k h = absurd (omega arith)
  joined_clean (x ∷ xs) zero h = ap fault (take_at (image x) (flat_map image xs) 48 (size x)) ∙ clean x
  joined_clean (x ∷ xs) (suc k) h =
      let lt : k < length xs = omega arith in
      let far : 48 * suc k ≡ 48 + 48 * k = omega arith in
      let there : drop (48 * suc k) (flat_map image (x ∷ xs)) ≡ drop (48 * k) (flat_map image xs) =
      ap (λ z. drop z (image x ++ flat_map image xs)) far ∙ sym (drop-drop (48 * k) 48 (image x ++ flat_map image xs)) ∙ ap (drop (48 * k)) (drop_at (image x) (flat_map image xs) 48 (size x)) in
      ap (λ t. fault (take 48 t)) there ∙ joined_clean xs k lt

  pub stands : RunsStand image fault
  stands = record { single = joined_single image 48 size (omega arith) single; clean = joined_clean; whole = joined_long image 48 size }

pub fits_place : (n l : ℕ) → n ≤ 512 → l / 48 ≡ n → l % 48 ≡ 0 → place_fits n l ≡ true
fits_place n l a b c = simp (le-ltb 512 n a, eq-eqb _ _ b, eq-eqb _ _ c)

pub was_ok : {E : Type 0} (t : Bool) (w : Result (Unit {0}) E) (e : E) (u : Unit {0}) → w ≡ cond t (Ok tt) (Err e) → w ≡ Ok u → t ≡ true
was_ok true w e u p q = refl
was_ok false w e u p q = let z : ◌≡◌ {A = ℕ} 0 1 = cc in absurd (omega arith)

module _ {A : Type 0} (image : A → List ℕ) (fault : List ℕ → Option RecordFault) (s : RunsStand image fault) (xs : List A) (bs : List ℕ) (long : ℕ)
    (fits : place_fits (length xs) long ≡ true) (is : bs ≡ flat_map image xs) where
  pub back : (r : Result (Vec A Global) RunFault) → ReadRun image fault bs r → ReadBack xs long r
  back (Ok v) h = s.single (vec_items v) xs (h.1 ∙ is)
  back (Err Memory) h = tt
  back (Err Run) h =
      let few : length xs ≤ 512 = ltb-false 512 (length xs) (not-true _ (and_parts _ _ fits).0) in
      let size : length bs ≡ 48 * length xs = ap length is ∙ s.whole xs in
      let good : bad_run bs ≡ false = good_run bs (omega arith) (omega arith) in
      absurd (both_ways (bad_run bs) good h)
  back (Err (Record p)) h =
      let size : length bs ≡ 48 * length xs = ap length is ∙ s.whole xs in
      let lt : p.place < length xs = omega (arith, h.within) in
      let none : fault (part p.place bs) ≡ None = ap (λ t. fault (part p.place t)) is ∙ s.clean xs p.place lt in
      let some = h.found in
      let z : ◌≡◌ {A = ℕ} 0 1 = cc in
      omega arith

pub decided : {A : Type 0} (image : A → List ℕ) (fault : List ℕ → Option RecordFault) → ((v w : A) → image v ≡ image w → v ≡ w) → Decided image fault
decided image fault single bs (Ok v) (Ok w) f m g n = ap (λ x. Ok x) (single v w (m ∙ sym n))
decided image fault single bs (Ok v) (Err e) f m g n = let z : ◌≡◌ {A = ℕ} 0 1 = cc in absurd (omega arith)
decided image fault single bs (Err e) (Ok v) f m g n = let z : ◌≡◌ {A = ℕ} 0 1 = cc in absurd (omega arith)
decided image fault single bs (Err d) (Err e) f m g n = let same : d ≡ e = cc in ap (λ x. Err x) same

next_count : (fault : List ℕ → Option RecordFault) (bs : List ℕ) (k c : ℕ) → k < c → counted fault (c - k) k (drop (48 * k) bs) ≡ on_fault (fault (part k bs)) k (counted fault (c - (k + 1)) (k + 1) (drop (48 * (k + 1)) bs))
next_count fault bs k c lt =
    let e : c - k ≡ suc (c - (k + 1)) = omega arith in
    let d : drop 48 (drop (48 * k) bs) ≡ drop (48 * (k + 1)) bs = drop-drop 48 (48 * k) bs ∙ ap (λ z. drop z bs) (omega arith) in
    ap (λ m. counted fault m k (drop (48 * k) bs)) e ∙ ap (λ t. on_fault (fault (part k bs)) k (counted fault (c - (k + 1)) (k + 1) t)) d

module _ {A : Type 0} (fault : List ℕ → Option RecordFault) (bs : List ℕ) (k c : ℕ) (bytes : List ℕ) (part_is : bytes ≡ part k bs) (lt : k < c) where
  pub count_broke : (r : Result A RecordFault) (d : Result A Placed) (e : Placed) → fault_in r ≡ fault bytes → d ≡ Err e → d ≡ placed_at k r
      → counted fault (c - k) k (drop (48 * k) bs) ≡ Err (Record e)
  count_broke (Ok x) d e h was is = let z : ◌≡◌ {A = ℕ} 0 1 = cc in absurd (omega arith)
  count_broke (Err f) d e h was is =
      let same : record { fault = f; place = k } ≡ e = cc in
      let some : fault (part k bs) ≡ Some f = sym (h ∙ ap fault part_is) in
      next_count fault bs k c lt ∙ ap (λ o. on_fault o k (counted fault (c - (k + 1)) (k + 1) (drop (48 * (k + 1)) bs))) some ∙ ap (λ p. Err (Record p)) same

  pub count_on : (r : Result A RecordFault) (d : Result A Placed) (v : A) → fault_in r ≡ fault bytes → d ≡ Ok v → d ≡ placed_at k r
      → counted fault (c - k) k (drop (48 * k) bs) ≡ counted fault (c - (k + 1)) (k + 1) (drop (48 * (k + 1)) bs)
  count_on (Err f) d v h was is = let z : ◌≡◌ {A = ℕ} 0 1 = cc in absurd (omega arith)
  count_on (Ok x) d v h was is =
      let none : fault (part k bs) ≡ None = sym (h ∙ ap fault part_is) in
      next_count fault bs k c lt ∙ ap (λ o. on_fault o k (counted fault (c - (k + 1)) (k + 1) (drop (48 * (k + 1)) bs))) none
