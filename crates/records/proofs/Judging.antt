-- What the judgement of a run says, in words: its count and no fault, its length, or its first faulty record.
use Rattle.std.proofs.Common.{◌≡◌, ℕ, zero, suc, ◌+◌, ◌/◌, ◌%◌, ◌<◌, ◌≤◌, true, false, cond, List, length, take, drop, Some, None, Ok, Err, Option, Result, sym, refl, ap, ◌∙◌, ⊎_elim, arith, eqb-true}
use Rattle.std.proofs.lemmas.Bool.{or_parts, not-false, ltb-false, both_ways, cases_lt}
use Rattle.records.specs.declared.fault.RecordFault.{RecordFault}
use Rattle.records.specs.declared.run_fault.RunFault.{RunFault}
use Rattle.records.specs.declared.run_fault.RunFault.TheVariants.{Memory, Run, Record}
use Rattle.records.proofs.Runs.{good_run, part_next}
use Rattle.records.specs.Runs.{part, bad_run, Whole, RunIs, RunsJudged, counted, count_of, on_fault}

pub good_parts : (bs : List ℕ) → bad_run bs ≡ false → (length bs % 48 ≡ 0) × (length bs / 48 ≤ 512)
good_parts bs h =
    let p = or_parts _ _ h in
    (eqb-true _ _ (not-false _ p.0), ltb-false 512 (length bs / 48) p.1)

-- a good length, in words
whole : (bs : List ℕ) → bad_run bs ≡ false → Whole bs (length bs / 48)
whole bs h = let g = good_parts bs h in (omega (arith, g.0), g.1)

module _ (fault : List ℕ → Option RecordFault) where
  below : (bs : List ℕ) (n : ℕ) → fault (take 48 bs) ≡ None → ((j : ℕ) → j < n → fault (part j (drop 48 bs)) ≡ None) → (j : ℕ) → j < suc n → fault (part j bs) ≡ None
  below bs n h rest zero lt = h
  below bs n h rest (suc j) lt = ap fault (sym (part_next bs j)) ∙ rest j (omega arith)

  pub counted_ok : (n k m : ℕ) (bs : List ℕ) → counted fault n k bs ≡ Ok m → (m ≡ k + n) × ((j : ℕ) → j < n → fault (part j bs) ≡ None)
  counted_ok zero k m bs e = let same : k ≡ m = cc in (omega (arith, same), λ j lt. absurd (omega arith))
  counted_ok (suc n) k m bs e =
      elim (fault (take 48 bs)) as (λ o. fault (take 48 bs) ≡ o → on_fault o k (counted fault n (k + 1) (drop 48 bs)) ≡ Ok m → (m ≡ k + suc n) × ((j : ℕ) → j < suc n → fault (part j bs) ≡ None)) [
        | None ↦ λ h r. let rest = counted_ok n (k + 1) m (drop 48 bs) r in (omega (arith, rest.0), below bs n h rest.1)
        | Some f ↦ λ h r. let z : ◌≡◌ {A = ℕ} 0 1 = cc in absurd (omega arith)
      ] refl e

  -- the first fault from place k on is i places further
  pub record Found (n k : ℕ) (bs : List ℕ) (e : RunFault) : Type 0 where
    pub i : ℕ
    pub cause : RecordFault
    pub is : e ≡ Record (record { fault = cause; place = k + i })
    pub within : i < n
    pub found : fault (part i bs) ≡ Some cause
    pub before : (j : ℕ) → j < i → fault (part j bs) ≡ None

  pub counted_err : (n k : ℕ) (e : RunFault) (bs : List ℕ) → counted fault n k bs ≡ Err e → Found n k bs e
  counted_err zero k e bs r = let z : ◌≡◌ {A = ℕ} 0 1 = cc in absurd (omega arith)
  counted_err (suc n) k e bs r =
      elim (fault (take 48 bs)) as (λ o. fault (take 48 bs) ≡ o → on_fault o k (counted fault n (k + 1) (drop 48 bs)) ≡ Err e → Found (suc n) k bs e) [
        | None ↦ λ h q.
            let f = counted_err n (k + 1) e (drop 48 bs) q in
            let at : k + 1 + f.i ≡ k + suc f.i = omega arith in
            record {
              i = suc f.i;
              cause = f.cause;
              is = f.is ∙ ap (λ z. Record (record { fault = f.cause; place = z })) at;
              within = omega (arith, f.within);
              found = ap fault (sym (part_next bs f.i)) ∙ f.found;
              before = below bs f.i h f.before;
            }
        | Some c ↦ λ h q.
            let here : k ≡ k + 0 = omega arith in
            let same : e ≡ Record (record { fault = c; place = k }) = cc in
            record {
              i = 0;
              cause = c;
              is = same ∙ ap (λ z. Record (record { fault = c; place = z })) here;
              within = omega arith;
              found = h;
              before = λ j lt. absurd (omega arith);
            }
      ] refl r

  first_of : (bs : List ℕ) → bad_run bs ≡ false → (e : RunFault) → Found (length bs / 48) 0 bs e → RunIs fault bs (Err e)
  first_of bs good Memory f = let is = f.is in let z : ◌≡◌ {A = ℕ} 0 1 = cc in absurd (omega arith)
  first_of bs good Run f = let is = f.is in let z : ◌≡◌ {A = ℕ} 0 1 = cc in absurd (omega arith)
  first_of bs good (Record p) f =
      let g = good_parts bs good in
      let is = f.is in
      let at : p.place ≡ 0 + f.i = cc in
      let at' : p.place ≡ f.i = omega (arith, at) in
      let what : p.fault ≡ f.cause = cc in
      record {
        whole = good;
        within = omega (arith, f.within, at, g.0);
        found = ap (λ k. fault (part k bs)) at' ∙ f.found ∙ ap Some (sym what);
        before = λ j lt. f.before j (omega (arith, at, lt));
      }

  pub run_is : (bs : List ℕ) (r : Result ℕ RunFault) → count_of fault bs ≡ r → RunIs fault bs r
  run_is bs r e =
      elim (bad_run bs) as (λ b. bad_run bs ≡ b → cond b (Err Run) (counted fault (length bs / 48) 0 bs) ≡ r → RunIs fault bs r) [
        | true ↦ λ bad q. elim r as (λ s. Err Run ≡ s → RunIs fault bs s) [
          | Ok n ↦ λ q. let z : ◌≡◌ {A = ℕ} 0 1 = cc in absurd (omega arith)
          | Err Memory ↦ λ q. let z : ◌≡◌ {A = ℕ} 0 1 = cc in absurd (omega arith)
          | Err Run ↦ λ q n w. both_ways (bad_run bs) (good_run bs (omega (arith, w.0)) (omega (arith, w.0, w.1))) bad
          | Err (Record p) ↦ λ q. let z : ◌≡◌ {A = ℕ} 0 1 = cc in absurd (omega arith)
        ] q
        | false ↦ λ good q. elim r as (λ s. counted fault (length bs / 48) 0 bs ≡ s → RunIs fault bs s) [
          | Ok n ↦ λ q.
              let g = good_parts bs good in
              let c = counted_ok (length bs / 48) 0 n bs q in
              ((omega (arith, g.0, c.0), omega (arith, g.1, c.0)), λ j lt. c.1 j (omega (arith, c.0, lt)))
          | Err f ↦ λ q. first_of bs good f (counted_err (length bs / 48) 0 f bs q)
        ] q
      ] refl e

  -- words leave one judgement
  run_one : (bs : List ℕ) (r s : Result ℕ RunFault) → RunIs fault bs r → RunIs fault bs s → r ≡ s
  run_one bs (Ok m) (Ok n) a b = let same : m ≡ n = omega (arith, a.0.0, b.0.0) in ap Ok same
  run_one bs (Ok m) (Err Run) a b = absurd (b m a.0)
  run_one bs (Err Run) (Ok n) a b = absurd (a n b.0)
  run_one bs (Ok m) (Err (Record p)) a b =
      let none = a.1 p.place (omega (arith, a.0.0, b.within)) in
      let some = b.found in
      let z : ◌≡◌ {A = ℕ} 0 1 = cc in
      absurd (omega arith)
  run_one bs (Err (Record p)) (Ok n) a b =
      let none = b.1 p.place (omega (arith, b.0.0, a.within)) in
      let some = a.found in
      let z : ◌≡◌ {A = ℕ} 0 1 = cc in
      absurd (omega arith)
  run_one bs (Err Run) (Err Run) a b = refl
  run_one bs (Err Run) (Err (Record p)) a b = absurd (a _ (whole bs b.whole))
  run_one bs (Err (Record p)) (Err Run) a b = absurd (b _ (whole bs a.whole))
  run_one bs (Err (Record p)) (Err (Record q)) a b =
      ⊎_elim
      (λ (lt : p.place < q.place). let none = b.before p.place lt in let some = a.found in let z : ◌≡◌ {A = ℕ} 0 1 = cc in absurd (omega arith))
      (λ (ge : q.place ≤ p.place). ⊎_elim
      (λ (lt : q.place < p.place). let none = a.before q.place lt in let some = b.found in let z : ◌≡◌ {A = ℕ} 0 1 = cc in absurd (omega arith))
      (λ (le : p.place ≤ q.place).
      let same : p.place ≡ q.place = omega (arith, ge, le) in
      let both : Some p.fault ≡ Some q.fault = sym a.found ∙ ap (λ k. fault (part k bs)) same ∙ b.found in
      let cause : p.fault ≡ q.fault = cc in
      λ j. Err (Record (record { fault = cause j; place = same j })))
      (cases_lt q.place p.place))
      (cases_lt p.place q.place)
  run_one bs (Err Memory) s a b = absurd a
  run_one bs (Ok m) (Err Memory) a b = absurd b
  run_one bs (Err Run) (Err Memory) a b = absurd b
  run_one bs (Err (Record p)) (Err Memory) a b = absurd b

pub runs_judged : RunsJudged
runs_judged fault bs r = (run_is fault bs r, λ w. run_one fault bs (count_of fault bs) r (run_is fault bs (count_of fault bs) refl) w)
