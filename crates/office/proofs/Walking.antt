-- A walk through a file, one record more. Assumes nothing.
use Rattle.std.proofs.Common.{◌≡◌, ℕ, zero, suc, ◌+◌, ◌-◌, ◌*◌, ◌<◌, Bool, true, false, cond, List, take, drop, Some, None, Ok, Err, Option, Result, MatchResult, IsErrAnd, sym, refl, ap, ◌∙◌, arith}
use Rattle.std.proofs.lemmas.List.{drop-drop}
use Rattle.std.proofs.lemmas.Result.{err_from_is_err_and}
use Rattle.office.specs.Sections.{counts_of, counted}
use Rattle.office.specs.declared.sections.Sections.{Sections}
use Rattle.office.specs.declared.file_fault.FileFault.{FileFault}
use Rattle.sources.specs.Judged.{kind_of}
use Rattle.sources.specs.declared.kind.Kind.{Kind}
use Rattle.sources.specs.declared.kind.Kind.TheVariants.{Table, Sum, Week, Rule, Plan}
use Rattle.lines.specs.declared.report.File.{File}
use Rattle.records.specs.Faults.{unless}
use Rattle.records.specs.declared.fault.RecordFault.{RecordFault}
use Rattle.office.specs.declared.file_fault.Cause.{Cause}
use Rattle.office.specs.declared.file_fault.Cause.TheVariants.{Order}
use Rattle.office.specs.declared.file_fault.FileFault.TheVariants.{Record}
use Rattle.office.specs.Walk.{Counts, total, in_order, no_room, one_more, stepped, go_on, walked}

module _ (f : File) (b : Counts) where
  next_record : (m place : ℕ) (c : Counts) (xs : List ℕ) → 0 < m → walked f b m place c xs ≡ go_on place (stepped f b c (kind_of (take 48 xs))) (λ d. walked f b (m - 1) (place + 1) d (drop 48 xs))
  unfolding walked
  next_record zero place c xs lt = absurd (omega arith)
  next_record (suc m) place c xs lt = let e : m ≡ suc m - 1 = omega arith in ap (λ (k : ℕ). go_on place (stepped f b c (kind_of (take 48 xs))) (λ d. walked f b k (place + 1) d (drop 48 xs))) e

  pub walk_more : (n place : ℕ) (c : Counts) (bs : List ℕ) → place < n → walked f b (n - place) place c (drop (48 * place) bs) ≡ go_on place (stepped f b c (kind_of (take 48 (drop (48 * place) bs)))) (λ d. walked f b (n - (place + 1)) (place + 1) d (drop (48 * (place + 1)) bs))
  walk_more n place c bs lt =
      let left : 0 < n - place = omega arith in
      let m : n - place - 1 ≡ n - (place + 1) = omega arith in
      let at : 48 * place + 48 ≡ 48 * (place + 1) = omega arith in
      next_record (n - place) place c (drop (48 * place) bs) left
      ∙ ap (λ (k : ℕ). go_on place (stepped f b c (kind_of (take 48 (drop (48 * place) bs)))) (λ d. walked f b k (place + 1) d (drop 48 (drop (48 * place) bs)))) m
      ∙ ap (λ (l : List ℕ). go_on place (stepped f b c (kind_of (take 48 (drop (48 * place) bs)))) (λ d. walked f b (n - (place + 1)) (place + 1) d l)) (drop-drop 48 (48 * place) bs ∙ ap (λ (k : ℕ). drop k bs) at)

  pub walk_done : (place : ℕ) (c : Counts) (xs : List ℕ) (m : ℕ) → m ≡ 0 → walked f b m place c xs ≡ Ok c
  unfolding walked
  walk_done place c xs zero e = refl
  walk_done place c xs (suc m) e = absurd (omega arith)

-- one step of a walk, where the record's bytes are cut out of the file
module _ (f : File) (b c : Counts) (bs : List ℕ) (n place k : ℕ) (lt : place < n) (cut : k ≡ 48) where
  to_step : (r : Result Counts Cause) → r ≡ stepped f b c (kind_of (take k (drop (48 * place) bs))) → walked f b (n - place) place c (drop (48 * place) bs) ≡ go_on place r (λ d. walked f b (n - (place + 1)) (place + 1) d (drop (48 * (place + 1)) bs))
  to_step r e =
      walk_more f b n place c bs lt
      ∙ ap (λ (x : Result Counts Cause). go_on place x (λ d. walked f b (n - (place + 1)) (place + 1) d (drop (48 * (place + 1)) bs)))
      (ap (λ (j : ℕ). stepped f b c (kind_of (take j (drop (48 * place) bs)))) (sym cut) ∙ sym e)

  pub walk_on : (d : Counts) → Ok d ≡ stepped f b c (kind_of (take k (drop (48 * place) bs))) → walked f b (n - place) place c (drop (48 * place) bs) ≡ walked f b (n - (place + 1)) (place + 1) d (drop (48 * (place + 1)) bs)
  walk_on d e = to_step (Ok d) e

  pub walk_broke : (x : Cause) → Err x ≡ stepped f b c (kind_of (take k (drop (48 * place) bs))) → walked f b (n - place) place c (drop (48 * place) bs) ≡ Err (Record place x)
  walk_broke x e = to_step (Err x) e

pub total_more : (c : Counts) (k : Kind) → total (one_more c k) ≡ total c + 1
total_more c Table = omega arith
total_more c Sum = omega arith
total_more c Week = omega arith
total_more c Rule = omega arith
total_more c Plan = omega arith

-- a step that is taken counts one record
pub stepped_total : (f : File) (b c d : Counts) (r : Result Kind RecordFault) → Ok d ≡ stepped f b c r → total d ≡ total c + 1
stepped_total f b c d (Err e) h = absurd (let z : ◌≡◌ {A = ℕ} 0 1 = cc in omega arith)
stepped_total f b c d (Ok k) h = go (in_order f c k) (no_room b c k) h
  where
    go : (t : Bool) (o : Option Cause) → Ok d ≡ cond t (unless o (one_more c k)) (Err Order) → total d ≡ total c + 1
    go true None h = let e : d ≡ one_more c k = cc in ap total e ∙ total_more c k
    go true (Some x) h = absurd (let z : ◌≡◌ {A = ℕ} 0 1 = cc in omega arith)
    go false o h = absurd (let z : ◌≡◌ {A = ℕ} 0 1 = cc in omega arith)

-- a record that keeps its rules and its order, by the room that is left
module _ (f : File) (b c : Counts) (k : Kind) (ordered : in_order f c k ≡ true) where
  placed : (r : Result Kind RecordFault) → Ok k ≡ r → stepped f b c r ≡ unless (no_room b c k) (one_more c k)
  placed r e = ap (stepped f b c) (sym e) ∙ ap (λ (t : Bool). cond t (unless (no_room b c k) (one_more c k)) (Err Order)) ordered

-- what a result is, once its cause has the record's place
abbrev pub filed : ℕ → Result Sections Cause → Result Sections FileFault
filed k (Ok s) = Ok s
filed k (Err x) = Err (Record k x)

pub filed_is : {Q : Cause → FileFault → Type 0} (k : ℕ) (r : Result Sections Cause) (d : Result Sections FileFault) → MatchResult r (λ s. d ≡ Ok s) (λ x. IsErrAnd d (Q x))
    → ((x : Cause) (f : FileFault) → Q x f → f ≡ Record k x) → d ≡ filed k r
filed_is k (Ok s) d m q = m
filed_is k (Err x) d m q = let p = err_from_is_err_and d m in p.1 ∙ ap (λ (f : FileFault). Err f) (q x p.0 p.2)

pub filed_ok : (k : ℕ) (r : Result Sections Cause) (d : Result Sections FileFault) (s : Sections) (answer : Result Counts Cause) → d ≡ filed k r → d ≡ Ok s → counted r ≡ answer → Ok (counts_of s) ≡ answer
filed_ok k (Ok x) d s answer is was h = let same : x ≡ s = cc in ap (λ (t : Sections). Ok (counts_of t)) (sym same) ∙ h
filed_ok k (Err x) d s answer is was h = let z : ◌≡◌ {A = ℕ} 0 1 = cc in absurd (omega arith)

pub filed_err : (k : ℕ) (r : Result Sections Cause) (d : Result Sections FileFault) (f : FileFault) (answer : Result Counts Cause) → d ≡ filed k r → d ≡ Err f → counted r ≡ answer → (x : Cause) × (f ≡ Record k x) × (◌≡◌ {A = Result Counts Cause} (Err x) answer)
filed_err k (Ok x) d f answer is was h = let z : ◌≡◌ {A = ℕ} 0 1 = cc in absurd (omega arith)
filed_err k (Err x) d f answer is was h = let same : f ≡ Record k x = cc in (x, same, h)
