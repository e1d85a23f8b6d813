-- Runs of records: what a reader and a writer of any kind answer, and the two round trips.
use Rattle.std.specs.Prelude.{◌≡◌, ℕ, zero, suc, ◌+◌, ◌*◌, ◌/◌, ◌%◌, ◌<◌, ◌≤◌, Bool, true, false, cond, not, ◌&&◌, ◌||◌, List, length, take, drop, IfOk, Some, None, Ok, Err, vec_items, Option, Result, Vec, ◌==◌, nat_lt}
use Rattle.records.specs.Faults.{fault_in}
use Rattle.std.specs.List.{flat_map}
use Rattle.std.specs.Simd.{first_chunks}
use Rattle.std.specs.declared.alloc.Global.{Global}
use Rattle.records.specs.declared.fault.RecordFault.{RecordFault}
use Rattle.records.specs.declared.run_fault.Placed.{Placed}
use Rattle.records.specs.declared.run_fault.RunFault.{RunFault}
use Rattle.records.specs.declared.run_fault.RunFault.TheVariants.{Memory, Run, Record}

-- the bytes of the record at a place, from 0
abbrev pub part : ℕ → List ℕ → List ℕ
part k bs = take 48 (drop (48 * k) bs)

-- not whole records, or above 512 of them
abbrev pub bad_run : List ℕ → Bool
bad_run bs = not (length bs % 48 == 0) || nat_lt 512 (length bs / 48)

-- the records of a run, one after another
abbrev pub records_in : List ℕ → List (List ℕ)
records_in bs = first_chunks 48 (length bs / 48) bs

-- the record at a place has a fault, and those before it have none
pub record FirstFault (fault : List ℕ → Option RecordFault) (bs : List ℕ) (p : Placed) : Type 0 where
  pub whole : bad_run bs ≡ false
  pub within : 48 * p.place < length bs
  pub found : fault (part p.place bs) ≡ Some p.fault
  pub before : (j : ℕ) → j < p.place → fault (part j bs) ≡ None

-- what a reader of runs answers: the values that the run is the images of, or the first fault
abbrev pub ReadRun : {A : Type 0} → (A → List ℕ) → (List ℕ → Option RecordFault) → List ℕ → Result (Vec A Global) RunFault → Type 0
ReadRun image fault bs (Ok v) = (bad_run bs ≡ false) × (flat_map image (vec_items v) ≡ bs)
ReadRun image fault bs (Err Memory) = Unit {0}
ReadRun image fault bs (Err Run) = bad_run bs ≡ true
ReadRun image fault bs (Err (Record p)) = FirstFault fault bs p

-- a place of some length holds a run of count records
abbrev pub place_fits : ℕ → ℕ → Bool
place_fits count long = not (nat_lt 512 count) && (long / 48 == count && long % 48 == 0)

-- a run is read in one way, and what is written has no fault
pub record RunsStand {A : Type 0} (image : A → List ℕ) (fault : List ℕ → Option RecordFault) : Type 0 where
  pub single : (xs ys : List A) → flat_map image xs ≡ flat_map image ys → xs ≡ ys
  pub clean : (xs : List A) (k : ℕ) → k < length xs → fault (part k (flat_map image xs)) ≡ None
  pub whole : (xs : List A) → length (flat_map image xs) ≡ 48 * length xs

-- values written and read again are the same
abbrev pub ReadBack : {A : Type 0} → List A → ℕ → Result (Vec A Global) RunFault → Type 0
ReadBack xs long (Ok v) = vec_items v ≡ xs
ReadBack xs long (Err Memory) = Unit {0}
ReadBack xs long (Err Run) = place_fits (length xs) long ≡ false
ReadBack xs long (Err (Record p)) = ⊥

abbrev pub on_fault : Option RecordFault → ℕ → Result ℕ RunFault → Result ℕ RunFault
on_fault None k rest = rest
on_fault (Some e) k rest = Err (Record (record { fault = e; place = k }))

-- count records from place k on: the place past them, or the first fault
abbrev pub counted : (List ℕ → Option RecordFault) → ℕ → ℕ → List ℕ → Result ℕ RunFault
counted fault zero k bs = Ok k
counted fault (suc n) k bs = on_fault (fault (take 48 bs)) k (counted fault n (k + 1) (drop 48 bs))

-- how many records a run has, or what is wrong with it
abbrev pub count_of : (List ℕ → Option RecordFault) → List ℕ → Result ℕ RunFault
count_of fault bs = cond (bad_run bs) (Err Run) (counted fault (length bs / 48) 0 bs)

-- one answer, and no other, is a decoder's
abbrev pub Decided : {A : Type 0} → (A → List ℕ) → (List ℕ → Option RecordFault) → Type 0
Decided {A} image fault = (bs : List ℕ) (r s : Result A RecordFault) → fault_in r ≡ fault bs → IfOk r (λ v. image v ≡ bs) → fault_in s ≡ fault bs → IfOk s (λ v. image v ≡ bs) → r ≡ s

-- n whole records, 512 at most
abbrev pub Whole : List ℕ → ℕ → Type 0
Whole bs n = (length bs ≡ 48 * n) × (n ≤ 512)

-- what a run's judgement says, in words
abbrev pub RunIs : (List ℕ → Option RecordFault) → List ℕ → Result ℕ RunFault → Type 0
RunIs fault bs (Ok n) = (Whole bs n) × ((j : ℕ) → j < n → fault (part j bs) ≡ None)
RunIs fault bs (Err Memory) = ⊥
RunIs fault bs (Err Run) = (n : ℕ) → Whole bs n → ⊥
RunIs fault bs (Err (Record p)) = FirstFault fault bs p

-- a run is judged exactly so: accepted when every record is, else its length or its first faulty record is named
abbrev pub RunsJudged : Type 0
RunsJudged = (fault : List ℕ → Option RecordFault) (bs : List ℕ) (r : Result ℕ RunFault) → (count_of fault bs ≡ r → RunIs fault bs r) × (RunIs fault bs r → count_of fault bs ≡ r)
