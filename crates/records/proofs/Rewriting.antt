-- A run that is read and written again.
use Rattle.std.proofs.Common.{◌≡◌, ◌≢◌, ℕ, ◌*◌, ◌≤◌, Bool, true, false, cond, List, length, None, Ok, Err, Option, Result, sym, refl, ap, ◌∙◌, inl, inr, arith}
use Rattle.std.proofs.lemmas.Bool.{cond-true, both_ways}
use Rattle.std.specs.List.{flat_map}
use Rattle.records.specs.Widths.{joined_long}
use Rattle.records.specs.declared.fault.RecordFault.{RecordFault}
use Rattle.records.specs.declared.run_fault.RunFault.{RunFault}
use Rattle.records.specs.declared.run_fault.RunFault.TheVariants.{Memory, Run, Record}
use Rattle.records.specs.Faults.{fault_in}
use Rattle.records.specs.Runs.{part, bad_run, place_fits, ReadRun, count_of}
use Rattle.records.specs.Trips.{Rewritten}
use Rattle.records.proofs.Judging.{good_parts, runs_judged}
use Rattle.records.proofs.Runs.{fits_place, joined_clean}

module _ {A : Type 0} (image : A → List ℕ) (fault : List ℕ → Option RecordFault) (bs was : List ℕ) where
  -- what the reader refuses is refused, and nothing is written
  pub refused : (e : RunFault) → ReadRun image fault bs (Err e) → Rewritten fault bs was was (Err e)
  refused Memory h = refl
  refused Run h = (inl (cond-true (bad_run bs) (Err Run) _ h), refl)
  refused (Record p) h = ((runs_judged fault bs (Err (Record p))).1 h, refl)

module _ {A : Type 0} (image : A → List ℕ) (fault : List ℕ → Option RecordFault)
    (size : (v : A) → length (image v) ≡ 48) (clean : (v : A) → fault (image v) ≡ None) (single : (v w : A) → image v ≡ image w → v ≡ w)
    (bs was now : List ℕ) (xs : List A) (good : bad_run bs ≡ false) (read : flat_map image xs ≡ bs) where
  long : length bs ≡ 48 * length xs
  long = sym (ap length read) ∙ joined_long image 48 size xs

  few : length xs ≤ 512
  few = let g = good_parts bs good in omega (arith, g.1, long)

  judged : count_of fault bs ≡ Ok (length xs)
  judged = (runs_judged fault bs (Ok (length xs))).1 ((long, few), λ j lt. ap (λ t. fault (part j t)) (sym read) ∙ joined_clean image fault size clean single xs j lt)

  misfit : place_fits (length xs) (length was) ≡ false → length was ≢ length bs
  misfit short same = both_ways _ short (fits_place (length xs) (length was) few (omega (arith, same, long)) (omega (arith, same, long)))

  pub rewritten : (t : Bool) (w : Result (Unit {0}) RunFault) → place_fits (length xs) (length was) ≡ t → w ≡ cond t (Ok tt) (Err Run) → now ≡ cond t (flat_map image xs) was → Rewritten fault bs was now w
  rewritten true w fits is new = rw is (ap fault_in judged, new ∙ read)
  rewritten false w fits is new = rw is (inr (ap fault_in judged, misfit fits), new)
