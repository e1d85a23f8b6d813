-- Any kind of record: what a decoder answers after each of its two steps, the frame and its own tests.
use Rattle.std.specs.Prelude.{◌≡◌, ℕ, Bool, List, Some, None, Ok, Err, Option, Result, refl}
use Rattle.std.proofs.Common.{sym, ◌∙◌, ap, arith}
use Rattle.records.specs.declared.fault.RecordFault.{RecordFault}
use Rattle.records.specs.declared.fields.Fields.{Fields}
use Rattle.records.specs.Faults.{first_fault, unless, or_else}
use Rattle.records.specs.Frames.{frame, fields_of, frame_fault, fault_by}
use Rattle.records.specs.FramesLemmas.{Long, Passed, passed, frame_clean, frame_fields, frame_read}

pub unless_ok : {A E : Type 0} (o : Option E) (x y : A) → unless o x ≡ Ok y → (o ≡ None) × (y ≡ x)
unless_ok None x y h = let e : y ≡ x = cc in (refl, e)
unless_ok (Some e) x y h = let z : ◌≡◌ {A = ℕ} 0 1 = cc in absurd (omega arith)

pub unless_err : {A E : Type 0} (o : Option E) (x : A) (e : E) → unless o x ≡ Err e → o ≡ Some e
unless_err None x e h = let z : ◌≡◌ {A = ℕ} 0 1 = cc in absurd (omega arith)
unless_err (Some d) x e h = cc

-- fields whose tests pass are a record without fault
pub clean_by : (l m : ℕ) (tests : Fields → List (Bool × RecordFault)) (f : Fields) → Long f → first_fault (tests f) ≡ None → fault_by l m tests (frame l m f) ≡ None
clean_by l m tests f long e =
    ap (λ o. or_else o (first_fault (tests (fields_of (frame l m f))))) (frame_clean l m f long)
    ∙ ap (λ g. first_fault (tests g)) (frame_fields l m f long) ∙ e

module _ (l m : ℕ) (tests : Fields → List (Bool × RecordFault)) (bs : List ℕ) (r : Result Fields RecordFault) (read : r ≡ unless (frame_fault l m bs) (fields_of bs)) where
  module _ (f : Fields) (was : r ≡ Ok f) where
    kept : (frame_fault l m bs ≡ None) × (f ≡ fields_of bs)
    kept = unless_ok _ _ f (sym read ∙ was)

    -- the frame is kept, and a fault is that of the tests
    pub tests_are : first_fault (tests f) ≡ fault_by l m tests bs
    tests_are = ap (λ g. first_fault (tests g)) kept.1 ∙ sym (ap (λ o. or_else o (first_fault (tests (fields_of bs)))) kept.0)

    frame_is : frame l m f ≡ bs
    frame_is = ap (frame l m) kept.1 ∙ (frame_read l m bs kept.0).1

    -- the fields are a value's
    pub image_is : (a b t : List ℕ) → a ≡ f.atoms → b ≡ f.body → t ≡ f.tail → frame l m (record { atoms = a; body = b; tail = t }) ≡ bs
    image_is a b t p q s = let e : record { atoms = a; body = b; tail = t } ≡ f = (λ j. record { atoms = p j; body = q j; tail = s j }) in ap (frame l m) e ∙ frame_is

    -- a test is refused
    pub tests_broke : (q : Result (Unit {0}) RecordFault) → q ≡ unless (first_fault (tests f)) tt → (e : RecordFault) → q ≡ Err e → Some e ≡ fault_by l m tests bs
    tests_broke q is e err = sym (unless_err _ _ e (sym is ∙ err)) ∙ tests_are

    -- every test is passed
    pub tests_kept : (q : Result (Unit {0}) RecordFault) → q ≡ unless (first_fault (tests f)) tt → (u : Unit {0}) → q ≡ Ok u → None ≡ fault_by l m tests bs
    tests_kept q is u ok = sym (unless_ok _ _ u (sym is ∙ ok)).0 ∙ tests_are

pub all_passed : (ts : List (Bool × RecordFault)) (q : Result (Unit {0}) RecordFault) (u : Unit {0}) → q ≡ unless (first_fault ts) tt → q ≡ Ok u → Passed ts
all_passed ts q u is ok = passed ts (unless_ok _ _ u (sym is ∙ ok)).0
