-- The frame of a record: its fields are read back from it, and it passes the tests of its letter and form.
use Rattle.std.specs.Prelude.{◌≡◌, ℕ, ◌≤◌, Bool, true, false, cond, List, [], ◌∷◌, ◌++◌, length, take, drop, replicate, Some, None}
use Rattle.std.proofs.Math.Path.{refl}
use Rattle.std.proofs.Common.{sym, ◌∙◌, ap, arith}
use borrow.Author.Tests.{eqb-true, eq-eqb}
use Rattle.std.proofs.lemmas.Bool.{cond-true}
use borrow.Rule.Slice.PartMut.{put_mid}
use Rattle.std.proofs.lemmas.List.{take_all, length-append, length-take, length-drop, take_at, drop_at, drop-drop, nil_from_length, append-nil, append_assoc}
use Rattle.records.specs.declared.fault.RecordFault.{RecordFault}
use Rattle.records.specs.declared.fault.RecordFault.TheVariants.{Letter, Form, Zero, Atoms, Body, Tail}
use Rattle.records.specs.declared.fields.Fields.{Fields}
use Rattle.records.specs.Faults.{field_of, first_fault}
use Rattle.records.specs.Frames.{frame, fields_of, mark_tests, frame_tests, frame_fault}
use Rattle.records.specs.Bytes.{whole, replicated_at, put_after}

pub record Long (f : Fields) : Type 0 where
  pub atoms : length f.atoms ≡ 8
  pub body : length f.body ≡ 32
  pub tail : length f.tail ≡ 4

module _ (l m : ℕ) (f : Fields) (long : Long f) where
  pub frame_size : length (frame l m f) ≡ 48
  frame_size = omega (arith, length-append f.atoms (f.body ++ f.tail), length-append f.body f.tail, long.atoms, long.body, long.tail)

  rest : drop 12 (frame l m f) ≡ f.body ++ f.tail
  rest = drop_at f.atoms (f.body ++ f.tail) 8 long.atoms

  last : drop 44 (frame l m f) ≡ f.tail
  last = sym (drop-drop 32 12 (frame l m f)) ∙ ap (drop 32) rest ∙ drop_at f.body f.tail 32 long.body

  pub frame_fields : fields_of (frame l m f) ≡ f
  frame_fields =
      let a : field_of Atoms (frame l m f) ≡ f.atoms = take_at f.atoms (f.body ++ f.tail) 8 long.atoms in
      let b : field_of Body (frame l m f) ≡ f.body = ap (take 32) rest ∙ take_at f.body f.tail 32 long.body in
      let short : length f.tail ≤ 4 = omega (arith, long.tail) in
      let t : field_of Tail (frame l m f) ≡ f.tail = ap (take 4) last ∙ take_all 4 f.tail short in
      λ j. record { atoms = a j; body = b j; tail = t j }

  pub frame_clean : frame_fault l m (frame l m f) ≡ None
  unfolding frame_fault
  frame_clean = rw (eq-eqb _ _ frame_size, eq-eqb l l refl, eq-eqb m m refl)

  -- the writes of an encoder
  pub frame_written : (place start a b t : List ℕ) → length place ≡ 48 → start ≡ l ∷ m ∷ 0 ∷ 0 ∷ [] → a ≡ f.atoms → b ≡ f.body → t ≡ f.tail
      → put_mid 44 4 (put_mid 12 32 (put_mid 4 8 (start ++ drop 4 place) a) b) t ≡ frame l m f
  frame_written place start a b t size s is-a is_b is-t =
      let f1 : List ℕ = l ∷ m ∷ 0 ∷ 0 ∷ [] in
      let f2 : List ℕ = f1 ++ f.atoms in
      let f3 : List ℕ = f2 ++ f.body in
      let r1 = drop 4 place in
      let r2 = drop 8 r1 in
      let r3 = drop 32 r2 in
      let l2 : length f2 ≡ 12 = omega (arith, long.atoms) in
      let l3 : length f3 ≡ 44 = length-append f2 f.body ∙ omega (arith, long.atoms, long.body) in
      let s1 : put_mid 4 8 (f1 ++ r1) f.atoms ≡ f2 ++ r2 = put_after f1 r1 f.atoms 4 8 refl in
      let s2 : put_mid 12 32 (f2 ++ r2) f.body ≡ f3 ++ r3 = put_after f2 r2 f.body 12 32 l2 in
      let s3 : put_mid 44 4 (f3 ++ r3) f.tail ≡ (f3 ++ f.tail) ++ drop 4 r3 = put_after f3 r3 f.tail 44 4 l3 in
      let none : drop 4 r3 ≡ [] = nil_from_length _ (simp length-drop (omega arith)) in
      let end : f3 ++ f.tail ≡ frame l m f = append_assoc f2 f.body f.tail ∙ append_assoc f1 f.atoms (f.body ++ f.tail) in
      ap (λ z. put_mid 44 4 (put_mid 12 32 (put_mid 4 8 (z ++ r1) a) b) t) s
      ∙ ap (λ z. put_mid 44 4 (put_mid 12 32 (put_mid 4 8 (f1 ++ r1) z) b) t) is-a
      ∙ ap (λ z. put_mid 44 4 (put_mid 12 32 z b) t) s1
      ∙ ap (λ z. put_mid 44 4 (put_mid 12 32 (f2 ++ r2) z) t) is_b
      ∙ ap (λ z. put_mid 44 4 z t) s2
      ∙ ap (λ z. put_mid 44 4 (f3 ++ r3) z) is-t
      ∙ s3
      ∙ ap (λ z. (f3 ++ f.tail) ++ z) none
      ∙ append-nil (f3 ++ f.tail)
      ∙ end

pub frame_single : (l m : ℕ) (f g : Fields) → Long f → Long g → frame l m f ≡ frame l m g → f ≡ g
frame_single l m f g x y e = sym (frame_fields l m f x) ∙ ap fields_of e ∙ frame_fields l m g y

-- the faults of forty-eight bytes
pub marks_left : (l m : ℕ) (bs : List ℕ) → length bs ≡ 48 → frame_fault l m bs ≡ first_fault (mark_tests l m bs)
unfolding frame_fault
marks_left l m bs h = cond-true _ _ _ (eq-eqb _ _ h)

-- every test passed
abbrev pub Passed : List (Bool × RecordFault) → Type 0
Passed [] = Unit {0}
Passed (t ∷ ts) = (t.0 ≡ true) × Passed ts

pub passed : (ts : List (Bool × RecordFault)) → first_fault ts ≡ None → Passed ts
passed [] e = tt
passed (t ∷ ts) e =
    elim t.0 as (λ b. t.0 ≡ b → cond b (first_fault ts) (Some t.1) ≡ None → Passed (t ∷ ts)) [
      | true ↦ λ h k. (h, passed ts k)
      | false ↦ λ h k. let z : ◌≡◌ {A = ℕ} 0 1 = cc in absurd (omega arith)
    ] refl e

-- a record that passes the tests is the frame of its fields
pub frame_read : (l m : ℕ) (bs : List ℕ) → frame_fault l m bs ≡ None → (length bs ≡ 48) × (frame l m (fields_of bs) ≡ bs)
unfolding frame_fault
frame_read l m bs e =
    let p = passed (frame_tests l m bs) e in
    let size : length bs ≡ 48 = eqb-true _ _ p.0 in
    let l1 : length (field_of Letter bs) ≡ 1 = simp (length-take, length-drop) (omega arith) in
    let l2 : length (field_of Form bs) ≡ 1 = simp (length-take, length-drop) (omega arith) in
    let l3 : length (field_of Zero bs) ≡ 2 = simp (length-take, length-drop) (omega arith) in
    let e1 : replicate 1 l ≡ field_of Letter bs = replicated_at 1 l (field_of Letter bs) l1 p.1.0 in
    let e2 : replicate 1 m ≡ field_of Form bs = replicated_at 1 m (field_of Form bs) l2 p.1.1.0 in
    let e3 : replicate 2 0 ≡ field_of Zero bs = replicated_at 2 0 (field_of Zero bs) l3 p.1.1.1.0 in
    let fields : List ℕ = field_of Atoms bs ++ (field_of Body bs ++ field_of Tail bs) in
    let parts : replicate 1 l ++ (replicate 1 m ++ (replicate 2 0 ++ fields)) ≡ field_of Letter bs ++ (field_of Form bs ++ (field_of Zero bs ++ fields)) = cc in
    (size, parts ∙ whole bs size)
