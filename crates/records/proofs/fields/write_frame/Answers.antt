use Rattle.std.proofs.Common.{◌≡◌, true, eqb, length, sym, ◌∙◌, arith, eqb-true}
use Rattle.std.proofs.lemmas.Bool.{cond-true}
use Rattle.records.specs.Bytes.{demanded_ok}
use Rattle.records.specs.FramesLemmas.{Long, frame_written}
use Rattle.records.proofs.fields.write_frame.Goals as goal

pub returns : goal.returns
returns c =
    let f = c.args.fields.now in
    let place = c.args.place.now in
    let h : eqb (length place) 48 ≡ true = demanded_ok _ _ _ (sym c.demand.ensures ∙ c.in_ok-demand.was) in
    let long : Long f = record { atoms = omega arith; body = omega arith; tail = omega arith } in
    record {
      fault = sym c.in_ok-demand.was ∙ c.demand.ensures;
      bytes = frame_written c.args.letter c.args.form f long place _ _ _ _ (eqb-true _ _ h)
          c.copy_from_slice.ensures.after c.copy_from_slice-2.ensures.after c.copy_from_slice-3.ensures.after c.copy_from_slice-4.ensures.after ∙ sym (cond-true _ _ _ h);
    }
