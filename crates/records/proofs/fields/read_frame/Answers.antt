use Rattle.std.proofs.Common.{Ok, rules, sym, ap, ◌∙◌}
use Rattle.std.proofs.lemmas.Result.{err_from_is_err_and}
use Rattle.std.specs.Result.{result_ok}
use Rattle.records.specs.Faults.{first_fault, unless}
use Rattle.records.specs.Frames.{fields_of, mark_tests, frame_fault}
use Rattle.records.specs.FramesLemmas.{marks_left}
use Rattle.records.specs.Decoding.{unless_ok, unless_err}
use Rattle.records.proofs.fields.read_frame.Goals as goal

pub returns-in_err-record : goal.returns-in_err-record
unfolding frame_fault
returns-in_err-record c = search rules

pub returns-in_err-check_frame : goal.returns-in_err-check_frame
returns-in_err-check_frame c =
    let l = c.args.letter in
    let m = c.args.form in
    let bs = c.args.bytes.now in
    let chunk = rw (c.ok_or.ensures.ok_part ∙ ap result_ok c.in_ok-record.was) at c.as_array.ensures.cases in
    let is = c.check_frame.ensures ∙ ap (λ t. unless (first_fault (mark_tests l m t)) tt) chunk.same in
    let found = marks_left l m bs chunk.long ∙ unless_err _ _ _ (sym is ∙ c.in_err-check_frame.was) in
    let p = err_from_is_err_and c.from_residual-in_err-check_frame.result c.from_residual-in_err-check_frame.ensures.1 in
    rw (p.1, p.2) (sym (ap (λ o. unless o (fields_of bs)) found))

pub returns : goal.returns
returns c =
    let l = c.args.letter in
    let m = c.args.form in
    let bs = c.args.bytes.now in
    let chunk = rw (c.ok_or.ensures.ok_part ∙ ap result_ok c.in_ok-record.was) at c.as_array.ensures.cases in
    let is = c.check_frame.ensures ∙ ap (λ t. unless (first_fault (mark_tests l m t)) tt) chunk.same in
    let none = marks_left l m bs chunk.long ∙ (unless_ok _ _ _ (sym is ∙ c.in_ok-check_frame.was)).0 in
    ap (λ f. Ok f) (c.split.ensures ∙ ap fields_of chunk.same) ∙ sym (ap (λ o. unless o (fields_of bs)) none)
