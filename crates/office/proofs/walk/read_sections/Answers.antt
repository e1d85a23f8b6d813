use Rattle.std.proofs.Common.{◌≡◌, ◌-◌, ◌*◌, ◌/◌, ◌<◌, ℕ, List, length, drop, rules, refl, sym, ap, ◌∙◌, arith}
use Rattle.std.proofs.lemmas.Bool.{cond-false}
use Rattle.std.proofs.lemmas.Result.{err_from_is_err_and}
use Rattle.std.specs.Option.{is_none}
use Rattle.records.proofs.Runs.{record_at}
use Rattle.sources.specs.Judged.{kind_of}
use Rattle.office.specs.Sections.{counts_of}
use Rattle.office.specs.Walk.{stepped}
use Rattle.office.proofs.Walking.{walk_on, walk_broke, walk_done, stepped_total, filed_is, filed_ok, filed_err}
use Rattle.office.proofs.walk.read_sections.Goals as goal

pub returns-in_err-sections-clause-read : goal.returns-in_err-sections-clause-read
returns-in_err-sections-clause-read c =
    let bs = c.args.bytes.now in
    let f = c.args.file in
    let b = counts_of c.args.before.now in
    let s = counts_of c.loop-place.sections in
    let k = c.loop-place.place-counter in
    let some = c.in_ok-records.ensures.ok_part in
    let good = sym c.records_of.ensures.refused ∙ ap is_none some in
    let count = rw some at c.records_of.ensures.count in
    let cut = rw some at c.records_of.ensures.records in
    let lt : k < length bs / 48 = omega (arith, count, c.loop-place-test.true) in
    let at = record_at bs _ k cut lt in
    let is = filed_is k c.step.result c.map_err.result c.map_err.ensures.cases (λ x f q. search rules) in
    let broke = filed_err k c.step.result c.map_err.result _ _ is c.in_err-sections.was c.step.ensures in
    let p = err_from_is_err_and c.from_residual-in_err-sections.result c.from_residual-in_err-sections.ensures.1 in
    let walk = walk_broke f b s bs (length bs / 48) k 48 lt refl broke.0 (broke.2 ∙ ap (λ (r : List ℕ). stepped f b s (kind_of r)) at) in
    rw (p.1, p.2, broke.1) (sym (cond-false _ _ _ good ∙ c.loop-place.invariant.1 ∙ walk))

pub loop-place-preserved : goal.loop-place-preserved
loop-place-preserved c =
    let bs = c.args.bytes.now in
    let f = c.args.file in
    let b = counts_of c.args.before.now in
    let s = counts_of c.loop-place.sections in
    let k = c.loop-place.place-counter in
    let d = counts_of c.in_ok-sections.sections in
    let some = c.in_ok-records.ensures.ok_part in
    let count = rw some at c.records_of.ensures.count in
    let cut = rw some at c.records_of.ensures.records in
    let lt : k < length bs / 48 = omega (arith, count, c.loop-place-test.true) in
    let at = record_at bs _ k cut lt in
    let is = filed_is k c.step.result c.map_err.result c.map_err.ensures.cases (λ x f q. search rules) in
    let next = filed_ok k c.step.result c.map_err.result c.in_ok-sections.sections _ is c.in_ok-sections.was c.step.ensures ∙ ap (λ (r : List ℕ). stepped f b s (kind_of r)) at in (
      omega (arith, stepped_total f b s d _ next, c.loop-place.invariant.0),
      c.loop-place.invariant.1 ∙ walk_on f b s bs (length bs / 48) k 48 lt refl d next,
    )

pub returns-clause-read : goal.returns-clause-read
returns-clause-read c =
    let bs = c.args.bytes.now in
    let k = c.loop-place.place-counter in
    let some = c.in_ok-records.ensures.ok_part in
    let good = sym c.records_of.ensures.refused ∙ ap is_none some in
    let count = rw some at c.records_of.ensures.count in
    let none_left : length bs / 48 - k ≡ 0 = omega (arith, count, c.loop-place-test.false) in
    sym (
    cond-false _ _ _ good
    ∙ c.loop-place.invariant.1
    ∙ walk_done c.args.file (counts_of c.args.before.now) k (counts_of c.loop-place.sections) (drop (48 * k) bs) (length bs / 48 - k) none_left
    )
