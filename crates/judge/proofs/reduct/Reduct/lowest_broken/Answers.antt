use Rattle.std.proofs.Common.{◌≡◌, true, false, rules, tests, ap, ◌∙◌}
use Rattle.std.specs.Slice.Iter.{iter_rest}
use Rattle.std.proofs.lemmas.Iterator.{YieldsList-from_slice, YieldsList-from_zip, IsFirst-from_position}
use Rattle.plans.specs.Partial.{full}
use Rattle.judge.proofs.Rows.{breaks, lowest}
use Rattle.judge.proofs.reduct.Reduct.lowest_broken.Goals as goal

pub returns : goal.returns
returns g c =
    let s = c.args.self.now in
    let I = full s.plan.now in
    lowest (g.O.Oracle.meaning s.oracle.now) I s.rows.now s.live s.exact s.few _
    (IsFirst-from_position c.position.new.self _ _ (λ p. breaks I p ≡ true) (λ p. breaks I p ≡ false) c.position.ensures.ran
    (YieldsList-from_zip {s = c.zip.result} (YieldsList-from_slice s.rows.now (ap iter_rest c.zip.ensures.first ∙ c.iter.ensures.rest)) (YieldsList-from_slice s.live (ap iter_rest c.zip.ensures.second ∙ c.iter-2.ensures.rest)))
    (λ x q call. search (rules, tests))
    (λ x q call. search (rules, tests)))
