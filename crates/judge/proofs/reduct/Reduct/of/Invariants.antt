use Rattle.std.proofs.Common.{◌≡◌, ℕ, ◌<◌, false, length, get_or}
use Rattle.semantics.specs.Program.{body_true}
use Rattle.plans.specs.Partial.{full}
use Rattle.rulebook.specs.Rules.{rule_of, no_row}
use Rattle.judge.proofs.reduct.Reduct.of.Given as goal

abbrev pub invariant-loop-number : goal.invariant-loop-number
invariant-loop-number g l =
    (length l.live ≡ 256) × ((k : ℕ) → k < l.number → get_or l.live k false ≡ body_true (g.O.Oracle.meaning l.oracle) (full l.plan) (rule_of (get_or l.rows k no_row)))
