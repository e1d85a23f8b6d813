use Rattle.std.proofs.Common.{rules, ◌≡◌, ◌∙◌, slice_index}
use Rattle.records.specs.Faults.{unless}
use Rattle.records.specs.Rules.{rule_fault}
use Rattle.records.specs.Plans.{plan_fault}
use Rattle.sources.specs.declared.kind.Kind.TheVariants.{Rule, Plan}
use Rattle.sources.specs.Judged.{form_kind}
use Rattle.sources.specs.Sources.{source_fault}
use Rattle.sources.specs.SourcesLemmas.{letter_is}
use Rattle.sources.proofs.judge.check_record.Goals as goal

pub returns-in-S : goal.returns-in-S
returns-in-S c =
    let kind : c.map.result ≡ unless (source_fault c.args.bytes.now) (form_kind (slice_index c.args.bytes.now 1)) = search rules in
    kind ∙ letter_is c.args.bytes.now 83 _ _ c.demand.ensures c.in_ok-demand.was c.in-S.is

pub returns-in-R : goal.returns-in-R
returns-in-R c =
    let kind : c.map-in-R.result ≡ unless (rule_fault c.args.bytes.now) Rule = search rules in
    kind ∙ letter_is c.args.bytes.now 82 _ _ c.demand.ensures c.in_ok-demand.was c.in-R.is

pub returns-in-C : goal.returns-in-C
returns-in-C c =
    let kind : c.map-in-C.result ≡ unless (plan_fault c.args.bytes.now) Plan = search rules in
    kind ∙ letter_is c.args.bytes.now 67 _ _ c.demand.ensures c.in_ok-demand.was c.in-C.is
