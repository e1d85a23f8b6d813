use Rattle.std.proofs.Common.{List, ◌++◌, vec_items, subst}
use Rattle.records.specs.declared.row.RuleRow.{RuleRow}
use Rattle.office.specs.Added.{AddedRun}
use Rattle.office.proofs.Adding.{added_both}
use Rattle.office.proofs.reading.build.Goals as goal

pub returns : goal.returns
returns c =
    let house = c.args.house.now.rules.now in
    let site = c.args.site.now.rules.now in
    let rows = vec_items c.add_rules-2.new.book.rows in
    record {
      house_sources = c.in_ok-first.ensures;
      site_sources = c.in_ok-second.ensures;
      rules = λ n k e f.
          subst (λ (before : List RuleRow). AddedRun (house ++ site) before rows) c.new-book.ensures
          (added_both house site (vec_items c.new-book.result.rows) (vec_items c.add_rules.new.book.rows) rows (c.in_ok-add_rules.ensures n e) (c.in_ok-add_rules-2.ensures k f));
      plans = c.in_ok-plans.ensures;
    }
