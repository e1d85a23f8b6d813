use Rattle.std.proofs.Common.{◌≡◌, IfOk, Ok, subst}
use Rattle.lines.specs.declared.report.File.TheVariants.{House, Site}
use Rattle.office.specs.Held.{Built}
use Rattle.office.specs.Runs.{parts_of}
use Rattle.office.specs.Sections.{counts_of}
use Rattle.office.specs.Walk.{Counts, none, file_read}
use Rattle.office.specs.declared.office.Office.{Office}
use Rattle.office.proofs.Opening.{good_file, none_bad}
use Rattle.std.proofs.lemmas.Result.{IfOk-weaker}
use Rattle.office.proofs.office.Office.read.Goals as goal

pub returns : goal.returns
returns c =
    let house = c.args.house.now in
    let site = c.args.site.now in
    let first = c.in_ok-first.first in
    let second = c.in_ok-second.second in
    let h = c.runs_of.result in
    let s = c.runs_of-2.result in
    let house_read : file_read House none house ≡ Ok (counts_of first) =
    subst (λ (b : Counts). file_read House b house ≡ Ok (counts_of first)) c.none-before.ensures (good_file _ c.read_sections.result first _ c.in_ok-first.ensures.cases c.in_ok-first.ensures.variant c.read_sections.ensures.read) in
    let site_read : file_read Site (counts_of first) site ≡ Ok (counts_of second) =
    good_file _ c.read_sections-2.result second _ c.in_ok-second.ensures.cases c.in_ok-second.ensures.variant c.read_sections-2.ensures.read in
    let built : IfOk c.build.result (λ (o : Office). Built (parts_of h) (parts_of s) o) = c.build.ensures in
    record {
      bad = λ e bad. none_bad house site (counts_of first) (counts_of second) e house_read site_read bad;
      held =
          IfOk-weaker c.build.result _ _
          (λ (o : Office) b.
          record {
            house_counts = counts_of first;
            site_counts = counts_of second;
            house_read = house_read;
            site_read = site_read;
            house_parts = parts_of h;
            site_parts = parts_of s;
            house_held = record { cut = c.runs_of.ensures; sources = b.house_sources };
            site_held = record { cut = c.runs_of-2.ensures; sources = b.site_sources };
            rules_held = b.rules first.rules second.rules c.runs_of.ensures.rules_long c.runs_of-2.ensures.rules_long;
            plans_held = b.plans;
          })
          built;
    }
