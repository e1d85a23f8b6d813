-- Both files found good, and what is built of them. Assumes nothing.
use Rattle.std.proofs.Common.{◌≡◌, ℕ, List, MatchResult, true, false, is_ok, refl, Some, None, Ok, Err, Result, sym, ap, ◌∙◌, arith}
use Rattle.std.proofs.lemmas.Bool.{both_ways}
use Rattle.lines.specs.declared.report.File.TheVariants.{House, Site}
use Rattle.office.specs.Bad.{bad_site, bad_house, bad_office}
use Rattle.office.specs.Sections.{counts_of, counted}
use Rattle.office.specs.Walk.{Counts, none, file_read}
use Rattle.office.specs.declared.file_fault.FileFault.{FileFault}
use Rattle.office.specs.declared.office_fault.OfficeFault.{OfficeFault}
use Rattle.office.specs.declared.sections.Sections.{Sections}

-- a result whose fault was changed is good only where it was good before
pub good_file : (P : FileFault → Type 0) (r : Result Sections FileFault) (s : Sections) (answer : Result Counts FileFault) → MatchResult r (λ x. ◌≡◌ {A = Result Sections OfficeFault} (Ok s) (Ok x)) P → true ≡ is_ok r → counted r ≡ answer → answer ≡ Ok (counts_of s)
good_file P (Ok x) s answer m ok h = let same : x ≡ s = cc in sym h ∙ ap (λ (t : Sections). Ok (counts_of t)) same
good_file P (Err x) s answer m ok h = absurd (both_ways false refl (sym ok))

-- where both are good, nothing is bad
pub none_bad : {A : Type 0} (house site : List ℕ) (a b : Counts) (e : OfficeFault) → file_read House none house ≡ Ok a → file_read Site a site ≡ Ok b → bad_office house site ≡ Some e → A
none_bad house site a b e h k bad =
    let good : bad_office house site ≡ None = ap (bad_house site) h ∙ ap bad_site k in
    absurd (let z : ◌≡◌ {A = ℕ} 0 1 = cc in omega arith)
