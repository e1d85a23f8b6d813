-- A run of rule records added one by one. Assumes nothing.
use Rattle.std.proofs.Common.{◌≡◌, ℕ, ◌+◌, ◌*◌, Result, Ok, Err, is_ok, true, false, List, [], ◌∷◌, ◌++◌, map, take, drop, sym, refl, ap, ◌∙◌}
use Rattle.std.proofs.lemmas.Grind.{flat_map-append}
use Rattle.std.proofs.lemmas.List.{append_assoc, map-append, map_push}
use Rattle.std.proofs.lemmas.Bool.{both_ways}
use Rattle.rulebook.specs.Books.{Added}
use Rattle.rulebook.specs.declared.book_fault.BookFault.{BookFault}
use Rattle.std.specs.List.{flat_map}
use Rattle.records.specs.Rows.{row_of}
use Rattle.records.specs.Rules.{rule_image}
use Rattle.records.specs.declared.row.RuleRow.{RuleRow}
use Rattle.records.specs.declared.rule.Rule.{Rule}
use Rattle.records.specs.RulesLemmas.{rule_size}
use Rattle.records.specs.Widths.{read_more}
use Rattle.office.specs.Added.{AddedRun}

pub added_more : (run : List ℕ) (before mid after : List RuleRow) (k n : ℕ) → n ≡ 48 → AddedRun (take (48 * k) run) before mid → (v : Rule) → rule_image v ≡ take n (drop (48 * k) run) → after ≡ mid ++ row_of v ∷ [] → AddedRun (take (48 * (k + 1)) run) before after
added_more run before mid after k n long h v image is =
    record {
      rules = h.rules ++ v ∷ [];
      images = read_more rule_image 48 rule_size h.rules v run k h.images (image ∙ ap (λ (j : ℕ). take j (drop (48 * k) run)) long);
      rows = is ∙ ap (λ (rows : List RuleRow). rows ++ row_of v ∷ []) h.rows ∙ append_assoc before (map row_of h.rules) (row_of v ∷ []) ∙ ap (λ (rows : List RuleRow). before ++ rows) (sym (map_push row_of h.rules v));
    }

pub added_both : (one two : List ℕ) (before mid after : List RuleRow) → AddedRun one before mid → AddedRun two mid after → AddedRun (one ++ two) before after
added_both one two before mid after h k =
    record {
      rules = h.rules ++ k.rules;
      images = flat_map-append rule_image h.rules k.rules ∙ ap (λ (l : List ℕ). l ++ flat_map rule_image k.rules) h.images ∙ ap (λ (l : List ℕ). one ++ l) k.images;
      rows = k.rows ∙ ap (λ (rows : List RuleRow). rows ++ map row_of k.rules) h.rows ∙ append_assoc before (map row_of h.rules) (map row_of k.rules) ∙ ap (λ (rows : List RuleRow). before ++ rows) (sym (map-append row_of h.rules k.rules));
    }

-- a record that was taken
pub taken : (bs : List ℕ) (before after : List RuleRow) (r : Result (Unit {0}) BookFault) → is_ok r ≡ true → Added bs before after r → (v : Rule) × (rule_image v ≡ bs) × (after ≡ before ++ row_of v ∷ [])
taken bs before after (Ok u) e h = h.1
taken bs before after (Err x) e h = absurd (both_ways false refl e)
