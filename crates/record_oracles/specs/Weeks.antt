-- The week source: true when the inputs that are in fall in enough different weeks. Assumes nothing.
use Rattle.std.specs.Prelude.{◌≡◌, ℕ, ◌+◌, ◌-◌, ◌/◌, Bool, true, false, cond, ◌&&◌, leb, ◌↔◌, List, [], ◌∷◌, length, ◌==◌, nat_eq, nat_le, refl}
use Rattle.std.proofs.Common.{ap, ◌∙◌}
use Rattle.semantics.specs.Program.{Interp, Same, any, Each}
use Rattle.sources.specs.declared.week_source.Dated.{Dated}
use Rattle.sources.specs.declared.week_source.WeekSource.{WeekSource}
use Rattle.record_oracles.specs.Inputs.{holds, holds_same}
use Rattle.record_oracles.specs.Truth.{Truth}

-- the week of a day, where weeks begin at the weekday `first`
abbrev pub week_of : ℕ → ℕ → ℕ
week_of first day = (day + 10 - first) / 7

-- the week of each input that is in
abbrev pub weeks_in : Interp → ℕ → List Dated → List ℕ
weeks_in I first [] = []
weeks_in I first (t ∷ ts) = cond (holds I t.atom) (week_of first t.day ∷ weeks_in I first ts) (weeks_in I first ts)

-- how many different numbers there are
abbrev pub distinct : List ℕ → ℕ
distinct [] = 0
distinct (w ∷ ws) = cond (any (nat_eq w) ws) 0 1 + distinct ws

pub weeks_same : (I J : Interp) → Same I J → (first : ℕ) (ts : List Dated) → weeks_in I first ts ≡ weeks_in J first ts
weeks_same I J same first [] = refl
weeks_same I J same first (t ∷ ts) =
    ap (λ b. cond b (week_of first t.day ∷ weeks_in I first ts) (weeks_in I first ts)) (holds_same I J same t.atom)
    ∙ ap (λ ws. cond (holds J t.atom) (week_of first t.day ∷ ws) ws) (weeks_same I J same first ts)

abbrev pub week_truth : WeekSource → Truth
week_truth s = record {
  on = λ I. nat_le s.wanted (distinct (weeks_in I s.first s.terms));
  local = λ I J same. ap (λ ws. leb s.wanted (distinct ws)) (weeks_same I J same s.first s.terms);
}

-- no number stands twice
abbrev pub Different : List ℕ → Type 0
Different [] = Unit {0}
Different (w ∷ ws) = (any (nat_eq w) ws ≡ false) × Different ws

-- an input that is in falls in the week
abbrev pub visited : Interp → WeekSource → ℕ → Bool
visited I s w = any (λ (t : Dated). holds I t.atom && w == week_of s.first t.day) s.terms

-- as many different weeks as are wanted, each of them visited
pub record Enough (I : Interp) (s : WeekSource) : Type 0 where
  pub weeks : List ℕ
  pub many : length weeks ≡ s.wanted
  pub different : Different weeks
  pub each : Each (λ w. visited I s w ≡ true) weeks

abbrev pub WeeksStand : Type 0
WeeksStand = (s : WeekSource) (I : Interp) → (week_truth s).on I ≡ true ↔ Enough I s
