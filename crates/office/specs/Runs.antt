-- A file as the runs of its kinds, one after the other. Assumes nothing.
use Rattle.std.specs.Prelude.{◌≡◌, ℕ, ◌*◌, List, ◌++◌, length}
use Rattle.office.specs.Walk.{Counts}
use Rattle.office.specs.declared.runs.Runs.{Runs}

-- the bytes of each run
pub record Parts : Type 0 where
  pub tables : List ℕ
  pub sums : List ℕ
  pub weeks : List ℕ
  pub rules : List ℕ
  pub plans : List ℕ

abbrev pub parts_of : Runs → Parts
parts_of r = record { tables = r.tables.now; sums = r.sums.now; weeks = r.weeks.now; rules = r.rules.now; plans = r.plans.now }

pub record Cut (c : Counts) (bytes : List ℕ) (p : Parts) : Type 0 where
  pub whole : p.tables ++ (p.sums ++ (p.weeks ++ (p.rules ++ p.plans))) ≡ bytes
  pub tables_long : length p.tables ≡ 48 * c.tables
  pub sums_long : length p.sums ≡ 48 * c.sums
  pub weeks_long : length p.weeks ≡ 48 * c.weeks
  pub rules_long : length p.rules ≡ 48 * c.rules
  pub plans_long : length p.plans ≡ 48 * c.plans
