-- What an office holds of the bytes of its two files. Assumes nothing.
use Rattle.std.specs.Prelude.{◌≡◌, ℕ, ◌*◌, List, [], ◌++◌, length, Ok, vec_items}
use Rattle.std.specs.List.{flat_map}
use Rattle.oracles.specs.declared.joined.Joined.{Joined}
use Rattle.record_oracles.specs.declared.record_oracle.RecordOracle.{RecordOracle}
use Rattle.records.specs.Plans.{plan_image}
use Rattle.sources.specs.Sums.{sum_image}
use Rattle.sources.specs.Tables.{table_image}
use Rattle.sources.specs.Weeks.{week_image}
use Rattle.sources.specs.declared.sum_source.SumSource.{SumSource}
use Rattle.sources.specs.declared.table_source.TableSource.{TableSource}
use Rattle.sources.specs.declared.week_source.WeekSource.{WeekSource}
use Rattle.lines.specs.declared.report.File.TheVariants.{House, Site}
use Rattle.office.specs.declared.office.Office.{Office}
use Rattle.office.specs.Added.{AddedRun}
use Rattle.office.specs.Runs.{Parts, Cut}
use Rattle.office.specs.Walk.{Counts, none, file_read}

abbrev pub FileOracle : Type 0
FileOracle = Joined (RecordOracle TableSource) (Joined (RecordOracle SumSource) (RecordOracle WeekSource))

-- a file's sources, written, are its runs of sources
pub record SourcesHeld (o : FileOracle) (p : Parts) : Type 0 where
  pub tables_held : flat_map table_image (vec_items o.first.sources) ≡ p.tables
  pub sums_held : flat_map sum_image (vec_items o.second.first.sources) ≡ p.sums
  pub weeks_held : flat_map week_image (vec_items o.second.second.sources) ≡ p.weeks

-- an office made of the runs of both files
pub record Built (house site : Parts) (o : Office) : Type 0 where
  pub house_sources : SourcesHeld o.oracle.first house
  pub site_sources : SourcesHeld o.oracle.second site
  pub rules : (n k : ℕ) → length house.rules ≡ 48 * n → length site.rules ≡ 48 * k → AddedRun (house.rules ++ site.rules) [] (vec_items o.book.rows)
  pub plans : flat_map plan_image (vec_items o.plans) ≡ site.plans

-- one file, cut into its runs
pub record FileHeld (bytes : List ℕ) (c : Counts) (o : FileOracle) (p : Parts) : Type 0 where
  pub cut : Cut c bytes p
  pub sources : SourcesHeld o p

-- house records are numbered first; the plans are the site's
pub record OfficeHeld (house site : List ℕ) (o : Office) : Type 0 where
  pub house_counts : Counts
  pub site_counts : Counts
  pub house_read : file_read House none house ≡ Ok house_counts
  pub site_read : file_read Site house_counts site ≡ Ok site_counts
  pub house_parts : Parts
  pub site_parts : Parts
  pub house_held : FileHeld house house_counts o.oracle.first house_parts
  pub site_held : FileHeld site site_counts o.oracle.second site_parts
  pub rules_held : AddedRun (house_parts.rules ++ site_parts.rules) [] (vec_items o.book.rows)
  pub plans_held : flat_map plan_image (vec_items o.plans) ≡ site_parts.plans
