-- A store of byte facts on a line: point p of address a is the number a * 2^32 + p.
use Rattle.std.specs.Prelude.{ℕ, ◌+◌, ◌-◌, ◌*◌, ltb, if◌then◌else◌, length, None}
use Rattle.rept_versions.specs.Line.{Line, value_at}
use Rattle.rept_versions.specs.Row.{VersionRow}
use Rattle.rept_versions.specs.Facts.{KnownValues, Store}

abbrev pub key : ℕ → ℕ → ℕ
key p a = a * 4294967296 + p

abbrev pub fact_on : Line → KnownValues
fact_on line p a = if ltb p 4294967296 then value_at line.spans (key p a) else None

pub record LineParts : Type 0 where
  pub line : Line
  pub row : VersionRow

abbrev pub store : LineParts → Store
store s = record { fact = fact_on s.line; tracked = s.row.items; spare = s.line.room - length s.line.spans; places = s.row.room }
