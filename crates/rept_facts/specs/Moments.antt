-- What facts and sets of values tell of registers around a row. This project's own.
use Rattle.std.specs.Prelude.{ℕ, ◌-◌, nat_lt, if◌then◌else◌, List, None}
use Rattle.rept_partial.specs.declared.range.Range.{Range}
use Rattle.rept_partial.specs.Sets.{Sets}
use Rattle.rept_reason.specs.declared.fact.Fact.{Fact}
use Rattle.rept_reason.specs.Facts.{told, register_known}
use Rattle.rept_span.specs.Filled.{View, entry_at}
use Rattle.rept_reason.specs.View.Seen.{Seen, IsLawful}
use Rattle.rept_report.specs.Moments.{points_of}
use Rattle.rept_report.specs.Views.{all_words, bounds, seen_of}
use Rattle.rept_report.specs.Conclusions.{HasWords}
use Rattle.rept_report.specs.Laws.SeenLaws.{seen_lawful, zero_known, known_word}

-- the range of a register at a point, by sets that were filled
abbrev pub filled_range : {W : Type 0} → Sets W → View W → ℕ → ℕ → Range
filled_range sets spans p r = if nat_lt r 32 then bounds sets (entry_at spans p r) else all_words

abbrev pub moment : {W : Type 0} → Sets W → List Fact → View W → ℕ → Seen
moment sets facts spans i = seen_of (points_of (spans.points - 1)) (register_known (told facts)) (λ p a. None) (filled_range sets spans) i

pub moment_lawful : {W : Type 0} (sets : Sets W) (facts : List Fact) (spans : View W) (i : ℕ) → HasWords (told facts) → IsLawful (moment sets facts spans i)
moment_lawful sets facts spans i words = seen_lawful (points_of (spans.points - 1)) (register_known (told facts)) (λ p a. None) (filled_range sets spans) i (zero_known (told facts)) (known_word (told facts) words)
