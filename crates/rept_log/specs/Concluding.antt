-- What a row lets one conclude from what is seen around it, as reasons. This project's own.
use Rattle.std.specs.Prelude.{◌≡◌, ℕ, [], map, Contains, None}
use Rattle.rept_isa.specs.declared.row.StepRow.{StepRow}
use Rattle.rept_reason.specs.declared.fact.Fact.{Fact}
use Rattle.rept_reason.specs.Facts.{told, register_known}
use Rattle.rept_reason.specs.declared.view.inferred.Conclusion.{Conclusion}
use Rattle.rept_reason.specs.View.Rules.{Rules, IsRowByte}
use Rattle.rept_reason.specs.View.Seen.{Seen, IsLawful}
use Rattle.rept_report.specs.Moments.{Moments}
use Rattle.rept_report.specs.Views.{all_words, seen_of}
use Rattle.rept_report.specs.Conclusions.{HasWords}
use Rattle.rept_report.specs.Why.{Because, because, premise_of}
use Rattle.rept_report.specs.Laws.SeenLaws.{seen_lawful, zero_known, known_word}
use Rattle.rept_log.specs.Fronts.{FrontView, Gives}

-- a row by its number, and what is seen around it
pub record SeenRow : Type 0 where
  pub moments : Moments
  pub number : ℕ
  pub row : StepRow
  pub seen : Seen

abbrev pub seen_row : Moments → ℕ → StepRow → Seen → SeenRow
seen_row moments number row seen = record { moments = moments; number = number; row = row; seen = seen }

-- a reason of the fact by a conclusion of the row
pub record IsConcluded (rules : Rules) (x : SeenRow) (f : Fact) (why : Because) : Type 0 where
  pub conclusion : Conclusion
  pub inferred : Contains (rules.infer x.row x.seen) conclusion
  pub gives : Gives x.moments x.number conclusion f
  pub is : why ≡ because conclusion.rule (map (premise_of x.moments x.seen x.number) (rules.needs x.row x.seen conclusion)) []

-- no conclusion of the row says what the fact says
abbrev pub IsNotConcluded : Rules → SeenRow → Fact → Type 0
IsNotConcluded rules x f = (d : Conclusion) → Contains (rules.infer x.row x.seen) d → Gives x.moments x.number d f → ⊥

-- what the facts of a front tell of registers around row i, without bytes and ranges
abbrev pub bare_in : {W : Type 0} → FrontView W → ℕ → Seen
bare_in f i = seen_of f.given.moments (register_known (told f.facts)) (λ p a. None) (λ p r. all_words) i

pub bare_in_lawful : {W : Type 0} (f : FrontView W) (i : ℕ) → HasWords (told f.facts) → IsLawful (bare_in f i)
bare_in_lawful f i words = seen_lawful f.given.moments (register_known (told f.facts)) (λ p a. None) (λ p r. all_words) i (zero_known (told f.facts)) (known_word (told f.facts) words)

-- the row's rules look at no byte
abbrev pub LooksAtNoByte : Rules → StepRow → Seen → Type 0
LooksAtNoByte rules row s = (a : ℕ) → IsRowByte rules row s a → ⊥
