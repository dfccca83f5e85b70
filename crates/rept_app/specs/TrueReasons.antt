-- What the lines of `why` claim of an execution. This project's own.
use Rattle.std.specs.Prelude.{◌≡◌, ◌⊎◌, ℕ, ◌<◌, ◌≤◌, List, [], ◌∷◌, ◌++◌, codes}
use Rattle.std.specs.List.{All}
use Rattle.rept_reason.specs.declared.fact.Fact.{Fact}
use Rattle.rept_reason.specs.declared.fact.Cell.{Cell}
use Rattle.rept_reason.specs.declared.fact.Cell.TheVariants.{Register, Byte}
use Rattle.rept_reason.specs.declared.reason.RangePremise.{RangePremise}
use Rattle.rept_report.specs.Why.{Because}
use Rattle.rept_findings.specs.Shown.{Shown}
use Rattle.rept_questions.specs.Texts.{IsRuled, reason_lines}
use Rattle.rept_app.specs.TrueValues.{ExecutionHeld}

-- `point P xN HEX`: the register has the value at the point; of x0 nothing is claimed. `point P HEX
-- BYTE`: memory has the byte at the place.
abbrev pub IsCellTrue : ExecutionHeld → Shown → ℕ → Cell → ℕ → Type 0
IsCellTrue x s point (Register r) value = (r ≡ 0) ⊎ ((x.at (s.point point)).register r ≡ value)
IsCellTrue x s moment (Byte a) value = x.memory (s.place moment) a ≡ value

-- a fact that a reason rests on
abbrev pub IsPremiseTrue : ExecutionHeld → Shown → Fact → Type 0
IsPremiseTrue x s fact = IsCellTrue x s fact.point fact.cell fact.value

-- `range P xN HEX..HEX`, of a number that a point has: the register's value there lies between the
-- two
abbrev pub IsLookedTrue : ExecutionHeld → Shown → RangePremise → Type 0
IsLookedTrue x s looked = looked.point < s.points → (looked.range.lo ≤ (x.at (s.point looked.point)).register looked.reg) × ((x.at (s.point looked.point)).register looked.reg ≤ looked.range.hi)

-- `rule N`, and premises each of which is true
pub record IsReasonTrue (x : ExecutionHeld) (s : Shown) (text : List ℕ) : Type 0 where
  pub why : Because
  pub premises : All (IsPremiseTrue x s) why.premises
  pub ranges : All (IsLookedTrue x s) why.ranges
  pub is : text ≡ reason_lines s why

-- `unknown`, `constant` and `inferred J RULE` claim nothing of values
abbrev pub IsWhyTrue : ExecutionHeld → Shown → List ℕ → Type 0
IsWhyTrue x s text = (text ≡ codes "unknown" ++ 10 ∷ []) ⊎ (text ≡ codes "constant" ++ 10 ∷ []) ⊎ ((row : ℕ) × IsRuled row text) ⊎ IsReasonTrue x s text
