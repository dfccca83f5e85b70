-- The lines of `why` are true of an execution, of which the premises of all reasons are true.
use Rattle.std.proofs.Common.{◌≡◌, ℕ, ◌==◌, inl, inr, List, [], ◌∷◌, ◌++◌, Bool, true, false, Option, None, Some, MatchBool}
use Rattle.std.specs.Prelude.{codes}
use Rattle.std.specs.List.{All}
use Rattle.rept_reason.specs.declared.fact.Fact.{Fact}
use Rattle.rept_reason.specs.declared.fact.Cell.{Cell}
use Rattle.rept_reason.specs.declared.fact.Cell.TheVariants.{Register, Byte}
use Rattle.rept_report.specs.Why.{Because}
use Rattle.rept_findings.specs.Shown.{SessionTold, Shown, moment_at, number}
use Rattle.rept_findings.specs.declared.place.ThreadPoint.{ThreadPoint}
use Rattle.rept_questions.specs.Texts.{IsByteExplained, IsExplained, IsReasoned, IsRegisterExplained, IsRuled, byte_row, register_row}
use Rattle.rept_app.specs.TrueReasons.{IsLookedTrue, IsPremiseTrue, IsReasonTrue, IsWhyTrue}
use Rattle.rept_app.specs.TrueValues.{ExecutionHeld}

-- the premises of each reason, and the ranges that it looked at, are true
abbrev pub ArePremisesTrue : ExecutionHeld → Shown → Because → Type 0
ArePremisesTrue x s why = All (IsPremiseTrue x s) why.premises × All (IsLookedTrue x s) why.ranges

abbrev pub AreReasonsTrue : SessionTold → ExecutionHeld → Type 0
AreReasonsTrue t x = (fact : Fact) (why : Because) → t.reasons fact why → ArePremisesTrue x t.shown why

module _ (t : SessionTold) (x : ExecutionHeld) (because : AreReasonsTrue t x) where
  reasoned : (fact : Fact) (text : List ℕ) → IsReasoned t fact text → IsReasonTrue x t.shown text
  reasoned fact text (why, (is, e)) = let h = because fact why is in record { why = why; premises = h.0; ranges = h.1; is = e }

  explained_by : (b : Bool) (row : ℕ) (fact : Fact) (text : List ℕ) → MatchBool b (IsRuled row text) (IsReasoned t fact text) → IsWhyTrue x t.shown text
  explained_by true row fact text h = inr (inr (inl (row, h)))
  explained_by false row fact text h = inr (inr (inr (reasoned fact text h)))

  explained : (row point : ℕ) (cell : Cell) (o : Option ℕ) (text : List ℕ) → IsExplained t row point cell o text → IsWhyTrue x t.shown text
  explained row point cell None text h = inl h
  explained row point cell (Some value) text h = explained_by (t.shown.is_inferred point cell) row (record { point = point; cell = cell; value = value }) text h

  register_by : (b : Bool) (c : ThreadPoint) (r : ℕ) (text : List ℕ)
      → MatchBool b (text ≡ codes "constant" ++ 10 ∷ []) (IsExplained t (register_row t.shown c r) (number t.shown c) (Register r) (t.shown.register (number t.shown c) r) text) → IsWhyTrue x t.shown text
  register_by true c r text h = inr (inl h)
  register_by false c r text h = explained (register_row t.shown c r) (number t.shown c) (Register r) (t.shown.register (number t.shown c) r) text h

  pub why_register : (c : ThreadPoint) (r : ℕ) (text : List ℕ) → IsRegisterExplained t c r text → IsWhyTrue x t.shown text
  why_register c r text h = register_by (r == 0) c r text h

  pub why_byte : (c : ThreadPoint) (a : ℕ) (text : List ℕ) → IsByteExplained t c a text → IsWhyTrue x t.shown text
  why_byte c a text h = explained (byte_row t.shown (moment_at t.shown c) a) (moment_at t.shown c) (Byte a) (t.shown.byte (moment_at t.shown c) a) text h
