-- How an analysis looks for reasons. This project's own.
use Rattle.std.specs.Prelude.{◌≡◌, ℕ, ◌+◌, List, Some}
use Rattle.rept_reason.specs.declared.fact.Fact.{Fact}
use Rattle.rept_reason.specs.Facts.{told}
use Rattle.rept_span.specs.Filled.{View, IsFilled}
use Rattle.rept_report.specs.Setting.{Setting, way_of}
use Rattle.rept_report.specs.Log.{oldest, entry}
use Rattle.rept_partial.specs.Sets.{Sets}
use Rattle.rept_span.specs.Moves.{Moves}
use Rattle.rept_reason.specs.View.Rules.{Rules}
use Rattle.rept_log.specs.Fronts.{FrontView}
use Rattle.rept_facts.specs.State.{Whole, given_of}

-- the facts at places below t, of what is given
abbrev pub front_below : {B W R : Type 0} → Sets W → Moves W → Rules → Whole B W R → ℕ → FrontView W
front_below sets moves rules a t = record {
  sets = sets;
  moves = moves;
  rules = rules;
  given = given_of a;
  facts = oldest t a.known.log;
}

-- sets that are filled from these facts
pub record AreSetsOf {W : Type 0} (S : Setting W) (facts : List Fact) (spans : View W) : Type 0 where
  pub sized : spans.points ≡ S.legs.count + 1
  pub filled : IsFilled (way_of S) spans (told facts)

-- the fact isn't the newest one of those at places below t
abbrev pub IsNotLast : List Fact → Fact → ℕ → Type 0
IsNotLast log f t = (s : ℕ) → t ≡ s + 1 → entry log s ≡ Some f → ⊥
