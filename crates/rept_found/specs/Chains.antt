-- Facts that rest on others, by their reasons. This project's own.
use Rattle.std.specs.Prelude.{List, Contains}
use Rattle.rept_reason.specs.declared.fact.Fact.{Fact}
use Rattle.rept_report.specs.Setting.{Setting}
use Rattle.rept_report.specs.Why.{Because, IsReason}

-- The fact rests on the other one: a reason of it has that one among its premises, or it rests on a
-- third one that does.
pub data RestsOn {W : Type 0} (S : Setting W) (log : List Fact) : Fact → Fact → Type 0 where
  at_once : (f g : Fact) (why : Because) → IsReason S log f why → Contains why.premises g → RestsOn S log f g
  in_turn : (f g h : Fact) → RestsOn S log f g → RestsOn S log g h → RestsOn S log f h
