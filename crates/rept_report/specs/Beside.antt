-- The same paths and dump, with another kind of sets. This project's own.
use Rattle.rept_partial.specs.Sets.{Sets}
use Rattle.rept_span.specs.Moves.{Moves}
use Rattle.rept_report.specs.Setting.{Setting}

abbrev pub by_other_sets : {V W : Type 0} → Setting V → Sets W → Moves W → Setting W
by_other_sets S sets moves = record {
  sets = sets;
  moves = moves;
  rules = S.rules;
  legs = S.legs;
  moments = S.moments;
  last = S.last;
  dump = S.dump;
  image_end = S.image_end;
}
