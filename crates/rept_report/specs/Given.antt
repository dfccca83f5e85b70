-- What is given of a run, whatever the sets of values and the rules by which it is read: the rows
-- of all threads by number, and where each thread ends; the moments of the memory; the last values
-- of registers; and the dump. This project's own.
use Rattle.std.specs.Prelude.{ℕ, Option}
use Rattle.rept_partial.specs.Sets.{Sets}
use Rattle.rept_span.specs.Moves.{Moves}
use Rattle.rept_span.specs.Ranges.{Legs}
use Rattle.rept_reason.specs.View.Rules.{Rules}
use Rattle.rept_report.specs.Moments.{Moments}
use Rattle.rept_report.specs.Setting.{Setting}

pub record Given : Type 0 where
  -- the rows that were run, thread by thread
  pub legs : Legs
  -- the moments of the memory
  pub moments : Moments
  -- at the last point of a thread the values of its registers, of those that have one there
  pub last : ℕ → ℕ → Option ℕ
  -- the byte at an address at the end, where the dump has it
  pub dump : ℕ → Option ℕ
  -- where the program's own memory ends
  pub image_end : ℕ

-- the setting in which it is read so
abbrev pub setting_by : {W : Type 0} → Sets W → Moves W → Rules → Given → Setting W
setting_by sets moves rules g = record {
  sets = sets;
  moves = moves;
  rules = rules;
  legs = g.legs;
  moments = g.moments;
  last = g.last;
  dump = g.dump;
  image_end = g.image_end;
}
