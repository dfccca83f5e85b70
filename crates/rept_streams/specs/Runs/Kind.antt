-- Of what kind a trace and its run are. This project's own.
use Rattle.std.specs.Prelude.{◌≡◌, ◌<◌, ℕ, List, [], ◌∷◌, length, Option, Bool, nat_eq, codes}
use Rattle.std.specs.List.{starts_with}
use Rattle.rept_elf.specs.Header.{word_at}
use Rattle.rept_isa.specs.declared.row.StepRow.{StepRow}
use Rattle.rept_steps.specs.Linked.{EndBefore}
use Rattle.rept_steps.specs.declared.run.Run.{Run}
use Rattle.rept_moments.specs.Seen.{alone_by}

-- whether the bytes of a trace begin as those of several streams do
abbrev pub is_several : List ℕ → Bool
is_several trace = starts_with nat_eq trace (codes "RTR2")

-- the steps of a run that is one path: of one thread in one slice, all of which is told
abbrev pub path_rows : Run → Option (List StepRow)
path_rows run = alone_by run.threads run.untraced

-- The rows are some, and there is one note, at whose program counter they end.
pub record EndsPath (descs : List (List ℕ)) (rows : List StepRow) : Type 0 where
  pub desc : List ℕ
  pub is : descs ≡ desc ∷ []
  pub some : 0 < length rows
  pub ends : EndBefore rows (word_at desc 72)
