-- Which writers may write while a thread rests. This project's own.
use Rattle.std.specs.Prelude.{ℕ, ◌&&◌, ◌==◌, not, nat_le, Bool, true, Option, Some, None}
use Rattle.rept_order.specs.declared.crossing.writer.TimedWriter.{TimedWriter}
use Rattle.rept_order.specs.declared.crossing.writer.Rest.{Rest}

abbrev pub no_writer : TimedWriter
no_writer = record { thread = 0; begin = 0; end = 0 }

-- another thread's, and it doesn't end before these times
abbrev pub lasts_to : ℕ → ℕ → TimedWriter → Bool
lasts_to thread from w = not (w.thread == thread) && nat_le from w.end

-- the time isn't after the other one, where one is known
abbrev pub not_past : Option ℕ → ℕ → Bool
not_past None time = true
not_past (Some last) time = nat_le time last

-- the writer may write while the thread rests
abbrev pub crosses : Rest → TimedWriter → Bool
crosses rest w = lasts_to rest.thread rest.from w && not_past rest.to w.begin
