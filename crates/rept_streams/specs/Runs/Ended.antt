-- A run with the last time of its untraced prefix in the place of the time at which that prefix
-- ends. This project's own.
use Rattle.std.specs.Prelude.{◌≡◌, ℕ, List, Option, option_map}
use Rattle.rept_steps.specs.declared.run.Run.{Run}
use Rattle.rept_trace.specs.declared.packet.Packet.{Packet}
use Rattle.rept_trace.specs.Streams.{StreamFile, AreStreams}
use Rattle.rept_streams.specs.Slices.Raw.{streams_of, HoldEach}
use Rattle.rept_streams.specs.Slices.Ending.{last_time}

-- a run whose untraced prefix lasts until another time
abbrev pub with_untraced : Option ℕ → Run → Run
with_untraced u run = record { threads = run.threads; untraced = u; skipped = run.skipped }

-- The bytes are a file of streams, and each stream holds these packets, all of them whole.
pub record HoldsPackets (trace : List ℕ) (lists : List (List Packet)) : Type 0 where
  pub file : StreamFile
  pub streams : AreStreams trace file
  pub packets : HoldEach (streams_of file) lists

-- The run that is told, where its untraced prefix, if it has one, lasts until its last time only.
-- The arguments are the bytes of the trace, the number of the packet of each stream from which on
-- its window may begin, the run that is told, and this one.
abbrev pub IsEndedRun : List ℕ → ℕ → Run → Run → Type 0
IsEndedRun trace from told run = (lists : List (List Packet)) × HoldsPackets trace lists × (run ≡ with_untraced (option_map (last_time from lists) told.untraced) told)
