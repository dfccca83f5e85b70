-- The lines of a log of addresses as the code has them.
use Rattle.rept_simlog.specs.Recording.Qemu.{PlainLines}
use Rattle.rept_simlog.specs.declared.recording.qemu.PlainLog.{PlainLog}

abbrev pub lines_of : PlainLog → PlainLines
lines_of log = record { done = log.done.items; last = log.last.items; is_begun = log.is_begun }
