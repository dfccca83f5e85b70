use Rattle.std.proofs.Common.{◌≡◌, ◌+◌, ◌≤◌, length}
use Rattle.std.specs.Prelude.{◌==◌, fold}
use Rattle.std.specs.List.{slice_split}
use Rattle.rept_simlog.specs.Recording.Qemu.{all_lines, plain_log, with_line}
use Rattle.rept_simlog.specs.Recording.QemuParts.{lines_of}
use Rattle.rept_simlog.proofs.recording.qemu.read_lines.Given as goal

abbrev pub invariant-lines : goal.invariant-lines
invariant-lines l = record {
  value : plain_log l.log ≡ all_lines (fold with_line (lines_of l.lines) (slice_split (λ byte. byte == 10) l.rest));
  few : length (all_lines (lines_of l.lines)) + length l.rest ≤ length l.log;
}

abbrev pub decreases-lines : goal.decreases-lines
decreases-lines l = length l.rest
