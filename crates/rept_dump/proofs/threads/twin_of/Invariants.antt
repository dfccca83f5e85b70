use Rattle.std.proofs.Common.{◌≡◌, ◌<◌, ℕ, List, map, length, slice_get}
use Rattle.rept_elf.specs.Image.{file_of, segments_of}
use Rattle.rept_dump.specs.Registers.{pid_of, HaveThreads}
use Rattle.rept_dump.specs.Threads.{AllLong}
use Rattle.rept_dump.proofs.threads.twin_of.Given as goal

-- the processes so far
abbrev pub invariant-loop-t : goal.invariant-loop-t
invariant-loop-t l = record {
  room : length l.pids ≡ 1024;
  read : (descs : List (List ℕ)) → HaveThreads (length (file_of l.core)) (segments_of l.core) descs → AllLong descs → length descs ≡ l.fn.count → (k : ℕ) → k < l.t → slice_get l.pids k ≡ slice_get (map pid_of descs) k;
}
