use Rattle.std.proofs.Common.{◌≡◌, ℕ, length, map, take}
use Rattle.std.specs.Prelude.{Some, slice_get}
use Rattle.rept_path.specs.Program.{code_of}
use Rattle.rept_steps.specs.Course.{TakeRows}
use Rattle.rept_steps.specs.declared.threads.ThreadRows.{ThreadRows}
use Rattle.rept_streams.specs.declared.threads.notes.KeptNote.{KeptNote}
use Rattle.rept_streams.specs.Runs.Calls.{with_calls}
use Rattle.rept_streams.proofs.runs.calls.with_calls.Given as goal

abbrev pub invariant-loop-t : goal.invariant-loop-t
invariant-loop-t l = ((t : ℕ) (th : ThreadRows) → slice_get l.old t ≡ Some th → TakeRows 0 th.slices (length th.steps)) → length l.notes ≡ length l.old →
    l.threads ≡ with_calls (code_of l.program) (map (λ (n : KeptNote). n.pc) (take l.t l.notes)) (take l.t l.old)
