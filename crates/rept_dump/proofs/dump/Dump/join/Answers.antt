use Rattle.std.proofs.Common.{length, refl}
use Rattle.std.proofs.lemmas.Result.{err_from_is_err_and}
use Rattle.rept_elf.specs.Image.{file_of, segments_of}
use Rattle.rept_dump.proofs.NoteLemmas.{said_once}
use Rattle.rept_dump.proofs.ThreadLemmas.{one_note, one_thread}
use Rattle.rept_dump.proofs.dump.Dump.join.Goals as goal

pub returns-in_err-registers-clause-only : goal.returns-in_err-registers-clause-only
returns-in_err-registers-clause-only c = λ said h.
    let p = err_from_is_err_and c.from_residual.result c.from_residual.ensures.1 in
    rw (p.1, p.2) (said_once (length (file_of c.args.core)) (segments_of c.args.core) said _ h c.in_err-registers.ensures.said)

pub returns-clause-only : goal.returns-clause-only
returns-clause-only c = λ said h. said_once (length (file_of c.args.core)) (segments_of c.args.core) said _ h c.in_ok-registers.ensures.said

pub invariant_of-result-clause-are_threads : goal.invariant_of-result-clause-are_threads
invariant_of-result-clause-are_threads c = ∣ one_thread (length (file_of c.args.core)) (segments_of c.args.core) c.in_ok-registers.registers.now c.in_ok-registers.ensures.said c.in_ok-registers.ensures.enough ∣₁

pub returns-clause-one : goal.returns-clause-one
returns-clause-one c = record { threads = one_note (length (file_of c.args.core)) (segments_of c.args.core) c.in_ok-registers.registers.now c.in_ok-registers.ensures.said; count = refl }
