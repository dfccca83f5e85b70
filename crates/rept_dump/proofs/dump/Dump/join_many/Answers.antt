use Rattle.std.proofs.Common.{length, ap, sym, Err}
use Rattle.std.proofs.lemmas.Result.{err_from_is_err_and}
use Rattle.rept_elf.specs.Image.{file_of, segments_of}
use Rattle.rept_dump.proofs.ThreadLemmas.{not_ok_and_err, same_fault}
use Rattle.rept_dump.proofs.dump.Dump.join_many.Goals as goal

pub returns-in_err-registers-clause-only_ok : goal.returns-in_err-registers-clause-only_ok
returns-in_err-registers-clause-only_ok c = λ descs h.
    let p = err_from_is_err_and c.from_residual.result c.from_residual.ensures.1 in
    absurd (not_ok_and_err (length (file_of c.args.core)) (segments_of c.args.core) descs _ h c.in_err-registers.ensures.err)

pub returns-in_err-registers-clause-only_err : goal.returns-in_err-registers-clause-only_err
returns-in_err-registers-clause-only_err c = λ fault h.
    let p = err_from_is_err_and c.from_residual.result c.from_residual.ensures.1 in
    rw (p.1, p.2) (ap Err (same_fault (length (file_of c.args.core)) (segments_of c.args.core) _ fault c.in_err-registers.ensures.err h))

pub invariant_of-result-clause-are_threads : goal.invariant_of-result-clause-are_threads
invariant_of-result-clause-are_threads c = ∣ c.in_ok-registers.ensures.ok.0 ∣₁

pub returns-clause-only_err : goal.returns-clause-only_err
returns-clause-only_err c = λ fault h. absurd (not_ok_and_err (length (file_of c.args.core)) (segments_of c.args.core) (c.in_ok-registers.ensures.ok.0).descs fault c.in_ok-registers.ensures.ok.1 h)

pub returns-clause-ok : goal.returns-clause-ok
returns-clause-ok c =
    let t = c.in_ok-registers.ensures.ok.0 in
    (t.descs, c.in_ok-registers.ensures.ok.1, t.have, t.first_is, sym t.counted)
