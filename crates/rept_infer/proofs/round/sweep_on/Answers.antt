use Rattle.std.proofs.Common.{Err, ap, ◌∙◌}
use Rattle.rept_narrow.specs.Sweeps.{memory_of}
use Rattle.rept_narrow.proofs.Sentences.{same_err}
use Rattle.rept_infer.proofs.round.sweep_on.Goals as goal

pub returns-in-Err-all_on-clause-refuses : goal.returns-in-Err-all_on-clause-refuses
returns-in-Err-all_on-clause-refuses g c = λ empty is story run e premises around h.
    c.all_on.ensures.refuses empty (c.in-Err-all_on.is ∙ ap Err (same_err is)) story run e around (record { sets = h; bytes = c.in-Ok.ensures.holds story run premises h (c.new-sweep.ensures.holds (memory_of run)) })

pub returns-in-Ok-finish-clause-keeps : goal.returns-in-Ok-finish-clause-keeps
returns-in-Ok-finish-clause-keeps g c = λ story run e premises around h.
    let f = c.in-Ok-all_on.ensures.keeps story run e around (record { sets = h; bytes = c.in-Ok.ensures.holds story run premises h (c.new-sweep.ensures.holds (memory_of run)) }) in
    (f.sets, c.in-Ok-finish.ensures (memory_of run) f.bytes)
