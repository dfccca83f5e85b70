use Rattle.std.proofs.lemmas.Result.{on_ok_weaker}
use Rattle.rept_narrow.specs.Sweeps.{memory_of}
use Rattle.rept_infer.proofs.fresh.note_zero.Goals as goal

pub returns-then-is_zero-clause-holds : goal.returns-then-is_zero-clause-holds
returns-then-is_zero-clause-holds c = on_ok_weaker c.note.result (λ holds run zero t. holds (memory_of run) (zero c.args.address (c.is_zero.ensures.from c.if-is_zero.true) (c.is_zero.ensures.to c.if-is_zero.true)) t) c.note.ensures.holds
