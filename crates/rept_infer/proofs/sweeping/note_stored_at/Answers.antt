use Rattle.std.proofs.Common.{◌≡◌, ℕ, sym, subst}
use Rattle.std.proofs.lemmas.Result.{on_ok_weaker}
use Rattle.rept_narrow.specs.Sweeps.{memory_of}
use Rattle.rept_infer.proofs.sweeping.note_stored_at.Goals as goal

pub returns-in-Some-clause-holds : goal.returns-in-Some-clause-holds
returns-in-Some-clause-holds c = on_ok_weaker c.note.result (λ holds story run at h t. holds (memory_of run) (subst (λ (n : ℕ). (run n).memory c.in-Some.byte.address ≡ c.in-Some.byte.value) (sym c.requires.here) (c.in-Some.ensures story run at h)) t) c.note.ensures.holds
