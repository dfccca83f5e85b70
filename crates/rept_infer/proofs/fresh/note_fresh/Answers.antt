use Rattle.std.proofs.Common.{ℕ, sym, subst}
use Rattle.std.proofs.lemmas.Result.{on_ok_weaker}
use Rattle.rept_infer.specs.Fresh.{AreZero}
use Rattle.rept_infer.proofs.fresh.note_fresh.Goals as goal

pub returns-in-Some-clause-holds : goal.returns-in-Some-clause-holds
returns-in-Some-clause-holds c = on_ok_weaker c.note_zeros.result (λ holds story run e h t. holds run (subst (λ (n : ℕ). AreZero run n c.in-Some.zero.from c.in-Some.zero.to) (sym c.requires.here) (c.in-Some.ensures story run e h)) t) c.note_zeros.ensures.holds
