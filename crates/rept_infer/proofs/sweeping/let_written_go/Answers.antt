use Rattle.std.proofs.Common.{ℕ, List, sym, subst}
use Rattle.rept_narrow.specs.Lanes.{LetsGo}
use Rattle.rept_narrow.specs.Sweeps.{memory_of}
use Rattle.rept_infer.proofs.Carrying.{bytes_true, kept_listed}
use Rattle.rept_infer.proofs.sweeping.let_written_go.Goals as goal

pub returns-clause-holds : goal.returns-clause-holds
returns-clause-holds g c = λ story run t. c.in_ok-let_all_go.ensures.holds (memory_of run) t

pub returns-clause-rest : goal.returns-clause-rest
returns-clause-rest g c = λ story run at h le around t.
    let goes = subst (λ (xs : List ℕ). LetsGo c.args.sweep.now.held c.let_all_go.new.self.held xs) c.as_slice.ensures.value c.in_ok-let_all_go.ensures.rest in
    kept_listed story run c.args.index c.args.sweep.now.held c.let_all_go.new.self.held c.in_ok-list.list.items goes (c.in_ok-list.ensures story run around.image_end_is at h (bytes_true story run (g.K.KnownPath.byte c.args.around.now.known.now) c.args.around.now.lanes.now c.args.sweep.now c.args.around.now.image_end around t))
