use Rattle.std.proofs.Common.{◌+◌, ◌<◌, ℕ, sym, ap, subst, ◌∙◌}
use Rattle.rept_span.specs.Filled.{AllReadBelow}
use Rattle.rept_facts.specs.State.{Subject, state_of}
use Rattle.rept_facts.specs.Measure.{measure}
use Rattle.rept_facts.proofs.Ending.{measure_same, uncut_like}
use Rattle.rept_analysis.proofs.Measure.{news_less}
use Rattle.rept_analysis.proofs.Since.{goes_itself, goes_trans, same_goes, grows_goes, quiet_after}
use Rattle.rept_analysis.proofs.analysis.Analysis.settle_at.Goals as goal

pub loop-quiet-init : goal.loop-quiet-init
loop-quiet-init g c = record { goes = goes_itself _; uncut = c.requires.uncut; writings = c.requires.writings; quiet = c.requires.quiet; marks = c.requires.marks }

pub ready_since-quiet-requires-clause-open : goal.ready_since-quiet-requires-clause-open
ready_since-quiet-requires-clause-open g c = c.loop-quiet.invariant.goes.continues.complete ∙ c.requires.open

pub ready_since-quiet-requires-clause-reads : goal.ready_since-quiet-requires-clause-reads
ready_since-quiet-requires-clause-reads g c = subst (λ (P : Subject g.row.W.Denot). AllReadBelow P.given.legs (P.given.legs.count + 1)) (sym c.loop-quiet.invariant.goes.continues.path) c.requires.reads

pub ready_since-quiet-requires-clause-marks : goal.ready_since-quiet-requires-clause-marks
ready_since-quiet-requires-clause-marks g c = c.loop-quiet.invariant.marks ∙ ap (λ (P : Subject g.row.W.Denot). P.given.legs.count + 1) (sym c.loop-quiet.invariant.goes.continues.path)

pub returns-then-not-quiet-clause-goes : goal.returns-then-not-quiet-clause-goes
returns-then-not-quiet-clause-goes g c = goes_trans (state_of g.W.Partial.sets g.W.Transfer.moves g.R.RowRules.rules g.B.ByteFacts.store c.args.self.now.propagation.facts) (state_of g.W.Partial.sets g.W.Transfer.moves g.R.RowRules.rules g.B.ByteFacts.store c.loop-quiet.self.propagation.facts) (state_of g.W.Partial.sets g.W.Transfer.moves g.R.RowRules.rules g.B.ByteFacts.store c.ready_since-quiet.new.self.propagation.facts) c.loop-quiet.invariant.goes (same_goes (state_of g.W.Partial.sets g.W.Transfer.moves g.R.RowRules.rules g.B.ByteFacts.store c.loop-quiet.self.propagation.facts) (state_of g.W.Partial.sets g.W.Transfer.moves g.R.RowRules.rules g.B.ByteFacts.store c.ready_since-quiet.new.self.propagation.facts) c.ready_since-quiet.ensures.same)

pub returns-then-not-quiet-clause-uncut : goal.returns-then-not-quiet-clause-uncut
returns-then-not-quiet-clause-uncut g c = uncut_like (state_of g.W.Partial.sets g.W.Transfer.moves g.R.RowRules.rules g.B.ByteFacts.store c.loop-quiet.self.propagation.facts) (state_of g.W.Partial.sets g.W.Transfer.moves g.R.RowRules.rules g.B.ByteFacts.store c.ready_since-quiet.new.self.propagation.facts) c.ready_since-quiet.ensures.same c.loop-quiet.invariant.uncut

pub sweep_since-requires-clause-writings : goal.sweep_since-requires-clause-writings
sweep_since-requires-clause-writings g c = c.ready_since-quiet.ensures.writings c.if-not-quiet.false

pub sweep_since-requires-clause-current : goal.sweep_since-requires-clause-current
sweep_since-requires-clause-current g c = c.ready_since-quiet.ensures.current c.if-not-quiet.false

pub sweep_since-requires-clause-open : goal.sweep_since-requires-clause-open
sweep_since-requires-clause-open g c = c.ready_since-quiet.ensures.same.complete ∙ c.loop-quiet.invariant.goes.continues.complete ∙ c.requires.open

pub sweep_since-requires-clause-uncut : goal.sweep_since-requires-clause-uncut
sweep_since-requires-clause-uncut g c = uncut_like (state_of g.W.Partial.sets g.W.Transfer.moves g.R.RowRules.rules g.B.ByteFacts.store c.loop-quiet.self.propagation.facts) (state_of g.W.Partial.sets g.W.Transfer.moves g.R.RowRules.rules g.B.ByteFacts.store c.ready_since-quiet.new.self.propagation.facts) c.ready_since-quiet.ensures.same c.loop-quiet.invariant.uncut

pub sweep_since-requires-clause-marks : goal.sweep_since-requires-clause-marks
sweep_since-requires-clause-marks g c = c.ready_since-quiet.ensures.marks ∙ c.loop-quiet.invariant.marks ∙ ap (λ (P : Subject g.row.W.Denot). P.given.legs.count + 1) (sym (c.ready_since-quiet.ensures.same.path ∙ c.loop-quiet.invariant.goes.continues.path))

pub returns-in_err-learnt-clause-goes : goal.returns-in_err-learnt-clause-goes
returns-in_err-learnt-clause-goes g c = goes_trans (state_of g.W.Partial.sets g.W.Transfer.moves g.R.RowRules.rules g.B.ByteFacts.store c.args.self.now.propagation.facts) (state_of g.W.Partial.sets g.W.Transfer.moves g.R.RowRules.rules g.B.ByteFacts.store c.loop-quiet.self.propagation.facts) (state_of g.W.Partial.sets g.W.Transfer.moves g.R.RowRules.rules g.B.ByteFacts.store c.sweep_since.new.self.propagation.facts) c.loop-quiet.invariant.goes (goes_trans (state_of g.W.Partial.sets g.W.Transfer.moves g.R.RowRules.rules g.B.ByteFacts.store c.loop-quiet.self.propagation.facts) (state_of g.W.Partial.sets g.W.Transfer.moves g.R.RowRules.rules g.B.ByteFacts.store c.ready_since-quiet.new.self.propagation.facts) (state_of g.W.Partial.sets g.W.Transfer.moves g.R.RowRules.rules g.B.ByteFacts.store c.sweep_since.new.self.propagation.facts) (same_goes (state_of g.W.Partial.sets g.W.Transfer.moves g.R.RowRules.rules g.B.ByteFacts.store c.loop-quiet.self.propagation.facts) (state_of g.W.Partial.sets g.W.Transfer.moves g.R.RowRules.rules g.B.ByteFacts.store c.ready_since-quiet.new.self.propagation.facts) c.ready_since-quiet.ensures.same) (grows_goes (state_of g.W.Partial.sets g.W.Transfer.moves g.R.RowRules.rules g.B.ByteFacts.store c.ready_since-quiet.new.self.propagation.facts) (state_of g.W.Partial.sets g.W.Transfer.moves g.R.RowRules.rules g.B.ByteFacts.store c.sweep_since.new.self.propagation.facts) c.sweep_since.ensures.grows))

pub returns-then-not-learnt-clause-goes : goal.returns-then-not-learnt-clause-goes
returns-then-not-learnt-clause-goes g c = goes_trans (state_of g.W.Partial.sets g.W.Transfer.moves g.R.RowRules.rules g.B.ByteFacts.store c.args.self.now.propagation.facts) (state_of g.W.Partial.sets g.W.Transfer.moves g.R.RowRules.rules g.B.ByteFacts.store c.loop-quiet.self.propagation.facts) (state_of g.W.Partial.sets g.W.Transfer.moves g.R.RowRules.rules g.B.ByteFacts.store c.sweep_since.new.self.propagation.facts) c.loop-quiet.invariant.goes (goes_trans (state_of g.W.Partial.sets g.W.Transfer.moves g.R.RowRules.rules g.B.ByteFacts.store c.loop-quiet.self.propagation.facts) (state_of g.W.Partial.sets g.W.Transfer.moves g.R.RowRules.rules g.B.ByteFacts.store c.ready_since-quiet.new.self.propagation.facts) (state_of g.W.Partial.sets g.W.Transfer.moves g.R.RowRules.rules g.B.ByteFacts.store c.sweep_since.new.self.propagation.facts) (same_goes (state_of g.W.Partial.sets g.W.Transfer.moves g.R.RowRules.rules g.B.ByteFacts.store c.loop-quiet.self.propagation.facts) (state_of g.W.Partial.sets g.W.Transfer.moves g.R.RowRules.rules g.B.ByteFacts.store c.ready_since-quiet.new.self.propagation.facts) c.ready_since-quiet.ensures.same) (grows_goes (state_of g.W.Partial.sets g.W.Transfer.moves g.R.RowRules.rules g.B.ByteFacts.store c.ready_since-quiet.new.self.propagation.facts) (state_of g.W.Partial.sets g.W.Transfer.moves g.R.RowRules.rules g.B.ByteFacts.store c.sweep_since.new.self.propagation.facts) c.in_ok-learnt.ensures.grows))

pub returns-then-not-learnt-clause-uncut : goal.returns-then-not-learnt-clause-uncut
returns-then-not-learnt-clause-uncut g c = c.in_ok-learnt.ensures.inferred.uncut (uncut_like (state_of g.W.Partial.sets g.W.Transfer.moves g.R.RowRules.rules g.B.ByteFacts.store c.loop-quiet.self.propagation.facts) (state_of g.W.Partial.sets g.W.Transfer.moves g.R.RowRules.rules g.B.ByteFacts.store c.ready_since-quiet.new.self.propagation.facts) c.ready_since-quiet.ensures.same c.loop-quiet.invariant.uncut)

pub loop-quiet-preserved : goal.loop-quiet-preserved
loop-quiet-preserved g c = record {
  goes = goes_trans (state_of g.W.Partial.sets g.W.Transfer.moves g.R.RowRules.rules g.B.ByteFacts.store c.args.self.now.propagation.facts) (state_of g.W.Partial.sets g.W.Transfer.moves g.R.RowRules.rules g.B.ByteFacts.store c.loop-quiet.self.propagation.facts) (state_of g.W.Partial.sets g.W.Transfer.moves g.R.RowRules.rules g.B.ByteFacts.store c.sweep_since.new.self.propagation.facts) c.loop-quiet.invariant.goes (goes_trans (state_of g.W.Partial.sets g.W.Transfer.moves g.R.RowRules.rules g.B.ByteFacts.store c.loop-quiet.self.propagation.facts) (state_of g.W.Partial.sets g.W.Transfer.moves g.R.RowRules.rules g.B.ByteFacts.store c.ready_since-quiet.new.self.propagation.facts) (state_of g.W.Partial.sets g.W.Transfer.moves g.R.RowRules.rules g.B.ByteFacts.store c.sweep_since.new.self.propagation.facts) (same_goes (state_of g.W.Partial.sets g.W.Transfer.moves g.R.RowRules.rules g.B.ByteFacts.store c.loop-quiet.self.propagation.facts) (state_of g.W.Partial.sets g.W.Transfer.moves g.R.RowRules.rules g.B.ByteFacts.store c.ready_since-quiet.new.self.propagation.facts) c.ready_since-quiet.ensures.same) (grows_goes (state_of g.W.Partial.sets g.W.Transfer.moves g.R.RowRules.rules g.B.ByteFacts.store c.ready_since-quiet.new.self.propagation.facts) (state_of g.W.Partial.sets g.W.Transfer.moves g.R.RowRules.rules g.B.ByteFacts.store c.sweep_since.new.self.propagation.facts) c.in_ok-learnt.ensures.grows));
  uncut = c.in_ok-learnt.ensures.inferred.uncut (uncut_like (state_of g.W.Partial.sets g.W.Transfer.moves g.R.RowRules.rules g.B.ByteFacts.store c.loop-quiet.self.propagation.facts) (state_of g.W.Partial.sets g.W.Transfer.moves g.R.RowRules.rules g.B.ByteFacts.store c.ready_since-quiet.new.self.propagation.facts) c.ready_since-quiet.ensures.same c.loop-quiet.invariant.uncut);
  writings = c.in_ok-learnt.ensures.grows.writing (c.ready_since-quiet.ensures.writings c.if-not-quiet.false);
  quiet = quiet_after (state_of g.W.Partial.sets g.W.Transfer.moves g.R.RowRules.rules g.B.ByteFacts.store c.ready_since-quiet.new.self.propagation.facts) (state_of g.W.Partial.sets g.W.Transfer.moves g.R.RowRules.rules g.B.ByteFacts.store c.sweep_since.new.self.propagation.facts) c.in_ok-learnt.ensures.grows (c.ready_since-quiet.ensures.quiet c.if-not-quiet.false);
  marks = c.ready_since-quiet.ensures.marks ∙ c.loop-quiet.invariant.marks;
}

pub loop-quiet-smaller : goal.loop-quiet-smaller
loop-quiet-smaller g c =
    let same = measure_same (state_of g.W.Partial.sets g.W.Transfer.moves g.R.RowRules.rules g.B.ByteFacts.store c.loop-quiet.self.propagation.facts) (state_of g.W.Partial.sets g.W.Transfer.moves g.R.RowRules.rules g.B.ByteFacts.store c.ready_since-quiet.new.self.propagation.facts) c.ready_since-quiet.ensures.same in
    subst (λ (n : ℕ). measure (state_of g.W.Partial.sets g.W.Transfer.moves g.R.RowRules.rules g.B.ByteFacts.store c.sweep_since.new.self.propagation.facts) < n) same (news_less (state_of g.W.Partial.sets g.W.Transfer.moves g.R.RowRules.rules g.B.ByteFacts.store c.ready_since-quiet.new.self.propagation.facts) (state_of g.W.Partial.sets g.W.Transfer.moves g.R.RowRules.rules g.B.ByteFacts.store c.sweep_since.new.self.propagation.facts) c.in_ok-learnt.ensures.grows (c.in_ok-learnt.ensures.inferred.news c.if-not-learnt.false))
