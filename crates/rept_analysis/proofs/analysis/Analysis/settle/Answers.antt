use Rattle.std.proofs.Common.{arith, ◌≡◌, ◌+◌, length, inr, sym, ap, subst, ◌∙◌}
use Rattle.rept_reason.specs.Facts.{told}
use Rattle.rept_report.specs.Conflicts.{IsQuiet}
use Rattle.rept_report.specs.Log.{oldest}
use Rattle.rept_log.specs.Known.{Known}
use Rattle.rept_facts.specs.State.{AnalysisState, state_of, Subject, along}
use Rattle.rept_facts.specs.Inferring.{IsSettled}
use Rattle.rept_facts.specs.Begun.{HasEndsFirst}
use Rattle.rept_facts.proofs.Begun.{any_err, begins_like}
use Rattle.rept_span.specs.Filled.{AllReadBelow}
use Rattle.rept_analysis.proofs.Measure.{news_less}
use Rattle.rept_analysis.proofs.Since.{goes_trans, same_goes, grows_goes, quiet_after, quiet_filled}
use Rattle.rept_facts.proofs.Ending.{forth, back_to, measure_same, same_continues, grows_continues, Continues_itself, Continues_trans, quiet_part, quiet_whole, settled_by, spent_like, spent_after, uncut_like, known_like, known_after}
use Rattle.rept_analysis.proofs.analysis.Analysis.settle.Goals as goal

pub loop-len-init : goal.loop-len-init
loop-len-init g c = record { continues = Continues_itself _; more = λ p x v e. e; spent = omega arith; uncut = c.requires.uncut; begins = λ h. h }

pub returns-then-not-quiet-clause-continues : goal.returns-then-not-quiet-clause-continues
returns-then-not-quiet-clause-continues g c = Continues_trans _ (state_of g.W.Partial.sets g.W.Transfer.moves g.R.RowRules.rules g.B.ByteFacts.store c.loop-len.self.propagation.facts) _ c.loop-len.invariant.continues (same_continues (state_of g.W.Partial.sets g.W.Transfer.moves g.R.RowRules.rules g.B.ByteFacts.store c.loop-len.self.propagation.facts) (state_of g.W.Partial.sets g.W.Transfer.moves g.R.RowRules.rules g.B.ByteFacts.store c.ready-quiet.new.self.propagation.facts) c.ready-quiet.ensures.same)

pub returns-then-not-quiet-clause-loud : goal.returns-then-not-quiet-clause-loud
returns-then-not-quiet-clause-loud g c =
    let a = state_of g.W.Partial.sets g.W.Transfer.moves g.R.RowRules.rules g.B.ByteFacts.store c.loop-len.self.propagation.facts in
    λ _ q. c.ready-quiet.ensures.loud c.if-not-quiet.true (quiet_part a c.len-len.result c.len-len.ensures.value (back_to a (state_of g.W.Partial.sets g.W.Transfer.moves g.R.RowRules.rules g.B.ByteFacts.store c.ready-quiet.new.self.propagation.facts) c.ready-quiet.ensures.same (λ (P : Subject g.row.W.Denot) (k : Known). IsQuiet (along P) (told k.log)) q))

pub returns-in_err-learnt-clause-continues : goal.returns-in_err-learnt-clause-continues
returns-in_err-learnt-clause-continues g c = Continues_trans _ (state_of g.W.Partial.sets g.W.Transfer.moves g.R.RowRules.rules g.B.ByteFacts.store c.loop-len.self.propagation.facts) _ c.loop-len.invariant.continues (Continues_trans _ (state_of g.W.Partial.sets g.W.Transfer.moves g.R.RowRules.rules g.B.ByteFacts.store c.ready-quiet.new.self.propagation.facts) _ (same_continues (state_of g.W.Partial.sets g.W.Transfer.moves g.R.RowRules.rules g.B.ByteFacts.store c.loop-len.self.propagation.facts) (state_of g.W.Partial.sets g.W.Transfer.moves g.R.RowRules.rules g.B.ByteFacts.store c.ready-quiet.new.self.propagation.facts) c.ready-quiet.ensures.same) (grows_continues (state_of g.W.Partial.sets g.W.Transfer.moves g.R.RowRules.rules g.B.ByteFacts.store c.ready-quiet.new.self.propagation.facts) (state_of g.W.Partial.sets g.W.Transfer.moves g.R.RowRules.rules g.B.ByteFacts.store c.sweep.new.self.propagation.facts) c.sweep.ensures.grows))

pub settle_since-requires-clause-open : goal.settle_since-requires-clause-open
settle_since-requires-clause-open g c = c.in_ok-learnt.ensures.grows.complete ∙ c.ready-quiet.ensures.same.complete ∙ c.loop-len.invariant.continues.complete ∙ c.requires.open

pub settle_since-requires-clause-uncut : goal.settle_since-requires-clause-uncut
settle_since-requires-clause-uncut g c = c.in_ok-learnt.ensures.inferred.uncut (uncut_like (state_of g.W.Partial.sets g.W.Transfer.moves g.R.RowRules.rules g.B.ByteFacts.store c.loop-len.self.propagation.facts) (state_of g.W.Partial.sets g.W.Transfer.moves g.R.RowRules.rules g.B.ByteFacts.store c.ready-quiet.new.self.propagation.facts) c.ready-quiet.ensures.same c.loop-len.invariant.uncut)

pub settle_since-requires-clause-writings : goal.settle_since-requires-clause-writings
settle_since-requires-clause-writings g c = c.in_ok-learnt.ensures.grows.writing (c.ready-quiet.ensures.writings c.if-not-quiet.false)

pub settle_since-requires-clause-quiet : goal.settle_since-requires-clause-quiet
settle_since-requires-clause-quiet g c = quiet_after (state_of g.W.Partial.sets g.W.Transfer.moves g.R.RowRules.rules g.B.ByteFacts.store c.ready-quiet.new.self.propagation.facts) (state_of g.W.Partial.sets g.W.Transfer.moves g.R.RowRules.rules g.B.ByteFacts.store c.sweep.new.self.propagation.facts) c.in_ok-learnt.ensures.grows (quiet_filled (state_of g.W.Partial.sets g.W.Transfer.moves g.R.RowRules.rules g.B.ByteFacts.store c.loop-len.self.propagation.facts) (state_of g.W.Partial.sets g.W.Transfer.moves g.R.RowRules.rules g.B.ByteFacts.store c.ready-quiet.new.self.propagation.facts) c.len-len.result c.ready-quiet.ensures.same c.ready-quiet.ensures.limit (c.ready-quiet.ensures.quiet c.if-not-quiet.false))

pub settle_since-requires-clause-reads : goal.settle_since-requires-clause-reads
settle_since-requires-clause-reads g c = subst (λ (P : Subject g.row.W.Denot). AllReadBelow P.given.legs (P.given.legs.count + 1)) (sym (c.in_ok-learnt.ensures.grows.path ∙ c.ready-quiet.ensures.same.path)) (c.ready-quiet.ensures.reads c.if-not-quiet.false)

pub returns-in_err-settle_since-clause-continues : goal.returns-in_err-settle_since-clause-continues
returns-in_err-settle_since-clause-continues g c = Continues_trans (state_of g.W.Partial.sets g.W.Transfer.moves g.R.RowRules.rules g.B.ByteFacts.store c.args.self.now.propagation.facts) (state_of g.W.Partial.sets g.W.Transfer.moves g.R.RowRules.rules g.B.ByteFacts.store c.loop-len.self.propagation.facts) (state_of g.W.Partial.sets g.W.Transfer.moves g.R.RowRules.rules g.B.ByteFacts.store c.settle_since.new.self.propagation.facts) c.loop-len.invariant.continues (goes_trans (state_of g.W.Partial.sets g.W.Transfer.moves g.R.RowRules.rules g.B.ByteFacts.store c.loop-len.self.propagation.facts) (state_of g.W.Partial.sets g.W.Transfer.moves g.R.RowRules.rules g.B.ByteFacts.store c.sweep.new.self.propagation.facts) (state_of g.W.Partial.sets g.W.Transfer.moves g.R.RowRules.rules g.B.ByteFacts.store c.settle_since.new.self.propagation.facts) (goes_trans (state_of g.W.Partial.sets g.W.Transfer.moves g.R.RowRules.rules g.B.ByteFacts.store c.loop-len.self.propagation.facts) (state_of g.W.Partial.sets g.W.Transfer.moves g.R.RowRules.rules g.B.ByteFacts.store c.ready-quiet.new.self.propagation.facts) (state_of g.W.Partial.sets g.W.Transfer.moves g.R.RowRules.rules g.B.ByteFacts.store c.sweep.new.self.propagation.facts) (same_goes (state_of g.W.Partial.sets g.W.Transfer.moves g.R.RowRules.rules g.B.ByteFacts.store c.loop-len.self.propagation.facts) (state_of g.W.Partial.sets g.W.Transfer.moves g.R.RowRules.rules g.B.ByteFacts.store c.ready-quiet.new.self.propagation.facts) c.ready-quiet.ensures.same) (grows_goes (state_of g.W.Partial.sets g.W.Transfer.moves g.R.RowRules.rules g.B.ByteFacts.store c.ready-quiet.new.self.propagation.facts) (state_of g.W.Partial.sets g.W.Transfer.moves g.R.RowRules.rules g.B.ByteFacts.store c.sweep.new.self.propagation.facts) c.in_ok-learnt.ensures.grows)) c.settle_since.ensures.goes).continues

pub returns-in_err-settle_since-clause-more : goal.returns-in_err-settle_since-clause-more
returns-in_err-settle_since-clause-more g c = known_after (state_of g.W.Partial.sets g.W.Transfer.moves g.R.RowRules.rules g.B.ByteFacts.store c.args.self.now.propagation.facts) (state_of g.W.Partial.sets g.W.Transfer.moves g.R.RowRules.rules g.B.ByteFacts.store c.loop-len.self.propagation.facts) (state_of g.W.Partial.sets g.W.Transfer.moves g.R.RowRules.rules g.B.ByteFacts.store c.settle_since.new.self.propagation.facts) c.loop-len.invariant.more (goes_trans (state_of g.W.Partial.sets g.W.Transfer.moves g.R.RowRules.rules g.B.ByteFacts.store c.loop-len.self.propagation.facts) (state_of g.W.Partial.sets g.W.Transfer.moves g.R.RowRules.rules g.B.ByteFacts.store c.sweep.new.self.propagation.facts) (state_of g.W.Partial.sets g.W.Transfer.moves g.R.RowRules.rules g.B.ByteFacts.store c.settle_since.new.self.propagation.facts) (goes_trans (state_of g.W.Partial.sets g.W.Transfer.moves g.R.RowRules.rules g.B.ByteFacts.store c.loop-len.self.propagation.facts) (state_of g.W.Partial.sets g.W.Transfer.moves g.R.RowRules.rules g.B.ByteFacts.store c.ready-quiet.new.self.propagation.facts) (state_of g.W.Partial.sets g.W.Transfer.moves g.R.RowRules.rules g.B.ByteFacts.store c.sweep.new.self.propagation.facts) (same_goes (state_of g.W.Partial.sets g.W.Transfer.moves g.R.RowRules.rules g.B.ByteFacts.store c.loop-len.self.propagation.facts) (state_of g.W.Partial.sets g.W.Transfer.moves g.R.RowRules.rules g.B.ByteFacts.store c.ready-quiet.new.self.propagation.facts) c.ready-quiet.ensures.same) (grows_goes (state_of g.W.Partial.sets g.W.Transfer.moves g.R.RowRules.rules g.B.ByteFacts.store c.ready-quiet.new.self.propagation.facts) (state_of g.W.Partial.sets g.W.Transfer.moves g.R.RowRules.rules g.B.ByteFacts.store c.sweep.new.self.propagation.facts) c.in_ok-learnt.ensures.grows)) c.settle_since.ensures.goes).more

pub returns-in_err-settle_since-clause-spent : goal.returns-in_err-settle_since-clause-spent
returns-in_err-settle_since-clause-spent g c =
    let first = c.loop-len.invariant.spent in
    let then_ = (goes_trans (state_of g.W.Partial.sets g.W.Transfer.moves g.R.RowRules.rules g.B.ByteFacts.store c.loop-len.self.propagation.facts) (state_of g.W.Partial.sets g.W.Transfer.moves g.R.RowRules.rules g.B.ByteFacts.store c.sweep.new.self.propagation.facts) (state_of g.W.Partial.sets g.W.Transfer.moves g.R.RowRules.rules g.B.ByteFacts.store c.settle_since.new.self.propagation.facts) (goes_trans (state_of g.W.Partial.sets g.W.Transfer.moves g.R.RowRules.rules g.B.ByteFacts.store c.loop-len.self.propagation.facts) (state_of g.W.Partial.sets g.W.Transfer.moves g.R.RowRules.rules g.B.ByteFacts.store c.ready-quiet.new.self.propagation.facts) (state_of g.W.Partial.sets g.W.Transfer.moves g.R.RowRules.rules g.B.ByteFacts.store c.sweep.new.self.propagation.facts) (same_goes (state_of g.W.Partial.sets g.W.Transfer.moves g.R.RowRules.rules g.B.ByteFacts.store c.loop-len.self.propagation.facts) (state_of g.W.Partial.sets g.W.Transfer.moves g.R.RowRules.rules g.B.ByteFacts.store c.ready-quiet.new.self.propagation.facts) c.ready-quiet.ensures.same) (grows_goes (state_of g.W.Partial.sets g.W.Transfer.moves g.R.RowRules.rules g.B.ByteFacts.store c.ready-quiet.new.self.propagation.facts) (state_of g.W.Partial.sets g.W.Transfer.moves g.R.RowRules.rules g.B.ByteFacts.store c.sweep.new.self.propagation.facts) c.in_ok-learnt.ensures.grows)) c.settle_since.ensures.goes).spent in
    omega (arith, first, then_)

pub returns-in_err-settle_since-clause-begins : goal.returns-in_err-settle_since-clause-begins
returns-in_err-settle_since-clause-begins g c = λ h. inr (c.settle_since.ensures.goes.begun (c.in_ok-learnt.ensures.begun (begins_like (state_of g.W.Partial.sets g.W.Transfer.moves g.R.RowRules.rules g.B.ByteFacts.store c.loop-len.self.propagation.facts) (state_of g.W.Partial.sets g.W.Transfer.moves g.R.RowRules.rules g.B.ByteFacts.store c.ready-quiet.new.self.propagation.facts) c.ready-quiet.ensures.same.path (ap (λ (k : Known). k.log) c.ready-quiet.ensures.same.known) (c.loop-len.invariant.begins h))))

pub returns-in_err-settle_since-clause-halted : goal.returns-in_err-settle_since-clause-halted
returns-in_err-settle_since-clause-halted g c = λ h. any_err c.from_residual-in_err-settle_since.result (HasEndsFirst (state_of g.W.Partial.sets g.W.Transfer.moves g.R.RowRules.rules g.B.ByteFacts.store c.settle_since.new.self.propagation.facts)) (c.settle_since.ensures.goes.begun (c.in_ok-learnt.ensures.begun (begins_like (state_of g.W.Partial.sets g.W.Transfer.moves g.R.RowRules.rules g.B.ByteFacts.store c.loop-len.self.propagation.facts) (state_of g.W.Partial.sets g.W.Transfer.moves g.R.RowRules.rules g.B.ByteFacts.store c.ready-quiet.new.self.propagation.facts) c.ready-quiet.ensures.same.path (ap (λ (k : Known). k.log) c.ready-quiet.ensures.same.known) (c.loop-len.invariant.begins h))))

pub loop-len-preserved : goal.loop-len-preserved
loop-len-preserved g c =
    let goes = goes_trans (state_of g.W.Partial.sets g.W.Transfer.moves g.R.RowRules.rules g.B.ByteFacts.store c.loop-len.self.propagation.facts) (state_of g.W.Partial.sets g.W.Transfer.moves g.R.RowRules.rules g.B.ByteFacts.store c.sweep.new.self.propagation.facts) (state_of g.W.Partial.sets g.W.Transfer.moves g.R.RowRules.rules g.B.ByteFacts.store c.settle_since.new.self.propagation.facts) (goes_trans (state_of g.W.Partial.sets g.W.Transfer.moves g.R.RowRules.rules g.B.ByteFacts.store c.loop-len.self.propagation.facts) (state_of g.W.Partial.sets g.W.Transfer.moves g.R.RowRules.rules g.B.ByteFacts.store c.ready-quiet.new.self.propagation.facts) (state_of g.W.Partial.sets g.W.Transfer.moves g.R.RowRules.rules g.B.ByteFacts.store c.sweep.new.self.propagation.facts) (same_goes (state_of g.W.Partial.sets g.W.Transfer.moves g.R.RowRules.rules g.B.ByteFacts.store c.loop-len.self.propagation.facts) (state_of g.W.Partial.sets g.W.Transfer.moves g.R.RowRules.rules g.B.ByteFacts.store c.ready-quiet.new.self.propagation.facts) c.ready-quiet.ensures.same) (grows_goes (state_of g.W.Partial.sets g.W.Transfer.moves g.R.RowRules.rules g.B.ByteFacts.store c.ready-quiet.new.self.propagation.facts) (state_of g.W.Partial.sets g.W.Transfer.moves g.R.RowRules.rules g.B.ByteFacts.store c.sweep.new.self.propagation.facts) c.in_ok-learnt.ensures.grows)) c.in_ok-settle_since.ensures.goes in
    let first = c.loop-len.invariant.spent in
    let then_ = goes.spent in
    record {
      begins = λ h. inr (c.in_ok-settle_since.ensures.goes.begun (c.in_ok-learnt.ensures.begun (begins_like (state_of g.W.Partial.sets g.W.Transfer.moves g.R.RowRules.rules g.B.ByteFacts.store c.loop-len.self.propagation.facts) (state_of g.W.Partial.sets g.W.Transfer.moves g.R.RowRules.rules g.B.ByteFacts.store c.ready-quiet.new.self.propagation.facts) c.ready-quiet.ensures.same.path (ap (λ (k : Known). k.log) c.ready-quiet.ensures.same.known) (c.loop-len.invariant.begins h))));
      continues = Continues_trans (state_of g.W.Partial.sets g.W.Transfer.moves g.R.RowRules.rules g.B.ByteFacts.store c.args.self.now.propagation.facts) (state_of g.W.Partial.sets g.W.Transfer.moves g.R.RowRules.rules g.B.ByteFacts.store c.loop-len.self.propagation.facts) (state_of g.W.Partial.sets g.W.Transfer.moves g.R.RowRules.rules g.B.ByteFacts.store c.settle_since.new.self.propagation.facts) c.loop-len.invariant.continues goes.continues;
      more = known_after (state_of g.W.Partial.sets g.W.Transfer.moves g.R.RowRules.rules g.B.ByteFacts.store c.args.self.now.propagation.facts) (state_of g.W.Partial.sets g.W.Transfer.moves g.R.RowRules.rules g.B.ByteFacts.store c.loop-len.self.propagation.facts) (state_of g.W.Partial.sets g.W.Transfer.moves g.R.RowRules.rules g.B.ByteFacts.store c.settle_since.new.self.propagation.facts) c.loop-len.invariant.more goes.more;
      spent = omega (arith, first, then_);
      uncut = c.in_ok-settle_since.ensures.uncut;
    }

pub loop-len-smaller : goal.loop-len-smaller
loop-len-smaller g c =
    let same = measure_same (state_of g.W.Partial.sets g.W.Transfer.moves g.R.RowRules.rules g.B.ByteFacts.store c.loop-len.self.propagation.facts) (state_of g.W.Partial.sets g.W.Transfer.moves g.R.RowRules.rules g.B.ByteFacts.store c.ready-quiet.new.self.propagation.facts) c.ready-quiet.ensures.same in
    let less = news_less (state_of g.W.Partial.sets g.W.Transfer.moves g.R.RowRules.rules g.B.ByteFacts.store c.ready-quiet.new.self.propagation.facts) (state_of g.W.Partial.sets g.W.Transfer.moves g.R.RowRules.rules g.B.ByteFacts.store c.sweep.new.self.propagation.facts) c.in_ok-learnt.ensures.grows (c.in_ok-learnt.ensures.inferred.news c.if-not-learnt.false) in
    let rest = c.in_ok-settle_since.ensures.goes.measured in
    omega (arith, same, less, rest)

pub returns-clause-continues : goal.returns-clause-continues
returns-clause-continues g c = Continues_trans _ (state_of g.W.Partial.sets g.W.Transfer.moves g.R.RowRules.rules g.B.ByteFacts.store c.loop-len.self.propagation.facts) _ c.loop-len.invariant.continues (Continues_trans _ (state_of g.W.Partial.sets g.W.Transfer.moves g.R.RowRules.rules g.B.ByteFacts.store c.ready-quiet.new.self.propagation.facts) _ (same_continues (state_of g.W.Partial.sets g.W.Transfer.moves g.R.RowRules.rules g.B.ByteFacts.store c.loop-len.self.propagation.facts) (state_of g.W.Partial.sets g.W.Transfer.moves g.R.RowRules.rules g.B.ByteFacts.store c.ready-quiet.new.self.propagation.facts) c.ready-quiet.ensures.same) (grows_continues (state_of g.W.Partial.sets g.W.Transfer.moves g.R.RowRules.rules g.B.ByteFacts.store c.ready-quiet.new.self.propagation.facts) (state_of g.W.Partial.sets g.W.Transfer.moves g.R.RowRules.rules g.B.ByteFacts.store c.sweep.new.self.propagation.facts) c.in_ok-learnt.ensures.grows))

pub returns-clause-settled : goal.returns-clause-settled
returns-clause-settled g c =
    λ _.
    let a = state_of g.W.Partial.sets g.W.Transfer.moves g.R.RowRules.rules g.B.ByteFacts.store c.loop-len.self.propagation.facts in
    let b = state_of g.W.Partial.sets g.W.Transfer.moves g.R.RowRules.rules g.B.ByteFacts.store c.ready-quiet.new.self.propagation.facts in
    let same = c.ready-quiet.ensures.same in
    let inferred = c.in_ok-learnt.ensures.inferred in
    let long = forth a b same (λ (P : Subject g.row.W.Denot) (k : Known). c.len-len.result ≡ length k.log) c.len-len.ensures.value in
    let quiet = forth a b same (λ (P : Subject g.row.W.Denot) (k : Known). IsQuiet (along P) (told (oldest c.len-len.result k.log))) (c.ready-quiet.ensures.quiet c.if-not-quiet.false) in
    let settled = settled_by b c.len-len.result long quiet (c.ready-quiet.ensures.fitted c.if-not-quiet.false) c.ready-quiet.ensures.limit (inferred.closed c.if-not-learnt.true) (c.ready-quiet.ensures.writings c.if-not-quiet.false) (c.ready-quiet.ensures.exact c.if-not-quiet.false) in
    subst (λ (x : AnalysisState g.row.W.Denot). IsSettled x) (sym (inferred.unchanged c.if-not-learnt.true)) settled

pub sweep-requires-clause-writings : goal.sweep-requires-clause-writings
sweep-requires-clause-writings g c = c.ready-quiet.ensures.writings c.if-not-quiet.false

pub sweep-requires-clause-uncut : goal.sweep-requires-clause-uncut
sweep-requires-clause-uncut g c = uncut_like (state_of g.W.Partial.sets g.W.Transfer.moves g.R.RowRules.rules g.B.ByteFacts.store c.loop-len.self.propagation.facts) (state_of g.W.Partial.sets g.W.Transfer.moves g.R.RowRules.rules g.B.ByteFacts.store c.ready-quiet.new.self.propagation.facts) c.ready-quiet.ensures.same c.loop-len.invariant.uncut

pub returns-then-not-quiet-clause-spent : goal.returns-then-not-quiet-clause-spent
returns-then-not-quiet-clause-spent g c = spent_like (state_of g.W.Partial.sets g.W.Transfer.moves g.R.RowRules.rules g.B.ByteFacts.store c.loop-len.self.propagation.facts) (state_of g.W.Partial.sets g.W.Transfer.moves g.R.RowRules.rules g.B.ByteFacts.store c.ready-quiet.new.self.propagation.facts) (state_of g.W.Partial.sets g.W.Transfer.moves g.R.RowRules.rules g.B.ByteFacts.store c.args.self.now.propagation.facts) c.ready-quiet.ensures.same c.loop-len.invariant.spent

pub returns-in_err-learnt-clause-spent : goal.returns-in_err-learnt-clause-spent
returns-in_err-learnt-clause-spent g c = let both = spent_after (state_of g.W.Partial.sets g.W.Transfer.moves g.R.RowRules.rules g.B.ByteFacts.store c.loop-len.self.propagation.facts) (state_of g.W.Partial.sets g.W.Transfer.moves g.R.RowRules.rules g.B.ByteFacts.store c.ready-quiet.new.self.propagation.facts) (state_of g.W.Partial.sets g.W.Transfer.moves g.R.RowRules.rules g.B.ByteFacts.store c.sweep.new.self.propagation.facts) (state_of g.W.Partial.sets g.W.Transfer.moves g.R.RowRules.rules g.B.ByteFacts.store c.args.self.now.propagation.facts) c.ready-quiet.ensures.same c.sweep.ensures.grows c.loop-len.invariant.spent in omega (arith, both)

pub returns-clause-spent : goal.returns-clause-spent
returns-clause-spent g c = let both = spent_after (state_of g.W.Partial.sets g.W.Transfer.moves g.R.RowRules.rules g.B.ByteFacts.store c.loop-len.self.propagation.facts) (state_of g.W.Partial.sets g.W.Transfer.moves g.R.RowRules.rules g.B.ByteFacts.store c.ready-quiet.new.self.propagation.facts) (state_of g.W.Partial.sets g.W.Transfer.moves g.R.RowRules.rules g.B.ByteFacts.store c.sweep.new.self.propagation.facts) (state_of g.W.Partial.sets g.W.Transfer.moves g.R.RowRules.rules g.B.ByteFacts.store c.args.self.now.propagation.facts) c.ready-quiet.ensures.same c.in_ok-learnt.ensures.grows c.loop-len.invariant.spent in omega (arith, both)

pub returns-then-not-quiet-clause-more : goal.returns-then-not-quiet-clause-more
returns-then-not-quiet-clause-more g c = known_after (state_of g.W.Partial.sets g.W.Transfer.moves g.R.RowRules.rules g.B.ByteFacts.store c.args.self.now.propagation.facts) (state_of g.W.Partial.sets g.W.Transfer.moves g.R.RowRules.rules g.B.ByteFacts.store c.loop-len.self.propagation.facts) (state_of g.W.Partial.sets g.W.Transfer.moves g.R.RowRules.rules g.B.ByteFacts.store c.ready-quiet.new.self.propagation.facts) c.loop-len.invariant.more (known_like (state_of g.W.Partial.sets g.W.Transfer.moves g.R.RowRules.rules g.B.ByteFacts.store c.loop-len.self.propagation.facts) (state_of g.W.Partial.sets g.W.Transfer.moves g.R.RowRules.rules g.B.ByteFacts.store c.ready-quiet.new.self.propagation.facts) c.ready-quiet.ensures.same.path c.ready-quiet.ensures.same.known)

pub returns-in_err-learnt-clause-more : goal.returns-in_err-learnt-clause-more
returns-in_err-learnt-clause-more g c = known_after (state_of g.W.Partial.sets g.W.Transfer.moves g.R.RowRules.rules g.B.ByteFacts.store c.args.self.now.propagation.facts) (state_of g.W.Partial.sets g.W.Transfer.moves g.R.RowRules.rules g.B.ByteFacts.store c.ready-quiet.new.self.propagation.facts) (state_of g.W.Partial.sets g.W.Transfer.moves g.R.RowRules.rules g.B.ByteFacts.store c.sweep.new.self.propagation.facts) (known_after (state_of g.W.Partial.sets g.W.Transfer.moves g.R.RowRules.rules g.B.ByteFacts.store c.args.self.now.propagation.facts) (state_of g.W.Partial.sets g.W.Transfer.moves g.R.RowRules.rules g.B.ByteFacts.store c.loop-len.self.propagation.facts) (state_of g.W.Partial.sets g.W.Transfer.moves g.R.RowRules.rules g.B.ByteFacts.store c.ready-quiet.new.self.propagation.facts) c.loop-len.invariant.more (known_like (state_of g.W.Partial.sets g.W.Transfer.moves g.R.RowRules.rules g.B.ByteFacts.store c.loop-len.self.propagation.facts) (state_of g.W.Partial.sets g.W.Transfer.moves g.R.RowRules.rules g.B.ByteFacts.store c.ready-quiet.new.self.propagation.facts) c.ready-quiet.ensures.same.path c.ready-quiet.ensures.same.known)) c.sweep.ensures.grows.more

pub returns-clause-more : goal.returns-clause-more
returns-clause-more g c = known_after (state_of g.W.Partial.sets g.W.Transfer.moves g.R.RowRules.rules g.B.ByteFacts.store c.args.self.now.propagation.facts) (state_of g.W.Partial.sets g.W.Transfer.moves g.R.RowRules.rules g.B.ByteFacts.store c.ready-quiet.new.self.propagation.facts) (state_of g.W.Partial.sets g.W.Transfer.moves g.R.RowRules.rules g.B.ByteFacts.store c.sweep.new.self.propagation.facts) (known_after (state_of g.W.Partial.sets g.W.Transfer.moves g.R.RowRules.rules g.B.ByteFacts.store c.args.self.now.propagation.facts) (state_of g.W.Partial.sets g.W.Transfer.moves g.R.RowRules.rules g.B.ByteFacts.store c.loop-len.self.propagation.facts) (state_of g.W.Partial.sets g.W.Transfer.moves g.R.RowRules.rules g.B.ByteFacts.store c.ready-quiet.new.self.propagation.facts) c.loop-len.invariant.more (known_like (state_of g.W.Partial.sets g.W.Transfer.moves g.R.RowRules.rules g.B.ByteFacts.store c.loop-len.self.propagation.facts) (state_of g.W.Partial.sets g.W.Transfer.moves g.R.RowRules.rules g.B.ByteFacts.store c.ready-quiet.new.self.propagation.facts) c.ready-quiet.ensures.same.path c.ready-quiet.ensures.same.known)) c.in_ok-learnt.ensures.grows.more

pub returns-then-not-quiet-clause-begins : goal.returns-then-not-quiet-clause-begins
returns-then-not-quiet-clause-begins g c = λ h. begins_like (state_of g.W.Partial.sets g.W.Transfer.moves g.R.RowRules.rules g.B.ByteFacts.store c.loop-len.self.propagation.facts) (state_of g.W.Partial.sets g.W.Transfer.moves g.R.RowRules.rules g.B.ByteFacts.store c.ready-quiet.new.self.propagation.facts) c.ready-quiet.ensures.same.path (ap (λ (k : Known). k.log) c.ready-quiet.ensures.same.known) (c.loop-len.invariant.begins h)

pub returns-in_err-learnt-clause-begins : goal.returns-in_err-learnt-clause-begins
returns-in_err-learnt-clause-begins g c = λ h. inr (c.sweep.ensures.begun (begins_like (state_of g.W.Partial.sets g.W.Transfer.moves g.R.RowRules.rules g.B.ByteFacts.store c.loop-len.self.propagation.facts) (state_of g.W.Partial.sets g.W.Transfer.moves g.R.RowRules.rules g.B.ByteFacts.store c.ready-quiet.new.self.propagation.facts) c.ready-quiet.ensures.same.path (ap (λ (k : Known). k.log) c.ready-quiet.ensures.same.known) (c.loop-len.invariant.begins h)))

pub returns-in_err-learnt-clause-halted : goal.returns-in_err-learnt-clause-halted
returns-in_err-learnt-clause-halted g c = λ h. any_err c.from_residual.result (HasEndsFirst (state_of g.W.Partial.sets g.W.Transfer.moves g.R.RowRules.rules g.B.ByteFacts.store c.sweep.new.self.propagation.facts)) (c.sweep.ensures.begun (begins_like (state_of g.W.Partial.sets g.W.Transfer.moves g.R.RowRules.rules g.B.ByteFacts.store c.loop-len.self.propagation.facts) (state_of g.W.Partial.sets g.W.Transfer.moves g.R.RowRules.rules g.B.ByteFacts.store c.ready-quiet.new.self.propagation.facts) c.ready-quiet.ensures.same.path (ap (λ (k : Known). k.log) c.ready-quiet.ensures.same.known) (c.loop-len.invariant.begins h)))

pub returns-clause-begins : goal.returns-clause-begins
returns-clause-begins g c = λ h. inr (c.in_ok-learnt.ensures.begun (begins_like (state_of g.W.Partial.sets g.W.Transfer.moves g.R.RowRules.rules g.B.ByteFacts.store c.loop-len.self.propagation.facts) (state_of g.W.Partial.sets g.W.Transfer.moves g.R.RowRules.rules g.B.ByteFacts.store c.ready-quiet.new.self.propagation.facts) c.ready-quiet.ensures.same.path (ap (λ (k : Known). k.log) c.ready-quiet.ensures.same.known) (c.loop-len.invariant.begins h)))

pub sweep-requires-clause-current : goal.sweep-requires-clause-current
sweep-requires-clause-current g c =
    let a = state_of g.W.Partial.sets g.W.Transfer.moves g.R.RowRules.rules g.B.ByteFacts.store c.loop-len.self.propagation.facts in
    let b = state_of g.W.Partial.sets g.W.Transfer.moves g.R.RowRules.rules g.B.ByteFacts.store c.ready-quiet.new.self.propagation.facts in
    let same = c.ready-quiet.ensures.same in
    let long = forth a b same (λ (P : Subject g.row.W.Denot) (k : Known). c.len-len.result ≡ length k.log) c.len-len.ensures.value in
    let quiet = forth a b same (λ (P : Subject g.row.W.Denot) (k : Known). IsQuiet (along P) (told (oldest c.len-len.result k.log))) (c.ready-quiet.ensures.quiet c.if-not-quiet.false) in
    record { quiet = quiet_whole b c.len-len.result long quiet; filled = c.ready-quiet.ensures.limit ∙ long }
