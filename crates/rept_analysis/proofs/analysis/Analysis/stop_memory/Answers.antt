use Rattle.rept_timeline.specs.Paths.{lawful}
use Rattle.std.proofs.Common.{◌∙◌, ◌<◌, ℕ, arith, ◌≡◌, length, inr, sym, ap, subst}
use Rattle.rept_reason.specs.Facts.{told}
use Rattle.rept_report.specs.Conflicts.{IsQuiet}
use Rattle.rept_report.specs.Log.{oldest}
use Rattle.rept_log.specs.Known.{Known}
use Rattle.rept_facts.specs.State.{state_of, Subject, along}
use Rattle.rept_facts.specs.Begun.{ends_told, KnowsEnds}
use Rattle.rept_facts.proofs.Begun.{begun_like}
use Rattle.rept_facts.proofs.Ending.{forth, back_to, stopped_from, paused_from, quiet_part}
use Rattle.rept_facts.proofs.Stopping.{quiet_before}
use Rattle.rept_analysis.proofs.analysis.Analysis.stop_memory.Goals as goal

pub stop_least-requires-clause-loud : goal.stop_least-requires-clause-loud
stop_least-requires-clause-loud g c =
    let a = state_of g.W.Partial.sets g.W.Transfer.moves g.R.RowRules.rules g.B.ByteFacts.store c.args.self.now.propagation.facts in
    λ q. c.is_quiet-quiet.ensures.loud c.if-not-quiet.true (quiet_part a c.len-len.result c.len-len.ensures.value (back_to a (state_of g.W.Partial.sets g.W.Transfer.moves g.R.RowRules.rules g.B.ByteFacts.store c.is_quiet-quiet.new.self) c.is_quiet-quiet.ensures.same (λ (P : Subject g.row.W.Denot) (k : Known). IsQuiet (along P) (told k.log)) q))

pub returns-then-not-quiet-clause-ended : goal.returns-then-not-quiet-clause-ended
returns-then-not-quiet-clause-ended g c = stopped_from (state_of g.W.Partial.sets g.W.Transfer.moves g.R.RowRules.rules g.B.ByteFacts.store c.args.self.now.propagation.facts) (state_of g.W.Partial.sets g.W.Transfer.moves g.R.RowRules.rules g.B.ByteFacts.store c.is_quiet-quiet.new.self) c.is_quiet-quiet.ensures.same _ _ c.stop_least.ensures.ended

pub show-requires-clause-whole : goal.show-requires-clause-whole
show-requires-clause-whole g c = forth (state_of g.W.Partial.sets g.W.Transfer.moves g.R.RowRules.rules g.B.ByteFacts.store c.args.self.now.propagation.facts) (state_of g.W.Partial.sets g.W.Transfer.moves g.R.RowRules.rules g.B.ByteFacts.store c.is_quiet-quiet.new.self) c.is_quiet-quiet.ensures.same (λ (P : Subject g.row.W.Denot) (k : Known). c.len-len.result ≡ length k.log) c.len-len.ensures.value

pub show-requires-clause-quiet : goal.show-requires-clause-quiet
show-requires-clause-quiet g c =
    let a = state_of g.W.Partial.sets g.W.Transfer.moves g.R.RowRules.rules g.B.ByteFacts.store c.args.self.now.propagation.facts in
    forth a (state_of g.W.Partial.sets g.W.Transfer.moves g.R.RowRules.rules g.B.ByteFacts.store c.is_quiet-quiet.new.self) c.is_quiet-quiet.ensures.same (λ (P : Subject g.row.W.Denot) (k : Known). (u : ℕ) → u < c.len-len.result → IsQuiet (along P) (told (oldest u k.log)))
    (λ u below. quiet_before a (record { sets = g.met.W.Partial.lawful; moves = g.met.W.Transfer.covers; rules = g.met.R.RowRules.lawful; legs = (lawful c.args.self.now.propagation.facts.paths).legs; moments = (lawful c.args.self.now.propagation.facts.paths).moments }) c.held.ensures c.len-len.result u (omega (arith, below)) (c.is_quiet-quiet.ensures.quiet c.if-not-quiet.false))

pub returns-clause-ended : goal.returns-clause-ended
returns-clause-ended g c = paused_from (state_of g.W.Partial.sets g.W.Transfer.moves g.R.RowRules.rules g.B.ByteFacts.store c.args.self.now.propagation.facts) (state_of g.W.Partial.sets g.W.Transfer.moves g.R.RowRules.rules g.B.ByteFacts.store c.is_quiet-quiet.new.self) c.is_quiet-quiet.ensures.same (state_of g.W.Partial.sets g.W.Transfer.moves g.R.RowRules.rules g.B.ByteFacts.store c.show.new.self) c.show.ensures.ended

pub returns-then-not-quiet-clause-still : goal.returns-then-not-quiet-clause-still
returns-then-not-quiet-clause-still g c = c.stop_least.ensures.still ∙ c.is_quiet-quiet.ensures.same.infers

pub returns-clause-still : goal.returns-clause-still
returns-clause-still g c = c.show.ensures.still ∙ c.is_quiet-quiet.ensures.same.infers

pub returns-then-not-quiet-clause-log : goal.returns-then-not-quiet-clause-log
returns-then-not-quiet-clause-log g c = c.stop_least.ensures.log ∙ ap (λ (k : Known). k.log) c.is_quiet-quiet.ensures.same.known

pub returns-clause-log : goal.returns-clause-log
returns-clause-log g c = c.show.ensures.log ∙ ap (λ (k : Known). k.log) c.is_quiet-quiet.ensures.same.known

pub returns-then-not-quiet-clause-ends : goal.returns-then-not-quiet-clause-ends
returns-then-not-quiet-clause-ends g c = λ first quiet kind e.
    let a = (state_of g.W.Partial.sets g.W.Transfer.moves g.R.RowRules.rules g.B.ByteFacts.store c.args.self.now.propagation.facts) in
    let b = (state_of g.W.Partial.sets g.W.Transfer.moves g.R.RowRules.rules g.B.ByteFacts.store c.is_quiet-quiet.new.self) in
    let same = c.is_quiet-quiet.ensures.same in
    let calm = subst (λ (P : Subject g.row.W.Denot). IsQuiet (along P) (ends_told (along P))) (sym same.path) quiet in
    subst (λ (P : Subject g.row.W.Denot). KnowsEnds (along P) (told (oldest c.stop_least.new.self.propagation.facts.shown c.stop_least.new.self.propagation.facts.known.log))) same.path (c.stop_least.ensures.ends (inr (begun_like a b same.path (ap (λ (k : Known). k.log) c.is_quiet-quiet.ensures.same.known) first)) calm)
