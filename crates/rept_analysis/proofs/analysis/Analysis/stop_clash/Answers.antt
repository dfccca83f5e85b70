use Rattle.rept_timeline.specs.Paths.{lawful}
use Rattle.std.proofs.Common.{◌≡◌, ◌∙◌, arith, inr, sym, ap, subst}
use Rattle.rept_reason.specs.Facts.{told}
use Rattle.rept_report.specs.Conflicts.{IsQuiet}
use Rattle.rept_report.specs.Closure.{ClosureHas}
use Rattle.rept_report.specs.Log.{oldest}
use Rattle.rept_report.specs.Why.{fact_of}
use Rattle.rept_log.specs.Known.{Known}
use Rattle.rept_facts.specs.State.{state_of, Subject, along}
use Rattle.rept_facts.specs.Begun.{ends_told, KnowsEnds}
use Rattle.rept_facts.proofs.Begun.{begun_like, ends_among}
use Rattle.rept_facts.proofs.Ending.{forth, back_to, stopped_from, quiet_whole, quiet_part, shows_like}
use Rattle.rept_facts.proofs.Stopping.{quiet_before, clash_conflict}
use Rattle.rept_analysis.proofs.analysis.Analysis.stop_clash.Goals as goal

pub stop_least-requires-clause-loud : goal.stop_least-requires-clause-loud
stop_least-requires-clause-loud g c =
    let a = state_of g.W.Partial.sets g.W.Transfer.moves g.R.RowRules.rules g.B.ByteFacts.store c.args.self.now.propagation.facts in
    λ q. c.is_quiet-quiet.ensures.loud c.if-not-quiet.true (quiet_part a c.len-len.result c.len-len.ensures.value (back_to a (state_of g.W.Partial.sets g.W.Transfer.moves g.R.RowRules.rules g.B.ByteFacts.store c.is_quiet-quiet.new.self) c.is_quiet-quiet.ensures.same (λ (P : Subject g.row.W.Denot) (k : Known). IsQuiet (along P) (told k.log)) q))

pub returns-then-not-quiet-clause-ended : goal.returns-then-not-quiet-clause-ended
returns-then-not-quiet-clause-ended g c = stopped_from (state_of g.W.Partial.sets g.W.Transfer.moves g.R.RowRules.rules g.B.ByteFacts.store c.args.self.now.propagation.facts) (state_of g.W.Partial.sets g.W.Transfer.moves g.R.RowRules.rules g.B.ByteFacts.store c.is_quiet-quiet.new.self) c.is_quiet-quiet.ensures.same _ _ c.stop_least.ensures.ended

pub stop_at-requires-clause-shows : goal.stop_at-requires-clause-shows
stop_at-requires-clause-shows g c =
    let a = (state_of g.W.Partial.sets g.W.Transfer.moves g.R.RowRules.rules g.B.ByteFacts.store c.args.self.now.propagation.facts) in
    let same = c.is_quiet-quiet.ensures.same in
    shows_like a (state_of g.W.Partial.sets g.W.Transfer.moves g.R.RowRules.rules g.B.ByteFacts.store c.is_quiet-quiet.new.self) same.path same.known c.len-len.result c.clash_kind-kind.result (record {
      quiet = λ u below. quiet_before a (record { sets = g.met.W.Partial.lawful; moves = g.met.W.Transfer.covers; rules = g.met.R.RowRules.lawful; legs = (lawful c.args.self.now.propagation.facts.paths).legs; moments = (lawful c.args.self.now.propagation.facts.paths).moments }) c.held.ensures c.len-len.result u (omega (arith, below)) (c.is_quiet-quiet.ensures.quiet c.if-not-quiet.false);
      shows = inr (c.len-len.ensures.value, record { fact = fact_of c.args.point c.args.cell c.args.value; known = c.args.known; clash = c.requires.clash; named = c.clash_kind-kind.ensures });
    })

pub stop_at-requires-clause-kind : goal.stop_at-requires-clause-kind
stop_at-requires-clause-kind g c =
    let a = state_of g.W.Partial.sets g.W.Transfer.moves g.R.RowRules.rules g.B.ByteFacts.store c.args.self.now.propagation.facts in
    let quiet = quiet_whole a c.len-len.result c.len-len.ensures.value (c.is_quiet-quiet.ensures.quiet c.if-not-quiet.false) in
    let found = clash_conflict a (record { sets = g.met.W.Partial.lawful; moves = g.met.W.Transfer.covers; rules = g.met.R.RowRules.lawful; legs = (lawful c.args.self.now.propagation.facts.paths).legs; moments = (lawful c.args.self.now.propagation.facts.paths).moments }) c.held.ensures c.args.point c.args.cell c.args.known c.args.value quiet c.requires.clash in
    forth a (state_of g.W.Partial.sets g.W.Transfer.moves g.R.RowRules.rules g.B.ByteFacts.store c.is_quiet-quiet.new.self) c.is_quiet-quiet.ensures.same (λ (P : Subject g.row.W.Denot) (k : Known). ClosureHas (along P) c.clash_kind-kind.result) (rw c.clash_kind-kind.ensures found)

pub returns-clause-ended : goal.returns-clause-ended
returns-clause-ended g c = stopped_from (state_of g.W.Partial.sets g.W.Transfer.moves g.R.RowRules.rules g.B.ByteFacts.store c.args.self.now.propagation.facts) (state_of g.W.Partial.sets g.W.Transfer.moves g.R.RowRules.rules g.B.ByteFacts.store c.is_quiet-quiet.new.self) c.is_quiet-quiet.ensures.same (state_of g.W.Partial.sets g.W.Transfer.moves g.R.RowRules.rules g.B.ByteFacts.store c.stop_at.new.self) c.clash_kind-kind.result c.stop_at.ensures.ended

pub returns-then-not-quiet-clause-still : goal.returns-then-not-quiet-clause-still
returns-then-not-quiet-clause-still g c = c.stop_least.ensures.still ∙ c.is_quiet-quiet.ensures.same.infers

pub returns-clause-still : goal.returns-clause-still
returns-clause-still g c = c.stop_at.ensures.still ∙ c.is_quiet-quiet.ensures.same.infers

pub returns-then-not-quiet-clause-log : goal.returns-then-not-quiet-clause-log
returns-then-not-quiet-clause-log g c = c.stop_least.ensures.log ∙ ap (λ (k : Known). k.log) c.is_quiet-quiet.ensures.same.known

pub returns-clause-log : goal.returns-clause-log
returns-clause-log g c = c.stop_at.ensures.log ∙ ap (λ (k : Known). k.log) c.is_quiet-quiet.ensures.same.known

pub returns-then-not-quiet-clause-ends : goal.returns-then-not-quiet-clause-ends
returns-then-not-quiet-clause-ends g c = λ first quiet.
    let a = (state_of g.W.Partial.sets g.W.Transfer.moves g.R.RowRules.rules g.B.ByteFacts.store c.args.self.now.propagation.facts) in
    let b = (state_of g.W.Partial.sets g.W.Transfer.moves g.R.RowRules.rules g.B.ByteFacts.store c.is_quiet-quiet.new.self) in
    let same = c.is_quiet-quiet.ensures.same in
    let calm = subst (λ (P : Subject g.row.W.Denot). IsQuiet (along P) (ends_told (along P))) (sym same.path) quiet in
    subst (λ (P : Subject g.row.W.Denot). KnowsEnds (along P) (told (oldest c.stop_least.new.self.propagation.facts.shown c.stop_least.new.self.propagation.facts.known.log))) same.path (c.stop_least.ensures.ends (inr (begun_like a b same.path (ap (λ (k : Known). k.log) c.is_quiet-quiet.ensures.same.known) first)) calm)

pub returns-clause-ends : goal.returns-clause-ends
returns-clause-ends g c = λ first quiet.
    let a = (state_of g.W.Partial.sets g.W.Transfer.moves g.R.RowRules.rules g.B.ByteFacts.store c.args.self.now.propagation.facts) in
    let log : c.stop_at.new.self.known.log ≡ a.known.log = c.stop_at.ensures.log ∙ ap (λ (k : Known). k.log) c.is_quiet-quiet.ensures.same.known in
    rw (c.stop_at.ensures.limit, log) (ends_among (along a.path) (record { sets = g.met.W.Partial.lawful; moves = g.met.W.Transfer.covers; rules = g.met.R.RowRules.lawful; legs = (lawful c.args.self.now.propagation.facts.paths).legs; moments = (lawful c.args.self.now.propagation.facts.paths).moments }) a.known.log c.held.ensures.once first quiet c.len-len.result (inr c.len-len.ensures.value))
