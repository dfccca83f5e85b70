use Rattle.rept_timeline.specs.Paths.{lawful}
use Rattle.std.proofs.Common.{◌≡◌, ◌∙◌, ◌≤◌, length, inl, ap}
use Rattle.rept_reason.specs.Facts.{told}
use Rattle.rept_report.specs.Setting.{HasLaws}
use Rattle.rept_report.specs.Conflicts.{Shows}
use Rattle.rept_report.specs.Closure.{ClosureHas}
use Rattle.rept_report.specs.Log.{oldest}
use Rattle.rept_log.specs.Known.{Known}
use Rattle.rept_facts.specs.State.{state_of, Subject, along}
use Rattle.rept_facts.proofs.Begun.{ends_among, ends_first}
use Rattle.rept_facts.proofs.Ending.{Same_trans, forth, back_to, stopped_from, least_later, shows_like}
use Rattle.rept_facts.proofs.Stopping.{shown_conflict}
use Rattle.rept_analysis.proofs.analysis.Analysis.stop_least.Goals as goal

pub look-requires-clause-within : goal.look-requires-clause-within
look-requires-clause-within g c = forth (state_of g.W.Partial.sets g.W.Transfer.moves g.R.RowRules.rules g.B.ByteFacts.store c.args.self.now.propagation.facts) (state_of g.W.Partial.sets g.W.Transfer.moves g.R.RowRules.rules g.B.ByteFacts.store c.bisect-limit.new.self.propagation.facts) c.bisect-limit.ensures.same (λ (P : Subject g.row.W.Denot) (k : Known). c.bisect-limit.result ≤ length k.log) c.bisect-limit.ensures.within

pub stop_at-requires-clause-within : goal.stop_at-requires-clause-within
stop_at-requires-clause-within g c =
    let same = Same_trans (state_of g.W.Partial.sets g.W.Transfer.moves g.R.RowRules.rules g.B.ByteFacts.store c.args.self.now.propagation.facts) (state_of g.W.Partial.sets g.W.Transfer.moves g.R.RowRules.rules g.B.ByteFacts.store c.bisect-limit.new.self.propagation.facts) (state_of g.W.Partial.sets g.W.Transfer.moves g.R.RowRules.rules g.B.ByteFacts.store c.look.new.self) c.bisect-limit.ensures.same c.look.ensures.same in
    forth (state_of g.W.Partial.sets g.W.Transfer.moves g.R.RowRules.rules g.B.ByteFacts.store c.args.self.now.propagation.facts) (state_of g.W.Partial.sets g.W.Transfer.moves g.R.RowRules.rules g.B.ByteFacts.store c.look.new.self) same (λ (P : Subject g.row.W.Denot) (k : Known). c.bisect-limit.result ≤ length k.log) c.bisect-limit.ensures.within

pub stop_at-requires-clause-later : goal.stop_at-requires-clause-later
stop_at-requires-clause-later g c =
    let same = Same_trans (state_of g.W.Partial.sets g.W.Transfer.moves g.R.RowRules.rules g.B.ByteFacts.store c.args.self.now.propagation.facts) (state_of g.W.Partial.sets g.W.Transfer.moves g.R.RowRules.rules g.B.ByteFacts.store c.bisect-limit.new.self.propagation.facts) (state_of g.W.Partial.sets g.W.Transfer.moves g.R.RowRules.rules g.B.ByteFacts.store c.look.new.self) c.bisect-limit.ensures.same c.look.ensures.same in
    rw same.shown (least_later (state_of g.W.Partial.sets g.W.Transfer.moves g.R.RowRules.rules g.B.ByteFacts.store c.args.self.now.propagation.facts) c.held.ensures c.bisect-limit.result c.bisect-limit.ensures.loud)

pub stop_at-requires-clause-shows : goal.stop_at-requires-clause-shows
stop_at-requires-clause-shows g c =
    let a = (state_of g.W.Partial.sets g.W.Transfer.moves g.R.RowRules.rules g.B.ByteFacts.store c.args.self.now.propagation.facts) in
    let b = (state_of g.W.Partial.sets g.W.Transfer.moves g.R.RowRules.rules g.B.ByteFacts.store c.bisect-limit.new.self.propagation.facts) in
    let d = (state_of g.W.Partial.sets g.W.Transfer.moves g.R.RowRules.rules g.B.ByteFacts.store c.look.new.self) in
    let same = Same_trans a b d c.bisect-limit.ensures.same c.look.ensures.same in
    let found = c.look.ensures.conflict c.unwrap-kind.result c.unwrap-kind.ensures in
    let here = back_to a b c.bisect-limit.ensures.same (λ (P : Subject g.row.W.Denot) (k : Known). Shows (along P) (told (oldest c.bisect-limit.result k.log)) c.unwrap-kind.result) found in
    shows_like a d same.path same.known c.bisect-limit.result c.unwrap-kind.result (record { quiet = c.bisect-limit.ensures.quiet; shows = inl here })

pub stop_at-requires-clause-kind : goal.stop_at-requires-clause-kind
stop_at-requires-clause-kind g c =
    let a = state_of g.W.Partial.sets g.W.Transfer.moves g.R.RowRules.rules g.B.ByteFacts.store c.args.self.now.propagation.facts in
    let b = state_of g.W.Partial.sets g.W.Transfer.moves g.R.RowRules.rules g.B.ByteFacts.store c.bisect-limit.new.self.propagation.facts in
    let d = state_of g.W.Partial.sets g.W.Transfer.moves g.R.RowRules.rules g.B.ByteFacts.store c.look.new.self in
    let same = Same_trans a b d c.bisect-limit.ensures.same c.look.ensures.same in
    let found = c.look.ensures.conflict c.unwrap-kind.result c.unwrap-kind.ensures in
    let here = back_to a b c.bisect-limit.ensures.same (λ (P : Subject g.row.W.Denot) (k : Known). Shows (along P) (told (oldest c.bisect-limit.result k.log)) c.unwrap-kind.result) found in
    let kind = shown_conflict a (record { sets = g.met.W.Partial.lawful; moves = g.met.W.Transfer.covers; rules = g.met.R.RowRules.lawful; legs = (lawful c.args.self.now.propagation.facts.paths).legs; moments = (lawful c.args.self.now.propagation.facts.paths).moments }) c.held.ensures c.bisect-limit.result c.bisect-limit.ensures.quiet c.unwrap-kind.result here in
    forth a d same (λ (P : Subject g.row.W.Denot) (k : Known). ClosureHas (along P) c.unwrap-kind.result) kind

pub returns-clause-ended : goal.returns-clause-ended
returns-clause-ended g c =
    let same = Same_trans (state_of g.W.Partial.sets g.W.Transfer.moves g.R.RowRules.rules g.B.ByteFacts.store c.args.self.now.propagation.facts) (state_of g.W.Partial.sets g.W.Transfer.moves g.R.RowRules.rules g.B.ByteFacts.store c.bisect-limit.new.self.propagation.facts) (state_of g.W.Partial.sets g.W.Transfer.moves g.R.RowRules.rules g.B.ByteFacts.store c.look.new.self) c.bisect-limit.ensures.same c.look.ensures.same in
    stopped_from (state_of g.W.Partial.sets g.W.Transfer.moves g.R.RowRules.rules g.B.ByteFacts.store c.args.self.now.propagation.facts) (state_of g.W.Partial.sets g.W.Transfer.moves g.R.RowRules.rules g.B.ByteFacts.store c.look.new.self) same (state_of g.W.Partial.sets g.W.Transfer.moves g.R.RowRules.rules g.B.ByteFacts.store c.stop_at.new.self) c.unwrap-kind.result c.stop_at.ensures.ended

pub returns-clause-still : goal.returns-clause-still
returns-clause-still g c = c.stop_at.ensures.still ∙ c.look.ensures.same.infers ∙ c.bisect-limit.ensures.same.infers

pub returns-clause-log : goal.returns-clause-log
returns-clause-log g c = c.stop_at.ensures.log ∙ ap (λ (k : Known). k.log) c.look.ensures.same.known ∙ ap (λ (k : Known). k.log) c.bisect-limit.ensures.same.known

pub returns-clause-ends : goal.returns-clause-ends
returns-clause-ends g c = λ begins quiet.
    let a = (state_of g.W.Partial.sets g.W.Transfer.moves g.R.RowRules.rules g.B.ByteFacts.store c.args.self.now.propagation.facts) in
    let laws : HasLaws (along a.path) = (record { sets = g.met.W.Partial.lawful; moves = g.met.W.Transfer.covers; rules = g.met.R.RowRules.lawful; legs = (lawful c.args.self.now.propagation.facts.paths).legs; moments = (lawful c.args.self.now.propagation.facts.paths).moments }) in
    let first = ends_first a laws c.requires.loud quiet begins in
    let log : c.stop_at.new.self.known.log ≡ a.known.log = c.stop_at.ensures.log ∙ ap (λ (k : Known). k.log) c.look.ensures.same.known ∙ ap (λ (k : Known). k.log) c.bisect-limit.ensures.same.known in
    rw (c.stop_at.ensures.limit, log) (ends_among (along a.path) laws a.known.log c.held.ensures.once first quiet c.bisect-limit.result (inl c.bisect-limit.ensures.loud))
