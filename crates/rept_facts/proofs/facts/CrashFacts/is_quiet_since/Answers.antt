use Rattle.rept_reason.specs.Facts.{told}
use Rattle.rept_report.specs.Log.{oldest}
use Rattle.rept_report.specs.Conflicts.{IsWrongTurn}
use Rattle.rept_log.specs.Known.{Known}
use Rattle.rept_facts.specs.State.{setting_of, state_of, Subject, along}
use Rattle.rept_facts.proofs.Ending.{back_to}
use Rattle.rept_facts.proofs.Since.{quiet_since, writings_since}
use Rattle.rept_facts.proofs.facts.CrashFacts.is_quiet_since.Goals as goal

pub returns-in-Ok-clause-quiet : goal.returns-in-Ok-clause-quiet
returns-in-Ok-clause-quiet g c =
    λ e.
    let s = state_of g.W.Partial.sets g.W.Transfer.moves g.R.RowRules.rules g.B.ByteFacts.store c.args.self.now in
    let t = state_of g.W.Partial.sets g.W.Transfer.moves g.R.RowRules.rules g.B.ByteFacts.store c.fill_since.new.self in
    quiet_since (setting_of g.W.Partial.sets g.W.Transfer.moves g.R.RowRules.rules c.args.self.now) (told (oldest c.args.self.now.filled c.args.self.now.known.log)) (told (oldest c.args.limit c.args.self.now.known.log)) c.fill_since.new.changes.points c.requires.writings.laws c.requires.quiet c.in-Ok.ensures.some c.in-Ok.ensures.news (λ i has. back_to s t c.in-Ok.ensures.same (λ (P : Subject g.row.W.Denot) (k : Known). IsWrongTurn (along P) (told (oldest c.args.limit k.log)) i → ⊥) (c.are_right.ensures e i has))

pub returns-in-Ok-clause-writings : goal.returns-in-Ok-clause-writings
returns-in-Ok-clause-writings g c =
    λ e.
    let s = state_of g.W.Partial.sets g.W.Transfer.moves g.R.RowRules.rules g.B.ByteFacts.store c.args.self.now in
    let t = state_of g.W.Partial.sets g.W.Transfer.moves g.R.RowRules.rules g.B.ByteFacts.store c.fill_since.new.self in
    let quiet = quiet_since (setting_of g.W.Partial.sets g.W.Transfer.moves g.R.RowRules.rules c.args.self.now) (told (oldest c.args.self.now.filled c.args.self.now.known.log)) (told (oldest c.args.limit c.args.self.now.known.log)) c.fill_since.new.changes.points c.requires.writings.laws c.requires.quiet c.in-Ok.ensures.some c.in-Ok.ensures.news (λ i has. back_to s t c.in-Ok.ensures.same (λ (P : Subject g.row.W.Denot) (k : Known). IsWrongTurn (along P) (told (oldest c.args.limit k.log)) i → ⊥) (c.are_right.ensures e i has)) in
    writings_since s t c.args.limit c.in-Ok.ensures.same.path c.in-Ok.ensures.same.known c.in-Ok.ensures.work c.in-Ok.ensures.limit c.held.ensures.once c.requires.since c.in-Ok.ensures.filled quiet c.requires.writings
