use Rattle.std.proofs.Common.{◌≡◌, ◌+◌, ℕ, true, ap, sym, subst, arith}
use Rattle.rept_facts.specs.State.{Subject, along, state_of}
use Rattle.rept_reason.specs.Facts.{told}
use Rattle.rept_report.specs.Conflicts.{IsQuiet}
use Rattle.rept_report.specs.Log.{oldest}
use Rattle.rept_log.specs.Known.{Held, known_of}
use Rattle.rept_facts.specs.Begun.{ends_told, KnowsEnds}
use Rattle.rept_facts.proofs.Begun.{begins_like, halted_path, same_err}
use Rattle.rept_facts.proofs.Ending.{same_stop, Continues_trans, ended_after, stopped_after, halted_after, known_like, known_after}
use Rattle.rept_facts.proofs.Passing.{left_most}
use Rattle.rept_analysis.proofs.analysis.Analysis.run.Goals as goal

pub returns-in-Ok-true-clause-outcome : goal.returns-in-Ok-true-clause-outcome
returns-in-Ok-true-clause-outcome g c = ended_after (state_of g.W.Partial.sets g.W.Transfer.moves g.R.RowRules.rules g.B.ByteFacts.store c.args.self.now.propagation.facts) (state_of g.W.Partial.sets g.W.Transfer.moves g.R.RowRules.rules g.B.ByteFacts.store c.settle.new.self.propagation.facts) (state_of g.W.Partial.sets g.W.Transfer.moves g.R.RowRules.rules g.B.ByteFacts.store c.finish.new.self) (Continues_trans _ (state_of g.W.Partial.sets g.W.Transfer.moves g.R.RowRules.rules g.B.ByteFacts.store c.restart.new.self) _ c.restart.ensures.continues c.settle.ensures.continues) (known_after (state_of g.W.Partial.sets g.W.Transfer.moves g.R.RowRules.rules g.B.ByteFacts.store c.args.self.now.propagation.facts) (state_of g.W.Partial.sets g.W.Transfer.moves g.R.RowRules.rules g.B.ByteFacts.store c.restart.new.self) (state_of g.W.Partial.sets g.W.Transfer.moves g.R.RowRules.rules g.B.ByteFacts.store c.settle.new.self.propagation.facts) (known_like (state_of g.W.Partial.sets g.W.Transfer.moves g.R.RowRules.rules g.B.ByteFacts.store c.args.self.now.propagation.facts) (state_of g.W.Partial.sets g.W.Transfer.moves g.R.RowRules.rules g.B.ByteFacts.store c.restart.new.self) c.restart.ensures.continues.path (ap (λ k. known_of g.B.ByteFacts.store k) c.restart.ensures.facts)) c.settle.ensures.more) c.finish.ensures.ended

pub returns-in-Ok-false-clause-outcome : goal.returns-in-Ok-false-clause-outcome
returns-in-Ok-false-clause-outcome g c = stopped_after (state_of g.W.Partial.sets g.W.Transfer.moves g.R.RowRules.rules g.B.ByteFacts.store c.args.self.now.propagation.facts) (state_of g.W.Partial.sets g.W.Transfer.moves g.R.RowRules.rules g.B.ByteFacts.store c.settle.new.self.propagation.facts) (state_of g.W.Partial.sets g.W.Transfer.moves g.R.RowRules.rules g.B.ByteFacts.store c.stop_least.new.self.propagation.facts) c.stop_least.result (Continues_trans _ (state_of g.W.Partial.sets g.W.Transfer.moves g.R.RowRules.rules g.B.ByteFacts.store c.restart.new.self) _ c.restart.ensures.continues c.settle.ensures.continues) (known_after (state_of g.W.Partial.sets g.W.Transfer.moves g.R.RowRules.rules g.B.ByteFacts.store c.args.self.now.propagation.facts) (state_of g.W.Partial.sets g.W.Transfer.moves g.R.RowRules.rules g.B.ByteFacts.store c.restart.new.self) (state_of g.W.Partial.sets g.W.Transfer.moves g.R.RowRules.rules g.B.ByteFacts.store c.settle.new.self.propagation.facts) (known_like (state_of g.W.Partial.sets g.W.Transfer.moves g.R.RowRules.rules g.B.ByteFacts.store c.args.self.now.propagation.facts) (state_of g.W.Partial.sets g.W.Transfer.moves g.R.RowRules.rules g.B.ByteFacts.store c.restart.new.self) c.restart.ensures.continues.path (ap (λ k. known_of g.B.ByteFacts.store k) c.restart.ensures.facts)) c.settle.ensures.more) c.stop_least.ensures.ended

pub returns-in-Err-clause-outcome : goal.returns-in-Err-clause-outcome
returns-in-Err-clause-outcome g c = halted_after (state_of g.W.Partial.sets g.W.Transfer.moves g.R.RowRules.rules g.B.ByteFacts.store c.args.self.now.propagation.facts) (state_of g.W.Partial.sets g.W.Transfer.moves g.R.RowRules.rules g.B.ByteFacts.store c.settle.new.self.propagation.facts) (state_of g.W.Partial.sets g.W.Transfer.moves g.R.RowRules.rules g.B.ByteFacts.store c.stop.new.self.propagation.facts) c.stop.result (Continues_trans _ (state_of g.W.Partial.sets g.W.Transfer.moves g.R.RowRules.rules g.B.ByteFacts.store c.restart.new.self) _ c.restart.ensures.continues c.settle.ensures.continues) (known_after (state_of g.W.Partial.sets g.W.Transfer.moves g.R.RowRules.rules g.B.ByteFacts.store c.args.self.now.propagation.facts) (state_of g.W.Partial.sets g.W.Transfer.moves g.R.RowRules.rules g.B.ByteFacts.store c.restart.new.self) (state_of g.W.Partial.sets g.W.Transfer.moves g.R.RowRules.rules g.B.ByteFacts.store c.settle.new.self.propagation.facts) (known_like (state_of g.W.Partial.sets g.W.Transfer.moves g.R.RowRules.rules g.B.ByteFacts.store c.args.self.now.propagation.facts) (state_of g.W.Partial.sets g.W.Transfer.moves g.R.RowRules.rules g.B.ByteFacts.store c.restart.new.self) c.restart.ensures.continues.path (ap (λ k. known_of g.B.ByteFacts.store k) c.restart.ensures.facts)) c.settle.ensures.more) c.stop.ensures.ended

pub returns-in-Ok-true-clause-infers : goal.returns-in-Ok-true-clause-infers
returns-in-Ok-true-clause-infers g c =
    let most = left_most (state_of g.W.Partial.sets g.W.Transfer.moves g.R.RowRules.rules g.B.ByteFacts.store c.restart.new.self).work.inferred in
    let rows = c.restart.ensures.rows in
    let infers = c.restart.ensures.infers in
    let spent = c.settle.ensures.spent in
    let still = c.finish.ensures.still in
    omega (arith, most, rows, infers, spent, still)

pub returns-in-Ok-false-clause-infers : goal.returns-in-Ok-false-clause-infers
returns-in-Ok-false-clause-infers g c =
    let most = left_most (state_of g.W.Partial.sets g.W.Transfer.moves g.R.RowRules.rules g.B.ByteFacts.store c.restart.new.self).work.inferred in
    let rows = c.restart.ensures.rows in
    let infers = c.restart.ensures.infers in
    let spent = c.settle.ensures.spent in
    let still = c.stop_least.ensures.still in
    omega (arith, most, rows, infers, spent, still)

pub returns-in-Err-clause-infers : goal.returns-in-Err-clause-infers
returns-in-Err-clause-infers g c =
    let most = left_most (state_of g.W.Partial.sets g.W.Transfer.moves g.R.RowRules.rules g.B.ByteFacts.store c.restart.new.self).work.inferred in
    let rows = c.restart.ensures.rows in
    let infers = c.restart.ensures.infers in
    let spent = c.settle.ensures.spent in
    let still = c.stop.ensures.still in
    omega (arith, most, rows, infers, spent, still)

pub returns-in-Err-clause-plain : goal.returns-in-Err-clause-plain
returns-in-Err-clause-plain g c =
    let s = (state_of g.W.Partial.sets g.W.Transfer.moves g.R.RowRules.rules g.B.ByteFacts.store c.args.self.now.propagation.facts) in
    let t = (state_of g.W.Partial.sets g.W.Transfer.moves g.R.RowRules.rules g.B.ByteFacts.store c.restart.new.self) in
    let u = (state_of g.W.Partial.sets g.W.Transfer.moves g.R.RowRules.rules g.B.ByteFacts.store c.settle.new.self.propagation.facts) in
    let both = Continues_trans s t u c.restart.ensures.continues c.settle.ensures.continues in
    λ e joins lined. c.stop.ensures.plain (same_stop e) joins (subst (λ (P : Subject g.row.W.Denot). (m w : ℕ) → P.given.moments.next m w ≡ true → w ≡ m + 1) (sym both.path) lined)

pub returns-in-Ok-true-clause-begins : goal.returns-in-Ok-true-clause-begins
returns-in-Ok-true-clause-begins g c = λ h. begins_like (state_of g.W.Partial.sets g.W.Transfer.moves g.R.RowRules.rules g.B.ByteFacts.store c.settle.new.self.propagation.facts) (state_of g.W.Partial.sets g.W.Transfer.moves g.R.RowRules.rules g.B.ByteFacts.store c.finish.new.self) c.finish.ensures.ended.path c.finish.ensures.log (c.settle.ensures.begins (begins_like (state_of g.W.Partial.sets g.W.Transfer.moves g.R.RowRules.rules g.B.ByteFacts.store c.args.self.now.propagation.facts) (state_of g.W.Partial.sets g.W.Transfer.moves g.R.RowRules.rules g.B.ByteFacts.store c.restart.new.self) c.restart.ensures.continues.path (ap (λ (k : Held g.row.B.Denot). k.log) c.restart.ensures.facts) h))

pub returns-in-Ok-false-clause-begins : goal.returns-in-Ok-false-clause-begins
returns-in-Ok-false-clause-begins g c = λ h. begins_like (state_of g.W.Partial.sets g.W.Transfer.moves g.R.RowRules.rules g.B.ByteFacts.store c.settle.new.self.propagation.facts) (state_of g.W.Partial.sets g.W.Transfer.moves g.R.RowRules.rules g.B.ByteFacts.store c.stop_least.new.self.propagation.facts) c.stop_least.ensures.ended.path c.stop_least.ensures.log (c.settle.ensures.begins (begins_like (state_of g.W.Partial.sets g.W.Transfer.moves g.R.RowRules.rules g.B.ByteFacts.store c.args.self.now.propagation.facts) (state_of g.W.Partial.sets g.W.Transfer.moves g.R.RowRules.rules g.B.ByteFacts.store c.restart.new.self) c.restart.ensures.continues.path (ap (λ (k : Held g.row.B.Denot). k.log) c.restart.ensures.facts) h))

pub returns-in-Err-clause-begins : goal.returns-in-Err-clause-begins
returns-in-Err-clause-begins g c = λ h. begins_like (state_of g.W.Partial.sets g.W.Transfer.moves g.R.RowRules.rules g.B.ByteFacts.store c.settle.new.self.propagation.facts) (state_of g.W.Partial.sets g.W.Transfer.moves g.R.RowRules.rules g.B.ByteFacts.store c.stop.new.self.propagation.facts) (halted_path (state_of g.W.Partial.sets g.W.Transfer.moves g.R.RowRules.rules g.B.ByteFacts.store c.settle.new.self.propagation.facts) (state_of g.W.Partial.sets g.W.Transfer.moves g.R.RowRules.rules g.B.ByteFacts.store c.stop.new.self.propagation.facts) c.stop.result c.stop.ensures.ended) c.stop.ensures.log (c.settle.ensures.begins (begins_like (state_of g.W.Partial.sets g.W.Transfer.moves g.R.RowRules.rules g.B.ByteFacts.store c.args.self.now.propagation.facts) (state_of g.W.Partial.sets g.W.Transfer.moves g.R.RowRules.rules g.B.ByteFacts.store c.restart.new.self) c.restart.ensures.continues.path (ap (λ (k : Held g.row.B.Denot). k.log) c.restart.ensures.facts) h))

pub returns-in-Ok-false-clause-ends : goal.returns-in-Ok-false-clause-ends
returns-in-Ok-false-clause-ends g c = λ h quiet kind e.
    let both = Continues_trans (state_of g.W.Partial.sets g.W.Transfer.moves g.R.RowRules.rules g.B.ByteFacts.store c.args.self.now.propagation.facts) (state_of g.W.Partial.sets g.W.Transfer.moves g.R.RowRules.rules g.B.ByteFacts.store c.restart.new.self) (state_of g.W.Partial.sets g.W.Transfer.moves g.R.RowRules.rules g.B.ByteFacts.store c.settle.new.self.propagation.facts) c.restart.ensures.continues c.settle.ensures.continues in
    let calm = subst (λ (P : Subject g.row.W.Denot). IsQuiet (along P) (ends_told (along P))) (sym both.path) quiet in
    subst (λ (P : Subject g.row.W.Denot). KnowsEnds (along P) (told (oldest c.stop_least.new.self.propagation.facts.shown c.stop_least.new.self.propagation.facts.known.log))) both.path (c.stop_least.ensures.ends (c.settle.ensures.begins (begins_like (state_of g.W.Partial.sets g.W.Transfer.moves g.R.RowRules.rules g.B.ByteFacts.store c.args.self.now.propagation.facts) (state_of g.W.Partial.sets g.W.Transfer.moves g.R.RowRules.rules g.B.ByteFacts.store c.restart.new.self) c.restart.ensures.continues.path (ap (λ (k : Held g.row.B.Denot). k.log) c.restart.ensures.facts) h)) calm)

pub returns-in-Err-clause-ends : goal.returns-in-Err-clause-ends
returns-in-Err-clause-ends g c = λ h quiet kind e.
    let both = Continues_trans (state_of g.W.Partial.sets g.W.Transfer.moves g.R.RowRules.rules g.B.ByteFacts.store c.args.self.now.propagation.facts) (state_of g.W.Partial.sets g.W.Transfer.moves g.R.RowRules.rules g.B.ByteFacts.store c.restart.new.self) (state_of g.W.Partial.sets g.W.Transfer.moves g.R.RowRules.rules g.B.ByteFacts.store c.settle.new.self.propagation.facts) c.restart.ensures.continues c.settle.ensures.continues in
    let calm = subst (λ (P : Subject g.row.W.Denot). IsQuiet (along P) (ends_told (along P))) (sym both.path) quiet in
    subst (λ (P : Subject g.row.W.Denot). KnowsEnds (along P) (told (oldest c.stop.new.self.propagation.facts.shown c.stop.new.self.propagation.facts.known.log))) both.path (c.stop.ensures.ends ((rw c.in-Err.is at c.settle.ensures.halted) (begins_like (state_of g.W.Partial.sets g.W.Transfer.moves g.R.RowRules.rules g.B.ByteFacts.store c.args.self.now.propagation.facts) (state_of g.W.Partial.sets g.W.Transfer.moves g.R.RowRules.rules g.B.ByteFacts.store c.restart.new.self) c.restart.ensures.continues.path (ap (λ (k : Held g.row.B.Denot). k.log) c.restart.ensures.facts) h)) calm kind (same_err e))
