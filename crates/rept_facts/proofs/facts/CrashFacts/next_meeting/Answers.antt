use Rattle.std.proofs.Common.{subst}
use Rattle.rept_writing.specs.Hits.{IsNextMeeting}
use Rattle.rept_facts.specs.State.{Whole}
use Rattle.rept_facts.proofs.facts.CrashFacts.next_meeting.Goals as goal

pub returns-clause-next : goal.returns-clause-next
returns-clause-next g c =
    subst (λ (x : Whole g.row.B.Denot g.row.W.Denot g.row.R.Denot). IsNextMeeting x.work.writing c.args.k (record { from = c.args.m; to = c.args.w; address = c.args.a }) c.next_meeting.result) c.self.view_is c.next_meeting.ensures
