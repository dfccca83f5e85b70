use Rattle.std.proofs.Common.{arith}
use Rattle.rept_report.specs.Spots.{spot}
use Rattle.rept_facts.specs.State.{state_of}
use Rattle.rept_facts.specs.Latest.{IsBegunEntry}
use Rattle.rept_facts.proofs.Newest.{none_least, none_maybe}
use Rattle.rept_facts.proofs.facts.CrashFacts.latest_writer.Goals as goal

pub no_writer-requires : goal.no_writer-requires
no_writer-requires g c = record { none = none_maybe (state_of g.W.Partial.sets g.W.Transfer.moves g.R.RowRules.rules g.B.ByteFacts.store c.args.self.now) c.requires.settled c.args.moment c.args.a (omega arith) (none_least (IsBegunEntry (spot c.args.moment c.args.a) (state_of g.W.Partial.sets g.W.Transfer.moves g.R.RowRules.rules g.B.ByteFacts.store c.args.self.now)) 0 c.next_begun.result c.in_default.not-Some c.next_begun.ensures.next) }
