use Rattle.rept_timeline.specs.Paths.{timeline}
use Rattle.std.proofs.Common.{Some, None, sym, ◌∙◌}
use Rattle.rept_log.specs.Known.{known_of}
use Rattle.rept_facts.proofs.Following.{base_at}
use Rattle.rept_facts.proofs.facts.CrashFacts.row_base.Goals as goal

pub returns-in-Known : goal.returns-in-Known
returns-in-Known g c = base_at c.args.row.now (timeline c.args.self.now.paths).moments (known_of g.B.ByteFacts.store c.args.self.now.known) c.args.i c.in-Some.r c.known.result (Some c.in-Known.base) (sym c.reads-first.ensures.first ∙ c.in-Some.is) c.known.ensures.value c.in-Known.is

pub returns-in-Unknown : goal.returns-in-Unknown
returns-in-Unknown g c = base_at c.args.row.now (timeline c.args.self.now.paths).moments (known_of g.B.ByteFacts.store c.args.self.now.known) c.args.i c.in-Some.r c.known.result None (sym c.reads-first.ensures.first ∙ c.in-Some.is) c.known.ensures.value c.in-Unknown.is
