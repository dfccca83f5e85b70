use Rattle.rept_timeline.specs.Paths.{timeline}
use Rattle.std.proofs.Common.{sym, ◌∙◌}
use Rattle.rept_log.specs.Known.{known_of}
use Rattle.rept_facts.proofs.Following.{row_bytes}
use Rattle.rept_facts.proofs.facts.CrashFacts.row_byte_cells.Goals as goal

pub returns-in-Some-clause-value : goal.returns-in-Some-clause-value
returns-in-Some-clause-value g c = row_bytes g.R.RowRules.rules c.args.row.now (timeline c.args.self.now.paths).moments (known_of g.B.ByteFacts.store c.args.self.now.known) c.args.i c.in-Some.base c.address.result c.min-count.result c.byte_cells_from.result (sym c.row_base.ensures ∙ c.in-Some.is) c.address.ensures (rw c.places.ensures.value at c.min-count.ensures) c.byte_cells_from.ensures.value
