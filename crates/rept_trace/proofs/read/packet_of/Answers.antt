use Rattle.std.proofs.Common.{sym, ◌∙◌}
use Rattle.rept_trace.proofs.read.packet_of.Goals as goal

pub returns-in-1 : goal.returns-in-1
returns-in-1 c =
    let at = c.take.ensures.at c.args.payload.now 0 c.new-cursor.ensures in
    c.branches.ensures c.args.payload.now at (sym (c.take.ensures.value c.args.payload.now 0 c.new-cursor.ensures) ∙ c.in-1.is)
