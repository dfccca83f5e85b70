use Rattle.std.proofs.Common.{◌∙◌}
use Rattle.rept_debug.proofs.NoticeLemmas.{line_written}
use Rattle.rept_debug.proofs.notice.notice.Goals as goal

pub returns-clause-written : goal.returns-clause-written
returns-clause-written g c =
    line_written c.args.from (g.E.Sink.port c.args.errors.now) (g.E.Sink.port c.write_all.new.sink) c.bytes.result.now c.write_all.result (c.bytes.ensures ∙ c.in_ok-text.ensures) c.write_all.ensures.ok c.write_all.ensures.err c.write_all.ensures.cause
