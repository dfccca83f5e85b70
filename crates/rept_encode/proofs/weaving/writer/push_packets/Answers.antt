use Rattle.rept_encode.proofs.WeavingLemmas.Weaving.{stretch_on}
use Rattle.rept_encode.proofs.weaving.writer.push_packets.Goals as goal

pub returns : goal.returns
returns c = stretch_on c.args.halves c.args.stretch.now c.args.out.now c.push_first.new.out c.push.new.self c.push_ended.new.out _ c.args.reports.now c.in_ok-push_first.ensures c.in_ok-push.ensures.ok c.in_ok-push_ended.ensures c.in_ok-push_context.ensures c.requires.tells c.requires.straight
