use Rattle.rept_remote.proofs.Written.{carries}
use Rattle.rept_remote.proofs.writer.push_packet.Goals as goal

pub returns-clause-reads_back : goal.returns-clause-reads_back
returns-clause-reads_back c = carries c.args.reply.now
