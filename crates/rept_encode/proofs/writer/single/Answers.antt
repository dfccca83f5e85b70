use Rattle.rept_encode.specs.State.{sent_rows}
use Rattle.rept_encode.proofs.Sending.{single_on}
use Rattle.rept_encode.proofs.writer.single.Goals as goal

pub returns : goal.returns
returns c = single_on (sent_rows c.args.halves c.args.rows.now) c.args.i c.index-rows-i.result c.requires.given c.requires.within c.index-rows-i.is c.requires.near c.args.sender.now c.send.new.self c.requires.stood c.in_ok-send.ensures
