use Rattle.std.specs.Prelude.{codes}
use Rattle.rept_stub.specs.Replies.{big_word}
use Rattle.rept_stub.proofs.Bytes.{framed}
use Rattle.rept_stub.proofs.pieces.push_named.Goals as goal

pub returns : goal.returns
returns c = framed c.args.text.now c.args.name.now (big_word c.args.value) (codes ";") c.push.new.self c.push_big.new.text c.push-2.new.self c.in_ok-push.ensures.ok c.in_ok-push_big.ensures c.in_ok-push-2.ensures.ok
