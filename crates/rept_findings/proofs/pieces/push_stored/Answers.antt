use Rattle.rept_word.specs.Hex.{hex_byte, hex_word}
use Rattle.std.proofs.Common.{codes}
use Rattle.rept_findings.proofs.TextLemmas.{three_pieces}
use Rattle.rept_findings.proofs.pieces.push_stored.Goals as goal

pub returns : goal.returns
returns c =
    three_pieces c.args.text.now (hex_word c.args.address) (codes " ") (hex_byte c.args.byte) c.push_word.new.self c.push.new.self c.push_byte.new.self
    c.in_ok-push_word.ensures.ok c.in_ok-push.ensures.ok c.in_ok-push_byte.ensures.ok
