use Rattle.std.proofs.Common.{codes}
use Rattle.rept_word.specs.Hex.{hex_word}
use Rattle.rept_findings.proofs.TextLemmas.{four_pieces}
use Rattle.rept_findings.proofs.pieces.push_bits.Goals as goal

pub returns : goal.returns
returns c =
    four_pieces c.args.text.now (codes " known ") (hex_word c.args.mask) (codes " value ") (hex_word c.args.value)
    c.push.new.self c.push_word.new.self c.push-2.new.self c.push_word-2.new.self
    c.in_ok-push.ensures.ok c.in_ok-push_word.ensures.ok c.in_ok-push-2.ensures.ok c.in_ok-push_word-2.ensures.ok
