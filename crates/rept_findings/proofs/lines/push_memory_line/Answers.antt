use Rattle.std.proofs.Common.{◌+◌, [], ◌∷◌, codes}
use Rattle.std.specs.List.{flat_map, range_with_len}
use Rattle.rept_word.specs.Hex.{hex_word}
use Rattle.rept_findings.specs.Texts.{byte_piece, wrapped}
use Rattle.rept_findings.proofs.TextLemmas.{four_pieces}
use Rattle.rept_findings.proofs.lines.push_memory_line.Goals as goal

pub returns : goal.returns
returns g c =
    four_pieces c.args.text.now (hex_word c.args.address) (codes ":")
    (flat_map (λ i. byte_piece (g.F.Findings.shown c.args.findings.now) c.args.moment (wrapped (c.args.address + i))) (range_with_len 0 c.args.count)) (10 ∷ [])
    c.push_word.new.self c.push.new.self c.push_bytes.new.text c.push-2.new.self
    c.in_ok-push_word.ensures.ok c.in_ok-push.ensures.ok c.in_ok-push_bytes.ensures c.in_ok-push-2.ensures.ok
