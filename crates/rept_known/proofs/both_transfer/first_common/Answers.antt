-- What the range and the first operand's bits have in common.
use Rattle.std.proofs.Common.{ap, sym, ◌∙◌}
use Rattle.rept_known.specs.Both.{reduced}
use Rattle.rept_known.specs.BothMoves.{with_second, first_common}
use Rattle.rept_known.proofs.both_transfer.first_common.Goals as goal

pub returns-in-Some-common : goal.returns-in-Some-common
returns-in-Some-common c =
    ap (λ z. with_second c.args.b z) (c.in-Some-common.ensures ∙ ap (λ n. reduced c.in-Some.range n) c.bits.ensures)
    ∙ sym (ap (λ z. first_common z c.args.a c.args.b) c.in-Some.is)
