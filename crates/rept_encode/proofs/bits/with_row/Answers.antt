use Rattle.std.proofs.Common.{◌^◌, ◌∙◌, Bool, cond, ap}
use Rattle.rept_encode.proofs.Maps.{with_bit}
use Rattle.rept_encode.proofs.bits.with_row.Goals as goal

pub returns-clause-list : goal.returns-clause-list
returns-clause-list c =
    with_bit c.args.bits c.args.row.now c.worth-worth.result c.requires.fits
    (let e = c.is_branch.ensures in let f = c.if-not-is_branch.false in cc)
    (c.worth-worth.ensures ∙ ap (λ (b : Bool). cond b (2 ^ c.args.bits.count) 0) c.is_passed.ensures)
