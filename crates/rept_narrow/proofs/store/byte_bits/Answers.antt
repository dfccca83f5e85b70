use Rattle.std.proofs.Common.{◌≡◌, ◌∙◌, to_z, of_z, w32, rules}
use Rattle.rept_narrow.proofs.Placing.{byte_known}
use Rattle.rept_narrow.proofs.store.byte_bits.Goals as goal

pub returns : goal.returns
returns c =
    let read : to_z w32 (of_z w32 c.shift_of.result) ≡ c.shift_of.result = search rules in
    byte_known c.args.value c.apply-shifted.result c.apply.result c.args.k (to_z w32 (of_z w32 c.shift_of.result)) c.requires (read ∙ c.shift_of.ensures) c.apply-shifted.ensures c.apply.ensures
