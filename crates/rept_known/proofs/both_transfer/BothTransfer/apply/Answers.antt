-- Each part is what its own kind of sets says.
use Rattle.std.proofs.Common.{refl}
use Rattle.rept_known.proofs.both_transfer.BothTransfer.apply.Goals as goal

pub returns : goal.returns
returns c = rw (c.or_all.ensures, c.common.ensures, c.apply-range.ensures, c.apply-bits.ensures, c.range.ensures, c.range-2.ensures, c.bits.ensures, c.bits-2.ensures) refl
