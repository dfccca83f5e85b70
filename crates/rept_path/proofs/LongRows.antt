-- In code of words no instruction is short.
use Rattle.std.proofs.Common.{◌≡◌, ℕ, List, false, refl}
use Rattle.rept_dump.specs.Memory.{Contents}
use Rattle.rept_path.specs.Code.{words, is_short}

pub never_short : (contents : Contents) (a : ℕ) → is_short (words contents) a ≡ false
unfolding is_short
never_short contents a = refl
