-- The bytes of a map from addresses to bytes: an address without an entry reads 0.
use Rattle.std.specs.Prelude.{ℕ, ◌<◌, ◌^◌, unwrap_or}
use Rattle.std.specs.Ordering.{nat_cmp}
use Rattle.std.specs.BTreeMap.{get, BTreeMap}

abbrev pub byte_in : BTreeMap ℕ ℕ → ℕ → ℕ
byte_in bytes a = unwrap_or (get nat_cmp bytes a) 0

-- each is a byte
abbrev pub AreBytes : BTreeMap ℕ ℕ → Type 0
AreBytes bytes = (a : ℕ) → byte_in bytes a < 2 ^ 8
