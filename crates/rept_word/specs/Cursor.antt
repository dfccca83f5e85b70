-- Where a cursor stands in a payload.
use Rattle.std.specs.Prelude.{◌≡◌, ℕ, ◌+◌, ◌-◌, ◌*◌, min, List, length}
use Rattle.rept_word.specs.declared.cursor.BitCursor.{BitCursor}

-- The cursor reads this payload, and its next bit is bit number i, where every number past the end
-- means the last bit.
pub record IsAt (cursor : BitCursor) (payload : List ℕ) (i : ℕ) : Type 0 where
  pub reads : cursor.payload.now ≡ payload
  pub place : 8 * cursor.byte + cursor.bit ≡ min i (8 * length payload - 1)
