-- What contracts see of a source or a sink, and of one call of it.
use Rattle.std.specs.Prelude.{ℕ, List, Option}

-- The bytes that are left of a source, or that were written to a sink, where the port tells them;
-- and how many of its calls failed. That count is an unsigned number of 64 bits that stays at its
-- greatest value.
pub record Port : Type 0 where
  pub bytes : Option (List ℕ)
  pub faults : ℕ

-- before a call and after it
pub record PortMove (T : Type 0) : Type 0 where
  pub before : T
  pub after : T

abbrev pub move : {T : Type 0} → T → T → PortMove T
move before after = record { before = before; after = after }
