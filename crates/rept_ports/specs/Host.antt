-- Devices of the system, and the counts of their faults.
use Rattle.std.specs.Prelude.{ℕ}

pub record Counted (D : Type 0) : Type 0 where
  pub device : D
  pub faults : ℕ

-- the files of the system: how many loads were asked for, and how many failed
pub record DiskState : Type 0 where
  pub loads : ℕ
  pub faults : ℕ
