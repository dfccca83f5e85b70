-- Files by their names, what contracts see of a file store, and what a load does.
use Rattle.std.specs.Prelude.{◌≡◌, ℕ, ◌+◌, ◌<◌, ◌≤◌, List, length, Option, None, Some, MatchOption, Result, OnOk}
use Rattle.rept_ports.specs.Causes.{Rose, next_count}
use Rattle.rept_ports.specs.declared.traits.LoadFault.{LoadFault}
use Rattle.rept_ports.specs.declared.traits.LoadFault.TheVariants as load

-- the bytes of each file by the bytes of its name
abbrev pub Files : Type 0
Files = List ℕ → Option (List ℕ)

-- The files, where the file store tells them; how many loads it was asked for, and how many of them
-- failed. Both counts are unsigned numbers of 64 bits that stay at their greatest value.
pub record Shelved : Type 0 where
  pub files : Option Files
  pub loads : ℕ
  pub faults : ℕ

-- the file of this name has more than so many bytes
abbrev pub IsOver : Files → List ℕ → ℕ → Type 0
IsOver files name limit = (bytes : List ℕ) × (files name ≡ Some bytes) × (limit < length bytes)

-- When each fault of a load may come. Where the files are told, they say so, and only a load that
-- fails is counted as a fault; where they aren't, the count of faults rose.
abbrev pub LoadFails : Shelved → Shelved → List ℕ → ℕ → LoadFault → Type 0
LoadFails old new name limit load.Failed = Rose old.faults new.faults
LoadFails old new name limit load.Missing = MatchOption old.files (Rose old.faults new.faults) (λ files. (files name ≡ None) × (new.faults ≡ old.faults))
LoadFails old new name limit load.TooLarge = MatchOption old.files (Rose old.faults new.faults) (λ files. IsOver files name limit × (new.faults ≡ old.faults))
LoadFails old new name limit load.OutOfMemory = Unit {0}

-- A load leaves the files as they are and is counted; at most one fault is counted, and none where
-- the file is loaded.
pub record Loads {T E : Type 0} (old new : Shelved) (result : Result T E) : Type 0 where
  pub files : new.files ≡ old.files
  pub loads : new.loads ≡ next_count old.loads
  pub later : old.faults ≤ new.faults
  pub once : new.faults ≤ old.faults + 1
  pub calm : OnOk result (new.faults ≡ old.faults)
