-- Steps that a hart executes one after another: the next one stands at the address that its pc has
-- after the step before (RISC-V unprivileged manual 20191213, chapter 2.1: the pc holds the address
-- of the current instruction).
use Rattle.std.specs.Prelude.{◌≡◌, ℕ, List, [], ◌∷◌}
use Rattle.rept_isa.specs.declared.row.StepRow.{StepRow}

-- The first of the steps, if there is one, stands at the address.
abbrev pub BeginAt : List StepRow → ℕ → Type 0
BeginAt [] a = Unit {0}
BeginAt (row ∷ rows) a = row.at ≡ a

-- Each step leads to the one after it.
abbrev pub AreLinked : List StepRow → Type 0
AreLinked [] = Unit {0}
AreLinked (row ∷ rows) = BeginAt rows row.next × AreLinked rows

-- The last of the steps, if there is one, leads to the address.
abbrev pub EndBefore : List StepRow → ℕ → Type 0
EndBefore [] a = Unit {0}
EndBefore (row ∷ []) a = row.next ≡ a
EndBefore (row ∷ (other ∷ rows)) a = EndBefore (other ∷ rows) a
