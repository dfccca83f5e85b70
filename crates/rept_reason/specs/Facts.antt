-- What is known along a path, as facts and as the look-up function that a list of facts is.
use Rattle.std.specs.Prelude.{◌≡◌, ℕ, ◌<◌, ◌^◌, ◌⊎◌, Bool, false, ◌==◌, ◌&&◌, if◌then◌else◌, List, [], ◌∷◌, Option, Some, None}
use Rattle.rept_reason.specs.declared.fact.Fact.{Fact}
use Rattle.rept_reason.specs.declared.fact.Cell.{Cell}
use Rattle.rept_reason.specs.declared.fact.Cell.TheVariants.{Register, Byte}
use Rattle.rept_partial.specs.declared.flat.Flat.{Flat}
use Rattle.rept_partial.specs.declared.flat.Flat.TheVariants.{Unknown}
pub use Rattle.rept_partial.specs.Flats.{flat}

-- the value of each cell at each point, where it is known
abbrev pub Knowledge : Type 0
Knowledge = ℕ → Cell → Option ℕ

-- a cell of which something can be learnt: a register other than x0, or a byte of the address space
abbrev pub IsCell : Cell → Type 0
IsCell (Register r) = (0 < r) × (r < 32)
IsCell (Byte a) = a < 2 ^ 32

abbrev pub same_cell : Cell → Cell → Bool
same_cell (Register r) (Register s) = r == s
same_cell (Register r) (Byte a) = false
same_cell (Byte a) (Register r) = false
same_cell (Byte a) (Byte b) = a == b

-- one of the facts of a list
abbrev pub In : List Fact → Fact → Type 0
In [] f = ⊥
In (g ∷ gs) f = (f ≡ g) ⊎ In gs f

-- whether a fact speaks of this cell at this point
abbrev pub speaks : Fact → ℕ → Cell → Bool
speaks f p c = f.point == p && same_cell f.cell c

-- what a list of facts tells of a cell at a point
abbrev pub told : List Fact → Knowledge
told [] p c = None
told (f ∷ fs) p c = if speaks f p c then Some f.value else told fs p c

-- what is known of a register: x0 is 0 (RISC-V unprivileged manual, chapter 2.1)
abbrev pub register_known : Knowledge → ℕ → ℕ → Option ℕ
register_known K p r = if r == 0 then Some 0 else K p (Register r)

-- a fact on a register other than x0
abbrev pub register_fact : Knowledge → ℕ → ℕ → Option ℕ
register_fact K p r = if r == 0 then None else K p (Register r)

-- what is known at a point of the register in an operand's place; nothing where the form has no
-- such place
abbrev pub operand : Knowledge → ℕ → Option ℕ → Flat
operand K p None = Unknown
operand K p (Some r) = flat (register_known K p r)
