-- One kind of sets beside another that is never narrower: the sets that are followed by the one lie
-- in those that are followed by the other. This project's own.
use Rattle.std.specs.Prelude.{◌≡◌, ◌≤◌, ℕ, true, Some}
use Rattle.rept_isa.specs.declared.instr.Instr.{Instr}
use Rattle.rept_isa.specs.declared.row.StepRow.{StepRow}
use Rattle.rept_partial.specs.Sets.{Sets}
use Rattle.rept_span.specs.Moves.{Moves}

-- sets of one kind, and how the instructions change them
pub record Kind (W : Type 0) : Type 0 where
  pub sets : Sets W
  pub moves : Moves W

abbrev pub kind : {W : Type 0} → Sets W → Moves W → Kind W
kind sets moves = record { sets = sets; moves = moves }

-- each value of a set of the one kind is in one of the other
abbrev pub LiesIn : {V W : Type 0} → Sets V → Sets W → V → W → Type 0
LiesIn o p a b = (v : ℕ) → o.has a v ≡ true → p.has b v ≡ true

-- the first kind is never wider than the second
pub record IsFiner {V W : Type 0} (fine : Kind V) (wide : Kind W) : Type 0 where
  pub apply : (instr : Instr) (from : ℕ) (a b : V) (a' b' : W) → LiesIn fine.sets wide.sets a a' → LiesIn fine.sets wide.sets b b' → LiesIn fine.sets wide.sets (fine.moves.apply instr from a b) (wide.moves.apply instr from a' b')
  pub narrow : (row : StepRow) (a b : V) (a' b' : W) (n : V × V) → LiesIn fine.sets wide.sets a a' → LiesIn fine.sets wide.sets b b' → fine.moves.narrow row a b ≡ Some n → (n' : W × W) × (wide.moves.narrow row a' b' ≡ Some n') × LiesIn fine.sets wide.sets n.0 n'.0 × LiesIn fine.sets wide.sets n.1 n'.1
  -- nor are the bounds of its sets
  pub lower : (a : V) (b : W) → LiesIn fine.sets wide.sets a b → wide.sets.lo b ≤ fine.sets.lo a
  pub upper : (a : V) (b : W) → LiesIn fine.sets wide.sets a b → fine.sets.hi a ≤ wide.sets.hi b
