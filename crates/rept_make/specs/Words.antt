-- The words of a made program's code.
use Rattle.std.specs.Prelude.{◌≡◌, ℕ, ◌<◌, List, length, slice_index}
use Rattle.rept_isa.specs.declared.instr.Instr.{Instr}
use Rattle.rept_isa.specs.Words.{IsWord}
use Rattle.rept_make.specs.Code.{made_instr, IsPlaced}

-- The word spells this instruction, which may stand in slot i.
pub record SpellsAt (i word : ℕ) (instr : Instr) : Type 0 where
  pub spelled : IsWord word instr
  pub placed : IsPlaced i instr

-- The words are the code of a seed.
pub record IsCode (seed : ℕ) (words : List ℕ) : Type 0 where
  pub size : length words ≡ 256
  pub spells : (i : ℕ) → i < 256 → SpellsAt i (slice_index words i) (made_instr seed i)
