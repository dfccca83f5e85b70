-- The code of a made program: 256 instructions from 0x10000 on. It is this project's own.
use Rattle.std.specs.Prelude.{◌≡◌, ◌≢◌, ℕ, ◌+◌, ◌*◌, ◌%◌, ◌≤◌, ◌==◌, nat_le, nat_lt, pos, negsuc, ◌-ℤ◌, ◌⊎◌, if◌then◌else◌}
use Rattle.rept_isa.specs.declared.instr.Instr.{Instr}
use Rattle.rept_isa.specs.declared.instr.Instr.TheVariants.{Jal, Jalr, Branch, Load, Store, Imm, Op, Ecall}
use Rattle.rept_isa.specs.declared.instr.BranchOp.TheVariants.{Beq, Bltu}
use Rattle.rept_isa.specs.declared.instr.LoadOp.TheVariants.{Lw}
use Rattle.rept_isa.specs.declared.instr.StoreOp.TheVariants.{Sb, Sw}
use Rattle.rept_isa.specs.declared.instr.ImmOp.TheVariants.{Addi, Andi, Srli}
use Rattle.rept_isa.specs.declared.instr.RegOp.TheVariants.{Add, Sub, Xor, Mul, Sltu}
use Rattle.rept_make.specs.declared.draw.Slot.{Slot}
use Rattle.rept_make.specs.Draws.{drawn_times, slot_of}

-- the instruction of a slot's draws
abbrev pub drawn_instr : Slot → Instr
drawn_instr s =
    if nat_lt s.kind 2 then Imm Addi s.target s.first (pos s.number -ℤ pos 1024)
    else if s.kind == 2 then Op Add s.target s.first s.second
    else if s.kind == 3 then Op Sub s.target s.first s.second
    else if s.kind == 4 then Op Xor s.target s.first s.second
    else if s.kind == 5 then Op Mul s.target s.first s.second
    else if s.kind == 6 then Imm Andi s.target s.first (pos s.number)
    else if s.kind == 7 then Op Sltu s.target s.first s.second
    else if s.kind == 8 then Imm Srli s.target s.first (pos (s.number % 32))
    else if s.kind == 9 then Imm Andi 21 s.first (pos 1020)
    else if s.kind == 10 then Op Add 22 20 21
    else if s.kind == 11 then Store Sw 22 s.first (pos 0)
    else if s.kind == 12 then Load Lw s.target 22 (pos 0)
    else if s.kind == 13 then Store Sb 22 s.first (pos 3)
    else if s.kind == 14 then Branch Bltu s.first s.second (pos 8)
    else Branch Beq s.first s.second (pos 8)

-- the last slot but one never branches past the end
abbrev pub straight : Slot → Slot
straight s = record s { kind = if nat_le 14 s.kind then 0 else s.kind }

-- the instruction of a slot: four stand there whatever was drawn
abbrev pub slot_instr : ℕ → Slot → Instr
slot_instr i s =
    if i == 64 then Jalr 1 23 (pos 0)
    else if i == 191 then Imm Addi 17 0 (pos 172)
    else if i == 192 then Ecall
    else if i == 255 then Jal 0 (negsuc 1019)
    else if i == 254 then drawn_instr (straight s)
    else drawn_instr s

-- the instruction of slot i of a seed's code: eleven draws go before those of the code
abbrev pub made_instr : ℕ → ℕ → Instr
made_instr seed i = slot_instr i (slot_of (drawn_times (11 + 5 * i) seed))

abbrev pub IsFree : ℕ → Type 0
IsFree rd = (5 ≤ rd) × (rd ≤ 15)

-- What a drawn instruction may be: it writes one of x5 to x15, or x21 or x22 so that x22 stays near
-- x20; it reads and writes memory at x22 alone.
abbrev pub IsTame : Instr → Type 0
IsTame (Imm op rd rs1 imm) = IsFree rd ⊎ ((op ≡ Andi) × (rd ≡ 21) × (imm ≡ pos 1020))
IsTame (Op op rd rs1 rs2) = IsFree rd ⊎ ((op ≡ Add) × (rd ≡ 22) × (rs1 ≡ 20) × (rs2 ≡ 21))
IsTame (Load op rd rs1 imm) = IsFree rd × (op ≡ Lw) × (rs1 ≡ 22) × (imm ≡ pos 0)
IsTame (Store op rs1 rs2 imm) = (rs1 ≡ 22) × (((op ≡ Sw) × (imm ≡ pos 0)) ⊎ ((op ≡ Sb) × (imm ≡ pos 3)))
IsTame (Branch op rs1 rs2 imm) = imm ≡ pos 8
IsTame _ = ⊥

-- it isn't a branch
abbrev pub IsStraight : Instr → Type 0
IsStraight (Branch op rs1 rs2 imm) = ⊥
IsStraight _ = Unit {0}

-- What stands in a slot.
pub record IsPlaced (i : ℕ) (instr : Instr) : Type 0 where
  pub jump : i ≡ 64 → instr ≡ Jalr 1 23 (pos 0)
  pub number : i ≡ 191 → instr ≡ Imm Addi 17 0 (pos 172)
  pub call : i ≡ 192 → instr ≡ Ecall
  pub back : i ≡ 255 → instr ≡ Jal 0 (negsuc 1019)
  pub tame : i ≢ 64 → i ≢ 191 → i ≢ 192 → i ≢ 255 → IsTame instr
  pub straight : i ≡ 254 → IsStraight instr
