-- Which bytes a row may write, by the ranges of registers around it; whether it writes all of
-- these; and how many byte facts it gives. This project's own.
use Rattle.std.specs.Prelude.{ℕ, nat_lt, ◌==◌, ◌&&◌, Bool, true, false, not, if◌then◌else◌, List, [], ◌∷◌, is_some, pos}
use Rattle.rept_isa.specs.declared.instr.Instr.{Instr}
use Rattle.rept_isa.specs.declared.instr.Instr.TheVariants.{Lui, Auipc, Jal, Jalr, Branch, Load, Store, Imm, Op, Amo, Fence, Ecall, Ebreak, Counter}
use Rattle.rept_isa.specs.declared.instr.AmoOp.{AmoOp}
use Rattle.rept_isa.specs.declared.instr.AmoOp.TheVariants as atomic
use Rattle.rept_partial.specs.declared.range.Range.{Range}
use Rattle.rept_partial.specs.declared.flat.Flat.{Flat}
use Rattle.rept_partial.specs.declared.flat.Flat.TheVariants.{Unknown, Known}
use Rattle.rept_partial.specs.Ranges.{from_to}
use Rattle.rept_machine.specs.Arithmetic.{store_width}
use Rattle.rept_alias.specs.Accesses.{hits, call_hits, access_of}
use Rattle.rept_havoc.specs.Havoc.{changed, IsExact, AreExact}
use Rattle.rept_reason.specs.declared.view.inferred.When.{When}
use Rattle.rept_reason.specs.declared.view.inferred.When.TheVariants.{Before, After}
use Rattle.rept_reason.specs.declared.view.inferred.RegisterAt.{RegisterAt}
use Rattle.rept_reason.specs.View.Seen.{Seen}
use Rattle.rept_rules.specs.Conclusions.{load_width}

-- x0 to x31
abbrev pub is_register : ℕ → Bool
is_register r = nat_lt r 32

-- the range of a register; what is no register may have any value
abbrev pub range_of : Seen → When → ℕ → Range
range_of s when r = if is_register r then s.range when r else from_to 0 4294967295

-- the only value of a range; several values count as none that is known
abbrev pub only_value : Range → Flat
only_value range = if range.lo == range.hi then Known range.lo else Unknown

-- an answer that tells that an SC failed: any value but 0
abbrev pub is_failure : Flat → Bool
is_failure Unknown = false
is_failure (Known v) = not (v == 0)

-- whether an SC is known to have failed; x0 takes no answer
abbrev pub has_failed : ℕ → Seen → Bool
has_failed rd s = if rd == 0 then false else is_failure (only_value (range_of s After rd))

-- whether an atomic instruction with this destination may write its word
abbrev pub writes_word : AmoOp → ℕ → Seen → Bool
writes_word atomic.Lr rd s = false
writes_word atomic.Sc rd s = not (has_failed rd s)
writes_word atomic.Swap rd s = true
writes_word atomic.Add rd s = true
writes_word atomic.Xor rd s = true
writes_word atomic.And rd s = true
writes_word atomic.Or rd s = true
writes_word atomic.Min rd s = true
writes_word atomic.Max rd s = true
writes_word atomic.Minu rd s = true
writes_word atomic.Maxu rd s = true

-- a store may write the bytes of its access, over the range of its base before the row; a call
-- those of the table of calls, over the ranges of its number (x17) and its arguments (x10 to x15)
-- before the row, and of its answer (x10) after it; an atomic instruction its word, over the range
-- of its address before the row, unless it is an LR or has failed; no other row writes memory
abbrev pub instr_may_write : Instr → Seen → ℕ → ℕ → Bool
instr_may_write (Store op rs1 rs2 imm) s image_end a = hits (access_of (range_of s Before rs1) imm (store_width op)) a
instr_may_write (Amo op rd rs1 rs2) s image_end a = writes_word op rd s && hits (access_of (range_of s Before rs1) (pos 0) 4) a
instr_may_write Ecall s image_end a = call_hits (changed (only_value (s.range Before 17)) (s.range Before) (s.range After 10) image_end) a
instr_may_write (Lui rd imm) s image_end a = false
instr_may_write (Auipc rd imm) s image_end a = false
instr_may_write (Jal rd imm) s image_end a = false
instr_may_write (Jalr rd rs1 imm) s image_end a = false
instr_may_write (Branch op rs1 rs2 imm) s image_end a = false
instr_may_write (Load op rd rs1 imm) s image_end a = false
instr_may_write (Imm op rd rs1 imm) s image_end a = false
instr_may_write (Op op rd rs1 rs2) s image_end a = false
instr_may_write Fence s image_end a = false
instr_may_write Ebreak s image_end a = false
instr_may_write (Counter rd csr) s image_end a = false

abbrev pub register_at : When → ℕ → RegisterAt
register_at when r = record { when = when; register = r }

-- of an atomic instruction its address, and of an SC its answer, where it has one; an LR writes
-- nothing
abbrev pub tells_atomic : AmoOp → ℕ → ℕ → List RegisterAt
tells_atomic atomic.Lr rd rs1 = []
tells_atomic atomic.Sc rd rs1 = register_at Before rs1 ∷ (if rd == 0 then [] else register_at After rd ∷ [])
tells_atomic atomic.Swap rd rs1 = register_at Before rs1 ∷ []
tells_atomic atomic.Add rd rs1 = register_at Before rs1 ∷ []
tells_atomic atomic.Xor rd rs1 = register_at Before rs1 ∷ []
tells_atomic atomic.And rd rs1 = register_at Before rs1 ∷ []
tells_atomic atomic.Or rd rs1 = register_at Before rs1 ∷ []
tells_atomic atomic.Min rd rs1 = register_at Before rs1 ∷ []
tells_atomic atomic.Max rd rs1 = register_at Before rs1 ∷ []
tells_atomic atomic.Minu rd rs1 = register_at Before rs1 ∷ []
tells_atomic atomic.Maxu rd rs1 = register_at Before rs1 ∷ []

-- The registers whose ranges tell which bytes a row may write: of a store its base; of a call its
-- number in x17, its arguments in x10 to x15, and its answer in x10 after it (RISC-V psABI).
abbrev pub tells_writes : Instr → List RegisterAt
tells_writes (Store op rs1 rs2 imm) = register_at Before rs1 ∷ []
tells_writes (Amo op rd rs1 rs2) = tells_atomic op rd rs1
tells_writes Ecall = register_at Before 17 ∷ register_at Before 10 ∷ register_at Before 11 ∷ register_at Before 12 ∷ register_at Before 13 ∷ register_at Before 14 ∷ register_at Before 15 ∷ register_at After 10 ∷ []
tells_writes (Lui rd imm) = []
tells_writes (Auipc rd imm) = []
tells_writes (Jal rd imm) = []
tells_writes (Jalr rd rs1 imm) = []
tells_writes (Branch op rs1 rs2 imm) = []
tells_writes (Load op rd rs1 imm) = []
tells_writes (Imm op rd rs1 imm) = []
tells_writes (Op op rd rs1 rs2) = []
tells_writes Fence = []
tells_writes Ebreak = []
tells_writes (Counter rd csr) = []

-- the number of a call, its arguments and its answer are known: the range of each has one value
pub record IsKnownCall (s : Seen) (register : ℕ → ℕ) (answer : ℕ) : Type 0 where
  pub number : IsExact (s.range Before 17) (register 17)
  pub arguments : AreExact (s.range Before) register
  pub answered : IsExact (s.range After 10) answer

-- a store of known base writes all of its bytes
abbrev pub instr_is_sure : Instr → Seen → Bool
instr_is_sure (Store op rs1 rs2 imm) s = is_register rs1 && is_some (s.register Before rs1)
instr_is_sure _ s = false

-- as many byte facts as the row has bytes
abbrev pub places_of : Instr → ℕ
places_of (Load op rd rs1 imm) = load_width op
places_of (Store op rs1 rs2 imm) = store_width op
places_of _ = 0
