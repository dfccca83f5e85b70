-- The conclusions of a row of an atomic instruction as a list, in the order in which they are
-- listed. What they are is told by `Conclusions`.
use Rattle.std.specs.Prelude.{ℕ, zero, suc, ◌==◌, if◌then◌else◌, Option, Some, None, List, [], ◌∷◌, ◌++◌}
use Rattle.rept_isa.specs.declared.instr.AmoOp.{AmoOp}
use Rattle.rept_isa.specs.declared.instr.AmoOp.TheVariants as atomic
use Rattle.rept_isa.specs.declared.row.StepRow.{StepRow}
use Rattle.rept_isa.specs.Operands.{unless_zero}
use Rattle.rept_partial.specs.declared.flat.Flat.{Flat}
use Rattle.rept_partial.specs.declared.flat.Flat.TheVariants.{Unknown, Known}
use Rattle.rept_machine.specs.Arithmetic.{combined}
use Rattle.rept_reason.specs.declared.view.inferred.When.TheVariants.{Before, After}
use Rattle.rept_reason.specs.declared.view.inferred.Conclusion.{Conclusion}
use Rattle.rept_reason.specs.View.Seen.{Seen}
use Rattle.rept_rules.specs.Listing.{conclusions, register_inferred, word_from, known_at, known_after}
use Rattle.rept_amo.specs.declared.form.WordInferred.{WordInferred}
use Rattle.rept_amo.specs.declared.form.Form.{Form}
use Rattle.rept_amo.specs.declared.form.AtomicAccess.{AtomicAccess}
use Rattle.rept_amo.specs.Conclusions.{byte_inferred, word_before, word_after, word_stored, undone}

-- the lowest bytes of a word
abbrev pub bytes_inferred : WordInferred → ℕ → List Conclusion
bytes_inferred w zero = []
bytes_inferred w (suc k) = bytes_inferred w k ++ byte_inferred w k ∷ []

-- the bytes of a word, where it is known
abbrev pub word_inferred : (ℕ → WordInferred) → Flat → List Conclusion
word_inferred place Unknown = []
word_inferred place (Known w) = bytes_inferred (place w) 4

-- what follows from two values, where both are known
abbrev pub from_both : (ℕ → ℕ → Flat) → Flat → Flat → Flat
from_both f Unknown b = Unknown
from_both f (Known a) Unknown = Unknown
from_both f (Known a) (Known b) = f a b

-- what is known of the word before and after the row, of the source, and of the answer
abbrev pub word_there : AtomicAccess → Seen → Flat
word_there x s = word_from (s.byte Before) x.base

abbrev pub word_left : AtomicAccess → Seen → Flat
word_left x s = word_from (s.byte After) x.base

abbrev pub source_of : AtomicAccess → Seen → Flat
source_of x s = known_at s Before x.form.rs2

abbrev pub answer_of : AtomicAccess → Seen → Flat
answer_of x s = known_after s (unless_zero x.form.rd)

-- 19 and 21
abbrev pub read_inferred : AtomicAccess → Seen → List Conclusion
read_inferred x s = register_inferred 19 After x.form.rd (word_there x s) ++ word_inferred (word_before 21 x.base) (answer_of x s)

-- 20
abbrev pub written_inferred : AtomicAccess → Seen → List Conclusion
written_inferred x s = word_inferred (word_after x.base) (from_both (λ w v. Known (combined x.form.op w v)) (word_there x s) (source_of x s))

-- 22
abbrev pub source_back : AmoOp → Flat → Flat → Flat
source_back atomic.Swap before after = after
source_back atomic.Lr before after = from_both (undone atomic.Lr) after before
source_back atomic.Sc before after = from_both (undone atomic.Sc) after before
source_back atomic.Add before after = from_both (undone atomic.Add) after before
source_back atomic.Xor before after = from_both (undone atomic.Xor) after before
source_back atomic.And before after = from_both (undone atomic.And) after before
source_back atomic.Or before after = from_both (undone atomic.Or) after before
source_back atomic.Min before after = from_both (undone atomic.Min) after before
source_back atomic.Max before after = from_both (undone atomic.Max) after before
source_back atomic.Minu before after = from_both (undone atomic.Minu) after before
source_back atomic.Maxu before after = from_both (undone atomic.Maxu) after before

abbrev pub source_inferred : AtomicAccess → Seen → List Conclusion
source_inferred x s = register_inferred 22 Before x.form.rs2 (source_back x.form.op (word_there x s) (word_left x s))

-- 23
abbrev pub word_back_inferred : AtomicAccess → Seen → List Conclusion
word_back_inferred x s = word_inferred (word_before 23 x.base) (from_both (undone x.form.op) (word_left x s) (source_of x s))

abbrev pub operation_inferred : AtomicAccess → Seen → List Conclusion
operation_inferred x s = read_inferred x s ++ written_inferred x s ++ source_inferred x s ++ word_back_inferred x s

-- 24: the source of an SC whose answer is 0
abbrev pub if_success : Flat → Flat → Flat
if_success Unknown source = Unknown
if_success (Known v) source = if v == 0 then source else Unknown

abbrev pub stored_inferred : AtomicAccess → Seen → List Conclusion
stored_inferred x s = word_inferred (word_stored x.base) (if_success (answer_of x s) (source_of x s))

abbrev pub inferred_by : AmoOp → AtomicAccess → Seen → List Conclusion
inferred_by atomic.Lr x s = read_inferred x s
inferred_by atomic.Sc x s = stored_inferred x s
inferred_by atomic.Swap x s = operation_inferred x s
inferred_by atomic.Add x s = operation_inferred x s
inferred_by atomic.Xor x s = operation_inferred x s
inferred_by atomic.And x s = operation_inferred x s
inferred_by atomic.Or x s = operation_inferred x s
inferred_by atomic.Min x s = operation_inferred x s
inferred_by atomic.Max x s = operation_inferred x s
inferred_by atomic.Minu x s = operation_inferred x s
inferred_by atomic.Maxu x s = operation_inferred x s

-- where its address is known
abbrev pub access_inferred : Form → Flat → Seen → List Conclusion
access_inferred form Unknown s = []
access_inferred form (Known b) s = inferred_by form.op (record { form = form; base = b }) s

-- a row of another instruction has the conclusions of the rules of RV32IM
abbrev pub inferred_of : Option Form → StepRow → Seen → List Conclusion
inferred_of None row s = conclusions row s
inferred_of (Some form) row s = access_inferred form (known_at s Before form.rs1) s
