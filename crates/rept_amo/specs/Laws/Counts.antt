-- The lists of a row of an atomic instruction keep within their room.
use Rattle.std.proofs.Common.{ℕ, zero, suc, ◌+◌, ◌≤◌, arith, ◌++◌, length, lit≤, ◌==◌}
use Rattle.rept_isa.specs.declared.instr.AmoOp.{AmoOp}
use Rattle.rept_isa.specs.declared.instr.AmoOp.TheVariants as atomic
use Rattle.rept_partial.specs.declared.flat.Flat.{Flat}
use Rattle.rept_partial.specs.declared.flat.Flat.TheVariants.{Unknown, Known}
use Rattle.rept_reason.specs.declared.view.inferred.When.TheVariants.{Before, After}
use Rattle.rept_reason.specs.View.Seen.{Seen}
use Rattle.rept_rules.specs.Listing.{register_inferred}
use Rattle.rept_rules.specs.Needs.{register_need, both_needs, byte_needs}
use Rattle.rept_rules.specs.Laws.Lengths.{joined, wider, either_list, one_register, one_need, two_needs, some_byte_needs}
use Rattle.rept_amo.specs.declared.form.WordInferred.{WordInferred}
use Rattle.rept_amo.specs.declared.form.Form.{Form}
use Rattle.rept_amo.specs.declared.form.AtomicAccess.{AtomicAccess}
use Rattle.rept_amo.specs.Conclusions.{word_before, word_after, word_stored}
use Rattle.rept_amo.specs.Listing.{bytes_inferred, word_inferred, word_there, answer_of, read_inferred, written_inferred, source_inferred, word_back_inferred, operation_inferred, inferred_by, access_inferred}
use Rattle.rept_amo.specs.Needs.{source_needs, access_needs, needs_at}

some_bytes : (w : WordInferred) (n : ℕ) → length (bytes_inferred w n) ≤ n
some_bytes w zero = lit≤ tt
some_bytes w (suc k) = wider _ (k + 1) (suc k) (omega arith) (joined (bytes_inferred w k) _ k 1 (some_bytes w k) (lit≤ tt))

four_bytes : (place : ℕ → WordInferred) (y : Flat) → length (word_inferred place y) ≤ 4
four_bytes place Unknown = lit≤ tt
four_bytes place (Known v) = some_bytes (place v) 4

few_read : (x : AtomicAccess) (s : Seen) → length (read_inferred x s) ≤ 5
few_read x s = joined (register_inferred 19 After x.form.rd (word_there x s)) _ 1 4 (one_register 19 After x.form.rd (word_there x s)) (four_bytes (word_before 21 x.base) (answer_of x s))

few_operation : (x : AtomicAccess) (s : Seen) → length (operation_inferred x s) ≤ 14
few_operation x s =
    joined (read_inferred x s ++ written_inferred x s ++ source_inferred x s) (word_back_inferred x s) 10 4
    (joined (read_inferred x s ++ written_inferred x s) (source_inferred x s) 9 1 (joined (read_inferred x s) (written_inferred x s) 5 4 (few_read x s) (four_bytes (word_after x.base) _)) (one_register 22 Before x.form.rs2 _))
    (four_bytes (word_before 23 x.base) _)

few_by : (op : AmoOp) (x : AtomicAccess) (s : Seen) → length (inferred_by op x s) ≤ 16
few_by atomic.Lr x s = wider _ 5 16 (lit≤ tt) (few_read x s)
few_by atomic.Sc x s = wider _ 4 16 (lit≤ tt) (four_bytes (word_stored x.base) _)
few_by atomic.Swap x s = wider _ 14 16 (lit≤ tt) (few_operation x s)
few_by atomic.Add x s = wider _ 14 16 (lit≤ tt) (few_operation x s)
few_by atomic.Xor x s = wider _ 14 16 (lit≤ tt) (few_operation x s)
few_by atomic.And x s = wider _ 14 16 (lit≤ tt) (few_operation x s)
few_by atomic.Or x s = wider _ 14 16 (lit≤ tt) (few_operation x s)
few_by atomic.Min x s = wider _ 14 16 (lit≤ tt) (few_operation x s)
few_by atomic.Max x s = wider _ 14 16 (lit≤ tt) (few_operation x s)
few_by atomic.Minu x s = wider _ 14 16 (lit≤ tt) (few_operation x s)
few_by atomic.Maxu x s = wider _ 14 16 (lit≤ tt) (few_operation x s)

pub few_inferred : (form : Form) (y : Flat) (s : Seen) → length (access_inferred form y s) ≤ 16
few_inferred form Unknown s = lit≤ tt
few_inferred form (Known b) s = few_by form.op (record { form = form; base = b }) s

few_words : (op : AmoOp) (base : ℕ) → length (source_needs op base) ≤ 8
few_words atomic.Lr base = joined (byte_needs Before base 4) (byte_needs After base 4) 4 4 (some_byte_needs Before base 4) (some_byte_needs After base 4)
few_words atomic.Sc base = joined (byte_needs Before base 4) (byte_needs After base 4) 4 4 (some_byte_needs Before base 4) (some_byte_needs After base 4)
few_words atomic.Swap base = wider _ 4 8 (lit≤ tt) (some_byte_needs After base 4)
few_words atomic.Add base = joined (byte_needs Before base 4) (byte_needs After base 4) 4 4 (some_byte_needs Before base 4) (some_byte_needs After base 4)
few_words atomic.Xor base = joined (byte_needs Before base 4) (byte_needs After base 4) 4 4 (some_byte_needs Before base 4) (some_byte_needs After base 4)
few_words atomic.And base = joined (byte_needs Before base 4) (byte_needs After base 4) 4 4 (some_byte_needs Before base 4) (some_byte_needs After base 4)
few_words atomic.Or base = joined (byte_needs Before base 4) (byte_needs After base 4) 4 4 (some_byte_needs Before base 4) (some_byte_needs After base 4)
few_words atomic.Min base = joined (byte_needs Before base 4) (byte_needs After base 4) 4 4 (some_byte_needs Before base 4) (some_byte_needs After base 4)
few_words atomic.Max base = joined (byte_needs Before base 4) (byte_needs After base 4) 4 4 (some_byte_needs Before base 4) (some_byte_needs After base 4)
few_words atomic.Minu base = joined (byte_needs Before base 4) (byte_needs After base 4) 4 4 (some_byte_needs Before base 4) (some_byte_needs After base 4)
few_words atomic.Maxu base = joined (byte_needs Before base 4) (byte_needs After base 4) 4 4 (some_byte_needs Before base 4) (some_byte_needs After base 4)

few_access : (x : AtomicAccess) (rule : ℕ) → length (access_needs x rule) ≤ 10
few_access x rule =
    either_list (rule == 19) _ _ 10 (wider _ 5 10 (lit≤ tt) (joined (register_need Before x.form.rs1) (byte_needs Before x.base 4) 1 4 (one_need Before x.form.rs1) (some_byte_needs Before x.base 4)))
    (either_list (rule == 20) _ _ 10 (wider _ 6 10 (lit≤ tt) (joined (both_needs x.form.rs1 x.form.rs2) (byte_needs Before x.base 4) 2 4 (two_needs x.form.rs1 x.form.rs2) (some_byte_needs Before x.base 4)))
    (either_list (rule == 21) _ _ 10 (wider _ 2 10 (lit≤ tt) (joined (register_need Before x.form.rs1) (register_need After x.form.rd) 1 1 (one_need Before x.form.rs1) (one_need After x.form.rd)))
    (either_list (rule == 22) _ _ 10 (wider _ 9 10 (lit≤ tt) (joined (register_need Before x.form.rs1) (source_needs x.form.op x.base) 1 8 (one_need Before x.form.rs1) (few_words x.form.op x.base)))
    (either_list (rule == 23) _ _ 10 (wider _ 6 10 (lit≤ tt) (joined (both_needs x.form.rs1 x.form.rs2) (byte_needs After x.base 4) 2 4 (two_needs x.form.rs1 x.form.rs2) (some_byte_needs After x.base 4)))
    (wider _ 3 10 (lit≤ tt) (joined (both_needs x.form.rs1 x.form.rs2) (register_need After x.form.rd) 2 1 (two_needs x.form.rs1 x.form.rs2) (one_need After x.form.rd)))))))

pub few_needs : (form : Form) (y : Flat) (rule : ℕ) → length (needs_at form y rule) ≤ 10
few_needs form Unknown rule = lit≤ tt
few_needs form (Known b) rule = few_access (record { form = form; base = b }) rule
