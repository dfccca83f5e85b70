-- What stands in the list of a row of an atomic instruction is what it lets one conclude.
use Rattle.std.proofs.Common.{◌≡◌, ◌≢◌, ℕ, zero, suc, ◌<◌, ◌⊎◌, inl, inr, refl, sym, ap, subst, ◌∙◌, Bool, if◌then◌else◌, arith, Option, Some, None, ◌==◌, [], ◌∷◌, ◌++◌}
use Rattle.std.specs.List.{Contains}
use Rattle.std.proofs.lemmas.List.Elements.{Contains-append_left, Contains-append_right, Contains-append_cases}
use Rattle.std.proofs.lemmas.Bool.{cases_order}
use Rattle.rept_isa.specs.declared.instr.AmoOp.{AmoOp}
use Rattle.rept_isa.specs.declared.instr.AmoOp.TheVariants as atomic
use Rattle.rept_isa.specs.declared.row.StepRow.{StepRow}
use Rattle.rept_partial.specs.declared.flat.Flat.{Flat}
use Rattle.rept_partial.specs.declared.flat.Flat.TheVariants.{Unknown, Known}
use Rattle.rept_reason.specs.declared.view.inferred.When.TheVariants.{Before, After}
use Rattle.rept_reason.specs.declared.view.inferred.Conclusion.{Conclusion}
use Rattle.rept_reason.specs.View.Seen.{Seen}
use Rattle.rept_isa.specs.Operands.{unless_zero}
use Rattle.rept_machine.specs.Arithmetic.{word_at, combined}
use Rattle.rept_reason.specs.Facts.{flat}
use Rattle.rept_rules.specs.Conclusions.{IsOnRegister, IsKnown}
use Rattle.rept_rules.specs.Listing.{register_inferred, known_at}
use Rattle.rept_rules.specs.Laws.ValueLemmas.{either_way, equal, same_some, destination, over_zero}
use Rattle.rept_rules.specs.Laws.SolveLemmas.{known, unknown}
use Rattle.rept_rules.specs.Laws.ListLemmas.{nothing, single, has_single, flat_some, some_flat, in_register, register_in, known_after_is, is_known_after, memory_of, word_is, word_there as word_from_bytes}
use Rattle.rept_amo.specs.declared.form.WordInferred.{WordInferred}
use Rattle.rept_amo.specs.declared.form.Form.{Form}
use Rattle.rept_amo.specs.declared.form.AtomicAccess.{AtomicAccess}
use Rattle.rept_amo.specs.Conclusions.{IsAtomicAccess, ReadsWord, IsOperation, form_of, byte_inferred, word_before, word_after, word_stored, undone, AtomicConcludes}
use Rattle.rept_amo.specs.Conclusions as rules
use Rattle.rept_amo.specs.Listing.{bytes_inferred, word_inferred, from_both, word_there, word_left, source_of, answer_of, read_inferred, written_inferred, source_back, source_inferred, word_back_inferred, operation_inferred, if_success, stored_inferred, inferred_by, access_inferred}

-- ---- words

in_bytes : (w : WordInferred) (n : ℕ) (d : Conclusion) → Contains (bytes_inferred w n) d → (k : ℕ) × (k < n) × (d ≡ byte_inferred w k)
in_bytes w zero d has = absurd (nothing d has)
in_bytes w (suc n) d has = elim (Contains-append_cases (bytes_inferred w n) (byte_inferred w n ∷ []) d has) [
  | inl before ↦ let i = in_bytes w n d before in (i.0, omega (arith, i.1), i.2)
  | inr last ↦ (n, omega arith, single (byte_inferred w n) d last)
]

bytes_in : (w : WordInferred) (n k : ℕ) (d : Conclusion) → k < n → d ≡ byte_inferred w k → Contains (bytes_inferred w n) d
bytes_in w zero k d below e = absurd (omega (arith, below))
bytes_in w (suc n) k d below e = elim (cases_order k n) [
  | inl is ↦ Contains-append_right (bytes_inferred w n) (byte_inferred w n ∷ []) d (has_single (byte_inferred w n) d (e ∙ ap (λ (i : ℕ). byte_inferred w i) is))
  | inr (inl less) ↦ Contains-append_left (bytes_inferred w n) (byte_inferred w n ∷ []) d (bytes_in w n k d less e)
  | inr (inr more) ↦ absurd (omega (arith, below, more))
]

in_word : (place : ℕ → WordInferred) (y : Flat) (d : Conclusion) → Contains (word_inferred place y) d → (v k : ℕ) × (y ≡ Known v) × (k < 4) × (d ≡ byte_inferred (place v) k)
in_word place Unknown d has = absurd (nothing d has)
in_word place (Known v) d has = let i = in_bytes (place v) 4 d has in (v, i.0, refl, i.1, i.2)

word_in : (place : ℕ → WordInferred) (y : Flat) (v k : ℕ) (d : Conclusion) → y ≡ Known v → k < 4 → d ≡ byte_inferred (place v) k → Contains (word_inferred place y) d
word_in place y v k d e below is = subst (λ (z : Flat). Contains (word_inferred place z) d) (sym e) (bytes_in (place v) 4 k d below is)

from_both_is : (f : ℕ → ℕ → Flat) (x y : Flat) (v : ℕ) → from_both f x y ≡ Known v → (a b : ℕ) × (x ≡ Known a) × (y ≡ Known b) × (f a b ≡ Known v)
from_both_is f Unknown y v e = absurd (unknown e)
from_both_is f (Known a) Unknown v e = absurd (unknown e)
from_both_is f (Known a) (Known b) v e = (a, b, refl, refl, e)

is_from_both : (f : ℕ → ℕ → Flat) (x y : Flat) (a b v : ℕ) → x ≡ Known a → y ≡ Known b → f a b ≡ Known v → from_both f x y ≡ Known v
is_from_both f x y a b v p q e = rw (p, q) e

if_success_is : (answer source : Flat) (v : ℕ) → if_success answer source ≡ Known v → (answer ≡ Known 0) × (source ≡ Known v)
if_success_is Unknown source v e = absurd (unknown e)
if_success_is (Known w) source v e = elim (either_way (w == 0)) [
  | inl t ↦ (ap Known (equal w 0 t), subst (λ (b : Bool). (if b then source else Unknown) ≡ Known v) t e)
  | inr f ↦ absurd (unknown (subst (λ (b : Bool). (if b then source else Unknown) ≡ Known v) f e))
]

source_back_is : (op : AmoOp) (before after : Flat) (v : ℕ) → source_back op before after ≡ Known v → ((op ≡ atomic.Swap) × (after ≡ Known v)) ⊎ (from_both (undone op) after before ≡ Known v)
source_back_is atomic.Lr before after v e = inr e
source_back_is atomic.Sc before after v e = inr e
source_back_is atomic.Swap before after v e = inl (refl, e)
source_back_is atomic.Add before after v e = inr e
source_back_is atomic.Xor before after v e = inr e
source_back_is atomic.And before after v e = inr e
source_back_is atomic.Or before after v e = inr e
source_back_is atomic.Min before after v e = inr e
source_back_is atomic.Max before after v e = inr e
source_back_is atomic.Minu before after v e = inr e
source_back_is atomic.Maxu before after v e = inr e

pub undone_operation : (op : AmoOp) (a b v : ℕ) → undone op a b ≡ Known v → IsOperation op
undone_operation atomic.Lr a b v e = absurd (unknown e)
undone_operation atomic.Sc a b v e = absurd (unknown e)
undone_operation atomic.Swap a b v e = absurd (unknown e)
undone_operation atomic.Add a b v e = tt
undone_operation atomic.Xor a b v e = tt
undone_operation atomic.And a b v e = absurd (unknown e)
undone_operation atomic.Or a b v e = absurd (unknown e)
undone_operation atomic.Min a b v e = absurd (unknown e)
undone_operation atomic.Max a b v e = absurd (unknown e)
undone_operation atomic.Minu a b v e = absurd (unknown e)
undone_operation atomic.Maxu a b v e = absurd (unknown e)

-- ---- from the list to the relation

module _ (row : StepRow) (s : Seen) (d : Conclusion) (x : AtomicAccess) (acc : IsAtomicAccess row s x) where
  read_listed : ReadsWord x.form.op → Contains (read_inferred x s) d → AtomicConcludes row s d
  read_listed reads has = elim (Contains-append_cases (register_inferred 19 After x.form.rd (word_there x s)) (word_inferred (word_before 21 x.base) (answer_of x s)) d has) [
    | inl h ↦
        let i = in_register 19 After x.form.rd (word_there x s) d h in
        let w = word_is (s.byte Before) x.base i.0 i.1 in
        rules.read x (memory_of (s.byte Before)) acc reads w.0 (subst (λ (v : ℕ). IsOnRegister d 19 After x.form.rd v) w.1 i.2)
    | inr h ↦
        let i = in_word (word_before 21 x.base) (answer_of x s) d h in
        let a = known_after_is s (unless_zero x.form.rd) i.0 i.2 in
        let to = destination x.form.rd a.0 a.1 in
        rules.read_back x i.0 i.1 acc reads to.1 (subst (λ (r : ℕ). IsKnown s After r i.0) (sym to.0) a.2) i.3 i.4
  ]

  written_listed : IsOperation x.form.op → Contains (written_inferred x s) d → AtomicConcludes row s d
  written_listed operation has =
      let i = in_word (word_after x.base) (from_both (λ w v. Known (combined x.form.op w v)) (word_there x s) (source_of x s)) d has in
      let p = from_both_is (λ w v. Known (combined x.form.op w v)) (word_there x s) (source_of x s) i.0 i.2 in
      let w = word_is (s.byte Before) x.base p.0 p.2 in
      let e : i.0 ≡ combined x.form.op (word_at (memory_of (s.byte Before)) x.base) p.1 = sym (known p.4) ∙ ap (λ (n : ℕ). combined x.form.op n p.1) w.1 in
      rules.written x (memory_of (s.byte Before)) p.1 i.1 acc operation (flat_some (s.register Before x.form.rs2) p.1 p.3) w.0 i.3 (i.4 ∙ ap (λ (n : ℕ). byte_inferred (word_after x.base n) i.1) e)

  source_listed : Contains (source_inferred x s) d → AtomicConcludes row s d
  source_listed has =
      let i = in_register 22 Before x.form.rs2 (source_back x.form.op (word_there x s) (word_left x s)) d has in
      elim (source_back_is x.form.op (word_there x s) (word_left x s) i.0 i.1) [
        | inl h ↦
            let w = word_is (s.byte After) x.base i.0 h.1 in
            rules.swapped x (memory_of (s.byte After)) acc h.0 w.0 (subst (λ (v : ℕ). IsOnRegister d 22 Before x.form.rs2 v) w.1 i.2)
        | inr h ↦
            let p = from_both_is (undone x.form.op) (word_left x s) (word_there x s) i.0 h in
            let w = word_is (s.byte After) x.base p.0 p.2 in
            let u = word_is (s.byte Before) x.base p.1 p.3 in
            rules.source x (memory_of (s.byte Before)) (memory_of (s.byte After)) i.0 acc u.0 w.0 (ap (λ (n : ℕ). undone x.form.op n (word_at (memory_of (s.byte Before)) x.base)) (sym w.1) ∙ ap (λ (n : ℕ). undone x.form.op p.0 n) (sym u.1) ∙ p.4) i.2
      ]

  word_back_listed : Contains (word_back_inferred x s) d → AtomicConcludes row s d
  word_back_listed has =
      let i = in_word (word_before 23 x.base) (from_both (undone x.form.op) (word_left x s) (source_of x s)) d has in
      let p = from_both_is (undone x.form.op) (word_left x s) (source_of x s) i.0 i.2 in
      let w = word_is (s.byte After) x.base p.0 p.2 in
      rules.word_back x (memory_of (s.byte After)) p.1 i.0 i.1 acc (flat_some (s.register Before x.form.rs2) p.1 p.3) w.0 (ap (λ (n : ℕ). undone x.form.op n p.1) (sym w.1) ∙ p.4) i.3 i.4

  operation_listed : ReadsWord x.form.op → IsOperation x.form.op → Contains (operation_inferred x s) d → AtomicConcludes row s d
  operation_listed reads operation has = elim (Contains-append_cases (read_inferred x s ++ written_inferred x s ++ source_inferred x s) (word_back_inferred x s) d has) [
    | inr h ↦ word_back_listed h
    | inl g ↦ elim (Contains-append_cases (read_inferred x s ++ written_inferred x s) (source_inferred x s) d g) [
      | inr h ↦ source_listed h
      | inl k ↦ elim (Contains-append_cases (read_inferred x s) (written_inferred x s) d k) [
        | inl h ↦ read_listed reads h
        | inr h ↦ written_listed operation h
      ]
    ]
  ]

  stored_listed : x.form.op ≡ atomic.Sc → Contains (stored_inferred x s) d → AtomicConcludes row s d
  stored_listed sc has =
      let i = in_word (word_stored x.base) (if_success (answer_of x s) (source_of x s)) d has in
      let p = if_success_is (answer_of x s) (source_of x s) i.0 i.2 in
      let a = known_after_is s (unless_zero x.form.rd) 0 p.0 in
      let to = destination x.form.rd a.0 a.1 in
      rules.stored x i.0 i.1 acc sc to.1 (flat_some (s.register Before x.form.rs2) i.0 p.1) (subst (λ (r : ℕ). IsKnown s After r 0) (sym to.0) a.2) i.3 i.4

  listed_by : (op : AmoOp) → x.form.op ≡ op → Contains (inferred_by op x s) d → AtomicConcludes row s d
  listed_by atomic.Lr e has = read_listed (subst ReadsWord (sym e) tt) has
  listed_by atomic.Sc e has = stored_listed e has
  listed_by atomic.Swap e has = operation_listed (subst ReadsWord (sym e) tt) (subst IsOperation (sym e) tt) has
  listed_by atomic.Add e has = operation_listed (subst ReadsWord (sym e) tt) (subst IsOperation (sym e) tt) has
  listed_by atomic.Xor e has = operation_listed (subst ReadsWord (sym e) tt) (subst IsOperation (sym e) tt) has
  listed_by atomic.And e has = operation_listed (subst ReadsWord (sym e) tt) (subst IsOperation (sym e) tt) has
  listed_by atomic.Or e has = operation_listed (subst ReadsWord (sym e) tt) (subst IsOperation (sym e) tt) has
  listed_by atomic.Min e has = operation_listed (subst ReadsWord (sym e) tt) (subst IsOperation (sym e) tt) has
  listed_by atomic.Max e has = operation_listed (subst ReadsWord (sym e) tt) (subst IsOperation (sym e) tt) has
  listed_by atomic.Minu e has = operation_listed (subst ReadsWord (sym e) tt) (subst IsOperation (sym e) tt) has
  listed_by atomic.Maxu e has = operation_listed (subst ReadsWord (sym e) tt) (subst IsOperation (sym e) tt) has

pub listed : (row : StepRow) (s : Seen) (d : Conclusion) (form : Form) → form_of row.instr ≡ Some form → Contains (access_inferred form (known_at s Before form.rs1) s) d → AtomicConcludes row s d
listed row s d form is has = go (s.register Before form.rs1) refl has
  where
    go : (o : Option ℕ) → s.register Before form.rs1 ≡ o → Contains (access_inferred form (flat o) s) d → AtomicConcludes row s d
    go None e h = absurd (nothing d h)
    go (Some b) e h = listed_by row s d (record { form = form; base = b }) (record { is_row = is; base = e }) form.op refl h

-- ---- from the relation to the list

reads_in : (op : AmoOp) (x : AtomicAccess) (s : Seen) (d : Conclusion) → ReadsWord op → Contains (read_inferred x s) d → Contains (inferred_by op x s) d
reads_in atomic.Lr x s d reads has = has
reads_in atomic.Sc x s d reads has = absurd reads
reads_in atomic.Swap x s d reads has = Contains-append_left (read_inferred x s ++ written_inferred x s ++ source_inferred x s) (word_back_inferred x s) d (Contains-append_left (read_inferred x s ++ written_inferred x s) (source_inferred x s) d (Contains-append_left (read_inferred x s) (written_inferred x s) d has))
reads_in atomic.Add x s d reads has = Contains-append_left (read_inferred x s ++ written_inferred x s ++ source_inferred x s) (word_back_inferred x s) d (Contains-append_left (read_inferred x s ++ written_inferred x s) (source_inferred x s) d (Contains-append_left (read_inferred x s) (written_inferred x s) d has))
reads_in atomic.Xor x s d reads has = Contains-append_left (read_inferred x s ++ written_inferred x s ++ source_inferred x s) (word_back_inferred x s) d (Contains-append_left (read_inferred x s ++ written_inferred x s) (source_inferred x s) d (Contains-append_left (read_inferred x s) (written_inferred x s) d has))
reads_in atomic.And x s d reads has = Contains-append_left (read_inferred x s ++ written_inferred x s ++ source_inferred x s) (word_back_inferred x s) d (Contains-append_left (read_inferred x s ++ written_inferred x s) (source_inferred x s) d (Contains-append_left (read_inferred x s) (written_inferred x s) d has))
reads_in atomic.Or x s d reads has = Contains-append_left (read_inferred x s ++ written_inferred x s ++ source_inferred x s) (word_back_inferred x s) d (Contains-append_left (read_inferred x s ++ written_inferred x s) (source_inferred x s) d (Contains-append_left (read_inferred x s) (written_inferred x s) d has))
reads_in atomic.Min x s d reads has = Contains-append_left (read_inferred x s ++ written_inferred x s ++ source_inferred x s) (word_back_inferred x s) d (Contains-append_left (read_inferred x s ++ written_inferred x s) (source_inferred x s) d (Contains-append_left (read_inferred x s) (written_inferred x s) d has))
reads_in atomic.Max x s d reads has = Contains-append_left (read_inferred x s ++ written_inferred x s ++ source_inferred x s) (word_back_inferred x s) d (Contains-append_left (read_inferred x s ++ written_inferred x s) (source_inferred x s) d (Contains-append_left (read_inferred x s) (written_inferred x s) d has))
reads_in atomic.Minu x s d reads has = Contains-append_left (read_inferred x s ++ written_inferred x s ++ source_inferred x s) (word_back_inferred x s) d (Contains-append_left (read_inferred x s ++ written_inferred x s) (source_inferred x s) d (Contains-append_left (read_inferred x s) (written_inferred x s) d has))
reads_in atomic.Maxu x s d reads has = Contains-append_left (read_inferred x s ++ written_inferred x s ++ source_inferred x s) (word_back_inferred x s) d (Contains-append_left (read_inferred x s ++ written_inferred x s) (source_inferred x s) d (Contains-append_left (read_inferred x s) (written_inferred x s) d has))

operation_in : (op : AmoOp) (x : AtomicAccess) (s : Seen) (d : Conclusion) → IsOperation op → Contains (operation_inferred x s) d → Contains (inferred_by op x s) d
operation_in atomic.Lr x s d operation has = absurd operation
operation_in atomic.Sc x s d operation has = absurd operation
operation_in atomic.Swap x s d operation has = has
operation_in atomic.Add x s d operation has = has
operation_in atomic.Xor x s d operation has = has
operation_in atomic.And x s d operation has = has
operation_in atomic.Or x s d operation has = has
operation_in atomic.Min x s d operation has = has
operation_in atomic.Max x s d operation has = has
operation_in atomic.Minu x s d operation has = has
operation_in atomic.Maxu x s d operation has = has

source_there : (op : AmoOp) (before after : Flat) (v : ℕ) → from_both (undone op) after before ≡ Known v → source_back op before after ≡ Known v
source_there atomic.Lr before after v e = e
source_there atomic.Sc before after v e = e
source_there atomic.Swap before after v e = absurd (unknown (let p = from_both_is (undone atomic.Swap) after before v e in p.4))
source_there atomic.Add before after v e = e
source_there atomic.Xor before after v e = e
source_there atomic.And before after v e = e
source_there atomic.Or before after v e = e
source_there atomic.Min before after v e = e
source_there atomic.Max before after v e = e
source_there atomic.Minu before after v e = e
source_there atomic.Maxu before after v e = e

module _ (row : StepRow) (s : Seen) (d : Conclusion) (form : Form) (is : form_of row.instr ≡ Some form) where
  place_in : (x : AtomicAccess) → IsAtomicAccess row s x → Contains (inferred_by x.form.op x s) d → Contains (access_inferred form (known_at s Before form.rs1) s) d
  place_in x acc has =
      let same : x.form ≡ form = same_some (sym acc.is_row ∙ is) in
      subst (λ (f : Form). Contains (access_inferred f (known_at s Before f.rs1) s) d) same
      (subst (λ (y : Flat). Contains (access_inferred x.form y s) d) (sym (some_flat (s.register Before x.form.rs1) x.base acc.base)) has)

  in_source : (x : AtomicAccess) → Contains (source_inferred x s) d → Contains (operation_inferred x s) d
  in_source x has = Contains-append_left (read_inferred x s ++ written_inferred x s ++ source_inferred x s) (word_back_inferred x s) d (Contains-append_right (read_inferred x s ++ written_inferred x s) (source_inferred x s) d has)

  answer_there : (x : AtomicAccess) (v : ℕ) → x.form.rd ≢ 0 → IsKnown s After x.form.rd v → answer_of x s ≡ Known v
  answer_there x v named e = is_known_after s (unless_zero x.form.rd) x.form.rd v (named_is x.form.rd named) e
    where
      named_is : (r : ℕ) → r ≢ 0 → unless_zero r ≡ Some r
      named_is zero h = absurd (h refl)
      named_is (suc n) h = rw (over_zero n) refl

  pub concluded : AtomicConcludes row s d → Contains (access_inferred form (known_at s Before form.rs1) s) d
  concluded (rules.read x m acc reads bytes says) =
      place_in x acc (reads_in x.form.op x s d reads (Contains-append_left (register_inferred 19 After x.form.rd (word_there x s)) (word_inferred (word_before 21 x.base) (answer_of x s)) d
      (register_in 19 After x.form.rd (word_at m x.base) (word_there x s) d (word_from_bytes (s.byte Before) x.base m bytes) says)))
  concluded (rules.written x m v k acc operation value bytes below e) =
      place_in x acc (operation_in x.form.op x s d operation (Contains-append_left (read_inferred x s ++ written_inferred x s ++ source_inferred x s) (word_back_inferred x s) d (Contains-append_left (read_inferred x s ++ written_inferred x s) (source_inferred x s) d (Contains-append_right (read_inferred x s) (written_inferred x s) d
      (word_in (word_after x.base) (from_both (λ w u. Known (combined x.form.op w u)) (word_there x s) (source_of x s)) (combined x.form.op (word_at m x.base) v) k d
      (is_from_both (λ w u. Known (combined x.form.op w u)) (word_there x s) (source_of x s) (word_at m x.base) v _ (word_from_bytes (s.byte Before) x.base m bytes) (some_flat (s.register Before x.form.rs2) v value) refl) below e)))))
  concluded (rules.read_back x v k acc reads named value below e) =
      place_in x acc (reads_in x.form.op x s d reads (Contains-append_right (register_inferred 19 After x.form.rd (word_there x s)) (word_inferred (word_before 21 x.base) (answer_of x s)) d
      (word_in (word_before 21 x.base) (answer_of x s) v k d (answer_there x v named value) below e)))
  concluded (rules.swapped x m acc swap bytes says) =
      place_in x acc (operation_in x.form.op x s d (subst IsOperation (sym swap) tt) (in_source x
      (register_in 22 Before x.form.rs2 (word_at m x.base) (source_back x.form.op (word_there x s) (word_left x s)) d (ap (λ (op : AmoOp). source_back op (word_there x s) (word_left x s)) swap ∙ word_from_bytes (s.byte After) x.base m bytes) says)))
  concluded (rules.source x m n v acc there left solved says) =
      place_in x acc (operation_in x.form.op x s d (undone_operation x.form.op (word_at n x.base) (word_at m x.base) v solved) (in_source x
      (register_in 22 Before x.form.rs2 v (source_back x.form.op (word_there x s) (word_left x s)) d (source_there x.form.op (word_there x s) (word_left x s) v
      (is_from_both (undone x.form.op) (word_left x s) (word_there x s) (word_at n x.base) (word_at m x.base) v (word_from_bytes (s.byte After) x.base n left) (word_from_bytes (s.byte Before) x.base m there) solved)) says)))
  concluded (rules.word_back x n v w k acc value left solved below e) =
      place_in x acc (operation_in x.form.op x s d (undone_operation x.form.op (word_at n x.base) v w solved) (Contains-append_right (read_inferred x s ++ written_inferred x s ++ source_inferred x s) (word_back_inferred x s) d
      (word_in (word_before 23 x.base) (from_both (undone x.form.op) (word_left x s) (source_of x s)) w k d
      (is_from_both (undone x.form.op) (word_left x s) (source_of x s) (word_at n x.base) v w (word_from_bytes (s.byte After) x.base n left) (some_flat (s.register Before x.form.rs2) v value) solved) below e)))
  concluded (rules.stored x v k acc sc named value success below e) =
      place_in x acc (subst (λ (op : AmoOp). Contains (inferred_by op x s) d) (sym sc)
      (word_in (word_stored x.base) (if_success (answer_of x s) (source_of x s)) v k d (ap (λ (y : Flat). if_success y (source_of x s)) (answer_there x 0 named success) ∙ some_flat (s.register Before x.form.rs2) v value) below e))
