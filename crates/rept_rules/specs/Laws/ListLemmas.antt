-- What stands in the lists of conclusions.
use Rattle.std.proofs.Common.{◌≡◌, ℕ, zero, suc, ◌+◌, ◌*◌, ◌<◌, ◌^◌, ◌⊎◌, true, inl, inr, refl, sym, ap, subst, ◌∙◌, Bool, if◌then◌else◌, arith, Option, Some, None, [], ◌∷◌, ℤ, lit<}
use Rattle.std.specs.Prelude.{unwrap_or}
use Rattle.std.specs.List.{Contains}
use Rattle.std.proofs.lemmas.List.Elements.{Contains-append_left, Contains-append_right, Contains-append_cases}
use Rattle.std.proofs.lemmas.Bool.{cases_order}
use Rattle.rept_isa.specs.declared.instr.LoadOp.{LoadOp}
use Rattle.rept_isa.specs.declared.instr.LoadOp.TheVariants.{Lb, Lh, Lw, Lbu, Lhu}
use Rattle.rept_isa.specs.Numbers.{plus, beside}
use Rattle.rept_partial.specs.declared.flat.Flat.{Flat}
use Rattle.rept_partial.specs.declared.flat.Flat.TheVariants.{Unknown, Known}
use Rattle.rept_machine.specs.Arithmetic.{loaded, half_at, word_at, extended}
use Rattle.rept_reason.specs.Facts.{flat}
use Rattle.rept_reason.specs.declared.view.inferred.When.{When}
use Rattle.rept_reason.specs.declared.view.inferred.When.TheVariants.{After}
use Rattle.rept_reason.specs.declared.view.inferred.Conclusion.{Conclusion}
use Rattle.rept_reason.specs.View.Seen.{Seen}
use Rattle.rept_rules.specs.Conclusions.{IsOnRegister, on_register, on_byte, load_width}
use Rattle.rept_rules.specs.Listing.{is_named, register_inferred, some_inferred, bytes_inferred, known_bytes_inferred, two_bytes, four_bytes, half_from, word_from, extended_from, loaded_from, at_known, known_after}
use Rattle.rept_rules.specs.Laws.ValueLemmas.{either_way}
use Rattle.rept_rules.specs.Laws.SolveLemmas.{known, unknown}

pub nothing : {X : Type 0} (d : X) → Contains [] d → ⊥
nothing d (k, lt, e) = omega (arith, lt)

pub single : {X : Type 0} (x d : X) → Contains (x ∷ []) d → d ≡ x
single x d (zero, lt, e) = sym e
single x d (suc k, lt, e) = absurd (omega (arith, lt))

pub has_single : {X : Type 0} (x d : X) → d ≡ x → Contains (x ∷ []) d
has_single x d e = (0, lit< tt, sym e)

-- a value that is known
pub flat_some : (x : Option ℕ) (v : ℕ) → flat x ≡ Known v → x ≡ Some v
flat_some None v e = absurd (unknown e)
flat_some (Some w) v e = ap Some (known e)

pub some_flat : (x : Option ℕ) (v : ℕ) → x ≡ Some v → flat x ≡ Known v
some_flat x v e = ap flat e

named : (r : ℕ) → is_named r ≡ true → (0 < r) × (r < 32)
named r t = (grind (arith, t), grind (arith, t))

is_named_by : (r : ℕ) → 0 < r → r < 32 → is_named r ≡ true
is_named_by r some few = grind (arith, some, few)

-- a conclusion on a register
pub in_register : (rule : ℕ) (when : When) (r : ℕ) (x : Flat) (d : Conclusion) → Contains (register_inferred rule when r x) d → (v : ℕ) × (x ≡ Known v) × IsOnRegister d rule when r v
in_register rule when r Unknown d has = absurd (nothing d has)
in_register rule when r (Known v) d has = elim (either_way (is_named r)) [
  | inl t ↦ let n = named r t in (v, refl, record { named = n.0; in_file = n.1; is = single (on_register rule when r v) d (subst (λ (b : Bool). Contains (if b then on_register rule when r v ∷ [] else []) d) t has) })
  | inr f ↦ absurd (nothing d (subst (λ (b : Bool). Contains (if b then on_register rule when r v ∷ [] else []) d) f has))
]

pub register_in : (rule : ℕ) (when : When) (r v : ℕ) (x : Flat) (d : Conclusion) → x ≡ Known v → IsOnRegister d rule when r v → Contains (register_inferred rule when r x) d
register_in rule when r v x d e says =
    subst (λ (y : Flat). Contains (register_inferred rule when r y) d) (sym e) (subst (λ (b : Bool). Contains (if b then on_register rule when r v ∷ [] else []) d) (sym (is_named_by r says.named says.in_file)) (has_single (on_register rule when r v) d says.is))

pub in_some : (rule : ℕ) (when : When) (o : Option ℕ) (x : Flat) (d : Conclusion) → Contains (some_inferred rule when o x) d → (r v : ℕ) × (o ≡ Some r) × (x ≡ Known v) × IsOnRegister d rule when r v
in_some rule when None x d has = absurd (nothing d has)
in_some rule when (Some r) x d has = let i = in_register rule when r x d has in (r, i.0, refl, i.1, i.2)

pub some_in : (rule : ℕ) (when : When) (r v : ℕ) (o : Option ℕ) (x : Flat) (d : Conclusion) → o ≡ Some r → x ≡ Known v → IsOnRegister d rule when r v → Contains (some_inferred rule when o x) d
some_in rule when r v o x d named e says = subst (λ (y : Option ℕ). Contains (some_inferred rule when y x) d) (sym named) (register_in rule when r v x d e says)

-- conclusions on bytes
pub in_bytes : (rule : ℕ) (when : When) (base v width : ℕ) (d : Conclusion) → Contains (bytes_inferred rule when base v width) d → (k : ℕ) × (k < width) × (d ≡ on_byte rule when base v k)
in_bytes rule when base v zero d has = absurd (nothing d has)
in_bytes rule when base v (suc n) d has = elim (Contains-append_cases (bytes_inferred rule when base v n) (on_byte rule when base v n ∷ []) d has) [
  | inl before ↦ let i = in_bytes rule when base v n d before in (i.0, omega (arith, i.1), i.2)
  | inr last ↦ (n, omega arith, single (on_byte rule when base v n) d last)
]

pub bytes_in : (rule : ℕ) (when : When) (base v width k : ℕ) (d : Conclusion) → k < width → d ≡ on_byte rule when base v k → Contains (bytes_inferred rule when base v width) d
bytes_in rule when base v zero k d below e = absurd (omega (arith, below))
bytes_in rule when base v (suc n) k d below e = elim (last_or k n below) [
  | inl is ↦ Contains-append_right (bytes_inferred rule when base v n) (on_byte rule when base v n ∷ []) d (has_single (on_byte rule when base v n) d (e ∙ ap (λ (i : ℕ). on_byte rule when base v i) is))
  | inr less ↦ Contains-append_left (bytes_inferred rule when base v n) (on_byte rule when base v n ∷ []) d (bytes_in rule when base v n k d less e)
]
  where
    last_or : (k n : ℕ) → k < suc n → (k ≡ n) ⊎ (k < n)
    last_or k n h = elim (cases_order k n) [ inl e ↦ inl e | inr (inl l) ↦ inr l | inr (inr g) ↦ absurd (omega arith) ]

pub in_known_bytes : (rule : ℕ) (when : When) (x : Flat) (imm : ℤ) (y : Flat) (width : ℕ) (d : Conclusion) → Contains (known_bytes_inferred rule when x imm y width) d → (b v k : ℕ) × (x ≡ Known b) × (y ≡ Known v) × (k < width) × (d ≡ on_byte rule when (plus b imm) v k)
in_known_bytes rule when Unknown imm y width d has = absurd (nothing d has)
in_known_bytes rule when (Known b) imm Unknown width d has = absurd (nothing d has)
in_known_bytes rule when (Known b) imm (Known v) width d has = let i = in_bytes rule when (plus b imm) v width d has in (b, v, i.0, refl, refl, i.1, i.2)

pub known_bytes_in : (rule : ℕ) (when : When) (x : Flat) (imm : ℤ) (y : Flat) (width b v k : ℕ) (d : Conclusion) → x ≡ Known b → y ≡ Known v → k < width → d ≡ on_byte rule when (plus b imm) v k → Contains (known_bytes_inferred rule when x imm y width) d
known_bytes_in rule when x imm y width b v k d e f below is = subst (λ (z : Flat). Contains (known_bytes_inferred rule when z imm y width) d) (sym e) (subst (λ (z : Flat). Contains (known_bytes_inferred rule when (Known b) imm z width) d) (sym f) (bytes_in rule when (plus b imm) v width k d below is))

-- what is known at a known base
pub at_known_is : (x : Flat) (imm : ℤ) (f : ℕ → Flat) (v : ℕ) → at_known x imm f ≡ Known v → (b : ℕ) × (x ≡ Known b) × (f (plus b imm) ≡ Known v)
at_known_is Unknown imm f v e = absurd (unknown e)
at_known_is (Known b) imm f v e = (b, refl, e)

pub known_after_is : (s : Seen) (o : Option ℕ) (v : ℕ) → known_after s o ≡ Known v → (rd : ℕ) × (o ≡ Some rd) × (s.register After rd ≡ Some v)
known_after_is s None v e = absurd (unknown e)
known_after_is s (Some rd) v e = (rd, refl, flat_some (s.register After rd) v e)

pub is_known_after : (s : Seen) (o : Option ℕ) (rd v : ℕ) → o ≡ Some rd → s.register After rd ≡ Some v → known_after s o ≡ Known v
is_known_after s o rd v named e = ap (known_after s) named ∙ some_flat (s.register After rd) v e

-- the bytes that are known, as a memory
abbrev pub memory_of : (ℕ → Option ℕ) → ℕ → ℕ
memory_of byte a = unwrap_or (byte a) 0

abbrev pub AreThere : (ℕ → Option ℕ) → ℕ → ℕ → (ℕ → ℕ) → Type 0
AreThere byte base width memory = (k : ℕ) → k < width → byte (beside base k) ≡ Some (memory (beside base k))

there : (byte : ℕ → Option ℕ) (a v : ℕ) → byte a ≡ Some v → byte a ≡ Some (memory_of byte a)
there byte a v e = e ∙ ap (λ (x : Option ℕ). Some (unwrap_or x 0)) (sym e)

reads : (byte : ℕ → Option ℕ) (a v : ℕ) → byte a ≡ Some v → v ≡ memory_of byte a
reads byte a v e = sym (ap (λ (x : Option ℕ). unwrap_or x 0) e)

-- one byte
record One (x : Option ℕ) (v : ℕ) : Type 0 where
  first : x ≡ Some v

record Two (x y : Option ℕ) (v : ℕ) : Type 0 where
  a : ℕ
  b : ℕ
  first : x ≡ Some a
  second : y ≡ Some b
  sum : v ≡ a + 2 ^ 8 * b

two : (x y : Option ℕ) (v : ℕ) → two_bytes x y ≡ Known v → Two x y v
two (Some a) (Some b) v e = record { a = a; b = b; first = refl; second = refl; sum = sym (known e) }
two (Some a) None v e = absurd (unknown e)
two None y v e = absurd (unknown e)

record Four (x y z w : Option ℕ) (v : ℕ) : Type 0 where
  a : ℕ
  b : ℕ
  c : ℕ
  d : ℕ
  first : x ≡ Some a
  second : y ≡ Some b
  third : z ≡ Some c
  fourth : w ≡ Some d
  sum : v ≡ a + 2 ^ 8 * b + 2 ^ 16 * c + 2 ^ 24 * d

four : (x y z w : Option ℕ) (v : ℕ) → four_bytes x y z w ≡ Known v → Four x y z w v
four (Some a) (Some b) (Some c) (Some d) v e = record { a = a; b = b; c = c; d = d; first = refl; second = refl; third = refl; fourth = refl; sum = sym (known e) }
four (Some a) (Some b) (Some c) None v e = absurd (unknown e)
four (Some a) (Some b) None w v e = absurd (unknown e)
four (Some a) None z w v e = absurd (unknown e)
four None y z w v e = absurd (unknown e)

extended_is : (width : ℕ) (x : Flat) (v : ℕ) → extended_from width x ≡ Known v → (n : ℕ) × (x ≡ Known n) × (v ≡ extended width n)
extended_is width Unknown v e = absurd (unknown e)
extended_is width (Known n) v e = (n, refl, sym (known e))

below_one : (byte : ℕ → Option ℕ) (base a : ℕ) → byte (beside base 0) ≡ Some a → AreThere byte base 1 (memory_of byte)
below_one byte base a e zero h = there byte (beside base 0) a e
below_one byte base a e (suc k) h = absurd (omega (arith, h))

below_two : (byte : ℕ → Option ℕ) (base v : ℕ) → Two (byte (beside base 0)) (byte (beside base 1)) v → AreThere byte base 2 (memory_of byte)
below_two byte base v t zero h = there byte (beside base 0) t.a t.first
below_two byte base v t (suc zero) h = there byte (beside base 1) t.b t.second
below_two byte base v t (suc (suc k)) h = absurd (omega (arith, h))

below_four : (byte : ℕ → Option ℕ) (base v : ℕ) → Four (byte (beside base 0)) (byte (beside base 1)) (byte (beside base 2)) (byte (beside base 3)) v → AreThere byte base 4 (memory_of byte)
below_four byte base v t zero h = there byte (beside base 0) t.a t.first
below_four byte base v t (suc zero) h = there byte (beside base 1) t.b t.second
below_four byte base v t (suc (suc zero)) h = there byte (beside base 2) t.c t.third
below_four byte base v t (suc (suc (suc zero))) h = there byte (beside base 3) t.d t.fourth
below_four byte base v t (suc (suc (suc (suc k)))) h = absurd (omega (arith, h))

half_is : (byte : ℕ → Option ℕ) (base v : ℕ) → Two (byte (beside base 0)) (byte (beside base 1)) v → v ≡ half_at (memory_of byte) base
half_is byte base v t = t.sum ∙ ap (λ (x : ℕ). x + 2 ^ 8 * t.b) (reads byte (beside base 0) t.a t.first) ∙ ap (λ (x : ℕ). memory_of byte (beside base 0) + 2 ^ 8 * x) (reads byte (beside base 1) t.b t.second)

pub word_is : (byte : ℕ → Option ℕ) (base v : ℕ) → word_from byte base ≡ Known v → AreThere byte base 4 (memory_of byte) × (v ≡ word_at (memory_of byte) base)
word_is byte base v e =
    let t = four (byte (beside base 0)) (byte (beside base 1)) (byte (beside base 2)) (byte (beside base 3)) v e in
    let p = reads byte (beside base 0) t.a t.first in
    let q = reads byte (beside base 1) t.b t.second in
    let r = reads byte (beside base 2) t.c t.third in
    let s = reads byte (beside base 3) t.d t.fourth in
    (below_four byte base v t, omega (arith, t.sum, p, q, r, s))

-- what a load puts into its register is told by the bytes that are known
pub loaded_is : (op : LoadOp) (byte : ℕ → Option ℕ) (base v : ℕ) → loaded_from op byte base ≡ Known v → AreThere byte base (load_width op) (memory_of byte) × (v ≡ loaded op (memory_of byte) base)
loaded_is Lb byte base v e =
    let x = extended_is 8 (flat (byte (beside base 0))) v e in
    let f = flat_some (byte (beside base 0)) x.0 x.1 in
    (below_one byte base x.0 f, x.2 ∙ ap (extended 8) (reads byte (beside base 0) x.0 f))
loaded_is Lh byte base v e =
    let x = extended_is 16 (half_from byte base) v e in
    let t = two (byte (beside base 0)) (byte (beside base 1)) x.0 x.1 in
    (below_two byte base x.0 t, x.2 ∙ ap (extended 16) (half_is byte base x.0 t))
loaded_is Lw byte base v e = word_is byte base v e
loaded_is Lbu byte base v e = let f = flat_some (byte (beside base 0)) v e in (below_one byte base v f, reads byte (beside base 0) v f)
loaded_is Lhu byte base v e = let t = two (byte (beside base 0)) (byte (beside base 1)) v e in (below_two byte base v t, half_is byte base v t)

-- and the other way round
pub word_there : (byte : ℕ → Option ℕ) (base : ℕ) (memory : ℕ → ℕ) → AreThere byte base 4 memory → word_from byte base ≡ Known (word_at memory base)
word_there byte base memory h =
    let p = h 0 (lit< tt) in
    let q = h 1 (lit< tt) in
    let r = h 2 (lit< tt) in
    let s = h 3 (lit< tt) in
    rw (p, q, r, s) refl

half_there : (byte : ℕ → Option ℕ) (base : ℕ) (memory : ℕ → ℕ) → AreThere byte base 2 memory → half_from byte base ≡ Known (half_at memory base)
half_there byte base memory h =
    let p = h 0 (lit< tt) in
    let q = h 1 (lit< tt) in
    rw (p, q) refl

pub loaded_there : (op : LoadOp) (byte : ℕ → Option ℕ) (base : ℕ) (memory : ℕ → ℕ) → AreThere byte base (load_width op) memory → loaded_from op byte base ≡ Known (loaded op memory base)
loaded_there Lb byte base memory h = ap (λ (x : Option ℕ). extended_from 8 (flat x)) (h 0 (lit< tt))
loaded_there Lh byte base memory h = ap (extended_from 16) (half_there byte base memory h)
loaded_there Lw byte base memory h = word_there byte base memory h
loaded_there Lbu byte base memory h = ap flat (h 0 (lit< tt))
loaded_there Lhu byte base memory h = half_there byte base memory h
