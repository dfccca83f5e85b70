-- The first bytes of a trace file.
use Rattle.std.proofs.Common.{◌≡◌, ℕ, zero, suc, ◌+◌, ◌<◌, ◌≤◌, ◌==◌, ◌&&◌, nat_lt, nat_le, List, [], ◌∷◌, ◌++◌, length, slice_index, drop, Bool, cond, true, false, refl, sym, ◌∙◌, ap, subst, arith, inl, inr}
use Rattle.std.proofs.lemmas.Bool.{cases_order}
use Rattle.std.proofs.lemmas.Bool.Decides.{nat_tests}
use Rattle.rept_trace.specs.declared.header.Container.{Container}
use Rattle.rept_trace.specs.declared.header.Heading.{Heading}
use Rattle.rept_trace.specs.declared.fault.TraceFault.{TraceFault}
use Rattle.rept_trace.specs.declared.fault.TraceFault.TheVariants.{BadMagic, BadHeader, Truncated, Optional, Trap, BadSupport, StreamPastEnd, Rest}
use Rattle.rept_trace.specs.Header.{heading_of, header_bytes, is_header_byte, IsWrongByte, HasHeader, IsHeaderFault}

-- a header says one thing
pub same_halves : (a b : Bool) → ◌≡◌ {A = ℕ} (cond a 1 0) (cond b 1 0) → a ≡ b
same_halves true true e = refl
same_halves false false e = refl
same_halves true false e = absurd (omega arith)
same_halves false true e = absurd (omega arith)

same_heading : (x y : Heading) → x.count ≡ y.count → x.halves ≡ y.halves → x ≡ y
same_heading x y a b =
    let f : ℕ → Bool → Heading = λ c h. record { count = c; halves = h } in
    let e : f x.count x.halves ≡ f y.count y.halves = cc in
    e

pub one_header : (c : Container) (b : List ℕ) (x y : Heading) (r s : List ℕ) → HasHeader c b x r → HasHeader c b y s → (x ≡ y) × (r ≡ s)
one_header c b x y r s m n = by_header (sym m.layout ∙ n.layout) where
  by_header : header_bytes c x ++ r ≡ header_bytes c y ++ s → (x ≡ y) × (r ≡ s)
  by_header same =
      let count : x.count ≡ y.count = cc in
      let halves : ◌≡◌ {A = ℕ} (cond x.halves 1 0) (cond y.halves 1 0) = cc in
      let rest : r ≡ s = cc in
      (same_heading x y count (same_halves x.halves y.halves halves), rest)

-- each byte of a header may be there
is_count : (n most : ℕ) → 0 < n → n ≤ most → (nat_lt 0 n && nat_le n most) ≡ true
is_count n most some few =
    let a : nat_lt 0 n ≡ true = grind (arith, nat_tests) in
    let b : nat_le n most ≡ true = grind (arith, nat_tests) in
    rw (a, b) refl

is_digit : (n : ℕ) → (n == n) ≡ true
is_digit n = grind (arith, nat_tests)

is_flag : (halves : Bool) → nat_le (cond halves 1 0) 1 ≡ true
is_flag true = refl
is_flag false = refl

byte_of : (c : Container) (x : Heading) (r : List ℕ) → 0 < x.count → x.count ≤ c.most → (j : ℕ) → j < 8 → is_header_byte c j (slice_index (header_bytes c x ++ r) j) ≡ true
byte_of c x r some few zero lt = refl
byte_of c x r some few (suc zero) lt = refl
byte_of c x r some few (suc (suc zero)) lt = refl
byte_of c x r some few (suc (suc (suc zero))) lt = is_digit c.digit
byte_of c x r some few (suc (suc (suc (suc zero)))) lt = is_count x.count c.most some few
byte_of c x r some few (suc (suc (suc (suc (suc zero))))) lt = is_flag x.halves
byte_of c x r some few (suc (suc (suc (suc (suc (suc zero)))))) lt = refl
byte_of c x r some few (suc (suc (suc (suc (suc (suc (suc zero))))))) lt = refl
byte_of c x r some few (suc (suc (suc (suc (suc (suc (suc (suc j)))))))) lt = absurd (omega arith)

pub no_wrong_byte : (c : Container) (b : List ℕ) (x : Heading) (r : List ℕ) (i : ℕ) → HasHeader c b x r → IsWrongByte c b i → ⊥
no_wrong_byte c b x r i h w =
    let good : is_header_byte c i (slice_index b i) ≡ true = subst (λ (l : List ℕ). is_header_byte c i (slice_index l i) ≡ true) (sym h.layout) (byte_of c x r h.some h.few i w.below) in
    let bad = w.wrong in
    cc

-- bytes that may all be there are a header
same : (a n : ℕ) → (a == n) ≡ true → a ≡ n
same a n h = grind (arith, nat_tests)

counted : (n most : ℕ) → (nat_lt 0 n && nat_le n most) ≡ true → (0 < n) × (n ≤ most)
counted n most h = elim (cases_order n 0) [
  | inl e ↦ absurd (zeros e)
  | inr (inl l) ↦ absurd (omega arith)
  | inr (inr g) ↦ elim (cases_order n most) [
    | inl e ↦ (g, omega arith)
    | inr (inl l) ↦ (g, omega arith)
    | inr (inr more) ↦ absurd (large g more)
  ]
] where
  zeros : n ≡ 0 → ⊥
  zeros e = let f : nat_lt 0 n ≡ false = grind (arith, nat_tests) in let t : (false && nat_le n most) ≡ true = subst (λ (x : Bool). (x && nat_le n most) ≡ true) f h in cc

  large : 0 < n → most < n → ⊥
  large g more =
      let t : nat_lt 0 n ≡ true = grind (arith, nat_tests) in
      let f : nat_le n most ≡ false = grind (arith, nat_tests) in
      let e : (true && nat_le n most) ≡ true = subst (λ (x : Bool). (x && nat_le n most) ≡ true) t h in
      cc

flagged : (n : ℕ) → nat_le n 1 ≡ true → n ≡ cond (n == 1) 1 0
flagged zero h = refl
flagged (suc zero) h = refl
flagged (suc (suc n)) h = absurd (no h)
  where
    no : nat_le (suc (suc n)) 1 ≡ true → ⊥
    no h = let f : nat_le (suc (suc n)) 1 ≡ false = grind (arith, nat_tests) in cc

pub header_of : (c : Container) (b : List ℕ) → 8 ≤ length b → ((j : ℕ) → j < 8 → is_header_byte c j (slice_index b j) ≡ true) → HasHeader c b (heading_of (slice_index b 4) (slice_index b 5 == 1)) (drop 8 b)
header_of k [] le good = absurd (omega arith)
header_of k (a ∷ []) le good = absurd (omega arith)
header_of k (a ∷ b ∷ []) le good = absurd (omega arith)
header_of k (a ∷ b ∷ c ∷ []) le good = absurd (omega arith)
header_of k (a ∷ b ∷ c ∷ d ∷ []) le good = absurd (omega arith)
header_of k (a ∷ b ∷ c ∷ d ∷ e ∷ []) le good = absurd (omega arith)
header_of k (a ∷ b ∷ c ∷ d ∷ e ∷ f ∷ []) le good = absurd (omega arith)
header_of k (a ∷ b ∷ c ∷ d ∷ e ∷ f ∷ g ∷ []) le good = absurd (omega arith)
header_of k (a ∷ b ∷ c ∷ d ∷ e ∷ f ∷ g ∷ h ∷ rest) le good =
    let count = counted e k.most (good 4 (omega arith)) in
    let a' : a ≡ 82 = same a 82 (good 0 (omega arith)) in
    let b' : b ≡ 84 = same b 84 (good 1 (omega arith)) in
    let c' : c ≡ 82 = same c 82 (good 2 (omega arith)) in
    let d' : d ≡ k.digit = same d k.digit (good 3 (omega arith)) in
    let f' : f ≡ cond (f == 1) 1 0 = flagged f (good 5 (omega arith)) in
    let g' : g ≡ 0 = same g 0 (good 6 (omega arith)) in
    let h' : h ≡ 0 = same h 0 (good 7 (omega arith)) in
    record { some = count.0; few = count.1; layout = layout_of a' b' c' d' f' g' h' }
  where
    layout_of : a ≡ 82 → b ≡ 84 → c ≡ 82 → d ≡ k.digit → f ≡ cond (f == 1) 1 0 → g ≡ 0 → h ≡ 0 → a ∷ b ∷ c ∷ d ∷ e ∷ f ∷ g ∷ h ∷ rest ≡ 82 ∷ 84 ∷ 82 ∷ k.digit ∷ e ∷ cond (f == 1) 1 0 ∷ 0 ∷ 0 ∷ rest
    layout_of p q r s t u v = cc

-- the fault of a first wrong byte
pub wrong_header : (c : Container) (b : List ℕ) (i : ℕ) (fault : TraceFault) → IsWrongByte c b i → fault ≡ cond (nat_lt i 4) BadMagic (BadHeader i) → IsHeaderFault c b fault
wrong_header c b i fault w e = elim (cases_order i 4) [
  | inl at ↦ later (grind (arith, nat_tests)) (omega arith)
  | inr (inl l) ↦ let n : nat_lt i 4 ≡ true = grind (arith, nat_tests) in subst (λ (f : TraceFault). IsHeaderFault c b f) (sym (e ∙ ap (λ t. cond t BadMagic (BadHeader i)) n)) (inr (i, l, w))
  | inr (inr g) ↦ later (grind (arith, nat_tests)) (omega arith)
] where
  later : nat_lt i 4 ≡ false → 4 ≤ i → IsHeaderFault c b fault
  later n from = subst (λ (f : TraceFault). IsHeaderFault c b f) (sym (e ∙ ap (λ t. cond t BadMagic (BadHeader i)) n)) (from, w)

-- A header has one fault, and none where the bytes begin with the header.
one_wrong : (c : Container) (b : List ℕ) (i j : ℕ) → IsWrongByte c b i → IsWrongByte c b j → i < j → ⊥
one_wrong c b i j x y lt = let good = y.first i lt in let bad = x.wrong in cc

magic_or_byte : (c : Container) (b : List ℕ) (i : ℕ) → IsHeaderFault c b BadMagic → IsHeaderFault c b (BadHeader i) → ⊥
magic_or_byte c b i x y =
    let from = y.0 in
    let whole = (y.1).whole in
    elim x [
      | inl short ↦ omega arith
      | inr w ↦ let lt = w.1 in one_wrong c b w.0 i w.2 y.1 (omega arith)
    ]

pub one_header_fault : (c : Container) (b : List ℕ) (f g : TraceFault) → IsHeaderFault c b f → IsHeaderFault c b g → f ≡ g
one_header_fault c b BadMagic BadMagic x y = refl
one_header_fault c b BadMagic (BadHeader j) x y = absurd (magic_or_byte c b j x y)
one_header_fault c b (BadHeader i) BadMagic x y = absurd (magic_or_byte c b i y x)
one_header_fault c b (BadHeader i) (BadHeader j) x y = elim (cases_order i j) [
  | inl e ↦ ap BadHeader e
  | inr (inl l) ↦ absurd (one_wrong c b i j x.1 y.1 l)
  | inr (inr g) ↦ absurd (one_wrong c b j i y.1 x.1 g)
]
one_header_fault c b BadMagic (Truncated j) x y = elim y [ ]
one_header_fault c b BadMagic (Optional j) x y = elim y [ ]
one_header_fault c b BadMagic (Trap j) x y = elim y [ ]
one_header_fault c b BadMagic (BadSupport j) x y = elim y [ ]
one_header_fault c b BadMagic (StreamPastEnd j) x y = elim y [ ]
one_header_fault c b BadMagic (Rest j) x y = elim y [ ]
one_header_fault c b (BadHeader i) (Truncated j) x y = elim y [ ]
one_header_fault c b (BadHeader i) (Optional j) x y = elim y [ ]
one_header_fault c b (BadHeader i) (Trap j) x y = elim y [ ]
one_header_fault c b (BadHeader i) (BadSupport j) x y = elim y [ ]
one_header_fault c b (BadHeader i) (StreamPastEnd j) x y = elim y [ ]
one_header_fault c b (BadHeader i) (Rest j) x y = elim y [ ]
one_header_fault c b (Truncated k) g x y = elim x [ ]
one_header_fault c b (Optional k) g x y = elim x [ ]
one_header_fault c b (Trap k) g x y = elim x [ ]
one_header_fault c b (BadSupport k) g x y = elim x [ ]
one_header_fault c b (StreamPastEnd k) g x y = elim x [ ]
one_header_fault c b (Rest k) g x y = elim x [ ]

header_length : (c : Container) (b : List ℕ) (x : Heading) (r : List ℕ) → HasHeader c b x r → 8 ≤ length b
header_length c b x r h = let n = ap (length {A = ℕ}) h.layout in omega (arith, n)

pub no_magic : (c : Container) (b : List ℕ) (x : Heading) (r : List ℕ) → HasHeader c b x r → IsHeaderFault c b BadMagic → ⊥
no_magic c b x r h f = elim f [
  | inl short ↦ let n = header_length c b x r h in omega arith
  | inr w ↦ no_wrong_byte c b x r w.0 h w.2
]

pub no_fault : (c : Container) (b : List ℕ) (x : Heading) (r : List ℕ) (fault : TraceFault) → HasHeader c b x r → IsHeaderFault c b fault → ⊥
no_fault c b x r BadMagic h f = no_magic c b x r h f
no_fault c b x r (BadHeader i) h f = no_wrong_byte c b x r i h f.1
no_fault c b x r (Truncated k) h f = f
no_fault c b x r (Optional k) h f = f
no_fault c b x r (Trap k) h f = f
no_fault c b x r (BadSupport k) h f = f
no_fault c b x r (StreamPastEnd k) h f = f
no_fault c b x r (Rest k) h f = f

pub length_of_header : (c : Container) (b : List ℕ) (x : Heading) (r : List ℕ) → HasHeader c b x r → length b ≡ 8 + length r
length_of_header c b x r h = let n = ap (length {A = ℕ}) h.layout in omega (arith, n)
