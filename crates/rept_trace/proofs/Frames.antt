-- What comes next in the bytes is one thing.
use Rattle.std.proofs.Common.{◌≡◌, ℕ, zero, suc, ◌<◌, ◌≤◌, List, [], ◌∷◌, ◌++◌, length, replicate, take, drop, Option, Some, None, Result, Ok, Err, refl, sym, ◌∙◌, ap, subst, arith, length-append, length-take, ◌⊎◌, inl, inr}
use Rattle.std.proofs.lemmas.List.{take-append-drop}
use Rattle.rept_trace.specs.declared.packet.Packet.{Packet}
use Rattle.rept_trace.specs.declared.fault.TraceFault.{TraceFault}
use Rattle.rept_trace.specs.declared.fault.TraceFault.TheVariants.{BadMagic, BadHeader, Truncated, Optional, Trap, BadSupport, StreamPastEnd, Rest}
use Rattle.rept_trace.specs.Grammar.{Spells}
use Rattle.rept_trace.specs.declared.parameters.Parameters.{Parameters}
use Rattle.rept_trace.specs.Stream.{Stream, AreAfterZeros, IsFrame, IsStreamEnded, IsCutShort, FailsNext, Begins, AnswersNext}
use Rattle.rept_trace.proofs.Reading.{one_spelling}

-- the list is empty or its first number is above 0
abbrev pub StartsAboveZero : List ℕ → Type 0
StartsAboveZero xs = (size : ℕ) (others : List ℕ) → xs ≡ size ∷ others → 0 < size

above_none : StartsAboveZero []
above_none size others h = absurd (cc)

above_some : (n : ℕ) (xs : List ℕ) → 0 < n → StartsAboveZero (n ∷ xs)
above_some n xs some size others h = let e : n ≡ size = cc in omega arith

not_above : (xs : List ℕ) → StartsAboveZero (0 ∷ xs) → ⊥
not_above xs h = let lt = h 0 xs refl in omega arith

-- one more zero
pub zero_more : (bytes others : List ℕ) → AreAfterZeros bytes (0 ∷ others) → AreAfterZeros bytes others
zero_more bytes others a = record { zeros = suc a.zeros; layout = a.layout ∙ slide a.zeros } where
  slide : (z : ℕ) → replicate z 0 ++ (0 ∷ others) ≡ replicate (suc z) 0 ++ others
  slide zero = refl
  slide (suc z) = ap (λ (xs : List ℕ). 0 ∷ xs) (slide z)

one_cut : (z w : ℕ) (xs ys : List ℕ) → StartsAboveZero xs → StartsAboveZero ys → replicate z 0 ++ xs ≡ replicate w 0 ++ ys → xs ≡ ys
one_cut zero zero xs ys a b h = h
one_cut zero (suc w) xs ys a b h = absurd (not_above (replicate w 0 ++ ys) (subst (λ (l : List ℕ). StartsAboveZero l) h a))
one_cut (suc z) zero xs ys a b h = absurd (not_above (replicate z 0 ++ xs) (subst (λ (l : List ℕ). StartsAboveZero l) (sym h) b))
one_cut (suc z) (suc w) xs ys a b h =
    let t : replicate z 0 ++ xs ≡ replicate w 0 ++ ys = cc in
    one_cut z w xs ys a b t

one_rest : (bytes xs ys : List ℕ) → AreAfterZeros bytes xs → AreAfterZeros bytes ys → StartsAboveZero xs → StartsAboveZero ys → xs ≡ ys
one_rest bytes xs ys x y a b = one_cut x.zeros y.zeros xs ys a b (sym x.layout ∙ y.layout)

pub same_cut : (p q r s : List ℕ) → length p ≡ length q → p ++ r ≡ q ++ s → (p ≡ q) × (r ≡ s)
same_cut [] [] r s n h = (refl, h)
same_cut [] (y ∷ q) r s n h = absurd (omega arith)
same_cut (x ∷ p) [] r s n h = absurd (omega arith)
same_cut (x ∷ p) (y ∷ q) r s n h =
    let head : x ≡ y = cc in
    let tail : p ++ r ≡ q ++ s = cc in
    let g = same_cut p q r s (omega arith) tail in
    let a : p ≡ q = g.0 in
    ((cc), g.1)

one_frame : (bytes p r q s : List ℕ) → IsFrame bytes p r → IsFrame bytes q s → (p ≡ q) × (r ≡ s)
one_frame bytes p r q s x y =
    let e = one_rest bytes (length p ∷ (p ++ r)) (length q ∷ (q ++ s)) x.1 y.1 (above_some (length p) (p ++ r) x.0) (above_some (length q) (q ++ s) y.0) in
    let n : length p ≡ length q = cc in
    let t : p ++ r ≡ q ++ s = cc in
    same_cut p q r s n t

frame_or_end : (bytes p r : List ℕ) → IsFrame bytes p r → IsStreamEnded bytes → ⊥
frame_or_end bytes p r x y =
    let e = one_rest bytes (length p ∷ (p ++ r)) [] x.1 y (above_some (length p) (p ++ r) x.0) above_none in
    cc

cut_above : (bytes : List ℕ) (x : IsCutShort bytes) → StartsAboveZero (x.0 ∷ x.1)
cut_above bytes x = let lt = x.3 in above_some x.0 x.1 (omega arith)

frame_or_cut : (bytes p r : List ℕ) → IsFrame bytes p r → IsCutShort bytes → ⊥
frame_or_cut bytes p r x y =
    let e = one_rest bytes (length p ∷ (p ++ r)) (y.0 ∷ y.1) x.1 y.2 (above_some (length p) (p ++ r) x.0) (cut_above bytes y) in
    let lt = y.3 in
    let n : length p ≡ y.0 = cc in
    let t : p ++ r ≡ y.1 = cc in
    let l = ap (length {A = ℕ}) t in
    omega (arith, n, l, lt, length-append p r)

end_or_cut : (bytes : List ℕ) → IsStreamEnded bytes → IsCutShort bytes → ⊥
end_or_cut bytes x y =
    let e = one_rest bytes [] (y.0 ∷ y.1) x y.2 above_none (cut_above bytes y) in
    cc

-- the two kinds of fault
abbrev Refused : ℕ → Stream → TraceFault → Type 0
Refused k x fault = (payload : List ℕ) × (rest : List ℕ) × IsFrame x.bytes payload rest × Spells x.widths k payload (Err fault)

kinds : (k : ℕ) (x : Stream) (fault : TraceFault) → FailsNext k x fault → ((fault ≡ Truncated k) × IsCutShort x.bytes) ⊎ Refused k x fault
kinds k x BadMagic h = elim h [ ]
kinds k x (BadHeader i) h = elim h [ ]
kinds k x (Truncated j) h = inl (ap Truncated h.0, h.1)
kinds k x (Optional j) h = inr (h.0, h.1, h.2, h.3)
kinds k x (Trap j) h = inr (h.0, h.1, h.2, h.3)
kinds k x (BadSupport j) h = inr (h.0, h.1, h.2, h.3)
kinds k x (StreamPastEnd j) h = elim h [ ]
kinds k x (Rest j) h = elim h [ ]

pub fails_by : (k : ℕ) (x : Stream) (payload rest : List ℕ) (fault : TraceFault) → IsFrame x.bytes payload rest → Spells x.widths k payload (Err fault) → FailsNext k x fault
fails_by k x payload rest BadMagic f h = h
fails_by k x payload rest (BadHeader i) f h = h
fails_by k x payload rest (Truncated j) f h = elim h [ ]
fails_by k x payload rest (Optional j) f h = (payload, rest, f, h)
fails_by k x payload rest (Trap j) f h = (payload, rest, f, h)
fails_by k x payload rest (BadSupport j) f h = (payload, rest, f, h)
fails_by k x payload rest (StreamPastEnd j) f h = elim h [ ]
fails_by k x payload rest (Rest j) f h = elim h [ ]

-- two frames at one place spell the same
same_spelling : (w : Parameters) (k : ℕ) (bytes p r q s : List ℕ) (x y : Result Packet TraceFault) → IsFrame bytes p r → IsFrame bytes q s → Spells w k p x → Spells w k q y → x ≡ y
same_spelling w k bytes p r q s x y f g a b =
    let e = one_frame bytes p r q s f g in
    one_spelling w k q x y (subst (λ (l : List ℕ). Spells w k l x) e.0 a) b

pub one_fault : (k : ℕ) (x : Stream) (f g : TraceFault) → FailsNext k x f → FailsNext k x g → f ≡ g
one_fault k x f g m n = elim (kinds k x f m) [
  | inl a ↦ elim (kinds k x g n) [
    | inl b ↦ a.0 ∙ sym b.0
    | inr b ↦ absurd (frame_or_cut x.bytes b.0 b.1 b.2 a.1)
  ]
  | inr a ↦ elim (kinds k x g n) [
    | inl b ↦ absurd (frame_or_cut x.bytes a.0 a.1 a.2 b.1)
    | inr b ↦ let h : ◌≡◌ {A = Result Packet TraceFault} (Err f) (Err g) = same_spelling x.widths k x.bytes a.0 a.1 b.0 b.1 (Err f) (Err g) a.2 b.2 a.3 b.3 in cc
  ]
]

end_or_fault : (k : ℕ) (x : Stream) (f : TraceFault) → IsStreamEnded x.bytes → FailsNext k x f → ⊥
end_or_fault k x f m n = elim (kinds k x f n) [
  | inl b ↦ end_or_cut x.bytes m b.1
  | inr b ↦ frame_or_end x.bytes b.0 b.1 b.2 m
]

packet_or_fault : (k : ℕ) (x : Stream) (p : Packet) (r : Stream) (f : TraceFault) → Begins x p r → FailsNext k x f → ⊥
packet_or_fault k x p r f m n = elim (kinds k x f n) [
  | inl b ↦ frame_or_cut x.bytes m.0 r.bytes m.1 b.1
  | inr b ↦ let h : ◌≡◌ {A = Result Packet TraceFault} (Ok p) (Err f) = same_spelling x.widths k x.bytes m.0 r.bytes b.0 b.1 (Ok p) (Err f) m.1 b.2 m.2 b.3 in cc
]

same_stream : (r s : Stream) → r.widths ≡ s.widths → r.bytes ≡ s.bytes → r ≡ s
same_stream r s a b =
    let f : Parameters → List ℕ → Stream = λ w l. record { widths = w; bytes = l } in
    let e : f r.widths r.bytes ≡ f s.widths s.bytes = cc in
    e

pub one_packet : (x : Stream) (p q : Packet) (r s : Stream) → Begins x p r → Begins x q s → (p ≡ q) × (r ≡ s)
one_packet x p q r s m n =
    let e = one_frame x.bytes m.0 r.bytes n.0 s.bytes m.1 n.1 in
    let h : ◌≡◌ {A = Result Packet TraceFault} (Ok p) (Ok q) = same_spelling x.widths 0 x.bytes m.0 r.bytes n.0 s.bytes (Ok p) (Ok q) m.1 n.1 m.2 n.2 in
    ((cc), same_stream r s (m.3 ∙ sym n.3) e.1)

-- there is one answer
pub one_answer : (k : ℕ) (x : Stream) (a b : Result (Option Packet) TraceFault) (i j : ℕ) (r s : Stream) → AnswersNext k x a i r → AnswersNext k x b j s → (a ≡ b) × (i ≡ j) × (r ≡ s)
one_answer k x (Ok None) (Ok None) i j r s m n = (refl, m.1 ∙ sym n.1, m.2 ∙ sym n.2)
one_answer k x (Ok None) (Ok (Some q)) i j r s m n = absurd (let b = n.0 in frame_or_end x.bytes b.0 s.bytes b.1 m.0)
one_answer k x (Ok None) (Err g) i j r s m n = absurd (end_or_fault k x g m.0 n.0)
one_answer k x (Ok (Some p)) (Ok None) i j r s m n = absurd (let b = m.0 in frame_or_end x.bytes b.0 r.bytes b.1 n.0)
one_answer k x (Ok (Some p)) (Ok (Some q)) i j r s m n =
    let e = one_packet x p q r s m.0 n.0 in
    (ap (λ (z : Packet). Ok (Some z)) e.0, m.1 ∙ sym n.1, e.1)
one_answer k x (Ok (Some p)) (Err g) i j r s m n = absurd (packet_or_fault k x p r g m.0 n.0)
one_answer k x (Err f) (Ok None) i j r s m n = absurd (end_or_fault k x f n.0 m.0)
one_answer k x (Err f) (Ok (Some q)) i j r s m n = absurd (packet_or_fault k x q s f n.0 m.0)
one_answer k x (Err f) (Err g) i j r s m n = (ap (λ (z : TraceFault). Err z) (one_fault k x f g m.0 n.0), m.1 ∙ sym n.1, m.2 ∙ sym n.2)

-- a packet makes the bytes fewer
pub shorter : (x : Stream) (p : Packet) (r : Stream) → Begins x p r → length r.bytes < length x.bytes
shorter x p r m =
    let a = (m.1).1 in
    let e = ap (length {A = ℕ}) a.layout in
    omega (arith, e, length-append (replicate a.zeros 0) (length m.0 ∷ (m.0 ++ r.bytes)), length-append m.0 r.bytes)

-- a length and what it cuts off
pub frame_of : (bytes : List ℕ) (size : ℕ) (others : List ℕ) → AreAfterZeros bytes (size ∷ others) → 0 < size → size ≤ length others → IsFrame bytes (take size others) (drop size others)
frame_of bytes size others a some le =
    let n : length (take size others) ≡ size = grind (arith, length-take) in
    let whole : take size others ++ drop size others ≡ others = take-append-drop size others in
    let layout : bytes ≡ replicate a.zeros 0 ++ (length (take size others) ∷ (take size others ++ drop size others)) = rw (n, whole) a.layout in
    (omega arith, record { zeros = a.zeros; layout = layout })
