-- Of what is sent no two readings are possible.
use Rattle.std.proofs.Common.{◌≡◌, ℕ, List, [], ◌∷◌, ◌++◌, length, Bool, true, false, ◌||◌, append_assoc, arith, refl, sym, ◌∙◌, ap, inl, inr}
use Rattle.std.proofs.lemmas.List.Folds.{list_any-append}
use Rattle.std.proofs.lemmas.List.{append-nil}
use Rattle.std.specs.List.{list_any}
use Rattle.rept_remote.specs.Frames.{Arrived, Arrives, HasNoArrival, IsPacketOf, IsPart, IsShortEnd, has_call, has_end, asks, is_end}

first_false : (a b : Bool) → (a || b) ≡ false → a ≡ false
first_false true b e = cc
first_false false b e = refl

second_false : (a b : Bool) → (a || b) ≡ false → b ≡ false
second_false true b e = cc
second_false false b e = e

-- two ways to part a list at the first element that passes are one
record Same (one two : List ℕ) (c d : ℕ) (x y : List ℕ) : Type 0 where
  before : one ≡ two
  here : c ≡ d
  after : x ≡ y

clash : (p : ℕ → Bool) (a b : ℕ) → p a ≡ false → p b ≡ true → a ≡ b → ⊥
clash p a b h k e = let u = ap p e in cc

module _ (p : ℕ → Bool) (c d : ℕ) (x y : List ℕ) (passes : p c ≡ true) (also : p d ≡ true) where
  parted : (one two : List ℕ) → list_any p one ≡ false → list_any p two ≡ false → one ++ c ∷ x ≡ two ++ d ∷ y → Same one two c d x y
  parted [] [] h k e = record { before = refl; here = cc; after = cc }
  parted [] (b ∷ two) h k e = absurd (clash p b c (first_false (p b) (list_any p two) k) passes cc)
  parted (a ∷ one) [] h k e = absurd (clash p a d (first_false (p a) (list_any p one) h) also cc)
  parted (a ∷ one) (b ∷ two) h k e =
      let rest : Same one two c d x y = parted one two (second_false (p a) (list_any p one) h) (second_false (p b) (list_any p two) k) cc in
      let here : a ≡ b = cc in
      record { before = cc (here, rest.before); here = rest.here; after = rest.after }

-- the list has an element that passes
passing : (p : ℕ → Bool) (before : List ℕ) (c : ℕ) (after : List ℕ) → p c ≡ true → list_any p (before ++ c ∷ after) ≡ false → ⊥
passing p before c after passes h = clash p c c (first_false (p c) (list_any p after) (second_false (list_any p before) (p c || list_any p after) (sym (list_any-append p before (c ∷ after)) ∙ h))) passes refl

heads : (a b : ℕ) (x y : List ℕ) → a ∷ x ≡ b ∷ y → a ≡ b
heads a b x y e = cc

tails : (a b : ℕ) (x y : List ℕ) → a ∷ x ≡ b ∷ y → x ≡ y
tails a b x y e = cc

-- one arrival begins with a byte that asks for something
record Begins (part : List ℕ) : Type 0 where
  call : ℕ
  after : List ℕ
  parts : part ≡ call ∷ after
  calls : asks call ≡ true

begins : (part : List ℕ) (what : Arrived) → IsPart part what → Begins part
begins part what (inl h) = record { call = 36; after = h.body ++ 35 ∷ h.high ∷ h.low ∷ []; parts = h.parts; calls = refl }
begins part what (inr (inl h)) = record { call = 45; after = []; parts = h.0; calls = refl }
begins part what (inr (inr h)) = record { call = 3; after = []; parts = h.0; calls = refl }

-- a packet, and what comes after it
onward : (part : List ℕ) (what : Arrived) (h : IsPacketOf part what) (x : List ℕ) → part ++ x ≡ 36 ∷ (h.body ++ 35 ∷ (h.high ∷ h.low ∷ x))
onward part what h x = ap (λ z. z ++ x) h.parts ∙ ap (λ z. 36 ∷ z) (append_assoc h.body (35 ∷ h.high ∷ h.low ∷ []) x)

record OneReading (p q : List ℕ) (v w : Arrived) (x y : List ℕ) : Type 0 where
  bytes : p ≡ q
  what : v ≡ w
  rest : x ≡ y

packets : (p q x y : List ℕ) (v w : Arrived) → IsPacketOf p v → IsPacketOf q w → p ++ x ≡ q ++ y → OneReading p q v w x y
packets p q x y v w h k e =
    let inner = tails 36 36 _ _ (sym (onward p v h x) ∙ e ∙ onward q w k y) in
    let same = parted is_end 35 35 (h.high ∷ h.low ∷ x) (k.high ∷ k.low ∷ y) refl refl h.body k.body h.plain k.plain inner in
    let body = same.before in
    let high = heads _ _ _ _ same.after in
    let rest = tails _ _ _ _ same.after in
    let low = heads _ _ _ _ rest in
    let hp = h.parts in let kp = k.parts in let hb = h.brings in let kb = k.brings in
    record { bytes = cc (body, high, low, hp, kp); what = cc (body, high, low, hb, kb); rest = tails _ _ _ _ rest }

parts_same : (p q x y : List ℕ) (v w : Arrived) → IsPart p v → IsPart q w → p ++ x ≡ q ++ y → OneReading p q v w x y
parts_same p q x y v w (inl h) (inl k) e = packets p q x y v w h k e
parts_same p q x y v w (inl h) (inr (inl k)) e = let u = heads 36 45 _ _ (sym (onward p v h x) ∙ e ∙ ap (λ z. z ++ y) k.0) in absurd (omega arith)
parts_same p q x y v w (inl h) (inr (inr k)) e = let u = heads 36 3 _ _ (sym (onward p v h x) ∙ e ∙ ap (λ z. z ++ y) k.0) in absurd (omega arith)
parts_same p q x y v w (inr (inl h)) (inl k) e = let u = heads 45 36 _ _ (sym (ap (λ z. z ++ x) h.0) ∙ e ∙ onward q w k y) in absurd (omega arith)
parts_same p q x y v w (inr (inr h)) (inl k) e = let u = heads 3 36 _ _ (sym (ap (λ z. z ++ x) h.0) ∙ e ∙ onward q w k y) in absurd (omega arith)
parts_same p q x y v w (inr (inl h)) (inr (inl k)) e = record { bytes = h.0 ∙ sym k.0; what = h.1 ∙ sym k.1; rest = tails 45 45 _ _ (sym (ap (λ z. z ++ x) h.0) ∙ e ∙ ap (λ z. z ++ y) k.0) }
parts_same p q x y v w (inr (inr h)) (inr (inr k)) e = record { bytes = h.0 ∙ sym k.0; what = h.1 ∙ sym k.1; rest = tails 3 3 _ _ (sym (ap (λ z. z ++ x) h.0) ∙ e ∙ ap (λ z. z ++ y) k.0) }
parts_same p q x y v w (inr (inl h)) (inr (inr k)) e = let u = heads 45 3 _ _ (sym (ap (λ z. z ++ x) h.0) ∙ e ∙ ap (λ z. z ++ y) k.0) in absurd (omega arith)
parts_same p q x y v w (inr (inr h)) (inr (inl k)) e = let u = heads 3 45 _ _ (sym (ap (λ z. z ++ x) h.0) ∙ e ∙ ap (λ z. z ++ y) k.0) in absurd (omega arith)

-- the bytes of an arrival, and what comes after it
spread : (p noise part x : List ℕ) (b : Begins part) → p ≡ noise ++ part → p ++ x ≡ noise ++ b.call ∷ (b.after ++ x)
spread p noise part x b e = ap (λ z. z ++ x) e ∙ append_assoc noise part x ∙ ap (λ z. noise ++ (z ++ x)) b.parts

pub one_reading : (p q x y : List ℕ) (v w : Arrived) → Arrives p v → Arrives q w → p ++ x ≡ q ++ y → (p ≡ q) × (v ≡ w) × (x ≡ y)
one_reading p q x y v w h k e =
    let b : Begins h.part = begins h.part v h.arrives in
    let d : Begins k.part = begins k.part w k.arrives in
    let same = parted asks b.call d.call (b.after ++ x) (d.after ++ y) b.calls d.calls h.noise k.noise h.quiet k.quiet (sym (spread p h.noise h.part x b h.parts) ∙ e ∙ spread q k.noise k.part y d k.parts) in
    let here = same.here in let after = same.after in
    let inner : h.part ++ x ≡ k.part ++ y = ap (λ z. z ++ x) b.parts ∙ cc (here, after) ∙ sym (ap (λ z. z ++ y) d.parts) in
    let one = parts_same h.part k.part x y v w h.arrives k.arrives inner in
    let noise = same.before in let part = one.bytes in let hp = h.parts in let kp = k.parts in
    (cc (noise, part, hp, kp), one.what, one.rest)

-- a packet that is whole isn't cut
whole : (part x body tail : List ℕ) (v : Arrived) → IsPart part v → has_end body ≡ false → IsShortEnd tail → part ++ x ≡ 36 ∷ (body ++ tail) → ⊥
whole part x body [] v (inl h) plain short e =
    passing is_end h.body 35 (h.high ∷ h.low ∷ x) refl (ap has_end (tails 36 36 _ _ (sym (onward part v h x) ∙ e) ∙ append-nil body) ∙ plain)
whole part x body (byte ∷ digits) v (inl h) plain short e =
    let inner = tails 36 36 _ _ (sym (onward part v h x) ∙ e) in
    let same = parted is_end 35 byte (h.high ∷ h.low ∷ x) digits refl (ap is_end short.0) h.body body h.plain plain inner in
    omega (arith, ap length same.after, short.1)
whole part x body tail v (inr (inl h)) plain short e = let u = heads 45 36 _ _ (sym (ap (λ z. z ++ x) h.0) ∙ e) in omega arith
whole part x body tail v (inr (inr h)) plain short e = let u = heads 3 36 _ _ (sym (ap (λ z. z ++ x) h.0) ∙ e) in omega arith

pub no_reading : (p q x : List ℕ) (v : Arrived) → Arrives p v → HasNoArrival q → p ++ x ≡ q → ⊥
no_reading p q x v h (inl quiet) e =
    let b : Begins h.part = begins h.part v h.arrives in
    passing asks h.noise b.call (b.after ++ x) b.calls (ap has_call (sym (spread p h.noise h.part x b h.parts) ∙ e) ∙ quiet)
no_reading p q x v h (inr cut) e =
    let b : Begins h.part = begins h.part v h.arrives in
    let same = parted asks b.call 36 (b.after ++ x) (cut.body ++ cut.tail) b.calls refl h.noise cut.noise h.quiet cut.quiet (sym (spread p h.noise h.part x b h.parts) ∙ e ∙ cut.parts) in
    let here = same.here in let after = same.after in
    whole h.part x cut.body cut.tail v h.arrives cut.plain cut.short (ap (λ z. z ++ x) b.parts ∙ cc (here, after))
