-- The bytes of an access and of the ranges of its base.
use Rattle.std.proofs.Common.{◌≡◌, ℕ, ◌+◌, ◌-◌, ◌%◌, ◌^◌, ◌<◌, ◌≤◌, ◌⊎◌, true, false, inl, inr, refl, sym, subst, ◌∙◌, Bool, ◌==◌, arith}
use Rattle.std.specs.Prelude.{ℤ, pos, negsuc, ◌+ℤ◌, ◌≤ℤ◌, ◌<ℤ◌}
use Rattle.std.proofs.lemmas.Int.{ints}
use Rattle.rept_isa.specs.Numbers.{plus, word, beside}
use Rattle.rept_partial.specs.declared.range.Range.{Range}
use Rattle.rept_alias.specs.declared.addresses.Access.{Access}
use Rattle.rept_alias.specs.Accesses.{hits, distance, between, everywhere, stays_inside, access_of, IsRangeWithin}

-- an address that whole numbers give
plus-whole : (v : ℕ) (imm : ℤ) → v < 2 ^ 32 → pos 0 ≤ℤ (pos v +ℤ imm) → (pos v +ℤ imm) <ℤ pos (2 ^ 32) → pos (plus v imm) ≡ (pos v +ℤ imm)
unfolding word
plus-whole v (pos n) small low high = omega (arith, ints)
plus-whole v (negsuc n) small low high = omega (arith, ints)

-- what the test of both ends means
record IsInside (base : Range) (imm : ℤ) (last : ℕ) : Type 0 where
  low : pos 0 ≤ℤ (pos base.lo +ℤ imm)
  high : (pos base.hi +ℤ imm +ℤ pos last) <ℤ pos (2 ^ 32)

inside : (base : Range) (imm : ℤ) (last : ℕ) → stays_inside base imm last ≡ true → IsInside base imm last
inside base imm last t = record { low = grind (arith, ints, t); high = grind (arith, ints, t) }

is_inside : (base : Range) (imm : ℤ) (last : ℕ) → IsInside base imm last → stays_inside base imm last ≡ true
is_inside base imm last t = grind (arith, ints, t.low, t.high)

-- the addresses of a base in a range lie in order
ordered : (base : Range) (imm : ℤ) (last v : ℕ) → IsInside base imm last → base.lo ≤ v → v ≤ base.hi → plus v imm ≡ plus base.lo imm + (v - base.lo)
ordered base imm last v h low high =
    let s = base.small in
    let o = base.ordered in
    let p = plus-whole v imm (omega arith) (omega (arith, ints, h.low)) (omega (arith, ints, h.high)) in
    let q = plus-whole base.lo imm (omega arith) h.low (omega (arith, ints, h.high)) in
    omega (arith, ints, p, q)

-- where the last one lies
ends : (base : Range) (imm : ℤ) (last : ℕ) → IsInside base imm last → plus base.hi imm + last < 2 ^ 32
ends base imm last h =
    let s = base.small in
    let o = base.ordered in
    let p = plus-whole base.hi imm (omega arith) (omega (arith, ints, h.low)) (omega (arith, ints, h.high)) in
    omega (arith, ints, p, h.high)

plus-fits : (v : ℕ) (imm : ℤ) → plus v imm < 2 ^ 32
plus-fits v imm = omega arith

true≢false : true ≡ false → ⊥
true≢false e = cc

either_way : (b : Bool) → (b ≡ true) ⊎ (b ≡ false)
either_way true = inl refl
either_way false = inr refl

-- the bytes of one base, and no others, are those of its access
pub one_base : (p last a : ℕ) → p < 2 ^ 32 → last < 2 ^ 32 → a < 2 ^ 32 → hits (between p (beside p last)) a ≡ true → (k : ℕ) × (k ≤ last) × (a ≡ beside p k)
one_base p last a small few fits t = (distance p a, grind (arith, t, few, small, fits), omega arith)

pub one_base_covers : (p last k : ℕ) → p < 2 ^ 32 → last < 2 ^ 32 → k ≤ last → hits (between p (beside p last)) (beside p k) ≡ true
one_base_covers p last k small few below =
    let d : distance p (beside p k) ≡ k = omega arith in
    let e : distance p (beside p last) ≡ last = omega arith in
    grind (arith, d, e, below)

-- an access that doesn't pass the end has the addresses between its own
row : (lo hi a : ℕ) → lo ≤ hi → hi < 2 ^ 32 → a < 2 ^ 32 → lo ≤ a → a ≤ hi → hits (between lo hi) a ≡ true
row lo hi a o s t low high =
    let d : distance lo a ≡ a - lo = omega arith in
    let e : distance lo hi ≡ hi - lo = omega arith in
    grind (arith, d, e, low, high)

in_row : (lo hi a : ℕ) → lo ≤ hi → hi < 2 ^ 32 → a < 2 ^ 32 → hits (between lo hi) a ≡ true → (lo ≤ a) × (a ≤ hi)
in_row lo hi a o s t h =
    let e : distance lo hi ≡ hi - lo = omega arith in
    let d : distance lo a ≤ hi - lo = grind (arith, h, e) in
    (omega arith, omega arith)

-- the three forms of an access
abbrev bytes_from_to : Range → ℤ → ℕ → Access
bytes_from_to base imm width = between (plus base.lo imm) (beside (plus base.hi imm) (width - 1))

forms : (base : Range) (imm : ℤ) (width : ℕ) → ((base.lo ≡ base.hi) × (access_of base imm width ≡ bytes_from_to base imm width)) ⊎ ((IsInside base imm (width - 1)) × (access_of base imm width ≡ bytes_from_to base imm width)) ⊎ ((base.lo ≡ base.hi → ⊥) × (IsInside base imm (width - 1) → ⊥) × (access_of base imm width ≡ everywhere))
forms base imm width = elim (either_way (base.lo == base.hi)) [
  | inl one ↦ inl (grind (arith, one), rw one refl)
  | inr several ↦ elim (either_way (stays_inside base imm (width - 1))) [
    | inl t ↦ inr (inl (inside base imm (width - 1) t, rw (several, t) refl))
    | inr f ↦ inr (inr (grind (arith, several), (λ h. true≢false (sym (is_inside base imm (width - 1) h) ∙ f)), rw (several, f) refl))
  ]
]

pub covers : (base : Range) (imm : ℤ) (width v k : ℕ) → width ≤ 4 → base.lo ≤ v → v ≤ base.hi → k < width → hits (access_of base imm width) (beside (plus v imm) k) ≡ true
covers base imm width v k few low high below = elim (forms base imm width) [
  | inl (one, is) ↦ let same : base.lo ≡ v = omega arith in let also : base.hi ≡ v = omega arith in rw (is, same, also) (one_base_covers (plus v imm) (width - 1) k (plus-fits v imm) (omega arith) (omega arith))
  | inr (inl (h, is)) ↦
      let p = ordered base imm (width - 1) v h low high in
      let q = ordered base imm (width - 1) base.hi h base.ordered (omega arith) in
      let e = ends base imm (width - 1) h in
      rw is (row (plus base.lo imm) (beside (plus base.hi imm) (width - 1)) (beside (plus v imm) k) (omega (arith, p, q, e)) (omega arith) (omega arith) (omega (arith, p, q, e)) (omega (arith, p, q, e)))
  | inr (inr (several, outside, is)) ↦ rw is refl
]

pub exact : (base : Range) (imm : ℤ) (width a : ℕ) → 0 < width → width ≤ 4 → base.lo ≡ base.hi → a < 2 ^ 32 → hits (access_of base imm width) a ≡ true → (k : ℕ) × (k < width) × (a ≡ beside (plus base.lo imm) k)
exact base imm width a some few one fits t = elim (forms base imm width) [
  | inl (same, is) ↦ by_one is
  | inr (inl (h, is)) ↦ by_one is
  | inr (inr (several, outside, is)) ↦ absurd (several one)
]
  where
    by_one : access_of base imm width ≡ bytes_from_to base imm width → (k : ℕ) × (k < width) × (a ≡ beside (plus base.lo imm) k)
    by_one is =
        let h' : hits (bytes_from_to base imm width) a ≡ true = subst (λ (x : Access). hits x a ≡ true) is t in
        let h : hits (between (plus base.lo imm) (beside (plus base.lo imm) (width - 1))) a ≡ true = subst (λ (x : ℕ). hits (between (plus base.lo imm) (beside (plus x imm) (width - 1))) a ≡ true) (sym one) h' in
        let o = one_base (plus base.lo imm) (width - 1) a (plus-fits base.lo imm) (omega arith) fits h in
        (o.0, omega (arith, o.1), o.2)

-- a narrower range stays inside too
inside_within : (base wider : Range) (imm : ℤ) (last : ℕ) → IsRangeWithin base wider → IsInside wider imm last → IsInside base imm last
inside_within base wider imm last w h = record { low = omega (arith, ints, h.low, w.0); high = omega (arith, ints, h.high, w.1) }

within_row : (base wider : Range) (imm : ℤ) (width a : ℕ) → 0 < width → width ≤ 4 → a < 2 ^ 32 → IsRangeWithin base wider → IsInside wider imm (width - 1) → hits (bytes_from_to base imm width) a ≡ true → hits (bytes_from_to wider imm width) a ≡ true
within_row base wider imm width a some few fits w h t =
    let g = inside_within base wider imm (width - 1) w h in
    let o = base.ordered in
    let lo = ordered wider imm (width - 1) base.lo h w.0 (omega arith) in
    let hi = ordered wider imm (width - 1) base.hi h (omega arith) w.1 in
    let top = ordered wider imm (width - 1) wider.hi h wider.ordered (omega arith) in
    let e = ends wider imm (width - 1) h in
    let f = ends base imm (width - 1) g in
    let r = in_row (plus base.lo imm) (beside (plus base.hi imm) (width - 1)) a (omega (arith, lo, hi, f)) (omega arith) fits t in
    row (plus wider.lo imm) (beside (plus wider.hi imm) (width - 1)) a (omega (arith, top, e)) (omega arith) fits (omega (arith, r, lo)) (omega (arith, r, hi, top, e, f))

-- an address is looked at modulo 2 ^ 32
abbrev hits_at : Access → ℕ → Type 0
hits_at x a = hits x a ≡ true

any_address : (lo a : ℕ) → lo < 2 ^ 32 → distance lo a ≡ distance lo (a % 2 ^ 32)
any_address lo a fits = omega arith

wider_form : (base wider : Range) (imm : ℤ) (width a : ℕ) → 0 < width → width ≤ 4 → a < 2 ^ 32 → IsRangeWithin base wider → hits (access_of base imm width) a ≡ true → hits (access_of wider imm width) a ≡ true
wider_form base wider imm width a some few fits w t = elim (forms wider imm width) [
  | inl (one, is) ↦
      let o = base.ordered in
      let lo : base.lo ≡ wider.lo = omega (arith, w.0, w.1) in
      let hi : base.hi ≡ wider.hi = omega (arith, w.0, w.1) in
      let u = base_bytes (inl (omega (arith, w.0, w.1))) in
      subst (λ (x : Access). hits_at x a) (sym is) (subst (λ (x : ℕ). hits_at (between (plus x imm) (beside (plus wider.hi imm) (width - 1))) a) lo (subst (λ (x : ℕ). hits_at (between (plus base.lo imm) (beside (plus x imm) (width - 1))) a) hi u))
  | inr (inl (h, is)) ↦ subst (λ (x : Access). hits_at x a) (sym is) (within_row base wider imm width a some few fits w h (base_bytes (inr (inside_within base wider imm (width - 1) w h))))
  | inr (inr (several, outside, is)) ↦ subst (λ (x : Access). hits_at x a) (sym is) refl
]
  where
    base_bytes : ((base.lo ≡ base.hi) ⊎ IsInside base imm (width - 1)) → hits (bytes_from_to base imm width) a ≡ true
    base_bytes how = elim (forms base imm width) [
      | inl (one, is) ↦ subst (λ (x : Access). hits_at x a) is t
      | inr (inl (h, is)) ↦ subst (λ (x : Access). hits_at x a) is t
      | inr (inr (several, outside, is)) ↦ elim how [ inl e ↦ absurd (several e) | inr e ↦ absurd (outside e) ]
    ]

lo-fits : (base : Range) (imm : ℤ) (width : ℕ) → (access_of base imm width).lo < 2 ^ 32
lo-fits base imm width = elim (forms base imm width) [
  | inl (one, is) ↦ subst (λ (x : Access). x.lo < 2 ^ 32) (sym is) (plus-fits base.lo imm)
  | inr (inl (h, is)) ↦ subst (λ (x : Access). x.lo < 2 ^ 32) (sym is) (plus-fits base.lo imm)
  | inr (inr (several, outside, is)) ↦ subst (λ (x : Access). x.lo < 2 ^ 32) (sym is) (omega arith)
]

modulo : (x : Access) (a : ℕ) → x.lo < 2 ^ 32 → hits x a ≡ hits x (a % 2 ^ 32)
modulo x a fits = rw (any_address x.lo a fits) refl

-- a narrower range gives no more addresses
pub narrower : (base wider : Range) (imm : ℤ) (width a : ℕ) → 0 < width → width ≤ 4 → IsRangeWithin base wider → hits (access_of base imm width) a ≡ true → hits (access_of wider imm width) a ≡ true
narrower base wider imm width a some few w t =
    modulo (access_of wider imm width) a (lo-fits wider imm width) ∙ wider_form base wider imm width (a % 2 ^ 32) some few (omega arith) w (sym (modulo (access_of base imm width) a (lo-fits base imm width)) ∙ t)

pub some_width : (width : ℕ) → (width ≡ 1) ⊎ (width ≡ 2) ⊎ (width ≡ 4) → 0 < width
some_width width h = omega (arith, h)

pub few_width : (width : ℕ) → (width ≡ 1) ⊎ (width ≡ 2) ⊎ (width ≡ 4) → width ≤ 4
few_width width h = omega (arith, h)
