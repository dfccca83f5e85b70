-- The bytes of calls over ranges and of one call.
use Rattle.std.proofs.Common.{◌≡◌, ◌≢◌, ℕ, ◌+◌, ◌-◌, ◌*◌, ◌%◌, ◌^◌, ◌<◌, ◌≤◌, ◌⊎◌, min, List, [], ◌∷◌, true, false, inl, inr, refl, sym, ap, subst, ◌∙◌, Bool, nat_le, nat_lt, ◌==◌, ◌||◌, ◌&&◌, arith, if◌then◌else◌, Option, Some, None, lit≤}
use Rattle.std.proofs.Math.Nat.{min-le_left, min-le_right, min-eq_left, min-eq_right}
use Rattle.std.proofs.lemmas.Nat.{row_fits}
use Rattle.rept_partial.specs.declared.range.Range.{Range}
use Rattle.rept_partial.specs.declared.flat.Flat.{Flat}
use Rattle.rept_partial.specs.declared.flat.Flat.TheVariants.{Unknown, Known}
use Rattle.rept_alias.specs.declared.addresses.Access.{Access}
use Rattle.rept_alias.specs.declared.addresses.CallAccess.{CallAccess}
use Rattle.rept_alias.specs.Accesses.{hits, hits_part, call_hits, distance, between, everywhere}
use Rattle.rept_machine.specs.declared.calls.ByteCount.{ByteCount}
use Rattle.rept_machine.specs.declared.calls.ByteCount.TheVariants.{Fixed, Register, Pages, Records}
use Rattle.rept_machine.specs.declared.calls.CallEffect.{CallEffect}
use Rattle.rept_machine.specs.declared.calls.CallEffect.TheVariants.{Area, Read, Heap, Mapping}
use Rattle.rept_machine.specs.declared.calls.CallRow.{CallRow}
use Rattle.rept_machine.specs.declared.calls.TheConstants.{CALLS}
use Rattle.rept_machine.specs.Calls.{within, is_error, bad_address, counted, was_read, effect_has, part_has, call_of, row_has, may_change}
use Rattle.rept_havoc.specs.Havoc.{every_byte, interval, grown, mapped, was_read_over, counted_over, effect_over, part_over, row_over, changed_by, changed, Lies, IsExact, argument, MeetsArguments, AreExact, IsNumber, RangeWithin, AreArgumentsWithin, NumberWithin}

true≢false : true ≡ false → ⊥
true≢false e = cc

either_way : (b : Bool) → (b ≡ true) ⊎ (b ≡ false)
either_way true = inl refl
either_way false = inr refl

-- the addresses of a row that doesn't pass the end
row : (lo hi a : ℕ) → lo ≤ hi → hi < 2 ^ 32 → lo ≤ a % 2 ^ 32 → a % 2 ^ 32 ≤ hi → hits (between lo hi) a ≡ true
row lo hi a o s low high =
    let d : distance lo a ≡ a % 2 ^ 32 - lo = omega arith in
    let e : distance lo hi ≡ hi - lo = omega arith in
    grind (arith, d, e, low, high)

in_row : (lo hi a : ℕ) → lo ≤ hi → hi < 2 ^ 32 → hits (between lo hi) a ≡ true → (lo ≤ a % 2 ^ 32) × (a % 2 ^ 32 ≤ hi)
in_row lo hi a o s h =
    let e : distance lo hi ≡ hi - lo = omega arith in
    let d : distance lo a ≤ hi - lo = grind (arith, h, e) in
    (omega arith, omega arith)

-- the three forms of an interval
data Form (base : Range) (size : ℕ) : Type 0 where
  empty : size ≡ 0 → interval base size ≡ None → Form base size
  row_of : 0 < size → base.hi + size ≤ 2 ^ 32 → interval base size ≡ Some (between base.lo (base.hi + size - 1)) → Form base size
  all : 0 < size → 2 ^ 32 < base.hi + size → interval base size ≡ Some everywhere → Form base size

form : (base : Range) (size : ℕ) → Form base size
form base size = elim (either_way (size == 0)) [
  | inl e ↦ empty (grind (arith, e)) (rw e refl)
  | inr f ↦ elim (either_way (nat_le (base.hi + size) (2 ^ 32))) [
    | inl t ↦ row_of (grind (arith, f)) (grind (arith, t)) (rw (f, t) refl)
    | inr t ↦ all (grind (arith, f)) (grind (arith, t)) (rw (f, t) refl)
  ]
]

-- what one interval of bytes says
record IsInArea (base size a : ℕ) : Type 0 where
  some : 0 < size
  low : base ≤ a
  high : a < base + size

inside : (base size a : ℕ) → base + size ≤ 2 ^ 32 → within base size a ≡ true → IsInArea base size a
inside base size a fits t = record { some = grind (arith, t, fits); low = grind (arith, t, fits); high = grind (arith, t, fits) }

not_empty : (base a : ℕ) → within base 0 a ≡ true → ⊥
not_empty base a t = cc

interval_covers : (base : Range) (size b n a : ℕ) → Lies b base → n ≤ size → within b n a ≡ true → hits_part (interval base size) a ≡ true
interval_covers base size b n a lies few t = elim (form base size) [
  | empty e is ↦ let none : n ≡ 0 = omega arith in absurd (not_empty b a (subst (λ (k : ℕ). within b k a ≡ true) none t))
  | row_of some fits is ↦
      let o = base.ordered in
      let h = inside b n a (omega arith) t in
      let low = h.low in
      let high = h.high in
      rw is (row base.lo (base.hi + size - 1) a (omega arith) (omega arith) (omega arith) (omega arith))
  | all some past is ↦ rw is refl
]

same_test : (p q : Bool) → (p ≡ true → q ≡ true) → (q ≡ true → p ≡ true) → p ≡ q
same_test true q f g = sym (f refl)
same_test false true f g = g refl
same_test false false f g = refl

is_inside : (base size a : ℕ) → base + size ≤ 2 ^ 32 → IsInArea base size a → within base size a ≡ true
is_inside base size a fits h = let s = h.some in let l = h.low in let g = h.high in grind (arith, fits, s, l, g)

past_is_all : (base size a : ℕ) → 0 < size → 2 ^ 32 < base + size → within base size a ≡ true
past_is_all base size a some past = grind (arith, some, past)

interval_exact : (base : Range) (b n a : ℕ) → IsExact base b → a < 2 ^ 32 → hits_part (interval base n) a ≡ within b n a
interval_exact base b n a exact fits = same_test (hits_part (interval base n) a) (within b n a) onto (interval_covers base n b n a (omega (arith, exact.0), omega (arith, exact.1)) (omega arith))
  where
    onto : hits_part (interval base n) a ≡ true → within b n a ≡ true
    onto t = elim (form base n) [
      | empty e is ↦ absurd (true≢false (sym t ∙ ap (λ (x : Option Access). hits_part x a) is))
      | row_of some small is ↦
          let o = base.ordered in
          let r = in_row base.lo (base.hi + n - 1) a (omega arith) (omega arith) (sym (ap (λ (x : Option Access). hits_part x a) is) ∙ t) in
          is_inside b n a (omega (arith, exact.1)) (record { some = some; low = omega (arith, r, exact.0); high = omega (arith, r, exact.1) })
      | all some past is ↦ past_is_all b n a some (omega (arith, exact.1))
    ]

interval_within : (base wide : Range) (n size a : ℕ) → RangeWithin base wide → n ≤ size → hits_part (interval base n) a ≡ true → hits_part (interval wide size) a ≡ true
interval_within base wide n size a w few t = elim (form wide size) [
  | empty e is ↦ let none : n ≡ 0 = omega arith in absurd (true≢false (sym (subst (λ (k : ℕ). hits_part (interval base k) a ≡ true) none t)))
  | row_of some small is ↦ elim (form base n) [
    | empty e from ↦ absurd (true≢false (sym t ∙ ap (λ (x : Option Access). hits_part x a) from))
    | row_of more below from ↦
        let o = base.ordered in
        let p = wide.ordered in
        let r = in_row base.lo (base.hi + n - 1) a (omega arith) (omega arith) (sym (ap (λ (x : Option Access). hits_part x a) from) ∙ t) in
        rw is (row wide.lo (wide.hi + size - 1) a (omega (arith, w)) (omega arith) (omega (arith, w, r)) (omega (arith, w, r)))
    | all more past from ↦ absurd (omega (arith, w))
  ]
  | all some past is ↦ rw is refl
]

-- the heap
data HeapForm (image_end : ℕ) (answered : Range) : Type 0 where
  shrunk : answered.hi ≤ image_end → grown image_end answered ≡ None → HeapForm image_end answered
  more : image_end < answered.hi → grown image_end answered ≡ Some (between image_end (answered.hi - 1)) → HeapForm image_end answered

heap : (image_end : ℕ) (answered : Range) → HeapForm image_end answered
heap image_end answered = elim (either_way (nat_lt image_end answered.hi)) [
  | inl t ↦ more (grind (arith, t)) (rw t refl)
  | inr f ↦ shrunk (grind (arith, f)) (rw f refl)
]

abbrev in_heap : ℕ → ℕ → ℕ → Bool
in_heap image_end answer a = nat_le image_end a && nat_lt a answer

heap_bounds : (image_end answer a : ℕ) → in_heap image_end answer a ≡ true → (image_end ≤ a) × (a < answer)
heap_bounds image_end answer a t = grind (arith, t)

grown_covers : (image_end : ℕ) (answered : Range) (answer a : ℕ) → Lies answer answered → in_heap image_end answer a ≡ true → hits_part (grown image_end answered) a ≡ true
grown_covers image_end answered answer a lies t =
    let b = heap_bounds image_end answer a t in
    let s = answered.small in
    elim (heap image_end answered) [
      | shrunk none is ↦ absurd (omega (arith, b, lies))
      | more some is ↦ rw is (row image_end (answered.hi - 1) a (omega arith) (omega arith) (omega (arith, b, lies)) (omega (arith, b, lies)))
    ]

grown_exact : (image_end : ℕ) (answered : Range) (answer a : ℕ) → IsExact answered answer → a < 2 ^ 32 → hits_part (grown image_end answered) a ≡ in_heap image_end answer a
grown_exact image_end answered answer a exact fits = same_test (hits_part (grown image_end answered) a) (in_heap image_end answer a) onto (grown_covers image_end answered answer a (omega (arith, exact.0), omega (arith, exact.1)))
  where
    onto : hits_part (grown image_end answered) a ≡ true → in_heap image_end answer a ≡ true
    onto t = elim (heap image_end answered) [
      | shrunk none is ↦ absurd (true≢false (sym t ∙ ap (λ (x : Option Access). hits_part x a) is))
      | more some is ↦
          let s = answered.small in
          let r = in_row image_end (answered.hi - 1) a (omega arith) (omega arith) (sym (ap (λ (x : Option Access). hits_part x a) is) ∙ t) in
          let low : image_end ≤ a = omega (arith, r) in
          let high : a < answer = omega (arith, r, exact.1) in
          grind (arith, low, high)
    ]

grown_within : (image_end : ℕ) (answered wide : Range) (a : ℕ) → RangeWithin answered wide → hits_part (grown image_end answered) a ≡ true → hits_part (grown image_end wide) a ≡ true
grown_within image_end answered wide a w t = elim (heap image_end answered) [
  | shrunk none is ↦ absurd (true≢false (sym t ∙ ap (λ (x : Option Access). hits_part x a) is))
  | more some is ↦
      let s = answered.small in
      let r = in_row image_end (answered.hi - 1) a (omega arith) (omega arith) (sym (ap (λ (x : Option Access). hits_part x a) is) ∙ t) in
      elim (heap image_end wide) [
        | shrunk none from ↦ absurd (omega (arith, w))
        | more wider from ↦ let u = wide.small in rw from (row image_end (wide.hi - 1) a (omega arith) (omega arith) (omega (arith, r)) (omega (arith, r, w)))
      ]
]

-- mmap2
abbrev in_pages : ℕ → ℕ → ℕ → Bool
in_pages answer size a = if is_error answer then false else within answer (size + 4095) a

data PagesForm (answered size : Range) : Type 0 where
  failed : 2 ^ 32 ≤ answered.lo + 4095 → mapped answered size ≡ None → PagesForm answered size
  made : answered.lo + 4095 < 2 ^ 32 → mapped answered size ≡ interval answered (size.hi + 4095) → PagesForm answered size

pages : (answered size : Range) → PagesForm answered size
pages answered size = elim (either_way (is_error answered.lo)) [
  | inl t ↦ failed (grind (arith, t)) (rw t refl)
  | inr f ↦ made (grind (arith, f)) (rw f refl)
]

fails : (answer size a : ℕ) → 2 ^ 32 ≤ answer + 4095 → in_pages answer size a ≡ false
fails answer size a h = let t : is_error answer ≡ true = grind (arith, h) in rw t refl

succeeds : (answer size a : ℕ) → answer + 4095 < 2 ^ 32 → in_pages answer size a ≡ within answer (size + 4095) a
succeeds answer size a h = let t : is_error answer ≡ false = grind (arith, h) in rw t refl

pages_within : (answer size a : ℕ) → in_pages answer size a ≡ true → within answer (size + 4095) a ≡ true
pages_within answer size a t = elim (either_way (is_error answer)) [
  | inl e ↦ absurd (true≢false (sym t ∙ fails answer size a (grind (arith, e))))
  | inr f ↦ sym (succeeds answer size a (grind (arith, f))) ∙ t
]

mapped_covers : (answered size : Range) (answer n a : ℕ) → Lies answer answered → Lies n size → in_pages answer n a ≡ true → hits_part (mapped answered size) a ≡ true
mapped_covers answered size answer n a lies few t = elim (pages answered size) [
  | failed h is ↦ absurd (true≢false (sym t ∙ fails answer n a (omega (arith, lies))))
  | made h is ↦ rw is (interval_covers answered (size.hi + 4095) answer (n + 4095) a lies (omega (arith, few)) (pages_within answer n a t))
]

mapped_exact : (answered size : Range) (answer n a : ℕ) → IsExact answered answer → IsExact size n → a < 2 ^ 32 → hits_part (mapped answered size) a ≡ in_pages answer n a
mapped_exact answered size answer n a exact few fits = elim (pages answered size) [
  | failed h is ↦ ap (λ (x : Option Access). hits_part x a) is ∙ sym (fails answer n a (omega (arith, exact.0)))
  | made h is ↦ ap (λ (x : Option Access). hits_part x a) is ∙ ap (λ (k : ℕ). hits_part (interval answered (k + 4095)) a) few.1 ∙ interval_exact answered answer (n + 4095) a exact fits ∙ sym (succeeds answer n a (omega (arith, exact.0)))
]

mapped_within : (answered size wide longer : Range) (a : ℕ) → RangeWithin answered wide → RangeWithin size longer → hits_part (mapped answered size) a ≡ true → hits_part (mapped wide longer) a ≡ true
mapped_within answered size wide longer a w few t = elim (pages answered size) [
  | failed h is ↦ absurd (true≢false (sym t ∙ ap (λ (x : Option Access). hits_part x a) is))
  | made h is ↦ elim (pages wide longer) [
    | failed g from ↦ absurd (omega (arith, w))
    | made g from ↦ rw from (interval_within answered wide (size.hi + 4095) (longer.hi + 4095) a w (omega (arith, few)) (sym (ap (λ (x : Option Access). hits_part x a) is) ∙ t))
  ]
]

either : (p q r s : Bool) → (p ≡ true → r ≡ true) → (q ≡ true → s ≡ true) → (p || q) ≡ true → (r || s) ≡ true
either true q r s f g t = rw (f refl) refl
either false q true s f g t = refl
either false q false s f g t = g t

min_up : (a b c d : ℕ) → a ≤ c → b ≤ d → min a b ≤ min c d
min_up a b c d p q = elim (either_way (nat_le c d)) [
  | inl t ↦
      let least : c ≤ d = grind (arith, t) in
      let e : min c d ≡ c = min-eq_left least in
      let l = min-le_left a b in
      omega (arith, e, l, p)
  | inr t ↦
      let least : d ≤ c = grind (arith, t) in
      let e : min c d ≡ d = min-eq_right least in
      let r = min-le_right a b in
      omega (arith, e, r, q)
]

-- fewer records of one size are fewer bytes
fewer : (a b size : ℕ) → a ≤ b → a * size ≤ b * size
fewer a b size h = let f : a * size + size ≤ (b + 1) * size = row_fits a size (b + 1) size (omega (arith, h)) (omega arith) in omega (arith, f)

-- reads
data ReadForm (base most answered : Range) : Type 0 where
  counted_read : answered.hi + 4095 < 2 ^ 32 → was_read_over base most answered ≡ interval base (min most.hi answered.hi) → ReadForm base most answered
  failed_read : 2 ^ 32 ≤ answered.lo + 4095 → (bad_address < answered.lo) ⊎ (answered.hi < bad_address) → was_read_over base most answered ≡ None → ReadForm base most answered
  open_read : was_read_over base most answered ≡ interval base most.hi → 2 ^ 32 ≤ answered.hi + 4095 → (answered.lo + 4095 < 2 ^ 32) ⊎ ((answered.lo ≤ bad_address) × (bad_address ≤ answered.hi)) → ReadForm base most answered

read_form : (base most answered : Range) → ReadForm base most answered
read_form base most answered = elim (either_way (nat_lt (answered.hi + 4095) (2 ^ 32))) [
  | inl t ↦ counted_read (grind (arith, t)) (rw t refl)
  | inr f ↦ elim (either_way (is_error answered.lo)) [
    | inr g ↦ open_read (rw (f, g) refl) (grind (arith, f)) (inl (grind (arith, g)))
    | inl e ↦ elim (either_way (nat_lt bad_address answered.lo)) [
      | inl s ↦ failed_read (grind (arith, e)) (inl (grind (arith, s))) (rw (f, e, s) refl)
      | inr s ↦ elim (either_way (nat_lt answered.hi bad_address)) [
        | inl u ↦ failed_read (grind (arith, e)) (inr (grind (arith, u))) (rw (f, e, s, u) refl)
        | inr u ↦ open_read (rw (f, e, s, u) refl) (grind (arith, f)) (inr (grind (arith, s), grind (arith, u)))
      ]
    ]
  ]
]

read_fits : (base most answer a : ℕ) → answer + 4095 < 2 ^ 32 → was_read base most answer a ≡ within base (min most answer) a
read_fits base most answer a h =
    let e : is_error answer ≡ false = grind (arith, h) in
    let f : (answer == bad_address) ≡ false = grind (arith, h) in
    rw (f, e) refl

read_fails : (base most answer a : ℕ) → 2 ^ 32 ≤ answer + 4095 → answer ≢ bad_address → was_read base most answer a ≡ false
read_fails base most answer a h n =
    let e : is_error answer ≡ true = grind (arith, h) in
    elim (either_way (answer == bad_address)) [
      | inl t ↦ absurd (n (grind (arith, t)))
      | inr f ↦ rw (f, e) refl
    ]

read_open : (base most answer a : ℕ) → answer ≡ bad_address → was_read base most answer a ≡ within base most a
read_open base most answer a h = let t : (answer == bad_address) ≡ true = grind (arith, h) in rw t refl

-- no more than the most bytes, whatever the answer
data ReadAtMost (base most answer a : ℕ) : Type 0 where
  some_read : (n : ℕ) → n ≤ most → within base n a ≡ true → ReadAtMost base most answer a

read_at_most : (base most answer a : ℕ) → was_read base most answer a ≡ true → ReadAtMost base most answer a
read_at_most base most answer a t = elim (either_way (answer == bad_address)) [
  | inl e ↦ some_read most (omega arith) (sym (read_open base most answer a (grind (arith, e))) ∙ t)
  | inr f ↦ elim (either_way (is_error answer)) [
    | inl e ↦ absurd (true≢false (sym t ∙ read_fails base most answer a (grind (arith, e)) (λ h. let y : (answer == bad_address) ≡ true = grind (arith, h) in true≢false (sym y ∙ f))))
    | inr e ↦ some_read (min most answer) (min-le_left most answer) (sym (read_fits base most answer a (grind (arith, e))) ∙ t)
  ]
]

read_covers : (base most answered : Range) (b n answer a : ℕ) → Lies b base → Lies n most → Lies answer answered → was_read b n answer a ≡ true → hits_part (was_read_over base most answered) a ≡ true
read_covers base most answered b n answer a lies few says t = elim (read_form base most answered) [
  | counted_read fits is ↦ rw is (interval_covers base (min most.hi answered.hi) b (min n answer) a lies (min_up n answer most.hi answered.hi few.1 says.1) (sym (read_fits b n answer a (omega (arith, says))) ∙ t))
  | failed_read fails other is ↦ absurd (true≢false (sym t ∙ read_fails b n answer a (omega (arith, says)) (λ h. elim other [ inl x ↦ omega (arith, says, h) | inr x ↦ omega (arith, says, h) ])))
  | open_read is past why ↦ elim (read_at_most b n answer a t) [ some_read k small has ↦ rw is (interval_covers base most.hi b k a lies (omega (arith, few)) has) ]
]

read_exact : (base most answered : Range) (b n answer a : ℕ) → IsExact base b → IsExact most n → IsExact answered answer → a < 2 ^ 32 → hits_part (was_read_over base most answered) a ≡ was_read b n answer a
read_exact base most answered b n answer a exact few says fits = elim (read_form base most answered) [
  | counted_read small is ↦
      ap (λ (x : Option Access). hits_part x a) is ∙ ap (λ (k : ℕ). hits_part (interval base k) a) (ap (λ (k : ℕ). min k answered.hi) few.1 ∙ ap (λ (k : ℕ). min n k) says.1)
      ∙ interval_exact base b (min n answer) a exact fits ∙ sym (read_fits b n answer a (omega (arith, says)))
  | failed_read fails other is ↦ ap (λ (x : Option Access). hits_part x a) is ∙ sym (read_fails b n answer a (omega (arith, says)) (λ h. elim other [ inl x ↦ omega (arith, says, h) | inr x ↦ omega (arith, says, h) ]))
  | open_read is past why ↦
      let bad : answer ≡ bad_address = elim why [ inl x ↦ absurd (omega (arith, says)) | inr x ↦ omega (arith, says, x) ] in
      ap (λ (x : Option Access). hits_part x a) is ∙ ap (λ (k : ℕ). hits_part (interval base k) a) few.1 ∙ interval_exact base b n a exact fits ∙ sym (read_open b n answer a bad)
]

read_within : (base most answered wide longer wider : Range) (a : ℕ) → RangeWithin base wide → RangeWithin most longer → RangeWithin answered wider → hits_part (was_read_over base most answered) a ≡ true → hits_part (was_read_over wide longer wider) a ≡ true
read_within base most answered wide longer wider a w few v t = elim (read_form wide longer wider) [
  | counted_read fits is ↦ elim (read_form base most answered) [
    | counted_read small from ↦ rw is (interval_within base wide (min most.hi answered.hi) (min longer.hi wider.hi) a w (min_up most.hi answered.hi longer.hi wider.hi few.1 v.1) (sym (ap (λ (x : Option Access). hits_part x a) from) ∙ t))
    | failed_read fails other from ↦ absurd (true≢false (sym t ∙ ap (λ (x : Option Access). hits_part x a) from))
    | open_read from past why ↦ absurd (omega (arith, v))
  ]
  | failed_read fails other is ↦ elim (read_form base most answered) [
    | counted_read small from ↦ let o = answered.ordered in absurd (omega (arith, v))
    | failed_read lost more_other from ↦ absurd (true≢false (sym t ∙ ap (λ (x : Option Access). hits_part x a) from))
    | open_read from past why ↦ absurd (elim why [
      | inl x ↦ omega (arith, v)
      | inr x ↦ elim other [ inl y ↦ omega (arith, v, x) | inr y ↦ omega (arith, v, x) ]
    ])
  ]
  | open_read is past why ↦ elim (read_form base most answered) [
    | counted_read small from ↦ rw is (interval_within base wide (min most.hi answered.hi) longer.hi a w (let l = min-le_left most.hi answered.hi in omega (arith, few)) (sym (ap (λ (x : Option Access). hits_part x a) from) ∙ t))
    | failed_read fails other from ↦ absurd (true≢false (sym t ∙ ap (λ (x : Option Access). hits_part x a) from))
    | open_read from also because ↦ rw is (interval_within base wide most.hi longer.hi a w few.1 (sym (ap (λ (x : Option Access). hits_part x a) from) ∙ t))
  ]
]

-- of two parts
two_covers : {p q s t : Bool} → (p ≡ true → s ≡ true) → (q ≡ true → t ≡ true) → (p || q) ≡ true → (s || t) ≡ true
two_covers {p} {q} {s} {t} f g e = either p q s t f g e

two_are : {p q s t : Bool} → p ≡ s → q ≡ t → (p || q) ≡ (s || t)
two_are e f = rw (e, f) refl

-- which registers a row names: those of arguments alone
abbrev is_argument : ℕ → Bool
is_argument r = nat_le 10 r && nat_le r 15

abbrev counts_by_arguments : ByteCount → Bool
counts_by_arguments (Fixed bytes) = true
counts_by_arguments (Register r) = is_argument r
counts_by_arguments (Pages r) = is_argument r
counts_by_arguments (Records r bytes most) = is_argument r

abbrev goes_by_arguments : CallEffect → Bool
goes_by_arguments (Area base count) = is_argument base && counts_by_arguments count
goes_by_arguments (Read base most) = is_argument base && is_argument most
goes_by_arguments Heap = true
goes_by_arguments (Mapping length) = is_argument length

abbrev part_goes : Option CallEffect → Bool
part_goes None = true
part_goes (Some effect) = goes_by_arguments effect

abbrev row_goes : CallRow → Bool
row_goes row = part_goes row.first && part_goes row.second

abbrev rows_go : List CallRow → Bool
rows_go [] = true
rows_go (row ∷ rows) = row_goes row && rows_go rows

all_rows_go : rows_go CALLS ≡ true
all_rows_go = refl

-- what a row of the table says of its registers
data Goes : Option CallRow → Type 0 where
  by_no_row : Goes None
  by_row : (row : CallRow) → row_goes row ≡ true → Goes (Some row)

both_parts : (p q : Bool) → (p && q) ≡ true → (p ≡ true) × (q ≡ true)
both_parts true true h = (refl, refl)
both_parts true false h = cc
both_parts false q h = cc

found_goes : (rows : List CallRow) (number : ℕ) → rows_go rows ≡ true → Goes (call_of rows number)
found_goes [] number h = by_no_row
found_goes (row ∷ rows) number h =
    let both = both_parts (row_goes row) (rows_go rows) h in
    by_test (row.number == number) both.0 (found_goes rows number both.1)
  where
    by_test : (b : Bool) → row_goes row ≡ true → Goes (call_of rows number) → Goes (if b then Some row else call_of rows number)
    by_test true here later = by_row row here
    by_test false here later = later

-- a register of an argument
argument_of : (r : ℕ) → is_argument r ≡ true → (10 ≤ r) × (r ≤ 15)
argument_of r h = grind (arith, h)

module _ (x : ℕ → Range) (answered : Range) (image_end : ℕ) (register : ℕ → ℕ) (answer a : ℕ) where
  module _ (meets : MeetsArguments x register) (lies : Lies answer answered) where
    meets_at : (r : ℕ) → is_argument r ≡ true → Lies (register r) (x r)
    meets_at r h = let o = argument_of r h in meets r o.0 o.1

    area_covers : (base : ℕ) (count : ByteCount) → is_argument base ≡ true → counts_by_arguments count ≡ true → within (register base) (counted register count) a ≡ true → hits_part (interval (x base) (counted_over x count)) a ≡ true
    area_covers base (Fixed bytes) b c t = interval_covers (x base) bytes (register base) bytes a (meets_at base b) (omega arith) t
    area_covers base (Register r) b c t = interval_covers (x base) (x r).hi (register base) (register r) a (meets_at base b) ((meets_at r c).1) t
    area_covers base (Pages r) b c t = interval_covers (x base) ((x r).hi + 4095) (register base) (register r + 4095) a (meets_at base b) (let m = meets_at r c in omega (arith, m)) t
    area_covers base (Records r bytes most) b c t = elim (either_way (nat_le (x r).hi most)) [
      | inl few ↦
          let m = meets_at r c in
          let within_most : nat_le (register r) most ≡ true = grind (arith, few, m) in
          let small : register r * bytes ≤ (x r).hi * bytes = fewer (register r) (x r).hi bytes m.1 in
          rw few (interval_covers (x base) ((x r).hi * bytes) (register base) (register r * bytes) a (meets_at base b) small (subst (λ (k : Bool). within (register base) (if k then register r * bytes else 2 ^ 33) a ≡ true) within_most t))
      | inr many ↦ rw many (every_covers (x base))
    ]
      where
        every_covers : (base : Range) → hits_part (interval base (2 ^ 33)) a ≡ true
        every_covers base = elim (form base (2 ^ 33)) [
          | empty e is ↦ absurd (omega (arith, e))
          | row_of some fits is ↦ absurd (omega (arith, fits))
          | all some past is ↦ rw is refl
        ]

    effect_covers : (effect : CallEffect) → goes_by_arguments effect ≡ true → effect_has image_end register answer effect a ≡ true → hits_part (effect_over image_end x answered effect) a ≡ true
    effect_covers (Area base count) h t = let both = both_parts _ _ h in area_covers base count both.0 both.1 t
    effect_covers (Read base most) h t = let both = both_parts _ _ h in read_covers (x base) (x most) answered (register base) (register most) answer a (meets_at base both.0) (meets_at most both.1) lies t
    effect_covers Heap h t = grown_covers image_end answered answer a lies t
    effect_covers (Mapping length) h t = mapped_covers answered (x length) answer (register length) a lies (meets_at length h) t

    part_covers : (part : Option CallEffect) → part_goes part ≡ true → part_has image_end register answer part a ≡ true → hits_part (part_over image_end x answered part) a ≡ true
    part_covers None h t = t
    part_covers (Some effect) h t = effect_covers effect h t

    row_covers : (row : Option CallRow) → Goes row → row_has image_end register answer row a ≡ true → call_hits (row_over image_end x answered row) a ≡ true
    row_covers None goes t = refl
    row_covers (Some row) (by_row same h) t =
        let two = both_parts (part_goes row.first) (part_goes row.second) h in
        two_covers (part_covers row.first two.0) (part_covers row.second two.1) t

  module _ (known : AreExact x register) (exact : IsExact answered answer) (fits : a < 2 ^ 32) where
    known_at : (r : ℕ) → is_argument r ≡ true → IsExact (x r) (register r)
    known_at r h = let o = argument_of r h in known r o.0 o.1

    counted_exact : (count : ByteCount) → counts_by_arguments count ≡ true → counted_over x count ≡ counted register count
    counted_exact (Fixed bytes) c = refl
    counted_exact (Register r) c = (known_at r c).1
    counted_exact (Pages r) c = ap (λ (k : ℕ). k + 4095) ((known_at r c).1)
    counted_exact (Records r bytes most) c = ap (λ (k : ℕ). if nat_le k most then k * bytes else 2 ^ 33) ((known_at r c).1)

    effect_exact : (effect : CallEffect) → goes_by_arguments effect ≡ true → hits_part (effect_over image_end x answered effect) a ≡ effect_has image_end register answer effect a
    effect_exact (Area base count) h =
        let both = both_parts _ _ h in
        ap (λ (k : ℕ). hits_part (interval (x base) k) a) (counted_exact count both.1) ∙ interval_exact (x base) (register base) (counted register count) a (known_at base both.0) fits
    effect_exact (Read base most) h = let both = both_parts _ _ h in read_exact (x base) (x most) answered (register base) (register most) answer a (known_at base both.0) (known_at most both.1) exact fits
    effect_exact Heap h = grown_exact image_end answered answer a exact fits
    effect_exact (Mapping length) h = mapped_exact answered (x length) answer (register length) a exact (known_at length h) fits

    part_exact : (part : Option CallEffect) → part_goes part ≡ true → hits_part (part_over image_end x answered part) a ≡ part_has image_end register answer part a
    part_exact None h = refl
    part_exact (Some effect) h = effect_exact effect h

    row_exact : (row : Option CallRow) → Goes row → call_hits (row_over image_end x answered row) a ≡ row_has image_end register answer row a
    row_exact None goes = refl
    row_exact (Some row) (by_row same h) =
        let two = both_parts (part_goes row.first) (part_goes row.second) h in
        two_are (part_exact row.first two.0) (part_exact row.second two.1)

module _ (x wide : ℕ → Range) (answered wider : Range) (image_end a : ℕ) (w : AreArgumentsWithin x wide) (v : RangeWithin answered wider) where
  within_at : (r : ℕ) → is_argument r ≡ true → RangeWithin (x r) (wide r)
  within_at r h = let o = argument_of r h in w r o.0 o.1

  area_within : (base : ℕ) (count : ByteCount) → is_argument base ≡ true → counts_by_arguments count ≡ true → hits_part (interval (x base) (counted_over x count)) a ≡ true → hits_part (interval (wide base) (counted_over wide count)) a ≡ true
  area_within base (Fixed bytes) b c t = interval_within (x base) (wide base) bytes bytes a (within_at base b) (omega arith) t
  area_within base (Register r) b c t = interval_within (x base) (wide base) (x r).hi (wide r).hi a (within_at base b) ((within_at r c).1) t
  area_within base (Pages r) b c t = interval_within (x base) (wide base) ((x r).hi + 4095) ((wide r).hi + 4095) a (within_at base b) (let m = within_at r c in omega (arith, m)) t
  area_within base (Records r bytes most) b c t = elim (either_way (nat_le (wide r).hi most)) [
    | inl few ↦
        let m = within_at r c in
        let within_most : nat_le (x r).hi most ≡ true = grind (arith, few, m) in
        let small : (x r).hi * bytes ≤ (wide r).hi * bytes = fewer (x r).hi (wide r).hi bytes m.1 in
        rw few (interval_within (x base) (wide base) ((x r).hi * bytes) ((wide r).hi * bytes) a (within_at base b) small (subst (λ (k : Bool). hits_part (interval (x base) (if k then (x r).hi * bytes else 2 ^ 33)) a ≡ true) within_most t))
    | inr many ↦ rw many (every_within (wide base))
  ]
    where
      every_within : (base : Range) → hits_part (interval base (2 ^ 33)) a ≡ true
      every_within base = elim (form base (2 ^ 33)) [
        | empty e is ↦ absurd (omega (arith, e))
        | row_of some fits is ↦ absurd (omega (arith, fits))
        | all some past is ↦ rw is refl
      ]

  effect_within : (effect : CallEffect) → goes_by_arguments effect ≡ true → hits_part (effect_over image_end x answered effect) a ≡ true → hits_part (effect_over image_end wide wider effect) a ≡ true
  effect_within (Area base count) h t = let both = both_parts _ _ h in area_within base count both.0 both.1 t
  effect_within (Read base most) h t = let both = both_parts _ _ h in read_within (x base) (x most) answered (wide base) (wide most) wider a (within_at base both.0) (within_at most both.1) v t
  effect_within Heap h t = grown_within image_end answered wider a v t
  effect_within (Mapping length) h t = mapped_within answered (x length) wider (wide length) a v (within_at length h) t

  part_within : (part : Option CallEffect) → part_goes part ≡ true → hits_part (part_over image_end x answered part) a ≡ true → hits_part (part_over image_end wide wider part) a ≡ true
  part_within None h t = t
  part_within (Some effect) h t = effect_within effect h t

  row_within : (row : Option CallRow) → Goes row → call_hits (row_over image_end x answered row) a ≡ true → call_hits (row_over image_end wide wider row) a ≡ true
  row_within None goes t = refl
  row_within (Some row) (by_row same h) t =
      let two = both_parts (part_goes row.first) (part_goes row.second) h in
      two_covers (part_within row.first two.0) (part_within row.second two.1) t

-- only the registers of arguments count
module _ (x y : ℕ → Range) (answered : Range) (image_end : ℕ) (same : (r : ℕ) → 10 ≤ r → r ≤ 15 → x r ≡ y r) where
  same_at : (r : ℕ) → is_argument r ≡ true → x r ≡ y r
  same_at r h = let o = argument_of r h in same r o.0 o.1

  counted_alike : (count : ByteCount) → counts_by_arguments count ≡ true → counted_over x count ≡ counted_over y count
  counted_alike (Fixed bytes) c = refl
  counted_alike (Register r) c = ap (λ (b : Range). b.hi) (same_at r c)
  counted_alike (Pages r) c = ap (λ (b : Range). b.hi + 4095) (same_at r c)
  counted_alike (Records r bytes most) c = ap (λ (b : Range). if nat_le b.hi most then b.hi * bytes else 2 ^ 33) (same_at r c)

  effect_alike : (effect : CallEffect) → goes_by_arguments effect ≡ true → effect_over image_end x answered effect ≡ effect_over image_end y answered effect
  effect_alike (Area base count) h =
      let both = both_parts _ _ h in
      ap (λ (b : Range). interval b (counted_over x count)) (same_at base both.0) ∙ ap (λ (k : ℕ). interval (y base) k) (counted_alike count both.1)
  effect_alike (Read base most) h =
      let both = both_parts _ _ h in
      ap (λ (b : Range). was_read_over b (x most) answered) (same_at base both.0) ∙ ap (λ (b : Range). was_read_over (y base) b answered) (same_at most both.1)
  effect_alike Heap h = refl
  effect_alike (Mapping length) h = ap (λ (b : Range). mapped answered b) (same_at length h)

  part_alike : (part : Option CallEffect) → part_goes part ≡ true → part_over image_end x answered part ≡ part_over image_end y answered part
  part_alike None h = refl
  part_alike (Some effect) h = effect_alike effect h

  row_alike : (row : Option CallRow) → Goes row → row_over image_end x answered row ≡ row_over image_end y answered row
  row_alike None goes = refl
  row_alike (Some row) (by_row same h) =
      let two = both_parts (part_goes row.first) (part_goes row.second) h in
      rw (part_alike row.first two.0, part_alike row.second two.1) refl

pub changed_alike : (number : Flat) (x y : ℕ → Range) (answered : Range) (image_end : ℕ) → ((r : ℕ) → 10 ≤ r → r ≤ 15 → x r ≡ y r) → changed number x answered image_end ≡ changed number y answered image_end
changed_alike Unknown x y answered image_end same = refl
changed_alike (Known n) x y answered image_end same = row_alike x y answered image_end same (call_of CALLS n) (found_goes CALLS n all_rows_go)

-- six ranges of arguments, in the order of their registers
module _ (a b c d e f : Range) (x : ℕ → Range) (at10 : a ≡ x 10) (at11 : b ≡ x 11) (at12 : c ≡ x 12) (at13 : d ≡ x 13) (at14 : e ≡ x 14) (at15 : f ≡ x 15) where
  abbrev six : List Range
  six = a ∷ b ∷ c ∷ d ∷ e ∷ f ∷ []

  six_at : (r k : ℕ) → r ≡ k → argument six k ≡ x k → argument six r ≡ x r
  six_at r k is h = subst (λ (n : ℕ). argument six n ≡ x n) (sym is) h

  of_six : (r : ℕ) → 10 ≤ r → r ≤ 15 → argument six r ≡ x r
  of_six r low high = elim (either_way (r == 10)) [
    | inl t ↦ six_at r 10 (grind (arith, t)) at10
    | inr n10 ↦ elim (either_way (r == 11)) [
      | inl t ↦ six_at r 11 (grind (arith, t)) at11
      | inr n11 ↦ elim (either_way (r == 12)) [
        | inl t ↦ six_at r 12 (grind (arith, t)) at12
        | inr n12 ↦ elim (either_way (r == 13)) [
          | inl t ↦ six_at r 13 (grind (arith, t)) at13
          | inr n13 ↦ elim (either_way (r == 14)) [
            | inl t ↦ six_at r 14 (grind (arith, t)) at14
            | inr n14 ↦ six_at r 15 (grind (arith, n10, n11, n12, n13, n14, low, high)) at15
          ]
        ]
      ]
    ]
  ]

pub changed_of_six : (number : Flat) (a b c d e f : Range) (x : ℕ → Range) (answered : Range) (image_end : ℕ) → a ≡ x 10 → b ≡ x 11 → c ≡ x 12 → d ≡ x 13 → e ≡ x 14 → f ≡ x 15 → changed number (argument (a ∷ b ∷ c ∷ d ∷ e ∷ f ∷ [])) answered image_end ≡ changed number x answered image_end
changed_of_six number a b c d e f x answered image_end p q r s t u =
    changed_alike number (argument (a ∷ b ∷ c ∷ d ∷ e ∷ f ∷ [])) x answered image_end (of_six a b c d e f x p q r s t u)

-- each byte that a call may change is one of those that its ranges give
pub changed_covers : (number : ℕ) (x : ℕ → Range) (answered : Range) (image_end : ℕ) (register : ℕ → ℕ) (answer a : ℕ) → number ≡ register 17 → MeetsArguments x register → Lies answer answered → may_change image_end register answer a ≡ true → call_hits (changed_by number x answered image_end) a ≡ true
changed_covers number x answered image_end register answer a named meets lies t =
    subst (λ (n : ℕ). call_hits (changed_by n x answered image_end) a ≡ true) (sym named)
    (row_covers x answered image_end register answer a meets lies (call_of CALLS (register 17)) (found_goes CALLS (register 17) all_rows_go) t)

-- where all is known, no others
pub changed_exact : (number : ℕ) (x : ℕ → Range) (answered : Range) (image_end : ℕ) (register : ℕ → ℕ) (answer a : ℕ) → number ≡ register 17 → AreExact x register → IsExact answered answer → a < 2 ^ 32 → call_hits (changed_by number x answered image_end) a ≡ may_change image_end register answer a
changed_exact number x answered image_end register answer a named known exact fits =
    subst (λ (n : ℕ). call_hits (changed_by n x answered image_end) a ≡ may_change image_end register answer a) (sym named)
    (row_exact x answered image_end register answer a known exact fits (call_of CALLS (register 17)) (found_goes CALLS (register 17) all_rows_go))

-- narrower ranges give no more
within_by : (n : ℕ) (x wide : ℕ → Range) (answered wider : Range) (image_end a : ℕ) → AreArgumentsWithin x wide → RangeWithin answered wider → call_hits (changed_by n x answered image_end) a ≡ true → call_hits (changed_by n wide wider image_end) a ≡ true
within_by n x wide answered wider image_end a w v t = row_within x wide answered wider image_end a w v (call_of CALLS n) (found_goes CALLS n all_rows_go) t

pub changed_within : (number wider_number : Flat) (x wide : ℕ → Range) (answered wider : Range) (image_end a : ℕ) → NumberWithin number wider_number → AreArgumentsWithin x wide → RangeWithin answered wider → call_hits (changed number x answered image_end) a ≡ true → call_hits (changed wider_number wide wider image_end) a ≡ true
changed_within number Unknown x wide answered wider image_end a n w v t = refl
changed_within Unknown (Known m) x wide answered wider image_end a n w v t = absurd n
changed_within (Known k) (Known m) x wide answered wider image_end a n w v t = subst (λ (i : ℕ). call_hits (changed_by i wide wider image_end) a ≡ true) n (within_by k x wide answered wider image_end a w v t)

-- the number that was found
pub is_number : (number : Flat) (call v : ℕ) → number ≡ Known call → IsNumber number v → call ≡ v
is_number number call v is h = let k : IsNumber (Known call) v = subst (λ (x : Flat). IsNumber x v) is h in sym k

pub same_number : (number : Flat) (call v : ℕ) → number ≡ Known call → number ≡ Known v → call ≡ v
same_number number call v is named = let both : Known call ≡ Known v = sym is ∙ named in cc
