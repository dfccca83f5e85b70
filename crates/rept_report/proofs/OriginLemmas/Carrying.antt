-- Over which next moments a byte is carried, row by row.
use Rattle.std.proofs.Common.{◌≡◌, ℕ, zero, suc, ◌+◌, ◌<◌, ◌≤◌, Bool, true, false, not, ◌&&◌, ◌||◌, inl, inr, Option, Some, None, refl, sym, subst, ◌∙◌, arith}
use Rattle.std.proofs.lemmas.Bool.{cases_Bool, cases_eq, cases_lt, and_from, true≢false}
use Rattle.rept_report.specs.Moments.{Moments}
use Rattle.rept_report.specs.Spots.{Passage, passage}
use Rattle.rept_report.specs.Timeline.{Timeline, IsTimeline, IsActingFrom}
use Rattle.rept_report.specs.declared.origin.step.Direction.{Direction}
use Rattle.rept_report.specs.declared.origin.step.Direction.TheVariants.{Onward, Back}
use Rattle.rept_report.specs.Origin.Bridges.{ByteAlong, spares, leads_by, carries_by, carried_next, IsLeastFrom}

neither : (b c : Bool) → (b ≡ true → c ≡ false) → not (b && c) ≡ true
neither true c h = rw (h refl) refl
neither false c h = refl

blocked : (b c d : Bool) → b ≡ true → c ≡ true → (not (b && c) && d) ≡ false
blocked b c d e f = rw (e, f) refl

also_false : (b d : Bool) → d ≡ false → (b && d) ≡ false
also_false true d e = e
also_false false d e = refl

module _ (moments : Moments) (may : ℕ → ℕ → Bool) (x : Passage) where
  spared_below : (n : ℕ) → ((i : ℕ) → i < n → moments.may_act i x.from x.to ≡ true → may i x.address ≡ false) → spares moments may x n ≡ true
  spared_below zero h = refl
  spared_below (suc n) h = and_from (not (moments.may_act n x.from x.to && may n x.address)) (spares moments may x n) (neither (moments.may_act n x.from x.to) (may n x.address) (h n (omega arith))) (spared_below n (λ i below. h i (omega (arith, below))))

  spared_not : (n i : ℕ) → i < n → moments.may_act i x.from x.to ≡ true → may i x.address ≡ true → spares moments may x n ≡ false
  spared_not zero i below may_act writes = absurd (omega (arith, below))
  spared_not (suc n) i below may_act writes = elim (cases_eq i n) [
    | inl same ↦ blocked (moments.may_act n x.from x.to) (may n x.address) (spares moments may x n) (subst (λ (k : ℕ). moments.may_act k x.from x.to ≡ true) same may_act) (subst (λ (k : ℕ). may k x.address ≡ true) same writes)
    | inr ne ↦ also_false (not (moments.may_act n x.from x.to && may n x.address)) (spares moments may x n) (spared_not n i (omega (arith, below, ne)) may_act writes)
  ]

module _ (t : Timeline) (b : ByteAlong) (m w : ℕ) where
  -- none of the rows below a number that may act between may write the byte
  abbrev pub AreSparedBelow : ℕ → Type 0
  AreSparedBelow least = (i : ℕ) → i < least → t.moments.may_act i m w ≡ true → b.may i b.address ≡ false

  abbrev pub is_spared : Bool
  is_spared = spares t.moments b.may (passage b.address m w) t.legs.count

  pub spared_first : AreSparedBelow 0
  spared_first i below may_act = absurd (omega (arith, below))

  pub spared_more : (least i : ℕ) → IsActingFrom t m w least (Some i) → b.may i b.address ≡ false → AreSparedBelow least → AreSparedBelow (i + 1)
  spared_more least i (inside, may_act, low, first) spared before j below acting = elim (cases_lt j least) [
    | inl less ↦ before j less acting
    | inr more ↦ elim (cases_eq j i) [
      | inl same ↦ rw same spared
      | inr ne ↦ absurd (true≢false (sym acting ∙ first j more (omega (arith, below, ne))))
    ]
  ]

  pub none_may_act : (least : ℕ) → IsActingFrom t m w least None → AreSparedBelow least → true ≡ is_spared
  none_may_act least none before = sym (spared_below t.moments b.may (passage b.address m w) t.legs.count (λ i below may_act. elim (cases_lt i least) [
    | inl less ↦ before i less may_act
    | inr more ↦ absurd (true≢false (sym may_act ∙ none i more below))
  ]))

  pub one_writes : (least i : ℕ) → IsActingFrom t m w least (Some i) → b.may i b.address ≡ true → false ≡ is_spared
  one_writes least i (inside, may_act, low, first) writes = sym (spared_not t.moments b.may (passage b.address m w) t.legs.count i inside may_act writes)

  pub all_spared : (least : ℕ) → t.legs.count ≤ least → AreSparedBelow least → true ≡ is_spared
  all_spared least done before = sym (spared_below t.moments b.may (passage b.address m w) t.legs.count (λ i below may_act. before i (omega (arith, below, done)) may_act))

-- a search for the least number by numbers of which it may hold at all
module _ (f next : ℕ → Bool) (only : (n : ℕ) → f n ≡ true → next n ≡ true) (least : ℕ) where
  abbrev pub AreNot : ℕ → Type 0
  AreNot from = (n : ℕ) → least ≤ n → n < from → f n ≡ false

  isnt : (n : ℕ) → next n ≡ false → f n ≡ false
  isnt n e = elim (cases_Bool (f n)) [ inl is ↦ absurd (true≢false (sym (only n is) ∙ e)) | inr out ↦ out ]

  pub not_first : AreNot least
  not_first n low below = absurd (omega (arith, low, below))

  pub not_more : (from n : ℕ) → least ≤ from → IsLeastFrom next from (Some n) → {told : Bool} → told ≡ f n → told ≡ false → AreNot from → AreNot (n + 1)
  not_more from n up (is, low, first) of out before k lower below = elim (cases_lt k from) [
    | inl less ↦ before k lower less
    | inr more ↦ elim (cases_eq k n) [ inl same ↦ rw same (sym of ∙ out) | inr ne ↦ isnt k (first k more (omega (arith, below, ne))) ]
  ]

  pub least_found : (from n : ℕ) → least ≤ from → IsLeastFrom next from (Some n) → {told : Bool} → told ≡ f n → told ≡ true → AreNot from → IsLeastFrom f least (Some n)
  least_found from n up (is, low, first) of holds before = (
    sym of ∙ holds,
    omega (arith, up, low),
    λ k lower below. elim (cases_lt k from) [
      | inl less ↦ before k lower less
      | inr more ↦ isnt k (first k more below)
    ],
  )

  pub least_none : (from : ℕ) → IsLeastFrom next from None → AreNot from → IsLeastFrom f least None
  least_none from none before k lower = elim (cases_lt k from) [ inl less ↦ before k lower less | inr more ↦ isnt k (none k more) ]

  pub least_past : (from end : ℕ) → ((n : ℕ) → next n ≡ true → n ≤ end) → end < from → AreNot from → IsLeastFrom f least None
  least_past from end inside past before k lower = elim (cases_lt k from) [
    | inl less ↦ before k lower less
    | inr more ↦ isnt k (outside k more)
  ]
    where
      outside : (k : ℕ) → from ≤ k → next k ≡ false
      outside k more = elim (cases_Bool (next k)) [ inl is ↦ let early = inside k is in absurd (omega (arith, early, past, more)) | inr out ↦ out ]

-- the steps to a moment, one way
abbrev pub leads : Timeline → ℕ → Direction → ℕ → Bool
leads t m way w = leads_by t m (record { from = w; way = way })

abbrev pub carries : Timeline → ByteAlong → ℕ → Direction → ℕ → Bool
carries t b m way w = carries_by t b m (record { from = w; way = way })

pub carries_leads : (t : Timeline) (b : ByteAlong) (m : ℕ) (way : Direction) (w : ℕ) → carries t b m way w ≡ true → leads t m way w ≡ true
carries_leads t b m Onward w e = carried_next t b w m e
carries_leads t b m Back w e = carried_next t b m w e

pub leads_inside : (t : Timeline) → IsTimeline t → (m : ℕ) (way : Direction) (w : ℕ) → leads t m way w ≡ true → w ≤ t.moments.end
leads_inside t laws m Onward w e = (laws.moments.inside w m e).0
leads_inside t laws m Back w e = (laws.moments.inside m w e).1

-- the lesser of two
both_false : (a b : Bool) → a ≡ false → b ≡ false → (a || b) ≡ false
both_false a b e f = rw (e, f) refl

first_true : (a b : Bool) → a ≡ true → (a || b) ≡ true
first_true a b e = rw e refl

second_true : (a b : Bool) → b ≡ true → (a || b) ≡ true
second_true true b e = refl
second_true false b e = e

module _ (f g : ℕ → Bool) (least : ℕ) where
  pub lesser_none : (o : Option ℕ) → IsLeastFrom f least None → IsLeastFrom g least o → IsLeastFrom (λ n. f n || g n) least o
  lesser_none None h k = λ n low. both_false (f n) (g n) (h n low) (k n low)
  lesser_none (Some m) h (is, low, first) = (second_true (f m) (g m) is, low, λ n lower below. both_false (f n) (g n) (h n lower) (first n lower below))

  pub lesser_one : (m : ℕ) → IsLeastFrom f least (Some m) → IsLeastFrom g least None → IsLeastFrom (λ n. f n || g n) least (Some m)
  lesser_one m (is, low, first) k = (first_true (f m) (g m) is, low, λ n lower below. both_false (f n) (g n) (first n lower below) (k n lower))

  pub lesser_first : (m n : ℕ) → m ≤ n → IsLeastFrom f least (Some m) → IsLeastFrom g least (Some n) → IsLeastFrom (λ n. f n || g n) least (Some m)
  lesser_first m n le (is, low, first) (its, up, second) = (first_true (f m) (g m) is, low, λ k lower below. both_false (f k) (g k) (first k lower below) (second k lower (omega (arith, le, below))))

  pub lesser_second : (m n : ℕ) → n ≤ m → IsLeastFrom f least (Some m) → IsLeastFrom g least (Some n) → IsLeastFrom (λ n. f n || g n) least (Some n)
  lesser_second m n le (is, low, first) (its, up, second) = (second_true (f n) (g n) its, up, λ k lower below. both_false (f k) (g k) (first k lower (omega (arith, le, below))) (second k lower below))
