-- What the rows of one kind tell of those that may act between two numbers, or before or after one.
use Rattle.std.proofs.Common.{◌≡◌, ℕ, ◌+◌, ◌<◌, ◌≤◌, ◌⊎◌, Bool, true, false, List, length, get_or, Option, None, Some, inl, inr, refl, sym, ◌∙◌, ap, subst, arith}
use Rattle.std.specs.Prelude.{max, slice_get}
use Rattle.std.specs.List.{Contains}
use Rattle.std.proofs.lemmas.Bool.{cases_lt}
use Rattle.std.proofs.lemmas.List.{get_or_default}
use Rattle.std.proofs.Math.ListN.{get_or-eq_default}
use Rattle.std.proofs.lemmas.Option.{slice_get-get_or, slice_get_within}
use Rattle.rept_alias.specs.Accesses.{call_hits}
use Rattle.rept_writing.specs.declared.columns.Columns.{Columns}
use Rattle.rept_writing.specs.declared.list.Writing.{Writing}
use Rattle.rept_writing.specs.Hits.{IsFreeSince, IsMeeting, IsNextHitBelow, IsNextMeeting, IsPastHitFrom, IsSplitAt, Link, hits_at, writing_hits}
use Rattle.rept_writing.specs.Filed.{IsFirst, sooner}
use Rattle.rept_writing.specs.Acting.{AreColumns, IsAround, IsSince, IsSplitByActing}
use Rattle.rept_writing.proofs.Filing.{first_within, sooner_first}
use Rattle.rept_writing.proofs.Passing.{at_or_after, place_of}

pub true≢false : true ≡ false → ⊥
true≢false e = cc

row_is : (list : List Writing) (k : ℕ) (d w : Writing) → slice_get list k ≡ Some w → get_or list k d ≡ w
row_is list k d w is = let e = slice_get-get_or list k d (slice_get_within list k w is) in cc

-- that a row meets a link
abbrev pub Meets : Link → Writing → Type 0
Meets link x = (call_hits x.access link.address ≡ true) × (link.from < x.to) × (x.from ≤ link.to)

pub meeting_at : (list : List Writing) (link : Link) (j : ℕ) (x : Writing) → slice_get list j ≡ Some x → Meets link x → IsMeeting list link j
meeting_at list link j x is meets = record { writing = x; stands = is; hits = meets.0; above = meets.1; below = meets.2 }

pub not_meeting : (list : List Writing) (link : Link) (j : ℕ) (x : Writing) (b : Bool) → slice_get list j ≡ Some x → (Meets link x → b ≡ true) → b ≡ false → IsMeeting list link j → ⊥
not_meeting list link j x b is says isnt met =
    let e : Some met.writing ≡ Some x = sym met.stands ∙ is in
    let same : met.writing ≡ x = cc in
    true≢false (sym (says (subst (Meets link) same (met.hits, met.above, met.below))) ∙ isnt)

-- the rows that were gone back over may act before a number
abbrev pub IsGoneBack : List Writing → Columns → (ℕ → ℕ → ℕ → ℕ → Type 0)
IsGoneBack list c p end found a = (q : ℕ) (x : Writing) → p ≤ q → q < end → slice_get list (get_or c.places.items q 0) ≡ Some x → call_hits x.access a ≡ true → x.to ≤ found

-- those that were gone over may act to no lower number
abbrev pub IsGoneOver : List Writing → Columns → (ℕ → ℕ → ℕ → ℕ → Type 0)
IsGoneOver list c start p found a = (q : ℕ) (x : Writing) → start ≤ q → q < p → slice_get list (get_or c.places.items q 0) ≡ Some x → call_hits x.access a ≡ true → found ≤ x.from

-- none of them meets the link
abbrev pub NoneMeets : List Writing → Columns → Link → ℕ → ℕ → Type 0
NoneMeets list c link start p = (q : ℕ) → start ≤ q → q < p → IsMeeting list link (get_or c.places.items q 0) → ⊥

module _ (list : List Writing) (c : Columns) (a : AreColumns list c) where
  -- a row that may act above a number isn't before the place up to which none does
  not_past : (m low p : ℕ) (x : Writing) → IsSplitByActing c.lasts.items (m + 1) low → p < length c.places.items → slice_get list (get_or c.places.items p 0) ≡ Some x → m < x.to → low ≤ p
  not_past m low p x cut inside is above = elim (cases_lt p low) [
    | inl lt ↦ absurd (omega (arith, cut.below p lt, a.no_later p p x (omega arith) inside is, above))
    | inr le ↦ le
  ]

  -- and one that may act to a number up to one is before the place from which on none does
  not_ahead : (w high p : ℕ) (x : Writing) → IsSplitByActing c.firsts.items (w + 1) high → p < length c.places.items → slice_get list (get_or c.places.items p 0) ≡ Some x → x.from ≤ w → p < high
  not_ahead w high p x cut inside is below = elim (cases_lt p high) [
    | inl lt ↦ lt
    | inr le ↦ absurd (omega (arith, cut.above p le (omega (arith, inside, a.as_many_firsts)), a.no_sooner p p x (omega arith) inside is, below))
  ]

  -- its place
  place : (j : ℕ) (x : Writing) → slice_get list j ≡ Some x → x.is_call ≡ c.is_call → (p : ℕ) × (p < length c.places.items) × (get_or c.places.items p 0 ≡ j) × (slice_get list (get_or c.places.items p 0) ≡ Some x)
  place j x is kind =
      let (p, inside, e) = place_of c.places.items j (a.complete j x is kind) in
      (p, inside, e, subst (λ (n : ℕ). slice_get list n ≡ Some x) (sym e) is)

  pub around_of : (m w low high first after : ℕ) → IsSplitByActing c.lasts.items (m + 1) low → IsSplitByActing c.firsts.items (w + 1) high → first ≡ get_or c.places.items low (length list) → after ≡ get_or c.places.items high (length list) → IsAround list c.is_call (record { from = m; to = w; address = 0 }) first after
  around_of m w low high first after late ahead is_first is_after j x is kind above below =
      let (p, inside, e, at) = place j x is kind in
      let from = not_past m low p x late inside at above in
      let to = not_ahead w high p x ahead inside at below in (
        omega (arith, e, is_first, a.rising low p (length list) from inside, get_or_default c.places.items p (length list) 0 inside),
        elim (cases_lt high (length c.places.items)) [
          | inl more ↦ omega (arith, e, is_after, a.apart p high to more, get_or_default c.places.items high (length list) 0 more)
          | inr all ↦ omega (arith, is_after, get_or-eq_default c.places.items (length list) all, slice_get_within list j x is)
        ],
      )

  -- none meets a link, where all that may act to its second number or before lie among those that
  -- may act up to its first one
  pub none_apart : (k m w b late end : ℕ) → IsSplitByActing c.lasts.items (m + 1) late → IsSplitByActing c.firsts.items (w + 1) end → end ≤ late → IsFirst (λ j. Contains c.places.items j × IsMeeting list (record { from = m; to = w; address = b }) j) k (length list) None
  none_apart k m w b late end passed ahead apart j from lt (there, met) =
      let (q, inside, e) = place_of c.places.items j there in
      let at = subst (λ (n : ℕ). slice_get list n ≡ Some met.writing) (sym e) met.stands in
      let low = not_past m late q met.writing passed inside at met.above in
      let high = not_ahead w end q met.writing ahead inside at met.below in
      omega (arith, low, high, apart)

  module _ (k m w b late begin end : ℕ) (passed : IsSplitByActing c.lasts.items (m + 1) late) (cut : IsSplitByActing c.places.items k begin) (ahead : IsSplitByActing c.firsts.items (w + 1) end) where
    met_place : (j : ℕ) → k ≤ j → Contains c.places.items j → IsMeeting list (record { from = m; to = w; address = b }) j → (q : ℕ) × (max late begin ≤ q) × (q < end) × (q < length c.places.items) × (get_or c.places.items q 0 ≡ j)
    met_place j from there met =
        let (q, inside, e) = place_of c.places.items j there in
        let at = subst (λ (n : ℕ). slice_get list n ≡ Some met.writing) (sym e) met.stands in
        let low = not_past m late q met.writing passed inside at met.above in
        let start = at_or_after c.places.items k begin q cut (omega (arith, e, from)) in
        let high = not_ahead w end q met.writing ahead inside at met.below in
        (q, omega (arith, low, start), high, inside, e)

    pub none_met : (p : ℕ) → NoneMeets list c (record { from = m; to = w; address = b }) (max late begin) p → end ≤ p → IsFirst (λ j. Contains c.places.items j × IsMeeting list (record { from = m; to = w; address = b }) j) k (length list) None
    none_met p none all j from lt (there, met) =
        let (q, low, high, inside, e) = met_place j from there met in
        none q low (omega (arith, high, all)) (subst (IsMeeting list (record { from = m; to = w; address = b })) (sym e) met)

    pub first_met : (p : ℕ) → NoneMeets list c (record { from = m; to = w; address = b }) (max late begin) p → max late begin ≤ p → p < end → IsMeeting list (record { from = m; to = w; address = b }) (get_or c.places.items p 0) → IsFirst (λ j. Contains c.places.items j × IsMeeting list (record { from = m; to = w; address = b }) j) k (length list) (Some (get_or c.places.items p 0))
    first_met p none low high met = (cut.above p (omega (arith, low)) inside, a.inside p 0 inside, ((p, inside, get_or_default c.places.items p _ 0 inside), met), before)
      where
        inside : p < length c.places.items
        inside = omega (arith, high, ahead.bound, a.as_many_firsts)

        before : (j : ℕ) → k ≤ j → j < get_or c.places.items p 0 → Contains c.places.items j × IsMeeting list (record { from = m; to = w; address = b }) j → ⊥
        before j from lt (there, meets) =
            let (q, after, to, here, e) = met_place j from there meets in
            let less : q < p = elim (cases_lt q p) [ inl less ↦ less | inr le ↦ absurd (omega (arith, a.rising p q 0 le here, e, lt)) ] in
            none q after less (subst (IsMeeting list (record { from = m; to = w; address = b })) (sym e) meets)

-- A search from hit to hit. None before an index meets the link.
abbrev pub NoneMet : List Writing → Link → ℕ → ℕ → Type 0
NoneMet list link k from = (j : ℕ) → k ≤ j → j < from → IsMeeting list link j → ⊥

met_hits : (list : List Writing) (link : Link) (j : ℕ) → IsMeeting list link j → hits_at list j link.address ≡ true
met_hits list link j met = ap (λ w. writing_hits w link.address) met.stands ∙ met.hits

pub none_hit : (list : List Writing) (link : Link) (k from end : ℕ) → NoneMet list link k from → IsNextHitBelow list from end link.address None → IsFirst (IsMeeting list link) k end None
none_hit list link k from end none nothing j low high met = elim (cases_lt j from) [
  | inl lt ↦ none j low lt met
  | inr le ↦ true≢false (sym (met_hits list link j met) ∙ nothing j le high)
]

pub first_hit : (list : List Writing) (link : Link) (k from end h : ℕ) → k ≤ from → NoneMet list link k from → IsNextHitBelow list from end link.address (Some h) → IsMeeting list link h → IsFirst (IsMeeting list link) k end (Some h)
first_hit list link k from end h low none (lt, first) met = (
  omega (arith, low, first.from),
  lt,
  met,
  λ j since before meets. elim (cases_lt j from) [
    | inl less ↦ none j since less meets
    | inr le ↦ true≢false (sym (met_hits list link j meets) ∙ first.none_before j le before)
  ],
)

pub next_met : (list : List Writing) (link : Link) (k from end h : ℕ) → NoneMet list link k from → IsNextHitBelow list from end link.address (Some h) → (IsMeeting list link h → ⊥) → NoneMet list link k (h + 1)
next_met list link k from end h none (lt, first) not j since before meets = elim (cases_lt j from) [
  | inl less ↦ none j since less meets
  | inr le ↦ elim (cases_lt j h) [
    | inl less ↦ true≢false (sym (met_hits list link j meets) ∙ first.none_before j le less)
    | inr same ↦ let e : j ≡ h = omega (arith, before, same) in not (subst (IsMeeting list link) e meets)
  ]
]

pub either_kind : (b : Bool) → (b ≡ true) ⊎ (b ≡ false)
either_kind true = inl refl
either_kind false = inr refl

pub meeting_of : (list : List Writing) (link : Link) (k : ℕ) (r : Option ℕ) → IsFirst (IsMeeting list link) k (length list) r → IsNextMeeting list k link r
meeting_of list link k None none = λ j low met. none j low (slice_get_within list j met.writing met.stands) met
meeting_of list link k (Some h) first = (first.0, first.2, first.3)

-- the first one of the calls and of the others
pub sooner_meeting : (list : List Writing) (calls : Columns) (k m w a low high : ℕ) (x y : Option ℕ) → AreColumns list calls → calls.is_call ≡ true → IsAround list false (record { from = m; to = w; address = 0 }) low high → IsFirst (λ j. IsMeeting list (record { from = m; to = w; address = a }) j) (max k low) high x → IsFirst (λ j. Contains calls.places.items j × IsMeeting list (record { from = m; to = w; address = a }) j) k (length list) y → IsNextMeeting list k (record { from = m; to = w; address = a }) (sooner x y)
sooner_meeting list calls k m w a low high x y columns are_calls around first second =
    meeting_of list (record { from = m; to = w; address = a }) k (sooner x y)
    (sooner_first (λ j. IsMeeting list (record { from = m; to = w; address = a }) j × (low ≤ j) × (j < high)) (λ j. Contains calls.places.items j × IsMeeting list (record { from = m; to = w; address = a }) j) (IsMeeting list (record { from = m; to = w; address = a })) k (length list) x y
    (λ j met. met.0) (λ j met. met.1)
    (λ j met. elim (either_kind met.writing.is_call) [
      | inl call ↦ inr (columns.complete j met.writing met.stands (call ∙ sym are_calls), met)
      | inr other ↦ let within = around j met.writing met.stands other met.above met.below in inl (met, within.0, within.1)
    ])
    (first_within (λ j. IsMeeting list (record { from = m; to = w; address = a }) j) k low high (length list) x (λ j met. slice_get_within list j met.writing met.stands) first) second)

pub since_free : (list : List Writing) (number a k low past since result : ℕ) → IsSplitAt list number k → IsPastHitFrom list low number a past → IsSince list false (λ j w. j < past) since → since ≤ result → IsSince list true (λ j w. (j < k) × (call_hits w.access a ≡ true)) result → IsFreeSince list number a result
since_free list number a k low past since result split hit others le calls j x is lower hits = elim (either_kind x.is_call) [
  | inl call ↦ calls j x is call (elim (cases_lt j k) [ inl lt ↦ lt | inr from ↦ absurd (omega (arith, split.above j x is from, lower)) ], hits)
  | inr other ↦ omega (arith, le, others j x is other (elim (cases_lt j past) [ inl lt ↦ lt | inr from ↦ absurd (hit.none_after j from (record { writing = x; stands = is; lower = lower; hits = hits })) ]))
]
