-- The row that last wrote a byte, found by the list of the rows that may write.
use Rattle.std.proofs.Common.{◌≡◌, ◌≢◌, ℕ, ◌+◌, ◌<◌, ◌≤◌, ◌^◌, ◌⊎◌, if◌then◌else◌, Bool, true, false, Option, Some, None, IsSome, inl, inr, refl, sym, ap, subst, ◌∙◌, arith, length, slice_get}
use Rattle.std.proofs.lemmas.Bool.{cases_eq, cases_lt, cases_order, false≢true}
use Rattle.std.proofs.lemmas.Option.{same_Some, slice_get_within}
use Rattle.rept_reason.specs.Facts.{Knowledge, told}
use Rattle.rept_report.specs.Last.Latest.{IsMaybe}
use Rattle.rept_report.specs.Latest.{IsEarlierRow, IsLatest}
use Rattle.rept_report.specs.Log.{oldest}
use Rattle.rept_report.specs.Moments.{Moments}
use Rattle.rept_report.specs.Setting.{Setting}
use Rattle.rept_report.specs.Spots.{Spot, spot}
use Rattle.rept_report.specs.Timeline.{IsLeastFrom}
use Rattle.rept_report.specs.Views.{may_write}
use Rattle.rept_writing.specs.Hits.{IsNextHitBelow, hits_at, writing_hits}
use Rattle.rept_writing.specs.declared.list.Writing.{Writing}
use Rattle.rept_facts.specs.State.{AnalysisState, along, timeline_of}
use Rattle.rept_facts.specs.Inferring.{IsSettled}
use Rattle.rept_facts.specs.Latest.{IsBegunEntry, writes_by}
use Rattle.rept_facts.proofs.Settled.{listed_hit}

-- none of the rows of the list from an index to before another one
abbrev pub AreNoneFrom : {W : Type 0} → Spot → AnalysisState W → ℕ → ℕ → Type 0
AreNoneFrom x s k n = (j : ℕ) → k ≤ j → j < n → IsBegunEntry x s j → ⊥

-- the row stands in the list, at an index from this one on
pub record IsEntryFrom {W : Type 0} (x : Spot) (s : AnalysisState W) (k i : ℕ) : Type 0 where
  pub index : ℕ
  pub from : k ≤ index
  pub entry : IsBegunEntry x s index
  pub row_is : entry.writing.row ≡ i

-- where a row is the last one of those that may have written the byte, it is this one, or stands at
-- an index from this one on
abbrev pub IsOnlyFrom : {W : Type 0} → Spot → AnalysisState W → ℕ → ℕ → Type 0
IsOnlyFrom x s k best = (j : ℕ) → IsLatest s.path.given.moments (IsMaybe (timeline_of s) (writes_by (along s.path) (told (oldest s.filled s.known.log))) x) j → (best ≡ j) ⊎ IsEntryFrom x s k j

-- each row of the list before an index that may have written the byte lies before this row, but for
-- it
abbrev pub AreBeforeTo : {W : Type 0} → Spot → AnalysisState W → ℕ → ℕ → Type 0
AreBeforeTo x s k best = (h : ℕ) (e : IsBegunEntry x s h) → h < k → e.writing.row ≢ best → s.path.given.moments.later best e.writing.row ≡ true

-- an index that wasn't found
pub none_least : (P : ℕ → Type 0) (k : ℕ) (o : Option ℕ) → ((h : ℕ) → o ≡ Some h → ⊥) → IsLeastFrom P k o → IsLeastFrom P k None
none_least P k None never none = none
none_least P k (Some h) never its = absurd (never h refl)

module _ {W : Type 0} (x : Spot) (s : AnalysisState W) where
  pub none_yet : (k : ℕ) → AreNoneFrom x s k k
  none_yet k j low high e = absurd (omega (arith, low, high))

  entry_within : (j : ℕ) → IsBegunEntry x s j → j < length s.work.writing
  entry_within j e = slice_get_within s.work.writing j e.writing e.stands

  pub none_past : (k n : ℕ) → AreNoneFrom x s k n → length s.work.writing ≤ n → IsLeastFrom (IsBegunEntry x s) k None
  none_past k n none far j low e = let within = entry_within j e in none j low (omega (arith, within, far)) e

  -- which the list says of no row from an index on
  entry_hits : (j : ℕ) (e : IsBegunEntry x s j) → hits_at s.work.writing j x.address ≡ true
  entry_hits j e = rw e.stands e.hits

  pub none_listed : (k from end : ℕ) (o : Option ℕ) → AreNoneFrom x s k from → end ≡ length s.work.writing → ((h : ℕ) → o ≡ Some h → ⊥) → IsNextHitBelow s.work.writing from end x.address o → IsLeastFrom (IsBegunEntry x s) k None
  none_listed k from end (Some h) none all never its j low e = never h refl
  none_listed k from end None none all never free j low e =
      elim (cases_order j from) [
        | inl same ↦ at j (omega (arith, same)) e
        | inr (inl less) ↦ none j low less e
        | inr (inr more) ↦ at j (omega (arith, more)) e
      ]
    where
      at : (j : ℕ) → from ≤ j → IsBegunEntry x s j → ⊥
      at j past e = let within = entry_within j e in false≢true (sym (free j past (omega (arith, within, all))) ∙ entry_hits j e)

  pub none_before : (k from end h : ℕ) → AreNoneFrom x s k from → IsNextHitBelow s.work.writing from end x.address (Some h) → AreNoneFrom x s k h
  none_before k from end h none its j low high e =
      elim (cases_order j from) [
        | inl same ↦ at j (omega (arith, same)) high e
        | inr (inl less) ↦ none j low less e
        | inr (inr more) ↦ at j (omega (arith, more)) high e
      ]
    where
      at : (j : ℕ) → from ≤ j → j < h → IsBegunEntry x s j → ⊥
      at j past high e = false≢true (sym (its.1.none_before j past high) ∙ entry_hits j e)

  -- nor at it, where its row lies wholly after the moment
  pub none_at : (k h : ℕ) (w : Writing) → AreNoneFrom x s k h → slice_get s.work.writing h ≡ Some w → s.path.given.moments.ahead w.row x.moment ≡ true → AreNoneFrom x s k (h + 1)
  none_at k h w none found ahead j low high e =
      elim (cases_order j h) [
        | inl same ↦
            let here : slice_get s.work.writing h ≡ Some e.writing = subst (λ (n : ℕ). slice_get s.work.writing n ≡ Some e.writing) same e.stands in
            let is : w ≡ e.writing = same_Some w e.writing (sym found ∙ here) in
            false≢true (sym e.begun ∙ subst (λ (v : Writing). s.path.given.moments.ahead v.row x.moment ≡ true) is ahead)
        | inr (inl less) ↦ none j low less e
        | inr (inr more) ↦ absurd (omega (arith, more, high))
      ]

  pub entry_at : (from end h : ℕ) (w : Writing) → IsNextHitBelow s.work.writing from end x.address (Some h) → slice_get s.work.writing h ≡ Some w → s.path.given.moments.ahead w.row x.moment ≡ false → IsBegunEntry x s h
  entry_at from end h w its found begun = record {
    writing = w;
    stands = found;
    hits = subst (λ (o : Option Writing). writing_hits o x.address ≡ true) found its.1.hits;
    begun = begun;
  }

  -- the entry is what stands there
  pub entry_row : (h : ℕ) (w : Writing) → slice_get s.work.writing h ≡ Some w → (e : IsBegunEntry x s h) → e.writing.row ≡ w.row
  entry_row h w found e = ap (λ (v : Writing). v.row) (same_Some e.writing w (sym e.stands ∙ found))

-- where all is learnt, these are the rows that may have written the byte before the moment
module _ {W : Type 0} (s : AnalysisState W) (settled : IsSettled s) (m a : ℕ) (small : a < 2 ^ 32) where
  abbrev S : Setting W
  S = along s.path

  abbrev K : Knowledge
  K = told (oldest s.filled s.known.log)

  abbrev M : Moments
  M = s.path.given.moments

  abbrev Is : ℕ → Type 0
  Is = IsMaybe (timeline_of s) (writes_by S K) (spot m a)

  abbrev IsEntry : ℕ → Type 0
  IsEntry = IsBegunEntry (spot m a) s

  pub entry_maybe : (h : ℕ) (e : IsEntry h) → Is e.writing.row
  entry_maybe h e = record { begun = record { row = (settled.writings.barriers.each h e.writing e.stands).there; begun_at = e.begun }; may = settled.exact h e.writing a e.stands small e.hits }

  maybe_entry : (i : ℕ) → Is i → IsEntryFrom (spot m a) s 0 i
  maybe_entry i one =
      let hit = listed_hit s settled a small i one.may in
      record {
        index = hit.index;
        from = omega arith;
        entry = record { writing = hit.writing; stands = hit.found; hits = hit.hits; begun = subst (λ (n : ℕ). M.ahead n m ≡ false) (sym hit.row_is) one.begun.begun_at };
        row_is = hit.row_is;
      }

  pub none_maybe : IsLeastFrom IsEntry 0 None → (i : ℕ) → Is i → ⊥
  none_maybe none i one = let e = maybe_entry i one in none e.index (omega arith) e.entry

  -- of those from an index on either it is the first one, or one further on
  parted : (k h j : ℕ) (e : IsEntry h) → AreNoneFrom (spot m a) s k h → IsEntryFrom (spot m a) s k j → (e.writing.row ≡ j) ⊎ IsEntryFrom (spot m a) s (h + 1) j
  parted k h j e none x =
      elim (cases_order x.index h) [
        | inl same ↦
            let here : slice_get s.work.writing h ≡ Some x.entry.writing = subst (λ (n : ℕ). slice_get s.work.writing n ≡ Some x.entry.writing) same x.entry.stands in
            inl (entry_row (spot m a) s h x.entry.writing here e ∙ x.row_is)
        | inr (inl less) ↦ absurd (none x.index x.from less x.entry)
        | inr (inr more) ↦ inr (record { index = x.index; from = omega (arith, more); entry = x.entry; row_is = x.row_is })
      ]

  pub only_first : (h best : ℕ) → AreNoneFrom (spot m a) s 0 h → IsOnlyFrom (spot m a) s h best
  only_first h best none j last =
      let x = maybe_entry j last.one in
      elim (cases_lt x.index h) [
        | inl less ↦ absurd (none x.index (omega arith) less x.entry)
        | inr from ↦ inr (record { index = x.index; from = from; entry = x.entry; row_is = x.row_is })
      ]

  pub maybe_at : (h : ℕ) (w : Writing) → slice_get s.work.writing h ≡ Some w → IsEntry h → Is w.row
  maybe_at h w found e = subst Is (entry_row (spot m a) s h w found e) (entry_maybe h e)

  pub only_none : (k best : ℕ) → IsLeastFrom IsEntry k None → IsOnlyFrom (spot m a) s k best → (j : ℕ) → IsLatest M Is j → best ≡ j
  only_none k best none only j last =
      elim (only j last) [
        | inl same ↦ same
        | inr x ↦ absurd (none x.index x.from x.entry)
      ]

  -- the one of two that is later takes the other's place
  module _ (k h best next : ℕ) (e : IsEntry h) (here : Is best) (none : AreNoneFrom (spot m a) s k h) (only : IsOnlyFrom (spot m a) s k best) where
    later_one : (b : Bool) → next ≡ (if b then e.writing.row else best) → Is next
    later_one true is = subst Is (sym is) (entry_maybe h e)
    later_one false is = subst Is (sym is) here

    next_one : next ≡ (if M.later e.writing.row best then e.writing.row else best) → Is next
    next_one is = later_one (M.later e.writing.row best) is

    only_by : (b : Bool) → M.later e.writing.row best ≡ b → next ≡ (if b then e.writing.row else best) → IsOnlyFrom (spot m a) s (h + 1) next
    only_by true later is j last =
        elim (only j last) [
          | inl same ↦
              elim (cases_eq e.writing.row j) [
                | inl this ↦ inl (is ∙ this)
                | inr other ↦
                    let apart = (last.after e.writing.row (entry_maybe h e) other).apart in
                    absurd (false≢true (sym apart ∙ subst (λ (n : ℕ). M.later e.writing.row n ≡ true) same later))
              ]
          | inr x ↦
              elim (parted k h j e none x) [
                | inl this ↦ inl (is ∙ this)
                | inr on ↦ inr on
              ]
        ]
    only_by false later is j last =
        elim (only j last) [
          | inl same ↦ inl (is ∙ same)
          | inr x ↦
              elim (parted k h j e none x) [
                | inl this ↦
                    elim (cases_eq best j) [
                      | inl same ↦ inl (is ∙ same)
                      | inr other ↦
                          let after = (last.after best here other).later in
                          absurd (false≢true (sym later ∙ subst (λ (n : ℕ). M.later n best ≡ true) (sym this) after))
                    ]
                | inr on ↦ inr on
              ]
        ]

    next_only : next ≡ (if M.later e.writing.row best then e.writing.row else best) → IsOnlyFrom (spot m a) s (h + 1) next
    next_only is = only_by (M.later e.writing.row best) refl is

  module _ (k h best next : ℕ) (w : Writing) (found : slice_get s.work.writing h ≡ Some w) (its : IsLeastFrom IsEntry k (Some h)) (here : Is best) (only : IsOnlyFrom (spot m a) s k best) (is : next ≡ (if M.later w.row best then w.row else best)) where
    is_next : next ≡ (if M.later its.0.writing.row best then its.0.writing.row else best)
    is_next = subst (λ (n : ℕ). next ≡ (if M.later n best then n else best)) (sym (entry_row (spot m a) s h w found its.0)) is

    pub newer_one : Is next
    newer_one = next_one k h best next its.0 here its.2 only is_next

    pub newer_only : IsOnlyFrom (spot m a) s (h + 1) next
    newer_only = next_only k h best next its.0 here its.2 only is_next

  pub before_none : (best : ℕ) → AreBeforeTo (spot m a) s 0 best
  before_none best h e low other = absurd (omega (arith, low))

  pub before_more : (k h best : ℕ) (w : Writing) → AreNoneFrom (spot m a) s k h → slice_get s.work.writing h ≡ Some w → (w.row ≢ best → M.later best w.row ≡ true) → AreBeforeTo (spot m a) s k best → AreBeforeTo (spot m a) s (h + 1) best
  before_more k h best w none found this before i e low other =
      elim (cases_lt i k) [
        | inl early ↦ before i e early other
        | inr past ↦
            elim (cases_order i h) [
              | inl same ↦ at i e same other
              | inr (inl less) ↦ absurd (none i past less e)
              | inr (inr more) ↦ absurd (omega (arith, more, low))
            ]
      ]
    where
      at : (i : ℕ) (e : IsEntry i) → i ≡ h → e.writing.row ≢ best → M.later best e.writing.row ≡ true
      at i e same other =
          let here : slice_get s.work.writing h ≡ Some e.writing = subst (λ (n : ℕ). slice_get s.work.writing n ≡ Some e.writing) same e.stands in
          let is : w ≡ e.writing = same_Some w e.writing (sym found ∙ here) in
          subst (λ (v : Writing). v.row ≢ best → M.later best v.row ≡ true) is this other

  pub before_all : (k best : ℕ) → IsSome (s.path.given.legs.row best) → IsLeastFrom IsEntry k None → AreBeforeTo (spot m a) s k best → (i : ℕ) → Is i → i ≢ best → IsEarlierRow M i best
  before_all k best there none before i one other =
      let x = maybe_entry i one in
      let later : M.later best i ≡ true = elim (cases_lt x.index k) [
        | inl low ↦ subst (λ (n : ℕ). M.later best n ≡ true) x.row_is (before x.index x.entry low (λ e. other (sym x.row_is ∙ e)))
        | inr past ↦ absurd (none x.index past x.entry)
      ] in
      record { later = later; apart = settled.writings.laws.moments.later_apart best i there one.begun.row later }

  -- one that isn't this row, and than which this row isn't later, keeps it from being the last one
  pub not_last : (h best : ℕ) (w : Writing) → IsEntry h → slice_get s.work.writing h ≡ Some w → w.row ≢ best → M.later best w.row ≡ false → IsLatest M Is best → ⊥
  not_last h best w e found other never last =
      let row = entry_row (spot m a) s h w found e in
      let one : Is w.row = subst Is row (entry_maybe h e) in
      false≢true (sym never ∙ (last.after w.row one other).later)
