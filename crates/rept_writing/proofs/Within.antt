-- The bounds of all rows of many, and of all rows of one kind: what stays true of them, and what an
-- address outside of them says.
use Rattle.std.proofs.Common.{◌≡◌, ℕ, ◌<◌, ◌≤◌, ◌^◌, Bool, true, false, List, length, get_or, Option, None, Some, inl, inr, refl, sym, ◌∙◌, ap, subst, arith}
use Rattle.std.specs.Prelude.{max, set, slice_get}
use Rattle.std.specs.List.{Contains}
use Rattle.std.proofs.lemmas.Bool.{cases_eq}
use Rattle.std.proofs.lemmas.List.Elements.{All-contains}
use Rattle.std.proofs.lemmas.Option.{slice_get_within}
use Rattle.rept_alias.specs.Accesses.{call_hits}
use Rattle.rept_writing.specs.declared.bounds.StoreBounds.{StoreBounds}
use Rattle.rept_writing.specs.declared.columns.Columns.{Columns}
use Rattle.rept_writing.specs.declared.list.Writing.{Writing}
use Rattle.rept_writing.specs.declared.narrow.Hit.{Hit}
use Rattle.rept_writing.specs.Hits.{IsMeeting, IsNextHitBelow, IsNextMeeting, hits_at, writing_hits}
use Rattle.rept_writing.specs.Bounded.{AreInBounds, AreOfKindWithin, IsWidened, lies_in}
use Rattle.rept_writing.specs.Acting.{AreColumns, IsAround}
use Rattle.rept_writing.specs.Filed.{IsFiled, IsFirst, IsPast, hit, sooner}
use Rattle.rept_writing.proofs.Filing.{first_filed, first_within}
use Rattle.rept_writing.proofs.Going.{past_from, past_left, past_none}
use Rattle.rept_writing.proofs.Keeping.{set_elsewhere, set_there}
use Rattle.rept_writing.proofs.Meeting.{either_kind, meeting_of, true≢false}
use Rattle.rept_writing.proofs.Passing.{place_of}

-- the rows of a kind, by their places
pub of_kind_within : (list : List Writing) (c : Columns) (bounds : StoreBounds) → AreColumns list c → AreInBounds list c.places.items (λ m. m < length c.places.items) bounds → AreOfKindWithin list c.is_call bounds
of_kind_within list c bounds columns within j a x fits is kind hits =
    let (p, inside, e) = place_of c.places.items j (columns.complete j x is kind) in
    within.within p a inside fits (ap (λ w. writing_hits w a) (subst (λ (n : ℕ). slice_get list n ≡ Some x) (sym e) is) ∙ hits)

module _ (list : List Writing) (k : ℕ) (w : Writing) (lt : k < length list) where
  now_is : (j : ℕ) (x : Writing) → j ≡ k → slice_get (set list k w) j ≡ Some x → w ≡ x
  now_is j x same is = let e : Some w ≡ Some x = sym (set_there list k w lt) ∙ subst (λ (n : ℕ). slice_get (set list k w) n ≡ Some x) same is in cc

  -- a row of other addresses
  pub within_replaced : (wide : List ℕ) (old new : StoreBounds) → IsWidened (call_hits w.access) old new → AreInBounds list wide (λ m. m < length wide) old → AreInBounds (set list k w) wide (λ m. m < length wide) new
  within_replaced wide old new wider before = record {
    within = λ m a here fits h. elim (cases_eq (get_or wide m 0) k) [
      | inl same ↦ wider.more a fits (sym (ap (λ x. writing_hits x a) (set_there list k w lt)) ∙ subst (λ (n : ℕ). hits_at (set list k w) n a ≡ true) same h)
      | inr ne ↦ wider.kept a fits (before.within m a here fits (sym (ap (λ x. writing_hits x a) (set_elsewhere list k (get_or wide m 0) w ne)) ∙ h))
    ];
  }

  -- a row that is a call, or one that is none
  pub calls_replaced : (old new : StoreBounds) → (w.is_call ≡ true → IsWidened (call_hits w.access) old new) → (w.is_call ≡ false → new ≡ old) → AreOfKindWithin list true old → AreOfKindWithin (set list k w) true new
  calls_replaced old new wider same before j a x fits is kind hits = elim (cases_eq j k) [
    | inl here ↦ let e = now_is j x here is in (wider (ap (λ (y : Writing). y.is_call) e ∙ kind)).more a fits (subst (λ (y : Writing). call_hits y.access a ≡ true) (sym e) hits)
    | inr ne ↦ kept (before j a x fits (sym (set_elsewhere list k j w ne) ∙ is) kind hits)
  ]
    where
      kept : lies_in old a ≡ true → lies_in new a ≡ true
      kept lies = elim (either_kind w.is_call) [
        | inl call ↦ (wider call).kept a fits lies
        | inr other ↦ subst (λ (b : StoreBounds). lies_in b a ≡ true) (sym (same other)) lies
      ]

-- An address outside of the bounds.
module _ (list : List Writing) (a : ℕ) (fits : a < 2 ^ 32) (bounds : StoreBounds) (out : lies_in bounds a ≡ false) where
  -- no row of many may write it
  none_wide : (wide : List ℕ) → AreInBounds list wide (λ m. m < length wide) bounds → (j : ℕ) → Contains wide j → hits_at list j a ≡ true → ⊥
  none_wide wide within j there hits =
      let (p, inside, e) = place_of wide j there in
      true≢false (sym (within.within p a inside fits (subst (λ (n : ℕ). hits_at list n a ≡ true) (sym e) hits)) ∙ out)

  -- no row of the kind may write it
  pub none_of_kind : (is_call : Bool) → AreOfKindWithin list is_call bounds → (j : ℕ) (x : Writing) → slice_get list j ≡ Some x → x.is_call ≡ is_call → call_hits x.access a ≡ true → ⊥
  none_of_kind is_call within j x is kind hits = true≢false (sym (within j a x fits is kind hits) ∙ out)

  -- the first row that may write it is the first one of the single addresses
  pub first_narrow : (narrow : List Hit) (wide : List ℕ) (k end : ℕ) (x : Option ℕ) → IsFiled list narrow wide → AreInBounds list wide (λ m. m < length wide) bounds → IsFirst (λ j. Contains narrow (hit a j)) k end x → IsNextHitBelow list k end a x
  first_narrow narrow wide k end x filed within first = subst (IsNextHitBelow list k end a) (sooner_none x) (first_filed list narrow wide k end a x None filed fits first (λ j low high there. none_wide wide within j there.0 there.1))
    where
      sooner_none : (y : Option ℕ) → sooner y None ≡ y
      sooner_none None = refl
      sooner_none (Some h) = refl

  -- and so is the last one
  pub past_narrowed : (narrow : List Hit) (wide : List ℕ) (low k x : ℕ) → IsFiled list narrow wide → AreInBounds list wide (λ m. m < length wide) bounds → IsPast (λ j. Contains narrow (hit a j)) 0 k x → IsPast (λ j. hits_at list j a ≡ true) low k (max x low)
  past_narrowed narrow wide low k x filed within past =
      past_left (λ j. Contains narrow (hit a j)) (λ j. Contains wide j × (hits_at list j a ≡ true)) (λ j. hits_at list j a ≡ true) low k (max x low) low
      (λ j there. All-contains (λ (h : Hit). hits_at list h.index h.address ≡ true) narrow (hit a j) filed.sound there)
      (λ j hits. elim (filed.complete j a fits hits) [ inl there ↦ inl there | inr there ↦ inr (there, hits) ])
      (omega arith)
      (past_from (λ j. Contains narrow (hit a j)) low k x past)
      (past_none (λ j. Contains wide j × (hits_at list j a ≡ true)) low k (λ j from lt there. none_wide wide within j there.0 there.1))

  -- the first row that meets a link is the first one that is no call
  pub other_meeting : (k m w low high : ℕ) (x : Option ℕ) → AreOfKindWithin list true bounds → IsAround list false (record { from = m; to = w; address = 0 }) low high → IsFirst (λ j. IsMeeting list (record { from = m; to = w; address = a }) j) (max k low) high x → IsNextMeeting list k (record { from = m; to = w; address = a }) x
  other_meeting k m w low high x within around first = meeting_of list (record { from = m; to = w; address = a }) k x (widened x (first_within (λ j. IsMeeting list (record { from = m; to = w; address = a }) j) k low high (length list) x (λ j met. slice_get_within list j met.writing met.stands) first))
    where
      there : (j : ℕ) → IsMeeting list (record { from = m; to = w; address = a }) j → (low ≤ j) × (j < high)
      there j met = elim (either_kind met.writing.is_call) [
        | inl call ↦ absurd (none_of_kind true within j met.writing met.stands call met.hits)
        | inr other ↦ around j met.writing met.stands other met.above met.below
      ]

      widened : (y : Option ℕ) → IsFirst (λ j. IsMeeting list (record { from = m; to = w; address = a }) j × (low ≤ j) × (j < high)) k (length list) y → IsFirst (IsMeeting list (record { from = m; to = w; address = a })) k (length list) y
      widened None none = λ j from lt met. none j from lt (met, (there j met).0, (there j met).1)
      widened (Some h) one = (one.0, one.1, one.2.0, λ j from lt met. one.3 j from lt (met, (there j met).0, (there j met).1))
