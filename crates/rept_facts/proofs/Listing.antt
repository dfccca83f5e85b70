-- The list of the rows that may write, and the numbers between which a byte is carried by it.
use Rattle.std.proofs.Common.{◌≡◌, ℕ, zero, suc, ◌+◌, ◌<◌, ◌≤◌, ◌^◌, ◌⊎◌, Bool, true, false, List, [], ◌∷◌, ◌++◌, length, Option, Some, None, inl, inr, refl, sym, ap, subst, ◌∙◌, arith, slice_get, get_or, max, min, is_some}
use Rattle.std.specs.Option.{IsSome}
use Rattle.std.proofs.lemmas.Bool.{cases_Bool, cases_lt, cases_eq, cases_order, false≢true}
use Rattle.std.proofs.lemmas.Option.{slice_get-get_or, slice_get_within}
use Rattle.std.proofs.lemmas.List.{length_push, get_or_append_left, get_or_push}
use Rattle.rept_alias.specs.Accesses.{call_hits}
use Rattle.rept_alias.specs.declared.addresses.CallAccess.{CallAccess}
use Rattle.rept_isa.specs.declared.row.StepRow.{StepRow}
use Rattle.rept_report.specs.Reach.Reaching.{IsExtent, IsBar}
use Rattle.rept_writing.specs.Hits.{hits_at, IsFirstHit, IsNextHitBelow, IsMeeting, IsNextMeeting, IsPastHitFrom, IsSplitAt, AreInOrder}
use Rattle.rept_writing.specs.declared.list.Writing.{Writing}
use Rattle.rept_reason.specs.Facts.{Knowledge, told}
use Rattle.rept_report.specs.Moments.{AreMoments}
use Rattle.rept_report.specs.Timeline.{IsClear, IsLike, IsAlike, IsStrip}
use Rattle.rept_report.specs.declared.paths.Strip.{Strip}
use Rattle.rept_report.specs.Spots.{Passage, passage}
use Rattle.rept_report.specs.Log.{oldest}
use Rattle.rept_facts.specs.State.{AnalysisState, Subject, timeline_of, with_writing}
use Rattle.rept_facts.specs.declared.piece.Piece.{Piece}
use Rattle.rept_facts.specs.Inferring.{Grows, IsAccess, IsSpared, IsBridged, IsSparedBetween, IsSilent, IsInList, past, IsWriting, AreWritingsBefore, AreBarriers, AreWritings, AreExact, SameFacts, IsFitted, IsBlocked, AreBlocked, Blocks, IsHitBy, IsBlocker, IsCalm, IsLooseEnd, IsLooseBefore, IsEnd, IsPiece}
use Rattle.rept_facts.proofs.Barriers.{past_at}

-- the same rows may write where path, facts and sets are the same
module _ {W : Type 0} (s t : AnalysisState W) (setting : t.path ≡ s.path) (older : oldest t.filled t.known.log ≡ oldest s.filled s.known.log) where
  pub writings_like : (n : ℕ) (list : List Writing) → AreWritingsBefore n list s → AreWritingsBefore n list t
  writings_like n list h = record {
    each = λ k w at.
        let x = h.each k w at in
        record {
          low = x.low;
          there = rw setting x.there;
          time = rw setting x.time;
          extent = subst (λ (P : Subject W). IsExtent P.given.moments w.row (record { from = w.from; to = w.to })) (sym setting) x.extent;
          access = λ a small. rw (setting, older) (x.access a small);
        };
    order = h.order;
    all = λ i there less.
        elim (h.all i (subst (λ (P : _). IsSome (P.given.legs.row i)) setting there) (subst (λ (P : _). P.given.moments.before i < n) setting less)) [
          | inl listed ↦ inl listed
          | inr silent ↦ inr (λ a small. rw (setting, older) (silent a small))
        ];
  }

pub writings_after : {W : Type 0} (s t : AnalysisState W) → Grows s t → AreWritings s → AreWritings t
writings_after s t g h = g.writing h

same_writing : {x y : Writing} → Some x ≡ Some y → x ≡ y
same_writing e = cc

lower_more : {W : Type 0} (s : AnalysisState W) (n : ℕ) (w : Writing) → IsWriting n w s → IsWriting (n + 1) w s
lower_more s n w x = record { low = let low = x.low in omega (arith, low); there = x.there; time = x.time; extent = x.extent; access = x.access }

module _ {W : Type 0} (s : AnalysisState W) (n : ℕ) (list : List Writing) (h : AreWritingsBefore n list s) where
  -- no row stands at the number
  pub listed_none : ((i : ℕ) → IsSome (s.path.given.legs.row i) → s.path.given.moments.before i ≡ n → ⊥) → AreWritingsBefore (n + 1) list s
  listed_none none = record {
    each = λ k w at. lower_more s n w (h.each k w at);
    order = h.order;
    all = λ i there less.
        elim (cases_order (s.path.given.moments.before i) n) [
          | inl same ↦ absurd (none i there same)
          | inr (inl low) ↦ h.all i there low
          | inr (inr over) ↦ absurd (omega (arith, less, over))
        ];
  }

  module _ (i : ℕ) (only : (j : ℕ) → IsSome (s.path.given.legs.row j) → s.path.given.moments.before j ≡ n → j ≡ i) where
    -- the one that stands there may write nothing
    pub listed_less : IsSilent i s → AreWritingsBefore (n + 1) list s
    listed_less silent = record {
      each = λ k w at. lower_more s n w (h.each k w at);
      order = h.order;
      all = λ j there less.
          elim (cases_order (s.path.given.moments.before j) n) [
            | inl same ↦ let here : j ≡ i = only j there same in inr (subst (λ (k : ℕ). IsSilent k s) (sym here) silent)
            | inr (inl low) ↦ h.all j there low
            | inr (inr over) ↦ absurd (omega (arith, less, over))
          ];
    }

    -- it may
    module _ (w : Writing) (row : w.row ≡ i) (at : w.at ≡ n) (there : IsSome (s.path.given.legs.row i)) (time : s.path.given.moments.before i ≡ n) (extent : IsExtent s.path.given.moments i (record { from = w.from; to = w.to })) (access : IsAccess i w.access s) where
      long : length (list ++ w ∷ []) ≡ length list + 1
      long = length_push list w

      before_push : (k : ℕ) → k < length list → slice_get (list ++ w ∷ []) k ≡ slice_get list k
      before_push k lt =
          let more = long in
          slice_get-get_or (list ++ w ∷ []) k w (omega (arith, lt, more)) ∙ ap Some (get_or_append_left list (w ∷ []) w k lt) ∙ sym (slice_get-get_or list k w lt)

      at_push : slice_get (list ++ w ∷ []) (length list) ≡ Some w
      at_push =
          let more = long in
          slice_get-get_or (list ++ w ∷ []) (length list) w (omega (arith, more)) ∙ ap Some (get_or_push list w w (length list) refl)

      here : IsWriting (n + 1) w s
      here = record {
        low = omega (arith, at);
        there = rw row there;
        time = at ∙ sym time ∙ ap s.path.given.moments.before (sym row);
        extent = subst (λ (j : ℕ). IsExtent s.path.given.moments j (record { from = w.from; to = w.to })) (sym row) extent;
        access = rw row access;
      }

      each : (k : ℕ) (x : Writing) → slice_get (list ++ w ∷ []) k ≡ Some x → IsWriting (n + 1) x s
      each k x found =
          elim (cases_lt k (length list)) [
            | inl lt ↦ lower_more s n x (h.each k x (sym (before_push k lt) ∙ found))
            | inr ge ↦
                let within = slice_get_within (list ++ w ∷ []) k x found in
                let more = long in
                let e : k ≡ length list = omega (arith, ge, within, more) in
                let same : w ≡ x = same_writing (sym at_push ∙ subst (λ (j : ℕ). slice_get (list ++ w ∷ []) j ≡ Some x) e found) in
                subst (λ (y : Writing). IsWriting (n + 1) y s) same here
          ]

      order : AreInOrder (list ++ w ∷ [])
      order j k d le lt =
          elim (cases_lt k (length list)) [
            | inl inside ↦
                let first = get_or_append_left list (w ∷ []) d j (omega (arith, le, inside)) in
                let second = get_or_append_left list (w ∷ []) d k inside in
                let old = h.order j k d le inside in
                let first_at : (get_or (list ++ w ∷ []) j d).at ≡ (get_or list j d).at = ap (λ (y : Writing). y.at) first in
                let second_at : (get_or (list ++ w ∷ []) k d).at ≡ (get_or list k d).at = ap (λ (y : Writing). y.at) second in
                omega (arith, old, first_at, second_at)
            | inr ge ↦
                let more = long in
                let e : k ≡ length list = omega (arith, ge, lt, more) in
                let second_at : (get_or (list ++ w ∷ []) k d).at ≡ w.at = ap (λ (y : Writing). y.at) (get_or_push list w d k (sym e)) in
                elim (cases_lt j (length list)) [
                  | inl inside ↦
                      let first_at : (get_or (list ++ w ∷ []) j d).at ≡ (get_or list j d).at = ap (λ (y : Writing). y.at) (get_or_append_left list (w ∷ []) d j inside) in
                      let low = (h.each j (get_or list j d) (slice_get-get_or list j d inside)).low in
                      omega (arith, low, first_at, second_at, at)
                  | inr past_end ↦
                      let f : j ≡ length list = omega (arith, past_end, le, e) in
                      let first_at : (get_or (list ++ w ∷ []) j d).at ≡ w.at = ap (λ (y : Writing). y.at) (get_or_push list w d j (sym f)) in
                      omega (arith, first_at, second_at)
                ]
          ]

      kept : (j : ℕ) → IsInList list j → IsInList (list ++ w ∷ []) j
      kept j x = record { index = x.index; writing = x.writing; found = before_push x.index (slice_get_within list x.index x.writing x.found) ∙ x.found; row = x.row }

      pub listed_more : AreWritingsBefore (n + 1) (list ++ w ∷ []) s
      listed_more = record {
        each = each;
        order = order;
        all = λ j some less.
            elim (cases_order (s.path.given.moments.before j) n) [
              | inl same ↦ inl (record { index = length list; writing = w; found = at_push; row = row ∙ sym (only j some same) })
              | inr (inl low) ↦
                  elim (h.all j some low) [
                    | inl listed ↦ inl (kept j listed)
                    | inr silent ↦ inr silent
                  ]
              | inr (inr over) ↦ absurd (omega (arith, less, over))
            ];
      }

pub none_spared : {W : Type 0} (s : AnalysisState W) (i : ℕ) (access : CallAccess) → IsAccess i access s → ((a : ℕ) → call_hits access a ≡ false) → IsSilent i s
none_spared s i access is none a small = sym (is a small) ∙ none a

-- with another list everything else is the same
pub listed_same : {W : Type 0} (s t : AnalysisState W) (list : List Writing) → t ≡ with_writing s list → SameFacts s t
listed_same s t list is = subst (λ (x : AnalysisState _). SameFacts s x) (sym is) (record { path = refl; known = refl; shown = refl; complete = refl; conflict = refl; infers = refl; inferred = refl })

pub fitted_listed : {W : Type 0} (s t : AnalysisState W) (list : List Writing) → t ≡ with_writing s list → IsFitted s → IsFitted t
fitted_listed s t list is h = subst (λ (x : AnalysisState _). IsFitted x) (sym is) h

pub writings_listed : {W : Type 0} (s t : AnalysisState W) (list : List Writing) → t ≡ with_writing s list → (n : ℕ) (rows : List Writing) → AreWritingsBefore n rows s → AreWritingsBefore n rows t
writings_listed s t list is n rows h = writings_like s t (rw is refl) (rw is refl) n rows h

pub writings_back : {W : Type 0} (s t : AnalysisState W) (list : List Writing) → t ≡ with_writing s list → (n : ℕ) (rows : List Writing) → AreWritingsBefore n rows t → AreWritingsBefore n rows s
writings_back s t list is n rows h = writings_like t s (rw is refl) (rw is refl) n rows h

pub listed_then : {W : Type 0} (s t u : AnalysisState W) (xs ys : List Writing) → t ≡ with_writing s xs → u ≡ with_writing t ys → u ≡ with_writing s ys
listed_then s t u xs ys p q = q ∙ ap (λ (x : AnalysisState _). with_writing x ys) p

some_there : (o : Option StepRow) → IsSome o → (row : StepRow) × (o ≡ Some row)
some_there None some = absurd (false≢true some)
some_there (Some row) some = (row, refl)

pub entry_early : {W : Type 0} (s : AnalysisState W) → AreWritings s → (k : ℕ) (w : Writing) → slice_get s.work.writing k ≡ Some w → w.at ≤ s.path.given.moments.end
entry_early s h k w found =
    let its = h.barriers.each k w found in
    let row = some_there (s.path.given.legs.row w.row) its.there in
    let early = h.laws.moments.rows_before w.row row.0 row.1 in
    let time = its.time in
    omega (arith, early, time)

-- the list as it was made, of all numbers
pub listed_barriers : {W : Type 0} (s : AnalysisState W) (n : ℕ) → AreMoments s.path.given.legs s.path.given.moments → n ≡ s.path.given.moments.end + 1 → AreWritingsBefore n s.work.writing s → AreBarriers s.work.writing s
listed_barriers s n laws all h = record {
  each = λ k w at. let x = h.each k w at in record { there = x.there; time = x.time; extent = x.extent; others = λ a small miss. inl (sym (x.access a small) ∙ miss) };
  order = h.order;
  all = λ i there.
      let its = some_there (s.path.given.legs.row i) there in
      let early = laws.rows_before i its.0 its.1 in
      h.all i there (omega (arith, early, all));
}

pub listed_exact : {W : Type 0} (s : AnalysisState W) (n : ℕ) → AreWritingsBefore n s.work.writing s → AreExact s
listed_exact s n h k w a at small hits = sym ((h.each k w at).access a small) ∙ hits

pub same_hit : (list : List Writing) (j a : ℕ) (w : Writing) → slice_get list j ≡ Some w → hits_at list j a ≡ call_hits w.access a
same_hit list j a w at = rw at refl

module _ {W : Type 0} (s : AnalysisState W) (h : AreWritings s) (a : ℕ) (small : a < 2 ^ 32) where
  abbrev list : List Writing
  list = s.work.writing

  abbrev K : Knowledge
  K = told (oldest s.filled s.known.log)

  -- where no row leads, none may write
  none_writes : (i : ℕ) (o : Option StepRow) → s.path.given.legs.row i ≡ o → (IsSome o → IsSpared i a s) → IsSpared i a s
  none_writes i None is spared = inl (rw is refl)
  none_writes i (Some row) is spared = spared refl

  -- a row may not write the byte, if its entry has not its address
  pub spared_by : (i : ℕ) → ((j : ℕ) (w : Writing) → slice_get list j ≡ Some w → w.row ≡ i → call_hits w.access a ≡ true → ⊥) → IsSpared i a s
  spared_by i none =
      none_writes i (s.path.given.legs.row i) refl (λ some.
      elim (h.barriers.all i some) [
        | inr silent ↦ inl (silent a small)
        | inl x ↦
            elim (cases_Bool (call_hits x.writing.access a)) [
              | inl hit ↦ absurd (none x.index x.writing x.found x.row hit)
              | inr miss ↦ subst (λ (k : ℕ). IsSpared k a s) x.row ((h.barriers.each x.index x.writing x.found).others a small miss)
            ]
      ])

  -- none of the entries below one that may write the byte may act
  abbrev pub DoNoneMayAct : ℕ → ℕ → ℕ → Type 0
  DoNoneMayAct m w k = (j : ℕ) (x : Writing) → j < k → slice_get list j ≡ Some x → call_hits x.access a ≡ true → s.path.given.moments.may_act x.row m w ≡ false

  -- an entry that may write the byte and may act between the numbers is a meeting
  meeting_by : (m w j : ℕ) (x : Writing) → s.path.given.moments.next m w ≡ true → slice_get list j ≡ Some x → call_hits x.access a ≡ true → s.path.given.moments.may_act x.row m w ≡ true → IsMeeting list (record { from = m; to = w; address = a }) j
  meeting_by m w j x next found hits may_act =
      let within = (h.barriers.each j x found).extent m w next may_act in
      record { writing = x; stands = found; hits = hits; above = within.0; below = within.1 }

  pub none_may_act_more : (m w k hit : ℕ) (x : Writing) → s.path.given.moments.next m w ≡ true → IsNextMeeting list k (record { from = m; to = w; address = a }) (Some hit) → slice_get list hit ≡ Some x → s.path.given.moments.may_act x.row m w ≡ false → DoNoneMayAct m w k → DoNoneMayAct m w (hit + 1)
  none_may_act_more m w k hit x next first at calm below j y lt found hits =
      elim (cases_order j hit) [
        | inl same ↦
            let here : x ≡ y = same_writing (sym at ∙ subst (λ (n : ℕ). slice_get list n ≡ Some y) same found) in
            subst (λ (z : Writing). s.path.given.moments.may_act z.row m w ≡ false) here calm
        | inr (inl low) ↦
            elim (cases_lt j k) [
              | inl early ↦ below j y early found hits
              | inr late ↦
                  elim (cases_Bool (s.path.given.moments.may_act y.row m w)) [
                    | inl may_act ↦ absurd (first.2 j late low (meeting_by m w j y next found hits may_act))
                    | inr spared ↦ spared
                  ]
            ]
        | inr (inr over) ↦ absurd (omega (arith, lt, over))
      ]

  -- where a row may act that may write the byte it isn't carried
  pub blocked_by : (m w hit : ℕ) (x : Writing) → slice_get list hit ≡ Some x → hits_at list hit a ≡ true → s.path.given.moments.may_act x.row m w ≡ true → IsBlocked (passage a m w) s
  blocked_by m w hit x at hits may_act exact carries = false≢true (sym (carries.spared x.row may_act) ∙ exact hit x a at small (sym (same_hit list hit a x at) ∙ hits))

  -- the index of an entry that may write the byte and may act, or that there is none
  pub blocker_meeting : (m w hit : ℕ) (x : Writing) → IsMeeting list (record { from = m; to = w; address = a }) hit → slice_get list hit ≡ Some x → s.path.given.moments.may_act x.row m w ≡ true → Blocks (passage a m w) s hit
  blocker_meeting m w hit x meeting at may_act = record {
    writing = x;
    found = at;
    hits = subst (λ (y : Writing). call_hits y.access a ≡ true) (same_writing (sym meeting.stands ∙ at)) meeting.hits;
    may_act = may_act;
  }

  pub no_blocker : (m w k : ℕ) (o : Option ℕ) → ((y : ℕ) → o ≡ Some y → ⊥) → s.path.given.moments.next m w ≡ true → IsNextMeeting list k (record { from = m; to = w; address = a }) o → DoNoneMayAct m w k → IsBlocker (passage a m w) s None
  no_blocker m w k (Some y) never next none below j x = never y refl
  no_blocker m w k None never next none below j x =
      elim (cases_lt j k) [
        | inl early ↦ false≢true (sym (below j x.writing early x.found x.hits) ∙ x.may_act)
        | inr late ↦ none j late (meeting_by m w j x.writing next x.found x.hits x.may_act)
      ]

  -- where there is none the byte is carried
  pub bridged_unless : (m w : ℕ) → s.path.given.moments.next m w ≡ true → s.path.given.moments.untraced m w ≡ false → IsBlocker (passage a m w) s None → IsBridged (passage a m w) s
  bridged_unless m w next light none = record {
    next = next;
    light = light;
    spared = λ i may_act. spared_by i (λ j x found row hits. none j (record {
      writing = x;
      found = found;
      hits = hits;
      may_act = subst (λ (n : ℕ). s.path.given.moments.may_act n m w ≡ true) (sym row) may_act;
    }));
  }

  -- where there is one it isn't
  pub blocked_if_blocks : (m w k : ℕ) → Blocks (passage a m w) s k → IsBlocked (passage a m w) s
  blocked_if_blocks m w k x = blocked_by m w k x.writing x.found (same_hit list k a x.writing x.found ∙ x.hits) x.may_act

  pub blocked_some : (m w : ℕ) (o : Option ℕ) → is_some o ≡ true → IsBlocker (passage a m w) s o → IsBlocked (passage a m w) s
  blocked_some m w None some x = absurd (false≢true some)
  blocked_some m w (Some k) some x = blocked_if_blocks m w k x

  pub bridged_not_some : (m w : ℕ) (o : Option ℕ) → s.path.given.moments.next m w ≡ true → s.path.given.moments.untraced m w ≡ false → is_some o ≡ false → IsBlocker (passage a m w) s o → IsBridged (passage a m w) s
  bridged_not_some m w None next light none x = bridged_unless m w next light x
  bridged_not_some m w (Some k) next light none x = absurd (false≢true (sym none))

  -- an entry that may write the byte, whose row may act there
  pub blocked_if_may_act : (m w k : ℕ) (x : Writing) → slice_get list k ≡ Some x → call_hits x.access a ≡ true → s.path.given.moments.may_act x.row m w ≡ true → IsBlocked (passage a m w) s
  blocked_if_may_act m w k x found hits may_act = blocked_by m w k x found (same_hit list k a x found ∙ hits) may_act

  -- an entry that may write the byte, whose row may act between a number and each one that is next
  -- to it
  pub blocked_by_bar : (m k : ℕ) (x : Writing) → slice_get list k ≡ Some x → call_hits x.access a ≡ true → IsBar s.path.given.moments x.row m → AreBlocked a m s
  blocked_by_bar m k x found hits bar w next = blocked_by m w k x found (same_hit list k a x found ∙ hits) (bar w next)

  -- so where such an entry is named by its row
  pub hit_blocks : (m w row : ℕ) → IsHitBy a row s → s.path.given.moments.may_act row m w ≡ true → IsBlocked (passage a m w) s
  hit_blocks m w row x may_act = blocked_if_may_act m w x.index x.writing x.found x.hits (subst (λ (i : ℕ). s.path.given.moments.may_act i m w ≡ true) (sym x.row_is) may_act)

  pub hit_surely_blocks : (m row : ℕ) → IsHitBy a row s → IsBar s.path.given.moments row m → AreBlocked a m s
  hit_surely_blocks m row x bar = blocked_by_bar m x.index x.writing x.found x.hits (subst (λ (i : ℕ). IsBar s.path.given.moments i m) (sym x.row_is) bar)

pub blocked_untraced : {W : Type 0} (s : AnalysisState W) (x : Passage) → s.path.given.moments.untraced x.from x.to ≡ true → IsBlocked x s
blocked_untraced s x untraced exact carries = false≢true (sym carries.light ∙ untraced)

pub some_pause : {p q : ℕ} → Some p ≡ Some q → p ≡ q
some_pause e = cc

none_pause : {p : ℕ} → None ≡ Some p → ⊥
none_pause e = cc

pub calm_none : {W : Type 0} (s : AnalysisState W) (a : ℕ) (strip : Strip) → strip.pause ≡ None → IsCalm a strip s
calm_none s a strip none p some = absurd (none_pause (sym none ∙ some))

pub calm_some : {W : Type 0} (s : AnalysisState W) (a p : ℕ) (strip : Strip) → strip.pause ≡ Some p → IsBridged (passage a p (p + 1)) s → IsCalm a strip s
calm_some s a p strip is h q some = subst (λ (n : ℕ). IsBridged (passage a n (n + 1)) s) (some_pause (sym is ∙ some)) h

-- of a strip in which nothing else may write the byte
module _ {W : Type 0} (s : AnalysisState W) (h : AreWritings s) (a : ℕ) (small : a < 2 ^ 32) (strip : Strip) (number : ℕ) (its : IsStrip (timeline_of s) number strip) (calm : IsCalm a strip s) where
  abbrev entries : List Writing
  entries = s.work.writing

  -- from a number at which no row of the list may write the byte it is carried on
  one : (m : ℕ) → strip.first ≤ m → m < strip.last → ((j : ℕ) (w : Writing) → slice_get entries j ≡ Some w → w.at ≡ m → call_hits w.access a ≡ true → ⊥) → IsBridged (passage a m (m + 1)) s
  one m low high none = by strip.pause refl
    where
      own : (i : ℕ) → s.path.given.moments.before i ≡ m → IsSpared i a s
      own i here = spared_by s h a small i (λ j w found row hits. none j w found ((h.barriers.each j w found).time ∙ ap s.path.given.moments.before row ∙ here) hits)

      by : (o : Option ℕ) → strip.pause ≡ o → IsBridged (passage a m (m + 1)) s
      by None is =
          let clear : IsClear (timeline_of s) m = subst (λ (o : Option ℕ). IsAlike (timeline_of s) o m) is (its.alike m low high) in
          record { next = (its.joined m low high).next; light = clear.light; spared = λ i may_act. own i (clear.own i may_act) }
      by (Some p) is =
          let like : IsLike (timeline_of s) m p = subst (λ (o : Option ℕ). IsAlike (timeline_of s) o m) is (its.alike m low high) in
          let pause = calm p is in
          record {
            next = (its.joined m low high).next;
            light = not_untraced (s.path.given.moments.untraced m (m + 1)) refl like.untraced pause.light;
            spared = λ i may_act.
                elim (cases_eq (s.path.given.moments.before i) m) [
                  | inl here ↦ own i here
                  | inr other ↦ pause.spared i (like.others i may_act other)
                ];
          }
        where
          not_untraced : (b : Bool) → s.path.given.moments.untraced m (m + 1) ≡ b → (s.path.given.moments.untraced m (m + 1) ≡ true → s.path.given.moments.untraced p (p + 1) ≡ true) → s.path.given.moments.untraced p (p + 1) ≡ false → s.path.given.moments.untraced m (m + 1) ≡ false
          not_untraced true e untraced light = absurd (false≢true (sym light ∙ untraced e))
          not_untraced false e untraced light = e

  -- the entries before an index stand at lower numbers than the one after the last of them, and
  -- those from an index on at no lower ones
  below_past : (k j : ℕ) (w : Writing) → j < k → k ≤ length entries → slice_get entries j ≡ Some w → w.at < past entries k
  below_past zero j w lt inside found = absurd (omega (arith, lt))
  below_past (suc k) j w lt inside found =
      let last = slice_get-get_or entries k w (omega (arith, inside)) in
      let here : w ≡ get_or entries j w = same_writing (sym found ∙ slice_get-get_or entries j w (omega (arith, lt, inside))) in
      let order = h.barriers.order j k w (omega (arith, lt)) (omega (arith, inside)) in
      let at : w.at ≡ (get_or entries j w).at = ap (λ (x : Writing). x.at) here in
      let one_more : k + 1 ≡ suc k = omega arith in
      let next : past entries (suc k) ≡ (get_or entries k w).at + 1 = subst (λ (n : ℕ). past entries n ≡ (get_or entries k w).at + 1) one_more (past_at entries k (get_or entries k w) last) in
      omega (arith, order, at, next)

  above_hit : (hit j : ℕ) (x w : Writing) → hit ≤ j → slice_get entries hit ≡ Some x → slice_get entries j ≡ Some w → x.at ≤ w.at
  above_hit hit j x w le at found =
      let inside = slice_get_within entries j w found in
      let order = h.barriers.order hit j w le inside in
      let first : x ≡ get_or entries hit w = same_writing (sym at ∙ slice_get-get_or entries hit w (omega (arith, le, inside))) in
      let second : w ≡ get_or entries j w = same_writing (sym found ∙ slice_get-get_or entries j w inside) in
      let first_at : x.at ≡ (get_or entries hit w).at = ap (λ (y : Writing). y.at) first in
      let second_at : w.at ≡ (get_or entries j w).at = ap (λ (y : Writing). y.at) second in
      omega (arith, order, first_at, second_at)

  -- the numbers between two entries that may write the byte
  between_free : (k from to : ℕ) → k ≤ length entries → past entries k ≤ from → strip.first ≤ from → to ≤ strip.last → from ≤ to → ((j : ℕ) (w : Writing) → k ≤ j → slice_get entries j ≡ Some w → w.at < to → call_hits w.access a ≡ true → ⊥) → IsSparedBetween from to a s
  between_free k from to few low least most order none m (inl x) =
      let up = x.0 in
      let down = x.1 in
      one m (omega (arith, least, up)) (omega (arith, most, down)) (λ j w found at hits.
      elim (cases_lt j k) [
        | inl early ↦ let under = below_past k j w early few found in omega (arith, under, low, up, at)
        | inr late ↦ none j w late found (omega (arith, at, down)) hits
      ])
  between_free k from to few low least most order none m (inr x) = let up = x.0 in let down = x.1 in absurd (omega (arith, up, down, order))

  -- the number after that of the last entry before those of the strip is no later than its first
  -- one
  past_low : (k : ℕ) → IsSplitAt entries strip.first k → past entries k ≤ strip.first
  past_low zero split = omega arith
  past_low (suc k) split =
      let none : Writing = record { row = 0; at = 0; from = 0; to = 0; is_call = false; access = record { first = None; second = None } } in
      let bound = split.bound in
      let last = slice_get-get_or entries k none (omega (arith, bound)) in
      let under = split.below k (get_or entries k none) last (omega arith) in
      let one_more : k + 1 ≡ suc k = omega arith in
      let next : past entries (suc k) ≡ (get_or entries k none).at + 1 = subst (λ (n : ℕ). past entries n ≡ (get_or entries k none).at + 1) one_more (past_at entries k (get_or entries k none) last) in
      omega (arith, under, next)

  -- the number after that of the last entry in the strip before a number that may write the byte is
  -- no later
  past_early : (least point k : ℕ) → IsSplitAt entries strip.first least → strip.first ≤ point → IsPastHitFrom entries least point a k → past entries k ≤ point
  past_early least point k split here last =
      elim last.before [
        | inl e ↦ let low = past_low least split in subst (λ (n : ℕ). past entries n ≤ point) (sym e) (omega (arith, low, here))
        | inr (j, e, hit) ↦ let next = past_at entries j hit.writing hit.stands in let lower = hit.lower in rw e (omega (arith, next, lower))
      ]

  hit_late : (least point k hit : ℕ) (x : Writing) → IsPastHitFrom entries least point a k → IsFirstHit entries k a hit → slice_get entries hit ≡ Some x → point ≤ x.at
  hit_late least point k hit x last first at =
      elim (cases_lt x.at point) [
        | inr ge ↦ ge
        | inl lt ↦ absurd (last.none_after hit first.from (record { writing = x; stands = at; lower = lt; hits = sym (same_hit entries hit a x at) ∙ first.hits }))
      ]

  -- of an entry that may write the byte
  loose_by : (n : ℕ) (w : Writing) → slice_get entries n ≡ Some w → call_hits w.access a ≡ true → (i : ℕ) → w.at ≡ i → strip.first ≤ i → i < strip.last → (m : Option ℕ) → IsLooseEnd strip n m s → IsBlocked (passage a i (i + 1)) s ⊎ (m ≡ Some i)
  loose_by n w stands hits i at up down None its =
      let may_act : s.path.given.moments.may_act w.row w.at (w.at + 1) ≡ true = its w stands (omega (arith, at, up)) (omega (arith, at, down)) in
      inl (blocked_by s h a small i (i + 1) n w stands (same_hit entries n a w stands ∙ hits) (subst (λ (x : ℕ). s.path.given.moments.may_act w.row x (x + 1) ≡ true) at may_act))
  loose_by n w stands hits i at up down (Some m) its = let number = (its w stands).0 in inr (ap Some (sym number ∙ at))

  loose_next : (n : ℕ) → n < length entries → (m : Option ℕ) → IsLooseEnd strip n m s → (i : ℕ) → m ≡ Some i → s.path.given.moments.next i (i + 1) ≡ true
  loose_next n inside None its i some = absurd (none_pause some)
  loose_next n inside (Some m) its i some =
      let none : Writing = record { row = 0; at = 0; from = 0; to = 0; is_call = false; access = record { first = None; second = None } } in
      let next = (its (get_or entries n none) (slice_get-get_or entries n none inside)).1 in
      subst (λ (x : ℕ). s.path.given.moments.next x (x + 1) ≡ true) (some_pause some) next

  module _ (least most point k : ℕ) (low_split : IsSplitAt entries strip.first least) (high_split : IsSplitAt entries strip.last most) (here : strip.first ≤ point) (there : point ≤ strip.last) (few : k ≤ length entries) (last : IsPastHitFrom entries least point a k) (piece : Piece) (from : piece.from ≡ max (past entries k) strip.first) (loose : IsLooseBefore strip k piece.before s) where
    -- what was found of the entry before
    below_by : (n : ℕ) → n ≡ k → IsPastHitFrom entries least point a n → IsLooseBefore strip n piece.before s → (i : ℕ) → i + 1 ≡ piece.from → strip.first ≤ i → IsBlocked (passage a i (i + 1)) s ⊎ IsEnd piece i
    below_by zero same past_hit its i e up = absurd (let none : past entries k ≡ 0 = subst (λ (n : ℕ). past entries n ≡ 0) same refl in omega (arith, e, up, from, none))
    below_by (suc n) same past_hit its i e up =
        elim past_hit.before [
          | inl is_least ↦
              let first : k ≡ least = omega (arith, same, is_least) in
              let low : past entries k ≤ strip.first = subst (λ (x : ℕ). past entries x ≤ strip.first) (sym first) (past_low least low_split) in
              absurd (omega (arith, low, from, e, up))
          | inr (j, f, hit) ↦
              let index : j ≡ n = omega (arith, f) in
              let stands : slice_get entries n ≡ Some hit.writing = subst (λ (x : ℕ). slice_get entries x ≡ Some hit.writing) index hit.stands in
              let one_more : n + 1 ≡ k = omega (arith, same) in
              let next : past entries k ≡ hit.writing.at + 1 = subst (λ (x : ℕ). past entries x ≡ hit.writing.at + 1) one_more (past_at entries n hit.writing stands) in
              let at : hit.writing.at ≡ i = omega (arith, next, from, e, up) in
              let lower = hit.lower in
              elim (loose_by n hit.writing stands hit.hits i at up (omega (arith, lower, at, there)) piece.before its) [
                | inl blocked ↦ inl blocked
                | inr is ↦ inr (inl is)
              ]
        ]

    ends_before : (n : ℕ) → n ≡ k → IsLooseBefore strip n piece.before s → (i : ℕ) → piece.before ≡ Some i → s.path.given.moments.next i (i + 1) ≡ true
    ends_before zero same its i some = absurd (none_pause (sym its ∙ some))
    ends_before (suc n) same its i some = loose_next n (omega (arith, same, few)) piece.before its i some

    -- no later entry may write the byte
    pub piece_last : piece.to ≡ strip.last → piece.after ≡ None → IsNextHitBelow entries k most a None → IsPiece a strip point piece s
    piece_last to none missed =
        let low = past_early least point k low_split here last in
        record {
          inside = omega (arith, from);
          low = omega (arith, from, low, here);
          high = omega (arith, to, there);
          within = omega (arith, to);
          spared = between_free k piece.from piece.to few (omega (arith, from)) (omega (arith, from)) (omega (arith, to)) (omega (arith, from, low, here, to, there)) (λ j w late found down hits. none_here j w late found (omega (arith, down, to)) hits);
          below = below_by k refl last loose;
          above = λ less. absurd (omega (arith, less, to));
          ends = ends;
        }
      where
        none_here : (j : ℕ) (w : Writing) → k ≤ j → slice_get entries j ≡ Some w → w.at < strip.last → call_hits w.access a ≡ true → ⊥
        none_here j w late found down hits =
            elim (cases_lt j most) [
              | inl early ↦ false≢true (sym (missed j late early) ∙ same_hit entries j a w found ∙ hits)
              | inr over ↦ let above = high_split.above j w found over in omega (arith, above, down)
            ]

        ends : (i : ℕ) → IsEnd piece i → s.path.given.moments.next i (i + 1) ≡ true
        ends i (inl before) = ends_before k refl loose i before
        ends i (inr after) = absurd (none_pause (sym none ∙ after))

    -- the next one that may
    pub piece_hit : (hit : ℕ) (x : Writing) → piece.to ≡ min x.at strip.last → IsLooseEnd strip hit piece.after s → IsFirstHit entries k a hit → slice_get entries hit ≡ Some x → IsPiece a strip point piece s
    piece_hit hit x to after first at =
        let low = past_early least point k low_split here last in
        let late = hit_late least point k hit x last first at in
        record {
          inside = omega (arith, from);
          low = omega (arith, from, low, here);
          high = omega (arith, to, there, late);
          within = omega (arith, to);
          spared = between_free k piece.from piece.to few (omega (arith, from)) (omega (arith, from)) (omega (arith, to)) (omega (arith, from, low, here, to, there, late)) none;
          below = below_by k refl last loose;
          above = λ less.
              let number : x.at ≡ piece.to = omega (arith, less, to) in
              elim (loose_by hit x at (sym (same_hit entries hit a x at) ∙ first.hits) piece.to number (omega (arith, number, late, here)) less piece.after after) [
                | inl blocked ↦ inl blocked
                | inr is ↦ inr (inr is)
              ];
          ends = ends;
        }
      where
        none : (j : ℕ) (w : Writing) → k ≤ j → slice_get entries j ≡ Some w → w.at < piece.to → call_hits w.access a ≡ true → ⊥
        none j w low found down hits =
            elim (cases_lt j hit) [
              | inl early ↦ false≢true (sym (first.none_before j low early) ∙ same_hit entries j a w found ∙ hits)
              | inr past_it ↦ let above = above_hit hit j x w past_it at found in omega (arith, above, down, to)
            ]

        ends : (i : ℕ) → IsEnd piece i → s.path.given.moments.next i (i + 1) ≡ true
        ends i (inl before) = ends_before k refl loose i before
        ends i (inr is) = loose_next hit first.inside piece.after after i is

-- an entry that isn't in the strip, or whose row may act
pub loose_low : {W : Type 0} (s : AnalysisState W) (strip : Strip) (k : ℕ) (w : Writing) → slice_get s.work.writing k ≡ Some w → w.at < strip.first → IsLooseEnd strip k None s
loose_low s strip k w found low x at up down = let same : w.at ≡ x.at = ap (λ (y : Writing). y.at) (same_writing (sym found ∙ at)) in absurd (omega (arith, low, up, same))

pub loose_high : {W : Type 0} (s : AnalysisState W) (strip : Strip) (k : ℕ) (w : Writing) → slice_get s.work.writing k ≡ Some w → strip.last ≤ w.at → IsLooseEnd strip k None s
loose_high s strip k w found high x at up down = let same : w.at ≡ x.at = ap (λ (y : Writing). y.at) (same_writing (sym found ∙ at)) in absurd (omega (arith, high, down, same))

pub loose_may_act : {W : Type 0} (s : AnalysisState W) (strip : Strip) (k : ℕ) (w : Writing) → slice_get s.work.writing k ≡ Some w → s.path.given.moments.may_act w.row w.at (w.at + 1) ≡ true → IsLooseEnd strip k None s
loose_may_act s strip k w found may_act x at up down = subst (λ (y : Writing). s.path.given.moments.may_act y.row y.at (y.at + 1) ≡ true) (same_writing (sym found ∙ at)) may_act

pub loose_some : {W : Type 0} (s : AnalysisState W) (strip : Strip) (k : ℕ) (w : Writing) → slice_get s.work.writing k ≡ Some w → s.path.given.moments.next w.at (w.at + 1) ≡ true → IsLooseEnd strip k (Some w.at) s
loose_some s strip k w found next x at = (sym (ap (λ (y : Writing). y.at) (same_writing (sym found ∙ at))), next)
