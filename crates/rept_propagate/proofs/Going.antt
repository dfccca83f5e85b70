-- A byte's value is carried number by number, strip by strip and over the links between them.
use Rattle.std.proofs.Common.{◌≡◌, ℕ, ◌+◌, ◌-◌, ◌<◌, ◌≤◌, ◌^◌, ◌⊎◌, if◌then◌else◌, Bool, true, false, Option, Some, None, inl, inr, refl, sym, ap, subst, ◌∙◌, arith, min, is_some}
use Rattle.std.proofs.lemmas.Bool.{cases_lt, cases_order, false≢true}
use Rattle.rept_versions.specs.declared.facts.ValueStretch.{ValueStretch}
use Rattle.rept_versions.specs.Facts.{KnownValues, Nexts}
use Rattle.rept_reason.specs.declared.fact.Cell.TheVariants.{Byte}
use Rattle.rept_report.specs.declared.paths.Strip.{Strip}
use Rattle.rept_report.specs.Moments.{Moments}
use Rattle.rept_report.specs.Timeline.{Timeline, IsNextFrom, IsStrip}
use Rattle.rept_report.specs.Spots.{Passage, passage}
use Rattle.rept_report.proofs.Told.{same_some, none_some}
use Rattle.rept_facts.specs.declared.piece.Piece.{Piece}
use Rattle.rept_report.specs.Setting.{HasLaws}
use Rattle.rept_facts.specs.Kept.{IsKept}
use Rattle.rept_facts.specs.State.{AnalysisState, Subject, timeline_of, along}
use Rattle.rept_facts.proofs.Spreading.{bridged_still}
use Rattle.rept_report.specs.Reach.Reaching.{IsLeaving}
use Rattle.rept_report.specs.declared.paths.NumberWindow.{NumberWindow}
use Rattle.rept_facts.specs.Inferring.{Knows, Grows, IsCalm, IsCarriedFrom, IsCarriedIf, IsBridged, IsSparedBetween, IsBlocked, AreBlocked, IsEnd, IsPiece, IsCarriedBeside, IsCarriedBelow, IsCarriedIn, IsCarriedAlong, IsEven, IsEvenAround, AreLinksBelow, AreLinks, IsCarriedUpTo}

module _ {W : Type 0} (s : AnalysisState W) where
  pub blocked_if : (x : Passage) → IsBlocked x s → IsCarriedIf x s
  blocked_if x blocked exact = record { onward = λ v carries h. absurd (blocked exact carries); back = λ v carries h. absurd (blocked exact carries) }

  -- where the same is known at both
  pub same_if : (x : Passage) (v : ℕ) → Knows x.from (Byte x.address) v s → Knows x.to (Byte x.address) v s → IsCarriedIf x s
  same_if x v here there exact = record {
    onward = λ w carries h. there ∙ ap Some (same_some (sym here ∙ h));
    back = λ w carries h. here ∙ ap Some (same_some (sym there ∙ h));
  }

  -- where nothing is known at either
  pub free_if : (x : Passage) → s.known.store.fact x.from x.address ≡ None → s.known.store.fact x.to x.address ≡ None → IsCarriedIf x s
  free_if x here there exact = record {
    onward = λ w carries h. absurd (none_some (sym here ∙ h));
    back = λ w carries h. absurd (none_some (sym there ∙ h));
  }

  -- where the same is known at both, or nothing
  pub alike_if : (x : Passage) → s.known.store.fact x.from x.address ≡ s.known.store.fact x.to x.address → IsCarriedIf x s
  alike_if x same = by (s.known.store.fact x.from x.address) refl
    where
      by : (o : Option ℕ) → s.known.store.fact x.from x.address ≡ o → IsCarriedIf x s
      by None here = free_if x here (sym same ∙ here)
      by (Some v) here = same_if x v here (sym same ∙ here)

  -- where they aren't next to one another
  pub apart_if : (x : Passage) → s.path.given.moments.next x.from x.to ≡ false → IsCarriedIf x s
  apart_if x none exact = record { onward = λ w carries h. absurd (differs (sym none ∙ carries.next)); back = λ w carries h. absurd (differs (sym none ∙ carries.next)) }
    where
      differs : false ≡ true → ⊥
      differs e = cc

  pub step_if : (a m : ℕ) → IsCarriedFrom a m (m + 1) s → IsCarriedIf (passage a m (m + 1)) s
  step_if a m carried exact = carried m (omega arith) (omega arith)

  pub spared_one : (a m : ℕ) → IsBridged (passage a m (m + 1)) s → IsSparedBetween m (m + 1) a s
  spared_one a m h i (inl x) = let up = x.0 in let down = x.1 in let same : m ≡ i = omega (arith, up, down) in subst (λ (n : ℕ). IsBridged (passage a n (n + 1)) s) same h
  spared_one a m h i (inr x) = let up = x.0 in let down = x.1 in absurd (omega (arith, up, down))

  -- a piece, and the numbers at its two ends
  module _ (a point : ℕ) (strip : Strip) (piece : Piece) (its : IsPiece a strip point piece s) where
    abbrev IsEndDone : Option ℕ → Type 0
    IsEndDone m = (i : ℕ) → m ≡ Some i → IsCarriedIf (passage a i (i + 1)) s

    end_done : (i : ℕ) → IsEndDone piece.before → IsEndDone piece.after → IsBlocked (passage a i (i + 1)) s ⊎ IsEnd piece i → IsCarriedIf (passage a i (i + 1)) s
    end_done i before after (inl blocked) = blocked_if (passage a i (i + 1)) blocked
    end_done i before after (inr (inl is)) = before i is
    end_done i before after (inr (inr is)) = after i is

    pub beside_closed : IsCarriedFrom a piece.from piece.to s → IsEndDone piece.before → IsEndDone piece.after → IsCarriedBeside a strip point piece.to s
    beside_closed carried before after = record {
      first = piece.from - 1;
      low = let low = its.low in omega (arith, low);
      closed = λ i least most up down.
          elim (cases_lt i piece.from) [
            | inl lt ↦ let next : i + 1 ≡ piece.from = omega (arith, lt, least) in end_done i before after (its.below i next up)
            | inr ge ↦
                elim (cases_lt i piece.to) [
                  | inl inside ↦ λ exact. carried i ge inside
                  | inr past ↦
                      let same : i ≡ piece.to = omega (arith, past, most) in
                      subst (λ (n : ℕ). IsCarriedIf (passage a n (n + 1)) s) (sym same) (end_done piece.to before after (its.above (omega (arith, same, down))))
                ]
          ];
    }

-- a strip is one of each of its numbers
pub strip_at : (t : Timeline) (m n : ℕ) (strip : Strip) → IsStrip t m strip → strip.first ≤ n → n ≤ strip.last → IsStrip t n strip
strip_at t m n strip its low high = record { from = low; to = high; inside = its.inside; joined = its.joined; alike = its.alike; pause = its.pause; ends = its.ends }

-- where more is known rows and moments are the same
pub next_after : {W : Type 0} (s t : AnalysisState W) → Grows s t → (m w : ℕ) → s.path.given.moments.next m w ≡ true → t.path.given.moments.next m w ≡ true
next_after s t g m w next = rw g.path next

pub strip_after : {W : Type 0} (s t : AnalysisState W) → Grows s t → (m : ℕ) (strip : Strip) → IsStrip (timeline_of s) m strip → IsStrip (timeline_of t) m strip
strip_after s t g m strip its = subst (λ (P : Subject _). IsStrip (record { legs = P.given.legs; moments = P.given.moments }) m strip) (sym g.path) its

pub calm_after : {W : Type 0} (s t : AnalysisState W) → HasLaws (along s.path) → IsKept t → Grows s t → (a : ℕ) → a < 2 ^ 32 → (strip : Strip) → IsCalm a strip s → IsCalm a strip t
calm_after s t laws kept g a small strip calm p is = bridged_still s t laws kept g (passage a p (p + 1)) small (calm p is)

pub none_found : (o : Option ℕ) → ((y : ℕ) → o ≡ Some y → ⊥) → o ≡ None
none_found None never = refl
none_found (Some y) never = absurd (never y refl)

-- a stretch that wasn't found
pub nexts_none : (f : KnownValues) (a p : ℕ) (x : Option ValueStretch) → ((y : ValueStretch) → x ≡ Some y → ⊥) → Nexts f a p x → Nexts f a p None
nexts_none f a p None never h = h
nexts_none f a p (Some y) never h = absurd (never y refl)

-- where a value begins after a number, or where it ends if it begins there or before
abbrev pub IsEdge : ℕ → ValueStretch → ℕ → Type 0
IsEdge from stretch point = ((from < stretch.first) × (point ≡ stretch.first)) ⊎ ((stretch.first ≤ from) × (point ≡ stretch.last))

-- the number before which it begins, or at which it ends
abbrev pub IsBorder : ℕ → ValueStretch → ℕ → Type 0
IsBorder from stretch m = ((from < stretch.first) × (m + 1 ≡ stretch.first)) ⊎ ((stretch.first ≤ from) × (m ≡ stretch.last))

module _ {W : Type 0} (s : AnalysisState W) (a from : ℕ) (stretch : ValueStretch) (next : Nexts s.known.store.fact a from (Some stretch)) where
  pub border_onward : (m : ℕ) → IsBorder from stretch m → from ≤ m
  border_onward m (inl (later, is)) = omega (arith, later, is)
  border_onward m (inr (begun, is)) = let reaches = next.reaches in omega (arith, reaches, is)

  pub edge_onward : (point : ℕ) → IsEdge from stretch point → from ≤ point
  edge_onward point (inl (later, is)) = omega (arith, later, is)
  edge_onward point (inr (begun, is)) = let reaches = next.reaches in omega (arith, reaches, is)

module _ {W : Type 0} (s : AnalysisState W) (a from : ℕ) (strip : Strip) (below : IsCarriedBelow a strip from s) where
  -- nothing is known from a number on
  pub in_free : Nexts s.known.store.fact a from None → IsCarriedIn a strip s
  in_free none i up down =
      elim (cases_lt i from) [
        | inl less ↦ below i up less down
        | inr more ↦ free_if s (passage a i (i + 1)) (none i more) (none (i + 1) (omega (arith, more)))
      ]

  pub in_all : strip.last ≤ from → IsCarriedIn a strip s
  in_all far i up down = below i up (omega (arith, far, down)) down

  module _ (stretch : ValueStretch) (next : Nexts s.known.store.fact a from (Some stretch)) where
    -- from each number before the one at which something begins or ends
    before_border : (m : ℕ) → IsBorder from stretch m → (i : ℕ) → from ≤ i → i < m → IsCarriedIf (passage a i (i + 1)) s
    before_border m (inl (later, is)) i low lt = free_if s (passage a i (i + 1)) (next.free i low (omega (arith, is, lt))) (next.free (i + 1) (omega (arith, low)) (omega (arith, is, lt)))
    before_border m (inr (begun, is)) i low lt = same_if s (passage a i (i + 1)) stretch.value (next.run.value i (omega (arith, begun, low)) (omega (arith, is, lt))) (next.run.value (i + 1) (omega (arith, begun, low)) (omega (arith, is, lt)))

    before_edge : (point : ℕ) → IsEdge from stretch point → (i : ℕ) → from ≤ i → i + 1 < point → IsCarriedIf (passage a i (i + 1)) s
    before_edge point (inl (later, is)) i low lt = before_border (point - 1) (inl (later, omega (arith, is, later))) i low (omega (arith, lt))
    before_edge point (inr (begun, is)) i low lt = before_border point (inr (begun, is)) i low (omega (arith, lt))

    -- from those around the edge too
    pub below_beside : (point to : ℕ) → IsEdge from stretch point → IsCarriedBeside a strip point to s → IsCarriedBelow a strip (to + 1) s
    below_beside point to edge beside i up lt down =
        elim (cases_lt i from) [
          | inl less ↦ below i up less down
          | inr more ↦
              elim (cases_lt i beside.first) [
                | inl early ↦ let low = beside.low in before_edge point edge i more (omega (arith, early, low))
                | inr late ↦ beside.closed i late (omega (arith, lt)) up down
              ]
        ]

    -- from the border too
    pub below_border : (m : ℕ) → IsBorder from stretch m → IsCarriedIf (passage a m (m + 1)) s → IsCarriedBelow a strip (m + 1) s
    below_border m border here i up lt down =
        elim (cases_order i m) [
          | inl same ↦ subst (λ (n : ℕ). IsCarriedIf (passage a n (n + 1)) s) (sym same) here
          | inr (inl low) ↦
              elim (cases_lt i from) [
                | inl less ↦ below i up less down
                | inr more ↦ before_border m border i more low
              ]
          | inr (inr over) ↦ absurd (omega (arith, lt, over))
        ]

    pub in_edge : (point : ℕ) → IsEdge from stretch point → strip.last < point → IsCarriedIn a strip s
    in_edge point edge far i up down =
        elim (cases_lt i from) [
          | inl less ↦ below i up less down
          | inr more ↦ before_edge point edge i more (omega (arith, far, down))
        ]

    pub in_border : (m : ℕ) → IsBorder from stretch m → strip.last ≤ m → IsCarriedIn a strip s
    in_border m border far i up down =
        elim (cases_lt i from) [
          | inl less ↦ below i up less down
          | inr more ↦ before_border m border i more (omega (arith, far, down))
        ]

-- nothing is below the first number
pub below_first : {W : Type 0} (s : AnalysisState W) (a : ℕ) (strip : Strip) → IsCarriedBelow a strip strip.first s
below_first s a strip i up lt down = absurd (omega (arith, up, lt))

pub next_none : (M : Moments) (m least : ℕ) (o : Option ℕ) → ((y : ℕ) → o ≡ Some y → ⊥) → IsNextFrom M m least o → IsNextFrom M m least None
next_none M m least None never h = h
next_none M m least (Some y) never h = absurd (never y refl)

-- no number is linked to the end or one after it
pub links_first : {W : Type 0} (s : AnalysisState W) (a m : ℕ) → AreLinksBelow a m 0 s
links_first s a m w lt = absurd (omega (arith, lt))

-- the links of a number
module _ {W : Type 0} (s : AnalysisState W) (a m least : ℕ) (below : AreLinksBelow a m least s) where
  pub links_far : (next n : ℕ) → IsNextFrom s.path.given.moments m least (Some next) → ((w : ℕ) → next ≤ w → w < n → IsCarriedIf (passage a m w) s) → AreLinksBelow a m n s
  links_far next n its here v lt =
      elim (cases_lt v next) [
        | inl low ↦
            elim (cases_lt v least) [
              | inl early ↦ below v early
              | inr late ↦ apart_if s (passage a m v) (its.2 v late low)
            ]
        | inr on ↦ here v on lt
      ]

  pub links_none : IsNextFrom s.path.given.moments m least None → AreLinks a m s
  links_none none w =
      elim (cases_lt w least) [
        | inl early ↦ below w early
        | inr late ↦ apart_if s (passage a m w) (none w late)
      ]

  pub links_end : ((m w : ℕ) → s.path.given.moments.next m w ≡ true → (m ≤ s.path.given.moments.end) × (w ≤ s.path.given.moments.end)) → s.path.given.moments.end < least → AreLinks a m s
  links_end inside far w exact = record {
    onward = λ v carries h. (below w (let most = (inside m w carries.next).1 in omega (arith, most, far)) exact).onward v carries h;
    back = λ v carries h. (below w (let most = (inside m w carries.next).1 in omega (arith, most, far)) exact).back v carries h;
  }

-- one number alone
pub one_link : {W : Type 0} (s : AnalysisState W) (a m next w : ℕ) → next ≤ w → w < next + 1 → IsCarriedIf (passage a m next) s → IsCarriedIf (passage a m w) s
one_link s a m next w low high h = let same : next ≡ w = omega (arith, low, high) in subst (λ (n : ℕ). IsCarriedIf (passage a m n) s) same h

-- a number up to which it is as at one, or the number from which on it was asked, where it differs
pub like_order : (like n from : ℕ) (differs : Bool) → from ≤ like → n ≡ (if differs then from else like) → from ≤ n
like_order like n from true least is = let same : n ≡ from = is in omega (arith, same)
like_order like n from false least is = let same : n ≡ like = is in omega (arith, same, least)

-- the lesser of two numbers
pub within_min : (last end at : ℕ) → at ≡ min last end → (at ≤ last) × (at ≤ end) × ((n : ℕ) → n ≤ last → n ≤ end → n ≤ at)
within_min last end at is = (omega (arith, is), omega (arith, is), λ n p q. omega (arith, is, p, q))

-- where nothing is known from a number on
pub like_free : (f : KnownValues) (a from like n : ℕ) (here : Option ℕ) (differs : Bool) → differs ≡ is_some here → n ≡ (if differs then from else like) → ((q : ℕ) → from ≤ q → q < like → f q a ≡ None) → (w : ℕ) → from ≤ w → w < n → f w a ≡ here
like_free f a from like n (Some v) true e is free w low high = let same : n ≡ from = is in absurd (omega (arith, same, low, high))
like_free f a from like n (Some v) false e is free w low high = absurd (false≢true e)
like_free f a from like n None true e is free w low high = absurd (false≢true (sym e))
like_free f a from like n None false e is free w low high = let same : n ≡ like = is in free w low (omega (arith, same, high))

-- where the byte is carried to no number that is next to one, all links of that one are closed
pub links_blocked : {W : Type 0} (s : AnalysisState W) (a m : ℕ) → AreBlocked a m s → AreLinks a m s
links_blocked s a m blocked w exact = record {
  onward = λ v carries h. absurd (blocked w carries.next exact carries);
  back = λ v carries h. absurd (blocked w carries.next exact carries);
}

-- strip by strip
module _ {W : Type 0} (s : AnalysisState W) (a from number : ℕ) (strip : Strip) (its : IsStrip (record { legs = s.path.given.legs; moments = s.path.given.moments }) number strip) (least : strip.first ≤ from) where
  pub up_to_onward : IsCarriedUpTo a from s → ((i : ℕ) → from ≤ i → i < strip.last → IsCarriedIf (passage a i (i + 1)) s) → AreLinks a strip.last s → IsCarriedUpTo a (strip.last + 1) s
  up_to_onward before inside links m w lt =
      elim (cases_lt m from) [
        | inl early ↦ before m w early
        | inr late ↦
            elim (cases_lt m strip.last) [
              | inl low ↦ λ exact. record {
                onward = λ v carries h. (at m w late low carries.next exact).onward v carries h;
                back = λ v carries h. (at m w late low carries.next exact).back v carries h;
              }
              | inr past ↦ let same : m ≡ strip.last = omega (arith, past, lt) in subst (λ (n : ℕ). IsCarriedIf (passage a n w) s) (sym same) (links w)
            ]
      ]
    where
      at : (m w : ℕ) → from ≤ m → m < strip.last → s.path.given.moments.next m w ≡ true → IsCarriedIf (passage a m w) s
      at m w late low next =
          let joined = its.joined m (omega (arith, least, late)) low in
          subst (λ (n : ℕ). IsCarriedIf (passage a m n) s) (sym (joined.only w next)) (inside m late low)

  pub up_to_more : IsCarriedUpTo a from s → IsCarriedIn a strip s → AreLinks a strip.last s → IsCarriedUpTo a (strip.last + 1) s
  up_to_more before inside links = up_to_onward before (λ i up down. inside i (omega (arith, least, up)) down) links

  -- where the same is known in it, and a row of the list stops the byte at its end
  pub up_to_walled : (since last : ℕ) → IsEven a since last s → since ≤ from → strip.last ≤ last → AreBlocked a strip.last s → IsCarriedUpTo a from s → IsCarriedUpTo a (strip.last + 1) s
  up_to_walled since last even begun far blocked before = up_to_onward before (λ i up down. alike_if s (passage a i (i + 1)) (even i (omega (arith, begun, up)) (omega (arith, far, down)) ∙ sym (even (i + 1) (omega (arith, begun, up)) (omega (arith, far, down))))) (links_blocked s a strip.last blocked)

pub up_to_none : {W : Type 0} (s : AnalysisState W) (a : ℕ) → IsCarriedUpTo a 0 s
up_to_none s a m w lt = absurd (omega (arith, lt))

pub up_to_all : {W : Type 0} (s : AnalysisState W) (a from : ℕ) → ((m w : ℕ) → s.path.given.moments.next m w ≡ true → (m ≤ s.path.given.moments.end) × (w ≤ s.path.given.moments.end)) → s.path.given.moments.end < from → IsCarriedUpTo a from s → IsCarriedAlong a s
up_to_all s a from inside far h exact m w = record {
  onward = λ v carries k. (h m w (let most = (inside m w carries.next).0 in omega (arith, most, far)) exact).onward v carries k;
  back = λ v carries k. (h m w (let most = (inside m w carries.next).0 in omega (arith, most, far)) exact).back v carries k;
}

-- up to where the same is known
module _ {W : Type 0} (s : AnalysisState W) (a from : ℕ) where
  pub in_even : (to : ℕ) (strip : Strip) → IsEven a from to s → from ≡ strip.first → strip.last ≤ to → IsCarriedIn a strip s
  in_even to strip even same near i up down = alike_if s (passage a i (i + 1)) (even i (omega (arith, same, up)) (omega (arith, down, near)) ∙ sym (even (i + 1) (omega (arith, same, up)) (omega (arith, down, near))))

  -- from numbers that lead to no others than those at which the same is known
  pub up_to_even : (number n : ℕ) (known : NumberWindow) → IsEvenAround a number known s → known.from ≤ from → IsLeaving s.path.given.moments known from n → IsCarriedUpTo a from s → IsCarriedUpTo a n s
  up_to_even number n known around begun its before m w lt =
      elim (cases_lt m from) [
        | inl early ↦ before m w early
        | inr late ↦ λ exact. record {
          onward = λ v carries h. (at m w late lt carries.next exact).onward v carries h;
          back = λ v carries h. (at m w late lt carries.next exact).back v carries h;
        }
      ]
    where
      at : (m w : ℕ) → from ≤ m → m < n → s.path.given.moments.next m w ≡ true → IsCarriedIf (passage a m w) s
      at m w late lt next =
          let within = its.inside m w late lt next in
          let to = its.to in
          alike_if s (passage a m w) (around.even m (omega (arith, begun, late)) (omega (arith, lt, to)) ∙ sym (around.even w within.0 within.1))

-- and from a number that leads nowhere, too
pub up_to_idle : {W : Type 0} (s : AnalysisState W) (a m : ℕ) → IsCarriedUpTo a m s → AreLinks a m s → IsCarriedUpTo a (m + 1) s
up_to_idle s a m before here n w lt =
    elim (cases_lt n m) [
      | inl early ↦ before n w early
      | inr late ↦ let same : n ≡ m = omega (arith, late, lt) in subst (λ (k : ℕ). IsCarriedIf (passage a k w) s) (sym same) (here w)
    ]

-- the same window, around another of its numbers
pub around_at : {W : Type 0} (s : AnalysisState W) (a number m : ℕ) (known : NumberWindow) → IsEvenAround a number known s → known.from ≤ m → m < known.to → IsEvenAround a m known s
around_at s a number m known around low high = record {
  from = low;
  to = high;
  inside = around.inside;
  even = λ i from to. around.even i from to ∙ sym (around.even m low high);
}
