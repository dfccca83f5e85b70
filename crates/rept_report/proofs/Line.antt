-- Of one path of which each row is traced, the definitions for several threads say what was said of
-- it. What was said is written down here once more.
use Rattle.std.proofs.Common.{◌≡◌, ◌≢◌, ℕ, zero, suc, ◌+◌, ◌-◌, ◌<◌, ◌≤◌, ◌⊎◌, ◌&&◌, ◌||◌, Bool, true, false, not, eqb, ltb, leb, List, Option, Some, None, inl, inr, refl, sym, ap, subst, ◌∙◌, arith}
use Rattle.std.specs.Option.{is_some}
use Rattle.std.proofs.lemmas.Option.{slice_get_within, slice_get_cases}
use Rattle.std.proofs.lemmas.Bool.{cases_Bool, cases_eq, cases_lt, cond-true, cond-false, and_parts, and_from, eq-eqb, eqb-true, lt-ltb, le-ltb, ltb-true, le-leb, leb-true, false≢true}
use Rattle.rept_isa.specs.declared.row.StepRow.{StepRow}
use Rattle.rept_partial.specs.Sets.{Sets}
use Rattle.rept_reason.specs.declared.fact.Fact.{Fact}
use Rattle.rept_reason.specs.declared.fact.Cell.{Cell}
use Rattle.rept_reason.specs.declared.fact.Cell.TheVariants.{Register, Byte}
use Rattle.rept_reason.specs.Facts.{Knowledge, told}
use Rattle.rept_span.specs.Moves.{Moves}
use Rattle.rept_reason.specs.declared.view.inferred.When.{When}
use Rattle.rept_reason.specs.declared.view.inferred.When.TheVariants.{Before, After}
use Rattle.rept_reason.specs.View.Rules.{Rules}
use Rattle.rept_report.specs.Moments.{Moments, points_of}
use Rattle.rept_report.specs.Setting.{Setting, IsLast, IsInstant}
use Rattle.rept_report.specs.Given.{Given, setting_by}
use Rattle.rept_report.specs.Spots.{spot, passage}
use Rattle.rept_report.specs.OneThread.{Alone, given_alone, IsOnePath}
use Rattle.rept_report.specs.Views.{point_of, instant_of, may_write, Carries}
use Rattle.rept_report.specs.Writers.{IsCandidate, IsLastCandidate}
use Rattle.rept_report.specs.Implied.{all_past, is_settled}
use Rattle.rept_report.specs.Reasons.{IsSource, IsReached}
use Rattle.rept_report.specs.Reasons.IsReached.{here as reached_here, onward as reached_onward, back as reached_back}
use Rattle.rept_report.specs.Why.{looked_across, looked_below, looked_between, IsNearer}

some_none : {A : Type 0} {x : A} → Some x ≡ None → ⊥
some_none e = cc

-- a next moment is the next point
pub next_is : (n m w : ℕ) → (points_of n).next m w ≡ true → (m < n) × (w ≡ m + 1)
next_is n m w e = let parts = and_parts (ltb m n) (eqb w (m + 1)) e in (ltb-true m n parts.0, eqb-true w (m + 1) parts.1)

pub is_next : (n m : ℕ) → m < n → (points_of n).next m (m + 1) ≡ true
is_next n m h = and_from (ltb m n) (eqb (m + 1) (m + 1)) (lt-ltb m n h) (eq-eqb (m + 1) (m + 1) refl)

-- one thread is one path
pub is_line : (g : Alone) → IsOnePath (given_alone g)
is_line g = record {
  rows = λ i below. elim ((slice_get_cases g.rows i).1) [
    | inl (row, inside, is, at) ↦ (row, is)
    | inr (past, none) ↦ absurd (omega arith)
  ];
  inside = λ i row is. slice_get_within g.rows i row is;
  moments = refl;
}

module _ {W : Type 0} (sets : Sets W) (moves : Moves W) (rules : Rules) (g : Given) (line : IsOnePath g) where
  abbrev S : Setting W
  S = setting_by sets moves rules g

  abbrev n : ℕ
  n = g.legs.count

  next_at : (m w : ℕ) → S.moments.next m w ≡ true → (m < n) × (w ≡ m + 1)
  next_at m w e = next_is n m w (subst (λ (t : Moments). t.next m w ≡ true) line.moments e)

  at_next : (m : ℕ) → m < n → S.moments.next m (m + 1) ≡ true
  at_next m h = subst (λ (t : Moments). t.next m (m + 1) ≡ true) (sym line.moments) (is_next n m h)

  -- the end is the last point
  pub end_is : S.moments.end ≡ n
  end_is = ap (λ (t : Moments). t.end) line.moments

  -- a byte is carried over the row between two points that may not write it
  pub record CarriesBefore (K : Knowledge) (a p q : ℕ) : Type 0 where
    pub inside : p < n
    pub next : q ≡ p + 1
    pub spared : may_write S K p a ≡ false

  pub carries_is_before : (K : Knowledge) (a p q : ℕ) → Carries S K (passage a p q) → CarriesBefore K a p q
  carries_is_before K a p q h =
      let e = next_at p q h.next in
      record { inside = e.0; next = e.1; spared = h.spared p (subst (λ (t : Moments). t.may_act p p q ≡ true) (sym line.moments) (eq-eqb p p refl)) }

  pub before_carries : (K : Knowledge) (a p q : ℕ) → CarriesBefore K a p q → Carries S K (passage a p q)
  before_carries K a p q h = rw h.next (record { next = at_next p h.inside; light = ap (λ (t : Moments). t.untraced p (p + 1)) line.moments; spared = λ i may_act. let same = eqb-true i p (subst (λ (t : Moments). t.may_act i p (p + 1) ≡ true) line.moments may_act) in rw same h.spared })

  -- the last point is the one after all rows
  pub last_is : (p : ℕ) → IsLast S p → p ≡ n
  last_is p h =
      elim (cases_lt p n) [
        | inl below ↦ absurd (some_none (sym (line.rows p below).1 ∙ h.1))
        | inr past ↦ let early = h.0 in omega arith
      ]

  pub is_last : (p : ℕ) → p ≡ n → IsLast S p
  is_last p e = (omega arith, none_of (g.legs.row p) refl)
    where
      none_of : (row : Option StepRow) → g.legs.row p ≡ row → row ≡ None
      none_of None is = refl
      none_of (Some row) is = let below = line.inside p row is in absurd (omega arith)

  -- a row's points are its moments
  pub instant_is : (i : ℕ) (w : When) (c : Cell) → instant_of S.moments i w c ≡ point_of i w
  instant_is i w (Register r) = refl
  instant_is i Before (Byte a) = ap (λ (t : Moments). t.before i) line.moments
  instant_is i After (Byte a) = ap (λ (t : Moments). t.after i) line.moments

  -- facts stand at points of the path
  pub instant_early : (c : Cell) (p : ℕ) → IsInstant S c p → p ≤ n
  instant_early (Register r) p h = h
  instant_early (Byte a) p h = subst (λ (t : Moments). p ≤ t.end) line.moments h

  pub early_instant : (c : Cell) (p : ℕ) → p ≤ n → IsInstant S c p
  early_instant (Register r) p h = h
  early_instant (Byte a) p h = subst (λ (t : Moments). p ≤ t.end) (sym line.moments) h

  -- of a byte and a point the same is said of the writer
  pub record WriteLastBefore (K : Knowledge) (p a j : ℕ) : Type 0 where
    pub earlier : j < p
    pub may : may_write S K j a ≡ true
    pub later : (k : ℕ) → j < k → k < p → may_write S K k a ≡ false

  pub last_candidate : (K : Knowledge) (p a j : ℕ) → WriteLastBefore K p a j → IsLastCandidate S K (spot p a) j
  last_candidate K p a j h = record {
    one = record { may = h.may; reaches = subst (λ (t : Moments). t.ahead j p ≡ false) (sym line.moments) (past_false j h.earlier) };
    after = λ k c other.
        let before : k < j = below k c other in
        record {
          later = subst (λ (t : Moments). t.later j k ≡ true) (sym line.moments) (lt-ltb k j before);
          apart = subst (λ (t : Moments). t.later k j ≡ false) (sym line.moments) (le-ltb j k (omega arith));
        };
    untraced = λ e. absurd (false≢true (subst (λ (t : Moments). t.is_untraced ≡ true) line.moments e));
  }
    where
      past_false : (k : ℕ) → k < p → leb p k ≡ false
      past_false k low =
          elim (cases_Bool (leb p k)) [
            | inl reached ↦ let high = leb-true p k reached in absurd (omega arith)
            | inr out ↦ out
          ]

      below : (k : ℕ) → IsCandidate S K (spot p a) k → (k ≡ j → ⊥) → k < j
      below k c other =
          elim (cases_lt k j) [
            | inl less ↦ less
            | inr more ↦
                elim (cases_lt k p) [
                  | inl low ↦
                      elim (cases_eq k j) [
                        | inl same ↦ absurd (other same)
                        | inr ne ↦ absurd (false≢true (sym (h.later k (omega arith) low) ∙ c.may))
                      ]
                  | inr high ↦ absurd (false≢true (sym (subst (λ (t : Moments). t.ahead k p ≡ false) line.moments c.reaches) ∙ le-leb p k high))
                ]
          ]

  pub candidate_last : (K : Knowledge) (p a j : ℕ) → IsLastCandidate S K (spot p a) j → WriteLastBefore K p a j
  candidate_last K p a j h = record {
    earlier = reached j h.one;
    may = h.one.may;
    later = λ k above low.
        elim (cases_Bool (may_write S K k a)) [
          | inl may ↦
              let x = h.after k (record { may = may; reaches = subst (λ (t : Moments). t.ahead k p ≡ false) (sym line.moments) (past_false k low) }) (λ same. omega arith) in
              let less = ltb-true k j (subst (λ (t : Moments). t.later j k ≡ true) line.moments x.later) in
              absurd (omega arith)
          | inr out ↦ out
        ];
  }
    where
      past_false : (k : ℕ) → k < p → leb p k ≡ false
      past_false k low =
          elim (cases_Bool (leb p k)) [
            | inl reached ↦ let high = leb-true p k reached in absurd (omega arith)
            | inr out ↦ out
          ]

      reached : (k : ℕ) → IsCandidate S K (spot p a) k → k < p
      reached k c =
          elim (cases_lt k p) [
            | inl low ↦ low
            | inr high ↦ absurd (false≢true (sym (subst (λ (t : Moments). t.ahead k p ≡ false) line.moments c.reaches) ∙ le-leb p k high))
          ]

  -- an implied byte is one that no row from the point on may write
  pub settled_is : (K : Knowledge) (p a : ℕ) → is_settled S K (spot p a) ≡ true → (i : ℕ) → p ≤ i → i < n → may_write S K i a ≡ false
  settled_is K p a e i from to = go n (subst (λ (t : Moments). all_past t (may_write S K) (spot p a) n ≡ true) line.moments (and_parts (S.moments.untraced_past p) (all_past S.moments (may_write S K) (spot p a) n) e).1) i from to
    where
      go : (k : ℕ) → all_past (points_of n) (may_write S K) (spot p a) k ≡ true → (i : ℕ) → p ≤ i → i < k → may_write S K i a ≡ false
      go zero e i from to = absurd (omega arith)
      go (suc k) e i from to =
          let parts = and_parts (ltb k p || not (may_write S K k a)) (all_past (points_of n) (may_write S K) (spot p a) k) e in
          elim (cases_eq i k) [
            | inl here ↦
                elim (cases_Bool (may_write S K k a)) [
                  | inl may ↦ let low = ltb-true k p (either (ltb k p) (may_write S K k a) parts.0 may) in absurd (omega arith)
                  | inr out ↦ rw here out
                ]
            | inr other ↦ go k parts.1 i from (omega arith)
          ]
        where
          either : (x c : Bool) → (x || not c) ≡ true → c ≡ true → x ≡ true
          either true c e h = refl
          either false true e h = absurd (false≢true e)
          either false false e h = absurd (false≢true h)

  pub is_settled_from : (K : Knowledge) (p a : ℕ) → ((i : ℕ) → p ≤ i → i < n → may_write S K i a ≡ false) → is_settled S K (spot p a) ≡ true
  is_settled_from K p a h = and_from (S.moments.untraced_past p) (all_past S.moments (may_write S K) (spot p a) n) (ap (λ (t : Moments). t.untraced_past p) line.moments) (subst (λ (t : Moments). all_past t (may_write S K) (spot p a) n ≡ true) (sym line.moments) (go n (λ i from to. h i from to)))
    where
      either : (x c : Bool) → (x ≡ false → c ≡ false) → (x || not c) ≡ true
      either true c e = refl
      either false c e = rw (e refl) refl

      go : (k : ℕ) → ((i : ℕ) → p ≤ i → i < k → may_write S K i a ≡ false) → all_past (points_of n) (may_write S K) (spot p a) k ≡ true
      go zero h = refl
      go (suc k) h =
          and_from (ltb k p || not (may_write S K k a)) (all_past (points_of n) (may_write S K) (spot p a) k)
          (either (ltb k p) (may_write S K k a) (λ high.
          elim (cases_lt k p) [
            | inl low ↦ absurd (false≢true (sym high ∙ lt-ltb k p low))
            | inr from ↦ h k from (omega arith)
          ]))
          (go k (λ i from to. h i from (omega arith)))

  -- the same with other moments
  abbrev timed : Moments → Setting W
  timed t = setting_by sets moves rules (record { legs = g.legs; moments = t; last = g.last; dump = g.dump; image_end = g.image_end })

  abbrev T : Setting W
  T = timed (points_of n)

  -- the ranges that are listed are those of the row between
  pub looked_is : (K : Knowledge) (a i : ℕ) → i < n → looked_between S K (passage a i (i + 1)) ≡ looked_across S K i
  looked_is K a i inside = subst (λ (t : Moments). looked_between (timed t) K (passage a i (i + 1)) ≡ looked_across (timed t) K i) (sym line.moments) (go n inside)
    where
      some_row : (k : ℕ) → k < n → is_some (g.legs.row k) ≡ true
      some_row k low = rw (line.rows k low).1 refl

      is_here : is_some (g.legs.row i) && (eqb i i && eqb (i + 1) (i + 1)) ≡ true
      is_here = and_from (is_some (g.legs.row i)) (eqb i i && eqb (i + 1) (i + 1)) (some_row i inside) (and_from (eqb i i) (eqb (i + 1) (i + 1)) (eq-eqb i i refl) (eq-eqb (i + 1) (i + 1) refl))

      elsewhere : (k : ℕ) → k ≢ i → is_some (g.legs.row k) && (eqb k i && eqb (k + 1) (i + 1)) ≡ false
      elsewhere k other =
          elim (cases_Bool (is_some (g.legs.row k) && (eqb k i && eqb (k + 1) (i + 1)))) [
            | inl t ↦ absurd (other (eqb-true k i (and_parts (eqb k i) (eqb (k + 1) (i + 1)) (and_parts (is_some (g.legs.row k)) (eqb k i && eqb (k + 1) (i + 1)) t).1).0))
            | inr out ↦ out
          ]

      go : (k : ℕ) → i < k → looked_below T K (passage a i (i + 1)) k ≡ looked_across T K i
      go zero low = absurd (omega arith)
      go (suc k) low =
          elim (cases_eq k i) [
            | inl same ↦ rw same (cond-true (is_some (g.legs.row i) && (eqb i i && eqb (i + 1) (i + 1))) (looked_across T K i) (looked_below T K (passage a i (i + 1)) i) is_here)
            | inr other ↦ cond-false (is_some (g.legs.row k) && (eqb k i && eqb (k + 1) (i + 1))) (looked_across T K k) (looked_below T K (passage a i (i + 1)) k) (elsewhere k other) ∙ go k (omega arith)
          ]

  -- a point from which the byte is carried to another one, as it was said of one path
  pub record OriginBefore (fs : List Fact) (a p q : ℕ) : Type 0 where
    pub early : q ≤ n
    pub has : IsSource S fs a q
    pub spared : (i : ℕ) → ((p ≤ i) × (i < q)) ⊎ ((q ≤ i) × (i < p)) → may_write S (told fs) i a ≡ false

  abbrev pub apart : ℕ → ℕ → ℕ
  apart p q = (p - q) + (q - p)

  module _ (fs : List Fact) (a : ℕ) where
    pub carried_over : (i : ℕ) → i < n → may_write S (told fs) i a ≡ false → Carries S (told fs) (passage a i (i + 1))
    carried_over i inside spared = before_carries (told fs) a i (i + 1) (record { inside = inside; next = refl; spared = spared })

    -- it is as many steps away as points lie between
    reached_later : (k p : ℕ) → p + k ≤ n → OriginBefore fs a p (p + k) → IsReached S fs a k p
    reached_later zero p early o = let same : p + 0 ≡ p = omega arith in reached_here p (rw same at o.has)
    reached_later (suc k) p early o =
        let same : p + suc k ≡ p + 1 + k = omega arith in
        let o' : OriginBefore fs a (p + 1) (p + 1 + k) = subst (OriginBefore fs a (p + 1)) same (record { early = o.early; has = o.has; spared = λ i x. o.spared i (elim x [ inl (l, u) ↦ inl (omega arith, u) | inr (l, u) ↦ absurd (omega arith) ]) }) in
        reached_back k p (p + 1) (carried_over p (omega arith) (o.spared p (inl (omega arith, omega arith)))) (reached_later k (p + 1) (omega arith) o')

    reached_earlier : (k q : ℕ) → q + k ≤ n → OriginBefore fs a (q + k) q → IsReached S fs a k (q + k)
    reached_earlier zero q early o = let same : q ≡ q + 0 = omega arith in subst (IsReached S fs a zero) same (reached_here q o.has)
    reached_earlier (suc k) q early o =
        let same : q + k + 1 ≡ q + suc k = omega arith in
        let o' : OriginBefore fs a (q + k) q = record { early = o.early; has = o.has; spared = λ i x. o.spared i (elim x [ inl (l, u) ↦ absurd (omega arith) | inr (l, u) ↦ inr (l, omega arith) ]) } in
        subst (IsReached S fs a (suc k)) same (reached_onward k (q + k) (q + k + 1) (carried_over (q + k) (omega arith) (o.spared (q + k) (inr (omega arith, omega arith)))) (reached_earlier k q (omega arith) o'))

    pub origin_reached : (p q : ℕ) → p ≤ n → OriginBefore fs a p q → IsReached S fs a (apart p q) p
    origin_reached p q low o =
        let high = o.early in
        elim (cases_lt q p) [
          | inl before ↦
              let at : q + (p - q) ≡ p = omega arith in
              let far : p - q ≡ apart p q = omega arith in
              let o' : OriginBefore fs a (q + (p - q)) q = subst (λ (x : ℕ). OriginBefore fs a x q) (sym at) o in
              subst (λ (x : ℕ). IsReached S fs a x p) far (subst (IsReached S fs a (p - q)) at (reached_earlier (p - q) q (omega arith) o'))
          | inr after ↦
              let at : q ≡ p + (q - p) = omega arith in
              let far : q - p ≡ apart p q = omega arith in
              subst (λ (x : ℕ). IsReached S fs a x p) far (reached_later (q - p) p (omega arith) (subst (OriginBefore fs a p) at o))
        ]

    -- and what so many steps reach has such a point as near
    pub reached_origin : (k p : ℕ) → p ≤ n → IsReached S fs a k p → (q : ℕ) × (apart p q ≤ k) × OriginBefore fs a p q
    reached_origin _ _ low (reached_here m x) = (m, omega arith, record { early = low; has = x; spared = λ i y. elim y [ inl (l, u) ↦ absurd (omega arith) | inr (l, u) ↦ absurd (omega arith) ] })
    reached_origin _ _ low (reached_onward k m w c x) =
        let b = carries_is_before (told fs) a m w c in
        let inside = b.inside in
        let next = b.next in
        let o = reached_origin k m (omega arith) x in
        let near = o.1 in
        (o.0, omega arith, record { early = o.2.early; has = o.2.has; spared = λ i y. elim (cases_eq i m) [ inl same ↦ rw same b.spared | inr other ↦ o.2.spared i (elim y [ inl (l, u) ↦ inl (omega arith, u) | inr (l, u) ↦ inr (l, omega arith) ]) ] })
    reached_origin _ _ low (reached_back k m w c x) =
        let b = carries_is_before (told fs) a m w c in
        let inside = b.inside in
        let next = b.next in
        let o = reached_origin k w (omega arith) x in
        let near = o.1 in
        (o.0, omega arith, record { early = o.2.early; has = o.2.has; spared = λ i y. elim (cases_eq i m) [ inl same ↦ rw same b.spared | inr other ↦ o.2.spared i (elim y [ inl (l, u) ↦ inl (omega arith, u) | inr (l, u) ↦ inr (l, omega arith) ]) ] })

    -- the next point on the way to the nearest such point needs fewer steps
    pub nearer_onward : (i q : ℕ) → i < n → OriginBefore fs a (i + 1) q → ((r : ℕ) → OriginBefore fs a (i + 1) r → apart (i + 1) q ≤ apart (i + 1) r) → q ≤ i → IsNearer S fs a i (i + 1)
    nearer_onward i q inside o nearest before = record {
      uses = apart i q;
      here = origin_reached i q (omega arith) (record { early = o.early; has = o.has; spared = λ k x. o.spared k (elim x [ inl (l, u) ↦ absurd (omega arith) | inr (l, u) ↦ inr (l, omega arith) ]) });
      not_there = λ k le x.
          let r = reached_origin k (i + 1) (omega arith) x in
          let near = r.1 in
          let least = nearest r.0 r.2 in
          omega arith;
    }

    pub nearer_back : (i q : ℕ) → OriginBefore fs a i q → ((r : ℕ) → OriginBefore fs a i r → apart i q ≤ apart i r) → i < q → IsNearer S fs a (i + 1) i
    nearer_back i q o nearest after =
        let early = o.early in
        record {
          uses = apart (i + 1) q;
          here = origin_reached (i + 1) q (omega arith) (record { early = o.early; has = o.has; spared = λ k x. o.spared k (elim x [ inl (l, u) ↦ inl (omega arith, u) | inr (l, u) ↦ absurd (omega arith) ]) });
          not_there = λ k le x.
              let r = reached_origin k i (omega arith) x in
              let near = r.1 in
              let least = nearest r.0 r.2 in
              omega arith;
        }
