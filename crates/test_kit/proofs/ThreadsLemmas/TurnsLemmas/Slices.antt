-- The slices of a thread's turns: in which turn the row of a slice stands, and what times say of
-- places.
use Rattle.std.proofs.Common.{◌≡◌, ℕ, suc, ◌+◌, ◌<◌, ◌≤◌, List, [], ◌∷◌, length, Some, None, All, inl, inr, refl, sym, ap, ◌∙◌, subst, arith}
use Rattle.std.proofs.lemmas.Bool.{cases_eq, cases_lt, eq-eqb, ne_eqb, lt-ltb, le-ltb}
use Rattle.std.proofs.lemmas.List.Elements.{All-head, All-tail}
use Rattle.rept_steps.specs.declared.slice.Slice.{Slice}
use Rattle.rept_steps.specs.Course.{slice_of, slice_after, first_slice, TakeRows, BeginsFrom, KeepTime, Course, CallsEnd, IsSoundCourse, rows_of}
use Rattle.test_kit.specs.declared.threads.turns.turn.Turn.{Turn}
use Rattle.test_kit.specs.Threads.Turns.Turns.{rows_in, turn_at, slice_by, slices_from, HasTurns, AreSome, AreInOrder, AreTurnsApart}
use Rattle.test_kit.proofs.ThreadsLemmas.TurnsLemmas.Places.{place_in, rows_own, rows_other, place_here, place_past, place_other, turn_here, turn_past, past, same_turn, none_turn}

pub same_slice : {a b : Slice} → Some a ≡ Some b → a ≡ b
same_slice e = cc

pub none_slice : {a : Slice} → None ≡ Some a → ⊥
none_slice e = cc

module _ (t first : ℕ) (h : Turn) (turns : List Turn) where
  pub slices_own : h.thread ≡ t → slices_from t first (h ∷ turns) ≡ slice_by first h ∷ slices_from t (first + h.count) turns
  slices_own same = rw (eq-eqb h.thread t same) refl

  pub slices_other : (h.thread ≡ t → ⊥) → slices_from t first (h ∷ turns) ≡ slices_from t first turns
  slices_other other = rw (ne_eqb h.thread t other) refl

-- they take the thread's rows
pub slices_take : (t first to : ℕ) (turns : List Turn) → to ≡ first + rows_in t turns → TakeRows first (slices_from t first turns) to
slices_take t first to [] is = omega arith
slices_take t first to (h ∷ turns) is =
    elim (cases_eq h.thread t) [
      | inl same ↦
          let rows = rows_own t h turns same in
          subst (λ (ss : List Slice). TakeRows first ss to) (sym (slices_own t first h turns same)) (refl, slices_take t (first + h.count) to turns (omega arith))
      | inr other ↦
          let rows = rows_other t h turns other in
          subst (λ (ss : List Slice). TakeRows first ss to) (sym (slices_other t first h turns other)) (slices_take t first to turns (omega arith))
    ]

-- they keep time
begins : (t first time : ℕ) (turns : List Turn) → All (λ later. later.thread ≡ t → time ≤ later.begin) turns → BeginsFrom time (first_slice (slices_from t first turns))
begins t first time [] apart = tt
begins t first time (h ∷ turns) apart =
    elim (cases_eq h.thread t) [
      | inl same ↦ subst (λ (ss : List Slice). BeginsFrom time (first_slice ss)) (sym (slices_own t first h turns same)) (All-head (λ later. later.thread ≡ t → time ≤ later.begin) h turns apart same)
      | inr other ↦ subst (λ (ss : List Slice). BeginsFrom time (first_slice ss)) (sym (slices_other t first h turns other)) (begins t first time turns (All-tail (λ later. later.thread ≡ t → time ≤ later.begin) h turns apart))
    ]

pub slices_keep : (t first : ℕ) (turns : List Turn) → AreInOrder turns → AreTurnsApart turns → KeepTime (slices_from t first turns)
slices_keep t first [] order apart = tt
slices_keep t first (h ∷ turns) order apart =
    elim (cases_eq h.thread t) [
      | inl same ↦ subst (λ (ss : List Slice). KeepTime ss) (sym (slices_own t first h turns same))
          (order.0, begins t (first + h.count) h.end turns (subst (λ (u : ℕ). All (λ later. later.thread ≡ u → h.end ≤ later.begin) turns) same apart.0), slices_keep t (first + h.count) turns order.2 apart.1)
      | inr other ↦ subst (λ (ss : List Slice). KeepTime ss) (sym (slices_other t first h turns other)) (slices_keep t first turns order.2 apart.1)
    ]

pub turns_sound : (C : Course) (turns : List Turn) → HasTurns C turns → AreInOrder turns → AreTurnsApart turns → CallsEnd C → IsSoundCourse C
turns_sound C turns has order apart ends = record {
  taken = λ t. subst (λ (ss : List Slice). TakeRows 0 ss (length (rows_of C t))) (sym (has.slices t)) (slices_take t 0 (length (rows_of C t)) turns (let rows = has.rows t in omega arith));
  in_time = λ t. subst (λ (ss : List Slice). KeepTime ss) (sym (has.slices t)) (slices_keep t 0 turns order apart);
  calls = inr ends;
}

-- a row that is in a slice: the turn that has it, with the slice's times
pub record InTurn (t : ℕ) (turns : List Turn) (i : ℕ) (s : Slice) : Type 0 where
  pub turn : Turn
  pub at : turn_at turns (place_in t turns i) ≡ Some turn
  pub begin : turn.begin ≡ s.begin
  pub end : turn.end ≡ s.end
  pub few : i < rows_in t turns

in_turn_by : (t : ℕ) (turns : List Turn) (i p : ℕ) (s : Slice) (turn : Turn) → place_in t turns i ≡ p → turn_at turns p ≡ Some turn → turn.begin ≡ s.begin → turn.end ≡ s.end → i < rows_in t turns → InTurn t turns i s
in_turn_by t turns i p s turn is at begin end few = record { turn = turn; at = ap (turn_at turns) is ∙ at; begin = begin; end = end; few = few }

pub in_turn : (t first : ℕ) (turns : List Turn) (i : ℕ) (s : Slice) → slice_of (slices_from t first turns) (first + i) ≡ Some s → InTurn t turns i s
in_turn t first [] i s found = absurd (none_slice found)
in_turn t first (h ∷ turns) i s found =
    elim (cases_eq h.thread t) [
      | inl same ↦
          let rows = rows_own t h turns same in
          let listed : slice_of (slice_by first h ∷ slices_from t (first + h.count) turns) (first + i) ≡ Some s = subst (λ (ss : List Slice). slice_of ss (first + i) ≡ Some s) (slices_own t first h turns same) found in
          elim (cases_lt i h.count) [
            | inl here ↦
                let is : slice_by first h ≡ s = same_slice (rw (lt-ltb (first + i) (first + h.count) (omega arith)) at listed) in
                in_turn_by t (h ∷ turns) i i s h (place_here t h turns i same here) (turn_here h turns i here) (ap (λ (x : Slice). x.begin) is) (ap (λ (x : Slice). x.end) is) (omega arith)
            | inr beyond ↦
                let j = past h.count i beyond in
                let is = j.1 in
                let later : slice_of (slices_from t (first + h.count) turns) (first + i) ≡ Some s = rw (le-ltb (first + i) (first + h.count) (omega arith)) at listed in
                let number : first + i ≡ first + h.count + j.0 = omega arith in
                let rest = in_turn t (first + h.count) turns j.0 s (subst (λ (k : ℕ). slice_of (slices_from t (first + h.count) turns) k ≡ Some s) number later) in
                let few = rest.few in
                in_turn_by t (h ∷ turns) i (h.count + place_in t turns j.0) s rest.turn (ap (place_in t (h ∷ turns)) j.1 ∙ place_past t h turns j.0 same) (turn_past h turns (place_in t turns j.0) ∙ rest.at) rest.begin rest.end (omega arith)
          ]
      | inr other ↦
          let rows = rows_other t h turns other in
          let rest = in_turn t first turns i s (subst (λ (ss : List Slice). slice_of ss (first + i) ≡ Some s) (slices_other t first h turns other) found) in
          let few = rest.few in
          in_turn_by t (h ∷ turns) i (h.count + place_in t turns i) s rest.turn (place_other t h turns i other) (turn_past h turns (place_in t turns i) ∙ rest.at) rest.begin rest.end (omega arith)
    ]

-- the slice after that of its last row is the one of the next row
first_next : (t first : ℕ) (turns : List Turn) → AreSome turns → first_slice (slices_from t first turns) ≡ slice_of (slices_from t first turns) first
first_next t first [] some = refl
first_next t first (h ∷ turns) some =
    let count = All-head (λ (turn : Turn). 0 < turn.count) h turns some in
    elim (cases_eq h.thread t) [
      | inl same ↦ subst (λ (ss : List Slice). first_slice ss ≡ slice_of ss first) (sym (slices_own t first h turns same)) (rw (lt-ltb first (first + h.count) (omega arith)) refl)
      | inr other ↦ subst (λ (ss : List Slice). first_slice ss ≡ slice_of ss first) (sym (slices_other t first h turns other)) (first_next t first turns (All-tail (λ (turn : Turn). 0 < turn.count) h turns some))
    ]

pub slice_next : (t first : ℕ) (turns : List Turn) (i : ℕ) → AreSome turns → ((s : Slice) → slice_of (slices_from t first turns) i ≡ Some s → s.first + s.count ≡ suc i) → slice_after (slices_from t first turns) i ≡ slice_of (slices_from t first turns) (suc i)
slice_next t first [] i some last = refl
slice_next t first (h ∷ turns) i some last =
    let later = All-tail (λ (turn : Turn). 0 < turn.count) h turns some in
    elim (cases_eq h.thread t) [
      | inl same ↦
          let own = slices_own t first h turns same in
          elim (cases_lt i (first + h.count)) [
            | inl here ↦
                let ends : first + h.count ≡ suc i = last (slice_by first h) (ap (λ (ss : List Slice). slice_of ss i) own ∙ (rw (lt-ltb i (first + h.count) here) refl)) in
                let next : first_slice (slices_from t (first + h.count) turns) ≡ slice_of (slices_from t (first + h.count) turns) (suc i) = first_next t (first + h.count) turns later ∙ ap (slice_of (slices_from t (first + h.count) turns)) ends in
                subst (λ (ss : List Slice). slice_after ss i ≡ slice_of ss (suc i)) (sym own) (rw (lt-ltb i (first + h.count) here, le-ltb (suc i) (first + h.count) (omega arith)) next)
            | inr beyond ↦
                let rest = slice_next t (first + h.count) turns i later (λ s found. last s (ap (λ (ss : List Slice). slice_of ss i) own ∙ (rw (le-ltb i (first + h.count) beyond) found))) in
                subst (λ (ss : List Slice). slice_after ss i ≡ slice_of ss (suc i)) (sym own) (rw (le-ltb i (first + h.count) beyond, le-ltb (suc i) (first + h.count) (omega arith)) rest)
          ]
      | inr other ↦
          let not_own = slices_other t first h turns other in
          subst (λ (ss : List Slice). slice_after ss i ≡ slice_of ss (suc i)) (sym not_own) (slice_next t first turns i later (λ s found. last s (ap (λ (ss : List Slice). slice_of ss i) not_own ∙ found)))
    ]

-- a turn that ends before another one begins stands before it
holds_at : (turns : List Turn) (P : Turn → Type 0) (k : ℕ) (turn : Turn) → All P turns → turn_at turns k ≡ Some turn → P turn
holds_at [] P k turn all at = absurd (none_turn at)
holds_at (h ∷ turns) P k turn all at =
    elim (cases_lt k h.count) [
      | inl here ↦ subst P (same_turn (sym (turn_here h turns k here) ∙ at)) (All-head P h turns all)
      | inr beyond ↦
          let j = past h.count k beyond in
          holds_at turns P j.0 turn (All-tail P h turns all) (sym (turn_past h turns j.0) ∙ ap (turn_at (h ∷ turns)) (sym j.1) ∙ at)
    ]

pub in_order : (turns : List Turn) (p q : ℕ) (a b : Turn) → AreInOrder turns → turn_at turns p ≡ Some a → turn_at turns q ≡ Some b → a.end < b.begin → p < q
in_order [] p q a b order at its less = absurd (none_turn at)
in_order (h ∷ turns) p q a b order at its less =
    elim (cases_lt q h.count) [
      | inl here ↦
          let second : h ≡ b = same_turn (sym (turn_here h turns q here) ∙ its) in
          let begin : h.begin ≡ b.begin = ap (λ (x : Turn). x.begin) second in
          elim (cases_lt p h.count) [
            | inl near ↦
                let end : h.end ≡ a.end = ap (λ (x : Turn). x.end) (same_turn (sym (turn_here h turns p near) ∙ at)) in
                let one = order.0 in
                absurd (omega arith)
            | inr beyond ↦
                let i = past h.count p beyond in
                let later : h.begin ≤ a.end = holds_at turns (λ later. h.begin ≤ later.end) i.0 a order.1 (sym (turn_past h turns i.0) ∙ ap (turn_at (h ∷ turns)) (sym i.1) ∙ at) in
                absurd (omega arith)
          ]
      | inr far ↦ elim (cases_lt p h.count) [
        | inl near ↦ omega arith
        | inr beyond ↦
            let i = past h.count p beyond in
            let j = past h.count q far in
            let one = i.1 in
            let two = j.1 in
            let rest = in_order turns i.0 j.0 a b order.2 (sym (turn_past h turns i.0) ∙ ap (turn_at (h ∷ turns)) (sym i.1) ∙ at) (sym (turn_past h turns j.0) ∙ ap (turn_at (h ∷ turns)) (sym j.1) ∙ its) less in
            omega arith
      ]
    ]
