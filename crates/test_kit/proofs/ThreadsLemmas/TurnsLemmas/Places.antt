-- The rows of turns: which row stands at a place among all, and at which place a row of a thread
-- stands.
use Rattle.std.proofs.Common.{◌≡◌, ℕ, suc, ◌+◌, ◌-◌, ◌<◌, ◌≤◌, min, eqb, cond, nat_lt, List, [], ◌∷◌, Some, None, inl, inr, refl, sym, ap, ◌∙◌, arith}
use Rattle.std.proofs.lemmas.Bool.{cases_eq, cases_lt, eq-eqb, ne_eqb, lt-ltb, le-ltb}
use Rattle.test_kit.specs.declared.threads.turns.turn.Turn.{Turn}
use Rattle.test_kit.specs.Threads.Turns.Turns.{all_rows, rows_in, steps_before, turn_at}

-- the place among all rows of row i of thread t; past its last row, the number of all rows
abbrev pub place_in : ℕ → List Turn → ℕ → ℕ
place_in t [] i = 0
place_in t (turn ∷ turns) i = cond (eqb turn.thread t) (cond (nat_lt i turn.count) i (turn.count + place_in t turns (i - turn.count))) (turn.count + place_in t turns i)

pub same_turn : {a b : Turn} → Some a ≡ Some b → a ≡ b
same_turn e = cc

pub none_turn : {a : Turn} → None ≡ Some a → ⊥
none_turn e = cc

minus_same : (c p : ℕ) → (c + p) - c ≡ p
minus_same c p = omega arith

-- the cases of the first turn
module _ (t : ℕ) (h : Turn) (turns : List Turn) where
  pub rows_own : h.thread ≡ t → rows_in t (h ∷ turns) ≡ h.count + rows_in t turns
  rows_own same = rw (eq-eqb h.thread t same) refl

  pub rows_other : (h.thread ≡ t → ⊥) → rows_in t (h ∷ turns) ≡ rows_in t turns
  rows_other other = rw (ne_eqb h.thread t other) (omega arith)

  pub place_here : (i : ℕ) → h.thread ≡ t → i < h.count → place_in t (h ∷ turns) i ≡ i
  place_here i same less = rw (eq-eqb h.thread t same, lt-ltb i h.count less) refl

  pub place_past : (i : ℕ) → h.thread ≡ t → place_in t (h ∷ turns) (h.count + i) ≡ h.count + place_in t turns i
  place_past i same = rw (eq-eqb h.thread t same, le-ltb (h.count + i) h.count (omega arith)) (ap (λ (j : ℕ). h.count + place_in t turns j) (minus_same h.count i))

  pub place_other : (i : ℕ) → (h.thread ≡ t → ⊥) → place_in t (h ∷ turns) i ≡ h.count + place_in t turns i
  place_other i other = rw (ne_eqb h.thread t other) refl

  steps_past_own : (k : ℕ) → h.thread ≡ t → steps_before t (h ∷ turns) (h.count + k) ≡ h.count + steps_before t turns k
  steps_past_own k same = rw (eq-eqb h.thread t same) (let less : min (h.count + k) h.count ≡ h.count = omega arith in let rest : steps_before t turns ((h.count + k) - h.count) ≡ steps_before t turns k = ap (steps_before t turns) (minus_same h.count k) in omega arith)

  steps_past_other : (k : ℕ) → (h.thread ≡ t → ⊥) → steps_before t (h ∷ turns) (h.count + k) ≡ steps_before t turns k
  steps_past_other k other = rw (ne_eqb h.thread t other) (let rest : steps_before t turns ((h.count + k) - h.count) ≡ steps_before t turns k = ap (steps_before t turns) (minus_same h.count k) in omega arith)

pub turn_here : (h : Turn) (turns : List Turn) (k : ℕ) → k < h.count → turn_at (h ∷ turns) k ≡ Some h
turn_here h turns k less = rw (lt-ltb k h.count less) refl

pub turn_past : (h : Turn) (turns : List Turn) (k : ℕ) → turn_at (h ∷ turns) (h.count + k) ≡ turn_at turns k
turn_past h turns k = rw (le-ltb (h.count + k) h.count (omega arith)) (ap (turn_at turns) (minus_same h.count k))

steps_zero : (t : ℕ) (turns : List Turn) (k : ℕ) → k ≡ 0 → steps_before t turns k ≡ 0
steps_zero t [] k is = refl
steps_zero t (h ∷ turns) k is =
    let rest = steps_zero t turns (k - h.count) (omega arith) in
    elim (cases_eq h.thread t) [
      | inl same ↦ rw (eq-eqb h.thread t same) (omega arith)
      | inr other ↦ rw (ne_eqb h.thread t other) (omega arith)
    ]

module _ (t : ℕ) (h : Turn) (turns : List Turn) where
  steps_here_own : (k : ℕ) → h.thread ≡ t → k ≤ h.count → steps_before t (h ∷ turns) k ≡ k
  steps_here_own k same most = let rest = steps_zero t turns (k - h.count) (omega arith) in rw (eq-eqb h.thread t same) (omega arith)

  steps_here_other : (k : ℕ) → (h.thread ≡ t → ⊥) → k ≤ h.count → steps_before t (h ∷ turns) k ≡ 0
  steps_here_other k other most = let rest = steps_zero t turns (k - h.count) (omega arith) in rw (ne_eqb h.thread t other) (omega arith)

-- a number from c on
pub past : (c i : ℕ) → c ≤ i → (j : ℕ) × (i ≡ c + j)
past c i least = (i - c, omega arith)

pub place_most : (t : ℕ) (turns : List Turn) (i : ℕ) → place_in t turns i ≤ all_rows turns
place_most t [] i = omega arith
place_most t (h ∷ turns) i =
    elim (cases_eq h.thread t) [
      | inl same ↦ elim (cases_lt i h.count) [
        | inl here ↦ let is = place_here t h turns i same here in omega arith
        | inr beyond ↦ let is : place_in t (h ∷ turns) i ≡ h.count + place_in t turns (i - h.count) = ap (place_in t (h ∷ turns)) (omega arith) ∙ place_past t h turns (i - h.count) same in let rest = place_most t turns (i - h.count) in omega arith
      ]
      | inr other ↦ let is = place_other t h turns i other in let rest = place_most t turns i in omega arith
    ]

-- row i of a thread: where it stands
pub record Stands (t : ℕ) (turns : List Turn) (i : ℕ) : Type 0 where
  pub turn : Turn
  pub at : turn_at turns (place_in t turns i) ≡ Some turn
  pub own : turn.thread ≡ t
  pub inside : place_in t turns i < all_rows turns

stands_by : (t : ℕ) (turns : List Turn) (i p : ℕ) (turn : Turn) → place_in t turns i ≡ p → turn_at turns p ≡ Some turn → turn.thread ≡ t → p < all_rows turns → Stands t turns i
stands_by t turns i p turn is at own inside = record { turn = turn; at = ap (turn_at turns) is ∙ at; own = own; inside = omega arith }

pub stands : (t : ℕ) (turns : List Turn) (i : ℕ) → i < rows_in t turns → Stands t turns i
stands t [] i less = absurd (omega arith)
stands t (h ∷ turns) i less =
    elim (cases_eq h.thread t) [
      | inl same ↦ elim (cases_lt i h.count) [
        | inl here ↦ stands_by t (h ∷ turns) i i h (place_here t h turns i same here) (turn_here h turns i here) same (omega arith)
        | inr beyond ↦
            let rows = rows_own t h turns same in
            let j = past h.count i beyond in
            let rest = stands t turns j.0 (let is = j.1 in omega arith) in
            let inside = rest.inside in
            stands_by t (h ∷ turns) i (h.count + place_in t turns j.0) rest.turn (ap (place_in t (h ∷ turns)) j.1 ∙ place_past t h turns j.0 same) (turn_past h turns (place_in t turns j.0) ∙ rest.at) rest.own (omega arith)
      ]
      | inr other ↦
          let rows = rows_other t h turns other in
          let rest = stands t turns i (omega arith) in
          let inside = rest.inside in
          stands_by t (h ∷ turns) i (h.count + place_in t turns i) rest.turn (place_other t h turns i other) (turn_past h turns (place_in t turns i) ∙ rest.at) rest.own (omega arith)
    ]

-- as many rows of the thread stand before it as its number says
pub steps_there : (t : ℕ) (turns : List Turn) (i : ℕ) → i ≤ rows_in t turns → steps_before t turns (place_in t turns i) ≡ i
steps_there t [] i most = omega arith
steps_there t (h ∷ turns) i most =
    elim (cases_eq h.thread t) [
      | inl same ↦ elim (cases_lt i h.count) [
        | inl here ↦ ap (steps_before t (h ∷ turns)) (place_here t h turns i same here) ∙ steps_here_own t h turns i same (omega arith)
        | inr beyond ↦
            let rows = rows_own t h turns same in
            let j = past h.count i beyond in
            let is = j.1 in
            let rest = steps_there t turns j.0 (omega arith) in
            let place : place_in t (h ∷ turns) i ≡ h.count + place_in t turns j.0 = ap (place_in t (h ∷ turns)) j.1 ∙ place_past t h turns j.0 same in
            let steps : steps_before t (h ∷ turns) (place_in t (h ∷ turns) i) ≡ h.count + steps_before t turns (place_in t turns j.0) = ap (steps_before t (h ∷ turns)) place ∙ steps_past_own t h turns (place_in t turns j.0) same in
            omega arith
      ]
      | inr other ↦
          let rows = rows_other t h turns other in
          let rest = steps_there t turns i (omega arith) in
          ap (steps_before t (h ∷ turns)) (place_other t h turns i other) ∙ steps_past_other t h turns (place_in t turns i) other ∙ rest
    ]

-- row k of all: which row of its thread it is
pub record Counted (turns : List Turn) (k : ℕ) (turn : Turn) : Type 0 where
  pub few : steps_before turn.thread turns k < rows_in turn.thread turns
  pub place : place_in turn.thread turns (steps_before turn.thread turns k) ≡ k
  pub inside : k < all_rows turns

counted_by : (turns : List Turn) (k s : ℕ) (turn : Turn) → steps_before turn.thread turns k ≡ s → s < rows_in turn.thread turns → place_in turn.thread turns s ≡ k → k < all_rows turns → Counted turns k turn
counted_by turns k s turn is few place inside = record { few = omega arith; place = ap (place_in turn.thread turns) is ∙ place; inside = inside }

pub counted : (turns : List Turn) (k : ℕ) (turn : Turn) → turn_at turns k ≡ Some turn → Counted turns k turn
counted [] k turn at = absurd (none_turn at)
counted (h ∷ turns) k turn at =
    elim (cases_lt k h.count) [
      | inl here ↦
          let same : h.thread ≡ turn.thread = ap (λ (x : Turn). x.thread) (same_turn (sym (turn_here h turns k here) ∙ at)) in
          let rows = rows_own turn.thread h turns same in
          counted_by (h ∷ turns) k k turn (steps_here_own turn.thread h turns k same (omega arith)) (omega arith) (place_here turn.thread h turns k same here) (omega arith)
      | inr beyond ↦
          let j = past h.count k beyond in
          let is = j.1 in
          let rest = counted turns j.0 turn (sym (turn_past h turns j.0) ∙ ap (turn_at (h ∷ turns)) (sym j.1) ∙ at) in
          let few = rest.few in
          let inside = rest.inside in
          let place = rest.place in
          elim (cases_eq h.thread turn.thread) [
            | inl same ↦
                let rows = rows_own turn.thread h turns same in
                counted_by (h ∷ turns) k (h.count + steps_before turn.thread turns j.0) turn (ap (steps_before turn.thread (h ∷ turns)) j.1 ∙ steps_past_own turn.thread h turns j.0 same) (omega arith) (let one = place_past turn.thread h turns (steps_before turn.thread turns j.0) same in omega arith) (omega arith)
            | inr other ↦
                let rows = rows_other turn.thread h turns other in
                counted_by (h ∷ turns) k (steps_before turn.thread turns j.0) turn (ap (steps_before turn.thread (h ∷ turns)) j.1 ∙ steps_past_other turn.thread h turns j.0 other) (omega arith) (let one = place_other turn.thread h turns (steps_before turn.thread turns j.0) other in omega arith) (omega arith)
          ]
    ]

pub turn_there : (turns : List Turn) (k : ℕ) → k < all_rows turns → (turn : Turn) × (turn_at turns k ≡ Some turn)
turn_there [] k less = absurd (omega arith)
turn_there (h ∷ turns) k less =
    elim (cases_lt k h.count) [
      | inl here ↦ (h, turn_here h turns k here)
      | inr beyond ↦
          let j = past h.count k beyond in
          let is = j.1 in
          let rest = turn_there turns j.0 (omega arith) in
          (rest.0, ap (turn_at (h ∷ turns)) j.1 ∙ turn_past h turns j.0 ∙ rest.1)
    ]

-- after row k its thread has a row more, and each other thread as many as before
pub steps_own : (t : ℕ) (turns : List Turn) (k : ℕ) (turn : Turn) → turn_at turns k ≡ Some turn → turn.thread ≡ t → steps_before t turns (suc k) ≡ suc (steps_before t turns k)
steps_own t [] k turn at own = absurd (none_turn at)
steps_own t (h ∷ turns) k turn at own =
    elim (cases_lt k h.count) [
      | inl here ↦
          let same : h.thread ≡ t = ap (λ (x : Turn). x.thread) (same_turn (sym (turn_here h turns k here) ∙ at)) ∙ own in
          let one = steps_here_own t h turns (suc k) same (omega arith) in
          let two = steps_here_own t h turns k same (omega arith) in
          omega arith
      | inr beyond ↦
          let j = past h.count k beyond in
          let rest = steps_own t turns j.0 turn (sym (turn_past h turns j.0) ∙ ap (turn_at (h ∷ turns)) (sym j.1) ∙ at) own in
          let next : suc k ≡ h.count + suc j.0 = let is = j.1 in omega arith in
          elim (cases_eq h.thread t) [
            | inl same ↦
                let one : steps_before t (h ∷ turns) (suc k) ≡ h.count + steps_before t turns (suc j.0) = ap (steps_before t (h ∷ turns)) next ∙ steps_past_own t h turns (suc j.0) same in
                let two : steps_before t (h ∷ turns) k ≡ h.count + steps_before t turns j.0 = ap (steps_before t (h ∷ turns)) j.1 ∙ steps_past_own t h turns j.0 same in
                omega arith
            | inr other ↦
                let one : steps_before t (h ∷ turns) (suc k) ≡ steps_before t turns (suc j.0) = ap (steps_before t (h ∷ turns)) next ∙ steps_past_other t h turns (suc j.0) other in
                let two : steps_before t (h ∷ turns) k ≡ steps_before t turns j.0 = ap (steps_before t (h ∷ turns)) j.1 ∙ steps_past_other t h turns j.0 other in
                omega arith
          ]
    ]

pub steps_other : (t : ℕ) (turns : List Turn) (k : ℕ) (turn : Turn) → turn_at turns k ≡ Some turn → (turn.thread ≡ t → ⊥) → steps_before t turns (suc k) ≡ steps_before t turns k
steps_other t [] k turn at apart = absurd (none_turn at)
steps_other t (h ∷ turns) k turn at apart =
    elim (cases_lt k h.count) [
      | inl here ↦
          let other : h.thread ≡ t → ⊥ = λ same. apart (sym (ap (λ (x : Turn). x.thread) (same_turn (sym (turn_here h turns k here) ∙ at))) ∙ same) in
          let one = steps_here_other t h turns (suc k) other (omega arith) in
          let two = steps_here_other t h turns k other (omega arith) in
          omega arith
      | inr beyond ↦
          let j = past h.count k beyond in
          let rest = steps_other t turns j.0 turn (sym (turn_past h turns j.0) ∙ ap (turn_at (h ∷ turns)) (sym j.1) ∙ at) apart in
          let next : suc k ≡ h.count + suc j.0 = let is = j.1 in omega arith in
          elim (cases_eq h.thread t) [
            | inl same ↦
                let one : steps_before t (h ∷ turns) (suc k) ≡ h.count + steps_before t turns (suc j.0) = ap (steps_before t (h ∷ turns)) next ∙ steps_past_own t h turns (suc j.0) same in
                let two : steps_before t (h ∷ turns) k ≡ h.count + steps_before t turns j.0 = ap (steps_before t (h ∷ turns)) j.1 ∙ steps_past_own t h turns j.0 same in
                omega arith
            | inr other ↦
                let one : steps_before t (h ∷ turns) (suc k) ≡ steps_before t turns (suc j.0) = ap (steps_before t (h ∷ turns)) next ∙ steps_past_other t h turns (suc j.0) other in
                let two : steps_before t (h ∷ turns) k ≡ steps_before t turns j.0 = ap (steps_before t (h ∷ turns)) j.1 ∙ steps_past_other t h turns j.0 other in
                omega arith
          ]
    ]

pub steps_mono : (t : ℕ) (turns : List Turn) (k l : ℕ) → k ≤ l → steps_before t turns k ≤ steps_before t turns l
steps_mono t [] k l most = omega arith
steps_mono t (h ∷ turns) k l most =
    let rest = steps_mono t turns (k - h.count) (l - h.count) (omega arith) in
    elim (cases_eq h.thread t) [
      | inl same ↦ rw (eq-eqb h.thread t same) (omega arith)
      | inr other ↦ rw (ne_eqb h.thread t other) (omega arith)
    ]

-- an earlier row of a thread stands before a later one
pub place_strict : (t : ℕ) (turns : List Turn) (i j : ℕ) → i < j → j ≤ rows_in t turns → place_in t turns i < place_in t turns j
place_strict t turns i j less most =
    elim (cases_lt (place_in t turns i) (place_in t turns j)) [
      | inl before ↦ before
      | inr after ↦
          let mono = steps_mono t turns (place_in t turns j) (place_in t turns i) after in
          let one = steps_there t turns i (omega arith) in
          let two = steps_there t turns j most in
          absurd (omega arith)
    ]

pub place_end : (t : ℕ) (turns : List Turn) → place_in t turns (rows_in t turns) ≡ all_rows turns
place_end t [] = refl
place_end t (h ∷ turns) =
    let rest = place_end t turns in
    elim (cases_eq h.thread t) [
      | inl same ↦
          let is : place_in t (h ∷ turns) (rows_in t (h ∷ turns)) ≡ h.count + place_in t turns (rows_in t turns) = ap (place_in t (h ∷ turns)) (rows_own t h turns same) ∙ place_past t h turns (rows_in t turns) same in
          omega arith
      | inr other ↦
          let is : place_in t (h ∷ turns) (rows_in t (h ∷ turns)) ≡ h.count + place_in t turns (rows_in t turns) = ap (place_in t (h ∷ turns)) (rows_other t h turns other) ∙ place_other t h turns (rows_in t turns) other in
          omega arith
    ]

pub steps_all : (t : ℕ) (turns : List Turn) → steps_before t turns (all_rows turns) ≡ rows_in t turns
steps_all t turns = ap (steps_before t turns) (sym (place_end t turns)) ∙ steps_there t turns (rows_in t turns) (omega arith)
