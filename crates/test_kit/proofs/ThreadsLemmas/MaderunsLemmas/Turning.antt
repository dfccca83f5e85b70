-- Turns before others: how many rows they have, and what holds of each where it stands.
use Rattle.std.proofs.Common.{◌≡◌, ℕ, zero, suc, ◌+◌, ◌<◌, ◌≤◌, List, [], ◌∷◌, ◌++◌, length, get_or, All, ◌⊎◌, refl, sym, ◌∙◌, subst, arith, inl, inr, append_assoc}
use Rattle.std.proofs.lemmas.Bool.{cases_eq}
use Rattle.std.proofs.lemmas.List.Elements.{All-head, All-tail}
use Rattle.rept_steps.specs.declared.slice.Slice.{Slice}
use Rattle.test_kit.specs.declared.threads.turns.turn.Turn.{Turn}
use Rattle.test_kit.specs.Threads.Turns.Turns.{all_rows, rows_in, slice_by, slices_from, AreTurnsApart, TakeTime}
use Rattle.test_kit.proofs.ThreadsLemmas.TurnsLemmas.Places.{rows_own, rows_other}
use Rattle.test_kit.proofs.ThreadsLemmas.TurnsLemmas.Slices.{slices_own, slices_other}

pub rows_append : (t : ℕ) (xs ys : List Turn) → rows_in t (xs ++ ys) ≡ rows_in t xs + rows_in t ys
rows_append t [] ys = let none : rows_in t [] ≡ 0 = refl in omega arith
rows_append t (h ∷ xs) ys =
    let rest = rows_append t xs ys in
    elim (cases_eq h.thread t) [
      | inl same ↦ let a = rows_own t h xs same in let b = rows_own t h (xs ++ ys) same in omega arith
      | inr other ↦ let a = rows_other t h xs other in let b = rows_other t h (xs ++ ys) other in omega arith
    ]

-- the rows of a turn among those of its thread
pub rows_within : (before : List Turn) (turn : Turn) (rest : List Turn) → rows_in turn.thread before + turn.count ≤ rows_in turn.thread (before ++ turn ∷ rest)
rows_within before turn rest =
    let a = rows_append turn.thread before (turn ∷ rest) in
    let b = rows_own turn.thread turn rest refl in
    omega arith

pub slice_there : (P : Slice → Type 0) (t first : ℕ) (before : List Turn) (turn : Turn) (rest : List Turn) → turn.thread ≡ t → All P (slices_from t first (before ++ turn ∷ rest)) → P (slice_by (first + rows_in t before) turn)
slice_there P t first [] turn rest own all =
    let each : All P (slice_by first turn ∷ slices_from t (first + turn.count) rest) = subst (λ (ss : List Slice). All P ss) (slices_own t first turn rest own) all in
    subst (λ (n : ℕ). P (slice_by n turn)) (omega arith) (All-head P (slice_by first turn) (slices_from t (first + turn.count) rest) each)
slice_there P t first (h ∷ before) turn rest own all =
    elim (cases_eq h.thread t) [
      | inl same ↦
          let each : All P (slice_by first h ∷ slices_from t (first + h.count) (before ++ turn ∷ rest)) = subst (λ (ss : List Slice). All P ss) (slices_own t first h (before ++ turn ∷ rest) same) all in
          let rows = rows_own t h before same in
          subst (λ (n : ℕ). P (slice_by n turn)) (omega arith) (slice_there P t (first + h.count) before turn rest own (All-tail P (slice_by first h) (slices_from t (first + h.count) (before ++ turn ∷ rest)) each))
      | inr other ↦
          let rows = rows_other t h before other in
          subst (λ (n : ℕ). P (slice_by n turn)) (omega arith) (slice_there P t first before turn rest own (subst (λ (ss : List Slice). All P ss) (slices_other t first h (before ++ turn ∷ rest) other) all))
    ]

pub all_there : (P : Turn → Type 0) (before : List Turn) (turn : Turn) (rest : List Turn) → All P (before ++ turn ∷ rest) → P turn
all_there P [] turn rest all = All-head P turn rest all
all_there P (h ∷ before) turn rest all = all_there P before turn rest (All-tail P h (before ++ turn ∷ rest) all)

-- what holds of each turn and those before it
abbrev pub AllAfter : (List Turn → Turn → Type 0) → List Turn → List Turn → Type 0
AllAfter P before [] = Unit {0}
AllAfter P before (turn ∷ turns) = P before turn × AllAfter P (before ++ turn ∷ []) turns

pub after_all : (P : Turn → Type 0) (before turns : List Turn) → All P turns → AllAfter (λ b turn. P turn) before turns
after_all P before [] all = tt
after_all P before (h ∷ turns) all = (All-head P h turns all, after_all P (before ++ h ∷ []) turns (All-tail P h turns all))

pub after_split : (P : List Turn → Turn → Type 0) (all before turns : List Turn) → before ++ turns ≡ all → ((b : List Turn) (turn : Turn) (rest : List Turn) → b ++ turn ∷ rest ≡ all → P b turn) → AllAfter P before turns
after_split P all before [] is w = tt
after_split P all before (h ∷ turns) is w = (w before h turns is, after_split P all (before ++ h ∷ []) turns (append_assoc before (h ∷ []) turns ∙ is) w)

-- of one thread no two turns begin at one time
abbrev pub Same : Turn → Turn → Type 0
Same a b = a.thread ≡ b.thread → a.begin ≡ b.begin → a.stream ≡ b.stream

same_at : (turns : List Turn) (i j : ℕ) (d : Turn) → AreTurnsApart turns → TakeTime turns → i < length turns → j < length turns → Same (get_or turns i d) (get_or turns j d)
same_at [] i j d apart long less later = absurd (omega arith)
same_at (h ∷ turns) zero zero d apart long less later = λ thread begin. refl
same_at (h ∷ turns) zero (suc j) d apart long less later = λ thread begin.
    let end = apart.0 j d (omega arith) (sym thread) in
    let time = All-head (λ (turn : Turn). turn.begin < turn.end) h turns long in
    absurd (omega arith)
same_at (h ∷ turns) (suc i) zero d apart long less later = λ thread begin.
    let end = apart.0 i d (omega arith) thread in
    let time = All-head (λ (turn : Turn). turn.begin < turn.end) h turns long in
    absurd (omega arith)
same_at (h ∷ turns) (suc i) (suc j) d apart long less later = same_at turns i j d apart.1 (All-tail (λ (turn : Turn). turn.begin < turn.end) h turns long) (omega arith) (omega arith)

pub all_same : (turns : List Turn) → AreTurnsApart turns → TakeTime turns → All (λ a. All (Same a) turns) turns
all_same turns apart long = λ i d less j e later. subst (λ (x : Turn). Same (get_or turns i d) x) (other turns j d e later) (same_at turns i j d apart long less later)
  where
    other : (xs : List Turn) (k : ℕ) (d e : Turn) → k < length xs → get_or xs k d ≡ get_or xs k e
    other [] k d e less = absurd (omega arith)
    other (x ∷ xs) zero d e less = refl
    other (x ∷ xs) (suc k) d e less = other xs k d e (omega arith)

which : (t : ℕ) → t < 4 → (t ≡ 0) ⊎ ((t ≡ 1) ⊎ ((t ≡ 2) ⊎ (t ≡ 3)))
which zero small = inl refl
which (suc zero) small = inr (inl refl)
which (suc (suc zero)) small = inr (inr (inl refl))
which (suc (suc (suc zero))) small = inr (inr (inr refl))
which (suc (suc (suc (suc t)))) small = absurd (omega arith)

-- all rows are of four threads
pub four_rows : (turns : List Turn) → All (λ turn. turn.thread < 4) turns → rows_in 0 turns + rows_in 1 turns + rows_in 2 turns + rows_in 3 turns ≡ all_rows turns
four_rows [] small = refl
four_rows (h ∷ turns) small =
    let head = All-head (λ (turn : Turn). turn.thread < 4) h turns small in
    let rest = four_rows turns (All-tail (λ (turn : Turn). turn.thread < 4) h turns small) in
    elim (which h.thread head) [
      | inl is ↦ let e = rows_own 0 h turns is in let f = rows_other 1 h turns (λ x. omega arith) in let g = rows_other 2 h turns (λ x. omega arith) in let k = rows_other 3 h turns (λ x. omega arith) in omega arith
      | inr more ↦ elim more [
        | inl is ↦ let e = rows_other 0 h turns (λ x. omega arith) in let f = rows_own 1 h turns is in let g = rows_other 2 h turns (λ x. omega arith) in let k = rows_other 3 h turns (λ x. omega arith) in omega arith
        | inr most ↦ elim most [
          | inl is ↦ let e = rows_other 0 h turns (λ x. omega arith) in let f = rows_other 1 h turns (λ x. omega arith) in let g = rows_own 2 h turns is in let k = rows_other 3 h turns (λ x. omega arith) in omega arith
          | inr is ↦ let e = rows_other 0 h turns (λ x. omega arith) in let f = rows_other 1 h turns (λ x. omega arith) in let g = rows_other 2 h turns (λ x. omega arith) in let k = rows_own 3 h turns is in omega arith
        ]
      ]
    ]
