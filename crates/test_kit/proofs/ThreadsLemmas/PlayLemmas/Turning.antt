-- Rows of turns in loops over them.
use Rattle.std.proofs.Common.{◌≡◌, ℕ, ◌-◌, ◌<◌, ◌≤◌, List, [], ◌∷◌, Some, All, inl, inr, refl, sym, ◌∙◌, subst, arith}
use Rattle.std.proofs.lemmas.Bool.{cases_eq, cases_lt, ne_eqb, le-ltb}
use Rattle.std.proofs.lemmas.List.Elements.{All-head, All-tail}
use Rattle.test_kit.specs.declared.threads.turns.turn.Turn.{Turn}
use Rattle.test_kit.specs.Threads.Turns.Turns.{all_rows, rows_in, turn_at, slices_from}
use Rattle.test_kit.proofs.ThreadsLemmas.TurnsLemmas.Places.{turn_here, same_turn, none_turn, rows_own, rows_other}

-- each row is of one of four threads
pub thread_below : (turns : List Turn) (k : ℕ) (turn : Turn) → All (λ turn. turn.thread < 4) turns → turn_at turns k ≡ Some turn → turn.thread < 4
thread_below [] k turn all at = absurd (none_turn at)
thread_below (h ∷ turns) k turn all at =
    elim (cases_lt k h.count) [
      | inl here ↦ subst (λ (x : Turn). x.thread < 4) (same_turn (sym (turn_here h turns k here) ∙ at)) (All-head (λ (x : Turn). x.thread < 4) h turns all)
      | inr beyond ↦ thread_below turns (k - h.count) turn (All-tail (λ (x : Turn). x.thread < 4) h turns all) (rw (le-ltb k h.count beyond) at at)
    ]

pub rows_most : (t : ℕ) (turns : List Turn) → rows_in t turns ≤ all_rows turns
rows_most t [] = omega arith
rows_most t (h ∷ turns) =
    let rest = rows_most t turns in
    elim (cases_eq h.thread t) [
      | inl same ↦ let rows = rows_own t h turns same in omega arith
      | inr other ↦ let rows = rows_other t h turns other in omega arith
    ]

-- none of them has slices of another thread
pub no_slices : (t first : ℕ) (turns : List Turn) → 4 ≤ t → All (λ turn. turn.thread < 4) turns → slices_from t first turns ≡ []
no_slices t first [] far all = refl
no_slices t first (h ∷ turns) far all =
    let head = All-head (λ (x : Turn). x.thread < 4) h turns all in
    rw (ne_eqb h.thread t (λ same. omega arith)) (no_slices t first turns far (All-tail (λ (x : Turn). x.thread < 4) h turns all))

pub no_rows : (t : ℕ) (turns : List Turn) → 4 ≤ t → All (λ turn. turn.thread < 4) turns → rows_in t turns ≡ 0
no_rows t [] far all = refl
no_rows t (h ∷ turns) far all =
    let head = All-head (λ (x : Turn). x.thread < 4) h turns all in
    let rest = no_rows t turns far (All-tail (λ (x : Turn). x.thread < 4) h turns all) in
    rows_other t h turns (λ same. omega arith) ∙ rest
