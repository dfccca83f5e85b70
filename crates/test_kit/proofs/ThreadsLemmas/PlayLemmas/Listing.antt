-- Lists that grow by one: the words of a play, the rows of a thread, and the threads.
use Rattle.std.proofs.Common.{◌≡◌, ℕ, zero, suc, ◌+◌, ◌%◌, ◌<◌, List, [], ◌∷◌, ◌++◌, length, get_or, slice_get, Some, None, refl, sym, ap, ◌∙◌, subst, arith, inl, inr}
use Rattle.std.proofs.lemmas.Bool.{cases_eq, cases_lt}
use Rattle.std.proofs.lemmas.Grind.{common_steps}
use Rattle.rept_isa.specs.declared.instr.Instr.{Instr}
use Rattle.rept_isa.specs.declared.row.StepRow.{StepRow}
use Rattle.rept_isa.specs.Words.{IsWord}
use Rattle.rept_steps.specs.declared.threads.ThreadRows.{ThreadRows}
use Rattle.test_kit.specs.declared.threads.turns.turn.Turn.{Turn}
use Rattle.test_kit.specs.Threads.Turns.Turns.{steps_before, turn_at}
use Rattle.test_kit.specs.Threads.Play.Code.{played_in, played_at, row_in, IsThread}

get_last : (xs : List ℕ) (x : ℕ) → get_or (xs ++ x ∷ []) (length xs) 0 ≡ x
get_last [] x = refl
get_last (y ∷ xs) x = get_last xs x

get_before : (xs ys : List ℕ) (k : ℕ) → k < length xs → get_or (xs ++ ys) k 0 ≡ get_or xs k 0
get_before xs ys k less = grind (arith, common_steps)

pub get_end : {X : Type 0} (xs : List X) (x : X) → slice_get (xs ++ x ∷ []) (length xs) ≡ Some x
get_end [] x = refl
get_end (y ∷ xs) x = get_end xs x

pub get_early : {X : Type 0} (xs ys : List X) (k : ℕ) → k < length xs → slice_get (xs ++ ys) k ≡ slice_get xs k
get_early [] ys k less = absurd (omega arith)
get_early (x ∷ xs) ys zero less = refl
get_early (x ∷ xs) ys (suc k) less = get_early xs ys k (omega arith)

pub words_more : (code : List Instr) (turns : List Turn) (old new : List ℕ) (k word thread steps : ℕ) → new ≡ old ++ word ∷ [] → length old ≡ k
    → ((j : ℕ) (turn : Turn) → j < k → turn_at turns j ≡ Some turn → IsWord (get_or old j 0) (played_at code turns turn j))
    → IsWord word (played_in code thread (steps % 16)) → ((turn : Turn) → turn_at turns k ≡ Some turn → thread ≡ turn.thread) → steps ≡ steps_before thread turns k
    → (j : ℕ) (turn : Turn) → j < k + 1 → turn_at turns j ≡ Some turn → IsWord (get_or new j 0) (played_at code turns turn j)
words_more code turns old new k word thread steps is size before spelled own counted j turn less at =
    elim (cases_eq j k) [
      | inl same ↦
          let a : get_or new j 0 ≡ word = ap (λ (xs : List ℕ). get_or xs j 0) is ∙ ap (λ (i : ℕ). get_or (old ++ word ∷ []) i 0) (same ∙ sym size) ∙ get_last old word in
          let its : thread ≡ turn.thread = own turn (ap (turn_at turns) (sym same) ∙ at) in
          let one : IsWord word (played_in code thread (steps_before thread turns k % 16)) = subst (λ (n : ℕ). IsWord word (played_in code thread (n % 16))) counted spelled in
          let two : IsWord word (played_in code turn.thread (steps_before turn.thread turns k % 16)) = subst (λ (t : ℕ). IsWord word (played_in code t (steps_before t turns k % 16))) its one in
          let three : IsWord word (played_at code turns turn j) = subst (λ (i : ℕ). IsWord word (played_at code turns turn i)) (sym same) two in
          subst (λ (w : ℕ). IsWord w (played_at code turns turn j)) (sym a) three
      | inr other ↦
          let a : get_or new j 0 ≡ get_or old j 0 = ap (λ (xs : List ℕ). get_or xs j 0) is ∙ get_before old (word ∷ []) j (omega arith) in
          subst (λ (w : ℕ). IsWord w (played_at code turns turn j)) (sym a) (before j turn (omega arith) at)
    ]

pub rows_more : (code : List Instr) (t : ℕ) (old new : List StepRow) (k : ℕ) (row : StepRow) → new ≡ old ++ row ∷ [] → length old ≡ k
    → ((j : ℕ) → j < k → slice_get old j ≡ Some (row_in code t j)) → row ≡ row_in code t k → (j : ℕ) → j < k + 1 → slice_get new j ≡ Some (row_in code t j)
rows_more code t old new k row is size before own j less =
    elim (cases_eq j k) [
      | inl same ↦
          ap (λ (xs : List StepRow). slice_get xs j) is ∙ ap (λ (i : ℕ). slice_get (old ++ row ∷ []) i) (same ∙ sym size) ∙ get_end old row
          ∙ ap (λ (r : StepRow). Some r) own ∙ ap (λ (i : ℕ). Some (row_in code t i)) (sym same)
      | inr other ↦ ap (λ (xs : List StepRow). slice_get xs j) is ∙ get_early old (row ∷ []) j (omega arith) ∙ before j (omega arith)
    ]

some_rows : {a b : ThreadRows} → Some a ≡ Some b → a ≡ b
some_rows e = cc

none_rows : {a : ThreadRows} → None ≡ Some a → ⊥
none_rows e = cc

past_end : (xs : List ThreadRows) (x y : ThreadRows) (k : ℕ) → slice_get (xs ++ x ∷ []) k ≡ Some y → (k < length xs → ⊥) → k ≡ length xs
past_end [] x y zero at none = refl
past_end [] x y (suc k) at none = absurd (none_rows at)
past_end (z ∷ xs) x y zero at none = absurd (none (omega arith))
past_end (z ∷ xs) x y (suc k) at none = ap suc (past_end xs x y k at (λ less. none (omega arith)))

pub threads_more : (code : List Instr) (turns : List Turn) (old new : List ThreadRows) (n : ℕ) (rows : ThreadRows) → new ≡ old ++ rows ∷ [] → length old ≡ n
    → ((t : ℕ) (x : ThreadRows) → slice_get old t ≡ Some x → IsThread code turns t x) → IsThread code turns n rows → (t : ℕ) (x : ThreadRows) → slice_get new t ≡ Some x → IsThread code turns t x
threads_more code turns old new n rows is size before own t x at =
    let listed : slice_get (old ++ rows ∷ []) t ≡ Some x = ap (λ (xs : List ThreadRows). slice_get xs t) (sym is) ∙ at in
    elim (cases_lt t (length old)) [
      | inl less ↦ before t x (sym (get_early old (rows ∷ []) t less) ∙ listed)
      | inr most ↦
          let same : t ≡ length old = past_end old rows x t listed (λ less. omega arith) in
          let here : rows ≡ x = some_rows (sym (get_end old rows) ∙ ap (slice_get (old ++ rows ∷ [])) (sym same) ∙ listed) in
          subst (λ (y : ThreadRows). IsThread code turns t y) here (subst (λ (k : ℕ). IsThread code turns k rows) (sym (same ∙ size)) own)
    ]
