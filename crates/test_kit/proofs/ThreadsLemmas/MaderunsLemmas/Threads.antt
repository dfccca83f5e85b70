-- The pieces of a thread in their order have its steps and its slices.
use Rattle.std.proofs.Common.{◌≡◌, ℕ, suc, ◌+◌, ◌%◌, ◌<◌, ◌≤◌, List, [], ◌∷◌, ◌++◌, length, take, drop, slice_get, Some, refl, sym, ◌∙◌, ap, subst, arith, inl, inr, take-add, drop-drop, take_all, length-take-le, length-drop}
use Rattle.std.specs.List.{flat_map}
use Rattle.std.proofs.lemmas.Bool.{cases_eq}
use Rattle.rept_isa.specs.declared.instr.Instr.{Instr}
use Rattle.rept_isa.specs.declared.row.StepRow.{StepRow}
use Rattle.rept_steps.specs.declared.slice.Slice.{Slice}
use Rattle.rept_steps.specs.declared.threads.ThreadRows.{ThreadRows}
use Rattle.rept_steps.specs.Linked.{AreLinked, EndBefore}
use Rattle.test_kit.specs.declared.threads.turns.turn.Turn.{Turn}
use Rattle.test_kit.specs.Threads.Turns.Turns.{rows_in, slice_by, slices_from}
use Rattle.test_kit.proofs.ThreadsLemmas.TurnsLemmas.Places.{rows_own, rows_other}
use Rattle.test_kit.proofs.ThreadsLemmas.TurnsLemmas.Slices.{slices_own, slices_other}
use Rattle.test_kit.specs.Threads.Play.Code.{address_in, row_in}
use Rattle.test_kit.specs.Threads.Woven.Ordered.{Piece}
use Rattle.test_kit.specs.Threads.Woven.Ordered as ordered
use Rattle.test_kit.specs.Threads.Maderuns.Harts.{steps_in}
use Rattle.test_kit.proofs.ThreadsLemmas.MaderunsLemmas.Turning.{rows_append}
use Rattle.test_kit.proofs.ThreadsLemmas.MaderunsLemmas.Pieces.{piece_of, own_pieces, own_more, own_less}

-- one turn more
before_own : (t : ℕ) (before : List Turn) (h : Turn) → h.thread ≡ t → rows_in t (before ++ h ∷ []) ≡ rows_in t before + h.count
before_own t before h same = let a = rows_append t before (h ∷ []) in let b = rows_own t h [] same in omega arith

before_other : (t : ℕ) (before : List Turn) (h : Turn) → (h.thread ≡ t → ⊥) → rows_in t (before ++ h ∷ []) ≡ rows_in t before
before_other t before h other = let a = rows_append t before (h ∷ []) in let b = rows_other t h [] other in omega arith

module _ (T : List ThreadRows) (t : ℕ) where
  abbrev steps : List StepRow
  steps = steps_in T t

  steps_from : (before turns : List Turn) → flat_map (λ (p : Piece). p.stretch.steps) (own_pieces T t before turns) ≡ take (rows_in t turns) (drop (rows_in t before) steps)
  steps_from before [] = refl
  steps_from before (h ∷ turns) =
      elim (cases_eq h.thread t) [
        | inl same ↦
            let here : steps_in T h.thread ≡ steps = ap (λ (u : ℕ). steps_in T u) same in
            let first : rows_in h.thread before ≡ rows_in t before = ap (λ (u : ℕ). rows_in u before) same in
            let rest = steps_from (before ++ h ∷ []) turns in
            let after : drop (rows_in t (before ++ h ∷ [])) steps ≡ drop h.count (drop (rows_in t before) steps) = ap (λ (n : ℕ). drop n steps) (before_own t before h same) ∙ sym (drop-drop h.count (rows_in t before) steps) in
            ap (λ (ps : List Piece). flat_map (λ (p : Piece). p.stretch.steps) ps) (own_more T t before h turns same)
            ∙ ap (λ (xs : List StepRow). take h.count (drop (rows_in h.thread before) xs) ++ flat_map (λ (p : Piece). p.stretch.steps) (own_pieces T t (before ++ h ∷ []) turns)) here
            ∙ ap (λ (n : ℕ). take h.count (drop n steps) ++ flat_map (λ (p : Piece). p.stretch.steps) (own_pieces T t (before ++ h ∷ []) turns)) first
            ∙ ap (λ (xs : List StepRow). take h.count (drop (rows_in t before) steps) ++ xs) (rest ∙ ap (λ (xs : List StepRow). take (rows_in t turns) xs) after)
            ∙ sym (take-add h.count (rows_in t turns) (drop (rows_in t before) steps))
            ∙ ap (λ (n : ℕ). take n (drop (rows_in t before) steps)) (sym (rows_own t h turns same))
        | inr other ↦
            ap (λ (ps : List Piece). flat_map (λ (p : Piece). p.stretch.steps) ps) (own_less T t before h turns other)
            ∙ steps_from (before ++ h ∷ []) turns
            ∙ ap (λ (n : ℕ). take (rows_in t turns) (drop n steps)) (before_other t before h other)
            ∙ ap (λ (n : ℕ). take n (drop (rows_in t before) steps)) (sym (rows_other t h turns other))
      ]

  pub steps_are : (turns : List Turn) → length steps ≡ rows_in t turns → flat_map (λ (p : Piece). p.stretch.steps) (own_pieces T t [] turns) ≡ steps
  steps_are turns size = steps_from [] turns ∙ ap (λ (n : ℕ). take n steps) (sym size) ∙ take_all (length steps) steps (omega arith)

  pub count_of : (before : List Turn) (h : Turn) → h.thread ≡ t → rows_in t before + h.count ≤ length steps → length (piece_of T before h).stretch.steps ≡ h.count
  count_of before h same few =
      let here : steps_in T h.thread ≡ steps = ap (λ (u : ℕ). steps_in T u) same in
      let first : rows_in h.thread before ≡ rows_in t before = ap (λ (u : ℕ). rows_in u before) same in
      let left = length-drop (rows_in t before) steps in
      ap (λ (xs : List StepRow). length (take h.count (drop (rows_in h.thread before) xs))) here
      ∙ ap (λ (n : ℕ). length (take h.count (drop n steps))) first
      ∙ length-take-le h.count (drop (rows_in t before) steps) (omega arith)

  slices_at : (before turns : List Turn) (first : ℕ) → first ≡ rows_in t before → first + rows_in t turns ≤ length steps → ordered.slices_from first (own_pieces T t before turns) ≡ slices_from t first turns
  slices_at before [] first is few = refl
  slices_at before (h ∷ turns) first is few =
      elim (cases_eq h.thread t) [
        | inl same ↦
            let rows = rows_own t h turns same in
            let count : length (piece_of T before h).stretch.steps ≡ h.count = count_of before h same (omega arith) in
            let next = before_own t before h same in
            ap (λ (ps : List Piece). ordered.slices_from first ps) (own_more T t before h turns same)
            ∙ ap (λ (n : ℕ). record { stream = h.stream; begin = h.begin; end = h.end; first = first; count = n } ∷ ordered.slices_from (first + n) (own_pieces T t (before ++ h ∷ []) turns)) count
            ∙ ap (λ (ss : List Slice). slice_by first h ∷ ss) (slices_at (before ++ h ∷ []) turns (first + h.count) (omega arith) (omega arith))
            ∙ sym (slices_own t first h turns same)
        | inr other ↦
            let rows = rows_other t h turns other in
            let next = before_other t before h other in
            ap (λ (ps : List Piece). ordered.slices_from first ps) (own_less T t before h turns other)
            ∙ slices_at (before ++ h ∷ []) turns first (omega arith) (omega arith)
            ∙ sym (slices_other t first h turns other)
      ]

  pub slices_are : (turns : List Turn) → length steps ≡ rows_in t turns → ordered.slices_from 0 (own_pieces T t [] turns) ≡ slices_from t 0 turns
  slices_are turns size = slices_at [] turns 0 refl (omega arith)

-- rows of the code follow one another, up to where the thread stands
pub same_row : {a b : StepRow} → Some a ≡ Some b → a ≡ b
same_row e = cc

module _ (code : List Instr) (t : ℕ) where
  rows_after : (x : StepRow) (xs : List StepRow) (first : ℕ) → ((i : ℕ) → i < length (x ∷ xs) → slice_get (x ∷ xs) i ≡ Some (row_in code t (first + i))) → (i : ℕ) → i < length xs → slice_get xs i ≡ Some (row_in code t (suc first + i))
  rows_after x xs first rows i less = let e : first + suc i ≡ suc first + i = omega arith in rows (suc i) (omega arith) ∙ ap (λ (n : ℕ). Some (row_in code t n)) e

  first_row : (x : StepRow) (xs : List StepRow) (first : ℕ) → ((i : ℕ) → i < length (x ∷ xs) → slice_get (x ∷ xs) i ≡ Some (row_in code t (first + i))) → x ≡ row_in code t first
  first_row x xs first rows = let e : first + 0 ≡ first = omega arith in same_row (rows 0 (omega arith) ∙ ap (λ (n : ℕ). Some (row_in code t n)) e)

  pub linked : (xs : List StepRow) (first : ℕ) → ((i : ℕ) → i < length xs → slice_get xs i ≡ Some (row_in code t (first + i))) → AreLinked xs
  linked [] first rows = tt
  linked (x ∷ []) first rows = (tt, tt)
  linked (x ∷ (y ∷ ys)) first rows =
      let one = first_row x (y ∷ ys) first rows in
      let two = first_row y ys (suc first) (rows_after x (y ∷ ys) first rows) in
      let e : suc first ≡ first + 1 = omega arith in
      let at : y.at ≡ address_in t ((first + 1) % 16) = ap (λ (r : StepRow). r.at) two ∙ ap (λ (n : ℕ). address_in t (n % 16)) e in
      let next : x.next ≡ address_in t ((first + 1) % 16) = ap (λ (r : StepRow). r.next) one in
      (at ∙ sym next, linked (y ∷ ys) (suc first) (rows_after x (y ∷ ys) first rows))

  pub ends : (xs : List StepRow) (first : ℕ) → ((i : ℕ) → i < length xs → slice_get xs i ≡ Some (row_in code t (first + i))) → EndBefore xs (address_in t ((first + length xs) % 16))
  ends [] first rows = tt
  ends (x ∷ []) first rows = ap (λ (r : StepRow). r.next) (first_row x [] first rows)
  ends (x ∷ (y ∷ ys)) first rows =
      let e : suc first + length (y ∷ ys) ≡ first + length (x ∷ (y ∷ ys)) = omega arith in
      subst (λ (n : ℕ). EndBefore (y ∷ ys) (address_in t (n % 16))) e (ends (y ∷ ys) (suc first) (rows_after x (y ∷ ys) first rows))
