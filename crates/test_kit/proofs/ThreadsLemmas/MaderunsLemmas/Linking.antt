-- Parts of linked steps are linked.
use Rattle.std.proofs.Common.{◌≡◌, ℕ, zero, suc, ◌+◌, ◌<◌, ◌≤◌, List, [], ◌∷◌, ◌++◌, length, take, drop, get_or, sym, ◌∙◌, ap, subst, arith, take_all}
use Rattle.std.proofs.lemmas.List.{take_more}
use Rattle.rept_isa.specs.declared.row.StepRow.{StepRow}
use Rattle.rept_steps.specs.Linked.{BeginAt, AreLinked, EndBefore}

linked_drop : (n : ℕ) (xs : List StepRow) → AreLinked xs → AreLinked (drop n xs)
linked_drop zero xs h = h
linked_drop (suc n) [] h = tt
linked_drop (suc n) (x ∷ xs) h = linked_drop n xs h.1

begin_take : (n : ℕ) (xs : List StepRow) (a : ℕ) → BeginAt xs a → BeginAt (take n xs) a
begin_take zero xs a h = tt
begin_take (suc n) [] a h = tt
begin_take (suc n) (x ∷ xs) a h = h

linked_take : (n : ℕ) (xs : List StepRow) → AreLinked xs → AreLinked (take n xs)
linked_take zero xs h = tt
linked_take (suc n) [] h = tt
linked_take (suc n) (x ∷ xs) h = (begin_take n xs x.next h.0, linked_take n xs h.1)

pub linked_part : (first count : ℕ) (xs part : List StepRow) → AreLinked xs → part ≡ take count (drop first xs) → AreLinked part
linked_part first count xs part h is = subst AreLinked (sym is) (linked_take count (drop first xs) (linked_drop first xs h))

-- the steps before one lead to it
pub ends_before : (i : ℕ) (xs : List StepRow) (d : StepRow) → AreLinked xs → i < length xs → EndBefore (take i xs) (get_or xs i d).at
ends_before zero xs d h less = tt
ends_before (suc i) [] d h less = absurd (omega arith)
ends_before (suc zero) (x ∷ []) d h less = absurd (omega arith)
ends_before (suc zero) (x ∷ (y ∷ ys)) d h less = sym h.0
ends_before (suc (suc i)) (x ∷ []) d h less = absurd (omega arith)
ends_before (suc (suc i)) (x ∷ (y ∷ ys)) d h less = ends_before (suc i) (y ∷ ys) d h.1 (omega arith)

-- one step more of those that are copied
pub next_ends : (rows steps : List StepRow) (i : ℕ) (row : StepRow) → AreLinked rows → i < length rows → steps ≡ take i rows → row ≡ get_or rows i row → EndBefore steps row.at
next_ends rows steps i row linked less are is = subst (λ (xs : List StepRow). EndBefore xs row.at) (sym are) (subst (λ (r : StepRow). EndBefore (take i rows) r.at) (sym is) (ends_before i rows row linked less))

pub next_copied : (rows old new : List StepRow) (i : ℕ) (row : StepRow) → i < length rows → old ≡ take i rows → row ≡ get_or rows i row → new ≡ old ++ row ∷ [] → new ≡ take (i + 1) rows
next_copied rows old new i row less are is added =
    added ∙ ap (λ (xs : List StepRow). xs ++ row ∷ []) are ∙ ap (λ (r : StepRow). take i rows ++ r ∷ []) is ∙ sym (take_more rows i row less)

pub all_copied : (rows steps : List StepRow) (i : ℕ) → length rows ≤ i → steps ≡ take i rows → steps ≡ rows
all_copied rows steps i end are = are ∙ take_all i rows end
