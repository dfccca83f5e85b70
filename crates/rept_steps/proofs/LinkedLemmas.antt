-- Steps one after another.
use Rattle.std.proofs.Common.{◌≡◌, ℕ, zero, suc, ◌+◌, List, [], ◌∷◌, ◌++◌, length, get_or, refl, sym, ap, arith}
use Rattle.rept_isa.specs.declared.row.StepRow.{StepRow}
use Rattle.rept_steps.specs.Linked.{AreLinked, EndBefore}

pub one_more : (rows : List StepRow) (row : StepRow) → AreLinked rows → EndBefore rows row.at → AreLinked (rows ++ row ∷ [])
one_more [] row linked end = (tt, tt)
one_more (x ∷ []) row linked end = (sym end, (tt, tt))
one_more (x ∷ (y ∷ rows)) row linked end = (linked.0, one_more (y ∷ rows) row linked.1 end)

pub ends : (rows : List StepRow) (row : StepRow) (i : ℕ) → i + 1 ≡ length rows → row ≡ get_or rows i row → EndBefore rows row.next
ends [] row i last h = tt
ends (x ∷ []) row zero last h = ap (λ (r : StepRow). r.next) (sym h)
ends (x ∷ []) row (suc i) last h = absurd (omega arith)
ends (x ∷ (y ∷ rows)) row zero last h = absurd (omega arith)
ends (x ∷ (y ∷ rows)) row (suc i) last h = ends (y ∷ rows) row i (omega arith) h

pub ends_after : (rows : List StepRow) (row : StepRow) → EndBefore (rows ++ row ∷ []) row.next
ends_after [] row = refl
ends_after (x ∷ []) row = refl
ends_after (x ∷ (y ∷ rows)) row = ends_after (y ∷ rows) row
