-- Calls that directly follow uninferable jumps.
use Rattle.std.proofs.Common.{◌≡◌, ℕ, ◌+◌, ◌-◌, ◌<◌, ◌≤◌, List, length, get_or, slice_get, Option, Some, Bool, true, false, ◌&&◌, refl, sym, ◌∙◌, ap, arith, inl, inr}
use Rattle.std.proofs.lemmas.Bool.{cases_eq}
use Rattle.std.proofs.lemmas.Option.{slice_get_within, slice_get-get_or}
use Rattle.rept_isa.specs.declared.row.StepRow.{StepRow}
use Rattle.rept_path.specs.Code.{flow_of, jumps_far}
use Rattle.rept_encode.specs.Walkable.{IsJumpEnd, IsFirstJumpEnd}

same_row : (rows : List StepRow) (i j : ℕ) (row other : StepRow) → row ≡ get_or rows i row → i < length rows → i ≡ j → slice_get rows j ≡ Some other → row ≡ other
same_row rows i j row other is lt e get =
    let a : slice_get rows i ≡ Some (get_or rows i row) = slice_get-get_or rows i row lt in
    let b : ◌≡◌ {A = Option StepRow} (Some row) (Some other) = ap (λ (x : StepRow). Some x) is ∙ sym a ∙ ap (λ (k : ℕ). slice_get rows k) e ∙ get in
    cc

both : (a b : Bool) → a ≡ true → b ≡ true → (a && b) ≡ true
both a b x y = rw (x, y) refl

pub not_here : (rows : List StepRow) (i : ℕ) (jump call : StepRow) → 1 ≤ i → i < length rows → jump ≡ get_or rows (i - 1) jump → call ≡ get_or rows i call → (call.call && jumps_far (flow_of jump.instr)) ≡ false → (j : ℕ) → IsJumpEnd rows j → i ≤ j → i + 1 ≤ j
not_here rows i jump call some lt a b none j x le = elim (cases_eq i j) [
  | inl e ↦ absurd (
      let n = x.next in
      let s : jump ≡ x.jump = same_row rows (i - 1) x.before jump x.jump a (omega arith) (omega arith) x.jumps in
      let t : call ≡ x.call = same_row rows i j call x.call b lt e x.follows in
      let far : jumps_far (flow_of jump.instr) ≡ true = rw s x.far in
      let called : call.call ≡ true = rw t x.is_call in
      let yes_both = both call.call (jumps_far (flow_of jump.instr)) called far in
      cc)
  | inr ne ↦ omega arith
]

pub none_after : (rows : List StepRow) (i : ℕ) → length rows ≤ i → ((j : ℕ) → IsJumpEnd rows j → i ≤ j) → (j : ℕ) → IsJumpEnd rows j → ⊥
none_after rows i le later j x =
    let w = slice_get_within rows j x.call x.follows in
    let l = later j x in
    omega arith

pub one_first : (rows : List StepRow) (i j : ℕ) → IsFirstJumpEnd rows i → IsFirstJumpEnd rows j → i ≡ j
one_first rows i j x y =
    let a = x.first j y.there in
    let b = y.first i x.there in
    omega arith
