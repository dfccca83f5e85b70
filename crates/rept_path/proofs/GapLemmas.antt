-- The rows of a gap.
use Rattle.std.proofs.Common.{◌≡◌, ℕ, ◌+◌, ◌<◌, ◌≤◌, List, [], ◌∷◌, ◌++◌, length, reverse, true, false, cond, nat_le, Result, Ok, Err, refl, ◌∙◌, ap, arith, inl, inr, length-append}
use Rattle.std.proofs.lemmas.List.{reverse-append, length-reverse}
use Rattle.std.proofs.lemmas.Bool.Decides.{leb_tells}
use Rattle.rept_path.specs.Code.{Code}
use Rattle.rept_path.specs.declared.fault.PathFault.{PathFault}
use Rattle.rept_path.specs.declared.fault.PathFault.TheVariants.{TooLong}
use Rattle.rept_isa.specs.declared.row.StepRow.{StepRow}
use Rattle.rept_path.specs.declared.walk.Walk.{Walk}
use Rattle.rept_isa.specs.declared.instr.Instr.{Instr}
use Rattle.rept_path.specs.Code.{look}
use Rattle.rept_steps.specs.Linked.{EndBefore}
use Rattle.rept_path.specs.Moves.{Stand, ◌>>=◌}
use Rattle.rept_path.specs.Gap.{Goal, crossing, gap}
use Rattle.rept_path.specs.State.{standing, Crossed, from_to}

module _ (code : Code) (s : Stand) (goal : Goal) (i : Instr) (there : look code s.place.at ≡ Ok i) (rows : List StepRow) (crosses : crossing code s goal i ≡ Ok rows) where
  pub gap_ok : length s.place.rows + length rows ≤ s.room → gap code s goal ≡ Ok rows
  unfolding gap
  gap_ok fits =
      let f : List StepRow → Result (List StepRow) PathFault = λ xs. cond (nat_le (length s.place.rows + length xs) s.room) (Ok xs) (Err (TooLong s.packet)) in
      let t : nat_le (length s.place.rows + length rows) s.room ≡ true = elim (leb_tells (length s.place.rows + length rows) s.room) [ inl t ↦ t.0 | inr t ↦ absurd (omega arith) ] in
      let g : Instr → Result (List StepRow) PathFault = λ j. crossing code s goal j >>= f in
      let one : gap code s goal ≡ (Ok rows >>= f) = ap (λ (r : Result Instr PathFault). r >>= g) there ∙ ap (λ (r : Result (List StepRow) PathFault). r >>= f) crosses in
      one ∙ rw t refl

  pub gap_long : s.room < length s.place.rows + length rows → gap code s goal ≡ Err (TooLong s.packet)
  unfolding gap
  gap_long long =
      let f : List StepRow → Result (List StepRow) PathFault = λ xs. cond (nat_le (length s.place.rows + length xs) s.room) (Ok xs) (Err (TooLong s.packet)) in
      let t : nat_le (length s.place.rows + length rows) s.room ≡ false = elim (leb_tells (length s.place.rows + length rows) s.room) [ inl t ↦ absurd (omega arith) | inr t ↦ t.0 ] in
      let g : Instr → Result (List StepRow) PathFault = λ j. crossing code s goal j >>= f in
      let one : gap code s goal ≡ (Ok rows >>= f) = ap (λ (r : Result Instr PathFault). r >>= g) there ∙ ap (λ (r : Result (List StepRow) PathFault). r >>= f) crosses in
      one ∙ rw t refl

-- one row was added
pub one_row : (code : Code) (k : ℕ) (goal : Goal) (i : Instr) (old new : Walk) (row : StepRow) → look code old.at ≡ Ok i → crossing code (standing k old) goal i ≡ Ok (row ∷ []) → length old.steps < old.room → new.steps ≡ old.steps ++ row ∷ [] → EndBefore new.steps goal.address
    → Crossed code goal (from_to k old new)
one_row code k goal i old new row there crosses room is ends =
    let seen : reverse new.steps ≡ row ∷ reverse old.steps = ap reverse is ∙ reverse-append old.steps (row ∷ []) in
    let size : length new.steps ≡ length old.steps + 1 = ap (length {A = StepRow}) is ∙ grind (arith, length-append) in
    record { rows = row ∷ []; crosses = gap_ok code (standing k old) goal i there (row ∷ []) crosses (omega (arith, length-reverse old.steps)); seen = seen; few = omega arith; linked = ends }

-- two rows were added
pub two_rows : (code : Code) (k : ℕ) (goal : Goal) (i : Instr) (old : Walk) (mid all : List StepRow) (new : Walk) (row next : StepRow) → look code old.at ≡ Ok i → crossing code (standing k old) goal i ≡ Ok (next ∷ row ∷ []) → length old.steps + 1 < old.room → mid ≡ old.steps ++ row ∷ [] → all ≡ mid ++ next ∷ [] → new.steps ≡ all → EndBefore new.steps goal.address
    → Crossed code goal (from_to k old new)
two_rows code k goal i old mid all new row next there crosses room is after same ends =
    let then = same ∙ after in
    let one : reverse mid ≡ row ∷ reverse old.steps = ap reverse is ∙ reverse-append old.steps (row ∷ []) in
    let two : reverse new.steps ≡ next ∷ reverse mid = ap reverse then ∙ reverse-append mid (next ∷ []) in
    let size : length mid ≡ length old.steps + 1 = ap (length {A = StepRow}) is ∙ grind (arith, length-append) in
    let more : length new.steps ≡ length mid + 1 = ap (length {A = StepRow}) then ∙ grind (arith, length-append) in
    record { rows = next ∷ row ∷ []; crosses = gap_ok code (standing k old) goal i there (next ∷ row ∷ []) crosses (omega (arith, length-reverse old.steps)); seen = two ∙ ap (λ (xs : List StepRow). next ∷ xs) one; few = omega arith; linked = ends }

pub too_long : (code : Code) (k : ℕ) (goal : Goal) (i : Instr) (old : Walk) (rows : List StepRow) → look code old.at ≡ Ok i → crossing code (standing k old) goal i ≡ Ok rows → old.room < length old.steps + length rows → gap code (standing k old) goal ≡ Err (TooLong k)
too_long code k goal i old rows there crosses long = gap_long code (standing k old) goal i there rows crosses (omega (arith, length-reverse old.steps))

pub no_rows : (code : Code) (k : ℕ) (goal : Goal) (i : Instr) (old : Walk) (e : PathFault) → look code old.at ≡ Ok i → crossing code (standing k old) goal i ≡ Err e → gap code (standing k old) goal ≡ Err e
unfolding gap
no_rows code k goal i old e there h =
    let f : List StepRow → Result (List StepRow) PathFault = λ xs. cond (nat_le (length (standing k old).place.rows + length xs) old.room) (Ok xs) (Err (TooLong k)) in
    let g : Instr → Result (List StepRow) PathFault = λ j. crossing code (standing k old) goal j >>= f in
    ap (λ (r : Result Instr PathFault). r >>= g) there ∙ ap (λ (r : Result (List StepRow) PathFault). r >>= f) h

pub no_place : (code : Code) (k : ℕ) (goal : Goal) (old : Walk) (e : PathFault) → look code old.at ≡ Err e → gap code (standing k old) goal ≡ Err e
unfolding gap
no_place code k goal old e h =
    let f : List StepRow → Result (List StepRow) PathFault = λ xs. cond (nat_le (length (standing k old).place.rows + length xs) old.room) (Ok xs) (Err (TooLong k)) in
    let g : Instr → Result (List StepRow) PathFault = λ j. crossing code (standing k old) goal j >>= f in
    ap (λ (r : Result Instr PathFault). r >>= g) h
