-- The run of one thread alone, and numbers past the last point.
use Rattle.std.proofs.Common.{◌≡◌, ℕ, suc, ◌-◌, ◌<◌, ◌≤◌, List, [], ◌∷◌, length, Option, Some, None, refl, ap, arith}
use Rattle.std.proofs.lemmas.Bool.{lt-ltb}
use Rattle.rept_isa.specs.declared.row.StepRow.{StepRow}
use Rattle.rept_steps.specs.declared.slice.Slice.{Slice}
use Rattle.rept_steps.specs.declared.threads.ThreadRows.{ThreadRows}
use Rattle.rept_order.specs.Legs.{point_of_thread, points_before, point_in}
use Rattle.rept_moments.specs.Seen.{alone_by, rows_in}

some_same : {x y : List StepRow} → Some x ≡ Some y → x ≡ y
some_same e = cc

none_some : {x : List StepRow} → None ≡ Some x → ⊥
none_some e = cc

-- the run of one thread alone
pub record IsOnly (threads : List ThreadRows) (rows : List StepRow) : Type 0 where
  pub only : ThreadRows
  pub is : threads ≡ only ∷ []
  pub own : only.steps ≡ rows

only_rows : (slices : List Slice) (own rows : List StepRow) → rows_in slices own ≡ Some rows → own ≡ rows
only_rows [] own rows e = absurd (none_some e)
only_rows (s ∷ []) own rows e = some_same e
only_rows (s ∷ u ∷ slices) own rows e = absurd (none_some e)

pub is_only : (threads : List ThreadRows) (untraced : Option ℕ) (rows : List StepRow) → alone_by threads untraced ≡ Some rows → IsOnly threads rows
is_only [] untraced rows e = absurd (none_some e)
is_only (thread ∷ []) None rows e = record { only = thread; is = refl; own = only_rows thread.slices thread.steps rows e }
is_only (thread ∷ []) (Some d) rows e = absurd (none_some e)
is_only (thread ∷ other ∷ threads) untraced rows e = absurd (none_some e)

-- numbers past the last point
pub past_points : (threads : List ThreadRows) (g : ℕ) → points_before threads (length threads) ≤ g → point_in threads g ≡ point_of_thread (length threads) (g - points_before threads (length threads))
past_points [] g past = let same : g ≡ g - 0 = omega arith in ap (point_of_thread 0) same
past_points (thread ∷ threads) g past =
    let rest = past_points threads (g - suc (length thread.steps)) (omega arith) in
    let left : g - suc (length thread.steps) - points_before threads (length threads) ≡ g - points_before (thread ∷ threads) (length (thread ∷ threads)) = omega arith in
    rw (lt-ltb (length thread.steps) g (omega arith), rest) (ap (point_of_thread (suc (length threads))) left)
