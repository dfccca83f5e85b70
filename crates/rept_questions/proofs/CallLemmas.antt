-- The calls that a thread is in after one step more.
use Rattle.std.proofs.Common.{◌≡◌, ℕ, ◌+◌, ◌<◌, List, [], ◌∷◌, length, get_or, take, ap, sym, arith, ◌∙◌}
use Rattle.std.specs.Prelude.{slice_get}
use Rattle.std.proofs.lemmas.Option.{slice_get-get_or}
use Rattle.std.proofs.lemmas.List.{take_more}
use Rattle.std.proofs.lemmas.List.Sums.{fold-append}
use Rattle.std.specs.List.{fold}
use Rattle.rept_isa.specs.declared.row.StepRow.{StepRow}
use Rattle.rept_questions.specs.declared.frames.frames.Frame.{Frame}
use Rattle.rept_questions.specs.Calls.{after_step}
use Rattle.rept_questions.specs.Frames.Frames.{after_row, frames_of}

one_row : (rows : List StepRow) (k : ℕ) (d : StepRow) → k < length rows → frames_of (take (k + 1) rows) ≡ after_row (frames_of (take k rows)) (get_or rows k d)
one_row rows k d h = ap (λ (xs : List StepRow). fold after_row [] xs) (take_more rows k d h) ∙ fold-append after_row [] (take k rows) (get_or rows k d ∷ [])

pub one_step : (rows : List StepRow) (k : ℕ) → k < length rows → frames_of (take (k + 1) rows) ≡ after_step (frames_of (take k rows)) (slice_get rows k)
one_step [] k h = let bad : ⊥ = omega (arith, h) in absurd bad
one_step (r ∷ rs) k h = one_row (r ∷ rs) k r h ∙ ap (after_step (frames_of (take k (r ∷ rs)))) (sym (slice_get-get_or (r ∷ rs) k r h))
