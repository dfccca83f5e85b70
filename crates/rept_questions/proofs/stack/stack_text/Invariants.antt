use Rattle.std.proofs.Common.{◌≡◌, ◌∷◌, map, reverse, slice_get}
use Rattle.std.specs.List.{flat_map, range_with_len}
use Rattle.rept_questions.specs.Texts.{frame_line}
use Rattle.rept_questions.proofs.stack.stack_text.Given as goal

abbrev pub invariant-loop-k : goal.invariant-loop-k
invariant-loop-k g l = l.text ≡ flat_map (λ k. frame_line (g.F.Findings.shown l.findings) k (slice_get (l.pc ∷ reverse (map (λ f. f.at) l.frames.items)) k)) (range_with_len 0 l.k)
