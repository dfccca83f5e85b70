use Rattle.std.proofs.Common.{◌≡◌, ◌∷◌, map, reverse, take}
use Rattle.rept_questions.proofs.stack.places_of.Given as goal

abbrev pub invariant-loop-k : goal.invariant-loop-k
invariant-loop-k l = l.places.items ≡ take l.k (l.pc ∷ reverse (map (λ f. f.at) l.frames))
