use Rattle.std.proofs.Common.{◌≡◌, true, string_bytes, take}
use Rattle.std.specs.List.{list_all}
use Rattle.rept_opening.specs.Words.Words.{is_plain}
use Rattle.rept_opening.proofs.words.reading.are_plain.Given as goal

abbrev pub invariant-loop-word : goal.invariant-loop-word
invariant-loop-word l = list_all (λ w. is_plain (string_bytes w)) (take l.word-index l.words) ≡ true
