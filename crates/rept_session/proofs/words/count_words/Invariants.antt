use Rattle.std.proofs.Common.{◌≡◌, ◌+◌, length}
use Rattle.rept_session.specs.Words.{words_in}
use Rattle.rept_session.proofs.words.count_words.Given as goal

abbrev pub invariant-words : goal.invariant-words
invariant-words l = l.count + length (words_in l.rest) ≡ length (words_in l.text)

abbrev pub decreases-words : goal.decreases-words
decreases-words l = length (words_in l.rest)
