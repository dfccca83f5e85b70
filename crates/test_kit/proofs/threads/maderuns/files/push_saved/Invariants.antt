use Rattle.std.proofs.Common.{◌≡◌, ◌++◌, ◌∷◌}
use Rattle.rept_make.specs.Files.{bytes_of_words}
use Rattle.test_kit.specs.Threads.Maderuns.Files.{shares_of}
use Rattle.test_kit.proofs.threads.maderuns.files.push_saved.Given as goal

abbrev pub invariant-loop-i : goal.invariant-loop-i
invariant-loop-i l = l.file ≡ l.fn.file ++ bytes_of_words (l.fn.pc ∷ shares_of l.thread l.registers l.i)
