-- The files of a made run of several threads. This project's own.
use Rattle.std.specs.Prelude.{◌≡◌, ℕ, List, false}
use Rattle.test_kit.specs.Threads.Play.Made.{IsPlayMade}
use Rattle.test_kit.specs.declared.threads.play.score.Sizes.{Sizes}
use Rattle.rept_encode.specs.Weaving.Woven.{IsWoven}
use Rattle.test_kit.specs.declared.threads.maderuns.made.MadeRun.{MadeRun}
use Rattle.test_kit.specs.Threads.Maderuns.Words.{AreCode}
use Rattle.rept_make.specs.Files.{executable}
use Rattle.test_kit.specs.Threads.Maderuns.Files.{core_file}
use Rattle.test_kit.specs.Threads.Maderuns.Harts.{harts_of}

-- the play of the seed; the executable of its code, 256 bytes to read, to write and to run, so that
-- it doesn't say what its bytes were at the end; the core file of what it left; and the trace of
-- its turns, stream by stream
pub record IsMadeRun (seed : ℕ) (sizes : Sizes) (made : MadeRun) : Type 0 where
  pub play : IsPlayMade seed sizes made.made
  pub words : List ℕ
  pub code : AreCode made.made.code.items words
  pub exe : made.exe ≡ executable 256 7 words
  pub core : made.core ≡ core_file made.made.turns.items made.made.played.registers made.made.played.bytes.items
  pub woven : IsWoven false (harts_of made.made.played.run.threads made.made.turns.items sizes.streams 0) made.trace
