use Rattle.std.proofs.Common.{refl}
use Rattle.test_kit.specs.Threads.Play.Drawn.{draw}
use Rattle.test_kit.proofs.threads.play.draw.draw.Goals as goal

pub returns-clause-value : goal.returns-clause-value
unfolding draw
returns-clause-value c = rw (c.from.ensures, c.from-2.ensures) refl
