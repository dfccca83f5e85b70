-- What a made run of several threads is. This project's own.
use Rattle.std.specs.Prelude.{◌≡◌, ℕ, ◌<◌, length, All}
use Rattle.test_kit.specs.Threads.Turns.Turns.{AreApartByStream, TakeTime, BeginTogether}
use Rattle.test_kit.specs.declared.threads.play.made.Made.{Made}
use Rattle.test_kit.specs.declared.threads.play.score.Sizes.{Sizes}
use Rattle.test_kit.specs.Threads.Play.Code.{drawn_in, IsPlayable}
use Rattle.test_kit.specs.Threads.Play.Drawn.{made_instr, drawn_turns, start_registers}
use Rattle.test_kit.specs.Threads.Play.Played.{IsPlayed}

-- the code and turns of the seed, which streams can tell from time 0 on, and their play
pub record IsPlayMade (seed : ℕ) (sizes : Sizes) (made : Made) : Type 0 where
  pub size : length made.code.items ≡ 60
  pub code_drawn : (t s : ℕ) → t < 4 → s < 15 → drawn_in made.code.items t s ≡ made_instr seed t s
  pub turns_drawn : made.turns.items ≡ drawn_turns sizes seed sizes.turns
  pub playable : IsPlayable made.code.items made.turns.items
  pub streams : All (λ turn. turn.stream < sizes.streams) made.turns.items
  pub apart : AreApartByStream made.turns.items
  pub long : TakeTime made.turns.items
  pub together : BeginTogether made.turns.items
  pub is_played : IsPlayed made.code.items made.turns.items (start_registers seed) made.played
