-- What a made run keeps of the registers: data is only reached near its place.
use Rattle.std.specs.Prelude.{◌≡◌, ℕ, ◌+◌, ◌≤◌}
use Rattle.rept_machine.specs.State.{State}

pub record Near (s : State) : Type 0 where
  pub number : s.register 17 ≡ 172
  pub place : s.register 20 ≡ 131072
  pub offset : s.register 21 ≤ 1020
  pub far : ℕ
  pub reached : s.register 22 ≡ 131072 + far
  pub few : far ≤ 1020
  pub target : s.register 23 ≡ 65800
