-- The numbers that a made program is drawn from: a linear congruence modulo 2^32 (D. E. Knuth and
-- H. W. Lewis, as Numerical Recipes gives it). How they are used is this project's own.
use Rattle.std.specs.Prelude.{ℕ, zero, suc, ◌+◌, ◌*◌, ◌/◌, ◌%◌, ◌^◌, ◌<◌, ◌≤◌}
use Rattle.rept_make.specs.declared.draw.Slot.{Slot}

unfoldable pub drawn : ℕ → ℕ
drawn state = (state * 1664525 + 1013904223) % 2 ^ 32

-- the state after so many draws
unfoldable pub drawn_times : ℕ → ℕ → ℕ
drawn_times zero state = state
drawn_times (suc n) state = drawn (drawn_times n state)

-- a number below another one
abbrev pub pick : ℕ → ℕ → ℕ
pick state below = state / 65536 % below

-- what five draws give
abbrev pub slot_of : ℕ → Slot
slot_of state = record {
  kind = pick (drawn state) 16;
  target = 5 + pick (drawn (drawn state)) 11;
  first = 5 + pick (drawn (drawn (drawn state))) 11;
  second = 5 + pick (drawn (drawn (drawn (drawn state)))) 11;
  number = pick (drawn (drawn (drawn (drawn (drawn state))))) 2048;
}

abbrev pub after_slot : ℕ → ℕ
after_slot state = drawn (drawn (drawn (drawn (drawn state))))

pub record IsSlot (slot : Slot) : Type 0 where
  pub kind : slot.kind < 16
  pub low : 5 ≤ slot.target
  pub target : slot.target ≤ 15
  pub first : slot.first ≤ 15
  pub second : slot.second ≤ 15
  pub number : slot.number < 2048
