-- The registers at the start of a made run: x5 to x15 are drawn, x17 (a7) is the number of getpid,
-- x20 and x22 the address of the data, and x23 where the jump of slot 64 leads. Memory is all 0. It
-- is this project's own.
use Rattle.std.specs.Prelude.{ℕ, List, [], ◌∷◌}
use Rattle.rept_make.specs.Draws.{drawn_times}

abbrev pub start_registers : ℕ → List ℕ
start_registers seed =
    0 ∷ 0 ∷ 0 ∷ 0 ∷ 0
    ∷ drawn_times 1 seed ∷ drawn_times 2 seed ∷ drawn_times 3 seed ∷ drawn_times 4 seed ∷ drawn_times 5 seed ∷ drawn_times 6 seed
    ∷ drawn_times 7 seed ∷ drawn_times 8 seed ∷ drawn_times 9 seed ∷ drawn_times 10 seed ∷ drawn_times 11 seed
    ∷ 0 ∷ 172 ∷ 0 ∷ 0 ∷ 0x20000 ∷ 0 ∷ 0x20000 ∷ 0x10108
    ∷ 0 ∷ 0 ∷ 0 ∷ 0 ∷ 0 ∷ 0 ∷ 0 ∷ 0 ∷ []
