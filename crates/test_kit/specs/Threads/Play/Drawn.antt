-- What is drawn of a play from a seed: the code of the threads, and their turns. This project's
-- own; the numbers are those of a linear congruence modulo 2^32 (D. E. Knuth and H. W. Lewis, as
-- Numerical Recipes gives it), begun at a place of its own for each.
use Rattle.std.specs.Prelude.{ℕ, zero, suc, ◌+◌, ◌-◌, ◌*◌, ◌/◌, ◌%◌, ◌^◌, ◌==◌, nat_le, nat_lt, min, max, pos, ◌-ℤ◌, if◌then◌else◌, List, [], ◌∷◌, ◌++◌}
use Rattle.rept_isa.specs.declared.instr.Instr.{Instr}
use Rattle.rept_isa.specs.declared.instr.Instr.TheVariants.{Load, Store, Imm, Op, Ecall}
use Rattle.rept_isa.specs.declared.instr.LoadOp.TheVariants.{Lw}
use Rattle.rept_isa.specs.declared.instr.StoreOp.TheVariants.{Sb, Sw}
use Rattle.rept_isa.specs.declared.instr.ImmOp.TheVariants.{Addi}
use Rattle.rept_isa.specs.declared.instr.RegOp.TheVariants.{Add, Mul}
use Rattle.test_kit.specs.declared.threads.turns.turn.Turn.{Turn}
use Rattle.test_kit.specs.Threads.Turns.Turns.{rows_in}
use Rattle.test_kit.specs.declared.threads.play.draw.Slot.{Slot}
use Rattle.test_kit.specs.declared.threads.play.score.Sizes.{Sizes}

-- a number below another one, by its place among all
unfoldable pub draw : ℕ → ℕ → ℕ → ℕ
draw seed number below = ((seed + number * 2654435761) * 1664525 + 1013904223) % 2 ^ 32 / 65536 % below

-- four numbers are drawn for each slot; the first register of a thread is never written
abbrev pub slot_of : ℕ → ℕ → ℕ → Slot
slot_of seed t s = record {
  kind = draw seed (4 * (15 * t + s)) 6;
  base = 18 + 3 * t;
  target = 18 + 3 * t + 1 + draw seed (4 * (15 * t + s) + 1) 2;
  source = 18 + 3 * t + 1 + draw seed (4 * (15 * t + s) + 2) 2;
  number = draw seed (4 * (15 * t + s) + 3) 2048;
}

abbrev pub instr_of : Slot → Instr
instr_of s =
    if s.kind == 0 then Imm Addi s.target s.source (pos s.number -ℤ pos 1024)
    else if s.kind == 1 then Op Add s.target s.source s.target
    else if s.kind == 2 then Op Mul s.target s.source s.target
    else if s.kind == 3 then Load Lw s.target s.base (pos (s.number % 8 * 4))
    else if s.kind == 4 then Store Sw s.base s.source (pos (s.number % 8 * 4))
    else Store Sb s.base s.source (pos (s.number % 32))

-- slot 7 has a call
abbrev pub made_instr : ℕ → ℕ → ℕ → Instr
made_instr seed t s = if s == 7 then Ecall else instr_of (slot_of seed t s)

-- the latest end of a thread's turns, of those of a stream, and of all, and the latest begin
abbrev pub thread_end : ℕ → List Turn → ℕ
thread_end t [] = 0
thread_end t (turn ∷ turns) = max (if turn.thread == t then turn.end else 0) (thread_end t turns)

abbrev pub stream_end : ℕ → List Turn → ℕ
stream_end s [] = 0
stream_end s (turn ∷ turns) = max (if turn.stream == s then turn.end else 0) (stream_end s turns)

abbrev pub last_end : List Turn → ℕ
last_end [] = 0
last_end (turn ∷ turns) = max turn.end (last_end turns)

abbrev pub last_begin : List Turn → ℕ
last_begin [] = 0
last_begin (turn ∷ turns) = max turn.begin (last_begin turns)

-- how many rows lead from a place in the code to the end of the next call
abbrev pub to_call : ℕ → ℕ
to_call place = if nat_le place 7 then 8 - place else 24 - place

-- A turn begins after what its thread and its stream did before, takes some time, and doesn't end
-- before an earlier one begins.
abbrev pub begin_of : ℕ → ℕ → ℕ → List Turn → ℕ
begin_of early t s turns = max early (max (thread_end t turns) (stream_end s turns))

abbrev pub end_of : ℕ → ℕ → List Turn → ℕ
end_of late begin turns = max late (max (begin + 1) (last_begin turns))

-- The turn of this number, after these. Its thread and its stream are drawn; it has up to eight
-- rows, the last of which may be a call, at a time around eight times its number. But the first
-- turn of each stream is of the thread of the stream's number, and may begin at time 0.
abbrev pub drawn_thread : Sizes → ℕ → ℕ → ℕ
drawn_thread sizes seed n = if nat_lt n sizes.streams then n else draw seed (240 + 5 * n) sizes.threads

abbrev pub drawn_stream : Sizes → ℕ → ℕ → ℕ
drawn_stream sizes seed n = if nat_lt n sizes.streams then n else draw seed (241 + 5 * n) sizes.streams

abbrev pub drawn_early : Sizes → ℕ → ℕ → ℕ
drawn_early sizes seed n = if nat_lt n sizes.streams then 0 else 8 * n - draw seed (243 + 5 * n) 16

abbrev pub drawn_begin : Sizes → ℕ → ℕ → List Turn → ℕ
drawn_begin sizes seed n turns = begin_of (drawn_early sizes seed n) (drawn_thread sizes seed n) (drawn_stream sizes seed n) turns

abbrev pub next_turn : Sizes → ℕ → ℕ → List Turn → Turn
next_turn sizes seed n turns = record {
  thread = drawn_thread sizes seed n;
  stream = drawn_stream sizes seed n;
  count = min (1 + draw seed (242 + 5 * n) 8) (to_call (rows_in (drawn_thread sizes seed n) turns % 16));
  begin = drawn_begin sizes seed n turns;
  end = end_of (8 * n + draw seed (244 + 5 * n) 16) (drawn_begin sizes seed n turns) turns;
}

abbrev pub drawn_turns : Sizes → ℕ → ℕ → List Turn
drawn_turns sizes seed zero = []
drawn_turns sizes seed (suc n) = drawn_turns sizes seed n ++ next_turn sizes seed n (drawn_turns sizes seed n) ∷ []

-- The registers at the start: the number of getpid (172) in x17, which all threads see, 131072 in
-- the first register of each thread, and a drawn number in its second.
abbrev pub start_registers : ℕ → List ℕ
start_registers seed =
    0 ∷ 0 ∷ 0 ∷ 0 ∷ 0 ∷ 0 ∷ 0 ∷ 0 ∷ 0 ∷ 0 ∷ 0 ∷ 0 ∷ 0 ∷ 0 ∷ 0 ∷ 0 ∷ 0 ∷ 172
    ∷ 131072 ∷ draw seed 600 65536 ∷ 0
    ∷ 131072 ∷ draw seed 601 65536 ∷ 0
    ∷ 131072 ∷ draw seed 602 65536 ∷ 0
    ∷ 131072 ∷ draw seed 603 65536 ∷ 0
    ∷ 0 ∷ 0 ∷ []
