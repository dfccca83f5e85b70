-- Which ends and begins of slices in order count. This project's own.
use Rattle.std.specs.Prelude.{⊤, ◌≡◌, ◌==◌, nat_lt, ℕ, ◌≤◌, List, [], ◌∷◌, Option, Some, None, if◌then◌else◌}
use Rattle.std.specs.List.{cons_option}
use Rattle.rept_streams.specs.Slices.Parts.{ToldSlice, thread_of, begin_of, end_before}
use Rattle.std.specs.Option.{option_or}
use Rattle.rept_streams.specs.Slices.Order.{head_of, meets, slices_of, overlap}

-- the begin of the next slice in order, if it is of the same thread and begins later; that past it,
-- if it is of the same thread and begins at the same time
abbrev pub past_by : ToldSlice → Option ToldSlice → Option ℕ → Option ℕ
past_by t None past = None
past_by t (Some u) past = if thread_of u == thread_of t then (if nat_lt (begin_of t) (begin_of u) then Some (begin_of u) else past) else None

-- the least begin of a slice of the thread of the first one that is greater than its own, of slices
-- that stand in order
abbrev pub past_of : List ToldSlice → Option ℕ
past_of [] = None
past_of (t ∷ ts) = past_by t (head_of ts) (past_of ts)

-- the end of a slice that begins before a time, by the next begin of its thread that is greater
abbrev pub early : ℕ → ToldSlice → Option ℕ → Option ℕ
early time t next = if nat_lt (begin_of t) time then Some (end_before t next) else None

-- the ends of those slices that begin before a time, of slices that stand in order
abbrev pub ends_in : ℕ → List ToldSlice → List ℕ
ends_in time [] = []
ends_in time (t ∷ ts) = cons_option (early time t (past_of (t ∷ ts))) (ends_in time ts)

-- the begin of the next slice of the thread, if this one meets it
abbrev pub met_next : ToldSlice → Option ToldSlice → Option ℕ
met_next t None = None
met_next t (Some u) = if meets t u then Some (begin_of u) else None

-- the begin of the first slice that the one right before it meets
abbrev pub first_met : List ToldSlice → Option ℕ
first_met [] = None
first_met (t ∷ ts) = option_or (met_next t (head_of ts)) (first_met ts)

-- slices of one thread, none of which begins before the one before it
abbrev pub IsInTurn : ToldSlice → Option ToldSlice → Type 0
IsInTurn t None = ⊤
IsInTurn t (Some u) = (thread_of t ≡ thread_of u) × (begin_of t ≤ begin_of u)

abbrev pub InTurn : List ToldSlice → Type 0
InTurn [] = ⊤
InTurn (t ∷ ts) = IsInTurn t (head_of ts) × InTurn ts

-- What streams whose times don't go back tell: where no slice of a thread meets the one right after
-- it, none meets another one, and the first one that is met so has the least begin of all that are
-- met.
abbrev pub KeepTurn : List ToldSlice → Type 0
KeepTurn ts = (process : ℕ) → first_met (slices_of process ts) ≡ overlap ts process

-- the first one of numbers, or this one where there is none
abbrev pub first_or : ℕ → List ℕ → ℕ
first_or n [] = n
first_or n (m ∷ ms) = m
