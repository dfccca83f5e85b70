-- The order of two harts, worked out by hand. Thread 0 runs row 0 from time 1 to 3, rows 1 and 2
-- from 5 to 9, and row 3 from 9 on; thread 1 runs row 0, a call, from 1 to 4, and row 1 from 4 to
-- 8. What happened until 1 isn't told.
use Rattle.std.proofs.Common.{◌≡◌, ℕ, ◌+◌, ◌-◌, ◌^◌, List, [], ◌∷◌, Some, None, true, false, refl}
use Rattle.rept_isa.specs.declared.row.StepRow.{StepRow}
use Rattle.rept_isa.specs.declared.instr.Instr.{Instr}
use Rattle.rept_isa.specs.declared.instr.Instr.TheVariants.{Amo, Fence, Ecall}
use Rattle.rept_isa.specs.declared.instr.AmoOp.TheVariants.{Lr, Sc, Swap}
use Rattle.rept_steps.specs.declared.slice.Slice.{Slice}
use Rattle.rept_steps.specs.declared.threads.ThreadRows.{ThreadRows}
use Rattle.rept_steps.specs.Course.{Course, row_of}
use Rattle.rept_order.specs.Moments.{stores}
use Rattle.rept_order.specs.Moments.Moment.{before, after, at_end}
use Rattle.rept_order.specs.Moments.Act.{row, untraced}
use Rattle.rept_order.specs.Times.{is_earlier, may_act_between}

abbrev a_row : ℕ → Instr → StepRow
a_row at instr = record { at = at; instr = instr; next = at + 4; call = false; short = false }

abbrev slice_from : ℕ → ℕ → ℕ → ℕ → Slice
slice_from begin end first count = record { stream = 0; begin = begin; end = end; first = first; count = count }

abbrev first_thread : ThreadRows
first_thread = record {
  steps = a_row 0 Fence ∷ a_row 4 Fence ∷ a_row 8 Fence ∷ a_row 12 Fence ∷ [];
  slices = slice_from 1 3 0 1 ∷ slice_from 5 9 1 2 ∷ slice_from 9 (2 ^ 64 - 1) 3 1 ∷ [];
}

abbrev second_thread : ThreadRows
second_thread = record { steps = a_row 0 Ecall ∷ a_row 4 Fence ∷ []; slices = slice_from 1 4 0 1 ∷ slice_from 4 8 1 1 ∷ [] }

abbrev pub two_harts : Course
two_harts = record { threads = first_thread ∷ second_thread ∷ []; untraced = Some 1 }

-- a slice that ends before another one begins is before it
ends_before : is_earlier two_harts (after (row_of 0 0)) (before (row_of 1 1)) ≡ true
ends_before = refl

the_other_way : is_earlier two_harts (after (row_of 1 1)) (before (row_of 0 3)) ≡ true
the_other_way = refl

-- slices of one time aren't ordered, whichever begins first
at_once : is_earlier two_harts (after (row_of 0 1)) (before (row_of 1 1)) ≡ false
at_once = refl

at_once_back : is_earlier two_harts (after (row_of 1 1)) (before (row_of 0 1)) ≡ false
at_once_back = refl

-- a thread's own rows are in order, no moment is earlier than itself, and the end is last
own_rows : is_earlier two_harts (after (row_of 0 1)) (before (row_of 0 2)) ≡ true
own_rows = refl

not_itself : is_earlier two_harts (before (row_of 0 1)) (before (row_of 0 1)) ≡ false
not_itself = refl

last : is_earlier two_harts (after (row_of 0 3)) at_end ≡ true
last = refl

-- a call returns as the thread's next slice begins, so it isn't over by the end of its own
returns_late : is_earlier two_harts (after (row_of 1 0)) (after (row_of 0 2)) ≡ false
returns_late = refl

-- a row of a slice that may be at the same time may act in; one whose slice has ended doesn't
may_may_act : may_act_between two_harts (row (row_of 1 1)) (before (row_of 0 2)) at_end ≡ true
may_may_act = refl

has_ended : may_act_between two_harts (row (row_of 1 1)) (before (row_of 0 3)) at_end ≡ false
has_ended = refl

-- between entry and return a call may act in, though its slice ended
call_may_act : may_act_between two_harts (row (row_of 1 0)) (after (row_of 0 1)) (before (row_of 0 2)) ≡ true
call_may_act = refl

-- between the moments of one row only that row may act
row_alone : may_act_between two_harts (row (row_of 1 1)) (before (row_of 0 1)) (after (row_of 0 1)) ≡ false
row_alone = refl

own_row : may_act_between two_harts (row (row_of 0 1)) (before (row_of 0 1)) (after (row_of 0 1)) ≡ true
own_row = refl

-- the untraced prefix may act until a slice begins after it
untraced_may_act : may_act_between two_harts untraced (before (row_of 0 0)) at_end ≡ true
untraced_may_act = refl

untraced_ended : may_act_between two_harts untraced (before (row_of 0 1)) at_end ≡ false
untraced_ended = refl

-- beside the first thread another one executes one instruction between 5 and 9
abbrev one_row : Instr → ThreadRows
one_row instr = record { steps = a_row 0 instr ∷ []; slices = slice_from 5 9 0 1 ∷ [] }

abbrev pub beside : Instr → Course
beside instr = record { threads = first_thread ∷ one_row instr ∷ []; untraced = None }

-- lr.w x5,(x7), sc.w x5,x6,(x7), sc.w x0,x6,(x7) and amoswap.w x5,x6,(x7)
abbrev pub reserve : Instr
reserve = Amo Lr 5 7 0

abbrev pub try : Instr
try = Amo Sc 5 7 6

abbrev pub blind_try : Instr
blind_try = Amo Sc 0 7 6

abbrev pub swap : Instr
swap = Amo Swap 5 7 6

-- it may act between rows 1 and 2 of the first thread; there an LR writes nothing, and an SC may,
-- whatever is known of its answer
atomic_may_act : may_act_between (beside reserve) (row (row_of 1 0)) (after (row_of 0 1)) (before (row_of 0 2)) ≡ true
atomic_may_act = refl

reserve_writes_nothing : stores (beside reserve) (row_of 1 0) ≡ false
reserve_writes_nothing = refl

try_may_write : stores (beside try) (row_of 1 0) ≡ true
try_may_write = refl

blind_try_may_write : stores (beside blind_try) (row_of 1 0) ≡ true
blind_try_may_write = refl

swap_writes : stores (beside swap) (row_of 1 0) ≡ true
swap_writes = refl
