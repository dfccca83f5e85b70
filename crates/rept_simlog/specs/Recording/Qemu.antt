-- qemu's log of executed instructions, as `-d exec,nochain` writes it where each block has one
-- instruction. QEMU 7.2, accel/tcg/cpu-exec.c: `log_cpu_exec` writes a line before a block,
-- `Trace 0: HOST [BASE/ADDRESS/FLAGS/FLAGS] NAME`, numbers in brackets in hexadecimal digits;
-- `cpu_tb_exec` writes `Stopped execution ..` where the block of the line before it wasn't begun.
-- Other lines tell nothing. How this is read as a log of addresses, of which the last is where the
-- program stopped, is this project's own.
use Rattle.std.specs.Prelude.{ℕ, ◌+◌, ◌==◌, List, [], ◌∷◌, ◌++◌, drop, take, fold, Bool, true, false, nat_eq, codes, if◌then◌else◌}
use Rattle.std.specs.List.{position_or_len, slice_split, starts_with}

-- what comes before the first such byte, and what after it; all and nothing where there is none
abbrev pub before_byte : ℕ → List ℕ → List ℕ
before_byte sought text = take (position_or_len (λ byte. byte == sought) text) text

abbrev pub after_byte : ℕ → List ℕ → List ℕ
after_byte sought text = drop (position_or_len (λ byte. byte == sought) text + 1) text

unfoldable pub is_of_first_thread : List ℕ → Bool
is_of_first_thread line = starts_with nat_eq line (codes "Trace 0:")

-- the digits of the address: in brackets, between the first `/` and the second one; none where the
-- line is another thread's, so that a log of several is refused
abbrev pub address_digits : List ℕ → List ℕ
address_digits line = if is_of_first_thread line then before_byte 47 (after_byte 47 (after_byte 91 (drop 6 line))) else []

-- the line of a log of addresses
abbrev pub address_line : List ℕ → List ℕ
address_line line = codes "0x" ++ address_digits line ++ 10 ∷ []

unfoldable pub is_step_line : List ℕ → Bool
is_step_line line = starts_with nat_eq line (codes "Trace ")

unfoldable pub is_taken_back : List ℕ → Bool
is_taken_back line = starts_with nat_eq line (codes "Stopped execution")

-- the lines so far, and after them the last one, whose block may not have been begun
pub record PlainLines : Type 0 where
  pub done : List ℕ
  pub last : List ℕ
  pub is_begun : Bool

-- what was executed where another line follows
abbrev pub executed_lines : PlainLines → List ℕ
executed_lines lines = if lines.is_begun then lines.done ++ lines.last else lines.done

abbrev pub with_line : PlainLines → List ℕ → PlainLines
with_line lines line =
    if is_step_line line then record { done = executed_lines lines; last = address_line line; is_begun = true }
    else if is_taken_back line then record { done = lines.done; last = lines.last; is_begun = false }
    else lines

abbrev pub no_lines : PlainLines
no_lines = record { done = []; last = []; is_begun = true }

abbrev pub all_lines : PlainLines → List ℕ
all_lines lines = lines.done ++ lines.last

-- the log of addresses that qemu's log is
abbrev pub plain_log : List ℕ → List ℕ
plain_log log = all_lines (fold with_line no_lines (slice_split (λ byte. byte == 10) log))
