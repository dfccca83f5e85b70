-- What an analysis keeps of its own work: which rows may write, how often the rules of each row can
-- be applied still, and whether it took all memory at first. This project's own.
use Rattle.std.specs.Prelude.{ℕ, Bool, ◌+◌, ◌-◌, List, Option, Some, None, sum_by}
use Rattle.rept_writing.specs.declared.list.Writing.{Writing}
use Rattle.rept_writing.specs.Hits.{Listed}
use Rattle.rept_writing.specs.declared.passes.pass.Pass.{Pass}
use Rattle.rept_writing.specs.declared.passes.pass.Pass.TheVariants.{Never, With, Cut}

-- Whether the store of bytes joins what stands side by side, in room that it took at first; the
-- rows that may write; how often rules were applied; and how far those of each row were.
pub record Work : Type 0 where
  pub joins : Bool
  pub writing : List Writing
  pub room : ℕ
  pub infers : ℕ
  pub inferred : List Pass

abbrev pub work_of : Bool → ℕ → Listed → List Pass → Work
work_of joins infers listed inferred = record { joins = joins; writing = listed.list; room = listed.room; infers = infers; inferred = inferred }

-- How often a row's rules can be applied still: once at first, and once for each of its eleven
-- cells that wasn't known when they were.
abbrev pub left_of : Pass → ℕ
left_of Never = 12
left_of (With k) = 11 - k
left_of Cut = 0

-- how often those of all rows can
abbrev pub left : List Pass → ℕ
left passes = sum_by left_of passes

-- the number after that of the entry before an index, or the first one
abbrev pub number_past : Option Writing → ℕ
number_past None = 0
number_past (Some w) = w.at + 1
