-- What a session tells of a report and of what was inferred beyond it. This project's own.
use Rattle.std.specs.Prelude.{◌≡◌, ℕ, ◌≤◌, Bool, true, nat_lt, if◌then◌else◌, Option, None, Some, is_some, unwrap_or, bit_and, bit_or}
use Rattle.std.specs.Option.{option_or}
use Rattle.rept_infer.specs.Holding.{Holding}
use Rattle.rept_known.specs.declared.both.Both.{Both}
use Rattle.rept_known.specs.Both.{both_sets}
use Rattle.rept_known.specs.BothMoves.{both_moves}
use Rattle.rept_partial.specs.declared.range.Range.{Range}
use Rattle.rept_partial.specs.Ranges.{range_meet}
use Rattle.rept_reason.specs.declared.fact.Cell.{Cell}
use Rattle.rept_findings.specs.Shown.{Shown, known_value}
use Rattle.rept_findings.specs.declared.findings.PremisesTaken.{PremisesTaken}
use Rattle.rept_found.specs.Inferred.Added.{known_beyond, value_by}
use Rattle.rept_found.specs.Inferred.Writing.{counts_by, writer_beyond}

-- the words of a range that lie between the bounds of a set, too
abbrev pub range_by : Range → Option Both → Range
range_by range None = range
range_by range (Some w) = unwrap_or (range_meet range w.range) range

-- the bits that the one or the other knows: a mask, and what they are
abbrev pub joined : ℕ × ℕ → Option (ℕ × ℕ) → ℕ × ℕ
joined n None = n
joined n (Some m) = (bit_or n.0 m.0, bit_or n.1 m.1)

-- and with those of a set
abbrev pub note_by : Option (ℕ × ℕ) → Option Both → Option (ℕ × ℕ)
note_by note None = note
note_by None (Some w) = both_moves.note w
note_by (Some n) (Some w) = Some (joined n (both_moves.note w))

-- what was inferred beyond a report, and by which premises
pub record Beyond : Type 0 where
  pub told : Holding
  pub taken : PremisesTaken

abbrev pub beyond_of : Holding → PremisesTaken → Beyond
beyond_of told taken = record { told = told; taken = taken }

-- What is shown of a report, with the sets of registers narrowed by a holding, with the bytes that it
-- tells besides, and with what that leaves of possible writers.
abbrev pub narrowed_by : Holding → Shown → Shown
narrowed_by h s = record s {
  register = λ p r. value_by (s.register p r) (h.set p r);
  range = λ p r. range_by (s.range p r) (h.set p r);
  note = λ p r. note_by (s.note p r) (h.set p r);
  byte = λ m a. option_or (s.byte m a) (if nat_lt m s.moments then h.byte m a else None);
  writer = writer_beyond h s;
  counts = counts_by h s;
  is_inferred = λ m c. if is_some (known_value s m c) then s.is_inferred m c else true;
}

-- and with how much that is
abbrev pub narrowed : Beyond → Shown → Shown
narrowed b s = record (narrowed_by b.told s) { beyond = Some (known_beyond b.told b.taken s) }

-- what is shown where more was inferred; else what is shown of the report
abbrev pub shown_beyond : Option Beyond → Shown → Shown
shown_beyond None s = s
shown_beyond (Some b) s = narrowed b s

-- the second knows each value, bound and bit that the first one knows
pub record TellsAll (s more : Shown) : Type 0 where
  pub registers : (p r v : ℕ) → s.register p r ≡ Some v → more.register p r ≡ Some v
  pub ranges : (p r : ℕ) → ((s.range p r).lo ≤ (more.range p r).lo) × ((more.range p r).hi ≤ (s.range p r).hi)
  pub notes : (p r : ℕ) (n : ℕ × ℕ) → s.note p r ≡ Some n → (m : ℕ × ℕ) × (more.note p r ≡ Some m) × (bit_and n.0 m.0 ≡ n.0)
  pub bytes : (m a v : ℕ) → s.byte m a ≡ Some v → more.byte m a ≡ Some v
