-- The lines of an input, as POSIX defines a line: each ends with a newline (POSIX.1-2017, 3.206). A
-- carriage return before the newline, as other systems write it, is no part of the line, and what
-- stands after the last newline counts as a line where it is not empty.
use Rattle.std.specs.Prelude.{◌≡◌, ℕ, ◌+◌, ◌-◌, ◌<◌, ◌≤◌, ◌⊎◌, List, [], ◌∷◌, ◌++◌, length, Bool, true, false, Option, None, Some, Result, Ok, Err, ◌==◌, nat_lt, if◌then◌else◌}
use Rattle.std.specs.Str.Lines.{strip_carriage_return}
use Rattle.std.specs.Io.KnownBytes.{Consumes, IsAtEnd}
use Rattle.rept_ports.specs.Causes.{OneFault}
use Rattle.rept_ports.specs.Port.{Port}
use Rattle.rept_ports.specs.Taken.{Taken}
use Rattle.rept_ports.specs.declared.lines.limits.LineFault.{LineFault}
use Rattle.rept_ports.specs.declared.lines.limits.LineFault.TheVariants.{ReadFault, TooMuchInput}
use Rattle.rept_ports.specs.declared.lines.found.LineRead.{LineRead}
use Rattle.rept_ports.specs.declared.lines.found.LineRead.TheVariants as found

-- the lines of an input of which the bytes of the current line so far were front
abbrev pub lines_from : List ℕ → List ℕ → List (List ℕ)
lines_from front [] = if length front == 0 then [] else front ∷ []
lines_from front (b ∷ bs) = if b == 10 then strip_carriage_return front ∷ lines_from [] bs else lines_from (front ++ b ∷ []) bs

-- the same without a last line that no newline ends
abbrev pub whole_from : List ℕ → List ℕ → List (List ℕ)
whole_from front [] = []
whole_from front (b ∷ bs) = if b == 10 then strip_carriage_return front ∷ whole_from [] bs else whole_from (front ++ b ∷ []) bs

abbrev pub lines_of : List ℕ → List (List ℕ)
lines_of = lines_from []

abbrev pub whole_lines : List ℕ → List (List ℕ)
whole_lines = whole_from []

-- what is given of a line: nothing of one of more than 256 bytes
abbrev pub given : List ℕ → Option (List ℕ)
given line = if nat_lt 256 (length line) then None else Some line

-- items are the bytes of the line so far, or there are too many
abbrev pub HoldsLine : List ℕ → Bool → List ℕ → Type 0
HoldsLine items false front = items ≡ front
HoldsLine items true front = 257 < length front

-- what was found is this line
abbrev pub IsFound : LineRead → List ℕ → List ℕ → Type 0
IsFound found.Text items line = given line ≡ Some items
IsFound found.Long items line = given line ≡ None
IsFound found.End items line = ⊥

-- what was found after the last newline
abbrev pub IsLastLine : LineRead → List ℕ → List ℕ → Type 0
IsLastLine found.Text items front = (given front ≡ Some items) × (0 < length front)
IsLastLine found.Long items front = (given front ≡ None) × (0 < length front)
IsLastLine found.End items front = front ≡ []

-- however the input goes on, its lines are this one and those of what is pending then
pub record GivesLine (before : List ℕ) (new : Taken) (line : List ℕ) : Type 0 where
  pub next : (more : List ℕ) → lines_of (before ++ more) ≡ line ∷ lines_of (new.pending ++ more)
  pub whole : (more : List ℕ) → whole_lines (before ++ more) ≡ line ∷ whole_lines (new.pending ++ more)
  pub going : new.ended ≡ false

-- the input ended, and this is its last line, without a newline
pub record EndsInLine (before : List ℕ) (new : Taken) (left : Option (List ℕ)) (line : List ℕ) : Type 0 where
  pub last : lines_of before ≡ line ∷ []
  pub none_whole : whole_lines before ≡ []
  pub all : new.pending ≡ []
  pub at_end : IsAtEnd left
  pub ended : new.ended ≡ true

-- how many bytes may still come
abbrev pub to_come : Taken → ℕ
to_come t = (1048576 - t.count) + length t.pending

-- what was said of the next line: `None` at the end of the input; `Some None` of a long line
abbrev pub SaidLine : Type 0
SaidLine = Result (Option (Option (List ℕ))) LineFault

abbrev pub said_of : Result LineRead LineFault → List ℕ → SaidLine
said_of (Ok found.Text) items = Ok (Some (Some items))
said_of (Ok found.Long) items = Ok (Some None)
said_of (Ok found.End) items = Ok None
said_of (Err e) items = Err e

-- bytes were taken from what was left, and counted
pub record Took (old new : Taken) (source source' : Port) (got : List ℕ) : Type 0 where
  pub consumed : Consumes source.bytes source'.bytes got
  pub count : new.count ≡ old.count + length got
  pub within : new.count ≤ 1048576

-- nothing was left of the input
pub record EndsInput (old new : Taken) (source source' : Port) : Type 0 where
  pub got : List ℕ
  pub took : Took old new source source' got
  pub calm : source'.faults ≡ source.faults
  pub nothing : old.pending ++ got ≡ []
  pub none_pending : new.pending ≡ []
  pub at_end : IsAtEnd source'.bytes
  pub ended : new.ended ≡ true

-- a line was found: it ends here, or the input does
pub record FindsLine (old new : Taken) (source source' : Port) (said : Option (List ℕ)) : Type 0 where
  pub got : List ℕ
  pub took : Took old new source source' got
  pub calm : source'.faults ≡ source.faults
  pub fewer : to_come new < to_come old
  pub line : List ℕ
  pub told : given line ≡ said
  pub next : GivesLine (old.pending ++ got) new line ⊎ EndsInLine (old.pending ++ got) new source'.bytes line

-- a read failed, and no whole line is left of the bytes that were taken
pub record FailsRead (old new : Taken) (source source' : Port) : Type 0 where
  pub got : List ℕ
  pub took : Took old new source source' got
  pub fault : OneFault source.faults source'.faults
  pub none_whole : whole_lines (old.pending ++ got) ≡ []

-- as many bytes as may be taken were taken, no whole line is left of them, and one more byte came
pub record PassesLimit (old new : Taken) (source source' : Port) : Type 0 where
  pub got : List ℕ
  pub extra : ℕ
  pub consumed : Consumes source.bytes source'.bytes (got ++ extra ∷ [])
  pub count : new.count ≡ old.count + length got
  pub full : new.count ≡ 1048576
  pub calm : source'.faults ≡ source.faults
  pub none_whole : whole_lines (old.pending ++ got) ≡ []

-- the next line, with the bytes that were taken for it
abbrev pub LineStep : Taken → Taken → Port → Port → SaidLine → Type 0
LineStep old new source source' (Ok None) = EndsInput old new source source'
LineStep old new source source' (Ok (Some said)) = FindsLine old new source source' said
LineStep old new source source' (Err ReadFault) = FailsRead old new source source'
LineStep old new source source' (Err TooMuchInput) = PassesLimit old new source source'
