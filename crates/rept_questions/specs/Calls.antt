-- The calls of functions that a thread's path makes. This project's own.
use Rattle.std.specs.Prelude.{ℕ, ◌+◌, ◌-◌, List, [], ◌∷◌, ◌++◌, length, take, drop, Bool, false, nat_le, Option, None, Some, slice_get, codes}
use Rattle.std.specs.List.{filter, find, flat_map, range_with_len}
use Rattle.std.specs.Fmt.{decimal}
use Rattle.rept_isa.specs.declared.row.StepRow.{StepRow}
use Rattle.rept_word.specs.Hex.{hex_word}
use Rattle.rept_findings.specs.Shown.{Shown}
use Rattle.rept_findings.specs.declared.place.ThreadPoint.{ThreadPoint}
use Rattle.rept_questions.specs.Frames.Frames.{after_row, calls, frames_of}
use Rattle.rept_questions.specs.declared.frames.frames.Frame.{Frame}
use Rattle.rept_questions.specs.Spots.{point_text}
use Rattle.rept_questions.specs.Texts.{function_text, left_line}

-- the calls after a step, of those before it
abbrev pub after_step : List Frame → Option StepRow → List Frame
after_step frames None = frames
after_step frames (Some row) = after_row frames row

-- how many calls a thread is in at a point
abbrev pub depth_at : List StepRow → ℕ → ℕ
depth_at rows point = length (frames_of (take point rows))

abbrev pub is_call_row : Option StepRow → Bool
is_call_row None = false
is_call_row (Some row) = calls row.instr

-- the steps before a point that call, the oldest first
abbrev pub calls_before : List StepRow → ℕ → List ℕ
calls_before rows point = filter (λ j. is_call_row (slice_get rows j)) (range_with_len 0 point)

-- the point at which a call has returned: the first one after it at which the thread is in no more
-- calls than before it
abbrev pub return_of : List StepRow → ℕ → Option ℕ
return_of rows j = find (λ p. nat_le (depth_at rows p) (depth_at rows j)) (range_with_len (j + 1) (length rows - j))

-- ` HEX NAME+0xOFFSET`: an address, and the function there
abbrev pub place_text : Shown → ℕ → List ℕ
place_text s address = hex_word address ++ function_text address (s.symbol address)

-- `call P HEX NAME+0xOFFSET from HEX NAME+0xOFFSET return Q`: the point after the call, the address
-- there and that of the call, each with its function, and the point at which it has returned
abbrev pub call_line : Shown → ℕ → StepRow → Option ℕ → List ℕ
call_line s j row back = codes "call " ++ decimal (j + 1) ++ codes " " ++ place_text s row.next ++ codes " from " ++ place_text s row.at ++ (codes " return " ++ point_text back) ++ 10 ∷ []

abbrev pub call_by : Shown → ℕ → ℕ → Option StepRow → List ℕ
call_by s thread j None = []
call_by s thread j (Some row) = call_line s j row (return_of (s.rows thread) j)

abbrev pub call_at : Shown → ℕ → ℕ → List ℕ
call_at s thread j = call_by s thread j (slice_get (s.rows thread) j)

-- the last ones of some steps, so many at most
abbrev pub last_ones : ℕ → List ℕ → List ℕ
last_ones count steps = drop (length steps - count) steps

-- how many came before them, and the lines of the last ones; `none` where there is none
abbrev pub told_calls : Shown → ℕ → ℕ → List ℕ → List ℕ
told_calls s thread count [] = codes "none" ++ 10 ∷ []
told_calls s thread count (j ∷ js) = left_line (length (j ∷ js) - count) ++ flat_map (call_at s thread) (last_ones count (j ∷ js))

-- the last calls before a point, so many at most, the oldest first
unfoldable pub calls_lines : Shown → ThreadPoint → ℕ → List ℕ
calls_lines s c count = told_calls s c.thread count (calls_before (s.rows c.thread) c.point)
