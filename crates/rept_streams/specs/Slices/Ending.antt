-- The last time of the untraced prefix of a trace of several streams. A slice that begins later
-- comes after the prefix. As the prefix ends, a window opens, or a slice that is skipped ends.
-- Where all that opens, begins or ends at that time is of one stream, what isn't told of that
-- stream stands before its slices of that time, and what isn't told of the others is earlier. Then
-- these slices come after the prefix too: its last time is one less. This project's own.
use Rattle.std.specs.Prelude.{map, ℕ, ◌-◌, ◌==◌, nat_lt, List, length, Option, Some, None, unwrap_or, Bool, false, not, ◌&&◌, ◌||◌, if◌then◌else◌}
use Rattle.std.specs.List.{list_all, list_any}
use Rattle.rept_trace.specs.declared.packet.Packet.{Packet}
use Rattle.rept_streams.specs.Slices.Parts.{LeftPackets, ToldSlice, begin_of, slices_told}
use Rattle.rept_streams.specs.Slices.Skipping.{whole, skip, window_of, opening, full_from, end_skipped}

-- What is left of a stream from its window on; nothing of a stream that has no window.
abbrev pub begun_from : ℕ → LeftPackets → LeftPackets
begun_from from left = skip (unwrap_or (window_of from left.packets) (length left.packets)) left

-- what is left of all streams
abbrev pub begun : ℕ → List (List Packet) → List LeftPackets
begun from streams = map (begun_from from) (whole streams)

-- whether there is a time, and it is this one
abbrev pub is_time : ℕ → Option ℕ → Bool
is_time end None = false
is_time end (Some time) = time == end

-- Whether a slice meets a time: it begins at that time; or it is skipped, since it begins before
-- all streams tell, and ends at that time. The arguments are the time from which on all streams
-- tell, that other time, all slices, and the one that is asked.
abbrev pub meets_end : ℕ → ℕ → List ToldSlice → ToldSlice → Bool
meets_end full end ts t = begin_of t == end || (nat_lt (begin_of t) full && end_skipped ts t == end)

-- Whether no other stream than this one has anything at a time: no window of another one opens
-- then, and no slice of another one meets it. The arguments are the time from which on all streams
-- tell, that other time, what is left of the streams, and the number of this one.
abbrev pub ends_by : ℕ → ℕ → List LeftPackets → ℕ → Bool
ends_by full end ws s =
    list_all (λ w. w.stream == s || not (is_time end (opening w))) ws
    && list_all (λ t. t.stream == s || not (meets_end full end (slices_told ws) t)) (slices_told ws)

-- whether one stream alone has anything at a time
abbrev pub ends_alone : ℕ → ℕ → List LeftPackets → Bool
ends_alone full end ws = list_any (λ w. ends_by full end ws w.stream) ws

-- The last time of the untraced prefix: one less than its end where one stream alone has anything
-- at that end, and else that end.
abbrev pub last_time : ℕ → List (List Packet) → ℕ → ℕ
last_time from streams end = if ends_alone (full_from (begun from streams)) end (begun from streams) then end - 1 else end
