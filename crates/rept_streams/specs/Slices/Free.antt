-- Whether one stream alone has anything at a time, by slices that stand in order. This project's
-- own.
use Rattle.std.specs.Prelude.{ℕ, ◌==◌, List, [], ◌∷◌, Option, Some, None, Bool, true, false, not, ◌&&◌, ◌||◌, if◌then◌else◌}
use Rattle.std.specs.List.{list_all, list_any}
use Rattle.rept_path.specs.declared.window.Begin.{Begin}
use Rattle.rept_streams.specs.Slices.Stamps.{clock_of}
use Rattle.rept_streams.specs.Slices.Parts.{ToldSlice, begin_of}
use Rattle.rept_streams.specs.Slices.Ends.{past_of, early}
use Rattle.rept_streams.specs.Slices.Ending.{is_time}
use Rattle.rept_streams.specs.declared.slices.ending.PrefixEnd.{PrefixEnd}
use Rattle.rept_streams.specs.declared.slices.reading.StreamWindow.{StreamWindow}

-- whether a window begins with a packet of a time
abbrev pub opens_by : ℕ → Option Begin → Bool
opens_by end None = false
opens_by end (Some b) = clock_of b.first == end

-- whether no window of another stream than this one opens at a time
abbrev pub are_shut : ℕ → ℕ → List StreamWindow → Bool
are_shut end s ws = list_all (λ (w : StreamWindow). w.stream == s || not (opens_by end w.begin)) ws

-- whether a slice meets the end of the prefix, by the next begin of its thread that is greater
abbrev pub meets_by : PrefixEnd → ToldSlice → Option ℕ → Bool
meets_by p t past = begin_of t == p.end || is_time p.end (early p.full t past)

-- whether it doesn't, or is of this stream
abbrev pub is_free : PrefixEnd → ℕ → ToldSlice → Option ℕ → Bool
is_free p s t past = t.stream == s || not (meets_by p t past)

-- whether it is so of each, of slices that stand in order
abbrev pub are_free : PrefixEnd → ℕ → List ToldSlice → Bool
are_free p s [] = true
are_free p s (t ∷ ts) = is_free p s t (past_of (t ∷ ts)) && are_free p s ts

-- the number of its stream, if the slice meets the end
abbrev pub met_by : PrefixEnd → ToldSlice → Option ℕ → List ℕ
met_by p t past = if meets_by p t past then t.stream ∷ [] else []

-- whether numbers of streams are all that of this one
abbrev pub are_by : ℕ → List ℕ → Bool
are_by s met = list_all (λ n. n == s) met

-- whether no other stream has anything at a time, by the numbers of the streams of the slices that
-- meet it; and whether one stream alone has
abbrev pub ends_kept : ℕ → List StreamWindow → List ℕ → ℕ → Bool
ends_kept end ws met s = are_shut end s ws && are_by s met

abbrev pub alone_kept : ℕ → List StreamWindow → List ℕ → Bool
alone_kept end ws met = list_any (λ (w : StreamWindow). ends_kept end ws met w.stream) ws
