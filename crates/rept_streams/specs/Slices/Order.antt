-- Slices in the order of time. This project's own.
use Rattle.std.specs.Prelude.{map, ℕ, ◌==◌, nat_le, nat_lt, List, [], ◌∷◌, take, Option, Some, None, option_map, Bool, not, ◌&&◌, ◌||◌, if◌then◌else◌}
use Rattle.std.specs.List.{filter, list_any}
use Rattle.rept_trace.specs.declared.packet.Packet.{Packet}
use Rattle.rept_streams.specs.Slices.Stamps.{stamp_of, is_past, is_start}
use Rattle.rept_streams.specs.Slices.Parts.{ToldSlice, thread_of, begin_of, inner, beyond, end_before}

-- a thing among others by their times, before those of the same time
abbrev pub put : {A : Type 0} → (A → ℕ) → A → List A → List A
put time x [] = x ∷ []
put time x (y ∷ ys) = if nat_le (time x) (time y) then x ∷ y ∷ ys else y ∷ put time x ys

-- things by their times; of those of one time, the first in the list first
abbrev pub by_time : {A : Type 0} → (A → ℕ) → List A → List A
by_time time [] = []
by_time time (x ∷ xs) = put time x (by_time time xs)

-- the slices of a thread in order: by their begins, of one begin that of the lower stream first,
-- and as the stream has them
abbrev pub slices_of : ℕ → List ToldSlice → List ToldSlice
slices_of thread ts = by_time begin_of (filter (λ t. thread_of t == thread) ts)

abbrev pub head_of : {A : Type 0} → List A → Option A
head_of [] = None
head_of (x ∷ xs) = Some x

-- the one after that of this number
abbrev pub after_number : ℕ → List ToldSlice → Option ToldSlice
after_number k [] = None
after_number k (t ∷ ts) = if t.number == k then head_of ts else after_number k ts

-- the next slice of its thread
abbrev pub next_slice : List ToldSlice → ToldSlice → Option ToldSlice
next_slice ts t = after_number t.number (slices_of (thread_of t) ts)

abbrev pub end_of : List ToldSlice → ToldSlice → ℕ
end_of ts t = end_before t (option_map begin_of (next_slice ts t))

-- whether a packet is a start packet of a time after this one
abbrev pub starts_past : ℕ → Packet → Bool
starts_past time p = is_start p && is_past time (stamp_of p)

-- Whether a slice lasts past a time: a packet of it is of a later time, or the start packet that
-- ends it is.
abbrev pub lasts_past : ℕ → ToldSlice → Bool
lasts_past time t = list_any (λ p. is_past time (stamp_of p)) (take (inner t) t.later) || list_any (starts_past time) (take 1 (beyond t))

-- whether the former slice meets the latter: both are of one thread and of different streams, and
-- they begin at one time, or the former begins earlier and lasts past the begin of the latter
abbrev pub meets : ToldSlice → ToldSlice → Bool
meets t u =
    not (t.stream == u.stream) && thread_of t == thread_of u
    && (begin_of t == begin_of u || (nat_lt (begin_of t) (begin_of u) && lasts_past (begin_of u) t))

-- the least of numbers
abbrev pub least : List ℕ → Option ℕ
least [] = None
least (n ∷ ns) = least_with n (least ns) where
  least_with : ℕ → Option ℕ → Option ℕ
  least_with n None = Some n
  least_with n (Some m) = Some (if nat_le n m then n else m)

-- the least begin of a slice of the thread that another one meets
abbrev pub overlap : List ToldSlice → ℕ → Option ℕ
overlap ts thread = least (map begin_of (filter (λ u. thread_of u == thread && list_any (λ t. meets t u) ts) ts))
