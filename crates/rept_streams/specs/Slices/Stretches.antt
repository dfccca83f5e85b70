-- The walks of streams, stretch by stretch. A stretch begins at the first packet that is left of a
-- stream and at each start packet while the trace waits, and is walked as a path of its own; what
-- leads from one to another isn't looked at here.
use Rattle.std.specs.Prelude.{map, ◌≡◌, ◌⊎◌, ℕ, suc, ◌+◌, ◌-◌, nat_le, nat_lt, List, [], ◌∷◌, ◌++◌, length, take, drop, reverse, is_none, Bool, false, ◌&&◌, if◌then◌else◌}
use Rattle.std.specs.List.{filter, flat_map}
use Rattle.rept_isa.specs.declared.row.StepRow.{StepRow}
use Rattle.rept_trace.specs.declared.packet.Packet.{Packet}
use Rattle.rept_path.specs.Code.{Code}
use Rattle.rept_path.specs.declared.fault.PathFault.{PathFault}
use Rattle.rept_path.specs.Packets.{begins, waits_after, bits}
use Rattle.rept_path.specs.Moves.{Place}
use Rattle.rept_path.specs.Route.{Origin, Route, place}
use Rattle.rept_path.specs.Trace.{StopsAt}
use Rattle.rept_streams.specs.Slices.Stamps.{is_start}
use Rattle.rept_streams.specs.Slices.Parts.{ToldSlice, inner}

-- the packets up to the next one that begins a stretch, by whether the trace waits
abbrev pub same_stretch : Bool → List Packet → List Packet
same_stretch waits [] = []
same_stretch waits (p ∷ later) = if begins p waits then [] else p ∷ same_stretch (waits_after p waits) later

-- the packets of the stretch that begins with a slice
abbrev pub stretch : ToldSlice → List Packet
stretch t = t.start ∷ same_stretch false t.later

-- the slices with which stretches begin
abbrev pub heads : List ToldSlice → List ToldSlice
heads ts = filter (λ t. is_none t.inside) ts

-- A stretch that was walked: the slice with which it begins, and the legs of its packets, newest
-- first.
pub record StretchLegs : Type 0 where
  pub head : ToldSlice
  pub legs : List (List StepRow)

abbrev pub last_place : Code → StretchLegs → Place
last_place code w = place code (reverse (stretch w.head)) w.legs

abbrev pub count_of : Code → StretchLegs → ℕ
count_of code w = length (last_place code w).rows

-- where the walk of a stretch begins, after others of so many rows
abbrev pub origin_after : ℕ → ToldSlice → Origin
origin_after count t = record { number = t.number; room = 65536 - count }

abbrev pub Goes : Code → ℕ → StretchLegs → Type 0
Goes code count w = Route code (origin_after count w.head) (reverse (stretch w.head)) w.legs

-- The stretches that begin with these slices are walked one after the other, after others of so
-- many rows.
abbrev pub Walks : Code → ℕ → List ToldSlice → List StretchLegs → Type 0
Walks code count [] ws = ws ≡ []
Walks code count (t ∷ ts) [] = ⊥
Walks code count (t ∷ ts) (w ∷ ws) = (w.head ≡ t) × Goes code count w × Walks code (count + count_of code w) ts ws

-- One of them is refused, after those before it were walked.
abbrev pub WalksFault : Code → ℕ → List ToldSlice → PathFault → Type 0
WalksFault code count [] e = ⊥
WalksFault code count (t ∷ ts) e =
    StopsAt code (origin_after count t) (stretch t) e
    ⊎ ((w : StretchLegs) × (w.head ≡ t) × Goes code count w × WalksFault code (count + count_of code w) ts e)

-- A slice that was walked: its rows, oldest first, and the last place of its stretch with all
-- branch bits of the stretch.
pub record RanSlice : Type 0 where
  pub told : ToldSlice
  pub rows : List StepRow
  pub last : Place
  pub bits : List Bool

-- whether a slice is one of the stretch
abbrev pub within : StretchLegs → ToldSlice → Bool
within w t = nat_le w.head.number t.number && nat_lt t.number (w.head.number + length (stretch w.head))

-- The rows of a slice are the legs of the packets after its start packet up to the one that ends
-- it.
abbrev pub rows_of : StretchLegs → ToldSlice → List StepRow
rows_of w t = flat_map reverse (take (suc (inner t)) (drop (suc (t.number - w.head.number)) (reverse w.legs)))

abbrev pub ran_by : Code → StretchLegs → ToldSlice → RanSlice
ran_by code w t = record { told = t; rows = rows_of w t; last = last_place code w; bits = bits code (reverse (stretch w.head)) }

abbrev pub ran_in : Code → List ToldSlice → StretchLegs → List RanSlice
ran_in code ts w = map (ran_by code w) (filter (within w) ts)

-- all slices, in the order of their packets
abbrev pub ran : Code → List ToldSlice → List StretchLegs → List RanSlice
ran code ts ws = flat_map (ran_in code ts) ws

-- how many rows stand after each start packet of a stretch: of its packets and their legs, newest
-- first
abbrev pub marks : Code → List Packet → List (List StepRow) → List ℕ
marks code [] legs = []
marks code (p ∷ earlier) legs = marks code earlier (drop 1 legs) ++ (if is_start p then length (place code (p ∷ earlier) legs).rows ∷ [] else [])
