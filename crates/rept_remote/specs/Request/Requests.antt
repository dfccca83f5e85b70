-- What a packet asks for (GDB manual, appendix Remote Serial Protocol, sections Packets, General
-- Query Packets and vCont). Packets that aren't named here ask for nothing that is known.
use Rattle.std.specs.Prelude.{ℕ, List, [], ◌∷◌, drop, Bool, ◌==◌, nat_eq, Option, None, Some, codes, if◌then◌else◌}
use Rattle.std.specs.List.{starts_with}
use Rattle.std.specs.Option.{option_or}
use Rattle.std.specs.Str.{bytes_eq}
use Rattle.rept_word.specs.Parsing.Numbers.{hexadecimal_of}
use Rattle.rept_remote.specs.Request.Numbers.{pair_of}
use Rattle.rept_remote.specs.Request.Names.{acted_range, acted_thread, thread_after}
use Rattle.rept_remote.specs.declared.request.request.GdbRequest.{GdbRequest}
use Rattle.rept_remote.specs.declared.request.request.GdbRequest.TheVariants as request
use Rattle.rept_remote.specs.declared.request.request.CodeRange.{CodeRange}
use Rattle.rept_remote.specs.declared.request.request.WatchKind.{WatchKind}
use Rattle.rept_remote.specs.declared.request.request.WatchKind.TheVariants as kind
use Rattle.rept_remote.specs.declared.request.request.Movement.{Movement}
use Rattle.rept_remote.specs.declared.request.request.Movement.TheVariants as way
use Rattle.rept_remote.specs.declared.request.request.ThreadName.TheVariants as name
use Rattle.rept_remote.specs.declared.request.request.TargetObject.{TargetObject}
use Rattle.rept_remote.specs.declared.request.request.TargetObject.TheVariants as object
use Rattle.rept_remote.specs.declared.request.parser.BreakOrWatch.{BreakOrWatch}
use Rattle.rept_remote.specs.declared.request.parser.BreakOrWatch.TheVariants as spot

-- packets that move
abbrev pub move_named : List ℕ → Option GdbRequest
move_named packet =
    if bytes_eq packet (codes "s") then Some (request.Move way.Step name.Selected)
    else if bytes_eq packet (codes "c") then Some (request.Move way.Continue name.Selected)
    else if bytes_eq packet (codes "bs") then Some (request.Move way.StepBack name.Selected)
    else if bytes_eq packet (codes "bc") then Some (request.Move way.ContinueBack name.Selected)
    else if bytes_eq packet (codes "D") then Some request.Detach
    else if bytes_eq packet (codes "k") then Some request.Kill
    else None

-- packets that ask for something of what stands there
abbrev pub query_named : List ℕ → Option GdbRequest
query_named packet =
    if bytes_eq packet (codes "?") then Some request.Reason
    else if bytes_eq packet (codes "g") then Some request.Registers
    else if bytes_eq packet (codes "qC") then Some request.Thread
    else if bytes_eq packet (codes "qfThreadInfo") then Some request.Threads
    else if bytes_eq packet (codes "qsThreadInfo") then Some request.MoreThreads
    else if bytes_eq packet (codes "QStartNoAckMode") then Some request.NoAcknowledgments
    else if bytes_eq packet (codes "vCont?") then Some request.Moves
    else if bytes_eq packet (codes "qOffsets") then Some request.Offsets
    else None

abbrev pub has_prefix : List ℕ → List ℕ → Bool
has_prefix packet front = starts_with nat_eq packet front

-- a move that `vCont;` asks for
abbrev pub acted : List ℕ → Movement → GdbRequest
acted packet way = request.Move way (acted_thread packet)

abbrev pub within : ℕ → ℕ → Movement
within first end = way.StepWithin (record { first = first; end = end })

-- a move out of a range, which needs its two numbers
abbrev pub out_of : List ℕ → Option (ℕ × ℕ) → GdbRequest
out_of packet None = request.Unknown
out_of packet (Some range) = acted packet (within range.0 range.1)

abbrev pub acted_within : List ℕ → GdbRequest
acted_within packet = out_of packet (acted_range packet)

-- packets that are known by how they begin
abbrev pub move_begun : List ℕ → Option GdbRequest
move_begun packet =
    if has_prefix packet (codes "vCont;s") then Some (acted packet way.Step)
    else if has_prefix packet (codes "vCont;S") then Some (acted packet way.Step)
    else if has_prefix packet (codes "vCont;r") then Some (acted_within packet)
    else if has_prefix packet (codes "vCont;c") then Some (acted packet way.Continue)
    else if has_prefix packet (codes "vCont;C") then Some (acted packet way.Continue)
    else None

abbrev pub query_begun : List ℕ → Option GdbRequest
query_begun packet =
    if has_prefix packet (codes "qSupported") then Some request.Features
    else if has_prefix packet (codes "qAttached") then Some request.Attached
    else if has_prefix packet (codes "qThreadExtraInfo,") then Some (request.ThreadText (thread_after 17 packet))
    else if has_prefix packet (codes "qRcmd,") then Some request.Monitor
    else None

-- packets that name a thread
abbrev pub thread_begun : List ℕ → Option GdbRequest
thread_begun packet =
    if has_prefix packet (codes "Hg") then Some (request.SelectThread (thread_after 2 packet))
    else if has_prefix packet (codes "Hc") then Some (request.SelectMoving (thread_after 2 packet))
    else if has_prefix packet (codes "H") then Some (request.SelectThread name.Unreadable)
    else if has_prefix packet (codes "T") then Some (request.IsAlive (thread_after 1 packet))
    else None

abbrev pub change_begun : List ℕ → Option GdbRequest
change_begun packet =
    if has_prefix packet (codes "G") then Some request.Change
    else if has_prefix packet (codes "P") then Some request.Change
    else if has_prefix packet (codes "M") then Some request.Change
    else if has_prefix packet (codes "X") then Some request.Change
    else None

-- a request of one number, or of two
abbrev pub with_number : (ℕ → GdbRequest) → Option ℕ → GdbRequest
with_number f None = request.Unknown
with_number f (Some n) = f n

abbrev pub with_pair : (ℕ → ℕ → GdbRequest) → Option (ℕ × ℕ) → GdbRequest
with_pair f None = request.Unknown
with_pair f (Some pair) = f pair.0 pair.1

-- a breakpoint or a watchpoint, by the digit after `Z` or `z`
abbrev pub with_spot : (ℕ → GdbRequest) → (WatchKind → ℕ → ℕ → GdbRequest) → List ℕ → GdbRequest
with_spot code watched rest =
    if has_prefix rest (codes "0,") then with_pair (λ address size. code address) (pair_of (drop 2 rest))
    else if has_prefix rest (codes "1,") then with_pair (λ address size. code address) (pair_of (drop 2 rest))
    else if has_prefix rest (codes "2,") then with_pair (watched kind.Writes) (pair_of (drop 2 rest))
    else if has_prefix rest (codes "4,") then with_pair (watched kind.Accesses) (pair_of (drop 2 rest))
    else request.Unknown

-- the request of a breakpoint or a watchpoint that the code found there
abbrev pub request_at : (ℕ → GdbRequest) → (WatchKind → ℕ → ℕ → GdbRequest) → Option BreakOrWatch → GdbRequest
request_at code watched None = request.Unknown
request_at code watched (Some (spot.Code address)) = code address
request_at code watched (Some (spot.Bytes kind address length)) = watched kind address length

-- packets with numbers in them, by their first byte
abbrev pub numbered : ℕ → List ℕ → GdbRequest
numbered letter rest =
    if letter == 112 then with_number request.Register (hexadecimal_of rest)
    else if letter == 109 then with_pair request.Memory (pair_of rest)
    else if letter == 120 then with_pair request.Bytes (pair_of rest)
    else if letter == 90 then with_spot request.Break request.Watch rest
    else if letter == 122 then with_spot request.Unbreak request.Unwatch rest
    else request.Unknown

abbrev pub lettered : List ℕ → GdbRequest
lettered [] = request.Unknown
lettered (letter ∷ rest) = numbered letter rest

-- the text of which a packet asks for a part, by how it begins
abbrev pub object_of : List ℕ → Option TargetObject
object_of packet =
    if has_prefix packet (codes "qXfer:features:read:target.xml:") then Some object.Description
    else if has_prefix packet (codes "qXfer:auxv:read::") then Some object.AuxiliaryVector
    else if has_prefix packet (codes "qXfer:siginfo:read::") then Some object.SignalInfo
    else None

-- how many bytes name the text
abbrev pub name_length : TargetObject → ℕ
name_length object.Description = 31
name_length object.AuxiliaryVector = 17
name_length object.SignalInfo = 20

-- the offset and the length of the part stand after that
abbrev pub part_or_lettered : List ℕ → Option TargetObject → GdbRequest
part_or_lettered packet None = lettered packet
part_or_lettered packet (Some text) = with_pair (request.Part text) (pair_of (drop (name_length text) packet))

abbrev pub numbered_or_part : List ℕ → GdbRequest
numbered_or_part packet = part_or_lettered packet (object_of packet)

abbrev pub named : List ℕ → Option GdbRequest
named packet = option_or (move_named packet) (option_or (query_named packet) (option_or (move_begun packet) (option_or (query_begun packet) (option_or (thread_begun packet) (change_begun packet)))))

abbrev pub request_by : Option GdbRequest → List ℕ → GdbRequest
request_by None packet = numbered_or_part packet
request_by (Some request) packet = request

abbrev pub request_of : List ℕ → GdbRequest
request_of packet = request_by (named packet) packet
