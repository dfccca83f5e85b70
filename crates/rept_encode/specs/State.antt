-- What the writer keeps: packets that lead to a row, and how they stand in the text. These
-- definitions speak of the code's own values.
use Rattle.std.specs.Prelude.{◌≡◌, ℕ, zero, suc, ◌+◌, ◌*◌, ◌%◌, ◌^◌, ◌<◌, ◌≤◌, List, [], ◌∷◌, ◌++◌, length, reverse, take, slice_get, Some, Ok, Bool, true, false, not, if◌then◌else◌}
use Rattle.std.specs.List.{list_any}
use Rattle.rept_path.specs.Code.{Code}
use Rattle.rept_isa.specs.declared.instr.Instr.{Instr}
use Rattle.rept_isa.specs.declared.row.StepRow.{StepRow}
use Rattle.rept_trace.specs.declared.packet.Report.{Report}
use Rattle.rept_trace.specs.declared.packet.Packet.{Packet}
use Rattle.rept_trace.specs.declared.packet.Packet.TheVariants.{Support, Address, Map, MapAddress}
use Rattle.rept_trace.specs.declared.packet.Qual.TheVariants.{EndedRep}
use Rattle.rept_trace.specs.Grammar.{untimed}
use Rattle.rept_steps.specs.Linked.{AreLinked}
use Rattle.rept_path.specs.Code.{look, is_short, flow_of, sum, jumps_far}
use Rattle.rept_path.specs.Packets.{low_bits, bits, reported, waiting}
use Rattle.rept_path.specs.Moves.{Place, place_along}
use Rattle.rept_path.specs.Route.{alone, Route, place, marked}
use Rattle.rept_path.specs.Rows.{CarryCode}
use Rattle.rept_path.specs.Trace.{starts, loses}
use Rattle.rept_encode.specs.declared.bits.PendingBranches.{PendingBranches}
use Rattle.rept_encode.specs.declared.sender.Sender.{Sender}
use Rattle.rept_encode.specs.Bits.{passed, branch_row, count, bit_list}
use Rattle.rept_encode.specs.Walkable.{alignment_by, calls, AreStraight, IsStepped, IsWalkable, IsJumpEnd}
use Rattle.rept_encode.specs.Encoded.{start_at, AreReporting}
use Rattle.rept_encode.specs.Written.{Appends, AreWritten}

-- The row is the step from a place, where so many bits are known.
pub record MovedRow (code : Code) (all : List Bool) (p : Place) (row : StepRow) : Type 0 where
  pub at : p.at ≡ row.at
  pub here : look code row.at ≡ Ok row.instr
  pub short : row.short ≡ is_short code row.at
  pub goes : Instr
  pub there : look code row.next ≡ Ok goes
  pub step : IsStepped code.halves row
  pub plain : calls (flow_of row.instr) ≡ false
  pub bit : branch_row row ≡ true → slice_get all p.branches ≡ Some (passed row)
  pub room : length p.rows < 65536

-- Each row is the step from the place after those before it, and none is an uninferable jump.
-- Newest first.
abbrev pub AreMoved : Code → List Bool → Place → List StepRow → Type 0
AreMoved code all past [] = Unit {0}
AreMoved code all past (row ∷ leg) = AreMoved code all past leg × MovedRow code all (place_along code past leg) row × (jumps_far (flow_of row.instr) ≡ false)

-- The packets, newest first, have this route, after which the trace runs and no stop is inferred.
pub record StandsOnRoute (code : Code) (packets : List Packet) (legs : List (List StepRow)) : Type 0 where
  pub route : Route code (alone 0) packets legs
  pub runs : waiting packets ≡ false
  pub plain : marked code packets legs ≡ false
  pub some : 0 < length packets

-- The packets lead to the place of a row, or so many rows before it: those rows are kept, and wait
-- for further bits. The rows are all that were executed before it. All lists are newest first, but
-- for the bits.
pub record Coded (code : Code) (packets : List Packet) (wait : List Bool) (kept : List StepRow) (here : StepRow) (rows : List StepRow) : Type 0 where
  pub legs : List (List StepRow)
  pub stands : StandsOnRoute code packets legs
  pub seen : rows ≡ kept ++ (place code packets legs).rows
  pub moves : AreMoved code (bits code packets ++ wait) (place code packets legs) kept
  pub at : (place_along code (place code packets legs) kept).at ≡ here.at
  pub size : length (bits code packets ++ wait) ≡ (place_along code (place code packets legs) kept).branches + count here
  pub bit : branch_row here ≡ true → slice_get (bits code packets ++ wait) (place_along code (place code packets legs) kept).branches ≡ Some (passed here)

-- an address packet, with a map where there are bits to send
abbrev pub report_packet : ℕ → ℕ → Report → Packet
report_packet zero map report = Address report
report_packet (suc count) map report = MapAddress (suc count) map report

-- packets that begin a window
pub record Begun (packets : List Packet) : Type 0 where
  pub start : starts (slice_get packets 0) ≡ true
  pub whole : list_any loses packets ≡ false

-- a report that either notifies or says the discontinuity
abbrev pub said : ℕ → Bool → Report
said difference notify = record { difference = difference; notify = notify; updiscon = not notify; irreport = false }

-- At most so many bits wait.
pub record AreBits (b : PendingBranches) (most : ℕ) : Type 0 where
  pub few : b.count ≤ most
  pub fits : b.map < 2 ^ b.count

abbrev pub waiting_bits : PendingBranches → List Bool
waiting_bits b = low_bits b.count b.map

-- rows, and whether their code may be compressed
pub record SentRows : Type 0 where
  pub halves : Bool
  pub rows : List StepRow

abbrev pub sent_rows : Bool → List StepRow → SentRows
sent_rows halves rows = record { halves = halves; rows = rows }

-- The text is the packets, newest first, but for the first one, the start packet at the first row.
-- Where no row before this number is a call, each of them tells branches or an address.
pub record IsTextOfPackets (run : SentRows) (i : ℕ) (text : List ℕ) (packets : List Packet) : Type 0 where
  pub first : StepRow
  pub begins : slice_get run.rows 0 ≡ Some first
  pub more : List Packet
  pub order : reverse packets ≡ start_at first ∷ more
  pub written : AreWritten (untimed run.halves) text more
  pub told : AreStraight run.rows i → AreReporting more

-- The code may be compressed as that of the rows, and has their instructions.
pub record HasRows (run : SentRows) (code : Code) : Type 0 where
  pub kind : code.halves ≡ run.halves
  pub placed : CarryCode code run.rows

-- The packets lead to row i, and from so many rows before it, in each code that has the rows'
-- instructions.
abbrev pub LeadTo : SentRows → List Packet → PendingBranches → List StepRow → ℕ → Type 0
LeadTo run packets b kept i = (code : Code) (here : StepRow) → HasRows run code → slice_get run.rows i ≡ Some here → Coded code packets (waiting_bits b) kept here (reverse (take i run.rows))

-- What was sent where row i comes next. The walk that reads it stands at row `walked`. Row `base`
-- is the last one up to row i that is a branch, or that at which the walk stands; from there on no
-- row is a call or an uninferable jump.
pub record Sent (run : SentRows) (i : ℕ) (s : Sender) : Type 0 where
  pub packets : List Packet
  pub text : IsTextOfPackets run i s.text packets
  pub few : length s.text ≤ 30 + 22 * i
  pub begun : Begun (reverse packets)
  pub last : reported packets ≡ s.reported
  pub even : s.reported % alignment_by run.halves ≡ 0
  pub bits : AreBits s.bits 30
  pub kept : List StepRow
  pub lead : LeadTo run packets s.bits kept i
  pub held : List StepRow
  pub base : LeadTo run packets s.bits held s.base
  pub size : length held + s.walked ≡ s.base
  pub span : length kept + s.walked ≡ i
  pub below : s.base ≤ i
  pub none : s.base ≤ s.walked → s.bits.count ≡ 0
  pub branch : (row : StepRow) → s.walked < s.base → slice_get run.rows s.base ≡ Some row → branch_row row ≡ true
  pub calm : (j : ℕ) (row : StepRow) → s.base ≤ j → j < i → slice_get run.rows j ≡ Some row → (calls (flow_of row.instr) ≡ false) × (jumps_far (flow_of row.instr) ≡ false)
  pub call : (row : StepRow) → slice_get run.rows i ≡ Some row → calls (flow_of row.instr) ≡ true → (kept ≡ []) × (s.bits.count ≡ 0)

-- No bits wait, and the walk stands at row n, whose address was reported.
pub record StandsAt (s : Sender) (a n : ℕ) : Type 0 where
  pub reported : s.reported ≡ a
  pub count : s.bits.count ≡ 0
  pub map : s.bits.map ≡ 0
  pub walked : s.walked ≡ n
  pub base : s.base ≡ n

-- Nothing was written, and the walk stands at a row.
pub record IsBegunAt (s : Sender) (first : StepRow) : Type 0 where
  pub text : s.text ≡ []
  pub stands : StandsAt s first.at 0

-- The report of an address was added, with these bits, after so much text and so an address.
pub record IsReported (halves : Bool) (old : Sender) (b : PendingBranches) (new : Sender) (to : ℕ) (notify : Bool) (n : ℕ) : Type 0 where
  pub difference : ℕ
  pub there : sum old.reported difference ≡ to
  pub text : Appends halves old.text new.text (report_packet b.count b.map (said difference notify))
  pub stands : StandsAt new to n

-- The report of a row's address was added, with the bits that wait and its own.
pub record IsReportSent (halves : Bool) (old new : Sender) (next : StepRow) (notify : Bool) (n : ℕ) : Type 0 where
  pub b : PendingBranches
  pub list : waiting_bits b ≡ waiting_bits old.bits ++ bit_list next
  pub report : IsReported halves old b new next.at notify n

-- The trace was ended, and begun anew at a row.
pub record IsRestarted (halves : Bool) (old new : Sender) (next : StepRow) (n : ℕ) : Type 0 where
  pub middle : List ℕ
  pub end : Appends halves old.text middle (Support false EndedRep)
  pub start : Appends halves middle new.text (start_at next)
  pub stands : StandsAt new next.at n

-- A row was kept: its bit waits, or goes out with a map that it fills.
pub record IsWaiting (old new : Sender) (next : StepRow) (n : ℕ) : Type 0 where
  pub text : new.text ≡ old.text
  pub reported : new.reported ≡ old.reported
  pub walked : new.walked ≡ old.walked
  pub bits : AreBits new.bits 30
  pub list : waiting_bits new.bits ≡ waiting_bits old.bits ++ bit_list next
  pub base : new.base ≡ (if branch_row next then n else old.base)

pub record IsMapped (halves : Bool) (old new : Sender) (next : StepRow) (n : ℕ) : Type 0 where
  pub map : ℕ
  pub branch : branch_row next ≡ true
  pub list : low_bits 31 map ≡ waiting_bits old.bits ++ bit_list next
  pub text : Appends halves old.text new.text (Map map)
  pub stands : StandsAt new old.reported n

-- The walk stands at row n from now on.
pub record StandsAtRow (old new : Sender) (a n : ℕ) : Type 0 where
  pub text : new.text ≡ old.text
  pub stands : StandsAt new a n

-- The same where the walk stands at row n, no bits wait and the text has at most so many bytes.
pub record Stood (run : SentRows) (n : ℕ) (s : Sender) (most : ℕ) : Type 0 where
  pub packets : List Packet
  pub text : IsTextOfPackets run n s.text packets
  pub few : length s.text ≤ most
  pub begun : Begun (reverse packets)
  pub last : reported packets ≡ s.reported
  pub even : s.reported % alignment_by run.halves ≡ 0
  pub count : s.bits.count ≡ 0
  pub map : s.bits.map ≡ 0
  pub walked : s.walked ≡ n
  pub base : s.base ≡ n
  pub lead : (code : Code) (here : StepRow) → HasRows run code → slice_get run.rows n ≡ Some here → Coded code packets [] [] here (reverse (take n run.rows))

-- Rows that are sent: steps that are linked, of which no call directly follows an uninferable jump.
pub record AreSendable (run : SentRows) : Type 0 where
  pub walkable : IsWalkable run.halves run.rows
  pub linked : AreLinked run.rows
  pub few : length run.rows ≤ 65536
  pub free : (i : ℕ) → IsJumpEnd run.rows i → ⊥

-- The row is no call and no uninferable jump.
abbrev pub IsNear : List StepRow → ℕ → Type 0
IsNear rows i = (row : StepRow) → slice_get rows i ≡ Some row → (calls (flow_of row.instr) ≡ false) × (jumps_far (flow_of row.instr) ≡ false)

-- the most bytes of a text that has come to row i alone, after the last branch
abbrev pub tail_bytes : List StepRow → ℕ → ℕ
tail_bytes rows i = 41 + 22 * length rows + 11 * i
