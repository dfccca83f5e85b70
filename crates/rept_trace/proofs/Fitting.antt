-- Fields fit their widths.
use Rattle.std.proofs.Common.{◌≡◌, ℕ, ◌+◌, ◌-◌, ◌*◌, ◌%◌, ◌^◌, ◌<◌, List, Bool, true, false, cond, sym, subst, arith}
use Rattle.rept_word.specs.Bits.{field}
use Rattle.rept_word.proofs.BitLemmas.{field_small}
use Rattle.rept_trace.specs.declared.packet.Packet.{Packet}
use Rattle.rept_trace.specs.declared.packet.Packet.TheVariants.{Start, Context, Support, Address, Map, MapAddress}
use Rattle.rept_trace.specs.declared.parameters.Parameters.{Parameters}
use Rattle.rept_trace.specs.Fits.{IsSendable, StampFits, FieldsFit}
use Rattle.rept_trace.specs.Grammar.{map_width, sent_address, after_stamp, stamp_of, IsStamp, IsPacket}

by_halves : (halves : Bool) (p : List ℕ) (i a : ℕ) → a ≡ 2 ^ cond halves 1 2 * field p i (32 - cond halves 1 2) → (a < 2 ^ 32) × (a % 2 ^ cond halves 1 2 ≡ 0)
by_halves true p i a e = let small = field_small p i 31 in (omega (arith, small), omega arith)
by_halves false p i a e = let small = field_small p i 30 in (omega (arith, small), omega arith)

sendable : (widths : Parameters) (p : List ℕ) (i a : ℕ) → a ≡ sent_address widths p i → IsSendable widths a
sendable widths p i a e = by_halves widths.halves p i a e

holds : (p : List ℕ) (i n v : ℕ) → v ≡ field p i n → v < 2 ^ n
holds p i n v e = let P : ℕ → Type 0 = λ m. m < 2 ^ n in subst P (sym e) (field_small p i n)

stamps : (widths : Parameters) (p : List ℕ) (i time context : ℕ) → IsStamp widths p i (stamp_of time context) → StampFits widths time context
stamps widths p i time context s = (holds p i widths.time_width time s.clock, holds p (i + widths.time_width) widths.context_width context s.process)

pub fits : (widths : Parameters) (p : List ℕ) (x : Packet) → IsPacket widths p x → FieldsFit widths x
fits widths p (Start branch privilege address time context) s = (holds p 5 2 privilege s.level, sendable widths p (after_stamp widths 7) address s.place, stamps widths p 7 time context s.stamp)
fits widths p (Context privilege time context) s = (holds p 4 2 privilege s.level, stamps widths p 6 time context s.stamp)
fits widths p (Support enabled status) s = tt
fits widths p (Address report) s = let f = s.fields in sendable widths p 2 report.difference f.address
fits widths p (Map map) s = holds p 7 31 map s.bits
fits widths p (MapAddress count map report) s =
    let f = s.fields in
    let c = holds p 2 5 count s.number in
    (s.some, omega (arith, c), holds p 7 (map_width count) map s.bits, sendable widths p (7 + map_width count) report.difference f.address)
