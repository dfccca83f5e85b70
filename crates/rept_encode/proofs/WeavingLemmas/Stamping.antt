-- The payloads of packets with a time and a context spell them.
use Rattle.std.proofs.Common.{◌≡◌, ℕ, zero, suc, ◌+◌, ◌*◌, ◌/◌, ◌%◌, ◌^◌, ◌<◌, ◌≤◌, ◌==◌, List, [], ◌∷◌, ◌++◌, take, length, get_or, cond, Bool, true, false, refl, sym, ◌∙◌, ap, arith}
use Rattle.std.specs.Int.{w128, to_le_bytes}
use Rattle.std.proofs.lemmas.List.{append-nil}
use Rattle.rept_trace.specs.declared.parameters.Parameters.{Parameters}
use Rattle.rept_trace.specs.declared.packet.Packet.{Packet}
use Rattle.rept_trace.specs.declared.packet.Packet.TheVariants.{Start, Context}
use Rattle.rept_trace.specs.Grammar.{address_lsb, address_width, timed, IsPacket}
use Rattle.rept_encode.specs.Walkable.{alignment_by}
use Rattle.rept_encode.specs.Written.{bit, high, sent, past_address}
use Rattle.rept_encode.specs.declared.weaving.stamped.Start.{Start as Told}
use Rattle.rept_encode.specs.Weaving.Stamped.{wide, stamped, start_number, start_bytes, context_number, AddsPackets}
use Rattle.rept_encode.proofs.WeavingLemmas.Bytes.{AreBytes, field_at, bit_at}

start_byte : (low high j : ℕ) → low < 2 ^ 128 → high < 256 → j < 17 → get_or (to_le_bytes w128 low ++ high ∷ []) j 0 ≡ (low + 2 ^ 128 * high) / 2 ^ (8 * j) % 256
start_byte low high zero small byte lt = omega arith
start_byte low high (suc zero) small byte lt = omega arith
start_byte low high (suc (suc zero)) small byte lt = omega arith
start_byte low high (suc (suc (suc zero))) small byte lt = omega arith
start_byte low high (suc (suc (suc (suc zero)))) small byte lt = omega arith
start_byte low high (suc (suc (suc (suc (suc zero))))) small byte lt = omega arith
start_byte low high (suc (suc (suc (suc (suc (suc zero)))))) small byte lt = omega arith
start_byte low high (suc (suc (suc (suc (suc (suc (suc zero))))))) small byte lt = omega arith
start_byte low high (suc (suc (suc (suc (suc (suc (suc (suc zero)))))))) small byte lt = omega arith
start_byte low high (suc (suc (suc (suc (suc (suc (suc (suc (suc zero))))))))) small byte lt = omega arith
start_byte low high (suc (suc (suc (suc (suc (suc (suc (suc (suc (suc zero)))))))))) small byte lt = omega arith
start_byte low high (suc (suc (suc (suc (suc (suc (suc (suc (suc (suc (suc zero))))))))))) small byte lt = omega arith
start_byte low high (suc (suc (suc (suc (suc (suc (suc (suc (suc (suc (suc (suc zero)))))))))))) small byte lt = omega arith
start_byte low high (suc (suc (suc (suc (suc (suc (suc (suc (suc (suc (suc (suc (suc zero))))))))))))) small byte lt = omega arith
start_byte low high (suc (suc (suc (suc (suc (suc (suc (suc (suc (suc (suc (suc (suc (suc zero)))))))))))))) small byte lt = omega arith
start_byte low high (suc (suc (suc (suc (suc (suc (suc (suc (suc (suc (suc (suc (suc (suc (suc zero))))))))))))))) small byte lt = omega arith
start_byte low high (suc (suc (suc (suc (suc (suc (suc (suc (suc (suc (suc (suc (suc (suc (suc (suc zero)))))))))))))))) small byte lt = omega arith
start_byte low high (suc (suc (suc (suc (suc (suc (suc (suc (suc (suc (suc (suc (suc (suc (suc (suc (suc j))))))))))))))))) small byte lt = absurd (omega arith)

context_byte : (n j : ℕ) → j < 13 → get_or (take 13 (to_le_bytes w128 n)) j 0 ≡ n / 2 ^ (8 * j) % 256
context_byte n zero lt = (let e : n / 1 ≡ n = omega arith in rw e refl)
context_byte n (suc zero) lt = refl
context_byte n (suc (suc zero)) lt = refl
context_byte n (suc (suc (suc zero))) lt = refl
context_byte n (suc (suc (suc (suc zero)))) lt = refl
context_byte n (suc (suc (suc (suc (suc zero))))) lt = refl
context_byte n (suc (suc (suc (suc (suc (suc zero)))))) lt = refl
context_byte n (suc (suc (suc (suc (suc (suc (suc zero))))))) lt = refl
context_byte n (suc (suc (suc (suc (suc (suc (suc (suc zero)))))))) lt = refl
context_byte n (suc (suc (suc (suc (suc (suc (suc (suc (suc zero))))))))) lt = refl
context_byte n (suc (suc (suc (suc (suc (suc (suc (suc (suc (suc zero)))))))))) lt = refl
context_byte n (suc (suc (suc (suc (suc (suc (suc (suc (suc (suc (suc zero))))))))))) lt = refl
context_byte n (suc (suc (suc (suc (suc (suc (suc (suc (suc (suc (suc (suc zero)))))))))))) lt = refl
context_byte n (suc (suc (suc (suc (suc (suc (suc (suc (suc (suc (suc (suc (suc j))))))))))))) lt = absurd (omega arith)

bit_small : (b : Bool) → bit b < 2
bit_small true = omega arith
bit_small false = omega arith

odd_bit : (b : Bool) (x : ℕ) → ((bit b + 2 * x) % 2 == 1) ≡ b
odd_bit true x = let e : (1 + 2 * x) % 2 ≡ 1 = omega arith in rw e refl
odd_bit false x = let e : (0 + 2 * x) % 2 ≡ 0 = omega arith in rw e refl

-- an address is the lower part of a wide one
small_sent : (halves : Bool) (a : ℕ) → a < 2 ^ 32 → sent halves a < 2 ^ address_width (timed halves)
small_sent true a lt = omega arith
small_sent false a lt = omega arith

low_part : (halves : Bool) (d x : ℕ) → d < 2 ^ address_width (timed halves) → (d + past_address halves x) % 2 ^ address_width (timed halves) ≡ d
low_part true d x lt = omega arith
low_part false d x lt = omega arith

whole_address : (halves : Bool) (a : ℕ) → a % alignment_by halves ≡ 0 → a ≡ 2 ^ address_lsb (timed halves) * sent halves a
whole_address true a h = omega arith
whole_address false a h = omega arith

wide_of : (halves b : Bool) (d : ℕ) → d < 2 ^ address_width (timed halves) → d + past_address halves (cond b (cond halves 3 7) 0) < 2 ^ 33
wide_of true true d lt = omega arith
wide_of true false d lt = omega arith
wide_of false true d lt = omega arith
wide_of false false d lt = omega arith

wide_small : (halves : Bool) (a : ℕ) → a < 2 ^ 32 → wide halves a < 2 ^ 33
wide_small halves a lt = wide_of halves (high a) (sent halves a) (small_sent halves a lt)

wide_low : (halves : Bool) (a : ℕ) → a < 2 ^ 32 → a % alignment_by halves ≡ 0 → a ≡ 2 ^ address_lsb (timed halves) * (wide halves a % 2 ^ address_width (timed halves))
wide_low halves a lt even = whole_address halves a even ∙ sym (ap (λ (v : ℕ). 2 ^ address_lsb (timed halves) * v) (low_part halves (sent halves a) (cond (high a) (cond halves 3 7) 0) (small_sent halves a lt)))

few_bits : (halves : Bool) → address_width (timed halves) ≤ 31
few_bits true = omega arith
few_bits false = omega arith

-- the parts of the number of a start packet
module _ (b time context w : ℕ) (one : b < 2) (soon : time < 2 ^ 64) (few : context < 2 ^ 32) where
  abbrev number : ℕ
  number = 3 + 16 * b + 128 * stamped time context w

  part_0 : number / 2 ^ 0 ≡ 3 + 4 * (4 * b + 32 * stamped time context w)
  part_0 = omega arith

  part_2 : number / 2 ^ 2 ≡ 4 * (b + 8 * stamped time context w)
  part_2 = omega arith

  part_4 : number / 2 ^ 4 ≡ b + 2 * (4 * stamped time context w)
  part_4 = omega arith

  part_5 : number / 2 ^ 5 ≡ 4 * stamped time context w
  part_5 = omega arith

  part_7 : number / 2 ^ 7 ≡ time + 2 ^ 64 * (context + 2 ^ 32 * w)
  part_7 = omega arith

  part_71 : number / 2 ^ 71 ≡ context + 2 ^ 32 * w
  part_71 = omega arith

  part_103 : number / 2 ^ 103 ≡ w
  part_103 = omega arith

  whole : number ≡ (3 + 16 * b + 128 * stamped time context (w % 2 ^ 25)) + 2 ^ 128 * (w / 2 ^ 25)
  whole = omega arith

  low_small : w < 2 ^ 25 → number < 2 ^ 128
  low_small thin = omega arith

-- the first bits of the number are those of a start packet
module _ (payload : List ℕ) (halves : Bool) (s : Told) (even : s.address % alignment_by halves ≡ 0) (small : s.address < 2 ^ 32) (soon : s.time < 2 ^ 64) (few : s.context < 2 ^ 32) (h : AreBytes payload (start_number s.branch (stamped s.time s.context (wide halves s.address))) 17) where
  abbrev n : ℕ
  n = start_number s.branch (stamped s.time s.context (wide halves s.address))

  width_few : address_width (timed halves) ≤ 31
  width_few = few_bits halves

  start_packet : IsPacket (timed halves) payload (Start s.branch 0 s.address s.time s.context)
  start_packet =
      let b : ℕ = bit s.branch in
      let w : ℕ = wide halves s.address in
      let one = bit_small s.branch in
      record {
        format = field_at payload n 17 h 0 _ 2 (part_0 (bit s.branch) s.time s.context (wide halves s.address) one soon few) (omega arith) ∙ omega arith;
        subformat = field_at payload n 17 h 2 _ 2 (part_2 (bit s.branch) s.time s.context (wide halves s.address) one soon few) (omega arith) ∙ omega arith;
        branch_bit = sym (bit_at payload n 17 h 4 _ (part_4 (bit s.branch) s.time s.context (wide halves s.address) one soon few) (omega arith) ∙ odd_bit s.branch (4 * stamped s.time s.context (wide halves s.address)));
        level = sym (field_at payload n 17 h 5 _ 2 (part_5 (bit s.branch) s.time s.context (wide halves s.address) one soon few) (omega arith) ∙ omega arith);
        stamp = record {
          clock = sym (field_at payload n 17 h 7 _ 64 (part_7 (bit s.branch) s.time s.context (wide halves s.address) one soon few) (omega arith) ∙ omega arith);
          process = sym (field_at payload n 17 h 71 _ 32 (part_71 (bit s.branch) s.time s.context (wide halves s.address) one soon few) (omega arith) ∙ omega arith);
        };
        place = wide_low halves s.address small even ∙ sym (ap (λ (v : ℕ). 2 ^ address_lsb (timed halves) * v) (field_at payload n 17 h 103 _ (address_width (timed halves)) (part_103 (bit s.branch) s.time s.context (wide halves s.address) one soon few) (let k = width_few in omega arith)));
      }

pub start_spells : (halves : Bool) (s : Told) → s.address < 2 ^ 32 → s.time < 2 ^ 64 → s.context < 2 ^ 32 → s.address % alignment_by halves ≡ 0 → IsPacket (timed halves) (start_bytes halves s) (Start s.branch 0 s.address s.time s.context)
start_spells halves s small soon few even =
    let w : ℕ = wide halves s.address in
    let low : ℕ = start_number s.branch (stamped s.time s.context (wide halves s.address % 2 ^ 25)) in
    let b = bit_small s.branch in
    let thin = wide_small halves s.address small in
    let sum : start_number s.branch (stamped s.time s.context (wide halves s.address)) ≡ start_number s.branch (stamped s.time s.context (wide halves s.address % 2 ^ 25)) + 2 ^ 128 * (wide halves s.address / 2 ^ 25) = whole (bit s.branch) s.time s.context (wide halves s.address) b soon few in
    start_packet (start_bytes halves s) halves s even small soon few (record {
      count = refl;
      byte = λ j lt. start_byte (start_number s.branch (stamped s.time s.context (wide halves s.address % 2 ^ 25))) (wide halves s.address / 2 ^ 25) j (low_small (bit s.branch) s.time s.context (wide halves s.address % 2 ^ 25) b soon few (omega arith)) (omega arith) lt ∙ ap (λ (x : ℕ). x / 2 ^ (8 * j) % 256) (sym sum);
    })

-- the parts of the number of a context packet
module _ (time context : ℕ) (soon : time < 2 ^ 64) (few : context < 2 ^ 32) where
  abbrev told : ℕ
  told = context_number (stamped time context 0)

  told_0 : told / 2 ^ 0 ≡ 3 + 4 * (2 + 16 * stamped time context 0)
  told_0 = omega arith

  told_2 : told / 2 ^ 2 ≡ 2 + 4 * (4 * stamped time context 0)
  told_2 = omega arith

  told_4 : told / 2 ^ 4 ≡ 4 * stamped time context 0
  told_4 = omega arith

  told_6 : told / 2 ^ 6 ≡ time + 2 ^ 64 * context
  told_6 = omega arith

  told_70 : told / 2 ^ 70 ≡ context
  told_70 = omega arith

  bytes_told : AreBytes (take 13 (to_le_bytes w128 told)) told 13
  bytes_told = record { count = refl; byte = context_byte told }

  pub context_spells : (halves : Bool) → IsPacket (timed halves) (take 13 (to_le_bytes w128 (context_number (stamped time context 0)))) (Context 0 time context)
  context_spells halves = record {
    format = field_at (take 13 (to_le_bytes w128 told)) told 13 bytes_told 0 _ 2 told_0 (omega arith) ∙ omega arith;
    subformat = field_at (take 13 (to_le_bytes w128 told)) told 13 bytes_told 2 _ 2 told_2 (omega arith) ∙ omega arith;
    level = sym (field_at (take 13 (to_le_bytes w128 told)) told 13 bytes_told 4 _ 2 told_4 (omega arith) ∙ omega arith);
    stamp = record {
      clock = sym (field_at (take 13 (to_le_bytes w128 told)) told 13 bytes_told 6 _ 64 told_6 (omega arith) ∙ omega arith);
      process = sym (field_at (take 13 (to_le_bytes w128 told)) told 13 bytes_told 70 _ 32 told_70 (omega arith) ∙ omega arith);
    };
  }

-- One packet was added.
pub adds_one : (old new payload : List ℕ) → new ≡ old ++ length payload ∷ payload → 0 < length payload → (w : Parameters) (packet : Packet) → IsPacket w payload packet → AddsPackets w old new (packet ∷ [])
adds_one old new payload is some w packet spells = record { bytes = length payload ∷ payload; appended = is; written = (payload, [], ap (λ (xs : List ℕ). length payload ∷ xs) (sym (append-nil payload)), some, spells, refl) }
