-- The bits of a payload that is the bytes of a number.
use Rattle.std.proofs.Common.{◌≡◌, ℕ, zero, suc, ◌+◌, ◌-◌, ◌*◌, ◌/◌, ◌%◌, ◌^◌, ◌<◌, ◌≤◌, ◌==◌, nat_le, min, List, get_or, Bool, true, false, not, cond, refl, sym, ◌∙◌, ap, subst, arith, add-one}
use Rattle.std.proofs.Math.Nat.{add-mul-mod_self_left, mod-eq_of_lt}
use Rattle.std.proofs.lemmas.Nat.{mod-pow-add, shr-shr, div-mul-add}
use Rattle.std.proofs.lemmas.Bool.Decides.{nat_tests}
use Rattle.rept_word.specs.Bits.{bit_of, field}
use Rattle.rept_word.proofs.BitLemmas.{field_suc, field_zero}
use Rattle.rept_trace.specs.declared.packet.Report.{Report}
use Rattle.rept_trace.specs.declared.packet.Qual.{Qual}
use Rattle.rept_trace.specs.declared.packet.Qual.TheVariants.{NoChange, EndedRep, TraceLost, EndedNtr}
use Rattle.rept_trace.specs.declared.packet.Packet.{Packet}
use Rattle.rept_trace.specs.declared.packet.Packet.TheVariants.{Start, Context, Support, Address, Map, MapAddress}
use Rattle.rept_trace.specs.Fits.{IsSendable, StampFits, FieldsFit}
use Rattle.rept_trace.specs.Grammar.{address_lsb, address_width, changes, map_width, qual_number, untimed, stamp_of, IsReportAt, IsStamp, IsPacket}
use Rattle.rept_encode.specs.Written.{bit, copies, differ, high, sent, past_address, notify_bit, updiscon_bit, report_number, number_of, ten_bytes, IsPacketSilent}

byte_there : (n j : ℕ) → j < 10 → get_or (ten_bytes n) j 0 ≡ n / 2 ^ (8 * j) % 256
byte_there n zero lt = let e : n / 1 ≡ n = omega arith in rw e refl
byte_there n (suc zero) lt = refl
byte_there n (suc (suc zero)) lt = refl
byte_there n (suc (suc (suc zero))) lt = refl
byte_there n (suc (suc (suc (suc zero)))) lt = refl
byte_there n (suc (suc (suc (suc (suc zero))))) lt = refl
byte_there n (suc (suc (suc (suc (suc (suc zero)))))) lt = refl
byte_there n (suc (suc (suc (suc (suc (suc (suc zero))))))) lt = refl
byte_there n (suc (suc (suc (suc (suc (suc (suc (suc zero)))))))) lt = refl
byte_there n (suc (suc (suc (suc (suc (suc (suc (suc (suc zero))))))))) lt = refl
byte_there n (suc (suc (suc (suc (suc (suc (suc (suc (suc (suc j)))))))))) lt = absurd (omega arith)

low_bit : (x i : ℕ) → i < 8 → x % 256 / 2 ^ i % 2 ≡ x / 2 ^ i % 2
low_bit x zero lt = omega arith
low_bit x (suc zero) lt = omega arith
low_bit x (suc (suc zero)) lt = omega arith
low_bit x (suc (suc (suc zero))) lt = omega arith
low_bit x (suc (suc (suc (suc zero)))) lt = omega arith
low_bit x (suc (suc (suc (suc (suc zero))))) lt = omega arith
low_bit x (suc (suc (suc (suc (suc (suc zero)))))) lt = omega arith
low_bit x (suc (suc (suc (suc (suc (suc (suc zero))))))) lt = omega arith
low_bit x (suc (suc (suc (suc (suc (suc (suc (suc i)))))))) lt = absurd (omega arith)

pub bit_is : (n i : ℕ) → i < 80 → bit_of (ten_bytes n) i ≡ (n / 2 ^ i % 2 == 1)
unfolding bit_of
bit_is n i lt =
    let m : min i (8 * 10 - 1) ≡ i = omega arith in
    let b : get_or (ten_bytes n) (i / 8) 0 ≡ n / 2 ^ (8 * (i / 8)) % 256 = byte_there n (i / 8) (omega arith) in
    let l : n / 2 ^ (8 * (i / 8)) % 256 / 2 ^ (i % 8) % 2 ≡ n / 2 ^ (8 * (i / 8)) / 2 ^ (i % 8) % 2 = low_bit (n / 2 ^ (8 * (i / 8))) (i % 8) (omega arith) in
    let s : n / 2 ^ (8 * (i / 8)) / 2 ^ (i % 8) ≡ n / 2 ^ (8 * (i / 8) + i % 8) = shr-shr n (8 * (i / 8)) (i % 8) in
    let e : 8 * (i / 8) + i % 8 ≡ i = omega arith in
    let whole : get_or (ten_bytes n) (i / 8) 0 / 2 ^ (i % 8) % 2 ≡ n / 2 ^ i % 2 = ap (λ (x : ℕ). x / 2 ^ (i % 8) % 2) b ∙ l ∙ ap (λ (x : ℕ). x % 2) s ∙ ap (λ (k : ℕ). n / 2 ^ k % 2) e in
    subst (λ (k : ℕ). (get_or (ten_bytes n) (k / 8) 0 / 2 ^ (k % 8) % 2 == 1) ≡ (n / 2 ^ i % 2 == 1)) (sym m) (ap (λ (x : ℕ). x == 1) whole)

test_bit : (x : ℕ) → cond (x % 2 == 1) 1 0 ≡ x % 2
test_bit x = grind (arith, nat_tests)

pub field_is : (number i n : ℕ) → i + n ≤ 80 → field (ten_bytes number) i n ≡ number / 2 ^ i % 2 ^ n
field_is number i zero le = field_zero (ten_bytes number) i ∙ omega arith
field_is number i (suc n) le =
    let b : bit_of (ten_bytes number) i ≡ (number / 2 ^ i % 2 == 1) = bit_is number i (omega arith) in
    let r : field (ten_bytes number) (i + 1) n ≡ number / 2 ^ (i + 1) % 2 ^ n = field_is number (i + 1) n (omega arith) in
    let half : number / 2 ^ (i + 1) ≡ number / 2 ^ i / 2 = sym (shr-shr number i 1) in
    let m : number / 2 ^ i % 2 ^ (n + 1) ≡ (number / 2 ^ i / 2 % 2 ^ n) * 2 + number / 2 ^ i % 2 = mod-pow-add (number / 2 ^ i) n 1 in
    let t : cond (bit_of (ten_bytes number) i) 1 0 ≡ number / 2 ^ i % 2 = rw b (test_bit (number / 2 ^ i)) in
    let f : field (ten_bytes number) (i + 1) n ≡ number / 2 ^ i / 2 % 2 ^ n = rw (← half) r in
    let goal : field (ten_bytes number) i (suc n) ≡ number / 2 ^ i % 2 ^ (n + 1) = field_suc (ten_bytes number) i n ∙ (rw (t, f) (omega (arith, m))) in
    subst (λ (k : ℕ). field (ten_bytes number) i (suc n) ≡ number / 2 ^ i % 2 ^ k) (add-one n) goal

-- a part of the number
module _ (number i y : ℕ) (part : number / 2 ^ i ≡ y) where
  field_at : (n : ℕ) → i + n ≤ 80 → field (ten_bytes number) i n ≡ y % 2 ^ n
  field_at n le = field_is number i n le ∙ ap (λ (x : ℕ). x % 2 ^ n) part

  bit_at : i < 80 → bit_of (ten_bytes number) i ≡ (y % 2 == 1)
  bit_at lt = bit_is number i lt ∙ ap (λ (x : ℕ). x % 2 == 1) part

  -- what follows a lower part
  later : (n z j : ℕ) → y / 2 ^ n ≡ z → i + n ≡ j → number / 2 ^ j ≡ z
  later n z j e s =
      let a : number / 2 ^ i / 2 ^ n ≡ number / 2 ^ (i + n) = shr-shr number i n in
      ap (λ (k : ℕ). number / 2 ^ k) (sym s) ∙ sym a ∙ ap (λ (x : ℕ). x / 2 ^ n) part ∙ e

bit_small : (b : Bool) → bit b < 2
bit_small true = omega arith
bit_small false = omega arith

odd_bit : (b : Bool) (x : ℕ) → ((bit b + 2 * x) % 2 == 1) ≡ b
odd_bit true x = let e : (1 + 2 * x) % 2 ≡ 1 = omega arith in rw e refl
odd_bit false x = let e : (0 + 2 * x) % 2 ≡ 0 = omega arith in rw e refl

copies_odd : (b : Bool) → (copies b % 2 == 1) ≡ b
copies_odd true = refl
copies_odd false = refl

copies_half : (b : Bool) → (copies b / 2 % 2 == 1) ≡ b
copies_half true = refl
copies_half false = refl

-- an address that is sent, and what stands past it
abbrev width : Bool → ℕ
width halves = address_width (untimed halves)

width_is : (halves : Bool) → (1 ≤ width halves) × (width halves ≤ 31)
width_is true = (omega arith, omega arith)
width_is false = (omega arith, omega arith)

small_sent : (halves : Bool) (a : ℕ) → a < 2 ^ 32 → sent halves a < 2 ^ width halves
small_sent true a lt = omega arith
small_sent false a lt = omega arith

low_part : (halves : Bool) (d x : ℕ) → d < 2 ^ width halves → (d + past_address halves x) % 2 ^ width halves ≡ d
low_part true d x lt = omega arith
low_part false d x lt = omega arith

past_part : (halves : Bool) (d x : ℕ) → d < 2 ^ width halves → (d + past_address halves x) / 2 ^ width halves ≡ x
past_part true d x lt = omega arith
past_part false d x lt = omega arith

top_part : (halves : Bool) (d x : ℕ) → (d + past_address halves x) / 2 ^ (width halves - 1) ≡ d / 2 ^ (width halves - 1) + 2 * x
top_part true d x = omega arith
top_part false d x = omega arith

high_bit : (halves : Bool) (a x : ℕ) → a < 2 ^ 32 → ((sent halves a / 2 ^ (width halves - 1) + 2 * x) % 2 == 1) ≡ high a
high_bit true a x lt = grind (arith, nat_tests)
high_bit false a x lt = grind (arith, nat_tests)

whole_address : (halves : Bool) (a : ℕ) → a % 2 ^ address_lsb (untimed halves) ≡ 0 → a ≡ 2 ^ address_lsb (untimed halves) * sent halves a
whole_address true a h = omega arith
whole_address false a h = omega arith

differ_of : (a b : Bool) → a ≡ cond (differ a b) (not b) b
differ_of true true = refl
differ_of true false = refl
differ_of false true = refl
differ_of false false = refl

same_bits : (a : Bool) → false ≡ cond a (not a) a
same_bits true = refl
same_bits false = refl

change_of : (payload : List ℕ) (i : ℕ) (a b : Bool) → bit_of payload i ≡ a → bit_of payload (i - 1) ≡ b → changes payload i ≡ cond a (not b) b
change_of payload i a b x y = rw (x, y) refl

-- the number goes on with a report from bit i on
reports : (halves : Bool) (number i : ℕ) (r : Report) → number / 2 ^ i ≡ report_number halves r → i + 34 ≤ 80 → IsSendable (untimed halves) r.difference → r.irreport ≡ false → IsReportAt (untimed halves) (ten_bytes number) i r
reports halves number i r part le word silent =
    let w : ℕ = width halves in
    let bounds = width_is halves in
    let some = bounds.0 in
    let few = bounds.1 in
    let d : ℕ = sent halves r.difference in
    let small : sent halves r.difference < 2 ^ width halves = small_sent halves r.difference word.0 in
    let x : ℕ = bit (notify_bit r) + 2 * copies (updiscon_bit r) in
    let bound = bit_small (notify_bit r) in
    let top = later number i (report_number halves r) part (width halves - 1) (sent halves r.difference / 2 ^ (width halves - 1) + 2 * (bit (notify_bit r) + 2 * copies (updiscon_bit r))) (i + (width halves - 1)) (top_part halves (sent halves r.difference) (bit (notify_bit r) + 2 * copies (updiscon_bit r))) refl in
    let past = later number i (report_number halves r) part (width halves) (bit (notify_bit r) + 2 * copies (updiscon_bit r)) (i + width halves) (past_part halves (sent halves r.difference) (bit (notify_bit r) + 2 * copies (updiscon_bit r)) small) refl in
    let one = later number (i + width halves) (bit (notify_bit r) + 2 * copies (updiscon_bit r)) past 1 (copies (updiscon_bit r)) (i + (width halves + 1)) (omega arith) (omega arith) in
    let two = later number (i + width halves) (bit (notify_bit r) + 2 * copies (updiscon_bit r)) past 2 (copies (updiscon_bit r) / 2) (i + (width halves + 2)) (omega arith) (omega arith) in
    let b0 : bit_of (ten_bytes number) (i + (width halves - 1)) ≡ high r.difference = bit_at number (i + (width halves - 1)) _ top (omega arith) ∙ high_bit halves r.difference (bit (notify_bit r) + 2 * copies (updiscon_bit r)) word.0 in
    let b1 : bit_of (ten_bytes number) (i + width halves) ≡ notify_bit r = bit_at number (i + width halves) _ past (omega arith) ∙ odd_bit (notify_bit r) (copies (updiscon_bit r)) in
    let b2 : bit_of (ten_bytes number) (i + (width halves + 1)) ≡ updiscon_bit r = bit_at number (i + (width halves + 1)) _ one (omega arith) ∙ copies_odd (updiscon_bit r) in
    let b3 : bit_of (ten_bytes number) (i + (width halves + 2)) ≡ updiscon_bit r = bit_at number (i + (width halves + 2)) _ two (omega arith) ∙ copies_half (updiscon_bit r) in
    let e0 : i + width halves - 1 ≡ i + (width halves - 1) = omega arith in
    let e1 : i + (width halves + 1) - 1 ≡ i + width halves = omega arith in
    let e2 : i + (width halves + 2) - 1 ≡ i + (width halves + 1) = omega arith in
    let value : field (ten_bytes number) i (width halves) ≡ sent halves r.difference = field_at number i (report_number halves r) part (width halves) (omega arith) ∙ low_part halves (sent halves r.difference) (bit (notify_bit r) + 2 * copies (updiscon_bit r)) small in
    record {
      address = whole_address halves r.difference word.1 ∙ sym (ap (λ (v : ℕ). 2 ^ address_lsb (untimed halves) * v) value);
      asked = differ_of r.notify (high r.difference) ∙ sym (change_of (ten_bytes number) (i + width halves) (notify_bit r) (high r.difference) b1 (rw e0 b0));
      discontinuity = differ_of r.updiscon (notify_bit r) ∙ sym (change_of (ten_bytes number) (i + (width halves + 1)) (updiscon_bit r) (notify_bit r) b2 (rw e1 b1));
      returned = silent ∙ same_bits (updiscon_bit r) ∙ sym (change_of (ten_bytes number) (i + (width halves + 2)) (updiscon_bit r) (updiscon_bit r) b3 (rw e2 b2));
    }

whole_number : (number : ℕ) → number / 2 ^ 0 ≡ number
whole_number number = let e : number / 1 ≡ number = omega arith in e

-- a trace without times and contexts has them as 0
no_stamp : (halves : Bool) (p : List ℕ) (i time context : ℕ) → StampFits (untimed halves) time context → IsStamp (untimed halves) p i (stamp_of time context)
no_stamp halves p i time context fits =
    let t = fits.0 in
    let c = fits.1 in
    let time_is : time ≡ 0 = omega arith in
    let context_is : context ≡ 0 = omega arith in
    record { clock = time_is ∙ sym (field_zero p i); process = context_is ∙ sym (field_zero p (i + 0)) }

start_spells : (halves : Bool) (branch : Bool) (privilege a time context : ℕ) → privilege < 4 → IsSendable (untimed halves) a → StampFits (untimed halves) time context → IsPacket (untimed halves) (ten_bytes (number_of halves (Start branch privilege a time context))) (Start branch privilege a time context)
start_spells halves branch privilege a time context small word stamped =
    let number : ℕ = number_of halves (Start branch privilege a time context) in
    let b = bit_small branch in
    let w = width_is halves in
    let few = w.1 in
    let p0 = whole_number (number_of halves (Start branch privilege a time context)) in
    let p2 : number_of halves (Start branch privilege a time context) / 2 ^ 2 ≡ 4 * bit branch + 8 * privilege + 32 * (sent halves a + past_address halves (copies (high a))) = omega arith in
    let p4 : number_of halves (Start branch privilege a time context) / 2 ^ 4 ≡ bit branch + 2 * (privilege + 4 * (sent halves a + past_address halves (copies (high a)))) = omega arith in
    let p5 : number_of halves (Start branch privilege a time context) / 2 ^ 5 ≡ privilege + 4 * (sent halves a + past_address halves (copies (high a))) = omega arith in
    let p7 : number_of halves (Start branch privilege a time context) / 2 ^ 7 ≡ sent halves a + past_address halves (copies (high a)) = omega arith in
    let f7 : field (ten_bytes (number_of halves (Start branch privilege a time context))) 7 (width halves) ≡ sent halves a = field_at number 7 _ p7 (width halves) (omega arith) ∙ low_part halves (sent halves a) (copies (high a)) (small_sent halves a word.0) in
    record {
      format = field_at number 0 _ p0 2 (omega arith) ∙ omega arith;
      subformat = field_at number 2 _ p2 2 (omega arith) ∙ omega arith;
      branch_bit = sym (bit_at number 4 _ p4 (omega arith) ∙ odd_bit branch (privilege + 4 * (sent halves a + past_address halves (copies (high a)))));
      level = sym (field_at number 5 _ p5 2 (omega arith) ∙ omega arith);
      stamp = no_stamp halves (ten_bytes (number_of halves (Start branch privilege a time context))) 7 time context stamped;
      place = whole_address halves a word.1 ∙ sym (ap (λ (v : ℕ). 2 ^ address_lsb (untimed halves) * v) f7);
    }

qual_small : (status : Qual) → qual_number status < 4
qual_small NoChange = omega arith
qual_small EndedRep = omega arith
qual_small TraceLost = omega arith
qual_small EndedNtr = omega arith

support_spells : (halves : Bool) (enabled : Bool) (status : Qual) → IsPacket (untimed halves) (ten_bytes (number_of halves (Support enabled status))) (Support enabled status)
support_spells halves enabled status =
    let number : ℕ = number_of halves (Support enabled status) in
    let b = bit_small enabled in
    let q = qual_small status in
    let p0 = whole_number (number_of halves (Support enabled status)) in
    let p2 : number_of halves (Support enabled status) / 2 ^ 2 ≡ 3 + 4 * bit enabled + 16 * qual_number status = omega arith in
    let p4 : number_of halves (Support enabled status) / 2 ^ 4 ≡ bit enabled + 2 * (2 * qual_number status) = omega arith in
    let p5 : number_of halves (Support enabled status) / 2 ^ 5 ≡ 2 * qual_number status = omega arith in
    let p6 : number_of halves (Support enabled status) / 2 ^ 6 ≡ qual_number status = omega arith in
    let p8 : number_of halves (Support enabled status) / 2 ^ 8 ≡ 0 = omega arith in
    record {
      format = field_at number 0 _ p0 2 (omega arith) ∙ omega arith;
      subformat = field_at number 2 _ p2 2 (omega arith) ∙ omega arith;
      enable = sym (bit_at number 4 _ p4 (omega arith) ∙ odd_bit enabled (2 * qual_number status));
      mode = field_at number 5 _ p5 1 (omega arith) ∙ omega arith;
      number = field_at number 6 _ p6 2 (omega arith) ∙ omega arith;
      options = field_at number 8 _ p8 5 (omega arith) ∙ omega arith;
    }

context_spells : (halves : Bool) (privilege time context : ℕ) → privilege < 4 → StampFits (untimed halves) time context → IsPacket (untimed halves) (ten_bytes (number_of halves (Context privilege time context))) (Context privilege time context)
context_spells halves privilege time context small stamped =
    let number : ℕ = number_of halves (Context privilege time context) in
    let p0 = whole_number (number_of halves (Context privilege time context)) in
    let p2 : number_of halves (Context privilege time context) / 2 ^ 2 ≡ 2 + 4 * privilege = omega arith in
    let p4 : number_of halves (Context privilege time context) / 2 ^ 4 ≡ privilege = omega arith in
    record {
      format = field_at number 0 _ p0 2 (omega arith) ∙ omega arith;
      subformat = field_at number 2 _ p2 2 (omega arith) ∙ omega arith;
      level = sym (field_at number 4 _ p4 2 (omega arith) ∙ omega arith);
      stamp = no_stamp halves (ten_bytes (number_of halves (Context privilege time context))) 6 time context stamped;
    }

map_spells : (halves : Bool) (map : ℕ) → map < 2 ^ 31 → IsPacket (untimed halves) (ten_bytes (number_of halves (Map map))) (Map map)
map_spells halves map small =
    let number : ℕ = number_of halves (Map map) in
    let p0 = whole_number (number_of halves (Map map)) in
    let p2 : number_of halves (Map map) / 2 ^ 2 ≡ 32 * (map + 2 ^ 31 * copies (nat_le (2 ^ 30) map)) = omega arith in
    let p7 : number_of halves (Map map) / 2 ^ 7 ≡ map + 2 ^ 31 * copies (nat_le (2 ^ 30) map) = omega arith in
    record {
      format = field_at number 0 _ p0 2 (omega arith) ∙ omega arith;
      count = field_at number 2 _ p2 5 (omega arith) ∙ omega arith;
      bits = sym (field_at number 7 _ p7 31 (omega arith) ∙ omega arith);
    }

address_spells : (halves : Bool) (report : Report) → IsSendable (untimed halves) report.difference → report.irreport ≡ false → IsPacket (untimed halves) (ten_bytes (number_of halves (Address report))) (Address report)
address_spells halves report word silent =
    let number : ℕ = number_of halves (Address report) in
    let p0 = whole_number (number_of halves (Address report)) in
    let p2 : number_of halves (Address report) / 2 ^ 2 ≡ report_number halves report = omega arith in
    record {
      format = field_at number 0 _ p0 2 (omega arith) ∙ omega arith;
      fields = reports halves number 2 report p2 (omega arith) word silent;
    }

narrow : (count : ℕ) → map_width count ≤ 31
narrow count = grind (arith, nat_tests)

map_address_spells : (halves : Bool) (count map : ℕ) (report : Report) → 0 < count → count ≤ 31 → map < 2 ^ map_width count → IsSendable (untimed halves) report.difference → report.irreport ≡ false → IsPacket (untimed halves) (ten_bytes (number_of halves (MapAddress count map report))) (MapAddress count map report)
map_address_spells halves count map report some few small word silent =
    let number : ℕ = number_of halves (MapAddress count map report) in
    let w : ℕ = map_width count in
    let y : ℕ = map + 2 ^ map_width count * report_number halves report in
    let thin = narrow count in
    let p0 = whole_number (number_of halves (MapAddress count map report)) in
    let p2 : number_of halves (MapAddress count map report) / 2 ^ 2 ≡ count + 32 * (map + 2 ^ map_width count * report_number halves report) = omega arith in
    let p7 : number_of halves (MapAddress count map report) / 2 ^ 7 ≡ map + 2 ^ map_width count * report_number halves report = omega arith in
    let swap : map + 2 ^ map_width count * report_number halves report ≡ report_number halves report * 2 ^ map_width count + map = omega arith in
    let rest : (map + 2 ^ map_width count * report_number halves report) / 2 ^ map_width count ≡ report_number halves report = ap (λ (k : ℕ). k / 2 ^ map_width count) swap ∙ div-mul-add (report_number halves report) (2 ^ map_width count) map small in
    let low : (map + 2 ^ map_width count * report_number halves report) % 2 ^ map_width count ≡ map = add-mul-mod_self_left map (2 ^ map_width count) (report_number halves report) ∙ mod-eq_of_lt small in
    let pw : number_of halves (MapAddress count map report) / 2 ^ (7 + map_width count) ≡ report_number halves report = later number 7 _ p7 (map_width count) (report_number halves report) (7 + map_width count) rest refl in
    record {
      format = field_at number 0 _ p0 2 (omega arith) ∙ omega arith;
      some = some;
      number = sym (field_at number 2 _ p2 5 (omega arith) ∙ omega arith);
      bits = sym (field_at number 7 _ p7 (map_width count) (omega arith) ∙ low);
      fields = reports halves number (7 + map_width count) report pw (omega arith) word silent;
    }

pub spells : (halves : Bool) (packet : Packet) → FieldsFit (untimed halves) packet → IsPacketSilent packet → IsPacket (untimed halves) (ten_bytes (number_of halves packet)) packet
spells halves (Start branch privilege a time context) f s = start_spells halves branch privilege a time context f.0 f.1 f.2
spells halves (Context privilege time context) f s = context_spells halves privilege time context f.0 f.1
spells halves (Support enabled status) f s = support_spells halves enabled status
spells halves (Address report) f s = address_spells halves report f s
spells halves (Map map) f s = map_spells halves map f
spells halves (MapAddress count map report) f s = map_address_spells halves count map report f.0 f.1 f.2 f.3 s
