-- A shortened payload has the bits of the full one.
use Rattle.std.proofs.Common.{◌≡◌, ℕ, zero, suc, ◌+◌, ◌-◌, ◌*◌, ◌/◌, ◌%◌, ◌^◌, ◌<◌, ◌≤◌, List, ◌++◌, length, slice_index, min, nat_eq, Bool, true, false, cond, All, Result, Ok, Err, refl, sym, ◌∙◌, ap, subst, arith, length-append, inl, inr, ◌↔◌}
use Rattle.std.proofs.Math.ListN.{get_or-append}
use Rattle.std.proofs.Math.Seq.{get_or-append_right}
use Rattle.std.proofs.lemmas.List.Elements.{All-get_or}
use Rattle.std.proofs.lemmas.Bool.{cases_order}
use Rattle.rept_word.specs.Bits.{bit_of, field}
use Rattle.rept_word.proofs.BitLemmas.{field_zero, field_suc}
use Rattle.rept_trace.specs.declared.packet.Report.{Report}
use Rattle.rept_trace.specs.declared.packet.Packet.{Packet}
use Rattle.rept_trace.specs.declared.packet.Packet.TheVariants.{Start, Context, Support, Address, Map, MapAddress}
use Rattle.rept_trace.specs.declared.fault.TraceFault.{TraceFault}
use Rattle.rept_trace.specs.declared.fault.TraceFault.TheVariants.{BadMagic, BadHeader, Truncated, Optional, Trap, BadSupport, StreamPastEnd, Rest}
use Rattle.rept_trace.specs.declared.parameters.Parameters.{Parameters}
use Rattle.rept_trace.specs.Grammar.{Stamp, changes, address_lsb, address_width, map_width, after_stamp, stamp_of, IsReportAt, IsStamp, IsPacket, Spells}
use Rattle.rept_trace.specs.Shortened.{filler, IsShortened}

-- the bit at a place that stands in the payload
bit_at_place : List ℕ → ℕ → Bool
bit_at_place payload m = nat_eq (slice_index payload (m / 8) / 2 ^ (m % 8) % 2) 1

bit_of_is : (payload : List ℕ) (i : ℕ) → bit_of payload i ≡ bit_at_place payload (min i (8 * length payload - 1))
unfolding bit_of bit_at_place
bit_of_is payload i = refl

within : (short tail : List ℕ) (m : ℕ) → m < 8 * length short → bit_at_place (short ++ tail) m ≡ bit_at_place short m
unfolding bit_at_place
within short tail m lt =
    let below : m / 8 < length short = omega arith in
    ap (λ byte. nat_eq (byte / 2 ^ (m % 8) % 2) 1) (get_or-append short tail 0 (m / 8) below)

filled : (b : Bool) (k : ℕ) → k < 8 → nat_eq (cond b 255 0 / 2 ^ k % 2) 1 ≡ b
filled true zero lt = refl
filled true (suc zero) lt = refl
filled true (suc (suc zero)) lt = refl
filled true (suc (suc (suc zero))) lt = refl
filled true (suc (suc (suc (suc zero)))) lt = refl
filled true (suc (suc (suc (suc (suc zero))))) lt = refl
filled true (suc (suc (suc (suc (suc (suc zero)))))) lt = refl
filled true (suc (suc (suc (suc (suc (suc (suc zero))))))) lt = refl
filled true (suc (suc (suc (suc (suc (suc (suc (suc k)))))))) lt = absurd (omega arith)
filled false zero lt = refl
filled false (suc zero) lt = refl
filled false (suc (suc zero)) lt = refl
filled false (suc (suc (suc zero))) lt = refl
filled false (suc (suc (suc (suc zero)))) lt = refl
filled false (suc (suc (suc (suc (suc zero))))) lt = refl
filled false (suc (suc (suc (suc (suc (suc zero)))))) lt = refl
filled false (suc (suc (suc (suc (suc (suc (suc zero))))))) lt = refl
filled false (suc (suc (suc (suc (suc (suc (suc (suc k)))))))) lt = absurd (omega arith)

-- bytes that were left out
copied : (short tail : List ℕ) (m : ℕ) → All (λ byte. byte ≡ filler short) tail → 8 * length short ≤ m → m < 8 * length short + 8 * length tail → bit_at_place (short ++ tail) m ≡ bit_of short (8 * length short - 1)
unfolding bit_at_place
copied short tail m all from below =
    let past : length short ≤ m / 8 = omega arith in
    let in_tail : m / 8 - length short < length tail = omega arith in
    let byte : slice_index (short ++ tail) (m / 8) ≡ filler short = get_or-append_right short tail (m / 8) 0 past ∙ All-get_or (λ b. b ≡ filler short) tail (m / 8 - length short) 0 in_tail all in
    ap (λ b. nat_eq (b / 2 ^ (m % 8) % 2) 1) byte ∙ filled (bit_of short (8 * length short - 1)) (m % 8) (omega arith)

same_bit : (short tail : List ℕ) → 0 < length short → All (λ byte. byte ≡ filler short) tail → (i : ℕ) → bit_of (short ++ tail) i ≡ bit_of short i
same_bit short tail some all i =
    let n = length short in
    let size : length (short ++ tail) ≡ n + length tail = length-append short tail in
    let place = min i (8 * length (short ++ tail) - 1) in
    let last : bit_of short (8 * n - 1) ≡ bit_at_place short (8 * n - 1) = bit_of_is short (8 * n - 1) ∙ ap (bit_at_place short) (omega arith) in
    elim (cases_order place (8 * n)) [
      | inl e ↦ after size last (omega arith) (omega (arith, size))
      | inr (inl l) ↦ bit_of_is (short ++ tail) i ∙ within short tail place l ∙ ap (bit_at_place short) (omega (arith, size)) ∙ sym (bit_of_is short i)
      | inr (inr g) ↦ after size last (omega arith) (omega (arith, size))
    ]
  where
    after : length (short ++ tail) ≡ length short + length tail → bit_of short (8 * length short - 1) ≡ bit_at_place short (8 * length short - 1) → 8 * length short ≤ min i (8 * length (short ++ tail) - 1) → min i (8 * length (short ++ tail) - 1) < 8 * length short + 8 * length tail → bit_of (short ++ tail) i ≡ bit_of short i
    after size last from below =
        bit_of_is (short ++ tail) i ∙ copied short tail (min i (8 * length (short ++ tail) - 1)) all from below ∙ last ∙ ap (bit_at_place short) (omega arith) ∙ sym (bit_of_is short i)

-- Payloads with the same bits spell the same.
module _ (a b : List ℕ) (same : (i : ℕ) → bit_of a i ≡ bit_of b i) where
  same_field : (i n : ℕ) → field a i n ≡ field b i n
  same_field i zero = field_zero a i ∙ sym (field_zero b i)
  same_field i (suc n) =
      let e : cond (bit_of a i) 1 0 + 2 * field a (i + 1) n ≡ cond (bit_of b i) 1 0 + 2 * field b (i + 1) n = rw (same i, same_field (i + 1) n) refl in
      field_suc a i n ∙ e ∙ sym (field_suc b i n)

  same_change : (i : ℕ) → changes a i ≡ changes b i
  same_change i = rw (same i, same (i - 1)) refl

  same_report : (w : Parameters) (i : ℕ) (r : Report) → IsReportAt w a i r → IsReportAt w b i r
  same_report w i r s = record {
    address = s.address ∙ ap (λ n. 2 ^ address_lsb w * n) (same_field i (address_width w));
    asked = s.asked ∙ same_change (i + address_width w);
    discontinuity = s.discontinuity ∙ same_change (i + (address_width w + 1));
    returned = s.returned ∙ same_change (i + (address_width w + 2));
  }

  moved : (i n v : ℕ) → field a i n ≡ v → field b i n ≡ v
  moved i n v h = sym (same_field i n) ∙ h

  same_stamp : (w : Parameters) (i : ℕ) (t : Stamp) → IsStamp w a i t → IsStamp w b i t
  same_stamp w i t s = record { clock = s.clock ∙ same_field i w.time_width; process = s.process ∙ same_field (i + w.time_width) w.context_width }

  same_packet : (w : Parameters) (x : Packet) → IsPacket w a x → IsPacket w b x
  same_packet w (Start branch privilege address time context) s =
      record {
        format = moved 0 2 3 s.format;
        subformat = moved 2 2 0 s.subformat;
        branch_bit = s.branch_bit ∙ same 4;
        level = s.level ∙ same_field 5 2;
        stamp = same_stamp w 7 (stamp_of time context) s.stamp;
        place = s.place ∙ ap (λ n. 2 ^ address_lsb w * n) (same_field (after_stamp w 7) (address_width w));
      }
  same_packet w (Context privilege time context) s = record { format = moved 0 2 3 s.format; subformat = moved 2 2 2 s.subformat; level = s.level ∙ same_field 4 2; stamp = same_stamp w 6 (stamp_of time context) s.stamp }
  same_packet w (Support enabled status) s = record { format = moved 0 2 3 s.format; subformat = moved 2 2 3 s.subformat; enable = s.enable ∙ same 4; mode = moved 5 1 0 s.mode; number = moved 6 2 _ s.number; options = moved 8 5 0 s.options }
  same_packet w (Address report) s = record { format = moved 0 2 2 s.format; fields = same_report w 2 report s.fields }
  same_packet w (Map map) s = record { format = moved 0 2 1 s.format; count = moved 2 5 0 s.count; bits = s.bits ∙ same_field 7 31 }
  same_packet w (MapAddress count map report) s = record { format = moved 0 2 1 s.format; some = s.some; number = s.number ∙ same_field 2 5; bits = s.bits ∙ same_field 7 (map_width count); fields = same_report w (7 + map_width count) report s.fields }

  same_spelling : (w : Parameters) (k : ℕ) (x : Result Packet TraceFault) → Spells w k a x → Spells w k b x
  same_spelling w k (Ok packet) s = same_packet w packet s
  same_spelling w k (Err (Optional j)) s = (s.0, moved 0 2 0 s.1)
  same_spelling w k (Err (Trap j)) s = (s.0, moved 0 2 3 s.1, moved 2 2 1 s.2)
  same_spelling w k (Err (BadSupport j)) s =
      let w = s.1 in
      (s.0, record { format = moved 0 2 3 w.format; subformat = moved 2 2 3 w.subformat; wrong = elim w.wrong [ inl f ↦ inl (λ h. f (same_field 5 1 ∙ h)) | inr f ↦ inr (λ h. f (same_field 8 5 ∙ h)) ] })
  same_spelling w k (Err BadMagic) s = s
  same_spelling w k (Err (BadHeader i)) s = s
  same_spelling w k (Err (Truncated j)) s = s
  same_spelling w k (Err (StreamPastEnd j)) s = s
  same_spelling w k (Err (Rest j)) s = s

pub shortened : (w : Parameters) (short full : List ℕ) (k : ℕ) (x : Result Packet TraceFault) → IsShortened short full → Spells w k short x ↔ Spells w k full x
shortened w short full k x s =
    let bits = same_bit short s.left_out s.some s.copies in
    let P : List ℕ → Type 0 = λ l. Spells w k short x ↔ Spells w k l x in
    subst P (sym s.whole) (same_spelling short (short ++ s.left_out) (λ i. sym (bits i)) w k x, same_spelling (short ++ s.left_out) short bits w k x)
