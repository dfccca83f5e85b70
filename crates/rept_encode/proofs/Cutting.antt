-- Payloads without the copies at their end.
use Rattle.std.proofs.Common.{◌≡◌, ◌≢◌, ℕ, ◌+◌, ◌-◌, ◌*◌, ◌/◌, ◌%◌, ◌^◌, ◌<◌, ◌≤◌, ◌==◌, nat_le, min, List, [], ◌∷◌, ◌++◌, length, take, get_or, cond, Ok, sym, ◌∙◌, ap, subst, arith}
use Rattle.std.proofs.lemmas.List.{take_more, length-take}
use Rattle.std.proofs.lemmas.List.Elements.{All-nil, All-cons}
use Rattle.std.proofs.lemmas.Bool.Decides.{nat_tests}
use Rattle.rept_word.specs.Bits.{bit_of}
use Rattle.rept_trace.specs.declared.packet.Packet.{Packet}
use Rattle.rept_trace.specs.declared.parameters.Parameters.{Parameters}
use Rattle.rept_trace.specs.Grammar.{IsPacket}
use Rattle.rept_trace.specs.Shortened.{filler, IsShortened}
use Rattle.rept_trace.proofs.LeftOut.{shortened}
use Rattle.rept_encode.specs.Written.{fill_after, IsPayloadCutShort}

top_bit : (x : ℕ) → x < 256 → ◌≡◌ {A = ℕ} (cond (x / 2 ^ 7 % 2 == 1) 255 0) (cond (nat_le 128 x) 255 0)
top_bit x lt = grind (arith, nat_tests)

filler_is : (payload : List ℕ) (n : ℕ) → length payload ≡ n + 1 → get_or payload n 0 < 256 → filler payload ≡ fill_after (get_or payload n 0)
unfolding bit_of
filler_is payload n size lt =
    let a : min (8 * length payload - 1) (8 * length payload - 1) / 8 ≡ n = omega arith in
    let b : min (8 * length payload - 1) (8 * length payload - 1) % 8 ≡ 7 = omega arith in
    rw (a, b) (top_bit (get_or payload n 0) lt)

get_front : (xs ys : List ℕ) (i : ℕ) → i < length xs → get_or (xs ++ ys) i 0 ≡ get_or xs i 0
get_front xs ys i lt = grind (arith, Rattle.std.proofs.lemmas.Grind.common_steps)

pub cut_more : (widths : Parameters) (payload : List ℕ) (size : ℕ) (x : Packet) → 1 < size → size ≤ length payload → get_or payload (size - 2) 0 < 256 → get_or payload (size - 1) 0 ≡ fill_after (get_or payload (size - 2) 0) → IsPacket widths (take size payload) x → IsPacket widths (take (size - 1) payload) x
cut_more widths payload size x some within small same h =
    let front = take (size - 1) payload in
    let last = get_or payload (size - 1) 0 in
    let n : length (take (size - 1) payload) ≡ size - 1 = simp length-take (omega arith) in
    let e : (size - 1) + 1 ≡ size = omega arith in
    let more : take ((size - 1) + 1) payload ≡ take (size - 1) payload ++ get_or payload (size - 1) 0 ∷ [] = take_more payload (size - 1) 0 (omega arith) in
    let whole : take size payload ≡ take (size - 1) payload ++ get_or payload (size - 1) 0 ∷ [] = subst (λ (k : ℕ). take k payload ≡ take (size - 1) payload ++ get_or payload (size - 1) 0 ∷ []) e more in
    let g : get_or (take (size - 1) payload) (size - 2) 0 ≡ get_or payload (size - 2) 0 = grind (arith, Rattle.std.proofs.lemmas.Grind.common_steps) in
    let f : filler (take (size - 1) payload) ≡ fill_after (get_or (take (size - 1) payload) (size - 2) 0) = filler_is (take (size - 1) payload) (size - 2) (omega arith) (rw g small) in
    let fill : get_or payload (size - 1) 0 ≡ filler (take (size - 1) payload) = same ∙ ap fill_after (sym g) ∙ sym f in
    let s : IsShortened (take (size - 1) payload) (take size payload) = record { some = omega arith; left_out = get_or payload (size - 1) 0 ∷ []; whole = whole; copies = All-cons (λ (byte : ℕ). byte ≡ filler (take (size - 1) payload)) (get_or payload (size - 1) 0) [] fill (All-nil (λ (byte : ℕ). byte ≡ filler (take (size - 1) payload))) } in
    let both = shortened widths (take (size - 1) payload) (take size payload) 0 (Ok x) s in
    both.1 h

pub is_cut : (payload : List ℕ) (size : ℕ) → size ≤ length payload → (1 < size → get_or payload (size - 1) 0 ≢ fill_after (get_or payload (size - 2) 0)) → IsPayloadCutShort (take size payload)
is_cut payload size within differs i e same =
    let n : length (take size payload) ≡ size = simp length-take (omega arith) in
    let k : i + 2 ≡ size = omega arith in
    let a : get_or (take size payload) (i + 1) 0 ≡ get_or payload (size - 1) 0 = grind (arith, Rattle.std.proofs.lemmas.Grind.common_steps) in
    let b : get_or (take size payload) i 0 ≡ get_or payload (size - 2) 0 = grind (arith, Rattle.std.proofs.lemmas.Grind.common_steps) in
    differs (omega arith) (sym a ∙ same ∙ ap fill_after b)
