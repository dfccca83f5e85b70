-- Whether one stream alone has anything at the end of the untraced prefix.
use Rattle.std.proofs.Common.{◌≡◌, map, ℕ, suc, ◌+◌, ◌-◌, ◌<◌, ◌≤◌, ◌^◌, ◌==◌, List, [], ◌∷◌, length, drop, Bool, not, ◌&&◌, ◌||◌, cond, Option, Some, None, refl, sym, ◌∙◌, ap, subst, arith, length-drop}
use Rattle.std.specs.Prelude.{unwrap_or}
use Rattle.std.specs.List.{filter, list_all, list_any, sum_by}
use Rattle.std.specs.List.Sorted.{IsPermutation, IsNonDecreasingBy}
use Rattle.std.proofs.lemmas.List.{at_drop_all}
use Rattle.std.proofs.lemmas.List.Sums.{sum_by-cons}
use Rattle.rept_trace.specs.declared.packet.Packet.{Packet}
use Rattle.rept_trace.specs.Stream.{Stream}
use Rattle.rept_path.specs.declared.window.Begin.{Begin}
use Rattle.rept_path.specs.Survey.{IsThere, number_in}
use Rattle.rept_streams.specs.Slices.Stamps.{clock_of, context_of}
use Rattle.rept_streams.specs.Slices.Parts.{LeftPackets, ToldSlice, slices_told}
use Rattle.rept_streams.specs.Slices.Order.{by_time}
use Rattle.rept_streams.specs.Slices.Skipping.{numbered, window_of, opening, full_from}
use Rattle.rept_streams.specs.Slices.Windows.{IsStreamWindow, AreWindows, AreAll}
use Rattle.rept_streams.specs.Slices.Lefts.{IsLeftBy, IsLeft, AreLeft}
use Rattle.rept_streams.specs.Slices.Entries.{AreEntriesOf}
use Rattle.rept_streams.specs.Slices.Ending.{begun_from, begun, is_time, ends_by, ends_alone, last_time}
use Rattle.rept_streams.specs.Slices.Free.{opens_by, are_shut, are_by, are_free, ends_kept, alone_kept}
use Rattle.rept_streams.specs.declared.slices.ending.PrefixEnd.{PrefixEnd}
use Rattle.rept_streams.specs.declared.slices.reading.StreamWindow.{StreamWindow}
use Rattle.rept_streams.specs.declared.slices.telling.StreamSlice.{StreamSlice}
use Rattle.rept_streams.proofs.SlicesLemmas.Checking.{left, unique}
use Rattle.rept_streams.proofs.SlicesLemmas.KeepLemmas.{opens_never, opens_at}
use Rattle.rept_streams.proofs.SlicesLemmas.Sorting.{ascends_by}
use Rattle.rept_streams.proofs.SlicesLemmas.Until.{told_permuted, told_ascend, same_threads}
use Rattle.rept_streams.proofs.SlicesLemmas.Free.{is_clear, free_told}

-- what is left of streams from their windows on, whether or not they have one
module _ (s k from : ℕ) (stream : Stream) (w : StreamWindow) (packets : List Packet) (is : IsStreamWindow s k from stream packets w) where
  abbrev places : Option Begin → ℕ
  places o = unwrap_or (number_in o) (length packets)

  places_are : (o : Option Begin) → w.begin ≡ o → unwrap_or (window_of from packets) (length packets) ≡ places o
  places_are o e = ap (λ (n : Option ℕ). unwrap_or n (length packets)) (unique s k from stream w packets is ∙ ap number_in e)

  there_by : (o : Option Begin) → w.begin ≡ o → IsThere packets o
  there_by o e = subst (λ (b : Option Begin). IsThere packets b) e is.surveys.there

  in_packets : (o : Option Begin) → w.begin ≡ o → places o ≤ length packets
  in_packets None e = omega arith
  in_packets (Some b) e =
      let t = there_by (Some b) e in
      let d = length-drop b.number packets in
      let l = ap (length {A = Packet}) t.2 in
      omega (arith, d, l)

  begun_by : (o : Option Begin) → w.begin ≡ o → IsLeftBy (begun_from from (left s k packets)) w.number o
  begun_by None e =
      ap (λ (n : ℕ). drop n packets) (places_are None e)
      ∙ at_drop_all (λ (ps : List Packet). ps) packets (length packets) (omega arith)
  begun_by (Some b) e =
      let t = there_by (Some b) e in
      let n = places_are (Some b) e in
      record {
        later = t.0;
        hold = t.1;
        packets = ap (λ (m : ℕ). drop m packets) n ∙ t.2;
        number = ap (λ (m : ℕ). k + m) n ∙ ap (λ (m : ℕ). m + b.number) (sym is.number);
      }

  pub begun_is_left : k + length packets < 2 ^ 32 → IsLeft w (begun_from from (left s k packets))
  begun_is_left few =
      let n = places_are w.begin refl in
      let le = in_packets w.begin refl in
      let d = length-drop (unwrap_or (window_of from packets) (length packets)) packets in
      let counted = is.surveys.count in
      let number = is.number in
      record {
        stream = is.stream;
        begin = begun_by w.begin refl;
        ends = omega (arith, n, le, d, counted, number);
        few = omega (arith, n, le, d, few);
      }

begun_left : (from s k : ℕ) (others : List Stream) (lists : List (List Packet)) (ws : List StreamWindow) → AreWindows s k from others lists ws → k + sum_by (λ packets. length packets) lists < 2 ^ 32 → AreLeft ws (map (begun_from from) (numbered s k lists))
begun_left from s k [] lists ws a few = subst (λ (vs : List StreamWindow). AreLeft vs (map (begun_from from) (numbered s k lists))) (sym a.1) (ap (λ (ls : List (List Packet)). map (begun_from from) (numbered s k ls)) a.0)
begun_left from s k (stream ∷ others) [] ws a few = absurd a
begun_left from s k (stream ∷ others) (packets ∷ lists) [] a few = absurd a
begun_left from s k (stream ∷ others) (packets ∷ lists) (w ∷ ws) a few =
    let sizes = sum_by-cons (λ (ps : List Packet). length ps) packets lists in
    (begun_is_left s k from stream w packets a.0 (omega (arith, sizes, few)), begun_left from (suc s) (k + length packets) others lists ws a.1 (omega (arith, sizes, few)))

pub begun_are_left : (from : ℕ) (streams : List Stream) (lists : List (List Packet)) (ws : List StreamWindow) → AreAll from streams lists ws → AreLeft ws (begun from lists)
begun_are_left from streams lists ws a = let few = a.few in begun_left from 0 0 streams lists ws a.windows (omega arith)

-- windows of other streams
opens_is : (end : ℕ) (w : StreamWindow) (l : LeftPackets) → IsLeft w l → (o : Option Begin) → w.begin ≡ o → opens_by end o ≡ is_time end (opening l)
opens_is end w l is None e = ap (is_time end) (opens_never w l is e)
opens_is end w l is (Some b) e = ap (is_time end) (opens_at w l b is e)

shut_is : (end s : ℕ) (ws : List StreamWindow) (ls : List LeftPackets) → AreLeft ws ls → are_shut end s ws ≡ list_all (λ (l : LeftPackets). l.stream == s || not (is_time end (opening l))) ls
shut_is end s [] ls a = sym (ap (list_all (λ (l : LeftPackets). l.stream == s || not (is_time end (opening l)))) a)
shut_is end s (w ∷ ws) [] a = absurd a
shut_is end s (w ∷ ws) (l ∷ ls) a =
    let stream : w.stream ≡ l.stream = (a.0).stream in
    let opens : opens_by end w.begin ≡ is_time end (opening l) = opens_is end w l a.0 w.begin refl in
    let rest : are_shut end s ws ≡ list_all (λ (l : LeftPackets). l.stream == s || not (is_time end (opening l))) ls = shut_is end s ws ls a.1 in
    λ i. (stream i == s || not (opens i)) && rest i

any_stream : (test : ℕ → Bool) (ws : List StreamWindow) (ls : List LeftPackets) → AreLeft ws ls → list_any (λ (w : StreamWindow). test w.stream) ws ≡ list_any (λ (l : LeftPackets). test l.stream) ls
any_stream test [] ls a = sym (ap (list_any (λ (l : LeftPackets). test l.stream)) a)
any_stream test (w ∷ ws) [] a = absurd a
any_stream test (w ∷ ws) (l ∷ ls) a =
    let stream : w.stream ≡ l.stream = (a.0).stream in
    let rest : list_any (λ (v : StreamWindow). test v.stream) ws ≡ list_any (λ (l : LeftPackets). test l.stream) ls = any_stream test ws ls a.1 in
    λ i. test (stream i) || rest i

same_any : (f g : ℕ → Bool) → ((n : ℕ) → f n ≡ g n) → (ls : List LeftPackets) → list_any (λ (l : LeftPackets). f l.stream) ls ≡ list_any (λ (l : LeftPackets). g l.stream) ls
same_any f g h [] = refl
same_any f g h (l ∷ ls) =
    let first : f l.stream ≡ g l.stream = h l.stream in
    let rest = same_any f g h ls in
    λ i. first i || rest i

-- One stream alone has anything at the end, by slices that were put in order.
pub alone_is : (p : PrefixEnd) (ws : List StreamWindow) (ls : List LeftPackets) (es fs : List StreamSlice) (met : List ℕ) → AreLeft ws ls → AreEntriesOf es (slices_told ls) → IsPermutation es fs → IsNonDecreasingBy (λ (e : StreamSlice). context_of e.start) fs
    → ((n : ℕ) → filter (λ (e : StreamSlice). context_of e.start == n) fs ≡ by_time (λ (e : StreamSlice). clock_of e.start) (filter (λ (e : StreamSlice). context_of e.start == n) es))
    → ((us : List ToldSlice) → AreEntriesOf fs us → (s : ℕ) → are_by s met ≡ are_free p s us)
    → alone_kept p.end ws met ≡ ends_alone p.full p.end ls
alone_is p ws ls es fs met left a perm up times is =
    let ts = slices_told ls in
    let b = told_permuted es fs ts perm a in
    let rises = told_ascend fs b.0 b.1 (ascends_by (λ (e : StreamSlice). context_of e.start) fs up) in
    let same = same_threads es fs ts b.0 a b.1 times in
    let one : (s : ℕ) → ends_kept p.end ws met s ≡ ends_by p.full p.end ls s = λ s. (
    let shut = shut_is p.end s ws ls left in
    let free : are_by s met ≡ list_all (is_clear p s ts) ts = is b.0 b.1 s ∙ free_told ts b.0 rises same p s in
    λ i. shut i && free i
    ) in
    any_stream (ends_kept p.end ws met) ws ls left ∙ same_any (ends_kept p.end ws met) (ends_by p.full p.end ls) one ls

-- the last time, by the time from which on all streams tell and by what was found
pub last_is : (from : ℕ) (lists : List (List Packet)) (full end last : ℕ) (alone : Bool) → full ≡ full_from (begun from lists) → alone ≡ ends_alone full end (begun from lists) → last ≡ cond alone (end - 1) end → last ≡ last_time from lists end
last_is from lists full end last alone all found is = is ∙ ap (λ (b : Bool). cond b (end - 1) end) (found ∙ ap (λ (f : ℕ). ends_alone f end (begun from lists)) all)
