-- The slices of windows, stream by stream.
use Rattle.std.proofs.Common.{◌≡◌, ◌≢◌, map, ℕ, suc, ◌+◌, ◌<◌, ◌≤◌, ◌^◌, List, [], ◌∷◌, ◌++◌, length, drop, get_or, Option, Some, None, refl, sym, ◌∙◌, ap, subst, arith, append_assoc, length-drop}
use Rattle.std.specs.List.{sum_by, flat_map}
use Rattle.std.specs.Prelude.{unwrap_or}
use Rattle.std.proofs.lemmas.List.{append-nil, at_drop_all}
use Rattle.std.proofs.lemmas.List.Sums.{sum_by-cons}
use Rattle.rept_trace.specs.declared.packet.Packet.{Packet}
use Rattle.rept_trace.specs.Packets.{rest_of}
use Rattle.rept_trace.specs.Stream.{Stream, Hold}
use Rattle.rept_path.specs.declared.fault.PathFault.TheVariants.{NoStart}
use Rattle.rept_path.specs.declared.window.Begin.{Begin}
use Rattle.rept_path.specs.Survey.{IsThere, number_in}
use Rattle.rept_streams.specs.Slices.Parts.{LeftPackets, ToldSlice, told_from, told_in}
use Rattle.rept_streams.specs.Slices.Skipping.{whole, numbered, window_of, windows, kept, skipped}
use Rattle.rept_streams.specs.Slices.Checks.{first_fault, startless}
use Rattle.rept_streams.specs.Slices.Windows.{IsStreamWindow, AreWindows, AreAll, window_left, skipped_by, skipped_of}
use Rattle.rept_streams.specs.Slices.Lefts.{BeginsWith, IsLeftBy, IsLeft, AreLeft}
use Rattle.rept_streams.specs.Slices.Entries.{AreEntriesOf}
use Rattle.rept_streams.specs.declared.slices.reading.StreamWindow.{StreamWindow}
use Rattle.rept_streams.specs.declared.slices.telling.StreamSlice.{StreamSlice}
use Rattle.rept_streams.proofs.SlicesLemmas.Calm.{none_first}
use Rattle.rept_streams.proofs.SlicesLemmas.Checking.{left, split, unique, no_window}
use Rattle.rept_streams.proofs.SlicesLemmas.TellLemmas.{AreEntriesOf-append}

module _ (w : StreamWindow) (l : LeftPackets) (is : IsLeft w l) where
  pub nothing_told : w.begin ≡ None → told_in l ≡ []
  nothing_told none =
      let e : l.packets ≡ [] = subst (λ (o : Option Begin). IsLeftBy l w.number o) none is.begin in
      ap (λ (xs : List Packet). told_from l.stream l.number None xs) e

  module _ (b : Begin) (some : w.begin ≡ Some b) where
    pub there : BeginsWith l w.number b
    there = subst (λ (o : Option Begin). IsLeftBy l w.number o) some is.begin

    pub window_room : w.number + b.number + 1 + length there.later < 2 ^ 32
    window_room =
        let e = ap (length {A = Packet}) there.packets in
        let n = there.number in
        let few = is.few in
        omega (arith, e, n, few)

    pub window_told : told_in l ≡ told_from w.stream (w.number + b.number) None (b.first ∷ there.later)
    window_told =
        ap (λ (xs : List Packet). told_from l.stream l.number None xs) there.packets
        ∙ ap (λ (t : ℕ). told_from t l.number None (b.first ∷ there.later)) (sym is.stream)
        ∙ ap (λ (n : ℕ). told_from w.stream n None (b.first ∷ there.later)) there.number

-- what is left of the streams from a number on
pub split_left : (w : StreamWindow) (ws : List StreamWindow) (ls : List LeftPackets) → AreLeft (w ∷ ws) ls → (l : LeftPackets) × (later : List LeftPackets) × (ls ≡ l ∷ later) × IsLeft w l × AreLeft ws later
split_left w ws [] a = absurd a
split_left w ws (l ∷ later) a = (l, later, refl, a.0, a.1)

-- The slices that were added, of which each stream has a part, and the streams that are left.
pub record Tells (part : LeftPackets → List ToldSlice) (lefts : List LeftPackets) (ws : List StreamWindow) (now : List StreamSlice) : Type 0 where
  pub later : List LeftPackets
  pub left : AreLeft ws later
  pub done : List ToldSlice
  pub are : AreEntriesOf now done
  pub same : flat_map part lefts ≡ done ++ flat_map part later

pub record Next (part : LeftPackets → List ToldSlice) (lefts : List LeftPackets) (w : StreamWindow) (ws : List StreamWindow) (now : List StreamSlice) : Type 0 where
  pub l : LeftPackets
  pub later : List LeftPackets
  pub first : IsLeft w l
  pub left : AreLeft ws later
  pub done : List ToldSlice
  pub are : AreEntriesOf now done
  pub same : flat_map part lefts ≡ done ++ (part l ++ flat_map part later)

module _ (part : LeftPackets → List ToldSlice) where
  pub none_told : (lefts : List LeftPackets) (ws : List StreamWindow) → AreLeft ws lefts → Tells part lefts ws []
  none_told lefts ws a = record { later = lefts; left = a; done = []; are = refl; same = refl }

  next : (lefts : List LeftPackets) (w : StreamWindow) (ws : List StreamWindow) (now : List StreamSlice) → Tells part lefts (w ∷ ws) now → Next part lefts w ws now
  next lefts w ws now t =
      let s = split_left w ws t.later t.left in
      record { l = s.0; later = s.1; first = s.3; left = s.4; done = t.done; are = t.are; same = t.same ∙ ap (λ (ls : List LeftPackets). t.done ++ flat_map part ls) s.2 }

  pub one_told : (lefts : List LeftPackets) (w : StreamWindow) (ws : List StreamWindow) (now new more : List StreamSlice) (n : Next part lefts w ws now) → new ≡ now ++ more → AreEntriesOf more (part n.l) → Tells part lefts ws new
  one_told lefts w ws now new more n items are = record {
    later = n.later;
    left = n.left;
    done = n.done ++ part n.l;
    are = subst (λ (es : List StreamSlice). AreEntriesOf es (n.done ++ part n.l)) (sym items) (AreEntriesOf-append now more n.done (part n.l) n.are are);
    same = n.same ∙ sym (append_assoc n.done (part n.l) (flat_map part n.later));
  }

  pub tells_at : (lefts : List LeftPackets) (ws : List StreamWindow) (i : ℕ) (w : StreamWindow) (now : List StreamSlice) → i < length ws → w ≡ get_or ws i w → Tells part lefts (drop i ws) now → Next part lefts w (drop (i + 1) ws) now
  tells_at lefts ws i w now within at t = next lefts w (drop (i + 1) ws) now (subst (λ (vs : List StreamWindow). Tells part lefts vs now) (split ws i w within at) t)

  pub all_told : (lefts : List LeftPackets) (ws : List StreamWindow) (i : ℕ) (now : List StreamSlice) → length ws ≤ i → Tells part lefts (drop i ws) now → AreEntriesOf now (flat_map part lefts)
  all_told lefts ws i now past t =
      let none : t.later ≡ [] = subst (λ (vs : List StreamWindow). AreLeft vs t.later) (at_drop_all (λ (vs : List StreamWindow). vs) ws i past) t.left in
      let e : flat_map part lefts ≡ t.done = t.same ∙ ap (λ (ls : List LeftPackets). t.done ++ flat_map part ls) none ∙ append-nil t.done in
      subst (λ (ts : List ToldSlice). AreEntriesOf now ts) (sym e) t.are

-- what is left of streams that have windows
module _ (s k from : ℕ) (stream : Stream) (w : StreamWindow) where
  no_more : (packets : List Packet) → IsStreamWindow s k from stream packets w → startless from (left s k packets) ≡ None → w.begin ≡ None → drop (unwrap_or (window_of from packets) 0) packets ≡ []
  no_more [] is calm none = refl
  no_more (p ∷ later) is calm none =
      let counted = is.surveys.count in
      let some : w.count ≢ 0 = λ e. let n : length (p ∷ later) ≡ 0 = sym counted ∙ e in omega arith in
      let f : Some (NoStart w.count) ≡ startless from (left s k (p ∷ later)) = no_window s k from stream w (p ∷ later) is some none in
      absurd ((cc))

  left_by : (packets : List Packet) (is : IsStreamWindow s k from stream packets w) → startless from (left s k packets) ≡ None → (o : Option Begin) → w.begin ≡ o → IsLeftBy (window_left from (left s k packets)) w.number o
  left_by packets is calm None e = no_more packets is calm e
  left_by packets is calm (Some b) e =
      let t : (later : List Packet) × Hold (rest_of b.later) later × (drop b.number packets ≡ b.first ∷ later) = subst (λ (o : Option Begin). IsThere packets o) e is.surveys.there in
      let u : window_of from packets ≡ Some b.number = unique s k from stream w packets is ∙ ap number_in e in
      record {
        later = t.0;
        hold = t.1;
        packets = ap (λ (o : Option ℕ). drop (unwrap_or o 0) packets) u ∙ t.2;
        number = ap (λ (o : Option ℕ). k + unwrap_or o 0) u ∙ ap (λ (n : ℕ). n + b.number) (sym is.number);
      }

  pub window_is_left : (packets : List Packet) → IsStreamWindow s k from stream packets w → startless from (left s k packets) ≡ None → k + length packets < 2 ^ 32 → IsLeft w (window_left from (left s k packets))
  window_is_left packets is calm few =
      let o = unwrap_or (window_of from packets) 0 in
      let d = length-drop (unwrap_or (window_of from packets) 0) packets in
      record {
        stream = is.stream;
        begin = left_by packets is calm w.begin refl;
        ends = let counted = is.surveys.count in let number = is.number in let e = to_end (window_of from packets) (λ i e. in_window packets is calm i e) in omega (arith, counted, number, e);
        few = within (window_of from packets) (λ i e. in_window packets is calm i e);
      }
    where
      in_window : (packets : List Packet) → IsStreamWindow s k from stream packets w → startless from (left s k packets) ≡ None → (i : ℕ) → window_of from packets ≡ Some i → i ≤ length packets
      in_window packets is calm i e = go w.begin refl where
        go : (o : Option Begin) → w.begin ≡ o → i ≤ length packets
        go None h = let n : Some i ≡ None = sym e ∙ unique s k from stream w packets is ∙ ap number_in h in absurd ((cc))
        go (Some b) h =
            let t : (later : List Packet) × Hold (rest_of b.later) later × (drop b.number packets ≡ b.first ∷ later) = subst (λ (o : Option Begin). IsThere packets o) h is.surveys.there in
            let n : Some i ≡ Some b.number = sym e ∙ unique s k from stream w packets is ∙ ap number_in h in
            let same : i ≡ b.number = (cc) in
            let d = length-drop b.number packets in
            let l = ap (length {A = Packet}) t.2 in
            omega (arith, same, d, l)

      to_end : (o : Option ℕ) → ((i : ℕ) → o ≡ Some i → i ≤ length packets) → k + unwrap_or o 0 + length (drop (unwrap_or o 0) packets) ≡ k + length packets
      to_end None h = omega arith
      to_end (Some i) h =
          let le = h i refl in
          let d = length-drop i packets in
          omega (arith, le, d)

      within : (o : Option ℕ) → ((i : ℕ) → o ≡ Some i → i ≤ length packets) → k + unwrap_or o 0 + length (drop (unwrap_or o 0) packets) < 2 ^ 32
      within None h = omega arith
      within (Some i) h =
          let le = h i refl in
          let d = length-drop i packets in
          omega (arith, le, d)

lefts_from : (from s k : ℕ) (others : List Stream) (lists : List (List Packet)) (ws : List StreamWindow) → AreWindows s k from others lists ws → first_fault (startless from) (numbered s k lists) ≡ None → k + sum_by (λ packets. length packets) lists < 2 ^ 32 → AreLeft ws (map (window_left from) (numbered s k lists))
lefts_from from s k [] lists ws a calm few = subst (λ (vs : List StreamWindow). AreLeft vs (map (window_left from) (numbered s k lists))) (sym a.1) (ap (λ (ls : List (List Packet)). map (window_left from) (numbered s k ls)) a.0)
lefts_from from s k (stream ∷ others) [] ws a calm few = absurd a
lefts_from from s k (stream ∷ others) (packets ∷ lists) [] a calm few = absurd a
lefts_from from s k (stream ∷ others) (packets ∷ lists) (w ∷ ws) a calm few =
    let n = none_first (startless from) (left s k packets) (numbered (suc s) (k + length packets) lists) calm in
    let sizes = sum_by-cons (λ (ps : List Packet). length ps) packets lists in
    (window_is_left s k from stream w packets a.0 n.0 (omega (arith, sizes, few)), lefts_from from (suc s) (k + length packets) others lists ws a.1 n.1 (omega (arith, sizes, few)))

pub windows_are_left : (from : ℕ) (streams : List Stream) (lists : List (List Packet)) (ws : List StreamWindow) → AreAll from streams lists ws → first_fault (startless from) (whole lists) ≡ None → AreLeft ws (windows from lists)
windows_are_left from streams lists ws a calm = let few = a.few in lefts_from from 0 0 streams lists ws a.windows calm (omega arith)

-- how many packets streams have, and how many of them are skipped
pub all_counted : (s k from : ℕ) (streams : List Stream) (lists : List (List Packet)) (ws : List StreamWindow) → AreWindows s k from streams lists ws → sum_by (λ (w : StreamWindow). w.count) ws ≡ sum_by (λ packets. length packets) lists
all_counted s k from [] lists ws a =
    let e = ap (sum_by (λ (w : StreamWindow). w.count)) a.1 in
    let f = ap (sum_by (λ (ps : List Packet). length ps)) a.0 in
    omega (arith, e, f)
all_counted s k from (stream ∷ streams) [] ws a = absurd a
all_counted s k from (stream ∷ streams) (packets ∷ lists) [] a = absurd a
all_counted s k from (stream ∷ streams) (packets ∷ lists) (w ∷ ws) a =
    let first : w.count ≡ length packets = (a.0).surveys.count in
    let others = all_counted (suc s) (k + length packets) from streams lists ws a.1 in
    omega (arith, first, others, sum_by-cons (λ (v : StreamWindow). v.count) w ws, sum_by-cons (λ (ps : List Packet). length ps) packets lists)

skipped_in : (w : StreamWindow) (l : LeftPackets) → IsLeft w l → (o : Option Begin) → w.begin ≡ o → skipped_by w.count o + length l.packets ≡ w.count
skipped_in w l is None e =
    let none = ap (length {A = Packet}) (subst (λ (b : Option Begin). IsLeftBy l w.number b) e is.begin) in
    omega (arith, none)
skipped_in w l is (Some b) e =
    let t : BeginsWith l w.number b = subst (λ (b : Option Begin). IsLeftBy l w.number b) e is.begin in
    let number = t.number in
    let ends = is.ends in
    omega (arith, number, ends)

pub all_skipped : (ws : List StreamWindow) (ls : List LeftPackets) → AreLeft ws ls → sum_by skipped_of ws + sum_by (λ (l : LeftPackets). length l.packets) ls ≡ sum_by (λ (w : StreamWindow). w.count) ws
all_skipped [] ls a = let e = ap (sum_by (λ (l : LeftPackets). length l.packets)) a in omega (arith, e)
all_skipped (w ∷ ws) [] a = absurd a
all_skipped (w ∷ ws) (l ∷ ls) a =
    let first : skipped_of w + length l.packets ≡ w.count = skipped_in w l a.0 w.begin refl in
    let others = all_skipped ws ls a.1 in
    omega (arith, first, others, sum_by-cons skipped_of w ws, sum_by-cons (λ (k : LeftPackets). length k.packets) l ls, sum_by-cons (λ (v : StreamWindow). v.count) w ws)

pub skipped_is : (from : ℕ) (lists : List (List Packet)) (n all : ℕ) → n + sum_by (λ (l : LeftPackets). length l.packets) (kept from lists) ≡ all → all ≡ sum_by (λ packets. length packets) lists → n ≡ skipped from lists
skipped_is from lists n all is counted = omega (arith, is, counted)
