-- What is looked at before slices are, stream by stream.
use Rattle.std.proofs.Common.{◌≡◌, ◌≢◌, ℕ, suc, ◌+◌, ◌<◌, ◌≤◌, ◌^◌, List, [], ◌∷◌, length, drop, get_or, Option, Some, None, refl, sym, ◌∙◌, ap, subst, arith, add-one}
use Rattle.std.specs.List.{sum_by, cons_option, filter_map}
use Rattle.std.proofs.lemmas.List.{at_drop_all, at_drop_more}
use Rattle.std.proofs.lemmas.List.Sums.{sum_by-cons}
use Rattle.rept_trace.specs.declared.packet.Packet.{Packet}
use Rattle.rept_trace.specs.Packets.{rest_of}
use Rattle.rept_trace.specs.Stream.{Stream, Hold}
use Rattle.rept_path.specs.declared.fault.PathFault.{PathFault}
use Rattle.rept_path.specs.declared.fault.PathFault.TheVariants.{NoStart}
use Rattle.rept_path.specs.declared.window.Begin.{Begin}
use Rattle.rept_path.specs.Survey.{number_in}
use Rattle.rept_path.specs.Trace.{IsWindow as Begins}
use Rattle.rept_path.proofs.OneRoute.{one_window}
use Rattle.rept_streams.specs.Slices.Parts.{LeftPackets}
use Rattle.rept_streams.specs.Slices.Order.{head_of}
use Rattle.rept_streams.specs.Slices.Skipping.{whole, numbered, window_of}
use Rattle.rept_streams.specs.Slices.Checks.{first_fault, startless, all_idle, back_from, time_back}
use Rattle.rept_streams.specs.Slices.Windows.{IsStreamWindow, AreWindows, AreAll}
use Rattle.rept_streams.specs.declared.slices.reading.StreamWindow.{StreamWindow}
use Rattle.rept_streams.proofs.SlicesLemmas.Begun.{window_is}

pub fault_on : {A : Type 0} (check : A → Option PathFault) (x : A) (xs : List A) → check x ≡ None → first_fault check (x ∷ xs) ≡ first_fault check xs
fault_on check x xs h = ap (λ (o : Option PathFault). head_of (cons_option o (filter_map check xs))) h

pub fault_here : {A : Type 0} (check : A → Option PathFault) (x : A) (xs : List A) (e : PathFault) → check x ≡ Some e → first_fault check (x ∷ xs) ≡ Some e
fault_here check x xs e h = ap (λ (o : Option PathFault). head_of (cons_option o (filter_map check xs))) h

abbrev pub left : ℕ → ℕ → List Packet → LeftPackets
left s k packets = record { stream = s; number = k; packets = packets }

-- a stream has one window, or none
same_window : (packets : List Packet) (from : ℕ) (a b : Option ℕ) → Begins packets from a → Begins packets from b → a ≡ b
same_window packets from None None x y = refl
same_window packets from None (Some j) x y = absurd (x j y.may)
same_window packets from (Some i) None x y = absurd (y i x.may)
same_window packets from (Some i) (Some j) x y = ap Some (one_window packets from i j x y)

-- one stream
module _ (s k from : ℕ) (stream : Stream) (w : StreamWindow) where
  pub unique : (packets : List Packet) → IsStreamWindow s k from stream packets w → window_of from packets ≡ number_in w.begin
  unique packets is = same_window packets from (window_of from packets) (number_in w.begin) (window_is from packets) is.surveys.window

  pub no_packets : (packets : List Packet) → IsStreamWindow s k from stream packets w → w.count ≡ 0 → None ≡ startless from (left s k packets)
  no_packets [] is none = refl
  no_packets (p ∷ later) is none = let e = is.surveys.count in absurd (omega arith)

  pub has_window : (packets : List Packet) (b : Begin) → IsStreamWindow s k from stream packets w → w.begin ≡ Some b → None ≡ startless from (left s k packets)
  has_window [] b is some = refl
  has_window (p ∷ later) b is some =
      let u : window_of from (p ∷ later) ≡ Some b.number = unique (p ∷ later) is ∙ ap number_in some in
      rw u refl

  pub no_window : (packets : List Packet) → IsStreamWindow s k from stream packets w → w.count ≢ 0 → w.begin ≡ None → Some (NoStart w.count) ≡ startless from (left s k packets)
  no_window [] is some none = absurd (some is.surveys.count)
  no_window (p ∷ later) is some none =
      let u : window_of from (p ∷ later) ≡ None = unique (p ∷ later) is ∙ ap number_in none in
      let e : w.count ≡ length (p ∷ later) = is.surveys.count in
      rw u (ap (λ (n : ℕ). Some (NoStart n)) e)

-- The streams from a number on, after those that pass a check.
pub record Rest (check : LeftPackets → Option PathFault) (from : ℕ) (lists : List (List Packet)) (ws : List StreamWindow) (s : ℕ) : Type 0 where
  pub k : ℕ
  pub others : List Stream
  pub later : List (List Packet)
  pub windows : AreWindows s k from others later ws
  pub same : first_fault check (whole lists) ≡ first_fault check (numbered s k later)
  pub few : k + sum_by (λ packets. length packets) later < 2 ^ 32

pub all_rest : (check : LeftPackets → Option PathFault) (from : ℕ) (streams : List Stream) (lists : List (List Packet)) (ws : List StreamWindow) → AreAll from streams lists ws → Rest check from lists ws 0
all_rest check from streams lists ws a = let few = a.few in record { k = 0; others = streams; later = lists; windows = a.windows; same = refl; few = omega arith }

-- the first of the streams that are left
pub record Opened (check : LeftPackets → Option PathFault) (from : ℕ) (lists : List (List Packet)) (w : StreamWindow) (ws : List StreamWindow) (s : ℕ) : Type 0 where
  pub k : ℕ
  pub stream : Stream
  pub packets : List Packet
  pub others : List Stream
  pub later : List (List Packet)
  pub first : IsStreamWindow s k from stream packets w
  pub windows : AreWindows (suc s) (k + length packets) from others later ws
  pub same : first_fault check (whole lists) ≡ first_fault check (left s k packets ∷ numbered (suc s) (k + length packets) later)
  pub few : k + length packets + sum_by (λ packets. length packets) later < 2 ^ 32

pub opened : (check : LeftPackets → Option PathFault) (from : ℕ) (lists : List (List Packet)) (w : StreamWindow) (ws : List StreamWindow) (s : ℕ) → Rest check from lists (w ∷ ws) s → Opened check from lists w ws s
opened check from lists w ws s r = go r.others r.later r.windows r.same r.few where
  go : (others : List Stream) (later : List (List Packet)) → AreWindows s r.k from others later (w ∷ ws) → first_fault check (whole lists) ≡ first_fault check (numbered s r.k later) → r.k + sum_by (λ packets. length packets) later < 2 ^ 32 → Opened check from lists w ws s
  go [] later are same few = let e = are.1 in absurd ((cc))
  go (stream ∷ others) [] are same few = absurd are
  go (stream ∷ others) (packets ∷ later) are same few = record { k = r.k; stream = stream; packets = packets; others = others; later = later; first = are.0; windows = are.1; same = same; few = omega (arith, sum_by-cons (λ (ps : List Packet). length ps) packets later, few) }

pub one_passes : (check : LeftPackets → Option PathFault) (from : ℕ) (lists : List (List Packet)) (w : StreamWindow) (ws : List StreamWindow) (s : ℕ) → Rest check from lists (w ∷ ws) s
    → ((k : ℕ) (stream : Stream) (packets : List Packet) → IsStreamWindow s k from stream packets w → check (left s k packets) ≡ None) → Rest check from lists ws (s + 1)
one_passes check from lists w ws s r passes =
    let o = opened check from lists w ws s r in
    let on : first_fault check (whole lists) ≡ first_fault check (numbered (suc s) (o.k + length o.packets) o.later) = o.same ∙ fault_on check (left s o.k o.packets) (numbered (suc s) (o.k + length o.packets) o.later) (passes o.k o.stream o.packets o.first) in
    rw add-one (record { k = o.k + length o.packets; others = o.others; later = o.later; windows = o.windows; same = on; few = o.few })

pub one_fails : (check : LeftPackets → Option PathFault) (from : ℕ) (lists : List (List Packet)) (w : StreamWindow) (ws : List StreamWindow) (s : ℕ) (e : PathFault) → Rest check from lists (w ∷ ws) s
    → ((k : ℕ) (stream : Stream) (packets : List Packet) → IsStreamWindow s k from stream packets w → Some e ≡ check (left s k packets)) → Some e ≡ first_fault check (whole lists)
one_fails check from lists w ws s e r fails =
    let o = opened check from lists w ws s r in
    sym (o.same ∙ fault_here check (left s o.k o.packets) (numbered (suc s) (o.k + length o.packets) o.later) e (sym (fails o.k o.stream o.packets o.first)))

pub none_fails : (check : LeftPackets → Option PathFault) (from : ℕ) (lists : List (List Packet)) (s : ℕ) → Rest check from lists [] s → None ≡ first_fault check (whole lists)
none_fails check from lists s r = go r.others r.later r.windows r.same where
  go : (others : List Stream) (later : List (List Packet)) → AreWindows s r.k from others later [] → first_fault check (whole lists) ≡ first_fault check (numbered s r.k later) → None ≡ first_fault check (whole lists)
  go [] later are same = sym (same ∙ ap (λ (ls : List (List Packet)). first_fault check (numbered s r.k ls)) are.0)
  go (stream ∷ others) [] are same = absurd are
  go (stream ∷ others) (packets ∷ later) are same = absurd are

-- the packets of the first stream that is left
pub holds_first : (check : LeftPackets → Option PathFault) (from : ℕ) (lists : List (List Packet)) (w : StreamWindow) (ws : List StreamWindow) (s : ℕ) → Rest check from lists (w ∷ ws) s → (packets : List Packet) × Hold (rest_of w.packets) packets × (w.number + length packets < 2 ^ 32)
holds_first check from lists w ws s r =
    let o = opened check from lists w ws s r in
    let number = o.first.number in
    let few = o.few in
    (o.packets, subst (λ (x : Stream). Hold x o.packets) (sym o.first.rest) o.first.surveys.hold, omega (arith, number, few))

-- The streams from a number on, after those that have no packets.
pub record Idle (from : ℕ) (lists : List (List Packet)) (ws : List StreamWindow) (s : ℕ) : Type 0 where
  pub k : ℕ
  pub others : List Stream
  pub later : List (List Packet)
  pub windows : AreWindows s k from others later ws
  pub same : all_idle lists ≡ all_idle later

pub none_idle : (from : ℕ) (streams : List Stream) (lists : List (List Packet)) (ws : List StreamWindow) → AreAll from streams lists ws → Idle from lists ws 0
none_idle from streams lists ws a = record { k = 0; others = streams; later = lists; windows = a.windows; same = refl }

pub idle_on : (from : ℕ) (lists : List (List Packet)) (w : StreamWindow) (ws : List StreamWindow) (s : ℕ) → Idle from lists (w ∷ ws) s → w.count ≡ 0 → Idle from lists ws (s + 1)
idle_on from lists w ws s r none = go r.others r.later r.windows r.same where
  go : (others : List Stream) (later : List (List Packet)) → AreWindows s r.k from others later (w ∷ ws) → all_idle lists ≡ all_idle later → Idle from lists ws (s + 1)
  go [] later are same = let e = are.1 in absurd ((cc))
  go (stream ∷ others) [] are same = absurd are
  go (stream ∷ others) ([] ∷ later) are same = rw add-one (record { k = r.k + 0; others = others; later = later; windows = are.1; same = same })
  go (stream ∷ others) ((p ∷ packets) ∷ later) are same = let e = (are.0).surveys.count in absurd (omega arith)

pub not_idle : (from : ℕ) (lists : List (List Packet)) (w : StreamWindow) (ws : List StreamWindow) (s : ℕ) → Idle from lists (w ∷ ws) s → 0 < w.count → None ≡ all_idle lists
not_idle from lists w ws s r some = go r.others r.later r.windows r.same where
  go : (others : List Stream) (later : List (List Packet)) → AreWindows s r.k from others later (w ∷ ws) → all_idle lists ≡ all_idle later → None ≡ all_idle lists
  go [] later are same = let e = are.1 in absurd ((cc))
  go (stream ∷ others) [] are same = absurd are
  go (stream ∷ others) ([] ∷ later) are same = let e = (are.0).surveys.count in absurd (omega arith)
  go (stream ∷ others) ((p ∷ packets) ∷ later) are same = sym same

pub are_idle : (from : ℕ) (lists : List (List Packet)) (s : ℕ) → Idle from lists [] s → Some (NoStart 0) ≡ all_idle lists
are_idle from lists s r = go r.others r.later r.windows r.same where
  go : (others : List Stream) (later : List (List Packet)) → AreWindows s r.k from others later [] → all_idle lists ≡ all_idle later → Some (NoStart 0) ≡ all_idle lists
  go [] later are same = sym (same ∙ ap all_idle are.0)
  go (stream ∷ others) [] are same = absurd are
  go (stream ∷ others) (packets ∷ later) are same = absurd are

pub fault_last : (o : Option PathFault) → o ≡ first_fault (λ found. found) (o ∷ [])
fault_last None = refl
fault_last (Some e) = refl

pub split : (ws : List StreamWindow) (i : ℕ) (w : StreamWindow) → i < length ws → w ≡ get_or ws i w → drop i ws ≡ w ∷ drop (i + 1) ws
split ws i w within at = at_drop_more (λ (vs : List StreamWindow). vs) ws i w within ∙ ap (λ (v : StreamWindow). v ∷ drop (i + 1) ws) (sym at)

-- the stream of a number is the first of those from it on
pub rest_at : (check : LeftPackets → Option PathFault) (from : ℕ) (lists : List (List Packet)) (ws : List StreamWindow) (i : ℕ) (w : StreamWindow) → i < length ws → w ≡ get_or ws i w → Rest check from lists (drop i ws) i → Rest check from lists (w ∷ drop (i + 1) ws) i
rest_at check from lists ws i w within at r = subst (λ (vs : List StreamWindow). Rest check from lists vs i) (split ws i w within at) r

pub rest_end : (check : LeftPackets → Option PathFault) (from : ℕ) (lists : List (List Packet)) (ws : List StreamWindow) (i : ℕ) → length ws ≤ i → Rest check from lists (drop i ws) i → Rest check from lists [] i
rest_end check from lists ws i past r = subst (λ (vs : List StreamWindow). Rest check from lists vs i) (at_drop_all (λ (vs : List StreamWindow). vs) ws i past) r

pub idle_at : (from : ℕ) (lists : List (List Packet)) (ws : List StreamWindow) (i : ℕ) (w : StreamWindow) → i < length ws → w ≡ get_or ws i w → Idle from lists (drop i ws) i → Idle from lists (w ∷ drop (i + 1) ws) i
idle_at from lists ws i w within at r = subst (λ (vs : List StreamWindow). Idle from lists vs i) (split ws i w within at) r

pub idle_end : (from : ℕ) (lists : List (List Packet)) (ws : List StreamWindow) (i : ℕ) → length ws ≤ i → Idle from lists (drop i ws) i → Idle from lists [] i
idle_end from lists ws i past r = subst (λ (vs : List StreamWindow). Idle from lists vs i) (at_drop_all (λ (vs : List StreamWindow). vs) ws i past) r

-- what is told of what is read is told of the stream
pub back_of : (s k from : ℕ) (stream : Stream) (packets : List Packet) (w : StreamWindow) (found : Option PathFault) → IsStreamWindow s k from stream packets w → ((list : List Packet) → Hold (rest_of w.packets) list → found ≡ back_from w.number [] list) → found ≡ time_back (left s k packets)
back_of s k from stream packets w found is told = told packets (subst (λ (x : Stream). Hold x packets) (sym is.rest) is.surveys.hold) ∙ ap (λ (n : ℕ). back_from n [] packets) is.number
