-- What is left of streams from a time on.
use Rattle.std.proofs.Common.{◌≡◌, map, max, ℕ, suc, ◌+◌, ◌<◌, ◌≤◌, ◌^◌, nat_le, List, [], ◌∷◌, ◌++◌, length, drop, get_or, Bool, true, false, not, cond, ◌&&◌, Option, Some, None, Ok, refl, sym, ◌∙◌, ap, subst, arith, append_assoc, length-drop, inl, inr}
use Rattle.std.specs.List.{filter_map, cons_option, sum_by}
use Rattle.std.proofs.lemmas.List.{append-nil, at_drop_all}
use Rattle.std.proofs.lemmas.Bool.Decides.{leb_tells}
use Rattle.std.proofs.lemmas.List.Sums.{prefix_len-le-length, sum_by-cons, sum_by_push}
use Rattle.rept_trace.specs.declared.packet.Packet.{Packet}
use Rattle.rept_trace.specs.declared.packets.Packets.{Packets}
use Rattle.rept_trace.specs.Packets.{rest_of}
use Rattle.rept_trace.specs.Stream.{Hold, AnswersNext}
use Rattle.rept_trace.proofs.Going.{one_list}
use Rattle.rept_path.specs.declared.window.Begin.{Begin}
use Rattle.rept_path.proofs.Packeting.{taken, none_left}
use Rattle.rept_streams.specs.Slices.Stamps.{clock_of, is_start}
use Rattle.rept_streams.specs.Slices.Parts.{LeftPackets}
use Rattle.rept_streams.specs.Slices.Skipping.{opening, full_from, greatest, from_time}
use Rattle.rept_streams.specs.Slices.Lefts.{BeginsWith, IsLeftBy, IsLeft, AreLeft, later_of, later_by, before_time, BeginsFrom}
use Rattle.rept_streams.specs.declared.slices.reading.StreamWindow.{StreamWindow}
use Rattle.rept_streams.proofs.SlicesLemmas.Checking.{split}
use Rattle.rept_streams.proofs.SlicesLemmas.Going.{Bytes}
use Rattle.rept_streams.proofs.SlicesLemmas.WindowLemmas.{split_left}

pub later_is : (a b : ℕ) → later_of a b ≡ max a b
later_is a b = elim (leb_tells a b) [
  | inl t ↦ let le = t.1 in rw t.0 (omega arith)
  | inr t ↦ let lt = t.1 in rw t.0 (omega arith)
]

-- the greatest of times, one more of which was looked at
later_on : (a : ℕ) (o : Option ℕ) (l : LeftPackets) (ls : List LeftPackets) → opening l ≡ o → later_of a (full_from (l ∷ ls)) ≡ later_of (later_by a o) (full_from ls)
later_on a None l ls e = ap (λ (o : Option ℕ). later_of a (greatest (cons_option o (filter_map opening ls)))) e
later_on a (Some n) l ls e =
    let g = full_from ls in
    let x : later_of a (full_from (l ∷ ls)) ≡ later_of a (later_of n (full_from ls)) = ap (λ (o : Option ℕ). later_of a (greatest (cons_option o (filter_map opening ls)))) e in
    let y : later_of a (later_of n (full_from ls)) ≡ max a (max n (full_from ls)) = later_is a (later_of n (full_from ls)) ∙ ap (λ (m : ℕ). max a m) (later_is n (full_from ls)) in
    let z : later_of (later_of a n) (full_from ls) ≡ max (max a n) (full_from ls) = later_is (later_of a n) (full_from ls) ∙ ap (λ (m : ℕ). max m (full_from ls)) (later_is a n) in
    let w : max a (max n (full_from ls)) ≡ max (max a n) (full_from ls) = omega arith in
    x ∙ y ∙ w ∙ sym z

pub opens : (w : StreamWindow) (l : LeftPackets) → IsLeft w l → (o : Option Begin) → w.begin ≡ o → IsLeftBy l w.number o
opens w l is o e = subst (λ (b : Option Begin). IsLeftBy l w.number b) e is.begin

first_time_of : (l : LeftPackets) (packets : List Packet) → l.packets ≡ packets → opening l ≡ opening (record { stream = l.stream; number = l.number; packets = packets })
first_time_of l packets e = ap (λ (ps : List Packet). opening (record { stream = l.stream; number = l.number; packets = ps })) e

pub opens_never : (w : StreamWindow) (l : LeftPackets) → IsLeft w l → w.begin ≡ None → None ≡ opening l
opens_never w l is none = sym (first_time_of l [] (opens w l is None none))

pub opens_at : (w : StreamWindow) (l : LeftPackets) (b : Begin) → IsLeft w l → w.begin ≡ Some b → Some (clock_of b.first) ≡ opening l
opens_at w l b is some = let t = opens w l is (Some b) some in sym (first_time_of l (b.first ∷ t.later) t.packets)

-- The greatest so far, and what is left.
pub record Greatest (lefts : List LeftPackets) (ws : List StreamWindow) (now : ℕ) : Type 0 where
  pub later : List LeftPackets
  pub left : AreLeft ws later
  pub same : full_from lefts ≡ later_of now (full_from later)

pub none_greatest : (lefts : List LeftPackets) (ws : List StreamWindow) → AreLeft ws lefts → Greatest lefts ws 0
none_greatest lefts ws a = record { later = lefts; left = a; same = let e = later_is 0 (full_from lefts) in omega (arith, e) }

pub one_greatest : (lefts : List LeftPackets) (ws : List StreamWindow) (i : ℕ) (w : StreamWindow) (now : ℕ) (o : Option ℕ) → i < length ws → w ≡ get_or ws i w → ((l : LeftPackets) → IsLeft w l → o ≡ opening l) → Greatest lefts (drop i ws) now → Greatest lefts (drop (i + 1) ws) (later_by now o)
one_greatest lefts ws i w now o within at opened g =
    let s = split_left w (drop (i + 1) ws) g.later (subst (λ (vs : List StreamWindow). AreLeft vs g.later) (split ws i w within at) g.left) in
    record {
      later = s.1;
      left = s.4;
      same = g.same ∙ ap (λ (ls : List LeftPackets). later_of now (full_from ls)) s.2 ∙ later_on now o s.0 s.1 (sym (opened s.0 s.3));
    }

pub all_greatest : (lefts : List LeftPackets) (ws : List StreamWindow) (i now : ℕ) → length ws ≤ i → Greatest lefts (drop i ws) now → now ≡ full_from lefts
all_greatest lefts ws i now past g =
    let none : g.later ≡ [] = subst (λ (vs : List StreamWindow). AreLeft vs g.later) (at_drop_all (λ (vs : List StreamWindow). vs) ws i past) g.left in
    let e : full_from lefts ≡ later_of now 0 = g.same ∙ ap (λ (ls : List LeftPackets). later_of now (full_from ls)) none in
    let m = later_is now 0 in
    omega (arith, e, m)

pub before_few : (time : ℕ) (packets : List Packet) → before_time time packets ≤ length packets
before_few time packets = prefix_len-le-length (λ p. not (is_start p && nat_le time (clock_of p))) packets

-- one packet more before that time
abbrev starts_at : ℕ → Packet → Bool
starts_at time p = is_start p && nat_le time (clock_of p)

before_on : (time : ℕ) (p : Packet) (later : List Packet) → starts_at time p ≡ false → before_time time (p ∷ later) ≡ suc (before_time time later)
before_on time p later e = ap (λ (b : Bool). cond (not b) (1 + before_time time later) 0) e ∙ (let h : 1 + before_time time later ≡ suc (before_time time later) = omega arith in h)

before_here : (time : ℕ) (p : Packet) (later : List Packet) → starts_at time p ≡ true → before_time time (p ∷ later) ≡ 0
before_here time p later e = ap (λ (b : Bool). cond (not b) (1 + before_time time later) 0) e

-- Those before it that were passed over, and the packets that are left.
pub record Passing (time number : ℕ) (wanted : List Packet → List Packet) (all : Bytes) (now : ℕ) (rest : Bytes) : Type 0 where
  pub more : List Packet
  pub hold : Hold rest more
  pub same : (list : List Packet) → Hold all list → drop (before_time time (wanted list)) (wanted list) ≡ drop (before_time time more) more
  pub count : (list : List Packet) → Hold all list → number + before_time time (wanted list) ≡ now + before_time time more
  pub few : now + length more < 2 ^ 32

pub here_first : (time number : ℕ) (b : Begin) (list : List Packet) → Hold (rest_of b.later) list → number ≡ b.number → starts_at time b.first ≡ true → BeginsFrom time number (b.first ∷ list) (Some b)
here_first time number b list h same e =
    let n = before_here time b.first list e in
    (list, h, ap (λ (k : ℕ). drop k (b.first ∷ list)) n, omega (arith, n, same))

pub passes_first : (time number : ℕ) (first : Packet) (all : Bytes) (list : List Packet) → Hold all list → number + 1 + length list < 2 ^ 32 → starts_at time first ≡ false → Passing time number (λ list. first ∷ list) all (number + 1) all
passes_first time number first all list h few e = record {
  more = list;
  hold = h;
  same = λ other k. ap (λ (n : ℕ). drop n (first ∷ other)) (before_on time first other e) ∙ ap (λ (xs : List Packet). drop (before_time time xs) xs) (one_list all other list k h);
  count = λ other k.
      let n = before_on time first other e in
      let same : before_time time other ≡ before_time time list = ap (before_time time) (one_list all other list k h) in
      omega (arith, n, same);
  few = few;
}

module _ (time number : ℕ) (wanted : List Packet → List Packet) (all : Bytes) (now : ℕ) (rest : Bytes) (t : Passing time number wanted all now rest) where
  module _ (key n : ℕ) (after : Packets) (p : Packet) (a : AnswersNext key rest (Ok (Some p)) n (rest_of after)) where
    left : (later : List Packet) × (t.more ≡ p ∷ later) × Hold (rest_of after) later
    left = taken key n rest (rest_of after) p t.more t.hold a

    pub passes_on : starts_at time p ≡ false → Passing time number wanted all (now + 1) (rest_of after)
    passes_on e =
        let fewer = ap (length {A = Packet}) left.1 in
        let few = t.few in
        record {
          more = left.0;
          hold = left.2;
          same = λ list h. t.same list h ∙ ap (λ (xs : List Packet). drop (before_time time xs) xs) left.1 ∙ ap (λ (m : ℕ). drop m (p ∷ left.0)) (before_on time p left.0 e);
          count = λ list h.
              let c = t.count list h in
              let m : before_time time t.more ≡ suc (before_time time left.0) = ap (before_time time) left.1 ∙ before_on time p left.0 e in
              omega (arith, c, m);
          few = omega (arith, fewer, few);
        }

    pub passes_room : now + 1 < 2 ^ 32
    passes_room =
        let fewer = ap (length {A = Packet}) left.1 in
        let few = t.few in
        omega (arith, fewer, few)

    pub passes_to : starts_at time p ≡ true → (list : List Packet) → Hold all list → BeginsFrom time number (wanted list) (Some (record { number = now; first = p; later = after }))
    passes_to e list h =
        let c = t.count list h in
        let m : before_time time t.more ≡ 0 = ap (before_time time) left.1 ∙ before_here time p left.0 e in
        let d : drop (before_time time (wanted list)) (wanted list) ≡ p ∷ left.0 = t.same list h ∙ ap (λ (k : ℕ). drop k t.more) m ∙ left.1 in
        (left.0, left.2, d, omega (arith, c, m))

  pub passes_all : (key n : ℕ) (after : Bytes) → AnswersNext key rest (Ok None) n after → (list : List Packet) → Hold all list → BeginsFrom time number (wanted list) None
  passes_all key n after a list h =
      let none = none_left key n rest after t.more t.hold a in
      t.same list h ∙ ap (λ (xs : List Packet). drop (before_time time xs) xs) none

-- what is left of one stream
module _ (time : ℕ) (w : StreamWindow) (l : LeftPackets) (is : IsLeft w l) where
  pub none_kept : w.begin ≡ None → IsLeftBy (from_time time l) w.number None
  none_kept none = ap (λ (ps : List Packet). drop (before_time time ps) ps) (opens w l is None none)

  module _ (b : Begin) (some : w.begin ≡ Some b) where
    pub opened : BeginsWith l w.number b
    opened = opens w l is (Some b) some

    pub begin_room : b.number + 1 + length opened.later < 2 ^ 32
    begin_room =
        let e = ap (length {A = Packet}) opened.packets in
        let n = opened.number in
        let few = is.few in
        omega (arith, e, n, few)

    pub some_kept : (o : Option Begin) → BeginsFrom time b.number (b.first ∷ opened.later) o → IsLeftBy (from_time time l) w.number o
    some_kept None h = ap (λ (ps : List Packet). drop (before_time time ps) ps) opened.packets ∙ h
    some_kept (Some new) h =
        let n = opened.number in
        let m = ap (before_time time) opened.packets in
        let k = h.3 in
        record {
          later = h.0;
          hold = h.1;
          packets = ap (λ (ps : List Packet). drop (before_time time ps) ps) opened.packets ∙ h.2;
          number = omega (arith, n, m, k);
        }

  pub is_kept : (new : StreamWindow) → new.stream ≡ w.stream → new.number ≡ w.number → new.count ≡ w.count → IsLeftBy (from_time time l) w.number new.begin → IsLeft new (from_time time l)
  is_kept new stream number count begin =
      let few = is.few in
      let ends = is.ends in
      let d = length-drop (before_time time l.packets) l.packets in
      let m = before_few time l.packets in
      record {
        stream = stream ∙ is.stream;
        begin = subst (λ (n : ℕ). IsLeftBy (from_time time l) n new.begin) (sym number) begin;
        ends = omega (arith, ends, d, m, number, count);
        few = omega (arith, few, d, m);
      }

-- What is left of those that were looked at, and of the others.
pub record Keeps (time : ℕ) (lefts : List LeftPackets) (ws : List StreamWindow) (now : List StreamWindow) : Type 0 where
  pub later : List LeftPackets
  pub left : AreLeft ws later
  pub done : List LeftPackets
  pub are : AreLeft now done
  pub same : map (from_time time) lefts ≡ done ++ map (from_time time) later

pub none_keeps : (time : ℕ) (lefts : List LeftPackets) (ws : List StreamWindow) → AreLeft ws lefts → Keeps time lefts ws []
none_keeps time lefts ws a = record { later = lefts; left = a; done = []; are = refl; same = refl }

AreLeft-push : (ws : List StreamWindow) (ls : List LeftPackets) (w : StreamWindow) (l : LeftPackets) → AreLeft ws ls → IsLeft w l → AreLeft (ws ++ w ∷ []) (ls ++ l ∷ [])
AreLeft-push [] ls w l a h = subst (λ (ks : List LeftPackets). AreLeft (w ∷ []) (ks ++ l ∷ [])) (sym a) (h, refl)
AreLeft-push (v ∷ ws) [] w l a h = absurd a
AreLeft-push (v ∷ ws) (k ∷ ls) w l a h = (a.0, AreLeft-push ws ls w l a.1 h)

pub first_kept : (time : ℕ) (lefts : List LeftPackets) (ws : List StreamWindow) (i : ℕ) (w : StreamWindow) (now : List StreamWindow) → i < length ws → w ≡ get_or ws i w → Keeps time lefts (drop i ws) now → (l : LeftPackets) × IsLeft w l
first_kept time lefts ws i w now within at g =
    let s = split_left w (drop (i + 1) ws) g.later (subst (λ (vs : List StreamWindow). AreLeft vs g.later) (split ws i w within at) g.left) in
    (s.0, s.3)

pub one_kept : (time : ℕ) (lefts : List LeftPackets) (ws : List StreamWindow) (i : ℕ) (w new : StreamWindow) (now : List StreamWindow) → i < length ws → w ≡ get_or ws i w → ((l : LeftPackets) → IsLeft w l → IsLeft new (from_time time l)) → Keeps time lefts (drop i ws) now → Keeps time lefts (drop (i + 1) ws) (now ++ new ∷ [])
one_kept time lefts ws i w new now within at kept g =
    let s = split_left w (drop (i + 1) ws) g.later (subst (λ (vs : List StreamWindow). AreLeft vs g.later) (split ws i w within at) g.left) in
    record {
      later = s.1;
      left = s.4;
      done = g.done ++ from_time time s.0 ∷ [];
      are = AreLeft-push now g.done new (from_time time s.0) g.are (kept s.0 s.3);
      same = g.same ∙ ap (λ (ls : List LeftPackets). g.done ++ map (from_time time) ls) s.2 ∙ sym (append_assoc g.done (from_time time s.0 ∷ []) (map (from_time time) s.1));
    }

pub all_kept : (time : ℕ) (lefts : List LeftPackets) (ws : List StreamWindow) (i : ℕ) (now : List StreamWindow) → length ws ≤ i → Keeps time lefts (drop i ws) now → AreLeft now (map (from_time time) lefts)
all_kept time lefts ws i now past g =
    let none : g.later ≡ [] = subst (λ (vs : List StreamWindow). AreLeft vs g.later) (at_drop_all (λ (vs : List StreamWindow). vs) ws i past) g.left in
    let e : map (from_time time) lefts ≡ g.done = g.same ∙ ap (λ (ls : List LeftPackets). g.done ++ map (from_time time) ls) none ∙ append-nil g.done in
    subst (λ (ls : List LeftPackets). AreLeft now ls) (sym e) g.are

-- how many packets are counted
abbrev counted : List StreamWindow → ℕ
counted ws = sum_by (λ (w : StreamWindow). w.count) ws

pub one_counted : (ws : List StreamWindow) (i : ℕ) (w new : StreamWindow) (now : List StreamWindow) → i < length ws → w ≡ get_or ws i w → new.count ≡ w.count → counted now + counted (drop i ws) ≡ counted ws → counted (now ++ new ∷ []) + counted (drop (i + 1) ws) ≡ counted ws
one_counted ws i w new now within at count h =
    let a = sum_by_push (λ (v : StreamWindow). v.count) now new in
    let b = ap counted (split ws i w within at) in
    let c = sum_by-cons (λ (v : StreamWindow). v.count) w (drop (i + 1) ws) in
    omega (arith, a, b, c, count, h)

pub all_counted : (ws : List StreamWindow) (i : ℕ) (now : List StreamWindow) → length ws ≤ i → counted now + counted (drop i ws) ≡ counted ws → counted now ≡ counted ws
all_counted ws i now past h =
    let e = at_drop_all counted ws i past in
    omega (arith, e, h)

-- The streams that are left, after so many of those before them of which a packet is left.
pub record Opens (lefts : List LeftPackets) (ws : List StreamWindow) (now : ℕ) : Type 0 where
  pub later : List LeftPackets
  pub left : AreLeft ws later
  pub same : length (filter_map opening lefts) ≡ now + length (filter_map opening later)

pub none_opens : (lefts : List LeftPackets) (ws : List StreamWindow) → AreLeft ws lefts → Opens lefts ws 0
none_opens lefts ws a = record { later = lefts; left = a; same = omega arith }

more_opens : (o : Option ℕ) (ns : List ℕ) → length (cons_option o ns) ≡ length (cons_option o []) + length ns
more_opens None ns = omega arith
more_opens (Some n) ns = omega arith

pub one_opens : (lefts : List LeftPackets) (ws : List StreamWindow) (i : ℕ) (w : StreamWindow) (now n : ℕ) → i < length ws → w ≡ get_or ws i w → ((l : LeftPackets) → IsLeft w l → n ≡ length (cons_option (opening l) [])) → Opens lefts (drop i ws) now → Opens lefts (drop (i + 1) ws) (now + n)
one_opens lefts ws i w now n within at opened g =
    let s = split_left w (drop (i + 1) ws) g.later (subst (λ (vs : List StreamWindow). AreLeft vs g.later) (split ws i w within at) g.left) in
    let a = g.same in
    let b = ap (λ (ls : List LeftPackets). length (filter_map opening ls)) s.2 in
    let c = more_opens (opening s.0) (filter_map opening s.1) in
    let d = opened s.0 s.3 in
    record { later = s.1; left = s.4; same = omega (arith, a, b, c, d) }

pub all_opens : (lefts : List LeftPackets) (ws : List StreamWindow) (i now : ℕ) → length ws ≤ i → Opens lefts (drop i ws) now → now ≡ length (filter_map opening lefts)
all_opens lefts ws i now past g =
    let none : g.later ≡ [] = subst (λ (vs : List StreamWindow). AreLeft vs g.later) (at_drop_all (λ (vs : List StreamWindow). vs) ws i past) g.left in
    let a = g.same in
    let b = ap (λ (ls : List LeftPackets). length (filter_map opening ls)) none in
    omega (arith, a, b)
