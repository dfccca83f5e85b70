-- Packets whose times don't go back, and the times of the slices that they tell.
use Rattle.std.proofs.Common.{map, ◌≡◌, inl, inr, ℕ, zero, suc, ◌+◌, ◌≤◌, nat_le, List, [], ◌∷◌, ◌++◌, drop, length, not, ◌&&◌, Bool, true, false, cond, Option, Some, None, refl, arith, ◌||◌}
use Rattle.std.specs.Prelude.{unwrap_or}
use Rattle.std.specs.List.{list_any, cons_option, filter_map, prefix_len}
use Rattle.std.specs.Option.{option_or}
use Rattle.std.proofs.lemmas.Bool.Decides.{leb_tells}
use Rattle.rept_trace.specs.declared.packet.Packet.{Packet}
use Rattle.rept_path.specs.declared.fault.PathFault.{PathFault}
use Rattle.rept_path.specs.declared.fault.PathFault.TheVariants.{TimeBack}
use Rattle.rept_streams.specs.Slices.Stamps.{stamp_of, clock_of, is_start, is_before, running_after}
use Rattle.rept_streams.specs.Slices.Parts.{LeftPackets, ToldSlice, begin_of, told_from, told_in, slices_told, first_time, beyond, inner, never}
use Rattle.rept_streams.specs.Slices.Order.{head_of}
use Rattle.rept_streams.specs.Slices.Skipping.{numbered, whole, skip, windows, window_of, full_from, kept}
use Rattle.rept_streams.specs.Slices.Checks.{back_from, time_back, startless, all_idle, stranger, first_fault, check}
use Rattle.rept_streams.proofs.SlicesLemmas.InTime.{Each}

-- A packet is of no time before this one.
abbrev pub NotBefore : ℕ → Option ℕ → Type 0
NotBefore n None = Unit {0}
NotBefore n (Some time) = n ≤ time

abbrev pub From : ℕ → List Packet → Type 0
From n [] = Unit {0}
From n (p ∷ later) = NotBefore n (stamp_of p) × From n later

-- No packet is of a time before that of an earlier one.
abbrev pub Calm : List Packet → Type 0
Calm [] = Unit {0}
Calm (p ∷ later) = From (clock_of p) later × Calm later

either_false : (a b : Bool) → (a || b) ≡ false → (a ≡ false) × (b ≡ false)
either_false true b h = absurd (cc)
either_false false b h = (refl, h)

not_before : (n : ℕ) (o p : Option ℕ) → unwrap_or o 0 ≡ n → is_before p o ≡ false → NotBefore n p
not_before n o None is h = tt
not_before n None (Some time) is h = let e : 0 ≡ n = is in omega (arith, e)
not_before n (Some m) (Some time) is h = let e : m ≡ n = is in elim (leb_tells (suc time) m) [ inl t ↦ absurd (let k = rw t.0 at h in cc) | inr t ↦ (let le = t.1 in omega (arith, e, le)) ]

-- each packet later than one is of no time before it
none_back : (k : ℕ) (earlier : List Packet) (p : Packet) (later : List Packet) → back_from k earlier (p ∷ later) ≡ None → (list_any (λ q. is_before (stamp_of p) (stamp_of q)) earlier ≡ false) × (back_from (suc k) (p ∷ earlier) later ≡ None)
none_back k earlier p later h = go (list_any (λ q. is_before (stamp_of p) (stamp_of q)) earlier) refl h where
  go : (b : Bool) → list_any (λ q. is_before (stamp_of p) (stamp_of q)) earlier ≡ b → cond b (Some (TimeBack k)) (back_from (suc k) (p ∷ earlier) later) ≡ None → (list_any (λ q. is_before (stamp_of p) (stamp_of q)) earlier ≡ false) × (back_from (suc k) (p ∷ earlier) later ≡ None)
  go true is h = absurd (cc)
  go false is h = (is, h)

-- those from a place on aren't before any of the packets before it
all_from : (k : ℕ) (front : List Packet) (p : Packet) (earlier later : List Packet) → back_from k (front ++ p ∷ earlier) later ≡ None → From (clock_of p) later
all_from k front p earlier [] h = tt
all_from k front p earlier (q ∷ later) h =
    let n = none_back k (front ++ p ∷ earlier) q later h in
    (pick front n.0, all_from (suc k) (q ∷ front) p earlier later n.1)
  where
    pick : (front : List Packet) → list_any (λ r. is_before (stamp_of q) (stamp_of r)) (front ++ p ∷ earlier) ≡ false → NotBefore (clock_of p) (stamp_of q)
    pick [] a = let b = either_false (is_before (stamp_of q) (stamp_of p)) (list_any (λ r. is_before (stamp_of q) (stamp_of r)) earlier) a in not_before (clock_of p) (stamp_of p) (stamp_of q) refl b.0
    pick (x ∷ front) a = let b = either_false (is_before (stamp_of q) (stamp_of x)) (list_any (λ r. is_before (stamp_of q) (stamp_of r)) (front ++ p ∷ earlier)) a in pick front b.1

calm_from : (k : ℕ) (earlier packets : List Packet) → back_from k earlier packets ≡ None → Calm packets
calm_from k earlier [] h = tt
calm_from k earlier (p ∷ later) h =
    let n = none_back k earlier p later h in
    (all_from (suc k) [] p earlier later n.1, calm_from (suc k) (p ∷ earlier) later n.1)

from_drop : (n k : ℕ) (packets : List Packet) → From n packets → From n (drop k packets)
from_drop n zero packets h = h
from_drop n (suc k) [] h = tt
from_drop n (suc k) (p ∷ packets) h = from_drop n k packets h.1

pub calm_drop : (k : ℕ) (packets : List Packet) → Calm packets → Calm (drop k packets)
calm_drop zero packets h = h
calm_drop (suc k) [] h = tt
calm_drop (suc k) (p ∷ packets) h = calm_drop k packets h.1

from_first : (n : ℕ) (packets : List Packet) → From n packets → NotBefore n (first_time packets)
from_first n [] h = tt
from_first n (p ∷ later) h = go (stamp_of p) h.0 (from_first n later h.1) where
  go : (o : Option ℕ) → NotBefore n o → NotBefore n (first_time later) → NotBefore n (option_or o (first_time later))
  go None k rest = rest
  go (Some time) k rest = k

-- What a slice's stream tells after its start packet is of no time before its begin.
abbrev pub OnTime : ToldSlice → Type 0
OnTime t = From (begin_of t) t.later

pub ends_late : (t : ToldSlice) → OnTime t → NotBefore (begin_of t) (first_time (beyond t))
ends_late t h = from_first (begin_of t) (beyond t) (from_drop (begin_of t) (inner t) t.later h)

told_on_time : (s k : ℕ) (inside : Option ℕ) (packets : List Packet) → Calm packets → Each OnTime (told_from s k inside packets)
told_on_time s k inside [] h = tt
told_on_time s k inside (p ∷ later) h = go (is_start p) (told_on_time s (suc k) (running_after p inside) later h.1) where
  here : ToldSlice
  here = record { stream = s; number = k; start = p; later = later; inside = inside }

  go : (b : Bool) → Each OnTime (told_from s (suc k) (running_after p inside) later) → Each OnTime (cond b (here ∷ told_from s (suc k) (running_after p inside) later) (told_from s (suc k) (running_after p inside) later))
  go true rest = (h.0, rest)
  go false rest = rest

pub each_append : {A : Type 0} (P : A → Type 0) (xs ys : List A) → Each P xs → Each P ys → Each P (xs ++ ys)
each_append P [] ys a b = b
each_append P (x ∷ xs) ys a b = (a.0, each_append P xs ys a.1 b)

-- What holds of the packets of each stream, and of those from any place on, holds of those that are
-- left.
module _ (Q : List Packet → Type 0) (dropped : (k : ℕ) (packets : List Packet) → Q packets → Q (drop k packets)) where
  abbrev pub LeftIs : LeftPackets → Type 0
  LeftIs l = Q l.packets

  skipped_keep : (f : LeftPackets → ℕ) (lefts : List LeftPackets) → Each LeftIs lefts → Each LeftIs (map (λ l. skip (f l) l) lefts)
  skipped_keep f [] h = tt
  skipped_keep f (l ∷ lefts) h = (dropped (f l) l.packets h.0, skipped_keep f lefts h.1)

  pub kept_keep : (from : ℕ) (streams : List (List Packet)) → Each LeftIs (whole streams) → Each LeftIs (kept from streams)
  kept_keep from streams h =
      skipped_keep (λ l. prefix_len (λ p. not (is_start p && nat_le (full_from (windows from streams)) (clock_of p))) l.packets) (windows from streams)
      (skipped_keep (λ l. unwrap_or (window_of from l.packets) 0) (whole streams) h)

abbrev CalmLeft : LeftPackets → Type 0
CalmLeft l = Calm l.packets

all_on_time : (lefts : List LeftPackets) → Each CalmLeft lefts → Each OnTime (slices_told lefts)
all_on_time [] h = tt
all_on_time (l ∷ lefts) h = each_append OnTime (told_in l) (slices_told lefts) (told_on_time l.stream l.number None l.packets h.0) (all_on_time lefts h.1)

-- a slice that begins at a time that can be told
abbrev pub CanTell : ToldSlice → Type 0
CanTell t = begin_of t ≤ never

abbrev pub CanBe : Packet → Type 0
CanBe p = clock_of p ≤ never

can_drop : (k : ℕ) (packets : List Packet) → Each CanBe packets → Each CanBe (drop k packets)
can_drop zero packets h = h
can_drop (suc k) [] h = tt
can_drop (suc k) (p ∷ packets) h = can_drop k packets h.1

told_can : (s k : ℕ) (inside : Option ℕ) (packets : List Packet) → Each CanBe packets → Each CanTell (told_from s k inside packets)
told_can s k inside [] h = tt
told_can s k inside (p ∷ later) h = go (is_start p) (told_can s (suc k) (running_after p inside) later h.1) where
  here : ToldSlice
  here = record { stream = s; number = k; start = p; later = later; inside = inside }

  go : (b : Bool) → Each CanTell (told_from s (suc k) (running_after p inside) later) → Each CanTell (cond b (here ∷ told_from s (suc k) (running_after p inside) later) (told_from s (suc k) (running_after p inside) later))
  go true rest = (h.0, rest)
  go false rest = rest

all_can : (lefts : List LeftPackets) → Each (λ (l : LeftPackets). Each CanBe l.packets) lefts → Each CanTell (slices_told lefts)
all_can [] h = tt
all_can (l ∷ lefts) h = each_append CanTell (told_in l) (slices_told lefts) (told_can l.stream l.number None l.packets h.0) (all_can lefts h.1)

numbered_can : (s k : ℕ) (streams : List (List Packet)) → Each (Each CanBe) streams → Each (λ (l : LeftPackets). Each CanBe l.packets) (numbered s k streams)
numbered_can s k [] h = tt
numbered_can s k (packets ∷ others) h = (h.0, numbered_can (suc s) (k + length packets) others h.1)

pub left_can : (from : ℕ) (streams : List (List Packet)) → Each (Each CanBe) streams → Each CanTell (slices_told (kept from streams))
left_can from streams h = all_can (kept from streams) (kept_keep (Each CanBe) can_drop from streams (numbered_can 0 0 streams h))

-- the first of a list of checks
pub none_first : {A : Type 0} (find : A → Option PathFault) (x : A) (xs : List A) → first_fault find (x ∷ xs) ≡ None → (find x ≡ None) × (first_fault find xs ≡ None)
none_first find x xs h = go (find x) refl h where
  go : (o : Option PathFault) → find x ≡ o → head_of (cons_option o (filter_map find xs)) ≡ None → (find x ≡ None) × (first_fault find xs ≡ None)
  go None is h = (is, h)
  go (Some e) is h = absurd (cc)

calm_left : (lefts : List LeftPackets) → first_fault time_back lefts ≡ None → Each CalmLeft lefts
calm_left [] h = tt
calm_left (l ∷ lefts) h =
    let n = none_first time_back l lefts h in
    (calm_from l.number [] l.packets n.0, calm_left lefts n.1)

-- Where the checks find nothing, the slices that are left are on time.
pub left_on_time : (from : ℕ) (threads : List ℕ) (streams : List (List Packet)) → check from threads streams ≡ None → Each OnTime (slices_told (kept from streams))
left_on_time from threads streams h =
    let n = none_first (λ found. found) (first_fault time_back (whole streams)) (first_fault (startless from) (whole streams) ∷ all_idle streams ∷ first_fault (stranger threads) (slices_told (kept from streams)) ∷ []) h in
    all_on_time (kept from streams) (kept_keep Calm calm_drop from streams (calm_left (whole streams) n.0))

-- What a slice's stream tells from its start packet on doesn't go back.
abbrev pub CalmTold : ToldSlice → Type 0
CalmTold t = Calm (t.start ∷ t.later)

told_calm : (s k : ℕ) (inside : Option ℕ) (packets : List Packet) → Calm packets → Each CalmTold (told_from s k inside packets)
told_calm s k inside [] h = tt
told_calm s k inside (p ∷ later) h = go (is_start p) (told_calm s (suc k) (running_after p inside) later h.1) where
  here : ToldSlice
  here = record { stream = s; number = k; start = p; later = later; inside = inside }

  go : (b : Bool) → Each CalmTold (told_from s (suc k) (running_after p inside) later) → Each CalmTold (cond b (here ∷ told_from s (suc k) (running_after p inside) later) (told_from s (suc k) (running_after p inside) later))
  go true rest = (h, rest)
  go false rest = rest

all_told_calm : (lefts : List LeftPackets) → Each CalmLeft lefts → Each CalmTold (slices_told lefts)
all_told_calm [] h = tt
all_told_calm (l ∷ lefts) h = each_append CalmTold (told_in l) (slices_told lefts) (told_calm l.stream l.number None l.packets h.0) (all_told_calm lefts h.1)

pub left_calm : (from : ℕ) (threads : List ℕ) (streams : List (List Packet)) → check from threads streams ≡ None → Each CalmTold (slices_told (kept from streams))
left_calm from threads streams h =
    let n = none_first (λ found. found) (first_fault time_back (whole streams)) (first_fault (startless from) (whole streams) ∷ all_idle streams ∷ first_fault (stranger threads) (slices_told (kept from streams)) ∷ []) h in
    all_told_calm (kept from streams) (kept_keep Calm calm_drop from streams (calm_left (whole streams) n.0))
