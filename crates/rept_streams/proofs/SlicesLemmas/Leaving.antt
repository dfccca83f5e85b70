-- The slices that are left of those of a window.
use Rattle.std.proofs.Common.{◌≡◌, map, ℕ, suc, ◌+◌, nat_le, List, [], ◌∷◌, ◌++◌, drop, Bool, true, false, not, cond, ◌&&◌, Option, None, refl, sym, ◌∙◌, ap, subst, arith}
use Rattle.std.specs.List.{flat_map}
use Rattle.rept_trace.specs.declared.packet.Packet.{Packet}
use Rattle.rept_trace.specs.declared.packet.Packet.TheVariants.{Start, Context, Support, Address, Map, MapAddress}
use Rattle.rept_streams.specs.Slices.Stamps.{clock_of, is_start, running_after}
use Rattle.rept_streams.specs.Slices.Parts.{LeftPackets, ToldSlice, begin_of, told_from, told_in, slices_told}
use Rattle.rept_streams.specs.Slices.Skipping.{from_time}
use Rattle.rept_streams.specs.Slices.Lefts.{before_time}
use Rattle.rept_streams.specs.Slices.Entries.{IsEntryOf, AreEntriesOf, with_head, entries_from}
use Rattle.rept_streams.specs.declared.slices.telling.StreamSlice.{StreamSlice}

abbrev pub told_head : ToldSlice → ToldSlice
told_head t = record { stream = t.stream; number = t.number; start = t.start; later = t.later; inside = None }

-- those from the first one on that begins at a time or later
abbrev pub told_by : Bool → ToldSlice → List ToldSlice → List ToldSlice → List ToldSlice
told_by b t ts others = cond b (told_head t ∷ ts) others

abbrev pub slices_from : ℕ → List ToldSlice → List ToldSlice
slices_from time [] = []
slices_from time (t ∷ ts) = told_by (nat_le time (begin_of t)) t ts (slices_from time ts)

abbrev pub entry_by : Bool → StreamSlice → List StreamSlice → List StreamSlice → List StreamSlice
entry_by b e es others = cond b (with_head (e ∷ es)) others

same_start : (p : Packet) (x y : Option ℕ) → is_start p ≡ true → running_after p x ≡ running_after p y
same_start (Start branch privilege a t context) x y h = refl
same_start (Context privilege t context) x y h = absurd ((cc))
same_start (Support enabled status) x y h = absurd ((cc))
same_start (Address report) x y h = absurd ((cc))
same_start (Map map) x y h = absurd ((cc))
same_start (MapAddress count map report) x y h = absurd ((cc))

entry_is : (time : ℕ) (e : StreamSlice) (es : List StreamSlice) (t : ToldSlice) (ts : List ToldSlice) → IsEntryOf e t → AreEntriesOf es ts → AreEntriesOf (entries_from time es) (slices_from time ts) → AreEntriesOf (entries_from time (e ∷ es)) (slices_from time (t ∷ ts))
entry_is time e es t ts h later others = go (nat_le time (clock_of e.start)) refl where
  by : (b : Bool) → AreEntriesOf (entry_by b e es (entries_from time es)) (told_by b t ts (slices_from time ts))
  by true = (record { stream = h.stream; number = h.number; start = h.start; later = h.later; inside = refl }, later)
  by false = others

  go : (b : Bool) → nat_le time (clock_of e.start) ≡ b → AreEntriesOf (entries_from time (e ∷ es)) (slices_from time (t ∷ ts))
  go b x =
      let y : nat_le time (begin_of t) ≡ b = ap (λ (p : Packet). nat_le time (clock_of p)) (sym h.start) ∙ x in
      subst (λ (d : Bool). AreEntriesOf (entry_by d e es (entries_from time es)) (slices_from time (t ∷ ts))) (sym x) (subst (λ (d : Bool). AreEntriesOf (entry_by b e es (entries_from time es)) (told_by d t ts (slices_from time ts))) (sym y) (by b))

pub entries_are : (time : ℕ) (es : List StreamSlice) (ts : List ToldSlice) → AreEntriesOf es ts → AreEntriesOf (entries_from time es) (slices_from time ts)
entries_are time [] ts h = ap (slices_from time) h
entries_are time (e ∷ es) [] h = absurd h
entries_are time (e ∷ es) (t ∷ ts) h = entry_is time e es t ts h.0 h.1 (entries_are time es ts h.1)

-- one packet more
left_more : (time s k : ℕ) (inside : Option ℕ) (p : Packet) (later : List Packet)
    → told_from s (suc k + before_time time later) None (drop (before_time time later) later) ≡ slices_from time (told_from s (suc k) (running_after p inside) later)
    → told_from s (k + before_time time (p ∷ later)) None (drop (before_time time (p ∷ later)) (p ∷ later)) ≡ slices_from time (told_from s k inside (p ∷ later))
left_more time s k inside p later others = go (is_start p) refl (nat_le time (clock_of p)) refl where
  -- another packet than the wanted one
  passes : (is_start p && nat_le time (clock_of p)) ≡ false → told_from s (k + before_time time (p ∷ later)) None (drop (before_time time (p ∷ later)) (p ∷ later)) ≡ slices_from time (told_from s (suc k) (running_after p inside) later)
  passes e =
      let m : before_time time (p ∷ later) ≡ suc (before_time time later) = ap (λ (b : Bool). cond (not b) (1 + before_time time later) 0) e ∙ (let h : 1 + before_time time later ≡ suc (before_time time later) = omega arith in h) in
      let a = ap (λ (i : ℕ). told_from s (k + i) None (drop i (p ∷ later))) m in
      let sum : k + suc (before_time time later) ≡ suc k + before_time time later = omega arith in
      a ∙ ap (λ (j : ℕ). told_from s j None (drop (before_time time later) later)) sum ∙ others

  go : (b : Bool) → is_start p ≡ b → (c : Bool) → nat_le time (clock_of p) ≡ c → told_from s (k + before_time time (p ∷ later)) None (drop (before_time time (p ∷ later)) (p ∷ later)) ≡ slices_from time (told_from s k inside (p ∷ later))
  go false x c y =
      let t : ToldSlice = record { stream = s; number = k; start = p; later = later; inside = inside } in
      let r : told_from s k inside (p ∷ later) ≡ told_from s (suc k) (running_after p inside) later = ap (λ (b : Bool). cond b (t ∷ told_from s (suc k) (running_after p inside) later) (told_from s (suc k) (running_after p inside) later)) x in
      passes (ap (λ (b : Bool). b && nat_le time (clock_of p)) x) ∙ sym (ap (slices_from time) r)
  go true x false y =
      let t : ToldSlice = record { stream = s; number = k; start = p; later = later; inside = inside } in
      let r : told_from s k inside (p ∷ later) ≡ t ∷ told_from s (suc k) (running_after p inside) later = ap (λ (b : Bool). cond b (t ∷ told_from s (suc k) (running_after p inside) later) (told_from s (suc k) (running_after p inside) later)) x in
      let u : slices_from time (t ∷ told_from s (suc k) (running_after p inside) later) ≡ slices_from time (told_from s (suc k) (running_after p inside) later) = ap (λ (b : Bool). told_by b t (told_from s (suc k) (running_after p inside) later) (slices_from time (told_from s (suc k) (running_after p inside) later))) y in
      passes (ap (λ (b : Bool). b && nat_le time (clock_of p)) x ∙ y) ∙ sym (ap (slices_from time) r ∙ u)
  go true x true y =
      let t : ToldSlice = record { stream = s; number = k; start = p; later = later; inside = inside } in
      let h : ToldSlice = record { stream = s; number = k; start = p; later = later; inside = None } in
      let e : (is_start p && nat_le time (clock_of p)) ≡ true = ap (λ (b : Bool). b && nat_le time (clock_of p)) x ∙ y in
      let m : before_time time (p ∷ later) ≡ 0 = ap (λ (b : Bool). cond (not b) (1 + before_time time later) 0) e in
      let zero : k + 0 ≡ k = omega arith in
      let a = ap (λ (i : ℕ). told_from s (k + i) None (drop i (p ∷ later))) m in
      let b = ap (λ (i : ℕ). told_from s i None (p ∷ later)) zero in
      let c = ap (λ (d : Bool). cond d (h ∷ told_from s (suc k) (running_after p None) later) (told_from s (suc k) (running_after p None) later)) x in
      let d = ap (λ (o : Option ℕ). h ∷ told_from s (suc k) o later) (same_start p None inside x) in
      let r : told_from s k inside (p ∷ later) ≡ t ∷ told_from s (suc k) (running_after p inside) later = ap (λ (b : Bool). cond b (t ∷ told_from s (suc k) (running_after p inside) later) (told_from s (suc k) (running_after p inside) later)) x in
      let u : slices_from time (t ∷ told_from s (suc k) (running_after p inside) later) ≡ told_head t ∷ told_from s (suc k) (running_after p inside) later = ap (λ (b : Bool). told_by b t (told_from s (suc k) (running_after p inside) later) (slices_from time (told_from s (suc k) (running_after p inside) later))) y in
      a ∙ b ∙ c ∙ d ∙ sym (ap (slices_from time) r ∙ u)

-- the slices of the packets from the first start packet on of a time or a later one
pub left_told : (time s k : ℕ) (inside : Option ℕ) (packets : List Packet) → told_from s (k + before_time time packets) None (drop (before_time time packets) packets) ≡ slices_from time (told_from s k inside packets)
left_told time s k inside [] = refl
left_told time s k inside (p ∷ later) = left_more time s k inside p later (left_told time s (suc k) (running_after p inside) later)

-- of a stream
pub left_in : (time : ℕ) (l : LeftPackets) → told_in (from_time time l) ≡ slices_from time (told_in l)
left_in time l = left_told time l.stream l.number None l.packets

pub left_are : (time : ℕ) (l : LeftPackets) (es : List StreamSlice) → AreEntriesOf es (told_in l) → AreEntriesOf (entries_from time es) (told_in (from_time time l))
left_are time l es h = subst (λ (ts : List ToldSlice). AreEntriesOf (entries_from time es) ts) (sym (left_in time l)) (entries_are time es (told_in l) h)

-- of all of them
pub all_left : (time : ℕ) (ls : List LeftPackets) → flat_map (λ (l : LeftPackets). told_in (from_time time l)) ls ≡ slices_told (map (from_time time) ls)
all_left time [] = refl
all_left time (l ∷ ls) = ap (λ (ts : List ToldSlice). told_in (from_time time l) ++ ts) (all_left time ls)
