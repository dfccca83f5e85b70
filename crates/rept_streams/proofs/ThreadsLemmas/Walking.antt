-- The stretches of all streams, walked one after the other.
use Rattle.std.proofs.Common.{◌≡◌, ◌⊎◌, inl, inr, ℕ, zero, suc, ◌+◌, ◌-◌, ◌^◌, ◌<◌, ◌≤◌, List, [], ◌∷◌, ◌++◌, length, map, reverse, drop, Bool, true, false, cond, ◌&&◌, Option, Some, None, refl, sym, ◌∙◌, ap, subst, arith, append_assoc, length-drop}
use Rattle.std.specs.Prelude.{slice_get, is_none, is_some, nat_lt}
use Rattle.std.specs.List.{filter, sum_by}
use Rattle.std.proofs.lemmas.Bool.Decides.{leb_tells}
use Rattle.std.proofs.lemmas.List.{append-nil, map-append, at_drop_all, length-reverse, reverse-reverse}
use Rattle.std.proofs.lemmas.List.Elements.{filter-append}
use Rattle.std.proofs.lemmas.List.Sums.{sum_by-cons, sum_by_push, sum_by-append}
use Rattle.std.proofs.lemmas.Grind.{flat_map-append}
use Rattle.rept_isa.specs.declared.row.StepRow.{StepRow}
use Rattle.rept_trace.specs.declared.packet.Packet.{Packet}
use Rattle.rept_path.specs.Code.{Code}
use Rattle.rept_path.specs.declared.fault.PathFault.{PathFault}
use Rattle.rept_path.specs.declared.fault.PathFault.TheVariants.{OutOfMemory}
use Rattle.rept_path.specs.declared.walk.Walk.{Walk}
use Rattle.rept_path.specs.declared.window.Begin.{Begin}
use Rattle.rept_trace.specs.Packets.{rest_of}
use Rattle.rept_trace.specs.Stream.{Hold}
use Rattle.rept_path.specs.Moves.{Place}
use Rattle.rept_path.specs.Packets.{bits}
use Rattle.rept_path.specs.Route.{Origin, earlier_by}
use Rattle.rept_path.specs.State.{here, Counts, Stands}
use Rattle.rept_path.specs.Trace.{StopsAt}
use Rattle.rept_streams.specs.Slices.Stamps.{is_start}
use Rattle.rept_streams.specs.Slices.Parts.{ToldSlice, told_from, slices_told}
use Rattle.rept_streams.specs.Slices.Skipping.{kept}
use Rattle.rept_streams.specs.Slices.Stretches.{same_stretch, stretch, heads, StretchLegs, last_place, count_of, origin_after, Goes, Walks as AreWalks, WalksFault, RanSlice, within, ran_by, ran_in, ran, marks}
use Rattle.rept_streams.specs.Slices.Joins.{ran_rows}
use Rattle.rept_streams.specs.Slices.Entries.{IsEntryOf, AreEntriesOf}
use Rattle.rept_streams.specs.Threads.Kept.{AreRan, kept_by, AreKept}
use Rattle.rept_streams.specs.Slices.Ends.{first_or}
use Rattle.rept_streams.specs.declared.slices.telling.StreamSlice.{StreamSlice}
use Rattle.rept_streams.specs.declared.threads.walks.FinishedWalk.{FinishedWalk}
use Rattle.rept_streams.specs.declared.threads.walks.Walked.{Walked as WalkedSlice}
use Rattle.rept_streams.specs.declared.threads.walks.Walks.{Walks}
use Rattle.rept_streams.proofs.SlicesLemmas.InTime.{Each}
use Rattle.rept_streams.proofs.SlicesLemmas.Apart.{each_middle}
use Rattle.rept_streams.proofs.SlicesLemmas.Whether.{Started, starts_told}
use Rattle.rept_streams.proofs.SlicesLemmas.Following.{From, Follows, Following, Few, later_numbers, kept_follow, kept_few, kept_heads}
use Rattle.rept_streams.proofs.SlicesLemmas.Lasting.{drop_next}
use Rattle.rept_streams.proofs.SlicesLemmas.StrangerLemmas.{split_told}
use Rattle.rept_streams.proofs.SlicesLemmas.Packs.{IsOpen, kind, stretch_on, rows_by, counts_from, Cut}
use Rattle.rept_streams.proofs.ThreadsLemmas.Routed.{none_begins, Rowed, rowed}
use Rattle.rept_streams.proofs.ThreadsLemmas.Cutting.{kept_from}
use Rattle.rept_streams.proofs.ThreadsLemmas.Gathering.{inner_slices, none_inner, told_back, gathered}

-- slices of earlier packets than this one
abbrev pub Earlier : ℕ → ToldSlice → Type 0
Earlier n t = t.number < n

pub before_earlier : (before : List ToldSlice) (t : ToldSlice) (later : List ToldSlice) → Each Started (before ++ t ∷ later) → Following (before ++ t ∷ later) → Each (Earlier t.number) before
before_earlier [] t later s f = tt
before_earlier (b ∷ before) t later s f =
    let le = each_middle (From (suc b.number)) before t later (later_numbers b (before ++ t ∷ later) s.0 f.0) in
    (omega (arith, le), before_earlier before t later s.1 f.1)

pub follow_there : (before : List ToldSlice) (t : ToldSlice) (later : List ToldSlice) → Following (before ++ t ∷ later) → Follows t later
follow_there [] t later f = f.0
follow_there (b ∷ before) t later f = follow_there before t later f.1

pub started_there : (before : List ToldSlice) (t : ToldSlice) (later : List ToldSlice) → Each Started (before ++ t ∷ later) → Started t
started_there before t later s = each_middle Started before t later s

pub none_before : (w : StretchLegs) (before xs : List ToldSlice) → Each (Earlier w.head.number) before → filter (within w) (before ++ xs) ≡ filter (within w) xs
none_before w [] xs h = refl
none_before w (b ∷ before) xs h = elim (leb_tells w.head.number b.number) [
  | inl x ↦ absurd (let le = x.1 in let lt = h.0 in omega (arith, le, lt))
  | inr x ↦ (ap (λ (c : Bool). cond (c && nat_lt b.number (w.head.number + length (stretch w.head))) (b ∷ filter (within w) (before ++ xs)) (filter (within w) (before ++ xs))) x.0 ∙ none_before w before xs h.1)
]

-- one stretch more
get_more : {A : Type 0} (xs ys : List A) (i : ℕ) (x : A) → slice_get xs i ≡ Some x → slice_get (xs ++ ys) i ≡ Some x
get_more [] ys i x h = absurd (cc)
get_more (y ∷ xs) ys zero x h = h
get_more (y ∷ xs) ys (suc i) x h = get_more xs ys i x h

get_new : {A : Type 0} (xs : List A) (x : A) → slice_get (xs ++ x ∷ []) (length xs) ≡ Some x
get_new [] x = refl
get_new (y ∷ xs) x = get_new xs x

ran_more : (all new : List FinishedWalk) (ws : List WalkedSlice) (rs : List RanSlice) → AreRan all ws rs → AreRan (all ++ new) ws rs
ran_more all new [] rs a = a
ran_more all new (w ∷ ws) [] a = absurd a
ran_more all new (w ∷ ws) (r ∷ rs) a =
    let i = a.0 in
    (record { told = i.told; stretch = i.stretch; there = get_more all new w.stretch i.stretch i.there; rows = i.rows; whole = i.whole; fits = i.fits; last = i.last; bits = i.bits; empty = i.empty; counts = i.counts }, ran_more all new ws rs a.1)

ran_append : (all : List FinishedWalk) (vs ws : List WalkedSlice) (qs rs : List RanSlice) → AreRan all vs qs → AreRan all ws rs → AreRan all (vs ++ ws) (qs ++ rs)
ran_append all [] ws qs rs a b = subst (λ (xs : List RanSlice). AreRan all ws (xs ++ rs)) (sym a) b
ran_append all (v ∷ vs) ws [] rs a b = absurd a
ran_append all (v ∷ vs) ws (q ∷ qs) rs a b = (a.0, ran_append all vs ws qs rs a.1 b)

module _ (code : Code) where
  walks_more : (count : ℕ) (hs : List ToldSlice) (ws : List StretchLegs) (t : ToldSlice) (w : StretchLegs) → AreWalks code count hs ws → w.head ≡ t → Goes code (count + sum_by (count_of code) ws) w → AreWalks code count (hs ++ t ∷ []) (ws ++ w ∷ [])
  walks_more count [] ws t w a h g =
      let none : count + sum_by (count_of code) ws ≡ count = let e = ap (sum_by (count_of code)) a in omega (arith, e) in
      subst (λ (vs : List StretchLegs). AreWalks code count (t ∷ []) (vs ++ w ∷ [])) (sym a) (h, subst (λ (n : ℕ). Goes code n w) none g, refl)
  walks_more count (k ∷ hs) [] t w a h g = absurd a
  walks_more count (k ∷ hs) (v ∷ ws) t w a h g =
      let s = sum_by-cons (count_of code) v ws in
      let e : count + sum_by (count_of code) (v ∷ ws) ≡ count + count_of code v + sum_by (count_of code) ws = omega (arith, s) in
      (a.0, a.1, walks_more (count + count_of code v) hs ws t w a.2 h (subst (λ (n : ℕ). Goes code n w) e g))

  fault_after : (count : ℕ) (hs : List ToldSlice) (ws : List StretchLegs) (t : ToldSlice) (others : List ToldSlice) (e : PathFault) → AreWalks code count hs ws → StopsAt code (origin_after (count + sum_by (count_of code) ws) t) (stretch t) e → WalksFault code count (hs ++ t ∷ others) e
  fault_after count [] ws t others e a s =
      let none : count + sum_by (count_of code) ws ≡ count = let x = ap (sum_by (count_of code)) a in omega (arith, x) in
      inl (subst (λ (n : ℕ). StopsAt code (origin_after n t) (stretch t) e) none s)
  fault_after count (k ∷ hs) [] t others e a s = absurd a
  fault_after count (k ∷ hs) (v ∷ ws) t others e a s =
      let x = sum_by-cons (count_of code) v ws in
      let n : count + sum_by (count_of code) (v ∷ ws) ≡ count + count_of code v + sum_by (count_of code) ws = omega (arith, x) in
      inr (v, a.0, a.1, fault_after (count + count_of code v) hs ws t others e a.2 (subst (λ (m : ℕ). StopsAt code (origin_after m t) (stretch t) e) n s))

abbrev is_head : ToldSlice → Bool
is_head t = is_none t.inside

heads_head : (before : List ToldSlice) (t : ToldSlice) (others : List ToldSlice) → t.inside ≡ None → heads (before ++ t ∷ others) ≡ heads before ++ t ∷ heads others
heads_head before t others none = filter-append is_head before (t ∷ others) ∙ ap (λ (o : Option ℕ). heads before ++ cond (is_none o) (t ∷ heads others) (heads others)) none

heads_other : (before : List ToldSlice) (t : ToldSlice) (thread : ℕ) → t.inside ≡ Some thread → heads (before ++ t ∷ []) ≡ heads before
heads_other before t thread some = filter-append is_head before (t ∷ []) ∙ ap (λ (o : Option ℕ). heads before ++ cond (is_none o) (t ∷ []) []) some ∙ append-nil (heads before)

-- A slice with which no stretch begins adds nothing.
pub not_head : (code : Code) (ts before : List ToldSlice) (t : ToldSlice) (ws : List StretchLegs) (walks : Walks) (thread : ℕ) → t.inside ≡ Some thread → AreWalks code 0 (heads before) ws → AreKept code ts ws walks
    → (vs : List StretchLegs) × AreWalks code 0 (heads (before ++ t ∷ [])) vs × AreKept code ts vs walks
not_head code ts before t ws walks thread some a k = (ws, subst (λ (hs : List ToldSlice). AreWalks code 0 hs ws) (sym (heads_other before t thread some)) a, k)

-- where a walk begins at a slice, as its entry has it
abbrev pub origin_by : ℕ → StreamSlice → Origin
origin_by room e = record { number = e.number; room = room }

pub stopped : (code : Code) (from : ℕ) (lists : List (List Packet)) (before later : List ToldSlice) (t : ToldSlice) (ws : List StretchLegs) (walks : Walks) (e : StreamSlice) (room : ℕ) (fault : PathFault)
    → slices_told (kept from lists) ≡ before ++ t ∷ later → IsEntryOf e t → t.inside ≡ None → room ≡ 65536 - walks.rows → AreWalks code 0 (heads before) ws → AreKept code (slices_told (kept from lists)) ws walks
    → StopsAt code (origin_by room e) (e.start ∷ same_stretch false t.later) fault → WalksFault code 0 (heads (slices_told (kept from lists))) fault
stopped code from lists before later t ws walks e room fault whole is none room_is a k s =
    let count = k.count in
    let n : 65536 - walks.rows ≡ 65536 - (0 + sum_by (count_of code) ws) = omega (arith, count) in
    let one = subst (λ (p : Packet). StopsAt code (origin_by room e) (p ∷ same_stretch false t.later) fault) is.start s in
    let two = subst (λ (m : ℕ). StopsAt code (record { number = m; room = room }) (stretch t) fault) is.number one in
    let three = subst (λ (m : ℕ). StopsAt code (record { number = t.number; room = m }) (stretch t) fault) (room_is ∙ n) two in
    subst (λ (hs : List ToldSlice). WalksFault code 0 hs fault) (sym (ap heads whole ∙ heads_head before t later none)) (fault_after code 0 (heads before) ws t (heads later) fault a three)

-- A stretch was walked.
module _ (code : Code) (from : ℕ) (lists : List (List Packet)) (before later : List ToldSlice) (t : ToldSlice) (whole : slices_told (kept from lists) ≡ before ++ t ∷ later) (none : t.inside ≡ None)
    (ws : List StretchLegs) (old : Walks) (a : AreWalks code 0 (heads before) ws) (k : AreKept code (slices_told (kept from lists)) ws old) where
  abbrev ts : List ToldSlice
  ts = slices_told (kept from lists)

  parts : Each Started (before ++ t ∷ later) × Following (before ++ t ∷ later)
  parts = (subst (Each Started) whole (starts_told (kept from lists)), subst Following whole (kept_follow from lists))

  module _ (walk : Walk) (legs : List (List StepRow)) (s : Stands code (earlier_by (origin_after old.rows t) (reverse (stretch t)) legs) walk) (keeps : FinishedWalk) (rows : keeps.rows ≡ walk.steps) (walk_is : keeps.walk ≡ record walk { steps = [] }) where
    abbrev w : StretchLegs
    w = record { head = t; legs = legs }

    -- the legs of its packets
    opens : IsOpen t.start
    opens = elim (kind t.start) [
      | inl o ↦ o
      | inr k ↦ absurd (elim k [ inl e ↦ wrong e.start | inr i ↦ wrong i.start ])
    ] where
      wrong : is_start t.start ≡ false → ⊥
      wrong h = let starts : is_start t.start ≡ true = started_there before t later parts.0 in cc

    sheet : Rowed code t.start (same_stretch false t.later) legs
    sheet = rowed code (origin_after old.rows t) t.start (same_stretch false t.later) legs opens.start opens.waits (none_begins false t.later) s.route

    size : count_of code w ≡ length walk.steps
    size = let e = ap (λ (p : Place). length p.rows) s.seen in let n = length-reverse walk.steps in omega (arith, e, n)

    kept_rows : keeps.rows ≡ rows_by ([] ∷ sheet.later)
    kept_rows = rows ∙ sym (reverse-reverse walk.steps) ∙ ap (λ (p : Place). reverse p.rows) s.seen ∙ sheet.rows

    last : here keeps.walk ≡ record { at = (last_place code w).at; rows = []; branches = (last_place code w).branches }
    last = ap here walk_is ∙ (λ i. record { at = (s.seen i).at; rows = []; branches = (s.seen i).branches })

    bits_are : keeps.walk.bits.items ≡ bits code (reverse (stretch t))
    bits_are = ap (λ (v : Walk). v.bits.items) walk_is ∙ s.bits

    counts_kept : Counts keeps.walk
    counts_kept =
        let enough = (s.counts).enough in
        let spare = (s.counts).spare in
        subst Counts (sym walk_is) (record { enough = enough; few = omega arith; spare = spare; linked = tt })

    added : (new : Walks) (e : StreamSlice) (es : List StreamSlice) (counts : List ℕ) → AreEntriesOf (e ∷ es) (t ∷ later) → counts ≡ marks code (reverse (stretch t)) legs
        → new.slices.items ≡ old.slices.items ++ kept_by (length old.stretches.items) (length walk.steps) counts (e ∷ es) → new.stretches.items ≡ old.stretches.items ++ keeps ∷ [] → new.rows ≡ old.rows + length walk.steps
        → (vs : List StretchLegs) × AreWalks code 0 (heads (before ++ t ∷ [])) vs × AreKept code ts vs new
    added new e es counts told_is counts_are slices stretches rows_are =
        let all = old.stretches.items ++ keeps ∷ [] in
        let number = length old.stretches.items in
        let total = length walk.steps in
        let f = follow_there before t later parts.1 in
        let o = opens in
        let long : same_stretch false (t.start ∷ t.later) ≡ stretch t = stretch_on t.start false false t.later (o.begins false) (o.waits false) in
        let size_long = ap (length {A = Packet}) long in
        let rows_size = ap (length {A = StepRow}) (sym rows ∙ kept_rows) in
        let zero_is : t.number - t.number ≡ 0 = omega arith in
        let told_here : AreEntriesOf (e ∷ es) (told_from t.stream t.number t.inside (t.start ∷ t.later) ++ f.others) = subst (λ (xs : List ToldSlice). AreEntriesOf (e ∷ es) xs) f.same told_is in
        let after = f.after in
        let got = kept_from code w all number total keeps (get_new old.stretches.items keeps) last bits_are (ap (length {A = StepRow}) rows) (ap (λ (v : Walk). v.steps) walk_is) counts_kept (t.start ∷ t.later) t.stream t.number 0 t.inside ([] ∷ sheet.later) (e ∷ es) f.others
        (record {
          low = omega arith;
          legs = ap (λ (j : ℕ). drop j (reverse legs)) zero_is ∙ sheet.all;
          rows = kept_rows;
          sum = omega (arith, rows_size);
          to = omega (arith, size_long);
          cut = subst (λ (ps : List Packet). Cut false ps ([] ∷ sheet.later)) (sym long) sheet.cut;
        })
        (subst (λ (m : ℕ). Each (From m) f.others) (let m : t.number + 1 + length t.later ≡ t.number + suc (length t.later) = omega arith in m) after)
        told_here in
        let here_ran : map (ran_by code w) (filter (within w) (told_from t.stream t.number t.inside (t.start ∷ t.later) ++ f.others)) ≡ ran_in code ts w =
        ap (λ (xs : List ToldSlice). map (ran_by code w) (filter (within w) xs)) (sym f.same) ∙ ap (map (ran_by code w)) (sym (none_before w before (t ∷ later) (before_earlier before t later parts.0 parts.1))) ∙ ap (λ (xs : List ToldSlice). map (ran_by code w) (filter (within w) xs)) (sym whole) in
        let marked : counts_from 0 (same_stretch false (t.start ∷ t.later)) ([] ∷ sheet.later) ≡ counts = ap (λ (ps : List Packet). counts_from 0 ps ([] ∷ sheet.later)) long ∙ sym sheet.marked ∙ sym counts_are in
        let own : AreRan all (kept_by number total counts (e ∷ es)) (ran_in code ts w) = subst (λ (ms : List ℕ). AreRan all (kept_by number total ms (e ∷ es)) (ran_in code ts w)) marked (subst (λ (rs : List RanSlice). AreRan all (kept_by number total (counts_from 0 (same_stretch false (t.start ∷ t.later)) ([] ∷ sheet.later)) (e ∷ es)) rs) here_ran got.0) in
        let both : ran code ts (ws ++ w ∷ []) ≡ ran code ts ws ++ ran_in code ts w = flat_map-append (ran_in code ts) ws (w ∷ []) ∙ ap (λ (xs : List RanSlice). ran code ts ws ++ xs) (append-nil (ran_in code ts w)) in
        let joined : AreRan all (old.slices.items ++ kept_by number total counts (e ∷ es)) (ran code ts ws ++ ran_in code ts w) = ran_append all old.slices.items (kept_by number total counts (e ∷ es)) (ran code ts ws) (ran_in code ts w) (ran_more old.stretches.items (keeps ∷ []) old.slices.items (ran code ts ws) k.slices) own in
        let first : counts_from 0 (t.start ∷ same_stretch false t.later) ([] ∷ sheet.later) ≡ 0 ∷ counts_from 0 (same_stretch false t.later) sheet.later = ap (λ (b : Bool). cond b (0 ∷ []) [] ++ counts_from 0 (same_stretch false t.later) sheet.later) o.start in
        let begins = ap (λ (ps : List Packet). first_or total (counts_from 0 ps ([] ∷ sheet.later))) long in
        let at_zero = ap (first_or total) first in
        let sum = got.1 in
        let sum_is = ap ran_rows here_ran in
        let sums = ap ran_rows both in
        let sums_parts = sum_by-append (λ (r : RanSlice). length r.rows) (ran code ts ws) (ran_in code ts w) in
        let old_rows = k.rows in
        let old_count = k.count in
        let old_few = k.few in
        let pushed = sum_by_push (count_of code) ws w in
        let n = size in
        let few = (s.counts).few in
        let room = s.room in
        let counted : 0 + sum_by (count_of code) ws ≡ old.rows = omega (arith, old_count) in (
          ws ++ w ∷ [],
          subst (λ (hs : List ToldSlice). AreWalks code 0 hs (ws ++ w ∷ [])) (sym (heads_head before t [] none)) (walks_more code 0 (heads before) ws t w a refl (subst (λ (m : ℕ). Goes code m w) (sym counted) s.route)),
          record {
            slices = subst (λ (xs : List FinishedWalk). AreRan xs new.slices.items (ran code ts (ws ++ w ∷ []))) (sym stretches) (subst (λ (xs : List WalkedSlice). AreRan all xs (ran code ts (ws ++ w ∷ []))) (sym slices) (subst (λ (rs : List RanSlice). AreRan all (old.slices.items ++ kept_by number total counts (e ∷ es)) rs) (sym both) joined));
            rows = omega (arith, rows_are, sums, sums_parts, old_rows, sum, sum_is, begins, at_zero);
            count = omega (arith, rows_are, old_count, pushed, n);
            few = omega (arith, rows_are, few, room, old_few);
          },
        )

-- by the entry of its first slice
pub walked_on : (code : Code) (from : ℕ) (lists : List (List Packet)) (before later : List ToldSlice) (t : ToldSlice) (ws : List StretchLegs) (old new : Walks) (e : StreamSlice) (es : List StreamSlice) (room : ℕ) (walk : Walk) (legs : List (List StepRow)) (counts : List ℕ) (keeps : FinishedWalk)
    → slices_told (kept from lists) ≡ before ++ t ∷ later → t.inside ≡ None → AreWalks code 0 (heads before) ws → AreKept code (slices_told (kept from lists)) ws old → AreEntriesOf (e ∷ es) (t ∷ later) → room ≡ 65536 - old.rows
    → Stands code (earlier_by (origin_by room e) (reverse (e.start ∷ same_stretch false t.later)) legs) walk → counts ≡ marks code (reverse (e.start ∷ same_stretch false t.later)) legs → keeps.rows ≡ walk.steps → keeps.walk ≡ record walk { steps = [] }
    → new.slices.items ≡ old.slices.items ++ kept_by (length old.stretches.items) (length walk.steps) counts (e ∷ es) → new.stretches.items ≡ old.stretches.items ++ keeps ∷ [] → new.rows ≡ old.rows + length walk.steps
    → (vs : List StretchLegs) × AreWalks code 0 (heads (before ++ t ∷ [])) vs × AreKept code (slices_told (kept from lists)) vs new
walked_on code from lists before later t ws old new e es room walk legs counts keeps whole none a k told_is room_is s counts_are rows walk_is slices stretches rows_are =
    let one = subst (λ (p : Packet). Stands code (earlier_by (origin_by room e) (reverse (p ∷ same_stretch false t.later)) legs) walk) (told_is.0).start s in
    let two = subst (λ (m : ℕ). Stands code (earlier_by (record { number = m; room = room }) (reverse (stretch t)) legs) walk) (told_is.0).number one in
    let three = subst (λ (m : ℕ). Stands code (earlier_by (record { number = t.number; room = m }) (reverse (stretch t)) legs) walk) room_is two in
    let marked = counts_are ∙ ap (λ (p : Packet). marks code (reverse (p ∷ same_stretch false t.later)) legs) (told_is.0).start in
    added code from lists before later t whole none ws old a k walk legs three keeps rows walk_is new e es counts told_is marked slices stretches rows_are

-- What was walked, and the slices that are left.
pub record SoFar (code : Code) (ts : List ToldSlice) (es : List StreamSlice) (walks : Walks) : Type 0 where
  pub before : List ToldSlice
  pub later : List ToldSlice
  pub same : ts ≡ before ++ later
  pub are : AreEntriesOf es later
  pub ws : List StretchLegs
  pub walked : AreWalks code 0 (heads before) ws
  pub keeps : AreKept code ts ws walks

pub none_walked : (code : Code) (ts : List ToldSlice) (es : List StreamSlice) (walks : Walks) → AreEntriesOf es ts → walks.stretches.items ≡ [] → walks.slices.items ≡ [] → walks.rows ≡ 0 → SoFar code ts es walks
none_walked code ts es walks a stretches slices rows = record {
  before = [];
  later = ts;
  same = refl;
  are = a;
  ws = [];
  walked = refl;
  keeps = record {
    slices = subst (λ (ws : List WalkedSlice). AreRan walks.stretches.items ws []) (sym slices) refl;
    rows = rows;
    count = rows;
    few = omega (arith, rows);
  };
}

-- the first of the slices that are left
pub record First (code : Code) (ts : List ToldSlice) (es rest : List StreamSlice) (walks : Walks) : Type 0 where
  pub before : List ToldSlice
  pub t : ToldSlice
  pub later : List ToldSlice
  pub same : ts ≡ before ++ t ∷ later
  pub are : AreEntriesOf es (t ∷ later)
  pub others : AreEntriesOf rest later
  pub ws : List StretchLegs
  pub walked : AreWalks code 0 (heads before) ws
  pub keeps : AreKept code ts ws walks

pub first_left : (code : Code) (ts : List ToldSlice) (es : List StreamSlice) (i : ℕ) (walks : Walks) → i < length es → SoFar code ts (drop i es) walks → First code ts (drop i es) (drop (i + 1) es) walks
first_left code ts es i walks within s = go (drop i es) refl where
  go : (rest : List StreamSlice) → drop i es ≡ rest → First code ts (drop i es) (drop (i + 1) es) walks
  go [] e = absurd (let n = ap (length {A = StreamSlice}) e in let d = length-drop i es in omega (arith, n, d, within))
  go (e ∷ rest) h =
      let after : drop (i + 1) es ≡ rest = drop_next i es e rest h in
      let p = split_told e rest s.later (subst (λ (xs : List StreamSlice). AreEntriesOf xs s.later) h s.are) in
      record {
        before = s.before;
        t = p.0;
        later = p.1;
        same = s.same ∙ ap (λ (ts : List ToldSlice). s.before ++ ts) p.2;
        are = subst (λ (xs : List StreamSlice). AreEntriesOf xs (p.0 ∷ p.1)) (sym h) (p.3, p.4);
        others = subst (λ (xs : List StreamSlice). AreEntriesOf xs p.1) (sym after) p.4;
        ws = s.ws;
        walked = s.walked;
        keeps = s.keeps;
      }

pub one_walked : (code : Code) (all : List ToldSlice) (es rest : List StreamSlice) (old new : Walks) (f : First code all es rest old) → (vs : List StretchLegs) × AreWalks code 0 (heads (f.before ++ f.t ∷ [])) vs × AreKept code all vs new → SoFar code all rest new
one_walked code all es rest old new f h = record {
  before = f.before ++ f.t ∷ [];
  later = f.later;
  same = f.same ∙ sym (append_assoc f.before (f.t ∷ []) f.later);
  are = f.others;
  ws = h.0;
  walked = h.1;
  keeps = h.2;
}

pub all_walked : (code : Code) (ts : List ToldSlice) (es : List StreamSlice) (i : ℕ) (walks : Walks) → length es ≤ i → SoFar code ts (drop i es) walks → (ws : List StretchLegs) × AreWalks code 0 (heads ts) ws × AreKept code ts ws walks
all_walked code ts es i walks past s =
    let none : s.later ≡ [] = subst (λ (xs : List StreamSlice). AreEntriesOf xs s.later) (at_drop_all (λ (xs : List StreamSlice). xs) es i past) s.are in
    let e : ts ≡ s.before = s.same ∙ ap (λ (xs : List ToldSlice). s.before ++ xs) none ∙ append-nil s.before in
    (s.ws, subst (λ (xs : List ToldSlice). AreWalks code 0 (heads xs) s.ws) (sym e) s.walked, s.keeps)

-- what the walk of the first slice asks
pub may_walk : (code : Code) (from : ℕ) (lists : List (List Packet)) (es rest : List StreamSlice) (walks : Walks) → sum_by (λ packets. length packets) lists < 2 ^ 32 → (f : First code (slices_told (kept from lists)) es rest walks) → (is_start (f.t).start ≡ true) × ((f.t).number + 1 + length (f.t).later < 2 ^ 32)
may_walk code from lists es rest walks few f =
    let starts = each_middle Started f.before f.t f.later (subst (Each Started) f.same (starts_told (kept from lists))) in
    let n = 0 + sum_by (λ packets. length packets) lists in
    let le : (f.t).number + 1 + length (f.t).later ≤ 0 + sum_by (λ packets. length packets) lists = each_middle (Few (0 + sum_by (λ packets. length packets) lists)) f.before f.t f.later (subst (Each (Few (0 + sum_by (λ packets. length packets) lists))) f.same (kept_few from lists)) in
    (starts, omega (arith, le, few))

-- the slices of a stretch that are left to add
pub none_left : (walked : List WalkedSlice) (number total : ℕ) (marks : List ℕ) (es : List StreamSlice) (now : List WalkedSlice) (i : ℕ) → walked ++ kept_by number total marks es ≡ now ++ kept_by number total (drop i marks) (drop i es) → length es ≤ i → now ≡ walked ++ kept_by number total marks es
none_left walked number total marks es now i h past =
    sym (h ∙ ap (λ (xs : List StreamSlice). now ++ kept_by number total (drop i marks) xs) (at_drop_all (λ (xs : List StreamSlice). xs) es i past) ∙ ap (λ (xs : List WalkedSlice). now ++ xs) (empty (drop i marks)) ∙ append-nil now)
  where
    empty : (ms : List ℕ) → kept_by number total ms [] ≡ []
    empty [] = refl
    empty (m ∷ ms) = refl

-- The slices of all stretches are all slices, in their order.
module _ (code : Code) (ts : List ToldSlice) where
  gather : (before later : List ToldSlice) (count : ℕ) (ws : List StretchLegs) → ts ≡ before ++ later → Each Started (before ++ later) → Following (before ++ later) → AreWalks code count (heads later) ws → inner_slices later ++ map (λ (r : RanSlice). r.told) (ran code ts ws) ≡ later
  gather before [] count ws e s f a = ap (λ (vs : List StretchLegs). map (λ (r : RanSlice). r.told) (ran code ts vs)) a
  gather before (t ∷ later) count ws e s f a = go t.inside refl ws a (λ n vs b. gather (before ++ t ∷ []) later n vs (e ∙ sym shift) (subst (Each Started) (sym shift) s) (subst Following (sym shift) f) b) where
    shift : (before ++ t ∷ []) ++ later ≡ before ++ t ∷ later
    shift = append_assoc before (t ∷ []) later

    go : (o : Option ℕ) → t.inside ≡ o → (ws : List StretchLegs) → AreWalks code count (cond (is_none t.inside) (t ∷ heads later) (heads later)) ws
        → ((n : ℕ) (vs : List StretchLegs) → AreWalks code n (heads later) vs → inner_slices later ++ map (λ (r : RanSlice). r.told) (ran code ts vs) ≡ later) → cond (is_none t.inside) [] (t ∷ inner_slices later) ++ map (λ (r : RanSlice). r.told) (ran code ts ws) ≡ t ∷ later
    go (Some x) is ws a more =
        let b = subst (λ (o : Option ℕ). AreWalks code count (cond (is_none o) (t ∷ heads later) (heads later)) ws) is a in
        ap (λ (o : Option ℕ). cond (is_none o) [] (t ∷ inner_slices later) ++ map (λ (r : RanSlice). r.told) (ran code ts ws)) is ∙ ap (λ (us : List ToldSlice). t ∷ us) (more count ws b)
    go None is [] a more = absurd (subst (λ (o : Option ℕ). AreWalks code count (cond (is_none o) (t ∷ heads later) (heads later)) []) is a)
    go None is (w ∷ vs) a more =
        let b = subst (λ (o : Option ℕ). AreWalks code count (cond (is_none o) (t ∷ heads later) (heads later)) (w ∷ vs)) is a in
        let x = follow_there before t later f in
        let number = ap (λ (u : ToldSlice). u.number) b.0 in
        let early = subst (λ (n : ℕ). Each (Earlier n) before) (sym number) (before_earlier before t later s f) in
        let own : filter (within w) ts ≡ t ∷ inner_slices later = ap (filter (within w)) e ∙ none_before w before (t ∷ later) early ∙ gathered w t later x.others b.0 (started_there before t later s) x.same x.after x.heads in
        let told : map (λ (r : RanSlice). r.told) (ran code ts (w ∷ vs)) ≡ (t ∷ inner_slices later) ++ map (λ (r : RanSlice). r.told) (ran code ts vs) =
        map-append (λ (r : RanSlice). r.told) (ran_in code ts w) (ran code ts vs) ∙ ap (λ (us : List ToldSlice). us ++ map (λ (r : RanSlice). r.told) (ran code ts vs)) (told_back code w (filter (within w) ts) ∙ own) in
        ap (λ (o : Option ℕ). cond (is_none o) [] (t ∷ inner_slices later) ++ map (λ (r : RanSlice). r.told) (ran code ts (w ∷ vs))) is ∙ told ∙ ap (λ (us : List ToldSlice). t ∷ us) (more (count + count_of code w) vs b.2)

pub all_gathered : (code : Code) (from : ℕ) (lists : List (List Packet)) (ws : List StretchLegs) → AreWalks code 0 (heads (slices_told (kept from lists))) ws → map (λ (r : RanSlice). r.told) (ran code (slices_told (kept from lists)) ws) ≡ slices_told (kept from lists)
all_gathered code from lists ws a =
    let whole = slices_told (kept from lists) in
    sym (ap (λ (us : List ToldSlice). us ++ map (λ (r : RanSlice). r.told) (ran code whole ws)) (none_inner whole (kept_heads from lists))) ∙ gather code whole [] whole 0 ws refl (starts_told (kept from lists)) (kept_follow from lists) a

-- the first one of slices, which is told first
pub first_entry : (es : List StreamSlice) (e : StreamSlice) (t : ToldSlice) (later : List ToldSlice) → AreEntriesOf es (t ∷ later) → Some e ≡ slice_get es 0 → (rest : List StreamSlice) × AreEntriesOf (e ∷ rest) (t ∷ later) × (es ≡ e ∷ rest)
first_entry [] e t later a h = absurd (cc)
first_entry (x ∷ es) e t later a h = let is : e ≡ x = cc in (es, subst (λ (y : StreamSlice). AreEntriesOf (y ∷ es) (t ∷ later)) (sym is) a, ap (λ (y : StreamSlice). y ∷ es) (sym is))

pub none_inside : (e : StreamSlice) (t : ToldSlice) → IsEntryOf e t → is_some e.inside ≡ false → t.inside ≡ None
none_inside e t is h = go t.inside (ap is_some (sym is.inside) ∙ h) where
  go : (o : Option ℕ) → is_some o ≡ false → o ≡ None
  go None h = refl
  go (Some x) h = absurd (cc)

pub some_inside : (e : StreamSlice) (t : ToldSlice) → IsEntryOf e t → is_some e.inside ≡ true → (thread : ℕ) × (t.inside ≡ Some thread)
some_inside e t is h = go t.inside (ap is_some (sym is.inside) ∙ h) where
  go : (o : Option ℕ) → is_some o ≡ true → (thread : ℕ) × (o ≡ Some thread)
  go None h = absurd (cc)
  go (Some x) h = (x, refl)

abbrev pub begins_at : StreamSlice → Begin
begins_at e = record { number = e.number; first = e.start; later = e.later }

pub stopped_or : (code : Code) (from : ℕ) (lists : List (List Packet)) (before later : List ToldSlice) (t : ToldSlice) (ws : List StretchLegs) (walks : Walks) (e : StreamSlice) (room : ℕ) (b : Begin) (fault : PathFault)
    → slices_told (kept from lists) ≡ before ++ t ∷ later → IsEntryOf e t → is_some e.inside ≡ false → room ≡ 65536 - walks.rows → AreWalks code 0 (heads before) ws → AreKept code (slices_told (kept from lists)) ws walks → b ≡ begins_at e
    → (fault ≡ OutOfMemory) ⊎ StopsAt code (record { number = b.number; room = room }) (b.first ∷ same_stretch false t.later) fault → (fault ≡ OutOfMemory) ⊎ WalksFault code 0 (heads (slices_told (kept from lists))) fault
stopped_or code from lists before later t ws walks e room b fault whole is some room_is a k b_is h = elim h [
  | inl m ↦ inl m
  | inr s ↦ inr (stopped code from lists before later t ws walks e room fault whole is (none_inside e t is some) room_is a k (subst (λ (x : Begin). StopsAt code (record { number = x.number; room = room }) (x.first ∷ same_stretch false t.later) fault) b_is s))
]

pub held_at : (e : StreamSlice) (t : ToldSlice) (b : Begin) → IsEntryOf e t → b ≡ begins_at e → Hold (rest_of b.later) t.later
held_at e t b is b_is = subst (λ (x : Begin). Hold (rest_of x.later) t.later) (sym b_is) is.later

pub stretch_on_from : (code : Code) (from : ℕ) (lists : List (List Packet)) (before later : List ToldSlice) (t : ToldSlice) (ws : List StretchLegs) (old new : Walks) (e : StreamSlice) (es rest : List StreamSlice) (room : ℕ) (b : Begin) (walk : Walk) (counts : List ℕ) (keeps : FinishedWalk)
    → slices_told (kept from lists) ≡ before ++ t ∷ later → AreWalks code 0 (heads before) ws → AreKept code (slices_told (kept from lists)) ws old → AreEntriesOf (e ∷ rest) (t ∷ later) → es ≡ e ∷ rest → is_some e.inside ≡ false → room ≡ 65536 - old.rows → b ≡ begins_at e
    → ((legs : List (List StepRow)) × Stands code (earlier_by (record { number = b.number; room = room }) (reverse (b.first ∷ same_stretch false t.later)) legs) walk × (counts ≡ marks code (reverse (b.first ∷ same_stretch false t.later)) legs))
    → keeps.rows ≡ walk.steps → keeps.walk ≡ record walk { steps = [] } → (number : ℕ) → number ≡ length old.stretches.items → new.slices.items ≡ old.slices.items ++ kept_by number (length walk.steps) counts es → new.stretches.items ≡ old.stretches.items ++ keeps ∷ []
    → (n : ℕ) → n ≡ length walk.steps → new.rows ≡ old.rows + n
    → (vs : List StretchLegs) × AreWalks code 0 (heads (before ++ t ∷ [])) vs × AreKept code (slices_told (kept from lists)) vs new
stretch_on_from code from lists before later t ws old new e es rest room b walk counts keeps whole a k told_is es_is some room_is b_is h rows walk_is number number_is slices stretches n n_is rows_are =
    let s = subst (λ (x : Begin). Stands code (earlier_by (record { number = x.number; room = room }) (reverse (x.first ∷ same_stretch false t.later)) h.0) walk) b_is h.1 in
    let m = h.2 ∙ ap (λ (x : Begin). marks code (reverse (x.first ∷ same_stretch false t.later)) h.0) b_is in
    let slices_are = slices ∙ ap (λ (k : ℕ). old.slices.items ++ kept_by k (length walk.steps) counts es) number_is ∙ ap (λ (xs : List StreamSlice). old.slices.items ++ kept_by (length old.stretches.items) (length walk.steps) counts xs) es_is in
    walked_on code from lists before later t ws old new e rest room walk h.0 counts keeps whole (none_inside e t told_is.0 some) a k told_is room_is s m rows walk_is slices_are stretches (rows_are ∙ ap (λ (k : ℕ). old.rows + k) n_is)
