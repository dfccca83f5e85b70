-- How long slices last.
use Rattle.std.proofs.Common.{◌≡◌, max, ℕ, zero, suc, ◌+◌, ◌-◌, ◌≤◌, List, [], ◌∷◌, length, take, drop, Bool, true, false, not, ◌||◌, cond, Option, Some, None, refl, sym, ◌∙◌, ap, subst, arith, length-drop}
use Rattle.std.specs.List.{list_any, prefix_len, cons_option}
use Rattle.std.proofs.lemmas.List.{at_drop_all, drop-drop, take_all}
use Rattle.rept_trace.specs.declared.packet.Packet.{Packet}
use Rattle.rept_trace.specs.Packets.{rest_of}
use Rattle.rept_trace.specs.Stream.{Hold}
use Rattle.rept_streams.specs.Slices.Stamps.{stamp_of, is_past, closes}
use Rattle.rept_streams.specs.Slices.Parts.{ToldSlice}
use Rattle.rept_streams.specs.Slices.Order.{starts_past}
use Rattle.rept_streams.specs.Slices.Skipping.{greatest}
use Rattle.rept_streams.specs.Slices.Lefts.{later_of, later_by}
use Rattle.rept_streams.specs.Slices.Ends.{early, past_of, ends_in}
use Rattle.rept_streams.specs.Slices.Entries.{IsEntryOf, AreEntriesOf}
use Rattle.rept_streams.specs.declared.slices.telling.StreamSlice.{StreamSlice}
use Rattle.rept_streams.proofs.SlicesLemmas.Early.{greatest_one}
use Rattle.rept_streams.proofs.SlicesLemmas.KeepLemmas.{later_is}
use Rattle.rept_streams.proofs.SlicesLemmas.StrangerLemmas.{split_told}

-- whether a slice lasts past a time, by the packets after its start packet
abbrev pub lasts : ℕ → List Packet → Bool
lasts time list = list_any (λ p. is_past time (stamp_of p)) (take (prefix_len (λ p. not (closes p)) list) list) || list_any (starts_past time) (take 1 (drop (prefix_len (λ p. not (closes p)) list) list))

or_assoc : (a b c : Bool) → ((a || b) || c) ≡ (a || (b || c))
or_assoc true b c = refl
or_assoc false b c = refl

or_false : (a : Bool) → (a || false) ≡ a
or_false true = refl
or_false false = refl

abbrev parted : ℕ → List Packet → ℕ → Bool
parted time list n = list_any (λ p. is_past time (stamp_of p)) (take n list) || list_any (starts_past time) (take 1 (drop n list))

pub lasts_here : (time : ℕ) (p : Packet) (later : List Packet) (b : Bool) → closes p ≡ true → starts_past time p ≡ b → lasts time (p ∷ later) ≡ b
lasts_here time p later b h e =
    let first : lasts time (p ∷ later) ≡ (starts_past time p || false) = ap (λ (c : Bool). parted time (p ∷ later) (cond (not c) (1 + prefix_len (λ q. not (closes q)) later) 0)) h in
    first ∙ or_false (starts_past time p) ∙ e

lasts_on : (time : ℕ) (p : Packet) (later : List Packet) → closes p ≡ false → lasts time (p ∷ later) ≡ (is_past time (stamp_of p) || lasts time later)
lasts_on time p later h =
    let n = prefix_len (λ q. not (closes q)) later in
    let s : 1 + n ≡ suc n = omega arith in
    let first : lasts time (p ∷ later) ≡ parted time (p ∷ later) (1 + n) = ap (λ (c : Bool). parted time (p ∷ later) (cond (not c) (1 + n) 0)) h in
    first ∙ ap (parted time (p ∷ later)) s ∙ or_assoc (is_past time (stamp_of p)) (list_any (λ q. is_past time (stamp_of q)) (take n later)) (list_any (starts_past time) (take 1 (drop n later)))

pub lasts_past_it : (time : ℕ) (p : Packet) (later : List Packet) → closes p ≡ false → is_past time (stamp_of p) ≡ true → lasts time (p ∷ later) ≡ true
lasts_past_it time p later h e = lasts_on time p later h ∙ ap (λ (b : Bool). b || lasts time later) e

pub lasts_after : (time : ℕ) (p : Packet) (later : List Packet) → closes p ≡ false → is_past time (stamp_of p) ≡ false → lasts time (p ∷ later) ≡ lasts time later
lasts_after time p later h e = lasts_on time p later h ∙ ap (λ (b : Bool). b || lasts time later) e

-- The greatest end of the slices from one on, and the begin past the first one's.
abbrev pub EndsFrom : ℕ → List StreamSlice → Option ℕ → ℕ → Type 0
EndsFrom time es past last = (ts : List ToldSlice) → AreEntriesOf es ts → (past ≡ past_of ts) × (last ≡ greatest (time ∷ ends_in time ts))

pub none_ended : (time : ℕ) (es : List StreamSlice) (i : ℕ) → length es ≤ i → EndsFrom time (drop i es) None time
none_ended time es i past = subst (λ (xs : List StreamSlice). EndsFrom time xs None time) (sym (at_drop_all (λ (xs : List StreamSlice). xs) es i past)) (λ ts a. (sym (ap past_of a), sym (ap (λ (us : List ToldSlice). greatest (time ∷ ends_in time us)) a ∙ greatest_one time)))

more_later : (time last : ℕ) (o : Option ℕ) (ns : List ℕ) → last ≡ greatest (time ∷ ns) → later_by last o ≡ greatest (time ∷ cons_option o ns)
more_later time last None ns is = is
more_later time last (Some n) ns is =
    let g = greatest ns in
    let x : last ≡ max time g = is ∙ later_is time g in
    let y : later_of last n ≡ max last n = later_is last n in
    let z : later_of time (later_of n g) ≡ max time (max n g) = later_is time (later_of n g) ∙ ap (λ (m : ℕ). max time m) (later_is n g) in
    let w : max last n ≡ max time (max n g) = omega (arith, x) in
    y ∙ w ∙ sym z

pub drop_next : {A : Type 0} (i : ℕ) (xs : List A) (x : A) (rest : List A) → drop i xs ≡ x ∷ rest → drop (i + 1) xs ≡ rest
drop_next i xs x rest h = sym (drop-drop 1 i xs) ∙ ap (drop 1) h

pub one_ended : (time : ℕ) (es : List StreamSlice) (i : ℕ) (e : StreamSlice) (past p o : Option ℕ) (last : ℕ) → drop i es ≡ e ∷ drop (i + 1) es
    → ((t : ToldSlice) (ts : List ToldSlice) → AreEntriesOf (drop i es) (t ∷ ts) → past ≡ past_of ts → p ≡ past_of (t ∷ ts))
    → ((t : ToldSlice) → IsEntryOf e t → o ≡ early time t p)
    → EndsFrom time (drop (i + 1) es) past last → EndsFrom time (drop i es) p (later_by last o)
one_ended time es i e past p o last first begins ends g = λ ts a.
    let s = split_told e (drop (i + 1) es) ts (subst (λ (xs : List StreamSlice). AreEntriesOf xs ts) first a) in
    let told : AreEntriesOf (drop i es) (s.0 ∷ s.1) = subst (λ (us : List ToldSlice). AreEntriesOf (drop i es) us) s.2 a in
    let rest = g s.1 s.4 in
    let here = begins s.0 s.1 told rest.0 in
    let end : o ≡ early time s.0 (past_of (s.0 ∷ s.1)) = ends s.0 s.3 ∙ ap (early time s.0) here in
    subst (λ (us : List ToldSlice). (p ≡ past_of us) × (later_by last o ≡ greatest (time ∷ ends_in time us))) (sym s.2)
    (here, more_later time last o (ends_in time s.1) rest.1 ∙ ap (λ (x : Option ℕ). greatest (time ∷ cons_option x (ends_in time s.1))) end)

-- the slices from one on, as a range of them to their end
pub rest_whole : (es : List StreamSlice) (i : ℕ) → take (length es - i) (drop i es) ≡ drop i es
rest_whole es i = take_all (length es - i) (drop i es) (let d = length-drop i es in omega (arith, d))

entries_drop : (i : ℕ) (es : List StreamSlice) (ts : List ToldSlice) → AreEntriesOf es ts → (later : List ToldSlice) × AreEntriesOf (drop i es) later
entries_drop zero es ts a = (ts, a)
entries_drop (suc i) [] ts a = (ts, a)
entries_drop (suc i) (e ∷ es) [] a = absurd a
entries_drop (suc i) (e ∷ es) (t ∷ ts) a = entries_drop i es ts a.1

-- one of them holds its packets
pub holds_at : (es : List StreamSlice) (ts : List ToldSlice) (i : ℕ) (e : StreamSlice) → AreEntriesOf es ts → drop i es ≡ e ∷ drop (i + 1) es → (list : List Packet) × Hold (rest_of e.later) list
holds_at es ts i e a first =
    let r = entries_drop i es ts a in
    let s = split_told e (drop (i + 1) es) r.0 (subst (λ (xs : List StreamSlice). AreEntriesOf xs r.0) first r.1) in
    ((s.0).later, (s.3).later)

pub all_ended : (time : ℕ) (es : List StreamSlice) (i : ℕ) (past : Option ℕ) (last : ℕ) → i ≤ 0 → EndsFrom time (drop i es) past last → (ts : List ToldSlice) → AreEntriesOf es ts → last ≡ greatest (time ∷ ends_in time ts)
all_ended time es zero past last le g = λ ts a. (g ts a).1
all_ended time es (suc i) past last le g = absurd (omega (arith, le))
