-- The loops that add calls to a run: what each has added so far.
use Rattle.std.proofs.Common.{Bool, false, cond, Option, Some, None, inl, inr, nat_le, ◌≢◌, ◌%◌, ◌^◌, get_or, append_assoc, drop, ◌≡◌, ℕ, zero, suc, ◌+◌, ◌<◌, ◌≤◌, ◌++◌, take, map, List, [], ◌∷◌, length, Result, Ok, Err, refl, sym, ap, ◌∙◌, subst, arith}
use Rattle.std.specs.Prelude.{IfOk, IfErr, MatchResult, slice_get, unwrap_or}
use Rattle.std.proofs.lemmas.List.{map_more}
use Rattle.std.proofs.lemmas.Bool.Decides.{leb_tells, eqb_tells}
use Rattle.rept_dump.specs.Registers.{saved_pc}
use Rattle.rept_path.specs.declared.fault.PathFault.{PathFault}
use Rattle.rept_streams.specs.Slices.Joins.{ThreadNote}
use Rattle.rept_streams.specs.Slices.Raw.{note_in}
use Rattle.rept_steps.specs.Course.{Course, rows_of, slices_of, TakeRows}
use Rattle.rept_steps.specs.declared.run.Run.{Run}
use Rattle.rept_steps.specs.declared.slice.Slice.{Slice}
use Rattle.rept_steps.specs.declared.threads.ThreadRows.{ThreadRows}
use Rattle.rept_steps.specs.Linked.{AreLinked, EndBefore}
use Rattle.rept_isa.specs.declared.row.StepRow.{StepRow}
use Rattle.rept_streams.specs.Threads.Notes.{known_by}
use Rattle.rept_streams.specs.declared.threads.notes.KeptNote.{KeptNote}
use Rattle.rept_path.specs.Code.{Code, alignment, by_code, by_instruction, by_word, calls_there, expansion, look, short_half}
use Rattle.rept_path.specs.declared.fault.PathFault.TheVariants.{Unaligned}
use Rattle.rept_timeline.specs.Small.{rows_in}
use Rattle.rept_streams.specs.Runs.Calls.{later_by, with_call, with_calls}

note_same : {x y : ThreadNote} {xs ys : List ThreadNote} → x ∷ xs ≡ y ∷ ys → (x ≡ y) × (xs ≡ ys)
note_same e = (cc, cc)

no_notes : {x : ThreadNote} {xs : List ThreadNote} → x ∷ xs ≡ [] → ⊥
no_notes e = cc

pub pcs_same : (ns : List KeptNote) (descs : List (List ℕ)) → map known_by ns ≡ map note_in descs → map (λ (n : KeptNote). n.pc) ns ≡ map saved_pc descs
pcs_same [] [] e = refl
pcs_same [] (d ∷ ds) e = absurd (no_notes (sym e))
pcs_same (n ∷ ns) [] e = absurd (no_notes e)
pcs_same (n ∷ ns) (d ∷ ds) e =
    let p = note_same e in
    let first = ap (λ (x : ThreadNote). x.pc) p.0 in
    let rest = pcs_same ns ds p.1 in
    λ i. first i ∷ rest i

pub notes_each : (ns : List KeptNote) (descs : List (List ℕ)) → map known_by ns ≡ map note_in descs → length ns ≡ length descs
notes_each [] [] e = refl
notes_each [] (d ∷ ds) e = absurd (no_notes (sym e))
notes_each (n ∷ ns) [] e = absurd (no_notes e)
notes_each (n ∷ ns) (d ∷ ds) e = let rest = notes_each ns ds (note_same e).1 in omega (arith, rest)

-- a step among those that follow one another stands where those before it led
ends_at : (xs : List StepRow) (r : StepRow) (ys : List StepRow) → AreLinked (xs ++ r ∷ ys) → EndBefore xs r.at
ends_at [] r ys h = tt
ends_at (x ∷ []) r ys h = sym h.0
ends_at (x ∷ (y ∷ xs)) r ys h = ends_at (y ∷ xs) r ys h.1

split_at : (ys : List StepRow) (i : ℕ) (r : StepRow) → i < length ys → r ≡ get_or ys i r → take i ys ++ r ∷ drop (i + 1) ys ≡ ys
split_at [] i r few e = absurd (omega (arith, few))
split_at (y ∷ ys) zero r few e = ap (λ (x : StepRow). x ∷ ys) e
split_at (y ∷ ys) (suc i) r few e = let n : suc i + 1 ≡ suc (i + 1) = omega arith in rw n (ap (λ (zs : List StepRow). y ∷ zs) (split_at ys i r (omega (arith, few)) e))

pub linked_at : (xs ys : List StepRow) (i : ℕ) (r : StepRow) → i < length ys → r ≡ get_or ys i r → AreLinked (xs ++ ys) → EndBefore (xs ++ take i ys) r.at
linked_at xs ys i r few e h =
    let all : (xs ++ take i ys) ++ r ∷ drop (i + 1) ys ≡ xs ++ ys = append_assoc xs (take i ys) (r ∷ drop (i + 1) ys) ∙ ap (λ (zs : List StepRow). xs ++ zs) (split_at ys i r few e) in
    ends_at (xs ++ take i ys) r (drop (i + 1) ys) (subst AreLinked (sym all) h)

-- slices of rows at the same places
pub in_place : (ss : List Slice) → map (later_by 0) ss ≡ ss
in_place [] = refl
in_place (s ∷ ss) = let n : s.first + 0 ≡ s.first = omega arith in let rest = in_place ss in λ i. record { stream = s.stream; begin = s.begin; end = s.end; first = n i; count = s.count } ∷ rest i

pub taken_at : (C : Course) → ((t : ℕ) → TakeRows 0 (slices_of C t) (length (rows_of C t))) → (t : ℕ) (th : ThreadRows) → slice_get C.threads t ≡ Some th → TakeRows 0 th.slices (length th.steps)
taken_at C h t th e = subst (λ (x : ThreadRows). TakeRows 0 x.slices (length x.steps)) (ap (λ o. unwrap_or o (record { steps = []; slices = [] })) e) (h t)

pub both : (P : Run → Type 0) (Q : PathFault → Type 0) (r : Result Run PathFault) → IfOk r P → IfErr r Q → MatchResult r P Q
both P Q (Ok run) a b = a
both P Q (Err e) a b = b

pub thread_there : (ths : List ThreadRows) (i : ℕ) (th : ThreadRows) → i < length ths → th ≡ get_or ths i th → slice_get ths i ≡ Some th
thread_there [] i th few e = absurd (omega (arith, few))
thread_there (u ∷ ths) zero th few e = ap (λ (x : ThreadRows). Some x) (sym e)
thread_there (u ∷ ths) (suc i) th few e = thread_there ths i th (omega (arith, few)) e

-- one thread more
pub calls_more : (code : Code) (ns : List KeptNote) (ths : List ThreadRows) (i : ℕ) (th : ThreadRows) (pc : ℕ) → i < length ths → th ≡ get_or ths i th → length ns ≡ length ths → ((n : KeptNote) → slice_get ns i ≡ Some n → pc ≡ n.pc)
    → with_calls code (map (λ (x : KeptNote). x.pc) (take (i + 1) ns)) (take (i + 1) ths) ≡ with_calls code (map (λ (x : KeptNote). x.pc) (take i ns)) (take i ths) ++ with_call code pc th ∷ []
calls_more code [] ths i th pc few e same at = absurd (omega (arith, few, same))
calls_more code (m ∷ ns) [] i th pc few e same at = absurd (omega (arith, few))
calls_more code (m ∷ ns) (u ∷ ths) zero th pc few e same at = let first = sym (at m refl) in let second = sym e in λ j. with_call code (first j) (second j) ∷ []
calls_more code (m ∷ ns) (u ∷ ths) (suc i) th pc few e same at =
    let n : suc i + 1 ≡ suc (i + 1) = omega arith in
    rw n (ap (λ (xs : List ThreadRows). with_call code m.pc u ∷ xs) (calls_more code ns ths i th pc (omega (arith, few)) e (omega (arith, same)) at))

-- a slice takes rows from none past the last one on
pub first_within : (from to : ℕ) (ss : List Slice) (i : ℕ) (s : Slice) → TakeRows from ss to → i < length ss → s ≡ get_or ss i s → (from ≤ to) × (s.first ≤ to)
first_within from to [] i s h few e = absurd (omega (arith, few))
first_within from to (u ∷ ss) zero s h few e =
    let same : s.first ≡ u.first = ap (λ (x : Slice). x.first) e in
    let over = most_taken (from + u.count) to ss h.1 in
    let first = h.0 in
    (omega (arith, over), omega (arith, same, first, over))
  where
    most_taken : (from to : ℕ) (ss : List Slice) → TakeRows from ss to → from ≤ to
    most_taken from to [] h = omega (arith, h)
    most_taken from to (x ∷ xs) h = let more = most_taken (from + x.count) to xs h.1 in omega (arith, more)
first_within from to (u ∷ ss) (suc i) s h few e = let r = first_within (from + u.count) to ss i s h.1 (omega (arith, few)) e in let low = r.0 in (omega (arith, low), r.1)

-- what stands at an address that is no position
pub no_call : (code : Code) (a : ℕ) → a % alignment code ≢ 0 → false ≡ calls_there (look code a)
unfolding look
no_call code a odd = elim (eqb_tells (a % alignment code) 0) [
  | inl x ↦ absurd (odd x.1)
  | inr x ↦ sym (ap (λ (b : Bool). calls_there (cond b (by_code a (short_half code a) (code.contents.word a)) (Err (Unaligned a)))) x.0)
]

-- and at one that is
at_position : (code : Code) (a : ℕ) → a % alignment code ≡ 0 → look code a ≡ by_code a (short_half code a) (code.contents.word a)
unfolding look
at_position code a even = elim (eqb_tells (a % alignment code) 0) [
  | inl x ↦ ap (λ (b : Bool). cond b (by_code a (short_half code a) (code.contents.word a)) (Err (Unaligned a))) x.0
  | inr x ↦ absurd (x.1 even)
]

pub half_there : (code : Code) (a half : ℕ) → a % alignment code ≡ 0 → Some half ≡ short_half code a → by_instruction a half (expansion half) ≡ look code a
half_there code a half even is = sym (at_position code a even ∙ ap (λ (o : Option ℕ). by_code a o (code.contents.word a)) (sym is))

pub word_there : (code : Code) (a : ℕ) → a % alignment code ≡ 0 → None ≡ short_half code a → by_word a (code.contents.word a) ≡ look code a
word_there code a even is = sym (at_position code a even ∙ ap (λ (o : Option ℕ). by_code a o (code.contents.word a)) (sym is))

-- the rows of the first threads, and of one more
pub rows_more : (ths : List ThreadRows) (i : ℕ) (th : ThreadRows) → i < length ths → th ≡ get_or ths i th
    → (rows_in (take (i + 1) ths) ≡ rows_in (take i ths) + length th.steps) × (rows_in (take i ths) + length th.steps ≤ rows_in ths)
rows_more [] i th few e = absurd (omega (arith, few))
rows_more (u ∷ ths) zero th few e = let n : length th.steps ≡ length u.steps = ap (λ (x : ThreadRows). length x.steps) e in (omega (arith, n), omega (arith, n))
rows_more (u ∷ ths) (suc i) th few e =
    let n : suc i + 1 ≡ suc (i + 1) = omega arith in
    let r = rows_more ths i th (omega (arith, few)) e in
    let more = r.0 in let within = r.1 in
    (rw n (omega (arith, more)), omega (arith, within))

pub no_room : (most : ℕ) (ths : List ThreadRows) (i room : ℕ) (th : ThreadRows) → i < length ths → th ≡ get_or ths i th → room + rows_in (take i ths) ≡ most → room < length th.steps → false ≡ nat_le (rows_in ths) most
no_room most ths i room th few e left more =
    let within = (rows_more ths i th few e).1 in
    elim (leb_tells (rows_in ths) most) [
      | inl x ↦ absurd (let le = x.1 in omega (arith, left, more, within, le))
      | inr x ↦ sym x.0
    ]

-- one slice more
pub later_more : (d : Slice) (own : List Slice) (i places n : ℕ) (x : Slice) → i < length own → TakeRows 0 own n → n + places < 2 ^ 32
    → ((get_or own i d).first + places < 2 ^ 32 → x ≡ later_by places (get_or own i d)) → map (later_by places) (take i own) ++ x ∷ [] ≡ map (later_by places) (take (i + 1) own)
later_more d own i places n x few taken room is =
    let same : get_or own i d ≡ get_or own i (get_or own i d) = any own i few in
    let within = (first_within 0 n own i (get_or own i d) taken few same).1 in
    let fits : (get_or own i d).first + places < 2 ^ 32 = omega (arith, within, room) in
    ap (λ (s : Slice). map (later_by places) (take i own) ++ s ∷ []) (is fits) ∙ sym (map_more (later_by places) own i d few)
  where
    any : (ss : List Slice) (k : ℕ) → k < length ss → get_or ss k d ≡ get_or ss k (get_or own i d)
    any [] k low = absurd (omega (arith, low))
    any (s ∷ ss) zero low = refl
    any (s ∷ ss) (suc k) low = any ss k (omega (arith, low))
