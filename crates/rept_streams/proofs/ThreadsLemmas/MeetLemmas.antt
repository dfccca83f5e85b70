-- Going over slices of a thread to the first one that is met.
use Rattle.std.proofs.Common.{◌≡◌, ◌==◌, ℕ, zero, suc, Bool, true, false, cond, get_or, ◌+◌, ◌-◌, ◌<◌, ◌≤◌, map, List, [], ◌∷◌, length, take, drop, Option, Some, None, refl, sym, ◌∙◌, ap, subst, arith, length-drop}
use Rattle.std.specs.Prelude.{slice_get, option_map}
use Rattle.std.specs.List.{filter}
use Rattle.std.specs.Option.{option_or}
use Rattle.std.proofs.lemmas.List.{at_drop_all, at_drop_more, drop-drop, take_all}
use Rattle.rept_path.specs.declared.fault.PathFault.TheVariants.{SliceOverlap}
use Rattle.rept_streams.specs.Slices.Stamps.{clock_of, context_of}
use Rattle.rept_streams.specs.Slices.Parts.{ToldSlice, thread_of, begin_of}
use Rattle.rept_streams.specs.Slices.Order.{head_of, meets, overlap}
use Rattle.rept_streams.specs.Slices.Checks.{first_fault}
use Rattle.rept_streams.specs.Slices.Many.{overlap_fault}
use Rattle.rept_streams.specs.Slices.Ends.{IsInTurn, InTurn, met_next, first_met}
use Rattle.rept_streams.specs.Slices.Entries.{IsEntryOf, AreEntriesOf}
use Rattle.rept_streams.specs.declared.slices.telling.StreamSlice.{StreamSlice}
use Rattle.rept_streams.specs.declared.threads.walks.Walked.{Walked}
use Rattle.rept_streams.proofs.SlicesLemmas.StrangerLemmas.{split_told}
use Rattle.rept_streams.proofs.SlicesLemmas.Apart.{told_filter}
use Rattle.rept_streams.proofs.SlicesLemmas.Checking.{fault_on, fault_here}

abbrev pub slices_in : List Walked → List StreamSlice
slices_in ws = map (λ (w : Walked). w.slice) ws

-- The slices that are left, after those that don't meet the next ones.
pub record Meets (ts : List ToldSlice) (ws : List Walked) : Type 0 where
  pub later : List ToldSlice
  pub are : AreEntriesOf (slices_in ws) later
  pub turn : InTurn later
  pub same : first_met ts ≡ first_met later

pub none_met : (ts : List ToldSlice) (ws : List Walked) → AreEntriesOf (slices_in ws) ts → InTurn ts → Meets ts ws
none_met ts ws a turn = record { later = ts; are = a; turn = turn; same = refl }

pub rest_whole : (ws : List Walked) (i : ℕ) → take (length ws - i) (drop i ws) ≡ drop i ws
rest_whole ws i = take_all (length ws - i) (drop i ws) (let d = length-drop i ws in omega (arith, d))

-- the first one of those that are left
record Front (ts : List ToldSlice) (ws : List Walked) (i : ℕ) (o : Option ℕ) : Type 0 where
  first : ToldSlice
  later : List ToldSlice
  are : AreEntriesOf (slices_in (drop (i + 1) ws)) later
  turn : InTurn later
  same : first_met ts ≡ option_or o (first_met later)

front : (ts : List ToldSlice) (ws : List Walked) (i : ℕ) (o : Option ℕ) → i < length ws → ((t : ToldSlice) (later : List ToldSlice) → AreEntriesOf (slices_in (drop i ws)) (t ∷ later) → IsInTurn t (head_of later) → o ≡ met_next t (head_of later)) → Meets ts (drop i ws) → Front ts ws i o
front ts ws i o within is g = go (drop i ws) refl where
  go : (rest : List Walked) → drop i ws ≡ rest → Front ts ws i o
  go [] e = absurd (let n = ap (length {A = Walked}) e in let d = length-drop i ws in omega (arith, n, d, within))
  go (w ∷ rest) h =
      let after : drop (i + 1) ws ≡ rest = sym (drop-drop 1 i ws) ∙ ap (drop 1) h in
      let s = split_told w.slice (slices_in rest) g.later (subst (λ (xs : List Walked). AreEntriesOf (slices_in xs) g.later) h g.are) in
      let turn : InTurn (s.0 ∷ s.1) = subst InTurn s.2 g.turn in
      let told : AreEntriesOf (slices_in (drop i ws)) (s.0 ∷ s.1) = subst (λ (xs : List Walked). AreEntriesOf (slices_in xs) (s.0 ∷ s.1)) (sym h) (s.3, s.4) in
      record {
        first = s.0;
        later = s.1;
        are = subst (λ (xs : List Walked). AreEntriesOf (slices_in xs) s.1) (sym after) s.4;
        turn = turn.1;
        same = g.same ∙ ap first_met s.2 ∙ ap (λ (x : Option ℕ). option_or x (first_met s.1)) (sym (is s.0 s.1 told turn.0));
      }

pub one_unmet : (ts : List ToldSlice) (ws : List Walked) (i : ℕ) (o : Option ℕ) → i < length ws → ((t : ToldSlice) (later : List ToldSlice) → AreEntriesOf (slices_in (drop i ws)) (t ∷ later) → IsInTurn t (head_of later) → o ≡ met_next t (head_of later)) → o ≡ None → Meets ts (drop i ws) → Meets ts (drop (i + 1) ws)
one_unmet ts ws i o within is none g =
    let f = front ts ws i o within is g in
    record { later = f.later; are = f.are; turn = f.turn; same = f.same ∙ ap (λ (x : Option ℕ). option_or x (first_met f.later)) none }

pub one_met : (ts : List ToldSlice) (ws : List Walked) (i : ℕ) (o : Option ℕ) (time : ℕ) → i < length ws → ((t : ToldSlice) (later : List ToldSlice) → AreEntriesOf (slices_in (drop i ws)) (t ∷ later) → IsInTurn t (head_of later) → o ≡ met_next t (head_of later)) → o ≡ Some time → Meets ts (drop i ws) → Some time ≡ first_met ts
one_met ts ws i o time within is some g =
    let f = front ts ws i o within is g in
    sym (f.same ∙ ap (λ (x : Option ℕ). option_or x (first_met f.later)) some)

pub all_unmet : (ts : List ToldSlice) (ws : List Walked) (i : ℕ) → length ws ≤ i → Meets ts (drop i ws) → None ≡ first_met ts
all_unmet ts ws i past g =
    let none : g.later ≡ [] = subst (λ (xs : List Walked). AreEntriesOf (slices_in xs) g.later) (at_drop_all (λ (xs : List Walked). xs) ws i past) g.are in
    sym (g.same ∙ ap first_met none)

-- the slices from one on stand for those that are told from it on
pub told_drop : (i : ℕ) (ws : List Walked) (ts : List ToldSlice) → AreEntriesOf (slices_in ws) ts → AreEntriesOf (slices_in (drop i ws)) (drop i ts)
told_drop zero ws ts a = a
told_drop (suc i) [] ts a = ap (drop (suc i)) a
told_drop (suc i) (w ∷ ws) [] a = absurd a
told_drop (suc i) (w ∷ ws) (t ∷ ts) a = told_drop i ws ts a.1

-- the second one
pub next_told : (ws : List Walked) (w n : Walked) (t : ToldSlice) (later : List ToldSlice) → AreEntriesOf (slices_in (w ∷ ws)) (t ∷ later) → Some n ≡ slice_get ws 0 → (u : ToldSlice) × (head_of later ≡ Some u) × IsEntryOf n.slice u
next_told [] w n t later a h = absurd (cc)
next_told (x ∷ ws) w n t [] a h = absurd a.1
next_told (x ∷ ws) w n t (u ∷ later) a h = let e : n ≡ x = cc in (u, refl, subst (λ (y : Walked). IsEntryOf y.slice u) (sym e) a.1.0)

pub first_told : (w : Walked) (ws : List Walked) (ts : List ToldSlice) → AreEntriesOf (slices_in (w ∷ ws)) ts → (t : ToldSlice) × IsEntryOf w.slice t
first_told w ws [] a = absurd a
first_told w ws (t ∷ ts) a = (t, a.0)

pub met_here : (t u : ToldSlice) (n : StreamSlice) (begin : ℕ) (o : Option ToldSlice) → o ≡ Some u → IsEntryOf n u → begin ≡ clock_of n.start → meets t u ≡ true → Some begin ≡ met_next t o
met_here t u n begin o some is same met =
    let b : begin ≡ begin_of u = same ∙ ap clock_of is.start in
    ap Some b ∙ sym (ap (λ (c : Bool). cond c (Some (begin_of u)) None) met) ∙ sym (ap (met_next t) some)

pub is_before : (t u : ToldSlice) (o : Option ToldSlice) → o ≡ Some u → IsInTurn t o → (thread_of t ≡ thread_of u) × (begin_of t ≤ begin_of u)
is_before t u o some b = subst (IsInTurn t) some b

-- those of one thread
pub map_filter : (n : ℕ) (ws : List Walked) → filter (λ (e : StreamSlice). context_of e.start == n) (slices_in ws) ≡ slices_in (filter (λ (w : Walked). context_of w.slice.start == n) ws)
map_filter n [] = refl
map_filter n (w ∷ ws) = go (context_of w.slice.start == n) (map_filter n ws) where
  go : (b : Bool) → filter (λ (e : StreamSlice). context_of e.start == n) (slices_in ws) ≡ slices_in (filter (λ (v : Walked). context_of v.slice.start == n) ws)
      → cond b (w.slice ∷ filter (λ (e : StreamSlice). context_of e.start == n) (slices_in ws)) (filter (λ (e : StreamSlice). context_of e.start == n) (slices_in ws)) ≡ slices_in (cond b (w ∷ filter (λ (v : Walked). context_of v.slice.start == n) ws) (filter (λ (v : Walked). context_of v.slice.start == n) ws))
  go true h = ap (λ (es : List StreamSlice). w.slice ∷ es) h
  go false h = h

pub told_of_thread : (n : ℕ) (ws of_one : List Walked) (ts : List ToldSlice) → of_one ≡ filter (λ (w : Walked). context_of w.slice.start == n) ws → AreEntriesOf (slices_in ws) ts → (us : List ToldSlice) × AreEntriesOf (slices_in of_one) us
told_of_thread n ws of_one ts is a =
    let us = filter (λ (t : ToldSlice). thread_of t == n) ts in
    let b : AreEntriesOf (slices_in (filter (λ (w : Walked). context_of w.slice.start == n) ws)) us = subst (λ (es : List StreamSlice). AreEntriesOf es us) (map_filter n ws) (told_filter n (slices_in ws) ts a) in
    (us, subst (λ (vs : List Walked). AreEntriesOf (slices_in vs) us) (sym is) b)

-- the threads that are left
module _ (ts : List ToldSlice) (processes : List ℕ) (i process : ℕ) (within : i < length processes) (at : process ≡ get_or processes i process) (found : Option ℕ) (found_is : found ≡ overlap ts process) where
  here : drop i processes ≡ process ∷ drop (i + 1) processes
  here = at_drop_more (λ (xs : List ℕ). xs) processes i process within ∙ ap (λ (x : ℕ). x ∷ drop (i + 1) processes) (sym at)

  fault_is : overlap_fault ts process ≡ option_map (λ time. SliceOverlap process time) found
  fault_is = sym (ap (option_map (λ time. SliceOverlap process time)) found_is)

  pub none_here : found ≡ None → first_fault (overlap_fault ts) processes ≡ first_fault (overlap_fault ts) (drop i processes) → first_fault (overlap_fault ts) processes ≡ first_fault (overlap_fault ts) (drop (i + 1) processes)
  none_here none h = h ∙ ap (first_fault (overlap_fault ts)) here ∙ fault_on (overlap_fault ts) process (drop (i + 1) processes) (fault_is ∙ ap (option_map (λ time. SliceOverlap process time)) none)

  pub found_here : (time : ℕ) → found ≡ Some time → first_fault (overlap_fault ts) processes ≡ first_fault (overlap_fault ts) (drop i processes) → Some (SliceOverlap process time) ≡ first_fault (overlap_fault ts) processes
  found_here time some h = sym (h ∙ ap (first_fault (overlap_fault ts)) here ∙ fault_here (overlap_fault ts) process (drop (i + 1) processes) (SliceOverlap process time) (fault_is ∙ ap (option_map (λ time. SliceOverlap process time)) some))

pub none_there : (ts : List ToldSlice) (processes : List ℕ) (i : ℕ) → length processes ≤ i → first_fault (overlap_fault ts) processes ≡ first_fault (overlap_fault ts) (drop i processes) → None ≡ first_fault (overlap_fault ts) processes
none_there ts processes i past h = sym (h ∙ at_drop_all (first_fault (overlap_fault ts)) processes i past)
