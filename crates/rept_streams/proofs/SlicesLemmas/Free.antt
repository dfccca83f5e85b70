-- Slices that have nothing at the end of the untraced prefix, in order and as they are told.
use Rattle.std.proofs.Common.{◌≡◌, ℕ, ◌+◌, ◌≤◌, ◌==◌, zero, suc, List, [], ◌∷◌, ◌++◌, length, drop, Bool, true, false, not, ◌&&◌, ◌||◌, cond, Option, Some, None, refl, sym, ◌∙◌, ap, subst, arith, append_assoc}
use Rattle.std.specs.Prelude.{nat_lt}
use Rattle.std.specs.List.{filter, list_all}
use Rattle.std.proofs.lemmas.List.{at_drop_all}
use Rattle.std.proofs.lemmas.List.Folds.{list_all-append}
use Rattle.rept_streams.specs.Slices.Parts.{ToldSlice, thread_of, begin_of, end_before}
use Rattle.rept_streams.specs.Slices.Order.{slices_of}
use Rattle.rept_streams.specs.Slices.Skipping.{begin_past}
use Rattle.rept_streams.specs.Slices.Ends.{past_of}
use Rattle.rept_streams.specs.Slices.Entries.{IsEntryOf, AreEntriesOf}
use Rattle.rept_streams.specs.Slices.Ending.{is_time, meets_end}
use Rattle.rept_streams.specs.Slices.Free.{are_by, meets_by, met_by, is_free, are_free}
use Rattle.rept_streams.specs.declared.slices.ending.PrefixEnd.{PrefixEnd}
use Rattle.rept_streams.specs.declared.slices.telling.StreamSlice.{StreamSlice}
use Rattle.rept_streams.proofs.SlicesLemmas.Apart.{past_is, each_there, each_back}
use Rattle.rept_streams.proofs.SlicesLemmas.InTime.{Each, Ascend}
use Rattle.rept_streams.proofs.SlicesLemmas.StrangerLemmas.{split_told}

-- Whether the slices from one on are free, by the numbers that were added for them, and the begin
-- past the first one's.
abbrev pub FreeFrom : PrefixEnd → List StreamSlice → Option ℕ → List ℕ → Type 0
FreeFrom p es past met = (ts : List ToldSlice) → AreEntriesOf es ts → (past ≡ past_of ts) × ((s : ℕ) → are_by s met ≡ are_free p s ts)

pub none_free : (p : PrefixEnd) (es : List StreamSlice) (i : ℕ) → length es ≤ i → FreeFrom p (drop i es) None []
none_free p es i past = subst (λ (xs : List StreamSlice). FreeFrom p xs None []) (sym (at_drop_all (λ (xs : List StreamSlice). xs) es i past)) (λ ts a. (sym (ap past_of a), λ s. sym (ap (are_free p s) a)))

and_swap : (a b : Bool) → (a && b) ≡ (b && a)
and_swap true true = refl
and_swap true false = refl
and_swap false true = refl
and_swap false false = refl

met_free : (a b : Bool) (n s : ℕ) → (n == s) ≡ a → are_by s (cond b (n ∷ []) []) ≡ (a || not b)
met_free true true n s e = ap (λ (c : Bool). c && true) e
met_free false true n s e = ap (λ (c : Bool). c && true) e
met_free true false n s e = refl
met_free false false n s e = refl

pub one_free : (p : PrefixEnd) (es : List StreamSlice) (i : ℕ) (e : StreamSlice) (past q : Option ℕ) (met new : List ℕ) → drop i es ≡ e ∷ drop (i + 1) es
    → ((t : ToldSlice) (ts : List ToldSlice) → AreEntriesOf (drop i es) (t ∷ ts) → past ≡ past_of ts → q ≡ past_of (t ∷ ts))
    → ((t : ToldSlice) → IsEntryOf e t → new ≡ met ++ met_by p t q)
    → FreeFrom p (drop (i + 1) es) past met → FreeFrom p (drop i es) q new
one_free p es i e past q met new first begins added g = λ ts a.
    let parts = split_told e (drop (i + 1) es) ts (subst (λ (xs : List StreamSlice). AreEntriesOf xs ts) first a) in
    let told : AreEntriesOf (drop i es) (parts.0 ∷ parts.1) = subst (λ (us : List ToldSlice). AreEntriesOf (drop i es) us) parts.2 a in
    let rest = g parts.1 parts.4 in
    let next = begins parts.0 parts.1 told rest.0 in
    let more = added parts.0 parts.3 in
    let free : (s : ℕ) → are_by s new ≡ are_free p s (parts.0 ∷ parts.1) = λ s. (
    let here : are_by s (met_by p parts.0 q) ≡ is_free p s parts.0 (past_of (parts.0 ∷ parts.1)) = met_free (parts.0.stream == s) (meets_by p parts.0 q) parts.0.stream s refl ∙ ap (is_free p s parts.0) next in
    ap (are_by s) more
    ∙ list_all-append (λ (n : ℕ). n == s) met (met_by p parts.0 q)
    ∙ and_swap (are_by s met) (are_by s (met_by p parts.0 q))
    ∙ ap (λ (b : Bool). b && are_by s met) here
    ∙ ap (λ (b : Bool). is_free p s parts.0 (past_of (parts.0 ∷ parts.1)) && b) (rest.1 s)
    ) in
    subst (λ (us : List ToldSlice). (q ≡ past_of us) × ((s : ℕ) → are_by s new ≡ are_free p s us)) (sym parts.2) (next, free)

pub all_free : (p : PrefixEnd) (es : List StreamSlice) (i : ℕ) (past : Option ℕ) (met : List ℕ) → i ≤ 0 → FreeFrom p (drop i es) past met → (ts : List ToldSlice) → AreEntriesOf es ts → (s : ℕ) → are_by s met ≡ are_free p s ts
all_free p es zero past met le g = λ ts a. (g ts a).1
all_free p es (suc i) past met le g = absurd (omega (arith, le))

-- The property that is tested holds of each, and back.
each_of : (test : ToldSlice → Bool) (xs : List ToldSlice) → list_all test xs ≡ true → Each (λ (t : ToldSlice). test t ≡ true) xs
each_of test [] h = tt
each_of test (x ∷ xs) h = go (test x) refl h (each_of test xs) where
  go : (b : Bool) → test x ≡ b → (b && list_all test xs) ≡ true → (list_all test xs ≡ true → Each (λ (t : ToldSlice). test t ≡ true) xs) → Each (λ (t : ToldSlice). test t ≡ true) (x ∷ xs)
  go true e k rest = (e, rest k)
  go false e k rest = absurd (cc)

all_of : (test : ToldSlice → Bool) (xs : List ToldSlice) → Each (λ (t : ToldSlice). test t ≡ true) xs → list_all test xs ≡ true
all_of test [] h = refl
all_of test (x ∷ xs) h = ap (λ (b : Bool). b && list_all test xs) h.0 ∙ all_of test xs h.1

-- the end of a slice that begins before a time, if it does, is another time
timed : (end n : ℕ) (b : Bool) → is_time end (cond b (Some n) None) ≡ (b && (n == end))
timed end n true = refl
timed end n false = refl

-- whether a slice is free, by all slices
abbrev pub is_clear : PrefixEnd → ℕ → List ToldSlice → ToldSlice → Bool
is_clear p s ts t = t.stream == s || not (meets_end p.full p.end ts t)

clear_is : (p : PrefixEnd) (s : ℕ) (ts : List ToldSlice) (t : ToldSlice) → is_free p s t (begin_past ts t) ≡ is_clear p s ts t
clear_is p s ts t = ap (λ (b : Bool). t.stream == s || not (begin_of t == p.end || b)) (timed p.end (end_before t (begin_past ts t)) (nat_lt (begin_of t) p.full))

-- Slices that stand in order, thread by thread.
module _ (ts us : List ToldSlice) (up : Ascend thread_of us) (same : (n : ℕ) → filter (λ (t : ToldSlice). thread_of t == n) us ≡ slices_of n ts) where
  free_are : (p : PrefixEnd) (s : ℕ) (front later : List ToldSlice) → us ≡ front ++ later → are_free p s later ≡ list_all (is_clear p s ts) later
  free_are p s front [] e = refl
  free_are p s front (u ∷ later) e =
      let n = past_is ts us up same front u later e in
      let rest = free_are p s (front ++ u ∷ []) later (e ∙ sym (append_assoc front (u ∷ []) later)) in
      let here : is_free p s u (past_of (u ∷ later)) ≡ is_clear p s ts u = ap (is_free p s u) n ∙ clear_is p s ts u in
      ap (λ (b : Bool). b && are_free p s later) here ∙ ap (λ (b : Bool). is_clear p s ts u && b) rest

  same_all : (test : ToldSlice → Bool) → list_all test us ≡ list_all test ts
  same_all test = go (list_all test us) (list_all test ts) refl refl where
    go : (a b : Bool) → list_all test us ≡ a → list_all test ts ≡ b → a ≡ b
    go true true x y = refl
    go false false x y = refl
    go true false x y =
        let z = all_of test ts (each_back ts us up same (λ (t : ToldSlice). test t ≡ true) (each_of test us x) [] ts refl) in
        absurd (cc)
    go false true x y =
        let z = all_of test us (each_there ts us up same (λ (t : ToldSlice). test t ≡ true) (each_of test ts y) [] us refl) in
        absurd (cc)

  pub free_told : (p : PrefixEnd) (s : ℕ) → are_free p s us ≡ list_all (is_clear p s ts) ts
  free_told p s = free_are p s [] us refl ∙ same_all (is_clear p s ts)
