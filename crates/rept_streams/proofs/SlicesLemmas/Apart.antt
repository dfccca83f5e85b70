-- Slices of different numbers, and the slices of one thread among them.
use Rattle.std.proofs.Common.{◌≡◌, ◌≢◌, inl, inr, ℕ, ◌≤◌, ◌==◌, nat_le, List, [], ◌∷◌, ◌++◌, map, Bool, true, false, cond, Some, None, refl, sym, ◌∙◌, ap, subst, arith, append_assoc}
use Rattle.std.specs.Prelude.{nat_lt}
use Rattle.std.specs.List.{filter, cons_option}
use Rattle.std.proofs.lemmas.Bool.Decides.{leb_tells, eqb_tells}
use Rattle.std.proofs.lemmas.List.Elements.{filter-append}
use Rattle.rept_trace.specs.declared.packet.Packet.{Packet}
use Rattle.rept_trace.specs.Packets.{rest_of}
use Rattle.rept_trace.proofs.Going.{one_list}
use Rattle.rept_streams.specs.Slices.Stamps.{clock_of, context_of}
use Rattle.rept_streams.specs.Slices.Parts.{ToldSlice, thread_of, begin_of, end_before}
use Rattle.rept_streams.specs.Slices.Order.{put, by_time, least, slices_of}
use Rattle.rept_streams.specs.Slices.Skipping.{greatest, begin_past, end_skipped, ends_of}
use Rattle.rept_streams.specs.Slices.Ends.{past_of, ends_in}
use Rattle.rept_streams.specs.Slices.Entries.{IsEntryOf, AreEntriesOf}
use Rattle.rept_streams.specs.declared.slices.telling.StreamSlice.{StreamSlice}
use Rattle.rept_streams.proofs.SlicesLemmas.InTime.{Each, Ascend, ascends, each_put, each_by_time, each_of_time, each_filter}
use Rattle.rept_streams.proofs.SlicesLemmas.Past.{ascend_rest, past_there, past_sorted, past_own}
use Rattle.rept_streams.proofs.SlicesLemmas.Sorting.{like}

-- entries stand for slices in one way
pub same_told : (e : StreamSlice) (t u : ToldSlice) → IsEntryOf e t → IsEntryOf e u → t ≡ u
same_told e t u x y =
    let stream : t.stream ≡ u.stream = sym x.stream ∙ y.stream in
    let number : t.number ≡ u.number = sym x.number ∙ y.number in
    let start : t.start ≡ u.start = sym x.start ∙ y.start in
    let later : t.later ≡ u.later = one_list (rest_of e.later) t.later u.later x.later y.later in
    let inside : t.inside ≡ u.inside = sym x.inside ∙ y.inside in
    λ i. record { stream = stream i; number = number i; start = start i; later = later i; inside = inside i }

pub same_all_told : (es : List StreamSlice) (a b : List ToldSlice) → AreEntriesOf es a → AreEntriesOf es b → a ≡ b
same_all_told [] a b x y = x ∙ sym y
same_all_told (e ∷ es) [] b x y = absurd x
same_all_told (e ∷ es) (t ∷ a) [] x y = absurd y
same_all_told (e ∷ es) (t ∷ a) (u ∷ b) x y =
    let first : t ≡ u = same_told e t u x.0 y.0 in
    let rest : a ≡ b = same_all_told es a b x.1 y.1 in
    λ i. first i ∷ rest i

-- entries each of which stands for a slice
abbrev pub HasTold : StreamSlice → Type 0
HasTold e = (t : ToldSlice) × IsEntryOf e t

pub each_told : (es : List StreamSlice) (ts : List ToldSlice) → AreEntriesOf es ts → Each HasTold es
each_told [] ts a = tt
each_told (e ∷ es) [] a = absurd a
each_told (e ∷ es) (t ∷ ts) a = ((t, a.0), each_told es ts a.1)

pub told_by_each : (es : List StreamSlice) → Each HasTold es → (ts : List ToldSlice) × AreEntriesOf es ts
told_by_each [] h = ([], refl)
told_by_each (e ∷ es) h =
    let r = told_by_each es h.1 in
    (h.0.0 ∷ r.0, (h.0.1, r.1))

abbrev pub entry_thread : StreamSlice → ℕ
entry_thread e = context_of e.start

abbrev pub entry_begin : StreamSlice → ℕ
entry_begin e = clock_of e.start

-- those of one thread, and those in order
pub told_filter : (n : ℕ) (es : List StreamSlice) (ts : List ToldSlice) → AreEntriesOf es ts → AreEntriesOf (filter (λ (e : StreamSlice). context_of e.start == n) es) (filter (λ (t : ToldSlice). thread_of t == n) ts)
told_filter n [] ts a = ap (filter (λ (t : ToldSlice). thread_of t == n)) a
told_filter n (e ∷ es) [] a = absurd a
told_filter n (e ∷ es) (t ∷ ts) a =
    let same : (context_of e.start == n) ≡ (thread_of t == n) = ap (λ (p : Packet). context_of p == n) (a.0).start in
    go (context_of e.start == n) (thread_of t == n) same (told_filter n es ts a.1)
  where
    go : (b c : Bool) → b ≡ c → AreEntriesOf (filter (λ (e : StreamSlice). context_of e.start == n) es) (filter (λ (t : ToldSlice). thread_of t == n) ts)
        → AreEntriesOf (cond b (e ∷ filter (λ (e : StreamSlice). context_of e.start == n) es) (filter (λ (e : StreamSlice). context_of e.start == n) es)) (cond c (t ∷ filter (λ (t : ToldSlice). thread_of t == n) ts) (filter (λ (t : ToldSlice). thread_of t == n) ts))
    go true true h r = (a.0, r)
    go true false h r = absurd (cc)
    go false true h r = absurd (cc)
    go false false h r = r

told_put : (e : StreamSlice) (t : ToldSlice) (es : List StreamSlice) (ts : List ToldSlice) → IsEntryOf e t → AreEntriesOf es ts → AreEntriesOf (put entry_begin e es) (put begin_of t ts)
told_put e t [] ts is a = subst (λ (us : List ToldSlice). AreEntriesOf (e ∷ []) (put begin_of t us)) (sym a) (is, refl)
told_put e t (f ∷ es) [] is a = absurd a
told_put e t (f ∷ es) (u ∷ ts) is a =
    let same : nat_le (entry_begin e) (entry_begin f) ≡ nat_le (begin_of t) (begin_of u) = λ i. nat_le (clock_of (is.start i)) (clock_of ((a.0).start i)) in
    go (nat_le (entry_begin e) (entry_begin f)) (nat_le (begin_of t) (begin_of u)) same (told_put e t es ts is a.1)
  where
    go : (b c : Bool) → b ≡ c → AreEntriesOf (put entry_begin e es) (put begin_of t ts) → AreEntriesOf (cond b (e ∷ f ∷ es) (f ∷ put entry_begin e es)) (cond c (t ∷ u ∷ ts) (u ∷ put begin_of t ts))
    go true true h r = (is, a)
    go true false h r = absurd (cc)
    go false true h r = absurd (cc)
    go false false h r = (a.0, r)

pub told_by_time : (es : List StreamSlice) (ts : List ToldSlice) → AreEntriesOf es ts → AreEntriesOf (by_time entry_begin es) (by_time begin_of ts)
told_by_time [] ts a = ap (by_time begin_of) a
told_by_time (e ∷ es) [] a = absurd a
told_by_time (e ∷ es) (t ∷ ts) a = told_put e t (by_time entry_begin es) (by_time begin_of ts) a.0 (told_by_time es ts a.1)

pub told_slices : (n : ℕ) (es : List StreamSlice) (ts : List ToldSlice) → AreEntriesOf es ts → AreEntriesOf (by_time entry_begin (filter (λ (e : StreamSlice). context_of e.start == n) es)) (slices_of n ts)
told_slices n es ts a = told_by_time (filter (λ (e : StreamSlice). context_of e.start == n) es) (filter (λ (t : ToldSlice). thread_of t == n) ts) (told_filter n es ts a)

-- None of them is of this number.
abbrev pub Alone : ℕ → List ToldSlice → Type 0
Alone n ts = Each (λ (t : ToldSlice). t.number ≢ n) ts

-- They are of different numbers.
abbrev pub Apart : List ToldSlice → Type 0
Apart [] = Unit {0}
Apart (t ∷ ts) = Alone t.number ts × Apart ts

apart_put : (x : ToldSlice) (ys : List ToldSlice) → Alone x.number ys → Apart ys → Apart (put begin_of x ys)
apart_put x [] h a = (tt, tt)
apart_put x (y ∷ ys) h a =
    let other : x.number ≢ y.number = λ e. h.0 (sym e) in
    go (nat_le (begin_of x) (begin_of y)) (each_put begin_of (λ (t : ToldSlice). t.number ≢ y.number) x ys other a.0) (apart_put x ys h.1 a.1)
  where
    go : (b : Bool) → Alone y.number (put begin_of x ys) → Apart (put begin_of x ys) → Apart (cond b (x ∷ y ∷ ys) (y ∷ put begin_of x ys))
    go true k r = (h, a)
    go false k r = (k, r)

apart_by_time : (ts : List ToldSlice) → Apart ts → Apart (by_time begin_of ts)
apart_by_time [] a = tt
apart_by_time (t ∷ ts) a = apart_put t (by_time begin_of ts) (each_by_time begin_of (λ (u : ToldSlice). u.number ≢ t.number) ts a.0) (apart_by_time ts a.1)

pub apart_filter : (test : ToldSlice → Bool) (ts : List ToldSlice) → Apart ts → Apart (filter test ts)
apart_filter test [] a = tt
apart_filter test (t ∷ ts) a = go (test t) (each_filter (λ (u : ToldSlice). u.number ≢ t.number) test ts a.0) (apart_filter test ts a.1) where
  go : (b : Bool) → Alone t.number (filter test ts) → Apart (filter test ts) → Apart (cond b (t ∷ filter test ts) (filter test ts))
  go true k r = (k, r)
  go false k r = r

pub apart_slices : (n : ℕ) (ts : List ToldSlice) → Apart ts → Apart (slices_of n ts)
apart_slices n ts a = apart_by_time (filter (λ (t : ToldSlice). thread_of t == n) ts) (apart_filter (λ (t : ToldSlice). thread_of t == n) ts a)

pub each_middle : {A : Type 0} (P : A → Type 0) (xs : List A) (y : A) (ys : List A) → Each P (xs ++ y ∷ ys) → P y
each_middle P [] y ys h = h.0
each_middle P (x ∷ xs) y ys h = each_middle P xs y ys h.1

-- those of a thread, with one of them in its place
filter_middle : (front : List ToldSlice) (u : ToldSlice) (later : List ToldSlice) → filter (like thread_of u) (front ++ u ∷ later) ≡ filter (like thread_of u) front ++ u ∷ filter (like thread_of u) later
filter_middle front u later = filter-append (like thread_of u) front (u ∷ later) ∙ ap (λ (xs : List ToldSlice). filter (like thread_of u) front ++ xs) here where
  here : filter (like thread_of u) (u ∷ later) ≡ u ∷ filter (like thread_of u) later
  here = elim (eqb_tells (thread_of u) (thread_of u)) [
    | inl t ↦ ap (λ (b : Bool). cond b (u ∷ filter (like thread_of u) later) (filter (like thread_of u) later)) t.0
    | inr t ↦ absurd (t.1 refl)
  ]

pub ascend_tail : (front us : List ToldSlice) → Ascend thread_of (front ++ us) → Ascend thread_of us
ascend_tail [] us a = a
ascend_tail (x ∷ front) us a = ascend_tail front us a.1

-- the greatest of numbers
greatest_within : (m : ℕ) (xs : List ℕ) → Each (λ n. n ≤ m) xs → greatest xs ≤ m
greatest_within m [] h = omega arith
greatest_within m (x ∷ xs) h = go (nat_le x (greatest xs)) (greatest_within m xs h.1) where
  go : (b : Bool) → greatest xs ≤ m → cond b (greatest xs) x ≤ m
  go true more = more
  go false more = h.0

first_within : (n : ℕ) (ns : List ℕ) → (n ≤ greatest (n ∷ ns)) × (greatest ns ≤ greatest (n ∷ ns))
first_within n ns = elim (leb_tells n (greatest ns)) [
  | inl t ↦ (let e = ap (λ (b : Bool). cond b (greatest ns) n) t.0 in let le = t.1 in (omega (arith, e, le), omega (arith, e)))
  | inr t ↦ (let e = ap (λ (b : Bool). cond b (greatest ns) n) t.0 in let lt = t.1 in (omega (arith, e), omega (arith, e, lt)))
]

module _ (f : ToldSlice → ℕ) (q : ToldSlice → Bool) where
  abbrev Below : ℕ → ToldSlice → Type 0
  Below m u = q u ≡ true → f u ≤ m

  abbrev most : List ToldSlice → ℕ
  most us = greatest (map f (filter q us))

  most_within : (m : ℕ) (us : List ToldSlice) → Each (Below m) us → most us ≤ m
  most_within m [] h = omega arith
  most_within m (u ∷ us) h = go (q u) refl (most_within m us h.1) where
    go : (b : Bool) → q u ≡ b → most us ≤ m → greatest (map f (cond b (u ∷ filter q us) (filter q us))) ≤ m
    go true e more = inner (nat_le (f u) (most us)) where
      inner : (c : Bool) → cond c (most us) (f u) ≤ m
      inner true = more
      inner false = h.0 e
    go false e more = more

  each_weaker : (m n : ℕ) → m ≤ n → (us : List ToldSlice) → Each (Below m) us → Each (Below n) us
  each_weaker m n le [] h = tt
  each_weaker m n le (u ∷ us) h = (λ e. let k = h.0 e in omega (arith, k, le), each_weaker m n le us h.1)

  below_most : (us : List ToldSlice) → Each (Below (most us)) us
  below_most [] = tt
  below_most (u ∷ us) = go (q u) refl (below_most us) where
    go : (b : Bool) → q u ≡ b → Each (Below (most us)) us → Each (Below (greatest (map f (cond b (u ∷ filter q us) (filter q us))))) (u ∷ us)
    go false e more = ((λ h. absurd (cc)), more)
    go true e more =
        let m = first_within (f u) (map f (filter q us)) in
        ((λ h. m.0), each_weaker (most us) (greatest (f u ∷ map f (filter q us))) m.1 us more)

-- Slices that stand in order, thread by thread.
module _ (ts us : List ToldSlice) (up : Ascend thread_of us) (same : (n : ℕ) → filter (λ (t : ToldSlice). thread_of t == n) us ≡ slices_of n ts) where
  of_one : (front : List ToldSlice) (u : ToldSlice) (later : List ToldSlice) → us ≡ front ++ u ∷ later → slices_of (thread_of u) ts ≡ filter (like thread_of u) front ++ u ∷ filter (like thread_of u) later
  of_one front u later e = sym (same (thread_of u)) ∙ ap (filter (like thread_of u)) e ∙ filter_middle front u later

  pub past_is : (front : List ToldSlice) (u : ToldSlice) (later : List ToldSlice) → us ≡ front ++ u ∷ later → past_of (u ∷ later) ≡ begin_past ts u
  past_is front u later e =
      let there = of_one front u later e in
      let own = filter (like thread_of u) later in
      let before = filter (like thread_of u) front in
      let rises : Ascend begin_of (before ++ u ∷ own) = subst (Ascend begin_of) there (ascends begin_of (filter (λ (t : ToldSlice). thread_of t == thread_of u) ts)) in
      let after : Ascend begin_of (u ∷ own) = ascend_rest before (u ∷ own) rises in
      past_own (thread_of u) u later refl (ascend_tail front (u ∷ later) (subst (Ascend thread_of) e up)) after.1
      ∙ past_there before u own rises
      ∙ ap (λ (xs : List ToldSlice). least (filter (λ n. nat_lt (begin_of u) n) (map begin_of xs))) (sym there)
      ∙ past_sorted (begin_of u) (filter (λ (t : ToldSlice). thread_of t == thread_of u) ts)

  abbrev shift : (front : List ToldSlice) (u : ToldSlice) (later : List ToldSlice) → us ≡ front ++ u ∷ later → us ≡ (front ++ u ∷ []) ++ later
  shift front u later e = e ∙ sym (append_assoc front (u ∷ []) later)

  ends_are : (time : ℕ) (front later : List ToldSlice) → us ≡ front ++ later → ends_in time later ≡ map (end_skipped ts) (filter (λ (t : ToldSlice). nat_lt (begin_of t) time) later)
  ends_are time front [] e = refl
  ends_are time front (u ∷ later) e =
      let n = past_is front u later e in
      let rest = ends_are time (front ++ u ∷ []) later (shift front u later e) in
      go (nat_lt (begin_of u) time) (ap (end_before u) n) rest
    where
      go : (b : Bool) → end_before u (past_of (u ∷ later)) ≡ end_skipped ts u → ends_in time later ≡ map (end_skipped ts) (filter (λ (t : ToldSlice). nat_lt (begin_of t) time) later)
          → cons_option (cond b (Some (end_before u (past_of (u ∷ later)))) None) (ends_in time later) ≡ map (end_skipped ts) (cond b (u ∷ filter (λ (t : ToldSlice). nat_lt (begin_of t) time) later) (filter (λ (t : ToldSlice). nat_lt (begin_of t) time) later))
      go true h r = λ i. h i ∷ r i
      go false h r = r

  pub each_there : (P : ToldSlice → Type 0) → Each P ts → (front later : List ToldSlice) → us ≡ front ++ later → Each P later
  each_there P h front [] e = tt
  each_there P h front (u ∷ later) e =
      let test : ToldSlice → Bool = λ t. thread_of t == thread_of u in
      let own : Each P (slices_of (thread_of u) ts) = each_by_time begin_of P (filter test ts) (each_filter P test ts h) in
      let here : P u = each_middle P (filter (like thread_of u) front) u (filter (like thread_of u) later) (subst (Each P) (of_one front u later e) own) in
      (here, each_there P h (front ++ u ∷ []) later (shift front u later e))

  pub each_back : (P : ToldSlice → Type 0) → Each P us → (front later : List ToldSlice) → ts ≡ front ++ later → Each P later
  each_back P h front [] e = tt
  each_back P h front (t ∷ later) e =
      let test : ToldSlice → Bool = λ u. thread_of u == thread_of t in
      let own : Each P (by_time begin_of (filter test ts)) = subst (Each P) (same (thread_of t)) (each_filter P test us h) in
      let all : Each P (filter test ts) = each_of_time begin_of P (filter test ts) own in
      let whole : filter test ts ≡ filter (like thread_of t) front ++ t ∷ filter (like thread_of t) later = ap (filter test) e ∙ filter_middle front t later in
      let here : P t = each_middle P (filter (like thread_of t) front) t (filter (like thread_of t) later) (subst (Each P) whole all) in
      (here, each_back P h (front ++ t ∷ []) later (e ∙ sym (append_assoc front (t ∷ []) later)))

  pub last_ends : (time : ℕ) → greatest (time ∷ ends_in time us) ≡ greatest (time ∷ ends_of time ts)
  last_ends time =
      let begun : ToldSlice → Bool = λ t. nat_lt (begin_of t) time in
      let f = end_skipped ts in
      let a : most f begun us ≤ most f begun ts = most_within f begun (most f begun ts) us (each_there (Below f begun (most f begun ts)) (below_most f begun ts) [] us refl) in
      let b : most f begun ts ≤ most f begun us = most_within f begun (most f begun us) ts (each_back (Below f begun (most f begun us)) (below_most f begun us) [] ts refl) in
      let e : most f begun us ≡ most f begun ts = omega (arith, a, b) in
      ap (λ (ns : List ℕ). greatest (time ∷ ns)) (ends_are time [] us refl) ∙ ap (λ (n : ℕ). cond (nat_le time n) n time) e
