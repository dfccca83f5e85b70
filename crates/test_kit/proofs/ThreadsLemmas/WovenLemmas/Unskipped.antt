-- Of streams whose first slices begin at one time no packet is skipped, and no check fails.
use Rattle.std.proofs.Common.{◌≡◌, inl, inr, ℕ, suc, ◌+◌, ◌-◌, ◌<◌, ◌≤◌, ◌==◌, nat_le, List, [], ◌∷◌, ◌++◌, length, map, Bool, true, false, not, cond, ◌&&◌, ◌||◌, Option, Some, None, refl, sym, ◌∙◌, ap, arith}
use Rattle.std.specs.Prelude.{unwrap_or, nat_lt, option_map}
use Rattle.std.specs.List.{AllZip, filter, filter_map, cons_option, list_any, prefix_len, sum_by}
use Rattle.std.proofs.lemmas.Bool.Decides.{leb_tells, eqb_tells}
use Rattle.std.proofs.lemmas.List.Sums.{sum_by-cons}
use Rattle.rept_trace.specs.declared.packet.Packet.{Packet}
use Rattle.rept_path.specs.declared.fault.PathFault.{PathFault}
use Rattle.rept_path.specs.declared.fault.PathFault.TheVariants.{SliceOverlap, UnknownThread}
use Rattle.rept_encode.specs.declared.weaving.stretch.HartStretch.{HartStretch}
use Rattle.rept_encode.specs.Weaving.Woven.{start_of, ended, end_of, AreSent}
use Rattle.rept_streams.specs.Slices.Stamps.{clock_of, is_start}
use Rattle.rept_streams.specs.Slices.Parts.{LeftPackets, ToldSlice, thread_of, begin_of, slices_told}
use Rattle.rept_streams.specs.Slices.Order.{meets, least, lasts_past}
use Rattle.rept_streams.specs.Slices.Skipping.{numbered, whole, skip, window_of, windows, opening, greatest, full_from, from_time, kept, skipped, end_skipped, ends_of, untraced}
use Rattle.rept_streams.specs.Slices.Checks.{first_fault, time_back, startless, all_idle, stranger, while_other, check}
use Rattle.rept_streams.specs.Slices.Joins.{ThreadNote}
use Rattle.rept_streams.specs.Slices.Many.{overlap_fault}
use Rattle.rept_streams.proofs.SlicesLemmas.InTime.{Each}
use Rattle.rept_streams.proofs.SlicesLemmas.Calm.{each_append}
use Rattle.rept_streams.proofs.SlicesLemmas.Checking.{fault_on}
use Rattle.test_kit.specs.Threads.Woven.Told.{AreInTime}
use Rattle.test_kit.specs.Threads.Woven.Ordered.{Piece, on_hart, pieces_from, begins, untraced_of, IsNoted, AreApart}
use Rattle.test_kit.proofs.ThreadsLemmas.WovenLemmas.Telling.{layout, whole_window, times_rise}
use Rattle.test_kit.proofs.ThreadsLemmas.WovenLemmas.Zipped.{each_weaker}
use Rattle.test_kit.proofs.ThreadsLemmas.WovenLemmas.Sliced.{IsPieceOf, thread_is, begin_is, lasts_not}

-- no fault where each passes
pub no_fault : {A : Type 0} (check : A → Option PathFault) (xs : List A) → Each (λ x. check x ≡ None) xs → first_fault check xs ≡ None
no_fault check [] h = refl
no_fault check (x ∷ xs) h = fault_on check x xs h.0 ∙ no_fault check xs h.1

unmoved : (l : LeftPackets) (n : ℕ) → n ≡ 0 → skip n l ≡ l
unmoved l n e =
    ap (λ (m : ℕ). skip m l) e ∙ ap (λ (m : ℕ). record { stream = l.stream; number = m; packets = l.packets }) (let z : l.number + 0 ≡ l.number = omega arith in z)

-- numbers that are all one
greatest_one : (time : ℕ) (ns : List ℕ) → Each (λ n. n ≡ time) ns → 0 < length ns → greatest ns ≡ time
greatest_one time [] h some = absurd (omega (arith, some))
greatest_one time (n ∷ []) h some = ends (nat_le n 0) refl where
  ends : (b : Bool) → nat_le n 0 ≡ b → cond b 0 n ≡ time
  ends true e = elim (leb_tells n 0) [ inl t ↦ (let le = t.1 in let is = h.0 in omega (arith, le, is)) | inr t ↦ absurd (let f = t.0 in cc) ]
  ends false e = h.0
greatest_one time (n ∷ (m ∷ ns)) h some =
    let rest = greatest_one time (m ∷ ns) h.1 (omega arith) in
    go (nat_le n (greatest (m ∷ ns))) rest
  where
    go : (b : Bool) → greatest (m ∷ ns) ≡ time → cond b (greatest (m ∷ ns)) n ≡ time
    go true r = r
    go false r = h.0

-- no slice begins before
none_early : (time : ℕ) (ts : List ToldSlice) → Each (λ t. time ≤ begin_of t) ts → filter (λ t. nat_lt (begin_of t) time) ts ≡ []
none_early time [] h = refl
none_early time (t ∷ ts) h = elim (leb_tells (suc (begin_of t)) time) [
  | inl x ↦ absurd (let lt = x.1 in let le = h.0 in omega (arith, lt, le))
  | inr x ↦ (ap (λ (b : Bool). cond b (t ∷ filter (λ u. nat_lt (begin_of u) time) ts) (filter (λ u. nat_lt (begin_of u) time) ts)) x.0 ∙ none_early time ts h.1)
]

-- a hart's stretches begin no earlier than its first one
on_from : (time : ℕ) (xs : List HartStretch) → AreInTime time xs → Each (λ (x : HartStretch). time ≤ x.begin) xs
on_from time [] h = tt
on_from time (x ∷ xs) (first, own, after) = (first, each_weaker (λ (y : HartStretch). x.end ≤ y.begin) (λ (y : HartStretch). time ≤ y.begin) (λ y le. omega (arith, le, first, own)) xs (on_from x.end xs after))

module _ (halves : Bool) (time : ℕ) where
  abbrev Starts : List (List HartStretch) → Type 0
  Starts harts = Each (λ n. n ≡ time) (begins harts)

  -- one stream
  first_window : (hart : List HartStretch) (packets : List Packet) → AreSent halves hart packets → unwrap_or (window_of 0 packets) 0 ≡ 0
  first_window [] packets h = ap (λ (ps : List Packet). unwrap_or (window_of 0 ps) 0) h
  first_window (x ∷ xs) packets h = ap (λ (o : Option ℕ). unwrap_or o 0) (whole_window halves x xs packets h)

  starts_at : (x : HartStretch) (xs : List HartStretch) (packets : List Packet) → AreSent halves (x ∷ xs) packets → (p : Packet) × (later : List Packet) × (packets ≡ p ∷ later) × (is_start p ≡ true) × (clock_of p ≡ x.begin)
  starts_at x xs packets (front, later, cut, i, others) = (start_of x i.first, i.reports ++ (ended ∷ end_of x ∷ later), cut ∙ layout halves x front later i, refl, refl)

  abbrev before : List Packet → ℕ
  before packets = prefix_len (λ p. not (is_start p && nat_le time (clock_of p))) packets

  none_before : (x : HartStretch) (xs : List HartStretch) (packets : List Packet) → AreSent halves (x ∷ xs) packets → x.begin ≡ time → before packets ≡ 0
  none_before x xs packets h is =
      let s = starts_at x xs packets h in
      let at : nat_le time (clock_of s.0) ≡ true = elim (leb_tells time (clock_of s.0)) [ inl t ↦ t.0 | inr t ↦ absurd (let lt = t.1 in let e = s.4 in omega (arith, lt, e, is)) ] in
      ap (λ (ps : List Packet). before ps) s.2
      ∙ ap (λ (b : Bool). cond (not (b && nat_le time (clock_of s.0))) (1 + before s.1) 0) s.3
      ∙ ap (λ (b : Bool). cond (not b) (1 + before s.1) 0) at

  -- all streams
  windows_from : (harts : List (List HartStretch)) (lists : List (List Packet)) (s k : ℕ) → AllZip (AreSent halves) harts lists → map (λ left. skip (unwrap_or (window_of 0 left.packets) 0) left) (numbered s k lists) ≡ numbered s k lists
  windows_from [] [] s k h = refl
  windows_from [] (ps ∷ lists) s k h = absurd h
  windows_from (hart ∷ harts) [] s k h = absurd h
  windows_from (hart ∷ harts) (ps ∷ lists) s k h =
      let l : LeftPackets = record { stream = s; number = k; packets = ps } in
      let a : skip (unwrap_or (window_of 0 ps) 0) l ≡ l = unmoved l (unwrap_or (window_of 0 ps) 0) (first_window hart ps h.0) in
      let b = windows_from harts lists (suc s) (k + length ps) h.1 in
      λ i. a i ∷ b i

  opens : (harts : List (List HartStretch)) (lists : List (List Packet)) (s k : ℕ) → AllZip (AreSent halves) harts lists → filter_map opening (numbered s k lists) ≡ begins harts
  opens [] [] s k h = refl
  opens [] (ps ∷ lists) s k h = absurd h
  opens (hart ∷ harts) [] s k h = absurd h
  opens ([] ∷ harts) (ps ∷ lists) s k h =
      ap (λ (qs : List Packet). cons_option (opening (record { stream = s; number = k; packets = qs })) (filter_map opening (numbered (suc s) (k + length ps) lists))) h.0
      ∙ opens harts lists (suc s) (k + length ps) h.1
  opens ((x ∷ xs) ∷ harts) (ps ∷ lists) s k h =
      let a = starts_at x xs ps h.0 in
      ap (λ (qs : List Packet). cons_option (opening (record { stream = s; number = k; packets = qs })) (filter_map opening (numbered (suc s) (k + length ps) lists))) a.2
      ∙ ap (λ (n : ℕ). n ∷ filter_map opening (numbered (suc s) (k + length ps) lists)) a.4
      ∙ ap (λ (ns : List ℕ). x.begin ∷ ns) (opens harts lists (suc s) (k + length ps) h.1)

  kept_from : (harts : List (List HartStretch)) (lists : List (List Packet)) (s k : ℕ) → AllZip (AreSent halves) harts lists → Starts harts → map (from_time time) (numbered s k lists) ≡ numbered s k lists
  kept_from [] [] s k h st = refl
  kept_from [] (ps ∷ lists) s k h st = absurd h
  kept_from (hart ∷ harts) [] s k h st = absurd h
  kept_from ([] ∷ harts) (ps ∷ lists) s k h st =
      let l : LeftPackets = record { stream = s; number = k; packets = ps } in
      let none : before ps ≡ 0 = ap (λ (qs : List Packet). before qs) h.0 in
      let a : from_time time l ≡ l = unmoved l (before ps) none in
      let b = kept_from harts lists (suc s) (k + length ps) h.1 st in
      λ i. a i ∷ b i
  kept_from ((x ∷ xs) ∷ harts) (ps ∷ lists) s k h st =
      let l : LeftPackets = record { stream = s; number = k; packets = ps } in
      let a : from_time time l ≡ l = unmoved l (before ps) (none_before x xs ps h.0 st.0) in
      let b = kept_from harts lists (suc s) (k + length ps) h.1 st.1 in
      λ i. a i ∷ b i

  -- the checks of each stream
  times_pass : (harts : List (List HartStretch)) (lists : List (List Packet)) (s k : ℕ) → AllZip (AreSent halves) harts lists → Each (AreInTime 0) harts → Each (λ l. time_back l ≡ None) (numbered s k lists)
  times_pass [] [] s k h t = tt
  times_pass [] (ps ∷ lists) s k h t = absurd h
  times_pass (hart ∷ harts) [] s k h t = absurd h
  times_pass (hart ∷ harts) (ps ∷ lists) s k h t = (times_rise halves hart ps k h.0 t.0, times_pass harts lists (suc s) (k + length ps) h.1 t.1)

  one_starts : (hart : List HartStretch) (packets : List Packet) (s k : ℕ) → AreSent halves hart packets → startless 0 (record { stream = s; number = k; packets = packets }) ≡ None
  one_starts [] packets s k h = ap (λ (qs : List Packet). startless 0 (record { stream = s; number = k; packets = qs })) h
  one_starts (x ∷ xs) packets s k h =
      let a = starts_at x xs packets h in
      ap (λ (qs : List Packet). startless 0 (record { stream = s; number = k; packets = qs })) a.2 ∙ there a.0 a.1 (sym (ap (window_of 0) a.2) ∙ whole_window halves x xs packets h)
    where
      there : (p : Packet) (later : List Packet) → window_of 0 (p ∷ later) ≡ Some 0 → startless 0 (record { stream = s; number = k; packets = p ∷ later }) ≡ None
      there p later u = rw u refl

  all_start : (harts : List (List HartStretch)) (lists : List (List Packet)) (s k : ℕ) → AllZip (AreSent halves) harts lists → Each (λ l. startless 0 l ≡ None) (numbered s k lists)
  all_start [] [] s k h = tt
  all_start [] (ps ∷ lists) s k h = absurd h
  all_start (hart ∷ harts) [] s k h = absurd h
  all_start (hart ∷ harts) (ps ∷ lists) s k h = (one_starts hart ps s k h.0, all_start harts lists (suc s) (k + length ps) h.1)

  some_stream : (harts : List (List HartStretch)) (lists : List (List Packet)) → AllZip (AreSent halves) harts lists → 0 < length (begins harts) → all_idle lists ≡ None
  some_stream [] [] h some = absurd (omega (arith, some))
  some_stream [] (ps ∷ lists) h some = absurd h
  some_stream (hart ∷ harts) [] h some = absurd h
  some_stream ([] ∷ harts) (ps ∷ lists) h some = ap (λ (qs : List Packet). all_idle (qs ∷ lists)) h.0 ∙ some_stream harts lists h.1 some
  some_stream ((x ∷ xs) ∷ harts) (ps ∷ lists) h some = ap (λ (qs : List Packet). all_idle (qs ∷ lists)) (starts_at x xs ps h.0).2

  -- the threads of all slices
  one_known : (notes : List ThreadNote) (p : Piece) (t : ToldSlice) → IsPieceOf halves p t → IsNoted notes p → stranger (map (λ (n : ThreadNote). n.process) notes) t ≡ None
  one_known notes p t i noted =
      let known : list_any (λ thread. thread == thread_of t) (map (λ (n : ThreadNote). n.process) notes) ≡ true = any_map notes ∙ ap (λ (n : ℕ). list_any (λ (m : ThreadNote). m.process == n) notes) (thread_is halves p t i) ∙ noted in
      ap (λ (b : Bool). cond b (while_other t t.inside) (Some (UnknownThread t.number (thread_of t)))) known ∙ ap (λ (o : Option ℕ). while_other t o) i.waits
    where
      any_map : (ns : List ThreadNote) → list_any (λ thread. thread == thread_of t) (map (λ (n : ThreadNote). n.process) ns) ≡ list_any (λ (n : ThreadNote). n.process == thread_of t) ns
      any_map [] = refl
      any_map (n ∷ ns) = ap (λ (b : Bool). (n.process == thread_of t) || b) (any_map ns)

  all_known : (notes : List ThreadNote) (ps : List Piece) (ts : List ToldSlice) → AllZip (IsPieceOf halves) ps ts → Each (IsNoted notes) ps → Each (λ t. stranger (map (λ (n : ThreadNote). n.process) notes) t ≡ None) ts
  all_known notes [] [] h n = tt
  all_known notes [] (t ∷ ts) h n = absurd h
  all_known notes (p ∷ ps) [] h n = absurd h
  all_known notes (p ∷ ps) (t ∷ ts) h n = (one_known notes p t h.0 n.0, all_known notes ps ts h.1 n.1)

  -- begins
  told_late : (ps : List Piece) (ts : List ToldSlice) → AllZip (IsPieceOf halves) ps ts → Each (λ (p : Piece). time ≤ p.stretch.begin) ps → Each (λ t. time ≤ begin_of t) ts
  told_late [] [] h late = tt
  told_late [] (t ∷ ts) h late = absurd h
  told_late (p ∷ ps) [] h late = absurd h
  told_late (p ∷ ps) (t ∷ ts) h late = (let e = begin_is halves p t h.0 in let le = late.0 in omega (arith, e, le), told_late ps ts h.1 late.1)

  -- no two slices meet
  unmet : (p q : Piece) (t u : ToldSlice) → IsPieceOf halves p t → IsPieceOf halves q u → AreApart q p → meets t u ≡ false
  unmet p q t u i j apart = elim (eqb_tells t.stream u.stream) [
    | inl x ↦ ap (λ (b : Bool). not b && thread_of t == thread_of u && (begin_of t == begin_of u || (nat_lt (begin_of t) (begin_of u) && lasts_past (begin_of u) t))) x.0
    | inr x ↦ elim (eqb_tells (thread_of t) (thread_of u)) [
      | inr y ↦ (λ n. not (x.0 n) && y.0 n && (begin_of t == begin_of u || (nat_lt (begin_of t) (begin_of u) && lasts_past (begin_of u) t)))
      | inl y ↦ elim (eqb_tells (begin_of t) (begin_of u)) [
        | inl z ↦ absurd (x.1 (i.stream ∙ sym (apart (sym (thread_is halves q u j) ∙ sym y.1 ∙ thread_is halves p t i) (sym (begin_is halves q u j) ∙ sym z.1 ∙ begin_is halves p t i)) ∙ sym j.stream))
        | inr z ↦ by_last x.0 y.0 z.0
      ]
    ]
  ] where
    and_false : (b : Bool) → (b && false) ≡ false
    and_false true = refl
    and_false false = refl

    by_last : (t.stream == u.stream) ≡ false → (thread_of t == thread_of u) ≡ true → (begin_of t == begin_of u) ≡ false → meets t u ≡ false
    by_last a b c =
        let l = lasts_not halves p t (begin_of u) i in
        let e : meets t u ≡ (nat_lt (begin_of t) (begin_of u) && false) = λ n. not (a n) && b n && (c n || (nat_lt (begin_of t) (begin_of u) && l n)) in
        e ∙ and_false (nat_lt (begin_of t) (begin_of u))

  meets_none : (q : Piece) (u : ToldSlice) → IsPieceOf halves q u → (ps : List Piece) (ts : List ToldSlice) → AllZip (IsPieceOf halves) ps ts → Each (AreApart q) ps → Each (λ t. meets t u ≡ false) ts
  meets_none q u j [] [] h a = tt
  meets_none q u j [] (t ∷ ts) h a = absurd h
  meets_none q u j (p ∷ ps) [] h a = absurd h
  meets_none q u j (p ∷ ps) (t ∷ ts) h a = (unmet p q t u h.0 j a.0, meets_none q u j ps ts h.1 a.1)

  module _ (all : List Piece) (told_all : List ToldSlice) (zip : AllZip (IsPieceOf halves) all told_all) where
    none_met : (process : ℕ) (qs : List Piece) (us : List ToldSlice) → AllZip (IsPieceOf halves) qs us → Each (λ (q : Piece). Each (AreApart q) all) qs → filter (λ u. thread_of u == process && list_any (λ t. meets t u) told_all) us ≡ []
    none_met process [] [] h a = refl
    none_met process [] (u ∷ us) h a = absurd h
    none_met process (q ∷ qs) [] h a = absurd h
    none_met process (q ∷ qs) (u ∷ us) h a =
        let none : list_any (λ t. meets t u) told_all ≡ false = any_none told_all (meets_none q u h.0 all told_all zip a.0) in
        let rest = none_met process qs us h.1 a.1 in
        go (thread_of u == process) (list_any (λ t. meets t u) told_all) none rest
      where
        any_none : (ts : List ToldSlice) → Each (λ t. meets t u ≡ false) ts → list_any (λ t. meets t u) ts ≡ false
        any_none [] k = refl
        any_none (t ∷ ts) k = (λ n. k.0 n || list_any (λ v. meets v u) ts) ∙ any_none ts k.1

        go : (b c : Bool) → c ≡ false → filter (λ v. thread_of v == process && list_any (λ t. meets t v) told_all) us ≡ []
            → cond (b && c) (u ∷ filter (λ v. thread_of v == process && list_any (λ t. meets t v) told_all) us) (filter (λ v. thread_of v == process && list_any (λ t. meets t v) told_all) us) ≡ []
        go true true e r = absurd (cc)
        go true false e r = r
        go false c e r = r

    pub none_overlap : Each (λ (q : Piece). Each (AreApart q) all) all → (processes : List ℕ) → first_fault (overlap_fault told_all) processes ≡ None
    none_overlap a processes = no_fault (overlap_fault told_all) processes (each processes) where
      each : (ns : List ℕ) → Each (λ n. overlap_fault told_all n ≡ None) ns
      each [] = tt
      each (n ∷ ns) = (ap (λ (us : List ToldSlice). option_map (λ time. SliceOverlap n time) (least (map begin_of us))) (none_met n all told_all zip a), each ns)

  -- where anything may have happened
  told_untraced : (ns : List ℕ) → Each (λ n. n ≡ time) ns → cond (nat_lt 1 (length ns)) (Some (greatest (time ∷ []))) None ≡ untraced_of ns
  told_untraced [] h = refl
  told_untraced (n ∷ []) h = refl
  told_untraced (n ∷ (m ∷ ns)) h = elim (leb_tells 2 (length (n ∷ (m ∷ ns)))) [
    | inl x ↦ (ap (λ (b : Bool). cond b (Some (greatest (time ∷ []))) None) x.0 ∙ ap (λ (k : ℕ). Some k) (greatest_one time (time ∷ []) (refl, tt) (omega arith) ∙ sym h.0))
    | inr x ↦ absurd (let lt = x.1 in omega (arith, lt))
  ]

  sizes : (lists : List (List Packet)) (s k : ℕ) → sum_by (λ (l : LeftPackets). length l.packets) (numbered s k lists) ≡ sum_by (λ (ps : List Packet). length ps) lists
  sizes [] s k = refl
  sizes (ps ∷ lists) s k =
      let l : LeftPackets = record { stream = s; number = k; packets = ps } in
      let r = sizes lists (suc s) (k + length ps) in
      let a = sum_by-cons (λ (m : LeftPackets). length m.packets) l (numbered (suc s) (k + length ps) lists) in
      let b = sum_by-cons (λ (qs : List Packet). length qs) ps lists in
      a ∙ ap (λ (n : ℕ). length ps + n) r ∙ sym b

  module _ (harts : List (List HartStretch)) (lists : List (List Packet)) (sent : AllZip (AreSent halves) harts lists) (starts : Starts harts) (some : 0 < length (begins harts)) where
    windows_are : windows 0 lists ≡ numbered 0 0 lists
    windows_are = windows_from harts lists 0 0 sent

    full_is : full_from (numbered 0 0 lists) ≡ time
    full_is = ap greatest (opens harts lists 0 0 sent) ∙ greatest_one time (begins harts) starts some

    pub kept_is : kept 0 lists ≡ numbered 0 0 lists
    kept_is =
        ap (λ (ls : List LeftPackets). map (from_time (full_from ls)) ls) windows_are
        ∙ ap (λ (n : ℕ). map (from_time n) (numbered 0 0 lists)) full_is
        ∙ kept_from harts lists 0 0 sent starts

    pub none_skipped : skipped 0 lists ≡ 0
    none_skipped =
        let n : ℕ = sum_by (λ (ps : List Packet). length ps) lists in
        ap (λ (ls : List LeftPackets). sum_by (λ (ps : List Packet). length ps) lists - sum_by (λ (l : LeftPackets). length l.packets) ls) kept_is
        ∙ ap (λ (m : ℕ). sum_by (λ (ps : List Packet). length ps) lists - m) (sizes lists 0 0)
        ∙ (let z : sum_by (λ (ps : List Packet). length ps) lists - sum_by (λ (ps : List Packet). length ps) lists ≡ 0 = omega arith in z)

    pub untraced_is : Each (λ (p : Piece). time ≤ p.stretch.begin) (pieces_from 0 harts) → AllZip (IsPieceOf halves) (pieces_from 0 harts) (slices_told (numbered 0 0 lists)) → untraced 0 lists ≡ untraced_of (begins harts)
    untraced_is late zip =
        let ts : List ToldSlice = slices_told (numbered 0 0 lists) in
        let none : ends_of time (slices_told (numbered 0 0 lists)) ≡ [] = ap (map (end_skipped (slices_told (numbered 0 0 lists)))) (none_early time (slices_told (numbered 0 0 lists)) (told_late (pieces_from 0 harts) (slices_told (numbered 0 0 lists)) zip late)) in
        let opened = opens harts lists 0 0 sent in
        let a : untraced 0 lists ≡ cond (nat_lt 1 (length (filter_map opening (numbered 0 0 lists)))) (Some (greatest (full_from (numbered 0 0 lists) ∷ ends_of (full_from (numbered 0 0 lists)) (slices_told (numbered 0 0 lists))))) None =
        ap (λ (ws : List LeftPackets). cond (nat_lt 1 (length (filter_map opening ws))) (Some (greatest (full_from ws ∷ ends_of (full_from ws) (slices_told ws)))) None) windows_are in
        let b : cond (nat_lt 1 (length (filter_map opening (numbered 0 0 lists)))) (Some (greatest (full_from (numbered 0 0 lists) ∷ ends_of (full_from (numbered 0 0 lists)) (slices_told (numbered 0 0 lists))))) None ≡ cond (nat_lt 1 (length (begins harts))) (Some (greatest (time ∷ ends_of time (slices_told (numbered 0 0 lists))))) None =
        λ n. cond (nat_lt 1 (length (opened n))) (Some (greatest (full_is n ∷ ends_of (full_is n) (slices_told (numbered 0 0 lists))))) None in
        a ∙ b ∙ ap (λ (ns : List ℕ). cond (nat_lt 1 (length (begins harts))) (Some (greatest (time ∷ ns))) None) none ∙ told_untraced (begins harts) starts

    pub passes : (notes : List ThreadNote) → Each (AreInTime 0) harts → Each (IsNoted notes) (pieces_from 0 harts) → AllZip (IsPieceOf halves) (pieces_from 0 harts) (slices_told (numbered 0 0 lists)) → check 0 (map (λ (n : ThreadNote). n.process) notes) lists ≡ None
    passes notes times noted zip =
        let processes : List ℕ = map (λ (n : ThreadNote). n.process) notes in
        let a : first_fault time_back (whole lists) ≡ None = no_fault time_back (numbered 0 0 lists) (times_pass harts lists 0 0 sent times) in
        let b : first_fault (startless 0) (whole lists) ≡ None = no_fault (startless 0) (numbered 0 0 lists) (all_start harts lists 0 0 sent) in
        let c : all_idle lists ≡ None = some_stream harts lists sent some in
        let d : first_fault (stranger (map (λ (n : ThreadNote). n.process) notes)) (slices_told (kept 0 lists)) ≡ None =
        ap (λ (ls : List LeftPackets). first_fault (stranger (map (λ (n : ThreadNote). n.process) notes)) (slices_told ls)) kept_is ∙ no_fault (stranger (map (λ (n : ThreadNote). n.process) notes)) (slices_told (numbered 0 0 lists)) (all_known notes (pieces_from 0 harts) (slices_told (numbered 0 0 lists)) zip noted) in
        λ i. first_fault (λ found. found) (a i ∷ b i ∷ c i ∷ d i ∷ [])

-- No stretch begins before the time.
late_from : (time s : ℕ) (harts : List (List HartStretch)) → Each (AreInTime 0) harts → Each (λ n. n ≡ time) (begins harts) → Each (λ (p : Piece). time ≤ p.stretch.begin) (pieces_from s harts)
late_from time s [] h st = tt
late_from time s ([] ∷ harts) h st = late_from time (suc s) harts h.1 st
late_from time s ((x ∷ xs) ∷ harts) h st =
    let e = st.0 in
    let own = h.0.1 in
    let rest = each_weaker (λ (y : HartStretch). x.end ≤ y.begin) (λ (y : HartStretch). time ≤ y.begin) (λ y le. omega (arith, le, e, own)) xs (on_from x.end xs h.0.2) in
    (omega (arith, e), each_append (λ (p : Piece). time ≤ p.stretch.begin) (map (on_hart s) xs) (pieces_from (suc s) harts) (each_map xs rest) (late_from time (suc s) harts h.1 st.1))
  where
    each_map : (ys : List HartStretch) → Each (λ (y : HartStretch). time ≤ y.begin) ys → Each (λ (p : Piece). time ≤ p.stretch.begin) (map (on_hart s) ys)
    each_map [] k = tt
    each_map (y ∷ ys) k = (k.0, each_map ys k.1)

pub late : (time : ℕ) (harts : List (List HartStretch)) → Each (AreInTime 0) harts → Each (λ n. n ≡ time) (begins harts) → Each (λ (p : Piece). time ≤ p.stretch.begin) (pieces_from 0 harts)
late time harts h st = late_from time 0 harts h st
