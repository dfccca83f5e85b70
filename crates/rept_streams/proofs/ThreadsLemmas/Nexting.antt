-- A slice that begins while the trace runs stands right after the one before it in its stream, in
-- the order of its thread too.
use Rattle.std.proofs.Common.{◌≡◌, ◌≢◌, ◌⊎◌, inl, inr, ℕ, suc, ◌+◌, ◌<◌, ◌≤◌, ◌==◌, List, [], ◌∷◌, ◌++◌, map, take, drop, Bool, true, false, cond, not, ◌||◌, Option, Some, None, refl, sym, ◌∙◌, ap, subst, arith, append_assoc}
use Rattle.std.specs.Prelude.{is_none}
use Rattle.std.specs.List.{filter, list_any, prefix_len}
use Rattle.std.proofs.lemmas.Bool.Decides.{leb_tells, eqb_tells}
use Rattle.std.proofs.lemmas.List.{map-append}
use Rattle.rept_trace.specs.declared.packet.Packet.{Packet}
use Rattle.rept_path.specs.declared.fault.PathFault.TheVariants.{UnknownThread, OtherThread}
use Rattle.rept_trace.specs.declared.packet.Packet.TheVariants.{Start, Context, Support, Address, Map, MapAddress}
use Rattle.rept_streams.specs.Slices.Stamps.{stamp_of, clock_of, is_start, is_past, closes, running_after, address_of}
use Rattle.rept_streams.specs.Slices.Parts.{ToldSlice, thread_of, begin_of, inner, beyond, told_from}
use Rattle.rept_streams.specs.Slices.Order.{put, by_time, head_of, slices_of, starts_past, lasts_past, meets}
use Rattle.rept_streams.specs.Slices.Checks.{stranger, while_other}
use Rattle.rept_streams.specs.Slices.Stretches.{RanSlice}
use Rattle.rept_streams.proofs.SlicesLemmas.InTime.{Each, each_put, each_by_time, each_filter}
use Rattle.rept_streams.proofs.SlicesLemmas.Apart.{each_middle}
use Rattle.rept_streams.proofs.SlicesLemmas.Whether.{Started}
use Rattle.rept_streams.proofs.SlicesLemmas.Following.{From, Follows, Following, HeadFirst, head_first_told, later_numbers}
use Rattle.rept_streams.proofs.SlicesLemmas.Packs.{kind}
use Rattle.rept_streams.specs.Threads.Linking.{GoesFromTo, onward_to, Chained}
use Rattle.rept_streams.proofs.ThreadsLemmas.Turning.{Order, Among, among_each, of_meet, true_or}

-- the order of slices: by begin, and those of one begin by number
abbrev pub Lex : ToldSlice → ToldSlice → Type 0
Lex a b = (begin_of a < begin_of b) ⊎ ((begin_of a ≡ begin_of b) × (a.number < b.number))

abbrev pub Strict : List ToldSlice → Type 0
Strict [] = Unit {0}
Strict (t ∷ ts) = Each (Lex t) ts × Strict ts

lex_begin : (a b : ToldSlice) → Lex a b → begin_of a ≤ begin_of b
lex_begin a b (inl lt) = omega (arith, lt)
lex_begin a b (inr e) = let same = e.0 in omega (arith, same)

lex_not : (a b : ToldSlice) → Lex a b → Lex b a → ⊥
lex_not a b (inl x) (inl y) = omega (arith, x, y)
lex_not a b (inl x) (inr y) = let e = y.0 in omega (arith, x, e)
lex_not a b (inr x) (inl y) = let e = x.0 in omega (arith, y, e)
lex_not a b (inr x) (inr y) = let m = x.1 in let n = y.1 in omega (arith, m, n)

lex_same : (a b : ToldSlice) → a ≡ b → Lex a b → ⊥
lex_same a b e x = lex_not b b (subst (λ (t : ToldSlice). Lex t b) e x) (subst (λ (t : ToldSlice). Lex t b) e x)

pub lex_of : (a b : ToldSlice) → begin_of a ≤ begin_of b → a.number < b.number → Lex a b
lex_of a b le lt = elim (leb_tells (suc (begin_of a)) (begin_of b)) [
  | inl t ↦ inl t.1
  | inr t ↦ inr ((let ge = t.1 in omega (arith, le, ge)), lt)
]

abbrev Above : ToldSlice → ToldSlice → Type 0
Above x y = x.number < y.number

lex_all : (x y : ToldSlice) (ys : List ToldSlice) → begin_of x ≤ begin_of y → Each (Lex y) ys → Each (Above x) ys → Each (Lex x) ys
lex_all x y [] le l n = tt
lex_all x y (z ∷ zs) le l n = (lex_of x z (let b = lex_begin y z l.0 in omega (arith, le, b)) n.0, lex_all x y zs le l.1 n.1)

strict_put : (x : ToldSlice) (ys : List ToldSlice) → Each (Above x) ys → Strict ys → Strict (put begin_of x ys)
strict_put x [] n s = (tt, tt)
strict_put x (y ∷ ys) n s = elim (leb_tells (begin_of x) (begin_of y)) [
  | inl t ↦ rw t.0 ((lex_of x y t.1 n.0, lex_all x y ys t.1 s.0 n.1), s)
  | inr t ↦ rw t.0 (each_put begin_of (Lex y) x ys (inl t.1) s.0, strict_put x ys n.1 s.1)
]

abbrev pub Rising : List ToldSlice → Type 0
Rising [] = Unit {0}
Rising (t ∷ ts) = Each (Above t) ts × Rising ts

above_from : (t : ToldSlice) (ts : List ToldSlice) → Each (From (suc t.number)) ts → Each (Above t) ts
above_from t [] h = tt
above_from t (u ∷ us) h = (let le = h.0 in omega (arith, le), above_from t us h.1)

pub rising : (ts : List ToldSlice) → Each Started ts → Following ts → Rising ts
rising [] s f = tt
rising (t ∷ ts) s f = (above_from t ts (later_numbers t ts s.0 f.0), rising ts s.1 f.1)

rising_filter : (test : ToldSlice → Bool) (ts : List ToldSlice) → Rising ts → Rising (filter test ts)
rising_filter test [] h = tt
rising_filter test (t ∷ ts) h = go (test t) (each_filter (Above t) test ts h.0) (rising_filter test ts h.1) where
  go : (b : Bool) → Each (Above t) (filter test ts) → Rising (filter test ts) → Rising (cond b (t ∷ filter test ts) (filter test ts))
  go true e r = (e, r)
  go false e r = r

strict_by_time : (ts : List ToldSlice) → Rising ts → Strict (by_time begin_of ts)
strict_by_time [] h = tt
strict_by_time (t ∷ ts) h = strict_put t (by_time begin_of ts) (each_by_time begin_of (Above t) ts h.0) (strict_by_time ts h.1)

pub strict_slices : (n : ℕ) (ts : List ToldSlice) → Rising ts → Strict (slices_of n ts)
strict_slices n ts h = strict_by_time (filter (λ (t : ToldSlice). thread_of t == n) ts) (rising_filter (λ (t : ToldSlice). thread_of t == n) ts h)

-- what stands after one of them
after_it : (front : List ToldSlice) (t : ToldSlice) (back : List ToldSlice) (n : ToldSlice) → Strict (front ++ t ∷ back) → Among n (front ++ t ∷ back) → Lex t n → Among n back
after_it [] t back n s (inl e) x = absurd (lex_same t n (sym e) x)
after_it [] t back n s (inr m) x = m
after_it (f ∷ front) t back n s (inl e) x = absurd (let there : Lex f t = each_middle (Lex f) front t back s.0 in lex_not t n x (subst (λ (u : ToldSlice). Lex u t) (sym e) there))
after_it (f ∷ front) t back n s (inr m) x = after_it front t back n s.1 m x

-- what a stream tells next, if the trace runs there
pub record Next (t n : ToldSlice) : Type 0 where
  pub stream : n.stream ≡ t.stream
  pub thread : n.inside ≡ Some (thread_of t)
  pub end : (later : List Packet) × (beyond t ≡ n.start ∷ later)

running_next : (later : List Packet) (s k x : ℕ) (others : List ToldSlice) (n : ToldSlice) (rest : List ToldSlice) (y : ℕ) → HeadFirst others → told_from s k (Some x) later ++ others ≡ n ∷ rest → n.inside ≡ Some y
    → (n.stream ≡ s) × (n.inside ≡ Some x) × ((more : List Packet) × (drop (prefix_len (λ p. not (closes p)) later) later ≡ n.start ∷ more))
running_next [] s k x others n rest y heads e run = absurd (
    let h : n.inside ≡ None = subst HeadFirst e heads in
    cc
    )
running_next (p ∷ later) s k x others n rest y heads e run = elim (kind p) [
  | inl o ↦ opened o.start o.closes e
  | inr j ↦ elim j [
    | inl i ↦ absurd (ended i.start (i.runs (Some x)) e)
    | inr i ↦ passed i.start i.closes (i.runs (Some x)) (λ q. running_next later s (suc k) x others n rest y heads q run) e
  ]
] where
  here : ToldSlice
  here = record { stream = s; number = k; start = p; later = later; inside = Some x }

  others_in : List ToldSlice
  others_in = told_from s (suc k) (running_after p (Some x)) later

  opened : is_start p ≡ true → closes p ≡ true → cond (is_start p) (here ∷ others_in) others_in ++ others ≡ n ∷ rest → (n.stream ≡ s) × (n.inside ≡ Some x) × ((more : List Packet) × (drop (prefix_len (λ q. not (closes q)) (p ∷ later)) (p ∷ later) ≡ n.start ∷ more))
  opened start close q =
      let whole : here ∷ (others_in ++ others) ≡ n ∷ rest = sym (ap (λ (b : Bool). cond b (here ∷ others_in) others_in ++ others) start) ∙ q in
      let is : here ≡ n = cc in
      (ap (λ (t : ToldSlice). t.stream) (sym is), ap (λ (t : ToldSlice). t.inside) (sym is), (later, ap (λ (b : Bool). drop (cond (not b) (1 + prefix_len (λ r. not (closes r)) later) 0) (p ∷ later)) close ∙ ap (λ (t : ToldSlice). t.start ∷ later) is))

  ended : is_start p ≡ false → running_after p (Some x) ≡ None → cond (is_start p) (here ∷ others_in) others_in ++ others ≡ n ∷ rest → ⊥
  ended start runs q =
      let whole : told_from s (suc k) None later ++ others ≡ n ∷ rest = sym (ap (λ (b : Bool). cond b (here ∷ others_in) others_in ++ others) start ∙ ap (λ (o : Option ℕ). told_from s (suc k) o later ++ others) runs) ∙ q in
      let h : n.inside ≡ None = subst HeadFirst whole (head_first_told s (suc k) later others heads) in
      cc

  passed : is_start p ≡ false → closes p ≡ false → running_after p (Some x) ≡ Some x
      → (told_from s (suc k) (Some x) later ++ others ≡ n ∷ rest → (n.stream ≡ s) × (n.inside ≡ Some x) × ((more : List Packet) × (drop (prefix_len (λ q. not (closes q)) later) later ≡ n.start ∷ more)))
      → cond (is_start p) (here ∷ others_in) others_in ++ others ≡ n ∷ rest → (n.stream ≡ s) × (n.inside ≡ Some x) × ((more : List Packet) × (drop (prefix_len (λ q. not (closes q)) (p ∷ later)) (p ∷ later) ≡ n.start ∷ more))
  passed start close runs more q =
      let whole : told_from s (suc k) (Some x) later ++ others ≡ n ∷ rest = sym (ap (λ (b : Bool). cond b (here ∷ others_in) others_in ++ others) start ∙ ap (λ (o : Option ℕ). told_from s (suc k) o later ++ others) runs) ∙ q in
      let r = more whole in
      let j = prefix_len (λ t. not (closes t)) later in
      let one : 1 + j ≡ suc j = omega arith in
      (r.0, r.1, (r.2.0, ap (λ (b : Bool). drop (cond (not b) (1 + j) 0) (p ∷ later)) close ∙ ap (λ (m : ℕ). drop m (p ∷ later)) one ∙ r.2.1))

-- of neighbours among all slices, of which the latter begins while the trace runs
pub next_of : (t n : ToldSlice) (rest : List ToldSlice) (y : ℕ) → is_start t.start ≡ true → Follows t (n ∷ rest) → n.inside ≡ Some y → Next t n
next_of t n rest y starts f run = elim (kind t.start) [
  | inr j ↦ absurd (elim j [ inl i ↦ wrong i.start | inr i ↦ wrong i.start ])
  | inl o ↦
      let here : told_from t.stream t.number t.inside (t.start ∷ t.later) ≡ t ∷ told_from t.stream (suc t.number) (Some (thread_of t)) t.later = ap (λ (b : Bool). cond b (t ∷ told_from t.stream (suc t.number) (running_after t.start t.inside) t.later) (told_from t.stream (suc t.number) (running_after t.start t.inside) t.later)) starts ∙ ap (λ (q : Option ℕ). t ∷ told_from t.stream (suc t.number) q t.later) (o.runs t.inside) in
      let whole : t ∷ (n ∷ rest) ≡ t ∷ (told_from t.stream (suc t.number) (Some (thread_of t)) t.later ++ f.others) = f.same ∙ ap (λ (ts : List ToldSlice). ts ++ f.others) here in
      let later : told_from t.stream (suc t.number) (Some (thread_of t)) t.later ++ f.others ≡ n ∷ rest = sym (ap (drop 1) whole) in
      let r = running_next t.later t.stream (suc t.number) (thread_of t) f.others n rest y f.heads later run in
      record { stream = r.0; thread = r.1; end = r.2 }
] where
  wrong : is_start t.start ≡ false → ⊥
  wrong h = cc

-- the latter of neighbours is of the thread of the former
pub same_thread : (threads : List ℕ) (t n : ToldSlice) → Next t n → stranger threads n ≡ None → thread_of n ≡ thread_of t
same_thread threads t n x h = go (list_any (λ thread. thread == thread_of n) threads) h where
  own : while_other n n.inside ≡ None → thread_of n ≡ thread_of t
  own k =
      let there : while_other n (Some (thread_of t)) ≡ None = ap (while_other n) (sym x.thread) ∙ k in
      elim (eqb_tells (thread_of t) (thread_of n)) [
        | inl e ↦ sym e.1
        | inr e ↦ absurd (let q = ap (λ (b : Bool). cond b None (Some (OtherThread n.number (thread_of n)))) (sym e.0) ∙ there in cc)
      ]

  go : (b : Bool) → cond b (while_other n n.inside) (Some (UnknownThread n.number (thread_of n))) ≡ None → thread_of n ≡ thread_of t
  go true k = own k
  go false k = absurd (cc)

-- a start packet of a later time
start_past : (p : Packet) (n : ℕ) → is_start p ≡ true → n < clock_of p → starts_past n p ≡ true
start_past (Start branch privilege a time context) n s lt = elim (leb_tells (suc n) time) [ inl t ↦ t.0 | inr t ↦ absurd (let ge = t.1 in omega (arith, ge, lt)) ]
start_past (Context privilege time context) n s lt = absurd (cc)
start_past (Support enabled status) n s lt = absurd (cc)
start_past (Address report) n s lt = absurd (cc)
start_past (Map map) n s lt = absurd (cc)
start_past (MapAddress count map report) n s lt = absurd (cc)

-- Nothing of the thread stands between neighbours.
module _ (ts xs : List ToldSlice) (unmet : (a b : ToldSlice) → Among a xs → Among b xs → meets a b ≡ true → ⊥) (alike : (a b : ToldSlice) → Among a xs → Among b xs → thread_of a ≡ thread_of b) (in_turn : (a b : ToldSlice) → Among a xs → Among b xs → a.number < b.number → Order a b) (lone : (a b : ToldSlice) → Among a xs → Among b xs → a.number ≡ b.number → a ≡ b) where
  pub nothing_between : (t n u : ToldSlice) → Among t xs → Among n xs → Among u xs → Next t n → is_start n.start ≡ true → t.number < n.number → (u.stream ≡ t.stream → t.number < u.number → u.number < n.number → ⊥) → Lex t u → Lex u n → ⊥
  nothing_between t n u mt mn mu x starts lt none a b = elim (eqb_tells u.stream t.stream) [
    | inl same ↦ none same.1 (follows t u mt mu (sym same.1) a) (follows u n mu mn (same.1 ∙ sym x.stream) b)
    | inr other ↦ apart other.1
  ] where
    -- of one stream the earlier in order is the earlier one
    follows : (c d : ToldSlice) → Among c xs → Among d xs → c.stream ≡ d.stream → Lex c d → c.number < d.number
    follows c d mc md same (inr e) = e.1
    follows c d mc md same (inl less) = elim (leb_tells (suc c.number) d.number) [
      | inl y ↦ y.1
      | inr y ↦ elim (leb_tells (suc d.number) c.number) [
        | inl z ↦ absurd (let back = (in_turn d c md mc z.1 (sym same)).0 in omega (arith, less, back))
        | inr z ↦ absurd (let p = y.1 in let q = z.1 in let same_number : c.number ≡ d.number = omega (arith, p, q) in let e = ap begin_of (lone c d mc md same_number) in omega (arith, e, less))
      ]
    ]

    lasting : begin_of u < begin_of n → lasts_past (begin_of u) t ≡ true
    lasting less =
        let there : list_any (starts_past (begin_of u)) (take 1 (beyond t)) ≡ true = ap (λ (ps : List Packet). list_any (starts_past (begin_of u)) (take 1 ps)) (x.end).1 ∙ ap (λ (b : Bool). b || false) (start_past n.start (begin_of u) starts less) in
        true_or (list_any (λ p. is_past (begin_of u) (stamp_of p)) (take (inner t) t.later)) (list_any (starts_past (begin_of u)) (take 1 (beyond t))) there

    apart : u.stream ≢ t.stream → ⊥
    apart other =
        let before = lex_begin t u a in
        let after = lex_begin u n b in
        let same_tu : thread_of t ≡ thread_of u = alike t u mt mu in
        let same_un : thread_of u ≡ thread_of n = alike u n mu mn in
        elim (leb_tells (suc (begin_of t)) (begin_of u)) [
          | inr y ↦ unmet t u mt mu (of_meet t u (record { apart = λ e. other (sym e); same = same_tu; when = inl (let ge = y.1 in omega (arith, before, ge)) }))
          | inl y ↦ elim (leb_tells (suc (begin_of u)) (begin_of n)) [
            | inl z ↦ unmet t u mt mu (of_meet t u (record { apart = λ e. other (sym e); same = same_tu; when = inr (y.1, lasting z.1) }))
            | inr z ↦ unmet u n mu mn (of_meet u n (record { apart = λ e. other (e ∙ x.stream); same = same_un; when = inl (let ge = z.1 in omega (arith, after, ge)) }))
          ]
        ]

-- places in strict order
among_split : (xs : List ToldSlice) (t : ToldSlice) (ys : List ToldSlice) → Among t (xs ++ ys) → Among t xs ⊎ Among t ys
among_split [] t ys m = inr m
among_split (x ∷ xs) t ys (inl e) = inl (inl e)
among_split (x ∷ xs) t ys (inr m) = elim (among_split xs t ys m) [ inl k ↦ inl (inr k) | inr k ↦ inr k ]

strict_tail : (xs ys : List ToldSlice) → Strict (xs ++ ys) → Strict ys
strict_tail [] ys s = s
strict_tail (x ∷ xs) ys s = strict_tail xs ys s.1

strict_front : (xs : List ToldSlice) (t y : ToldSlice) (ys : List ToldSlice) → Strict (xs ++ y ∷ ys) → Among t xs → Lex t y
strict_front [] t y ys s m = absurd m
strict_front (x ∷ xs) t y ys s (inl e) = subst (λ (u : ToldSlice). Lex u y) (sym e) (each_middle (Lex x) xs y ys s.0)
strict_front (x ∷ xs) t y ys s (inr m) = strict_front xs t y ys s.1 m

-- places by rising numbers
above_among : (t u : ToldSlice) (ts : List ToldSlice) → Each (Above t) ts → Among u ts → t.number < u.number
above_among t u ts h m = among_each (Above t) u ts h m

rising_tail : (xs ys : List ToldSlice) → Rising (xs ++ ys) → Rising ys
rising_tail [] ys r = r
rising_tail (x ∷ xs) ys r = rising_tail xs ys r.1

rising_front : (xs : List ToldSlice) (t y : ToldSlice) (ys : List ToldSlice) → Rising (xs ++ y ∷ ys) → Among t xs → t.number < y.number
rising_front [] t y ys r m = absurd m
rising_front (x ∷ xs) t y ys r (inl e) = subst (λ (u : ToldSlice). u.number < y.number) (sym e) (each_middle (Above x) xs y ys r.0)
rising_front (x ∷ xs) t y ys r (inr m) = rising_front xs t y ys r.1 m

-- a slice of a number between those of neighbours is none
pub none_amid : (front : List ToldSlice) (t n : ToldSlice) (back : List ToldSlice) (u : ToldSlice) → Rising (front ++ t ∷ (n ∷ back)) → Among u (front ++ t ∷ (n ∷ back)) → t.number < u.number → u.number < n.number → ⊥
none_amid front t n back u r m low high = elim (among_split front u (t ∷ (n ∷ back)) m) [
  | inl k ↦ (let lt = rising_front front u t (n ∷ back) r k in omega (arith, lt, low))
  | inr k ↦ late k (rising_tail front (t ∷ (n ∷ back)) r)
] where
  late : Among u (t ∷ (n ∷ back)) → Rising (t ∷ (n ∷ back)) → ⊥
  late (inl e) s = let same = ap (λ (x : ToldSlice). x.number) e in omega (arith, same, low)
  late (inr (inl e)) s = let same = ap (λ (x : ToldSlice). x.number) e in omega (arith, same, high)
  late (inr (inr k)) s = let lt = above_among n u back (s.1).0 k in omega (arith, lt, high)

-- a slice in its place among all
abbrev pub InPlace : List RanSlice → RanSlice → Type 0
InPlace all r = (front : List RanSlice) × (back : List RanSlice) × (all ≡ front ++ r ∷ back) × GoesFromTo r.rows (address_of r.told.start) (onward_to r (head_of back))

pub in_place : (front rs : List RanSlice) → Chained rs → Each (InPlace (front ++ rs)) rs
in_place front [] c = tt
in_place front (r ∷ rs) c =
    let shift : (front ++ r ∷ []) ++ rs ≡ front ++ r ∷ rs = append_assoc front (r ∷ []) rs in
    ((front, rs, refl, c.0), subst (λ (all : List RanSlice). Each (InPlace all) rs) shift (in_place (front ++ r ∷ []) rs c.1))

-- the neighbours of all slices, by what they are told
abbrev pub Neighbours : List ToldSlice → ToldSlice → ToldSlice → Type 0
Neighbours ts t n = (front : List ToldSlice) × (back : List ToldSlice) × (ts ≡ front ++ t ∷ (n ∷ back))

-- What is asked of slices of a thread in order, among all.
pub record Apt (ts xs : List ToldSlice) : Type 0 where
  pub strict : Strict xs
  -- a slice that begins while the trace runs, and the one before it, are both of the thread, or
  -- neither is; nothing stands between them
  pub both : (t n : ToldSlice) (y : ℕ) → Neighbours ts t n → n.inside ≡ Some y → Among t xs → Among n xs
  pub back : (n : ToldSlice) (y : ℕ) → Among n xs → n.inside ≡ Some y → (t : ToldSlice) × Neighbours ts t n × Among t xs
  pub lex : (t n : ToldSlice) (y : ℕ) → Neighbours ts t n → n.inside ≡ Some y → Among t xs → Among n xs → Lex t n
  pub none : (t n u : ToldSlice) (y : ℕ) → Neighbours ts t n → n.inside ≡ Some y → Among t xs → Among n xs → Among u xs → Lex t u → Lex u n → ⊥
  -- neighbours of one slice are one
  pub one : (t n m : ToldSlice) → Neighbours ts t n → Neighbours ts t m → n ≡ m
  pub last : (t m : ToldSlice) (before : List ToldSlice) → Neighbours ts t m → ts ≡ before ++ t ∷ [] → ⊥

module _ (rs : List RanSlice) (ts : List ToldSlice) (told_are : map (λ (r : RanSlice). r.told) rs ≡ ts) where
  abbrev tell : List RanSlice → List ToldSlice
  tell qs = map (λ (r : RanSlice). r.told) qs

  among_middle : (front : List ToldSlice) (t : ToldSlice) (back : List ToldSlice) → Among t (front ++ t ∷ back)
  among_middle [] t back = inl refl
  among_middle (f ∷ front) t back = inr (among_middle front t back)

  among_back : (front : List ToldSlice) (u : ToldSlice) (back : List ToldSlice) → Among u back → Among u (front ++ back)
  among_back [] u back m = m
  among_back (f ∷ front) u back m = inr (among_back front u back m)

  -- the next one among all, where it stands so
  neighbour : (r q : RanSlice) (front back : List RanSlice) → rs ≡ front ++ r ∷ (q ∷ back) → Neighbours ts r.told q.told
  neighbour r q front back e = (tell front, tell back, sym told_are ∙ ap tell e ∙ map-append (λ (x : RanSlice). x.told) front (r ∷ (q ∷ back)))

  -- one slice of a thread: what follows it among all, and what follows it in the thread
  onward_same : (front : List ToldSlice) (r : RanSlice) (later : List RanSlice) (apt : Apt ts (front ++ r.told ∷ tell later)) → (before : List RanSlice) (back : List RanSlice) → rs ≡ before ++ r ∷ back → onward_to r (head_of back) ≡ onward_to r (head_of later)
  onward_same front r later apt before back e = by_back back e where
    xs : List ToldSlice
    xs = front ++ r.told ∷ tell later

    here : Among r.told (front ++ r.told ∷ tell later)
    here = among_middle front r.told (tell later)

    -- Nothing follows it while the trace runs.
    stops : ((m : ToldSlice) (y : ℕ) → m.inside ≡ Some y → Neighbours ts r.told m → ⊥) → r.last.at ≡ onward_to r (head_of later)
    stops none = go later refl where
      go : (qs : List RanSlice) → later ≡ qs → r.last.at ≡ onward_to r (head_of qs)
      go [] e = refl
      go (q ∷ qs) e = inner q.told.inside refl where
        there : Among q.told (front ++ r.told ∷ tell later)
        there = among_back front q.told (r.told ∷ tell later) (inr (subst (λ (ps : List RanSlice). Among q.told (tell ps)) (sym e) (inl refl)))

        inner : (o : Option ℕ) → q.told.inside ≡ o → r.last.at ≡ cond (is_none q.told.inside) r.last.at (address_of q.told.start)
        inner None i = sym (ap (λ (o : Option ℕ). cond (is_none o) r.last.at (address_of q.told.start)) i)
        inner (Some y) i = absurd (before_it (apt.back q.told y there i)) where
          next : (front ++ r.told ∷ tell later) ≡ (front ++ r.told ∷ []) ++ q.told ∷ tell qs
          next = ap (λ (ps : List RanSlice). front ++ r.told ∷ tell ps) e ∙ sym (append_assoc front (r.told ∷ []) (q.told ∷ tell qs))

          before_it : (t : ToldSlice) × Neighbours ts t q.told × Among t (front ++ r.told ∷ tell later) → ⊥
          before_it (t, n, m) = place (apt.lex t q.told y n i m there) (among_split front t (r.told ∷ tell later) m) where
            later_lex : (t : ToldSlice) → Lex t q.told → Among t (tell later) → ⊥
            later_lex t x k = in_later (subst (λ (ps : List RanSlice). Among t (tell ps)) e k) where
              in_later : Among t (q.told ∷ tell qs) → ⊥
              in_later (inl same) = lex_same t q.told same x
              in_later (inr k) = lex_not t q.told x (among_each (Lex q.told) t (tell qs) ((strict_tail (front ++ r.told ∷ []) (q.told ∷ tell qs) (subst Strict next apt.strict)).0) k)

            front_lex : (t : ToldSlice) → Among t front → Lex t r.told
            front_lex t k = strict_front front t r.told (tell later) apt.strict k

            here_lex : Lex r.told q.told
            here_lex = ((strict_tail front (r.told ∷ q.told ∷ tell qs) (subst (λ (ps : List RanSlice). Strict (front ++ r.told ∷ tell ps)) e apt.strict)).0).0

            place : Lex t q.told → (Among t front ⊎ Among t (r.told ∷ tell later)) → ⊥
            place x (inr (inl same)) = none q.told y i (subst (λ (u : ToldSlice). Neighbours ts u q.told) same n)
            place x (inr (inr later_too)) = later_lex t x later_too
            place x (inl early) = apt.none t q.told r.told y n i m there here (front_lex t early) (here_lex)

    by_back : (back : List RanSlice) → rs ≡ before ++ r ∷ back → onward_to r (head_of back) ≡ onward_to r (head_of later)
    by_back [] e = stops (λ m y i n. last_of m n e) where
      last_of : (m : ToldSlice) → Neighbours ts r.told m → rs ≡ before ++ r ∷ [] → ⊥
      last_of m n e = apt.last r.told m (tell before) n (sym told_are ∙ ap tell e ∙ map-append (λ (x : RanSlice). x.told) before (r ∷ []))
    by_back (q ∷ back) e = inner q.told.inside refl where
      beside : Neighbours ts r.told q.told
      beside = neighbour r q before back e

      inner : (o : Option ℕ) → q.told.inside ≡ o → cond (is_none q.told.inside) r.last.at (address_of q.told.start) ≡ onward_to r (head_of later)
      inner None i = ap (λ (o : Option ℕ). cond (is_none o) r.last.at (address_of q.told.start)) i ∙ stops (λ m y j n. (let same = apt.one r.told q.told m beside n in let z : None ≡ Some y = sym i ∙ ap (λ (t : ToldSlice). t.inside) same ∙ j in cc))
      inner (Some y) i = ap (λ (o : Option ℕ). cond (is_none o) r.last.at (address_of q.told.start)) i ∙ comes (after_it front r.told (tell later) q.told apt.strict there (apt.lex r.told q.told y beside i here there)) where
        there : Among q.told (front ++ r.told ∷ tell later)
        there = apt.both r.told q.told y beside i here

        comes : Among q.told (tell later) → address_of q.told.start ≡ onward_to r (head_of later)
        comes k = go later refl k where
          go : (ps : List RanSlice) → later ≡ ps → Among q.told (tell ps) → address_of q.told.start ≡ onward_to r (head_of ps)
          go [] e k = absurd k
          go (p ∷ ps) e (inl same) =
              let run : p.told.inside ≡ Some y = ap (λ (t : ToldSlice). t.inside) (sym same) ∙ i in
              ap (λ (t : ToldSlice). address_of t.start) same ∙ sym (ap (λ (o : Option ℕ). cond (is_none o) r.last.at (address_of p.told.start)) run)
          go (p ∷ ps) e (inr k) = absurd (
              let at = subst (λ (os : List RanSlice). Strict (front ++ r.told ∷ tell os)) e apt.strict in
              let tail = strict_tail front (r.told ∷ p.told ∷ tell ps) at in
              let first : Lex r.told p.told = (tail.0).0 in
              let second : Lex p.told q.told = among_each (Lex p.told) q.told (tell ps) (tail.1).0 k in
              let mid : Among p.told (front ++ r.told ∷ tell later) = among_back front p.told (r.told ∷ tell later) (inr (subst (λ (os : List RanSlice). Among p.told (tell os)) (sym e) (inl refl))) in
              apt.none r.told q.told p.told y beside i here there mid first second
              )

  -- all slices of a thread in order
  pub chained : (front : List ToldSlice) (later : List RanSlice) → Apt ts (front ++ tell later) → Each (InPlace rs) later → Chained later
  chained front [] apt e = tt
  chained front (r ∷ later) apt e =
      let x = e.0 in
      let same = onward_same front r later apt x.0 x.1 x.2 in
      let shift : front ++ tell (r ∷ later) ≡ (front ++ r.told ∷ []) ++ tell later = sym (append_assoc front (r.told ∷ []) (tell later)) in
      (subst (λ (a : ℕ). GoesFromTo r.rows (address_of r.told.start) a) same x.3, chained (front ++ r.told ∷ []) later (subst (Apt ts) shift apt) e.1)
