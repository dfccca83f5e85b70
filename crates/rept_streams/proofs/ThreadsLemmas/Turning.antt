-- The slices of a thread in the order of time, where no stream's times go back: the first one that
-- is met is met by the one right before it.
use Rattle.std.proofs.Common.{◌≡◌, ◌≢◌, ◌⊎◌, inl, inr, ℕ, suc, ◌<◌, ◌≤◌, ◌==◌, nat_le, List, [], ◌∷◌, ◌++◌, map, take, drop, Bool, true, false, cond, not, ◌&&◌, ◌||◌, Option, Some, None, refl, sym, ◌∙◌, ap, subst, arith}
use Rattle.std.specs.Prelude.{nat_lt, unwrap_or}
use Rattle.std.specs.List.{filter, list_any}
use Rattle.std.specs.Option.{option_or}
use Rattle.std.proofs.lemmas.Bool.Decides.{leb_tells, eqb_tells}
use Rattle.rept_trace.specs.declared.packet.Packet.{Packet}
use Rattle.rept_trace.specs.declared.packet.Packet.TheVariants.{Start, Context, Support, Address, Map, MapAddress}
use Rattle.rept_streams.specs.Slices.Stamps.{stamp_of, clock_of, is_start, is_past, closes, ends, running_after}
use Rattle.rept_streams.specs.Slices.Parts.{ToldSlice, thread_of, begin_of, inner, beyond, told_from, slices_told}
use Rattle.rept_streams.specs.Slices.Order.{put, by_time, head_of, slices_of, starts_past, lasts_past, meets, least, overlap}
use Rattle.rept_streams.specs.Slices.Skipping.{kept}
use Rattle.rept_streams.specs.Slices.Checks.{check}
use Rattle.rept_streams.specs.Slices.Ends.{first_met, InTurn, KeepTurn}
use Rattle.rept_streams.proofs.SlicesLemmas.InTime.{Each, Ascend, FromTime, ascends, each_put, each_by_time, each_filter}
use Rattle.rept_streams.proofs.SlicesLemmas.Calm.{Calm, CalmTold, From as FromClock, each_append, left_calm}
use Rattle.rept_streams.proofs.SlicesLemmas.Lasting.{lasts, lasts_here, lasts_after}
use Rattle.rept_streams.proofs.SlicesLemmas.Whether.{Started, starts_told}
use Rattle.rept_streams.proofs.SlicesLemmas.Following.{Following, FromStream, kept_follow}

-- no time is told that is later than this
past_not : (n m : ℕ) → m ≤ n → is_past n (Some m) ≡ false
past_not n m le = elim (leb_tells (suc n) m) [ inl t ↦ absurd (let lt = t.1 in omega (arith, lt, le)) | inr t ↦ t.0 ]

clock_past : (n : ℕ) (p : Packet) → clock_of p ≤ n → is_past n (stamp_of p) ≡ false
clock_past n p le = go (stamp_of p) le where
  go : (o : Option ℕ) → unwrap_or o 0 ≤ n → is_past n o ≡ false
  go None le = refl
  go (Some m) le = past_not n m le

and_false : (b c : Bool) → c ≡ false → (b && c) ≡ false
and_false true c h = h
and_false false c h = refl

-- A later start packet of the stream is of no earlier time than those before it.
from_there : (n : ℕ) (xs : List Packet) (v : Packet) (ys : List Packet) → is_start v ≡ true → FromClock n (xs ++ v ∷ ys) → n ≤ clock_of v
from_there n [] (Start branch privilege a time context) ys s h = h.0
from_there n [] (Context privilege time context) ys s h = absurd (cc)
from_there n [] (Support enabled status) ys s h = absurd (cc)
from_there n [] (Address report) ys s h = absurd (cc)
from_there n [] (Map map) ys s h = absurd (cc)
from_there n [] (MapAddress count map report) ys s h = absurd (cc)
from_there n (x ∷ xs) v ys s h = from_there n xs v ys s h.1

start_closes : (v : Packet) → is_start v ≡ true → closes v ≡ true
start_closes v s = ap (λ (b : Bool). b || ends v) s

-- A slice doesn't last past the begin of a later one of its stream.
not_past : (n : ℕ) (xs : List Packet) (v : Packet) (ys : List Packet) → is_start v ≡ true → Calm (xs ++ v ∷ ys) → clock_of v ≤ n → lasts n (xs ++ v ∷ ys) ≡ false
not_past n [] v ys s c le = lasts_here n v ys false (start_closes v s) (and_false (is_start v) (is_past n (stamp_of v)) (clock_past n v le))
not_past n (x ∷ xs) v ys s c le = go (closes x) refl (not_past n xs v ys s c.1 le) where
  early : clock_of x ≤ n
  early = let lt = from_there (clock_of x) xs v ys s c.0 in omega (arith, lt, le)

  go : (b : Bool) → closes x ≡ b → lasts n (xs ++ v ∷ ys) ≡ false → lasts n (x ∷ (xs ++ v ∷ ys)) ≡ false
  go true e more = lasts_here n x (xs ++ v ∷ ys) false e (and_false (is_start x) (is_past n (stamp_of x)) (clock_past n x early))
  go false e more = lasts_after n x (xs ++ v ∷ ys) e (clock_past n x early) ∙ more

-- of two slices of a stream, the former first
abbrev pub Order : ToldSlice → ToldSlice → Type 0
Order t v = t.stream ≡ v.stream → (begin_of t ≤ begin_of v) × ((n : ℕ) → begin_of v ≤ n → lasts_past n t ≡ false)

abbrev pub Lined : List ToldSlice → Type 0
Lined [] = Unit {0}
Lined (t ∷ ts) = Each (Order t) ts × Lined ts

abbrev Inside : List Packet → ToldSlice → Type 0
Inside packets v = (xs : List Packet) × (ys : List Packet) × (packets ≡ xs ++ v.start ∷ ys) × (is_start v.start ≡ true)

each_more : (p : Packet) (packets : List Packet) (vs : List ToldSlice) → Each (Inside packets) vs → Each (Inside (p ∷ packets)) vs
each_more p packets [] h = tt
each_more p packets (v ∷ vs) h = ((p ∷ h.0.0, h.0.1, (λ i. p ∷ h.0.2 i), h.0.3), each_more p packets vs h.1)

told_inside : (s k : ℕ) (inside : Option ℕ) (packets : List Packet) → Each (Inside packets) (told_from s k inside packets)
told_inside s k inside [] = tt
told_inside s k inside (p ∷ later) = go (is_start p) refl (each_more p later rest (told_inside s (suc k) (running_after p inside) later)) where
  here : ToldSlice
  here = record { stream = s; number = k; start = p; later = later; inside = inside }

  rest : List ToldSlice
  rest = told_from s (suc k) (running_after p inside) later

  go : (b : Bool) → is_start p ≡ b → Each (Inside (p ∷ later)) rest → Each (Inside (p ∷ later)) (cond b (here ∷ rest) rest)
  go true e more = (([], later, refl, e), more)
  go false e more = more

ordered_in : (t : ToldSlice) (vs : List ToldSlice) → CalmTold t → Each (Inside t.later) vs → Each (Order t) vs
ordered_in t [] c h = tt
ordered_in t (v ∷ vs) c h = ((λ same. one), ordered_in t vs c h.1) where
  one : (begin_of t ≤ begin_of v) × ((n : ℕ) → begin_of v ≤ n → lasts_past n t ≡ false)
  one = (
    from_there (begin_of t) h.0.0 v.start h.0.1 h.0.3 (subst (FromClock (begin_of t)) h.0.2 c.0),
    (λ n le. ap (lasts n) h.0.2 ∙ not_past n h.0.0 v.start h.0.1 h.0.3 (subst Calm h.0.2 c.1) le),
  )

ordered_out : (t : ToldSlice) (vs : List ToldSlice) → Each (FromStream (suc t.stream)) vs → Each (Order t) vs
ordered_out t [] h = tt
ordered_out t (v ∷ vs) h = ((λ same. absurd (let lt = h.0 in omega (arith, lt, same))), ordered_out t vs h.1)

pub lined : (ts : List ToldSlice) → Each Started ts → Each CalmTold ts → Following ts → Lined ts
lined [] s c f = tt
lined (t ∷ ts) s c f = (here, lined ts s.1 c.1 f.1) where
  rest : List ToldSlice
  rest = told_from t.stream (suc t.number) (running_after t.start t.inside) t.later

  whole : t ∷ ts ≡ t ∷ (rest ++ f.0.others)
  whole = f.0.same ∙ ap (λ (b : Bool). cond b (t ∷ rest) rest ++ f.0.others) s.0

  later : ts ≡ rest ++ f.0.others
  later = ap (drop 1) whole

  here : Each (Order t) ts
  here = subst (Each (Order t)) (sym later) (each_append (Order t) rest f.0.others (ordered_in t rest c.0 (told_inside t.stream (suc t.number) (running_after t.start t.inside) t.later)) (ordered_out t f.0.others f.0.streams))

lined_filter : (test : ToldSlice → Bool) (ts : List ToldSlice) → Lined ts → Lined (filter test ts)
lined_filter test [] h = tt
lined_filter test (t ∷ ts) h = go (test t) (each_filter (Order t) test ts h.0) (lined_filter test ts h.1) where
  go : (b : Bool) → Each (Order t) (filter test ts) → Lined (filter test ts) → Lined (cond b (t ∷ filter test ts) (filter test ts))
  go true e r = (e, r)
  go false e r = r

lined_put : (x : ToldSlice) (ys : List ToldSlice) → Each (Order x) ys → Lined ys → Lined (put begin_of x ys)
lined_put x [] e h = (tt, tt)
lined_put x (y ∷ ys) e h = elim (leb_tells (begin_of x) (begin_of y)) [
  | inl t ↦ rw t.0 (e, h)
  | inr t ↦ rw t.0 (each_put begin_of (Order y) x ys (back t.1) h.0, lined_put x ys e.1 h.1)
] where
  back : begin_of y < begin_of x → Order y x
  back lt = λ same. absurd (let le = (e.0 (sym same)).0 in omega (arith, le, lt))

lined_by_time : (ts : List ToldSlice) → Lined ts → Lined (by_time begin_of ts)
lined_by_time [] h = tt
lined_by_time (t ∷ ts) h = lined_put t (by_time begin_of ts) (each_by_time begin_of (Order t) ts h.0) (lined_by_time ts h.1)

-- members of lists
abbrev pub Among : ToldSlice → List ToldSlice → Type 0
Among t [] = ⊥
Among t (u ∷ us) = (t ≡ u) ⊎ Among t us

pub among_each : (P : ToldSlice → Type 0) (t : ToldSlice) (us : List ToldSlice) → Each P us → Among t us → P t
among_each P t [] e m = absurd m
among_each P t (u ∷ us) e (inl is) = subst P (sym is) e.0
among_each P t (u ∷ us) e (inr m) = among_each P t us e.1 m

among_any : (f : ToldSlice → Bool) (t : ToldSlice) (us : List ToldSlice) → Among t us → f t ≡ true → list_any f us ≡ true
among_any f t [] m h = absurd m
among_any f t (u ∷ us) (inl is) h = ap (λ (b : Bool). b || list_any f us) (ap f (sym is) ∙ h)
among_any f t (u ∷ us) (inr m) h = go (f u) (among_any f t us m h) where
  go : (b : Bool) → list_any f us ≡ true → (b || list_any f us) ≡ true
  go true r = refl
  go false r = r

any_among : (f : ToldSlice → Bool) (us : List ToldSlice) → list_any f us ≡ true → (t : ToldSlice) × Among t us × (f t ≡ true)
any_among f [] h = absurd (cc)
any_among f (u ∷ us) h = go (f u) refl (any_among f us) h where
  go : (b : Bool) → f u ≡ b → (list_any f us ≡ true → (t : ToldSlice) × Among t us × (f t ≡ true)) → (b || list_any f us) ≡ true → (t : ToldSlice) × Among t (u ∷ us) × (f t ≡ true)
  go true e more h = (u, inl refl, e)
  go false e more h = let r = more h in (r.0, inr r.1, r.2)

-- the members of the slices of a thread
among_put : (t x : ToldSlice) (ys : List ToldSlice) → Among t (put begin_of x ys) → Among t (x ∷ ys)
among_put t x [] m = m
among_put t x (y ∷ ys) m = go (nat_le (begin_of x) (begin_of y)) (among_put t x ys) m where
  go : (b : Bool) → (Among t (put begin_of x ys) → Among t (x ∷ ys)) → Among t (cond b (x ∷ y ∷ ys) (y ∷ put begin_of x ys)) → Among t (x ∷ y ∷ ys)
  go true more k = k
  go false more (inl e) = inr (inl e)
  go false more (inr k) = elim (more k) [ inl e ↦ inl e | inr l ↦ inr (inr l) ]

put_among : (t x : ToldSlice) (ys : List ToldSlice) → Among t (x ∷ ys) → Among t (put begin_of x ys)
put_among t x [] m = m
put_among t x (y ∷ ys) m = go (nat_le (begin_of x) (begin_of y)) (put_among t x ys) m where
  go : (b : Bool) → (Among t (x ∷ ys) → Among t (put begin_of x ys)) → Among t (x ∷ y ∷ ys) → Among t (cond b (x ∷ y ∷ ys) (y ∷ put begin_of x ys))
  go true more k = k
  go false more (inl e) = inr (more (inl e))
  go false more (inr (inl e)) = inl e
  go false more (inr (inr k)) = inr (more (inr k))

among_time : (t : ToldSlice) (us : List ToldSlice) → Among t (by_time begin_of us) → Among t us
among_time t [] m = m
among_time t (u ∷ us) m = elim (among_put t u (by_time begin_of us) m) [ inl e ↦ inl e | inr k ↦ inr (among_time t us k) ]

time_among : (t : ToldSlice) (us : List ToldSlice) → Among t us → Among t (by_time begin_of us)
time_among t [] m = m
time_among t (u ∷ us) (inl e) = put_among t u (by_time begin_of us) (inl e)
time_among t (u ∷ us) (inr m) = put_among t u (by_time begin_of us) (inr (time_among t us m))

filter_among : (f : ToldSlice → Bool) (t : ToldSlice) (us : List ToldSlice) → Among t us → f t ≡ true → Among t (filter f us)
filter_among f t [] m h = absurd m
filter_among f t (u ∷ us) (inl e) h = subst (λ (xs : List ToldSlice). Among t xs) (sym (ap (λ (b : Bool). cond b (u ∷ filter f us) (filter f us)) (ap f (sym e) ∙ h))) (inl e)
filter_among f t (u ∷ us) (inr m) h = go (f u) (filter_among f t us m h) where
  go : (b : Bool) → Among t (filter f us) → Among t (cond b (u ∷ filter f us) (filter f us))
  go true k = inr k
  go false k = k

among_filter : (f : ToldSlice → Bool) (t : ToldSlice) (us : List ToldSlice) → Among t (filter f us) → Among t us × (f t ≡ true)
among_filter f t [] m = absurd m
among_filter f t (u ∷ us) m = go (f u) refl (among_filter f t us) m where
  go : (b : Bool) → f u ≡ b → (Among t (filter f us) → Among t us × (f t ≡ true)) → Among t (cond b (u ∷ filter f us) (filter f us)) → Among t (u ∷ us) × (f t ≡ true)
  go true e more (inl is) = (inl is, ap f is ∙ e)
  go true e more (inr k) = let r = more k in (inr r.0, r.1)
  go false e more k = let r = more k in (inr r.0, r.1)

-- what it is to meet
pub record Meet (t u : ToldSlice) : Type 0 where
  pub apart : t.stream ≢ u.stream
  pub same : thread_of t ≡ thread_of u
  pub when : (begin_of t ≡ begin_of u) ⊎ ((begin_of t < begin_of u) × (lasts_past (begin_of u) t ≡ true))

both_true : (b c : Bool) → (b && c) ≡ true → (b ≡ true) × (c ≡ true)
both_true true c h = (refl, h)
both_true false c h = absurd (cc)

either_true : (b c : Bool) → (b || c) ≡ true → (b ≡ true) ⊎ (c ≡ true)
either_true true c h = inl refl
either_true false c h = inr h

not_true : (b : Bool) → not b ≡ true → b ≡ false
not_true true h = absurd (cc)
not_true false h = refl

equal_true : (a b : ℕ) → (a == b) ≡ true → a ≡ b
equal_true a b h = elim (eqb_tells a b) [ inl t ↦ t.1 | inr t ↦ absurd (let e = t.0 in cc) ]

equal_false : (a b : ℕ) → (a == b) ≡ false → a ≢ b
equal_false a b h = elim (eqb_tells a b) [ inl t ↦ absurd (let e = t.0 in cc) | inr t ↦ t.1 ]

less_true : (a b : ℕ) → nat_lt a b ≡ true → a < b
less_true a b h = elim (leb_tells (suc a) b) [ inl t ↦ t.1 | inr t ↦ absurd (let e = t.0 in cc) ]

meet_of : (t u : ToldSlice) → meets t u ≡ true → Meet t u
meet_of t u h =
    let outer = both_true (not (t.stream == u.stream) && thread_of t == thread_of u) (begin_of t == begin_of u || (nat_lt (begin_of t) (begin_of u) && lasts_past (begin_of u) t)) h in
    let first = both_true (not (t.stream == u.stream)) (thread_of t == thread_of u) outer.0 in
    record {
      apart = equal_false t.stream u.stream (not_true (t.stream == u.stream) first.0);
      same = equal_true (thread_of t) (thread_of u) first.1;
      when = elim (either_true (begin_of t == begin_of u) (nat_lt (begin_of t) (begin_of u) && lasts_past (begin_of u) t) outer.1) [
        | inl e ↦ inl (equal_true (begin_of t) (begin_of u) e)
        | inr e ↦ (let r = both_true (nat_lt (begin_of t) (begin_of u)) (lasts_past (begin_of u) t) e in inr (less_true (begin_of t) (begin_of u) r.0, r.1))
      ];
    }

pub true_and : (b c : Bool) → b ≡ true → c ≡ true → (b && c) ≡ true
true_and true c h k = k
true_and false c h k = absurd (cc)

pub true_or : (b c : Bool) → c ≡ true → (b || c) ≡ true
true_or true c h = refl
true_or false c h = h

pub of_meet : (t u : ToldSlice) → Meet t u → meets t u ≡ true
of_meet t u m =
    true_and (not (t.stream == u.stream) && thread_of t == thread_of u) (begin_of t == begin_of u || (nat_lt (begin_of t) (begin_of u) && lasts_past (begin_of u) t))
    (true_and (not (t.stream == u.stream)) (thread_of t == thread_of u) (apart_is (eqb_tells t.stream u.stream)) (same_is (eqb_tells (thread_of t) (thread_of u))))
    (elim m.when [ inl e ↦ equal e | inr l ↦ true_or (begin_of t == begin_of u) (nat_lt (begin_of t) (begin_of u) && lasts_past (begin_of u) t) (true_and (nat_lt (begin_of t) (begin_of u)) (lasts_past (begin_of u) t) (less l.0) l.1) ])
  where
    apart_is : (((t.stream == u.stream) ≡ true) × (t.stream ≡ u.stream)) ⊎ (((t.stream == u.stream) ≡ false) × (t.stream ≢ u.stream)) → not (t.stream == u.stream) ≡ true
    apart_is (inl e) = absurd (m.apart e.1)
    apart_is (inr e) = ap not e.0

    same_is : (((thread_of t == thread_of u) ≡ true) × (thread_of t ≡ thread_of u)) ⊎ (((thread_of t == thread_of u) ≡ false) × (thread_of t ≢ thread_of u)) → (thread_of t == thread_of u) ≡ true
    same_is (inl e) = e.0
    same_is (inr e) = absurd (e.1 m.same)

    equal : begin_of t ≡ begin_of u → (begin_of t == begin_of u || (nat_lt (begin_of t) (begin_of u) && lasts_past (begin_of u) t)) ≡ true
    equal e = elim (eqb_tells (begin_of t) (begin_of u)) [
      | inl x ↦ ap (λ (b : Bool). b || (nat_lt (begin_of t) (begin_of u) && lasts_past (begin_of u) t)) x.0
      | inr x ↦ absurd (x.1 e)
    ]

    less : begin_of t < begin_of u → nat_lt (begin_of t) (begin_of u) ≡ true
    less lt = elim (leb_tells (suc (begin_of t)) (begin_of u)) [ inl x ↦ x.0 | inr x ↦ absurd (let le = x.1 in omega (arith, le, lt)) ]

-- A slice that lasts past a time lasts past an earlier one.
past_less : (m n : ℕ) (o : Option ℕ) → m ≤ n → is_past n o ≡ true → is_past m o ≡ true
past_less m n None le h = absurd (cc)
past_less m n (Some k) le h = let lt = less_true n k h in elim (leb_tells (suc m) k) [ inl x ↦ x.0 | inr x ↦ absurd (let ge = x.1 in omega (arith, le, lt, ge)) ]

any_more : (f g : Packet → Bool) → ((p : Packet) → f p ≡ true → g p ≡ true) → (ps : List Packet) → list_any f ps ≡ true → list_any g ps ≡ true
any_more f g h [] e = absurd (cc)
any_more f g h (p ∷ ps) e = elim (either_true (f p) (list_any f ps) e) [
  | inl x ↦ ap (λ (b : Bool). b || list_any g ps) (h p x)
  | inr x ↦ true_or (g p) (list_any g ps) (any_more f g h ps x)
]

starts_less : (m n : ℕ) → m ≤ n → (p : Packet) → starts_past n p ≡ true → starts_past m p ≡ true
starts_less m n le p h = let b = both_true (is_start p) (is_past n (stamp_of p)) h in true_and (is_start p) (is_past m (stamp_of p)) b.0 (past_less m n (stamp_of p) le b.1)

lasts_less : (m n : ℕ) (t : ToldSlice) → m ≤ n → lasts_past n t ≡ true → lasts_past m t ≡ true
lasts_less m n t le h = elim (either_true (list_any (λ p. is_past n (stamp_of p)) (take (inner t) t.later)) (list_any (starts_past n) (take 1 (beyond t))) h) [
  | inl x ↦ ap (λ (b : Bool). b || list_any (starts_past m) (take 1 (beyond t))) (any_more (λ p. is_past n (stamp_of p)) (λ p. is_past m (stamp_of p)) (λ p e. past_less m n (stamp_of p) le e) (take (inner t) t.later) x)
  | inr x ↦ true_or (list_any (λ p. is_past m (stamp_of p)) (take (inner t) t.later)) (list_any (starts_past m) (take 1 (beyond t))) (any_more (starts_past n) (starts_past m) (starts_less m n le) (take 1 (beyond t)) x)
]

-- The least begin of a slice that another one meets.
abbrev pub IsLeast : List ToldSlice → Option ℕ → Type 0
IsLeast xs None = (t u : ToldSlice) → Among t xs → Among u xs → meets t u ≡ true → ⊥
IsLeast xs (Some n) = ((t u : ToldSlice) → Among t xs → Among u xs → meets t u ≡ true → n ≤ begin_of u) × ((t : ToldSlice) × (u : ToldSlice) × Among t xs × Among u xs × (meets t u ≡ true) × (begin_of u ≡ n))

abbrev BeginFrom : ℕ → ToldSlice → Type 0
BeginFrom n u = n ≤ begin_of u

later_too : (m n : ℕ) → m ≤ n → (us : List ToldSlice) → Each (BeginFrom n) us → Each (BeginFrom m) us
later_too m n le [] e = tt
later_too m n le (u ∷ us) e = (let high = e.0 in omega (arith, le, high), later_too m n le us e.1)

all_from : (n : ℕ) (us : List ToldSlice) → FromTime begin_of n (head_of us) → Ascend begin_of us → Each (BeginFrom n) us
all_from n [] f a = tt
all_from n (u ∷ us) f a = (f, later_too n (begin_of u) f us (all_from (begin_of u) us a.0 a.1))

-- those that are met among all are met among those after the first one, or earlier
record Sooner (ys : List ToldSlice) (n : ℕ) : Type 0 where
  former : ToldSlice
  latter : ToldSlice
  one : Among former ys
  two : Among latter ys
  met : meets former latter ≡ true
  soon : begin_of latter ≤ n

module _ (t v : ToldSlice) (zs : List ToldSlice) (order : Order t v) (up : Ascend begin_of (t ∷ v ∷ zs)) (unmet : meets t v ≡ false) (alike : thread_of v ≡ thread_of t) where
  begins_late : (u : ToldSlice) → Among u (v ∷ zs) → begin_of v ≤ begin_of u
  begins_late u m = among_each (BeginFrom (begin_of v)) u (v ∷ zs) (all_from (begin_of v) (v ∷ zs) (omega arith) up.1) m

  no_meet : Meet t v → ⊥
  no_meet m = let e = of_meet t v m in cc

  sooner_equal : (u : ToldSlice) → Among u (v ∷ zs) → t.stream ≢ u.stream → thread_of t ≡ thread_of u → begin_of t ≡ begin_of u → Sooner (v ∷ zs) (begin_of u)
  sooner_equal u m apart same e =
      let low = up.0 in
      let high = begins_late u m in
      let first : begin_of t ≡ begin_of v = omega (arith, low, high, e) in
      elim (eqb_tells t.stream v.stream) [
        | inr x ↦ absurd (no_meet (record { apart = x.1; same = sym alike; when = inl first }))
        | inl x ↦ record {
          former = v;
          latter = u;
          one = inl refl;
          two = m;
          met = of_meet v u (record { apart = λ q. apart (x.1 ∙ q); same = alike ∙ same; when = inl (sym first ∙ e) });
          soon = omega arith;
        }
      ]

  never : (u : ToldSlice) → Among u (v ∷ zs) → begin_of t < begin_of u → lasts_past (begin_of u) t ≡ true → ⊥
  never u m lt lasting =
      let high = begins_late u m in
      let low = up.0 in
      elim (eqb_tells t.stream v.stream) [
        | inl x ↦ (let short = (order x.1).1 (begin_of u) high in cc)
        | inr x ↦ elim (leb_tells (begin_of v) (begin_of t)) [
          | inl y ↦ no_meet (record { apart = x.1; same = sym alike; when = inl (let le = y.1 in omega (arith, le, low)) })
          | inr y ↦ no_meet (record { apart = x.1; same = sym alike; when = inr (y.1, lasts_less (begin_of v) (begin_of u) t high lasting) })
        ]
      ]

  sooner_than : (u : ToldSlice) → Among u (v ∷ zs) → meets t u ≡ true → Sooner (v ∷ zs) (begin_of u)
  sooner_than u m h =
      let x = meet_of t u h in
      elim x.when [
        | inl e ↦ sooner_equal u m x.apart x.same e
        | inr l ↦ absurd (never u m l.0 l.1)
      ]

  sooner_of : (u : ToldSlice) → Among u (v ∷ zs) → meets u t ≡ true → Sooner (v ∷ zs) (begin_of t)
  sooner_of u m h =
      let x = meet_of u t h in
      let late = begins_late u m in
      let low = up.0 in
      elim x.when [
        | inl e ↦ (let s = sooner_equal u m (λ q. x.apart (sym q)) (sym x.same) (sym e) in let soon = s.soon in record { former = s.former; latter = s.latter; one = s.one; two = s.two; met = s.met; soon = omega (arith, soon, e) })
        | inr l ↦ absurd (let lt = l.0 in omega (arith, lt, late, low))
      ]

  sooner : (a b : ToldSlice) → Among a (t ∷ v ∷ zs) → Among b (t ∷ v ∷ zs) → meets a b ≡ true → Sooner (v ∷ zs) (begin_of b)
  sooner a b (inr m) (inr k) h = record { former = a; latter = b; one = m; two = k; met = h; soon = omega arith }
  sooner a b (inl e) (inr k) h = sooner_than b k (ap (λ (x : ToldSlice). meets x b) (sym e) ∙ h)
  sooner a b (inr m) (inl f) h =
      let s = sooner_of a m (ap (meets a) (sym f) ∙ h) in
      let soon = s.soon in
      let same = ap begin_of f in
      record { former = s.former; latter = s.latter; one = s.one; two = s.two; met = s.met; soon = omega (arith, soon, same) }
  sooner a b (inl e) (inl f) h = let x = meet_of a b h in absurd (x.apart (ap (λ (k : ToldSlice). k.stream) (e ∙ sym f)))

  least_on : (o : Option ℕ) → IsLeast (v ∷ zs) o → IsLeast (t ∷ v ∷ zs) o
  least_on None l = λ a b m k h. let s = sooner a b m k h in l s.former s.latter s.one s.two s.met
  least_on (Some n) l = (
    (λ a b m k h. let s = sooner a b m k h in let le = l.0 s.former s.latter s.one s.two s.met in let soon = s.soon in omega (arith, le, soon)),
    let w = l.1 in (w.0, w.1, inr w.2, inr w.3, w.4, w.5),
  )

-- The next one is met.
least_here : (t v : ToldSlice) (zs : List ToldSlice) → Ascend begin_of (t ∷ v ∷ zs) → meets t v ≡ true → IsLeast (t ∷ v ∷ zs) (Some (begin_of v))
least_here t v zs up h = (low, (t, v, inl refl, inr (inl refl), h, refl)) where
  late : (u : ToldSlice) → Among u (v ∷ zs) → begin_of v ≤ begin_of u
  late u m = among_each (BeginFrom (begin_of v)) u (v ∷ zs) (all_from (begin_of v) (v ∷ zs) (omega arith) up.1) m

  before : (a b : ToldSlice) → meets a b ≡ true → begin_of a ≤ begin_of b
  before a b k = let x = meet_of a b k in elim x.when [ inl e ↦ omega (arith, e) | inr l ↦ (let lt = l.0 in omega (arith, lt)) ]

  low : (a b : ToldSlice) → Among a (t ∷ v ∷ zs) → Among b (t ∷ v ∷ zs) → meets a b ≡ true → begin_of v ≤ begin_of b
  low a b m (inr k) h = late b k
  low a b (inr m) (inl f) h = let le = late a m in let order = before a b h in omega (arith, le, order)
  low a b (inl e) (inl f) h = let x = meet_of a b h in absurd (x.apart (ap (λ (k : ToldSlice). k.stream) (e ∙ sym f)))

pub least_met : (n : ℕ) (xs : List ToldSlice) → Lined xs → Ascend begin_of xs → Each (λ (t : ToldSlice). thread_of t ≡ n) xs → IsLeast xs (first_met xs)
least_met n [] l up e = λ t u m k h. absurd m
least_met n (t ∷ []) l up e = λ a b m k h. alone a b m k h where
  alone : (a b : ToldSlice) → Among a (t ∷ []) → Among b (t ∷ []) → meets a b ≡ true → ⊥
  alone a b (inl e) (inl f) h = let x = meet_of a b h in x.apart (ap (λ (k : ToldSlice). k.stream) (e ∙ sym f))
  alone a b (inl e) (inr k) h = k
  alone a b (inr m) k h = m
least_met n (t ∷ (v ∷ zs)) l up e = go (meets t v) refl (least_met n (v ∷ zs) l.1 up.1 e.1) where
  go : (b : Bool) → meets t v ≡ b → IsLeast (v ∷ zs) (first_met (v ∷ zs)) → IsLeast (t ∷ v ∷ zs) (option_or (cond b (Some (begin_of v)) None) (first_met (v ∷ zs)))
  go true h more = least_here t v zs up h
  go false h more = least_on t v zs l.0.0 up h (e.1.0 ∙ sym e.0) (first_met (v ∷ zs)) more

-- the least of the begins of some slices
abbrev OneLeast : (ToldSlice → Bool) → List ToldSlice → Option ℕ → Type 0
OneLeast q us None = (u : ToldSlice) → Among u us → q u ≡ true → ⊥
OneLeast q us (Some n) = ((u : ToldSlice) → Among u us → q u ≡ true → n ≤ begin_of u) × ((u : ToldSlice) × Among u us × (q u ≡ true) × (begin_of u ≡ n))

least_of : (q : ToldSlice → Bool) (us : List ToldSlice) → OneLeast q us (least (map begin_of (filter q us)))
least_of q [] = λ u m h. m
least_of q (u ∷ us) = go (q u) refl (least_of q us) where
  others : List ℕ
  others = map begin_of (filter q us)

  passes : (o : Option ℕ) → q u ≡ false → OneLeast q us o → OneLeast q (u ∷ us) o
  passes None e l = λ x m h. elim m [ inl is ↦ (let k = ap q (sym is) ∙ h in cc) | inr k ↦ l x k h ]
  passes (Some n) e l = (
    (λ x m h. elim m [ inl is ↦ absurd (let k = ap q (sym is) ∙ h in cc) | inr k ↦ l.0 x k h ]),
    let w = l.1 in (w.0, inr w.1, w.2, w.3),
  )

  takes : (o : Option ℕ) → least others ≡ o → q u ≡ true → OneLeast q us o → OneLeast q (u ∷ us) (least (begin_of u ∷ others))
  takes None is e l = rw is (
    (λ x m h. elim m [ inl same ↦ (let k = ap begin_of same in omega (arith, k)) | inr k ↦ absurd (l x k h) ]),
    (u, inl refl, e, refl),
  )
  takes (Some n) is e l = rw is (elim (leb_tells (begin_of u) n) [
    | inl x ↦ rw x.0 (
      (λ y m h. elim m [ inl same ↦ (let k = ap begin_of same in omega (arith, k)) | inr k ↦ (let le = l.0 y k h in let low = x.1 in omega (arith, le, low)) ]),
      (u, inl refl, e, refl),
    )
    | inr x ↦ rw x.0 (
      (λ y m h. elim m [ inl same ↦ (let k = ap begin_of same in let low = x.1 in omega (arith, k, low)) | inr k ↦ l.0 y k h ]),
      (let w = l.1 in (w.0, inr w.1, w.2, w.3)),
    )
  ])

  go : (b : Bool) → q u ≡ b → OneLeast q us (least others) → OneLeast q (u ∷ us) (least (map begin_of (cond b (u ∷ filter q us) (filter q us))))
  go true e more = takes (least others) refl e more
  go false e more = passes (least others) e more

module _ (n : ℕ) (ts : List ToldSlice) where
  abbrev test : ToldSlice → Bool
  test t = thread_of t == n

  abbrev met : ToldSlice → Bool
  met u = thread_of u == n && list_any (λ t. meets t u) ts

  pub in_thread : (t : ToldSlice) → Among t (slices_of n ts) → Among t ts × ((thread_of t == n) ≡ true)
  in_thread t m = among_filter test t ts (among_time t (filter test ts) m)

  pub of_thread_in : (t : ToldSlice) → Among t ts → (thread_of t == n) ≡ true → Among t (slices_of n ts)
  of_thread_in t m h = time_among t (filter test ts) (filter_among test t ts m h)

  pair : (u : ToldSlice) → Among u ts → met u ≡ true → (t : ToldSlice) × Among t (slices_of n ts) × Among u (slices_of n ts) × (meets t u ≡ true)
  pair u m h =
      let b = both_true (thread_of u == n) (list_any (λ t. meets t u) ts) h in
      let a = any_among (λ t. meets t u) ts b.1 in
      let x = meet_of a.0 u a.2 in
      let own : (thread_of a.0 == n) ≡ true = ap (λ (k : ℕ). k == n) x.same ∙ b.0 in
      (a.0, of_thread_in a.0 a.1 own, of_thread_in u m b.0, a.2)

  met_by : (t u : ToldSlice) → Among t (slices_of n ts) → Among u (slices_of n ts) → meets t u ≡ true → Among u ts × (met u ≡ true)
  met_by t u m k h =
      let a = in_thread t m in
      let b = in_thread u k in
      (b.0, true_and (thread_of u == n) (list_any (λ x. meets x u) ts) b.1 (among_any (λ x. meets x u) t ts a.0 h))

  same_least : (a b : Option ℕ) → IsLeast (slices_of n ts) a → OneLeast met ts b → a ≡ b
  same_least None None x y = refl
  same_least None (Some k) x y = let w = y.1 in let p = pair w.0 w.1 w.2 in absurd (x p.0 w.0 p.1 p.2 p.3)
  same_least (Some j) None x y = let w = x.1 in let p = met_by w.0 w.1 w.2 w.3 w.4 in absurd (y w.1 p.0 p.1)
  same_least (Some j) (Some k) x y =
      let w = y.1 in
      let p = pair w.0 w.1 w.2 in
      let low = x.0 p.0 w.0 p.1 p.2 p.3 in
      let at = w.3 in
      let v = x.1 in
      let q = met_by v.0 v.1 v.2 v.3 v.4 in
      let high = y.0 v.1 q.0 q.1 in
      let there = v.5 in
      let e : j ≡ k = omega (arith, low, at, high, there) in
      ap Some e

  all_threads : (us : List ToldSlice) → Each (λ (t : ToldSlice). thread_of t ≡ n) (filter test us)
  all_threads [] = tt
  all_threads (u ∷ us) = elim (eqb_tells (thread_of u) n) [
    | inl x ↦ subst (Each (λ (t : ToldSlice). thread_of t ≡ n)) (sym (ap (λ (b : Bool). cond b (u ∷ filter test us) (filter test us)) x.0)) (x.1, all_threads us)
    | inr x ↦ subst (Each (λ (t : ToldSlice). thread_of t ≡ n)) (sym (ap (λ (b : Bool). cond b (u ∷ filter test us) (filter test us)) x.0)) (all_threads us)
  ]

  pub slices_alike : Each (λ (t : ToldSlice). thread_of t ≡ n) (slices_of n ts)
  slices_alike = each_by_time begin_of (λ (t : ToldSlice). thread_of t ≡ n) (filter test ts) (all_threads ts)

  pub keep_turn : Lined ts → first_met (slices_of n ts) ≡ overlap ts n
  keep_turn l = same_least (first_met (slices_of n ts)) (overlap ts n) (least_met n (slices_of n ts) (lined_by_time (filter test ts) (lined_filter test ts l)) (ascends begin_of (filter test ts)) slices_alike) (least_of met ts)

-- the first slice of a thread that is met has the least begin of all that are
pub least_met_of : (n : ℕ) (ts : List ToldSlice) → Lined ts → IsLeast (slices_of n ts) (first_met (slices_of n ts))
least_met_of n ts l = least_met n (slices_of n ts) (lined_by_time (filter (λ (t : ToldSlice). thread_of t == n) ts) (lined_filter (λ (t : ToldSlice). thread_of t == n) ts l)) (ascends begin_of (filter (λ (t : ToldSlice). thread_of t == n) ts)) (slices_alike n ts)

-- slices in order are in turn
in_turn_by : (n : ℕ) (xs : List ToldSlice) → Ascend begin_of xs → Each (λ (t : ToldSlice). thread_of t ≡ n) xs → InTurn xs
in_turn_by n [] a e = tt
in_turn_by n (t ∷ []) a e = (tt, tt)
in_turn_by n (t ∷ (u ∷ xs)) a e = ((e.0 ∙ sym e.1.0, a.0), in_turn_by n (u ∷ xs) a.1 e.1)

pub slices_in_turn : (n : ℕ) (ts : List ToldSlice) → InTurn (slices_of n ts)
slices_in_turn n ts = in_turn_by n (slices_of n ts) (ascends begin_of (filter (λ (t : ToldSlice). thread_of t == n) ts)) (slices_alike n ts)

pub keeps_turn : (from : ℕ) (threads : List ℕ) (streams : List (List Packet)) → check from threads streams ≡ None → KeepTurn (slices_told (kept from streams))
keeps_turn from threads streams h = λ n. keep_turn n (slices_told (kept from streams)) (lined (slices_told (kept from streams)) (starts_told (kept from streams)) (left_calm from threads streams h) (kept_follow from streams))
