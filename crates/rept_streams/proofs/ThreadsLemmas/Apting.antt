-- The slices of a thread in order, where the checks find nothing and no two of them meet.
use Rattle.std.proofs.Common.{◌≡◌, inl, inr, ℕ, suc, ◌<◌, ◌==◌, ◌||◌, cond, List, [], ◌∷◌, ◌++◌, Bool, true, false, Option, Some, None, refl, sym, ◌∙◌, ap, subst, arith}
use Rattle.std.specs.Prelude.{option_map}
use Rattle.std.specs.List.{list_any}
use Rattle.std.proofs.lemmas.Bool.Decides.{leb_tells, eqb_tells}
use Rattle.rept_trace.specs.declared.packet.Packet.{Packet}
use Rattle.rept_path.specs.declared.fault.PathFault.TheVariants.{SliceOverlap, UnknownThread}
use Rattle.rept_streams.specs.Slices.Parts.{ToldSlice, slices_told, thread_of}
use Rattle.rept_streams.specs.Slices.Skipping.{whole, kept}
use Rattle.rept_streams.specs.Slices.Many.{overlap_fault}
use Rattle.rept_streams.specs.Slices.Ends.{first_met}
use Rattle.rept_streams.specs.Slices.Order.{slices_of, meets, overlap}
use Rattle.rept_streams.specs.Slices.Checks.{first_fault, time_back, startless, all_idle, stranger, while_other, check}
use Rattle.rept_streams.proofs.SlicesLemmas.InTime.{Each}
use Rattle.rept_streams.proofs.SlicesLemmas.Apart.{each_middle}
use Rattle.rept_streams.proofs.SlicesLemmas.Calm.{none_first, left_calm}
use Rattle.rept_streams.proofs.SlicesLemmas.Whether.{Started, starts_told}
use Rattle.rept_streams.proofs.SlicesLemmas.Following.{Follows, Following, HeadFirst, kept_follow, kept_heads}
use Rattle.rept_streams.proofs.ThreadsLemmas.Turning.{Order, Lined, lined, Among, among_each, IsLeast, in_thread, of_thread_in, slices_alike, keep_turn, least_met_of}
use Rattle.rept_streams.proofs.ThreadsLemmas.Nexting.{Rising, rising, Next, next_of, same_thread, strict_slices, lex_of, Neighbours, Apt, none_amid, nothing_between}

-- of two members of different numbers, the one of the lesser number stands first
lined_pair : (ts : List ToldSlice) (a b : ToldSlice) → Rising ts → Lined ts → Among a ts → Among b ts → a.number < b.number → Order a b
lined_pair [] a b r l m n lt = absurd m
lined_pair (t ∷ ts) a b r l (inl e) (inl f) lt = absurd (let p = ap (λ (x : ToldSlice). x.number) e in let q = ap (λ (x : ToldSlice). x.number) f in omega (arith, p, q, lt))
lined_pair (t ∷ ts) a b r l (inl e) (inr n) lt = subst (λ (x : ToldSlice). Order x b) (sym e) (among_each (Order t) b ts l.0 n)
lined_pair (t ∷ ts) a b r l (inr m) (inl f) lt = absurd (let low = among_each (λ (x : ToldSlice). t.number < x.number) a ts r.0 m in let q = ap (λ (x : ToldSlice). x.number) f in omega (arith, low, q, lt))
lined_pair (t ∷ ts) a b r l (inr m) (inr n) lt = lined_pair ts a b r.1 l.1 m n lt

-- members of one number are one
one_number : (ts : List ToldSlice) (a b : ToldSlice) → Rising ts → Among a ts → Among b ts → a.number ≡ b.number → a ≡ b
one_number [] a b r m n e = absurd m
one_number (t ∷ ts) a b r (inl x) (inl y) e = x ∙ sym y
one_number (t ∷ ts) a b r (inl x) (inr n) e = absurd (let low = among_each (λ (z : ToldSlice). t.number < z.number) b ts r.0 n in let p = ap (λ (z : ToldSlice). z.number) x in omega (arith, low, p, e))
one_number (t ∷ ts) a b r (inr m) (inl y) e = absurd (let low = among_each (λ (z : ToldSlice). t.number < z.number) a ts r.0 m in let p = ap (λ (z : ToldSlice). z.number) y in omega (arith, low, p, e))
one_number (t ∷ ts) a b r (inr m) (inr n) e = one_number ts a b r.1 m n e

middle : (front : List ToldSlice) (t : ToldSlice) (back : List ToldSlice) → Among t (front ++ t ∷ back)
middle [] t back = inl refl
middle (f ∷ front) t back = inr (middle front t back)

behind : (front : List ToldSlice) (t n : ToldSlice) (back : List ToldSlice) → Among n (front ++ t ∷ (n ∷ back))
behind [] t n back = inr (inl refl)
behind (f ∷ front) t n back = inr (behind front t n back)

follows_in : (front : List ToldSlice) (t : ToldSlice) (back : List ToldSlice) → Following (front ++ t ∷ back) → Follows t back
follows_in [] t back f = f.0
follows_in (x ∷ front) t back f = follows_in front t back f.1

number_of_next : (front : List ToldSlice) (t n : ToldSlice) (back : List ToldSlice) → Rising (front ++ t ∷ (n ∷ back)) → t.number < n.number
number_of_next [] t n back r = (r.0).0
number_of_next (f ∷ front) t n back r = number_of_next front t n back r.1

strangers : (threads : List ℕ) (ts : List ToldSlice) → first_fault (stranger threads) ts ≡ None → Each (λ (t : ToldSlice). stranger threads t ≡ None) ts
strangers threads [] h = tt
strangers threads (t ∷ ts) h = let n = none_first (stranger threads) t ts h in (n.0, strangers threads ts n.1)

-- a member with the one before it
before_member : (ts : List ToldSlice) (n : ToldSlice) (y : ℕ) → HeadFirst ts → Among n ts → n.inside ≡ Some y → (t : ToldSlice) × Neighbours ts t n
before_member [] n y h m i = absurd m
before_member (t ∷ ts) n y h (inl e) i = absurd (let z : None ≡ Some y = sym h ∙ ap (λ (x : ToldSlice). x.inside) (sym e) ∙ i in cc)
before_member (t ∷ []) n y h (inr m) i = absurd m
before_member (t ∷ (u ∷ ts)) n y h (inr (inl e)) i = (t, ([], ts, ap (λ (x : ToldSlice). t ∷ x ∷ ts) (sym e)))
before_member (t ∷ (u ∷ ts)) n y h (inr (inr m)) i = go (within u ts m) where
  within : (u : ToldSlice) (ts : List ToldSlice) → Among n ts → (v : ToldSlice) × Neighbours (u ∷ ts) v n
  within u [] m = absurd m
  within u (v ∷ vs) (inl e) = (u, ([], vs, ap (λ (x : ToldSlice). u ∷ x ∷ vs) (sym e)))
  within u (v ∷ vs) (inr m) = let r = within v vs m in (r.0, (u ∷ r.1.0, r.1.1, (λ i. u ∷ r.1.2 i)))

  go : (v : ToldSlice) × Neighbours (u ∷ ts) v n → (v : ToldSlice) × Neighbours (t ∷ u ∷ ts) v n
  go (v, (front, back, e)) = (v, (t ∷ front, back, (λ i. t ∷ e i)))

module _ (ts : List ToldSlice) (process : ℕ) (threads : List ℕ) (rises : Rising ts) (lines : Lined ts) (started : Each Started ts) (follow : Following ts) (head : HeadFirst ts) (known : first_fault (stranger threads) ts ≡ None)
    (unmet : (a b : ToldSlice) → Among a (slices_of process ts) → Among b (slices_of process ts) → meets a b ≡ true → ⊥) where
  abbrev xs : List ToldSlice
  xs = slices_of process ts

  in_ts : (t : ToldSlice) → Among t xs → Among t ts
  in_ts t m = (in_thread process ts t m).0

  owned : (t : ToldSlice) → Among t xs → thread_of t ≡ process
  owned t m = among_each (λ (u : ToldSlice). thread_of u ≡ process) t xs (slices_alike process ts) m

  joins : (t : ToldSlice) → Among t ts → thread_of t ≡ process → Among t xs
  joins t m e = of_thread_in process ts t m (elim (eqb_tells (thread_of t) process) [ inl x ↦ x.0 | inr x ↦ absurd (x.1 e) ])

  next : (t n : ToldSlice) (y : ℕ) → Neighbours ts t n → n.inside ≡ Some y → Next t n
  next t n y (front, back, e) i =
      let s = subst (Each Started) e started in
      let f = subst Following e follow in
      next_of t n back y (each_middle Started front t (n ∷ back) s) (follows_in front t (n ∷ back) f) i

  there_t : (t n : ToldSlice) → Neighbours ts t n → Among t ts
  there_t t n (front, back, e) = subst (λ (us : List ToldSlice). Among t us) (sym e) (middle front t (n ∷ back))

  there_n : (t n : ToldSlice) → Neighbours ts t n → Among n ts
  there_n t n (front, back, e) = subst (λ (us : List ToldSlice). Among n us) (sym e) (behind front t n back)

  less : (t n : ToldSlice) → Neighbours ts t n → t.number < n.number
  less t n (front, back, e) = number_of_next front t n back (subst Rising e rises)

  alike_next : (t n : ToldSlice) (y : ℕ) → Neighbours ts t n → n.inside ≡ Some y → thread_of n ≡ thread_of t
  alike_next t n y h i = same_thread threads t n (next t n y h i) (among_each (λ (u : ToldSlice). stranger threads u ≡ None) n ts (strangers threads ts known) (there_n t n h))

  pub apt : Apt ts xs
  apt = record {
    strict = strict_slices process ts rises;
    both = λ t n y h i m. joins n (there_n t n h) (alike_next t n y h i ∙ owned t m);
    back = λ n y m i. (
        let b = before_member ts n y head (in_ts n m) i in
        (b.0, b.1, joins b.0 (there_t b.0 n b.1) (sym (alike_next b.0 n y b.1 i) ∙ owned n m))
        );
    lex = λ t n y h i m k. lex_of t n (lined_pair ts t n rises lines (in_ts t m) (in_ts n k) (less t n h) (sym (next t n y h i).stream)).0 (less t n h);
    none = λ t n u y h i mt mn mu a b. nothing_between ts xs unmet (λ p q mp mq. owned p mp ∙ sym (owned q mq)) (λ p q mp mq lt. lined_pair ts p q rises lines (in_ts p mp) (in_ts q mq) lt) (λ p q mp mq e. one_number ts p q rises (in_ts p mp) (in_ts q mq) e)
        t n u mt mn mu (next t n y h i) (among_each Started n ts started (there_n t n h)) (less t n h) (λ same low high. none_amid h.0 t n h.1 u (subst Rising h.2 rises) (subst (λ (us : List ToldSlice). Among u us) h.2 (in_ts u mu)) low high) a b;
    one = λ t n m h k. one_next ts t n m rises h k;
    last = λ t m before h e. last_one t m before h e;
  } where
    one_next : (ts : List ToldSlice) (t n m : ToldSlice) → Rising ts → Neighbours ts t n → Neighbours ts t m → n ≡ m
    one_next ts t n m r (front, back, e) (ahead, rest, f) = one_number ts n m r (subst (λ (us : List ToldSlice). Among n us) (sym e) (behind front t n back)) (subst (λ (us : List ToldSlice). Among m us) (sym f) (behind ahead t m rest)) (same (number_of_next front t n back (subst Rising e r)) (number_of_next ahead t m rest (subst Rising f r))) where
      same : t.number < n.number → t.number < m.number → n.number ≡ m.number
      same p q = elim (leb_tells (suc n.number) m.number) [
        | inl x ↦ absurd (none_amid ahead t m rest n (subst Rising f r) (subst (λ (us : List ToldSlice). Among n us) (sym e ∙ f) (behind front t n back)) p x.1)
        | inr x ↦ elim (leb_tells (suc m.number) n.number) [
          | inl y ↦ absurd (none_amid front t n back m (subst Rising e r) (subst (λ (us : List ToldSlice). Among m us) (sym f ∙ e) (behind ahead t m rest)) q y.1)
          | inr y ↦ (let a = x.1 in let b = y.1 in omega (arith, a, b))
        ]
      ]

    last_one : (t m : ToldSlice) (before : List ToldSlice) → Neighbours ts t m → ts ≡ before ++ t ∷ [] → ⊥
    last_one t m before h e = at_end before (subst Rising e rises) (subst (λ (us : List ToldSlice). Among m us) e (there_n t m h)) where
      at_end : (before : List ToldSlice) → Rising (before ++ t ∷ []) → Among m (before ++ t ∷ []) → ⊥
      at_end [] r (inl same) = let n = ap (λ (x : ToldSlice). x.number) same in let lt = less t m h in omega (arith, n, lt)
      at_end [] r (inr k) = k
      at_end (b ∷ before) r (inl same) = let low = each_middle (λ (x : ToldSlice). b.number < x.number) before t [] r.0 in let n = ap (λ (x : ToldSlice). x.number) same in let lt = less t m h in omega (arith, low, n, lt)
      at_end (b ∷ before) r (inr k) = at_end before r.1 k

-- where no thread's slices meet
none_met : (ts : List ToldSlice) (processes : List ℕ) (p : ℕ) → first_fault (overlap_fault ts) processes ≡ None → list_any (λ q. q == p) processes ≡ true → overlap ts p ≡ None
none_met ts [] p h any = absurd (cc)
none_met ts (q ∷ processes) p h any =
    let n = none_first (overlap_fault ts) q processes h in
    elim (eqb_tells q p) [
      | inl e ↦ subst (λ (k : ℕ). overlap ts k ≡ None) e.1 (no_time (overlap ts q) n.0)
      | inr e ↦ none_met ts processes p n.1 (sym (ap (λ (b : Bool). b || list_any (λ k. k == p) processes) e.0) ∙ any)
    ]
  where
    no_time : (o : Option ℕ) → option_map (λ time. SliceOverlap q time) o ≡ None → o ≡ None
    no_time None h = refl
    no_time (Some time) h = absurd (cc)

known_thread : (threads : List ℕ) (t : ToldSlice) → stranger threads t ≡ None → list_any (λ k. k == thread_of t) threads ≡ true
known_thread threads t h = go (list_any (λ k. k == thread_of t) threads) refl h where
  go : (b : Bool) → list_any (λ k. k == thread_of t) threads ≡ b → cond b (while_other t t.inside) (Some (UnknownThread t.number (thread_of t))) ≡ None → list_any (λ k. k == thread_of t) threads ≡ true
  go true e k = e
  go false e k = absurd (cc)

no_strangers : (from : ℕ) (threads : List ℕ) (lists : List (List Packet)) → check from threads lists ≡ None → first_fault (stranger threads) (slices_told (kept from lists)) ≡ None
no_strangers from threads lists h =
    let strange = first_fault (stranger threads) (slices_told (kept from lists)) in
    let a = none_first (λ found. found) (first_fault time_back (whole lists)) (first_fault (startless from) (whole lists) ∷ all_idle lists ∷ first_fault (stranger threads) (slices_told (kept from lists)) ∷ []) h in
    let b = none_first (λ found. found) (first_fault (startless from) (whole lists)) (all_idle lists ∷ first_fault (stranger threads) (slices_told (kept from lists)) ∷ []) a.1 in
    let c = none_first (λ found. found) (all_idle lists) (first_fault (stranger threads) (slices_told (kept from lists)) ∷ []) b.1 in
    (none_first (λ found. found) (first_fault (stranger threads) (slices_told (kept from lists))) [] c.1).0

pub apt_of : (from : ℕ) (threads : List ℕ) (lists : List (List Packet)) (p : ℕ) → check from threads lists ≡ None → first_fault (overlap_fault (slices_told (kept from lists))) threads ≡ None → Apt (slices_told (kept from lists)) (slices_of p (slices_told (kept from lists)))
apt_of from threads lists p h none =
    let ts = slices_told (kept from lists) in
    let started = starts_told (kept from lists) in
    let follow = kept_follow from lists in
    let lines = lined ts started (left_calm from threads lists h) follow in
    let known = no_strangers from threads lists h in
    apt ts p threads (rising ts started follow) lines started follow (kept_heads from lists) known
    (λ a b m k x. (
    let own : thread_of a ≡ p = among_each (λ (u : ToldSlice). thread_of u ≡ p) a (slices_of p ts) (slices_alike p ts) m in
    let there : list_any (λ q. q == p) threads ≡ true = subst (λ (n : ℕ). list_any (λ q. q == n) threads ≡ true) own (known_thread threads a (among_each (λ (u : ToldSlice). stranger threads u ≡ None) a ts (strangers threads ts known) (in_thread p ts a m).0)) in
    let free : first_met (slices_of p ts) ≡ None = keep_turn p ts lines ∙ none_met ts threads p none there in
    let least : IsLeast (slices_of p ts) None = subst (IsLeast (slices_of p ts)) free (least_met_of p ts lines) in
    least a b m k x
    ))
