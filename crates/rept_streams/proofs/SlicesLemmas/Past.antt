-- The least begin of a thread's slice that is greater than that of another one, by slices that
-- stand in order.
use Rattle.std.proofs.Common.{◌≡◌, inl, inr, map, ℕ, suc, ◌+◌, ◌<◌, ◌≤◌, ◌==◌, nat_le, nat_lt, List, [], ◌∷◌, ◌++◌, Bool, true, false, cond, Option, Some, None, refl, sym, ◌∙◌, ap, subst, arith}
use Rattle.std.specs.List.{filter}
use Rattle.std.proofs.lemmas.Bool.Decides.{leb_tells, eqb_tells}
use Rattle.rept_streams.specs.Slices.Parts.{ToldSlice, thread_of, begin_of}
use Rattle.rept_streams.specs.Slices.Order.{by_time, head_of, least}
use Rattle.rept_streams.specs.Slices.Ends.{past_of}
use Rattle.rept_streams.proofs.SlicesLemmas.InTime.{Each, Ascend, FromTime, each_by_time, each_of_time}
use Rattle.rept_streams.proofs.SlicesLemmas.Sorting.{none_like}

-- a number is at most this one, if it is one
abbrev pub MostBy : ℕ → Option ℕ → Type 0
MostBy m None = Unit {0}
MostBy m (Some n) = m ≤ n

-- an option is told by the numbers that are at most what it is
pub one_most : (o p : Option ℕ) → ((m : ℕ) → MostBy m o → MostBy m p) → ((m : ℕ) → MostBy m p → MostBy m o) → o ≡ p
one_most None None a b = refl
one_most None (Some n) a b = absurd (let le = a (n + 1) tt in omega (arith, le))
one_most (Some n) None a b = absurd (let le = b (n + 1) tt in omega (arith, le))
one_most (Some n) (Some k) a b =
    let le = a n (omega arith) in
    let ge = b k (omega arith) in
    let e : n ≡ k = omega (arith, le, ge) in
    ap Some e

-- Where a slice begins after a time, it begins at this one or later.
abbrev pub From : ℕ → ℕ → ToldSlice → Type 0
From b m t = b < begin_of t → m ≤ begin_of t

least_none : (n : ℕ) (ns : List ℕ) → least ns ≡ None → least (n ∷ ns) ≡ Some n
least_none n ns is = rw is refl

least_some : (n k : ℕ) (ns : List ℕ) → least ns ≡ Some k → least (n ∷ ns) ≡ Some (cond (nat_le n k) n k)
least_some n k ns is = rw is refl

-- at most one of them is at most both
both_most : (m n : ℕ) (ns : List ℕ) → m ≤ n → MostBy m (least ns) → MostBy m (least (n ∷ ns))
both_most m n ns le more = go (least ns) refl more where
  go : (o : Option ℕ) → least ns ≡ o → MostBy m o → MostBy m (least (n ∷ ns))
  go None is k = subst (MostBy m) (sym (least_none n ns is)) le
  go (Some j) is k = subst (MostBy m) (sym (least_some n j ns is)) (pick (nat_le n j)) where
    pick : (c : Bool) → m ≤ cond c n j
    pick true = le
    pick false = k

most_both : (m n : ℕ) (ns : List ℕ) → MostBy m (least (n ∷ ns)) → (m ≤ n) × MostBy m (least ns)
most_both m n ns h = go (least ns) refl where
  go : (o : Option ℕ) → least ns ≡ o → (m ≤ n) × MostBy m (least ns)
  go None is = (subst (MostBy m) (least_none n ns is) h, subst (MostBy m) (sym is) tt)
  go (Some j) is =
      let k : m ≤ cond (nat_le n j) n j = subst (MostBy m) (least_some n j ns is) h in
      let p : (m ≤ n) × (m ≤ j) = elim (leb_tells n j) [
        | inl x ↦ (let k : m ≤ n = subst (λ (c : Bool). m ≤ cond c n j) x.0 k in let le = x.1 in (k, omega (arith, k, le)))
        | inr x ↦ (let k : m ≤ j = subst (λ (c : Bool). m ≤ cond c n j) x.0 k in let lt = x.1 in (omega (arith, k, lt), k))
      ] in
      (p.0, subst (MostBy m) (sym is) p.1)

module _ (b : ℕ) where
  abbrev after : List ToldSlice → List ℕ
  after ts = filter (λ n. nat_lt b n) (map begin_of ts)

  -- the least begin after a time
  pub least_most : (ts : List ToldSlice) (m : ℕ) → Each (From b m) ts → MostBy m (least (after ts))
  least_most [] m h = tt
  least_most (t ∷ ts) m h = go (nat_lt b (begin_of t)) refl (least_most ts m h.1) where
    go : (c : Bool) → nat_lt b (begin_of t) ≡ c → MostBy m (least (after ts)) → MostBy m (least (cond c (begin_of t ∷ after ts) (after ts)))
    go true e more = both_most m (begin_of t) (after ts) (h.0 (elim (leb_tells (suc b) (begin_of t)) [ inl x ↦ x.1 | inr x ↦ absurd (let f = x.0 in cc) ])) more
    go false e more = more

  pub most_least : (ts : List ToldSlice) (m : ℕ) → MostBy m (least (after ts)) → Each (From b m) ts
  most_least [] m h = tt
  most_least (t ∷ ts) m h = go (nat_lt b (begin_of t)) refl h (most_least ts m) where
    go : (c : Bool) → nat_lt b (begin_of t) ≡ c → MostBy m (least (cond c (begin_of t ∷ after ts) (after ts))) → (MostBy m (least (after ts)) → Each (From b m) ts) → Each (From b m) (t ∷ ts)
    go true e k more = let p = most_both m (begin_of t) (after ts) k in (λ lt. p.0, more p.1)
    go false e k more = (λ lt. absurd (elim (leb_tells (suc b) (begin_of t)) [ inl x ↦ (let f = x.0 in cc) | inr x ↦ (let ge = x.1 in omega (arith, lt, ge)) ]), more k)

-- the slices of one thread, in the order of time
abbrev pub own_past : List ToldSlice → Option ℕ
own_past [] = None
own_past (t ∷ []) = None
own_past (t ∷ (u ∷ us)) = cond (nat_lt (begin_of t) (begin_of u)) (Some (begin_of u)) (own_past (u ∷ us))

each_from : (n : ℕ) (ts : List ToldSlice) → FromTime begin_of n (head_of ts) → Ascend begin_of ts → Each (λ (t : ToldSlice). n ≤ begin_of t) ts
each_from n [] h a = tt
each_from n (t ∷ ts) h a = (h, each_from n ts (later (head_of ts) a.0) a.1) where
  later : (o : Option ToldSlice) → FromTime begin_of (begin_of t) o → FromTime begin_of n o
  later None k = tt
  later (Some u) k = omega (arith, h, k)

each_map : (P Q : ToldSlice → Type 0) (ts : List ToldSlice) → ((t : ToldSlice) → P t → Q t) → Each P ts → Each Q ts
each_map P Q [] f h = tt
each_map P Q (t ∷ ts) f h = (f t h.0, each_map P Q ts f h.1)

own_most : (t : ToldSlice) (ts : List ToldSlice) → Ascend begin_of (t ∷ ts) → (m : ℕ) → Each (From (begin_of t) m) ts → MostBy m (own_past (t ∷ ts))
own_most t [] a m h = tt
own_most t (u ∷ us) a m h = elim (leb_tells (suc (begin_of t)) (begin_of u)) [
  | inl x ↦ rw x.0 (h.0 (let lt = x.1 in omega (arith, lt)))
  | inr x ↦
      let same : begin_of t ≡ begin_of u = (let le = a.0 in let ge = x.1 in omega (arith, le, ge)) in
      rw x.0 (own_most u us a.1 m (each_map (From (begin_of t) m) (From (begin_of u) m) us (λ v f lt. f (omega (arith, lt, same))) h.1))
]

most_own : (t : ToldSlice) (ts : List ToldSlice) → Ascend begin_of (t ∷ ts) → (m : ℕ) → MostBy m (own_past (t ∷ ts)) → Each (From (begin_of t) m) ts
most_own t [] a m h = tt
most_own t (u ∷ us) a m h = go (nat_lt (begin_of t) (begin_of u)) refl h (most_own u us a.1 m) where
  go : (c : Bool) → nat_lt (begin_of t) (begin_of u) ≡ c → MostBy m (cond c (Some (begin_of u)) (own_past (u ∷ us))) → (MostBy m (own_past (u ∷ us)) → Each (From (begin_of u) m) us) → Each (From (begin_of t) m) (u ∷ us)
  go true e k more = (λ lt. k, each_map (λ (v : ToldSlice). begin_of u ≤ begin_of v) (From (begin_of t) m) us (λ v le lt. omega (arith, le, k)) (each_from (begin_of u) us a.1.0 a.1.1))
  go false e k more =
      let same : begin_of t ≡ begin_of u = elim (leb_tells (suc (begin_of t)) (begin_of u)) [ inl x ↦ absurd (let f = x.0 in cc) | inr x ↦ (let le = a.0 in let ge = x.1 in omega (arith, le, ge)) ] in
      ((λ lt. absurd (omega (arith, lt, same))), each_map (From (begin_of u) m) (From (begin_of t) m) us (λ v f lt. f (omega (arith, lt, same))) (more k))

-- those before one of them
ends_of_front : (front : List ToldSlice) (t : ToldSlice) (ts : List ToldSlice) → Ascend begin_of (front ++ t ∷ ts) → Each (λ (u : ToldSlice). begin_of u ≤ begin_of t) front
ends_of_front [] t ts a = tt
ends_of_front (x ∷ front) t ts a = (first front a (ends_of_front front t ts a.1), ends_of_front front t ts a.1) where
  first : (front : List ToldSlice) → Ascend begin_of (x ∷ (front ++ t ∷ ts)) → Each (λ (u : ToldSlice). begin_of u ≤ begin_of t) front → begin_of x ≤ begin_of t
  first [] a h = a.0
  first (y ∷ front) a h = let le = a.0 in let more = h.0 in omega (arith, le, more)

each_join : (P : ToldSlice → Type 0) (front later : List ToldSlice) → Each P front → Each P later → Each P (front ++ later)
each_join P [] later f l = l
each_join P (x ∷ front) later f l = (f.0, each_join P front later f.1 l)

each_rest : (P : ToldSlice → Type 0) (front later : List ToldSlice) → Each P (front ++ later) → Each P later
each_rest P [] later h = h
each_rest P (x ∷ front) later h = each_rest P front later h.1

pub ascend_rest : (front later : List ToldSlice) → Ascend begin_of (front ++ later) → Ascend begin_of later
ascend_rest [] later a = a
ascend_rest (x ∷ front) later a = ascend_rest front later a.1

-- of the slices of a thread in order, one of which is this
pub past_there : (front : List ToldSlice) (t : ToldSlice) (ts : List ToldSlice) → Ascend begin_of (front ++ t ∷ ts) → own_past (t ∷ ts) ≡ least (after (begin_of t) (front ++ t ∷ ts))
past_there front t ts a =
    let b = begin_of t in
    let tail = ascend_rest front (t ∷ ts) a in
    let low = ends_of_front front t ts a in
    one_most (own_past (t ∷ ts)) (least (after b (front ++ t ∷ ts)))
    (λ m h.
    least_most b (front ++ t ∷ ts) m
    (each_join (From b m) front (t ∷ ts) (each_map (λ (u : ToldSlice). begin_of u ≤ b) (From b m) front (λ u le lt. absurd (omega (arith, le, lt))) low) ((λ lt. absurd (omega (arith, lt))), most_own t ts tail m h)))
    (λ m h. own_most t ts tail m (each_rest (From b m) front (t ∷ ts) (most_least b (front ++ t ∷ ts) m h)).1)

-- by those of the thread in another order
pub past_sorted : (b : ℕ) (ts : List ToldSlice) → least (after b (by_time begin_of ts)) ≡ least (after b ts)
past_sorted b ts =
    one_most (least (after b (by_time begin_of ts))) (least (after b ts))
    (λ m h. least_most b ts m (each_of_time begin_of (From b m) ts (most_least b (by_time begin_of ts) m h)))
    (λ m h. least_most b (by_time begin_of ts) m (each_by_time begin_of (From b m) ts (most_least b ts m h)))

-- of slices that stand thread by thread
pub past_own : (n : ℕ) (t : ToldSlice) (ts : List ToldSlice) → thread_of t ≡ n → Ascend thread_of (t ∷ ts) → Ascend begin_of (filter (λ (u : ToldSlice). thread_of u == n) ts) → past_of (t ∷ ts) ≡ own_past (t ∷ filter (λ (u : ToldSlice). thread_of u == n) ts)
past_own n t [] is a o = refl
past_own n t (u ∷ us) is a o = elim (eqb_tells (thread_of u) (thread_of t)) [
  | inl x ↦
      let e : (thread_of u == n) ≡ true = ap (λ (k : ℕ). thread_of u == k) (sym is) ∙ x.0 in
      let own : Ascend begin_of (u ∷ filter (λ (v : ToldSlice). thread_of v == n) us) = subst (λ (c : Bool). Ascend begin_of (cond c (u ∷ filter (λ (v : ToldSlice). thread_of v == n) us) (filter (λ (v : ToldSlice). thread_of v == n) us))) e o in
      let more = past_own n u us (x.1 ∙ is) a.1 own.1 in
      ap (λ (c : Bool). cond c (cond (nat_lt (begin_of t) (begin_of u)) (Some (begin_of u)) (past_of (u ∷ us))) None) x.0
      ∙ ap (λ (p : Option ℕ). cond (nat_lt (begin_of t) (begin_of u)) (Some (begin_of u)) p) more
      ∙ sym (ap (λ (c : Bool). own_past (t ∷ cond c (u ∷ filter (λ (v : ToldSlice). thread_of v == n) us) (filter (λ (v : ToldSlice). thread_of v == n) us))) e)
  | inr x ↦
      let lt : thread_of t < thread_of u = lesser a.0 x.1 in
      let none : filter (λ (v : ToldSlice). thread_of v == n) (u ∷ us) ≡ [] = subst (λ (k : ℕ). filter (λ (v : ToldSlice). thread_of v == k) (u ∷ us) ≡ []) is (none_like thread_of t u us lt a.1) in
      ap (λ (c : Bool). cond c (cond (nat_lt (begin_of t) (begin_of u)) (Some (begin_of u)) (past_of (u ∷ us))) None) x.0 ∙ sym (ap (λ (xs : List ToldSlice). own_past (t ∷ xs)) none)
] where
  lesser : thread_of t ≤ thread_of u → (thread_of u ≡ thread_of t → ⊥) → thread_of t < thread_of u
  lesser le ne = elim (leb_tells (thread_of u) (thread_of t)) [
    | inl y ↦ absurd (ne (let ge = y.1 in omega (arith, le, ge)))
    | inr y ↦ y.1
  ]
