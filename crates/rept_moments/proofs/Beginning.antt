-- The list of the slices' first moments: what it holds, its order, and the least ends from each
-- place on.
use Rattle.std.proofs.Common.{◌≡◌, ℕ, zero, suc, ◌+◌, ◌-◌, ◌<◌, ◌≤◌, ◌⊎◌, nat_lt, cond, Bool, true, false, List, [], ◌∷◌, ◌++◌, length, take, drop, set, get_or, Option, Some, None, slice_get, inl, inr, refl, sym, ap, ◌∙◌, subst, arith, append-nil, append_assoc}
use Rattle.std.specs.List.{All, Contains}
use Rattle.std.specs.List.Sorted.{IsPermutation, IsNonDecreasingBy}
use Rattle.std.specs.Option.{is_some, IsSome}
use Rattle.std.proofs.lemmas.Bool.{cases_lt, cases_order, cases_Bool, lt-ltb, le-ltb}
use Rattle.std.proofs.lemmas.List.{length-take-le, get_or-take, get_or_append_left, take_more, take_all, drop_more, drop_all, set_at}
use Rattle.std.proofs.lemmas.List.Elements.{All-append, Contains-append_left, Contains-append_right}
use Rattle.std.proofs.lemmas.List.Sorted.{All-permutation, Contains-permutation}
use Rattle.std.proofs.lemmas.Option.{slice_get_within, slice_get-get_or, get_or_from_slice_get}
use Rattle.rept_steps.specs.Course.{Course}
use Rattle.rept_order.specs.Legs.{leg_row}
use Rattle.rept_moments.specs.declared.begins.SliceStart.{SliceStart}
use Rattle.rept_moments.specs.declared.side.PointSide.{PointSide}
use Rattle.rept_moments.specs.Ordering.{side}
use Rattle.rept_moments.specs.Points.{points_in}
use Rattle.rept_moments.specs.Edges.{begin_at, end_at}
use Rattle.rept_moments.specs.Begins.{is_first_at, entry, first_of, firsts_at, firsts_to, sooner_end, least_in, lowered, IsBy, IsLeastEnd, AreBegins}
use Rattle.rept_moments.proofs.Places.{leg_below}

none_some : {A : Type 0} {x : A} → None ≡ Some x → ⊥
none_some e = cc

some_same : {A : Type 0} {x y : A} → Some x ≡ Some y → x ≡ y
some_same e = cc

-- those of one more point
pub firsts_more : (C : Course) (g : ℕ) (old new : List SliceStart) → old ≡ firsts_to C g → new ≡ old ++ firsts_at C g → new ≡ firsts_to C (g + 1)
firsts_more C g old new before e =
    let one : suc g ≡ g + 1 = omega arith in
    e ∙ ap (λ (xs : List SliceStart). xs ++ firsts_at C g) before ∙ ap (firsts_to C) one

-- of two times the sooner one
pub by_left : (o : Option ℕ) (p : Option ℕ) (e : ℕ) → IsBy o e → IsBy (sooner_end o p) e
by_left None p e h = absurd h
by_left (Some k) None e h = h
by_left (Some k) (Some n) e h =
    elim (cases_lt n k) [
      | inl less ↦ rw (lt-ltb n k less) (omega arith)
      | inr past ↦ rw (le-ltb n k past) h
    ]

pub by_right : (o : Option ℕ) (e : ℕ) → IsBy (sooner_end o (Some e)) e
by_right None e = omega arith
by_right (Some k) e =
    elim (cases_lt e k) [
      | inl less ↦ rw (lt-ltb e k less) (omega arith)
      | inr past ↦ rw (le-ltb e k past) past
    ]

pub one_of : (o p : Option ℕ) (k : ℕ) → sooner_end o p ≡ Some k → (o ≡ Some k) ⊎ (p ≡ Some k)
one_of None p k e = inr e
one_of (Some n) None k e = inl e
one_of (Some n) (Some i) k e =
    elim (cases_Bool (nat_lt i n)) [
      | inl less ↦ inr (sym (ap (λ (b : Bool). cond b (Some i) (Some n)) less) ∙ e)
      | inr past ↦ inl (sym (ap (λ (b : Bool). cond b (Some i) (Some n)) past) ∙ e)
    ]

-- the least end of a list is none of its others' greater, and one of them
least_low : (list : List SliceStart) (i : ℕ) (b : SliceStart) (e : ℕ) → slice_get list i ≡ Some b → b.least ≡ Some e → IsBy (least_in list) e
least_low [] i b e there is = absurd (none_some there)
least_low (x ∷ list) zero b e there is = subst (λ (o : Option ℕ). IsBy (sooner_end (least_in list) o) e) (sym (ap (λ (y : SliceStart). y.least) (some_same there) ∙ is)) (by_right (least_in list) e)
least_low (x ∷ list) (suc i) b e there is = by_left (least_in list) x.least e (least_low list i b e there is)

least_one : (list : List SliceStart) (e : ℕ) → least_in list ≡ Some e → (i : ℕ) × (b : SliceStart) × (slice_get list i ≡ Some b) × (b.least ≡ Some e)
least_one [] e is = absurd (none_some is)
least_one (x ∷ list) e is =
    elim (one_of (least_in list) x.least e is) [
      | inl rest ↦ let found = least_one list e rest in (suc found.0, found.1, found.2, found.3)
      | inr own ↦ (0, x, refl, own)
    ]

-- each of a lowered list is one of the list, with the least end from it on
pub record IsLowered (list : List SliceStart) (k : ℕ) (b d : SliceStart) : Type 0 where
  pub begin : b.begin ≡ d.begin
  pub side : b.side ≡ d.side
  pub least : b.least ≡ least_in (drop k list)

lowered_from : (list : List SliceStart) (k : ℕ) (b : SliceStart) → slice_get (lowered list) k ≡ Some b → (d : SliceStart) × (slice_get list k ≡ Some d) × IsLowered list k b d
lowered_from [] k b there = absurd (none_some there)
lowered_from (x ∷ list) zero b there =
    let same : record { begin = x.begin; side = x.side; least = least_in (x ∷ list) } ≡ b = some_same there in
    (x, refl, record { begin = sym (ap (λ (y : SliceStart). y.begin) same); side = sym (ap (λ (y : SliceStart). y.side) same); least = sym (ap (λ (y : SliceStart). y.least) same) })
lowered_from (x ∷ list) (suc k) b there = let rest = lowered_from list k b there in let its = rest.2 in (rest.0, rest.1, record { begin = its.begin; side = its.side; least = its.least })

lowered_to : (list : List SliceStart) (k : ℕ) (d : SliceStart) → slice_get list k ≡ Some d → (b : SliceStart) × (slice_get (lowered list) k ≡ Some b) × (b.side ≡ d.side)
lowered_to [] k d there = absurd (none_some there)
lowered_to (x ∷ list) zero d there = (record { begin = x.begin; side = x.side; least = least_in (x ∷ list) }, refl, ap (λ (y : SliceStart). y.side) (some_same there))
lowered_to (x ∷ list) (suc k) d there = lowered_to list k d there

lowered_length : (list : List SliceStart) → length (lowered list) ≡ length list
lowered_length [] = refl
lowered_length (x ∷ list) = ap (λ (n : ℕ). suc n) (lowered_length list)

lowered_begin : (list : List SliceStart) (k : ℕ) (d : SliceStart) → (get_or (lowered list) k d).begin ≡ (get_or list k d).begin
lowered_begin [] k d = refl
lowered_begin (x ∷ list) zero d = refl
lowered_begin (x ∷ list) (suc k) d = lowered_begin list k d

-- the order stays
pub lowered_order : (list new : List SliceStart) → new ≡ lowered list → IsNonDecreasingBy (λ (b : SliceStart). b.begin) list → IsNonDecreasingBy (λ (b : SliceStart). b.begin) new
lowered_order list new e up = subst (λ (xs : List SliceStart). IsNonDecreasingBy (λ (b : SliceStart). b.begin) xs) (sym e) (λ i j d low less.
    let long = lowered_length list in
    let one = lowered_begin list i d in
    let other = lowered_begin list j d in
    let order = up i j d low (omega arith) in
    omega arith)

get_drop : (list : List SliceStart) (k i : ℕ) → slice_get (drop k list) i ≡ slice_get list (k + i)
get_drop list zero i = let same : i ≡ 0 + i = omega arith in ap (slice_get list) same
get_drop [] (suc k) i = refl
get_drop (x ∷ list) (suc k) i = let next : suc (k + i) ≡ suc k + i = omega arith in get_drop list k i ∙ ap (slice_get (x ∷ list)) next

module _ (C : Course) where
  pub record IsEntry (b : SliceStart) : Type 0 where
    pub row : IsSome (leg_row C b.side.point)
    pub begin : b.begin ≡ begin_at C b.side
    pub least : b.least ≡ end_at C b.side

  one_entry : (c : Bool) (s : PointSide) → IsSome (leg_row C s.point) → All IsEntry (cond c (entry C s ∷ []) [])
  one_entry true s row zero d less = record { row = row; begin = refl; least = refl }
  one_entry true s row (suc k) d less = absurd (omega arith)
  one_entry false s row k d less = absurd (omega arith)

  row_entries : (c : Bool) (g : ℕ) → is_some (leg_row C g) ≡ c → All IsEntry (cond c (first_of C (side g false) ++ first_of C (side g true)) [])
  row_entries true g e = All-append IsEntry (first_of C (side g false)) (first_of C (side g true)) (one_entry (is_first_at C (side g false)) (side g false) e) (one_entry (is_first_at C (side g true)) (side g true) e)
  row_entries false g e = λ k d less. absurd (omega arith)

  entries : (n : ℕ) → All IsEntry (firsts_to C n)
  entries zero = λ k d less. absurd (omega arith)
  entries (suc n) = All-append IsEntry (firsts_to C n) (firsts_at C n) (entries n) (row_entries (is_some (leg_row C n)) n refl)

  one_held : (c : Bool) (s : PointSide) → c ≡ true → Contains (cond c (entry C s ∷ []) []) (entry C s)
  one_held true s e = (0, omega arith, refl)
  one_held false s e = absurd (Rattle.std.proofs.lemmas.Bool.false≢true e)

  side_held : (g : ℕ) (b : Bool) → is_first_at C (side g b) ≡ true → Contains (first_of C (side g false) ++ first_of C (side g true)) (entry C (side g b))
  side_held g false first = Contains-append_left (first_of C (side g false)) (first_of C (side g true)) (entry C (side g false)) (one_held (is_first_at C (side g false)) (side g false) first)
  side_held g true first = Contains-append_right (first_of C (side g false)) (first_of C (side g true)) (entry C (side g true)) (one_held (is_first_at C (side g true)) (side g true) first)

  row_held : (g : ℕ) (b : Bool) → IsSome (leg_row C g) → is_first_at C (side g b) ≡ true → Contains (firsts_at C g) (entry C (side g b))
  row_held g b row first = subst (λ (c : Bool). Contains (cond c (first_of C (side g false) ++ first_of C (side g true)) []) (entry C (side g b))) (sym row) (side_held g b first)

  held : (n g : ℕ) (b : Bool) → g < n → IsSome (leg_row C g) → is_first_at C (side g b) ≡ true → Contains (firsts_to C n) (entry C (side g b))
  held zero g b less row first = absurd (omega arith)
  held (suc n) g b less row first =
      elim (cases_order g n) [
        | inl same ↦ Contains-append_right (firsts_to C n) (firsts_at C n) (entry C (side g b)) (subst (λ (k : ℕ). Contains (firsts_at C k) (entry C (side g b))) same (row_held g b row first))
        | inr (inl below) ↦ Contains-append_left (firsts_to C n) (firsts_at C n) (entry C (side g b)) (held n g b below row first)
        | inr (inr over) ↦ absurd (omega arith)
      ]

  module _ (list : List SliceStart) (are : All IsEntry list) where
    entry_at : (k : ℕ) (d : SliceStart) → slice_get list k ≡ Some d → IsEntry d
    entry_at k d there = subst IsEntry (get_or_from_slice_get list k d d there) (are k d (slice_get_within list k d there))

    end_same : (k : ℕ) (b d : SliceStart) → slice_get list k ≡ Some d → b.side ≡ d.side → end_at C b.side ≡ d.least
    end_same k b d there same = ap (end_at C) same ∙ sym (entry_at k d there).least

    least_is : (k : ℕ) (b : SliceStart) → b.least ≡ least_in (drop k list) → IsLeastEnd C (lowered list) k b.least
    least_is k b e = record {
      low = λ i c t order there end.
          let found = lowered_from list i c there in
          let its = found.2 in
          let here : slice_get (drop k list) (i - k) ≡ Some found.0 = get_drop list k (i - k) ∙ ap (slice_get list) (over i order) ∙ found.1 in
          subst (λ (o : Option ℕ). IsBy o t) (sym e) (least_low (drop k list) (i - k) found.0 t here (sym (end_same i c found.0 found.1 its.side) ∙ end));
      one = λ t is.
          let found = least_one (drop k list) t (sym e ∙ is) in
          let there : slice_get list (k + found.0) ≡ Some found.1 = sym (get_drop list k found.0) ∙ found.2 in
          let its = lowered_to list (k + found.0) found.1 there in
          (k + found.0, its.0, omega arith, its.1, end_same (k + found.0) its.0 found.1 there its.2 ∙ found.3);
    }
      where
        over : (i : ℕ) → k ≤ i → k + (i - k) ≡ i
        over i order = omega arith

    begins_from : ((s : PointSide) → IsSome (leg_row C s.point) → is_first_at C s ≡ true → Contains list (entry C s)) → AreBegins C (lowered list)
    begins_from has = record {
      row = λ k b there. let found = lowered_from list k b there in let its = found.2 in subst (λ (s : PointSide). IsSome (leg_row C s.point)) (sym its.side) (entry_at k found.0 found.1).row;
      begin = λ k b there. let found = lowered_from list k b there in let its = found.2 in its.begin ∙ (entry_at k found.0 found.1).begin ∙ ap (begin_at C) (sym its.side);
      least = λ k b there. let found = lowered_from list k b there in let its = found.2 in least_is k b its.least;
      all = λ s row first.
          let found = has s row first in
          let there : slice_get list found.0 ≡ Some (entry C s) = slice_get-get_or list found.0 (entry C s) found.1 ∙ ap (λ (b : SliceStart). Some b) found.2 in
          let its = lowered_to list found.0 (entry C s) there in
          (found.0, its.0, its.1, its.2);
    }

  -- put into order and lowered
  pub begins_are : (first sorted new : List SliceStart) → first ≡ firsts_to C (points_in C) → IsPermutation first sorted → new ≡ lowered sorted → AreBegins C new
  begins_are first sorted new e same low =
      let all : All IsEntry first = subst (λ (xs : List SliceStart). All IsEntry xs) (sym e) (entries (points_in C)) in
      subst (λ (xs : List SliceStart). AreBegins C xs) (sym low) (begins_from sorted (All-permutation IsEntry first sorted same all) (λ s row is.
      Contains-permutation first sorted (entry C s) same (subst (λ (xs : List SliceStart). Contains xs (entry C s)) (sym e) (held (points_in C) s.point s.is_after (let less = leg_below C s.point row in omega arith) row is))))

-- one step of lowering, from the end of the list
pub record IsLowering (old new : List SliceStart) (place : ℕ) (known : Option ℕ) : Type 0 where
  pub few : place ≤ length old
  pub items : new ≡ take place old ++ lowered (drop place old)
  pub least : known ≡ least_in (drop place old)

pub lowering_start : (old : List SliceStart) (n : ℕ) → n ≡ length old → IsLowering old old n None
lowering_start old n e = record {
  few = omega arith;
  items = sym (append-nil old) ∙ ap (λ (xs : List SliceStart). xs ++ []) (sym (take_all n old (omega arith))) ∙ ap (λ (xs : List SliceStart). take n old ++ lowered xs) (sym (drop_all n old (omega arith)));
  least = ap least_in (sym (drop_all n old (omega arith)));
}

pub lowering_step : (old items new : List SliceStart) (place : ℕ) (least next : Option ℕ) (b : SliceStart) → 0 < place → IsLowering old items place least → b ≡ get_or items (place - 1) b → next ≡ sooner_end least b.least → new ≡ set items (place - 1) (record { begin = b.begin; side = b.side; least = next }) → IsLowering old new (place - 1) next
lowering_step old items new place least next b some its read lower e =
    let few = its.few in
    let up : place - 1 + 1 ≡ place = omega arith in
    let long = length-take-le (place - 1) old (omega arith) in
    let front : take place old ≡ take (place - 1) old ++ b ∷ [] = ap (λ (k : ℕ). take k old) (sym up) ∙ take_more old (place - 1) b (omega arith) ∙ ap (λ (x : SliceStart). take (place - 1) old ++ x ∷ []) (sym here) in
    let rest : drop (place - 1) old ≡ b ∷ drop place old = drop_more old (place - 1) b (omega arith) ∙ ap (λ (x : SliceStart). x ∷ drop (place - 1 + 1) old) (sym here) ∙ ap (λ (k : ℕ). b ∷ drop k old) up in
    let below : next ≡ least_in (b ∷ drop place old) = lower ∙ ap (λ (o : Option ℕ). sooner_end o b.least) its.least in
    record {
      few = omega arith;
      items =
          e
          ∙ ap (λ (xs : List SliceStart). set xs (place - 1) (record { begin = b.begin; side = b.side; least = next })) (its.items ∙ ap (λ (xs : List SliceStart). xs ++ lowered (drop place old)) front ∙ append_assoc (take (place - 1) old) (b ∷ []) (lowered (drop place old)))
          ∙ set_at (take (place - 1) old) b (lowered (drop place old)) (record { begin = b.begin; side = b.side; least = next }) (place - 1) (omega arith)
          ∙ ap (λ (o : Option ℕ). take (place - 1) old ++ record { begin = b.begin; side = b.side; least = o } ∷ lowered (drop place old)) below
          ∙ ap (λ (xs : List SliceStart). take (place - 1) old ++ lowered xs) (sym rest);
      least = below ∙ ap least_in (sym rest);
    }
  where
    here : b ≡ get_or old (place - 1) b
    here =
        let few = its.few in
        let long = length-take-le place old (omega arith) in
        read
        ∙ ap (λ (xs : List SliceStart). get_or xs (place - 1) b) its.items
        ∙ get_or_append_left (take place old) (lowered (drop place old)) b (place - 1) (omega arith)
        ∙ get_or-take place old (place - 1) b (omega arith)

pub lowering_end : (old items : List SliceStart) (place : ℕ) (least : Option ℕ) → place ≤ 0 → IsLowering old items place least → items ≡ lowered old
lowering_end old items place least none its = let zero_is : place ≡ 0 = omega arith in its.items ∙ ap (λ (k : ℕ). take k old ++ lowered (drop k old)) zero_is
