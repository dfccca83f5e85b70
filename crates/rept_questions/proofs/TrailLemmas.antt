-- The steps of a trail, one more at a time.
use Rattle.std.proofs.Common.{◌≡◌, ℕ, zero, suc, ◌+◌, ◌<◌, ◌≤◌, ◌⊎◌, inl, inr, List, [], ◌∷◌, ◌++◌, length, get_or, Bool, true, false, cond, nat_lt, Option, None, Some, refl, sym, ap, subst, ◌∙◌, arith, append_assoc}
use Rattle.std.proofs.lemmas.List.{append-nil}
use Rattle.std.proofs.lemmas.List.Elements.{All-append, All-contains, All-contains_itself, All-get_or, All-head, All-push, All-tail, All-weaker, Contains-append_left, Contains-append_right, Contains-push}
use Rattle.std.proofs.lemmas.List.Concat.{flat_map-append}
use Rattle.std.proofs.lemmas.List.Quantifiers.{all_pairs_push}
use borrow.Author.Tests.{ltb-true, ltb-false}
use Rattle.std.specs.List.{All, AllPairs, Contains, find, flat_map, fold}
use Rattle.std.specs.Prelude.{is_some, ◌==◌, ◌&&◌, slice_get, if◌then◌else◌}
use Rattle.std.specs.Option.{option_to_list}
use Rattle.rept_isa.specs.declared.row.StepRow.{StepRow}
use Rattle.rept_report.specs.declared.writer.Writer.{Writer}
use Rattle.rept_report.specs.declared.writer.Writer.TheVariants as writer
use Rattle.rept_findings.specs.Shown.{Shown, moment_at}
use Rattle.rept_findings.specs.declared.place.ThreadPoint.{ThreadPoint}
use Rattle.rept_questions.specs.Trail.{IsGreatest, IsTraced, IsTrail, Lead, byte_source, byte_sources, bytes_read, falling, greater, greater_of, here, own_step, register_source, register_sources, registers_read, row_sources, sources_of, sure_step, writes_register}

-- what a row reads from is among what all rows read from
among : (f : ℕ → List ℕ) (rows : List ℕ) (i j k : ℕ) → i < length rows → get_or rows i j ≡ j → Contains (f j) k → Contains (flat_map f rows) k
among f [] i j k h is at = absurd (omega (arith, h))
among f (x ∷ xs) zero j k h is at = Contains-append_left (f x) (flat_map f xs) k (subst (λ y. Contains (f y) k) (sym is) at)
among f (x ∷ xs) (suc i) j k h is at = Contains-append_right (f x) (flat_map f xs) k (among f xs i j k (omega (arith, h)) is at)

place : (a b : ℕ) → (a < b) ⊎ (b ≤ a)
place a b = by_test (nat_lt a b) refl
  where
    by_test : (t : Bool) → nat_lt a b ≡ t → (a < b) ⊎ (b ≤ a)
    by_test true e = inl (ltb-true a b e)
    by_test false e = inr (ltb-false a b e)

first_of : (x : ℕ) (xs : List ℕ) → Contains (x ∷ xs) x
first_of x xs = Contains-append_left (x ∷ []) xs x (Contains-push [] x)

none_of : (P : ℕ → Type 0) → All P []
none_of P = λ i d h. absurd (omega (arith, h))

-- the numbers below one, from the greatest on
pub falling_one : (test : ℕ → Bool) (n k : ℕ) → n ≡ suc k → find test (falling n) ≡ cond (test k) (Some k) (find test (falling k))
falling_one test n k is = ap (λ m. find test (falling m)) is

-- one number more
greater_kept : (limit : ℕ) (ys : List ℕ) (o : Option ℕ) (x : ℕ) → limit ≤ x → IsGreatest limit ys o → IsGreatest limit (ys ++ x ∷ []) o
greater_kept limit ys None x h is = All-push (λ k. limit ≤ k) ys x is h
greater_kept limit ys (Some f) x h is = (is.0, (Contains-append_left ys (x ∷ []) f is.1.0, All-push (λ k. k < limit → k ≤ f) ys x is.1.1 (λ near. absurd (omega (arith, h, near)))))

greater_taken : (limit : ℕ) (ys : List ℕ) (o : Option ℕ) (x : ℕ) → x < limit → IsGreatest limit ys o → IsGreatest limit (ys ++ x ∷ []) (greater_of o x)
greater_taken limit ys None x h is =
    (h, (Contains-push ys x, All-push (λ k. k < limit → k ≤ x) ys x (All-weaker (λ k. limit ≤ k) (λ k. k < limit → k ≤ x) (λ k far near. absurd (omega (arith, far, near))) ys is) (λ near. omega arith)))
greater_taken limit ys (Some f) x h is = by_test (nat_lt f x) refl
  where
    by_test : (b : Bool) → nat_lt f x ≡ b → IsGreatest limit (ys ++ x ∷ []) (if b then Some x else Some f)
    by_test true e =
        let over = ltb-true f x e in
        (h, (Contains-push ys x, All-push (λ k. k < limit → k ≤ x) ys x (All-weaker (λ k. k < limit → k ≤ f) (λ k. k < limit → k ≤ x) (λ k upper near. let few = upper near in omega (arith, few, over)) ys is.1.1) (λ near. omega arith)))
    by_test false e =
        let under = ltb-false f x e in
        (is.0, (Contains-append_left ys (x ∷ []) f is.1.0, All-push (λ k. k < limit → k ≤ f) ys x is.1.1 (λ near. under)))

greater_more : (limit : ℕ) (ys : List ℕ) (o : Option ℕ) (x : ℕ) → IsGreatest limit ys o → IsGreatest limit (ys ++ x ∷ []) (greater limit o x)
greater_more limit ys o x is = by_test (nat_lt x limit) refl
  where
    by_test : (b : Bool) → nat_lt x limit ≡ b → IsGreatest limit (ys ++ x ∷ []) (if b then greater_of o x else o)
    by_test true e = greater_taken limit ys o x (ltb-true x limit e) is
    by_test false e = greater_kept limit ys o x (ltb-false x limit e) is

greatest_on : (limit : ℕ) (ys xs : List ℕ) (o : Option ℕ) → IsGreatest limit ys o → IsGreatest limit (ys ++ xs) (fold (greater limit) o xs)
greatest_on limit ys [] o is = subst (λ (zs : List ℕ). IsGreatest limit zs o) (sym (append-nil ys)) is
greatest_on limit ys (x ∷ xs) o is =
    subst (λ (zs : List ℕ). IsGreatest limit zs (fold (greater limit) (greater limit o x) xs)) (append_assoc ys (x ∷ []) xs) (greatest_on limit (ys ++ x ∷ []) xs (greater limit o x) (greater_more limit ys o x is))

pub greatest : (limit : ℕ) (xs : List ℕ) → IsGreatest limit xs (fold (greater limit) None xs)
greatest limit xs = greatest_on limit [] xs None (none_of (λ k. limit ≤ k))

-- what is found is below
found_below : (test : ℕ → Bool) (p k : ℕ) → find test (falling p) ≡ Some k → k < p
found_below test zero k is = let never : ⊥ = cc in absurd never
found_below test (suc p) k is = by_test (test p) is (found_below test p k)
  where
    by_test : (b : Bool) → cond b (Some p) (find test (falling p)) ≡ Some k → (find test (falling p) ≡ Some k → k < p) → k < suc p
    by_test true is before = let same : p ≡ k = cc in omega (arith, same)
    by_test false is before = let lower = before is in omega (arith, lower)

-- all that is found of some elements
all_found : (P : ℕ → Type 0) (f : ℕ → Option ℕ) (xs : List ℕ) → ((x k : ℕ) → f x ≡ Some k → P k) → All P (flat_map (λ x. option_to_list (f x)) xs)
all_found P f [] each = none_of P
all_found P f (x ∷ xs) each = All-append P (option_to_list (f x)) (flat_map (λ x. option_to_list (f x)) xs) (by_option (f x) (each x)) (all_found P f xs each)
  where
    by_option : (o : Option ℕ) → ((k : ℕ) → o ≡ Some k → P k) → All P (option_to_list o)
    by_option None h = none_of P
    by_option (Some k) h = All-push P [] k (none_of P) (h k refl)

own_below : (c step : ThreadPoint) (k : ℕ) → own_step c step ≡ Some k → k < c.point
own_below c step k is = by_test ((step.thread == c.thread) && nat_lt step.point c.point) refl is
  where
    second : (a b : Bool) → a && b ≡ true → b ≡ true
    second true true e = refl
    second true false e = let never : ⊥ = cc in absurd never
    second false b e = let never : ⊥ = cc in absurd never

    by_test : (b : Bool) → (step.thread == c.thread) && nat_lt step.point c.point ≡ b → (if b then Some step.point else None) ≡ Some k → k < c.point
    by_test true e is = let same : step.point ≡ k = cc in let lower = ltb-true step.point c.point (second (step.thread == c.thread) (nat_lt step.point c.point) e) in omega (arith, same, lower)
    by_test false e is = let never : ⊥ = cc in absurd never

sure_below : (s : Shown) (c : ThreadPoint) (w : Writer) (k : ℕ) → sure_step s c w ≡ Some k → k < c.point
sure_below s c (writer.Writes row) k is = own_below c (s.point row) k is
sure_below s c (writer.MayWrite row) k is = let never : ⊥ = cc in absurd never
sure_below s c writer.Several k is = let never : ⊥ = cc in absurd never
sure_below s c writer.None k is = let never : ⊥ = cc in absurd never

all_lower : (s : Shown) (c : ThreadPoint) (row : Option StepRow) → All (λ k. k < c.point) (row_sources s c row)
all_lower s c None = none_of (λ k. k < c.point)
all_lower s c (Some row) =
    All-append (λ k. k < c.point) (register_sources (s.rows c.thread) c.point (registers_read row.instr)) (byte_sources s c (bytes_read s c row.instr))
    (all_found (λ k. k < c.point) (register_source (s.rows c.thread) c.point) (registers_read row.instr) (λ r k is. found_below (λ j. writes_register r (slice_get (s.rows c.thread) j)) c.point k is))
    (all_found (λ k. k < c.point) (byte_source s c) (bytes_read s c row.instr) (λ a k is. sure_below s c (s.writer (moment_at s c) a) k is))

-- the sources of a step are before it
lower : (s : Shown) (c : ThreadPoint) (k : ℕ) → Contains (sources_of s c) k → k < c.point
lower s c k at = All-contains (λ k. k < c.point) (sources_of s c) k (all_lower s c (slice_get (s.rows c.thread) c.point)) at

module _ (s : Shown) (thread first : ℕ) where
  abbrev S : ℕ → List ℕ
  S j = sources_of s (here s thread first j)

  abbrev Traced : ℕ → Type 0
  Traced = IsTraced s thread first

  -- a trail has its first step, and the sources of each of its steps; and each set that has them has
  -- the trail
  pub traced_first : Traced first
  traced_first = ([], refl)

  pub traced_on : (j k : ℕ) → Traced j → Contains (S j) k → Traced k
  traced_on j k traced source = (j ∷ traced.0, (source, traced.1))

  pub traced_least : (In : ℕ → Type 0) → In first → ((j k : ℕ) → In j → Contains (S j) k → In k) → (k : ℕ) → Traced k → In k
  traced_least In begins goes_on k traced = by_lead traced.0 k traced.1
    where
      by_lead : (js : List ℕ) (k : ℕ) → Lead s thread first js k → In k
      by_lead [] k lead = subst In (sym lead) begins
      by_lead (j ∷ js) k lead = goes_on j k (by_lead js j lead.1) lead.0

  abbrev seen_of : List ℕ → List ℕ
  seen_of rows = first ∷ flat_map S rows

  -- what is known before another row is looked for: `below` is the last row that was found
  pub record AreFound (rows seen : List ℕ) (below : ℕ) : Type 0 where
    pub seen_is : seen ≡ seen_of rows
    pub traced : All Traced rows
    pub above : All (λ j. below ≤ j) rows
    pub falls : AllPairs (λ x y. y < x) rows
    pub whole : (k : ℕ) → Traced k → below ≤ k → Contains rows k
    pub within : below ≤ first + 1

  -- a source of a row that was found was seen
  seen_source : (rows : List ℕ) (j k : ℕ) → Contains rows j → Contains (S j) k → Contains (seen_of rows) k
  seen_source rows j k at source = Contains-append_right (first ∷ []) (flat_map S rows) k (among S rows at.0 j k at.1 at.2 source)

  not_after : (js : List ℕ) (k : ℕ) → Lead s thread first js k → k ≤ first
  not_after [] k lead = omega (arith, lead)
  not_after (j ∷ js) k lead = let below = lower s (here s thread first j) k lead.0 in let before = not_after js j lead.1 in omega (arith, below, before)

  -- before the first row
  pub begun : AreFound [] (first ∷ []) (first + 1)
  begun = record {
    seen_is = refl;
    traced = none_of Traced;
    above = none_of (λ j. first + 1 ≤ j);
    falls = λ i j d h k. absurd (omega (arith, k));
    whole = λ k traced h. let last = not_after traced.0 k traced.1 in absurd (omega (arith, last, h));
    within = omega arith;
  }

  module _ (rows seen : List ℕ) (below : ℕ) (found : AreFound rows seen below) where
    -- each traced step that wasn't found is one that was seen, or comes before one
    not_over : (top : ℕ) → ((k : ℕ) → Contains (seen_of rows) k → k < below → k ≤ top) → (js : List ℕ) (k : ℕ) → Lead s thread first js k → k < below → k ≤ top
    not_over top most [] k lead h = most k (subst (λ x. Contains (seen_of rows) x) (sym lead) (first_of first (flat_map S rows))) h
    not_over top most (j ∷ js) k lead h = by_place (not_over top most js) (place j below)
      where
        by_place : ((k : ℕ) → Lead s thread first js k → k < below → k ≤ top) → (j < below) ⊎ (below ≤ j) → k ≤ top
        by_place before (inl near) = let upper = before j lead.1 near in let after = lower s (here s thread first j) k lead.0 in omega (arith, upper, after)
        by_place before (inr far) = most k (seen_source rows j k (found.whole j (js, lead.1) far) lead.0) h

    -- where none was seen before the last row, all were found
    none_left : ((k : ℕ) → Contains (seen_of rows) k → below ≤ k) → (js : List ℕ) (k : ℕ) → Lead s thread first js k → below ≤ k
    none_left none [] k lead = none k (subst (λ x. Contains (seen_of rows) x) (sym lead) (first_of first (flat_map S rows)))
    none_left none (j ∷ js) k lead = none k (seen_source rows j k (found.whole j (js, lead.1) (none_left none js j lead.1)) lead.0)

    all_traced : All Traced (seen_of rows)
    all_traced = All-append Traced (first ∷ []) (flat_map S rows) (All-push Traced [] first (none_of Traced) ([], refl)) (by_rows rows found.traced)
      where
        by_rows : (js : List ℕ) → All Traced js → All Traced (flat_map S js)
        by_rows [] all = none_of Traced
        by_rows (j ∷ js) all =
            let lead = All-head Traced j js all in
            All-append Traced (S j) (flat_map S js) (All-weaker (Contains (S j)) Traced (λ k at. (j ∷ lead.0, (at, lead.1))) (S j) (All-contains_itself (S j))) (by_rows js (All-tail Traced j js all))

    -- one more row: the newest one that was seen before the last one
    pub one_more : (j : ℕ) (rows' seen' : List ℕ) → Contains seen j → j < below → All (λ k. k < below → k ≤ j) seen → rows' ≡ rows ++ j ∷ [] → seen' ≡ seen ++ S j → AreFound rows' seen' j
    one_more j rows' seen' at h most grown more = subst (λ (xs : List ℕ). AreFound xs seen' j) (sym grown) (record {
      seen_is = more ∙ ap (λ (xs : List ℕ). xs ++ S j) found.seen_is ∙ ap (λ (xs : List ℕ). first ∷ xs) (ends_so ∙ sym (flat_map-append S rows (j ∷ [])));
      traced = All-push Traced rows j found.traced (All-contains Traced (seen_of rows) j all_traced here_seen);
      above = All-push (λ k. j ≤ k) rows j (All-weaker (λ k. below ≤ k) (λ k. j ≤ k) (λ k upper. omega (arith, upper, h)) rows found.above) (omega arith);
      falls = all_pairs_push (λ x y. y < x) rows j found.falls (λ k d inside. let upper = All-get_or (λ k. below ≤ k) rows k d inside found.above in omega (arith, upper, h));
      whole = λ k traced after. by_place k traced after (place k below);
      within = let few = found.within in omega (arith, few, h);
    })
      where
        here_seen : Contains (seen_of rows) j
        here_seen = subst (λ (xs : List ℕ). Contains xs j) found.seen_is at

        ends_so : flat_map S rows ++ S j ≡ flat_map S rows ++ flat_map S (j ∷ [])
        ends_so = ap (λ (xs : List ℕ). flat_map S rows ++ xs) (sym (append-nil (S j)))

        most_seen : (k : ℕ) → Contains (seen_of rows) k → k < below → k ≤ j
        most_seen k inside before = All-contains (λ k. k < below → k ≤ j) (seen_of rows) k (subst (λ (xs : List ℕ). All (λ k. k < below → k ≤ j) xs) found.seen_is most) inside before

        by_place : (k : ℕ) → Traced k → j ≤ k → (k < below) ⊎ (below ≤ k) → Contains (rows ++ j ∷ []) k
        by_place k traced after (inl near) =
            let upper = not_over j most_seen traced.0 k traced.1 near in
            let same : j ≡ k = omega (arith, upper, after) in
            subst (λ x. Contains (rows ++ j ∷ []) x) same (Contains-push rows j)
        by_place k traced after (inr far) = Contains-append_left rows (j ∷ []) k (found.whole k traced far)

    -- all rows
    pub ended : All (λ k. below ≤ k) seen → IsTrail s thread first rows false
    ended none = record {
      right = λ k at. All-contains Traced rows k found.traced at;
      whole = λ k traced. inl (found.whole k traced (none_left none_seen traced.0 k traced.1));
      falls = found.falls;
      left = λ bad. let never : ⊥ = cc in absurd never;
    }
      where
        none_seen : (k : ℕ) → Contains (seen_of rows) k → below ≤ k
        none_seen k inside = All-contains (λ k. below ≤ k) (seen_of rows) k (subst (λ (xs : List ℕ). All (λ k. below ≤ k) xs) found.seen_is none) inside

    -- the newest 64 of more
    pub cut : (j : ℕ) → length rows ≡ 64 → Contains seen j → j < below → IsTrail s thread first rows true
    cut j count at h = record {
      right = λ k inside. All-contains Traced rows k found.traced inside;
      whole = λ k traced. by_place k traced (place k below);
      falls = found.falls;
      left = λ _. (count, (j, (All-contains Traced (seen_of rows) j all_traced (subst (λ (xs : List ℕ). Contains xs j) found.seen_is at), All-weaker (λ k. below ≤ k) (λ k. j < k) (λ k upper. omega (arith, upper, h)) rows found.above)));
    }
      where
        by_place : (k : ℕ) → Traced k → (k < below) ⊎ (below ≤ k) → Contains rows k ⊎ ((true ≡ true) × All (λ x. k < x) rows)
        by_place k traced (inl near) = inr (refl, All-weaker (λ x. below ≤ x) (λ x. k < x) (λ x upper. omega (arith, upper, near)) rows found.above)
        by_place k traced (inr far) = inl (found.whole k traced far)

    -- the rows after the last look
    pub over : (o : Option ℕ) (more : Bool) → IsGreatest below seen o → more ≡ is_some o → length rows ≡ 64 → IsTrail s thread first rows more
    over None more is said count = subst (λ (b : Bool). IsTrail s thread first rows b) (sym said) (ended is)
    over (Some j) more is said count = subst (λ (b : Bool). IsTrail s thread first rows b) (sym said) (cut j count is.1.0 is.0)
