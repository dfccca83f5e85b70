-- What is read of spans, and what an edit of them does.
use Rattle.std.proofs.Common.{◌⊎◌, ◌≡◌, ℕ, zero, suc, ◌+◌, ◌-◌, ◌<◌, ◌≤◌, ◌≢◌, List, [], ◌∷◌, length, if◌then◌else◌, ◌&&◌, ltb, leb, Some, None, refl, ◌∙◌, ap, subst, inl, inr, arith}
use Rattle.std.specs.List.{insert}
use Rattle.std.proofs.lemmas.Bool.Decides.{nat_tests}
use Rattle.std.proofs.lemmas.Bool.{cases_lt, cases_Bool}
use Rattle.std.proofs.lemmas.Option.{none-some}
use Rattle.std.proofs.lemmas.List.{length-set, get_or-set_same, get_or-set_other}
use Rattle.std.proofs.lemmas.List.Edits.{length-insert, get_or-insert_below, get_or-insert_at, get_or-insert_above, length-remove, get_or-remove_below, get_or-remove_above}
use Rattle.rept_versions.specs.declared.span.Span.{Span}
use Rattle.rept_versions.specs.Line.{nth, no_span, value_at, covers, IsRising, AreSpansJoined, IsJoinedBut, JoinedAt, Parts, LiesInSpan, Misses, raised, lowered, joined, filled}

-- the spans before place i end below k
abbrev pub EndBelow : List Span → ℕ → ℕ → Type 0
EndBelow ss i k = (j : ℕ) → j < i → (nth ss j).high < k

below_tail : (s : Span) (ss : List Span) (i k : ℕ) → EndBelow (s ∷ ss) (suc i) k → EndBelow ss i k
below_tail s ss i k below j lt = below (suc j) (omega arith)

-- no span has k
abbrev pub NoneCovers : List Span → ℕ → Type 0
NoneCovers ss k = (j : ℕ) → j < length ss → (nth ss j).low ≤ k → k ≤ (nth ss j).high → ⊥

pub value_none : (ss : List Span) (k : ℕ) → NoneCovers ss k → value_at ss k ≡ None
value_none [] k none = refl
value_none (s ∷ ss) k none = grind (arith, nat_tests, none 0 (omega arith), value_none ss k (λ j lt. none (suc j) (omega arith)))

pub value_here : (ss : List Span) (i k : ℕ) → EndBelow ss i k → i < length ss → (nth ss i).low ≤ k → k ≤ (nth ss i).high → value_at ss k ≡ Some (nth ss i).value
value_here [] i k below lt from to = absurd (omega (arith, lt))
value_here (s ∷ ss) zero k below lt from to = grind (arith, nat_tests)
value_here (s ∷ ss) (suc i) k below lt from to = grind (arith, nat_tests, below 0 (omega arith), value_here ss i k (below_tail s ss i k below) (omega arith) from to)

pub value_raised : (ss : List Span) (i h q : ℕ) → EndBelow ss i (nth ss i).low → i < length ss → (nth ss i).low ≤ (nth ss i).high → (nth ss i).high ≤ h → value_at (raised ss i h) q ≡ filled ss (nth ss i).high h (nth ss i).value q
value_raised [] i h q below lt whole later = absurd (omega (arith, lt))
value_raised (s ∷ ss) zero h q below lt whole later = grind (arith, nat_tests)
value_raised (s ∷ ss) (suc i) h q below lt whole later = grind (arith, nat_tests, below 0 (omega arith), value_raised ss i h q (below_tail s ss i _ below) (omega arith) whole later)

pub value_lowered : (ss : List Span) (i l q : ℕ) → EndBelow ss i l → i < length ss → (nth ss i).low ≤ (nth ss i).high → l ≤ (nth ss i).low → value_at (lowered ss i l) q ≡ (if leb l q && ltb q (nth ss i).low then Some (nth ss i).value else value_at ss q)
value_lowered [] i l q below lt whole earlier = absurd (omega (arith, lt))
value_lowered (s ∷ ss) zero l q below lt whole earlier = grind (arith, nat_tests)
value_lowered (s ∷ ss) (suc i) l q below lt whole earlier = grind (arith, nat_tests, below 0 (omega arith), value_lowered ss i l q (below_tail s ss i _ below) (omega arith) whole earlier)

pub value_inserted : (ss : List Span) (i : ℕ) (s : Span) (q : ℕ) → EndBelow ss i s.low → i ≤ length ss → value_at (insert ss i s) q ≡ (if covers s q then Some s.value else value_at ss q)
value_inserted ss zero s q below le = refl
value_inserted [] (suc i) s q below le = absurd (omega (arith, le))
value_inserted (t ∷ ss) (suc i) s q below le = grind (arith, nat_tests, below 0 (omega arith), value_inserted ss i s q (below_tail t ss i _ below) (omega arith))

pub value_joined : (ss : List Span) (i q : ℕ) → suc i < length ss → (nth ss i).low ≤ (nth ss i).high → (nth ss (suc i)).low ≤ (nth ss (suc i)).high → (nth ss i).high + 1 ≡ (nth ss (suc i)).low → (nth ss i).value ≡ (nth ss (suc i)).value → value_at (joined ss i) q ≡ value_at ss q
value_joined [] i q lt whole whole_next meet same = absurd (omega (arith, lt))
value_joined (s ∷ []) zero q lt whole whole_next meet same = absurd (omega (arith, lt))
value_joined (s ∷ t ∷ ss) zero q lt whole whole_next meet same = grind (arith, nat_tests, meet, same)
value_joined (s ∷ ss) (suc i) q lt whole whole_next meet same = grind (arith, nat_tests, value_joined ss i q (omega arith) whole whole_next meet same)

-- a span in place i, between those that end below it and those that begin above it
pub rising_inserted : (ss : List Span) → IsRising ss → (i k v : ℕ) → Parts ss k i → EndBelow ss i k → IsRising (insert ss i (record { low = k; high = k; value = v }))
rising_inserted ss rising i k v parts below =
    let s : Span = record { low = k; high = k; value = v } in
    let new = insert ss i s in
    let len = length-insert ss i s parts.bound in
    let under : (j : ℕ) → j < i → nth new j ≡ nth ss j = λ j lt. get_or-insert_below ss i s no_span j lt parts.bound in
    let here : (j : ℕ) → j ≡ i → nth new j ≡ s = λ j e. rw e (get_or-insert_at ss i s no_span parts.bound) in
    let over : (j : ℕ) → i < j → nth new j ≡ nth ss (j - 1) = λ j lt. subst (λ q. nth new q ≡ nth ss (j - 1)) {x = j - 1 + 1} (omega arith) (get_or-insert_above ss i s no_span (j - 1) (omega arith) parts.bound) in
    record {
      whole = λ j lt. grind (arith, under j, here j, over j, rising.whole j, rising.whole (j - 1));
      apart = λ j m lt in_range. grind (arith, under j, here j, over j, under m, here m, over m, rising.apart j m, rising.apart j (m - 1), rising.apart (j - 1) (m - 1), below j, parts.above (m - 1));
    }

-- the span before a place ends below the next ones
pub ends_below : (ss : List Span) → IsRising ss → (i k : ℕ) → i < length ss → (nth ss i).low ≤ k → EndBelow ss i k
ends_below ss rising i k lt le j before = omega (arith, rising.apart j i before lt)

-- the last span that begins at or below k tells what is read at k
pub value_in_part : (ss : List Span) → IsRising ss → (k i : ℕ) → Parts ss k (suc i) → k ≤ (nth ss i).high → value_at ss k ≡ Some (nth ss i).value
value_in_part ss rising k i parts le = value_here ss i k (ends_below ss rising i k (omega (arith, parts.bound)) (parts.below i (omega arith))) (omega (arith, parts.bound)) (parts.below i (omega arith)) le

pub value_in_gap : (ss : List Span) (k i : ℕ) → Parts ss k i → EndBelow ss i k → value_at ss k ≡ None
value_in_gap ss k i parts below = value_none ss k (λ j lt from to. elim (cases_lt j i) [ inl before ↦ omega (arith, below j before, to) | inr after ↦ omega (arith, parts.above j after lt, from) ])

-- if span i ends below k, so do those before it
pub gap_after : (ss : List Span) → IsRising ss → (k i : ℕ) → suc i ≤ length ss → (nth ss i).high < k → EndBelow ss (suc i) k
gap_after ss rising k i le lt j before = elim (cases_lt j i) [ inl less ↦ omega (arith, rising.apart j i less (omega (arith, le)), rising.whole i (omega (arith, le)), lt) | inr more ↦ (let e : j ≡ i = omega (arith, more, before) in rw e lt) ]

-- what has k tells what is read there, and no other
pub value_lies : (ss : List Span) → IsRising ss → (k i : ℕ) → LiesInSpan ss k i → value_at ss k ≡ Some (nth ss i).value
value_lies ss rising k i lies = value_here ss i k (ends_below ss rising i k lies.within lies.from) lies.within lies.from lies.to

pub value_misses : (ss : List Span) (k i : ℕ) → Misses ss k i → value_at ss k ≡ None
value_misses ss k i misses = value_in_gap ss k i misses.parts misses.below

-- a value that is read has a span
pub found : (ss : List Span) (k v : ℕ) → value_at ss k ≡ Some v → (i : ℕ) × LiesInSpan ss k i × ((nth ss i).value ≡ v)
found [] k v e = absurd (none-some v e)
found (s ∷ ss) k v e = elim (cases_Bool (covers s k)) [
  | inl yes_it ↦ (0, record { within = omega arith; from = grind (arith, nat_tests, yes_it); to = grind (arith, nat_tests, yes_it) }, grind (arith, nat_tests, yes_it, e))
  | inr not_it ↦ (let later = found ss k v (grind (arith, nat_tests, not_it, e)) in (suc later.0, record { within = omega (arith, later.1.within); from = later.1.from; to = later.1.to }, later.2))
]

pub same_or : (a b : ℕ) → (a ≡ b) ⊎ (a ≢ b)
same_or a b = elim (cases_lt a b) [
  | inl less ↦ inr (λ e. omega (arith, less, e))
  | inr more ↦ elim (cases_lt b a) [ inl less ↦ inr (λ e. omega (arith, less, e)) | inr most ↦ inl (omega (arith, more, most)) ]
]

-- what the spans of an edited list are
module _ (ss : List Span) (i : ℕ) (lt : i < length ss) where
  pub high_raised : (h : ℕ) → (nth (raised ss i h) i).high ≡ h
  high_raised h = ap (λ s. s.high) (get_or-set_same ss i (record { low = (nth ss i).low; high = h; value = (nth ss i).value }) no_span lt)

  pub raised_other : (h m : ℕ) → m ≢ i → nth (raised ss i h) m ≡ nth ss m
  raised_other h m ne = get_or-set_other ss i m (record { low = (nth ss i).low; high = h; value = (nth ss i).value }) no_span ne

  pub low_raised : (h m : ℕ) → (nth (raised ss i h) m).low ≡ (nth ss m).low
  low_raised h m = elim (same_or m i) [
    | inl e ↦ rw e (ap (λ s. s.low) (get_or-set_same ss i (record { low = (nth ss i).low; high = h; value = (nth ss i).value }) no_span lt))
    | inr ne ↦ ap (λ s. s.low) (raised_other h m ne)
  ]

  pub val_raised : (h m : ℕ) → (nth (raised ss i h) m).value ≡ (nth ss m).value
  val_raised h m = elim (same_or m i) [
    | inl e ↦ rw e (ap (λ s. s.value) (get_or-set_same ss i (record { low = (nth ss i).low; high = h; value = (nth ss i).value }) no_span lt))
    | inr ne ↦ ap (λ s. s.value) (raised_other h m ne)
  ]

  pub length_raised : (h : ℕ) → length (raised ss i h) ≡ length ss
  length_raised h = length-set ss i (record { low = (nth ss i).low; high = h; value = (nth ss i).value })

  pub low_lowered : (l : ℕ) → (nth (lowered ss i l) i).low ≡ l
  low_lowered l = ap (λ s. s.low) (get_or-set_same ss i (record { low = l; high = (nth ss i).high; value = (nth ss i).value }) no_span lt)

  pub lowered_other : (l m : ℕ) → m ≢ i → nth (lowered ss i l) m ≡ nth ss m
  lowered_other l m ne = get_or-set_other ss i m (record { low = l; high = (nth ss i).high; value = (nth ss i).value }) no_span ne

  pub high_lowered : (l m : ℕ) → (nth (lowered ss i l) m).high ≡ (nth ss m).high
  high_lowered l m = elim (same_or m i) [
    | inl e ↦ rw e (ap (λ s. s.high) (get_or-set_same ss i (record { low = l; high = (nth ss i).high; value = (nth ss i).value }) no_span lt))
    | inr ne ↦ ap (λ s. s.high) (lowered_other l m ne)
  ]

  pub val_lowered : (l m : ℕ) → (nth (lowered ss i l) m).value ≡ (nth ss m).value
  val_lowered l m = elim (same_or m i) [
    | inl e ↦ rw e (ap (λ s. s.value) (get_or-set_same ss i (record { low = l; high = (nth ss i).high; value = (nth ss i).value }) no_span lt))
    | inr ne ↦ ap (λ s. s.value) (lowered_other l m ne)
  ]

  pub length_lowered : (l : ℕ) → length (lowered ss i l) ≡ length ss
  length_lowered l = length-set ss i (record { low = l; high = (nth ss i).high; value = (nth ss i).value })

  pub raised_but : (h : ℕ) → AreSpansJoined ss → IsJoinedBut (raised ss i h) i
  raised_but h joined j ne in_range meets same =
      joined j (omega (arith, in_range, length_raised h))
      (omega (arith, meets, ap (λ s. s.high) (raised_other h j ne), low_raised h (suc j)))
      (omega (arith, same, val_raised h j, val_raised h (suc j)))

  pub lowered_but : (l : ℕ) → AreSpansJoined ss → (j : ℕ) → suc j ≢ i → JoinedAt (lowered ss i l) j
  lowered_but l joined j ne in_range meets same =
      joined j (omega (arith, in_range, length_lowered l))
      (omega (arith, meets, high_lowered l j, ap (λ s. s.low) (lowered_other l (suc j) ne)))
      (omega (arith, same, val_lowered l j, val_lowered l (suc j)))

module _ (ss : List Span) (i : ℕ) (lt : suc i < length ss) where
  within_raised : suc i < length (raised ss i (nth ss (suc i)).high)
  within_raised = omega (arith, lt, length_raised ss i (omega (arith, lt)) (nth ss (suc i)).high)

  -- at or below place i the places stay
  up_to : (m : ℕ) → m < suc i → nth (joined ss i) m ≡ nth (raised ss i (nth ss (suc i)).high) m
  up_to m le = get_or-remove_below (raised ss i (nth ss (suc i)).high) (suc i) no_span m le within_raised

  pub low_joined : (m : ℕ) → m < suc i → (nth (joined ss i) m).low ≡ (nth ss m).low
  low_joined m le = ap (λ s. s.low) (up_to m le) ∙ low_raised ss i (omega (arith, lt)) (nth ss (suc i)).high m

  pub val_joined : (m : ℕ) → m < suc i → (nth (joined ss i) m).value ≡ (nth ss m).value
  val_joined m le = ap (λ s. s.value) (up_to m le) ∙ val_raised ss i (omega (arith, lt)) (nth ss (suc i)).high m

  pub high_joined : (nth (joined ss i) i).high ≡ (nth ss (suc i)).high
  high_joined = ap (λ s. s.high) (up_to i (omega arith)) ∙ high_raised ss i (omega (arith, lt)) (nth ss (suc i)).high

  pub joined_below : (m : ℕ) → m < i → nth (joined ss i) m ≡ nth ss m
  joined_below m le = up_to m (omega (arith, le)) ∙ raised_other ss i (omega (arith, lt)) (nth ss (suc i)).high m (λ e. omega (arith, e, le))

  pub joined_above : (m : ℕ) → i < m → nth (joined ss i) m ≡ nth ss (suc m)
  joined_above m le = subst (λ n. nth (joined ss i) m ≡ nth ss n) {x = m + 1} (omega arith)
      (get_or-remove_above (raised ss i (nth ss (suc i)).high) (suc i) no_span m (omega (arith, le)) within_raised
      ∙ raised_other ss i (omega (arith, lt)) (nth ss (suc i)).high (m + 1) (λ e. omega (arith, e, le)))

  pub length_joined : length (joined ss i) + 1 ≡ length ss
  length_joined = omega (arith, length-remove (raised ss i (nth ss (suc i)).high) (suc i) within_raised, length_raised ss i (omega (arith, lt)) (nth ss (suc i)).high)

  high_from : (m : ℕ) → i ≤ m → (nth (joined ss i) m).high ≡ (nth ss (suc m)).high
  high_from m le = elim (same_or m i) [
    | inl e ↦ rw e high_joined
    | inr ne ↦ ap (λ s. s.high) (joined_above m (omega (arith, le, ne)))
  ]

  pub rising_joined : IsRising ss → IsRising (joined ss i)
  rising_joined rising = record {
    whole = λ m in_range. elim (cases_lt m i) [
      | inl less ↦ omega (arith, ap (λ s. s.low) (joined_below m less), ap (λ s. s.high) (joined_below m less), rising.whole m (omega (arith, less, lt)))
      | inr more ↦ elim (same_or m i) [
        | inl e ↦ omega (arith, low_joined m (omega (arith, e)), high_from m more, rising.whole m (omega (arith, e, lt)), rising.apart m (suc m) (omega arith) (omega (arith, e, lt)), rising.whole (suc m) (omega (arith, e, lt)))
        | inr ne ↦ omega (arith, ap (λ s. s.low) (joined_above m (omega (arith, more, ne))), high_from m more, rising.whole (suc m) (omega (arith, in_range, length_joined)))
      ]
    ];
    apart = λ j m less in_range. elim (cases_lt j i) [
      | inl before ↦ elim (cases_lt m (suc i)) [
        | inl at ↦ omega (arith, ap (λ s. s.high) (joined_below j before), low_joined m at, rising.apart j m less (omega (arith, at, lt)))
        | inr after ↦ omega (arith, ap (λ s. s.high) (joined_below j before), ap (λ s. s.low) (joined_above m (omega (arith, after))), rising.apart j (suc m) (omega (arith, less)) (omega (arith, in_range, length_joined)))
      ]
      | inr from ↦ omega (arith, high_from j from, ap (λ s. s.low) (joined_above m (omega (arith, from, less))), rising.apart (suc j) (suc m) (omega (arith, less)) (omega (arith, in_range, length_joined)))
    ];
  }

  pub joined_joined : (nth ss i).value ≡ (nth ss (suc i)).value → IsJoinedBut ss i → AreSpansJoined (joined ss i)
  joined_joined e but j in_range meets same = elim (cases_lt j i) [
    | inl less ↦ but j (λ e. omega (arith, e, less)) (omega (arith, less, lt))
        (omega (arith, meets, ap (λ s. s.high) (joined_below j less), low_joined (suc j) (omega (arith, less))))
        (omega (arith, same, val_joined j (omega (arith, less)), val_joined (suc j) (omega (arith, less))))
    | inr more ↦ but (suc j) (λ e. omega (arith, e, more)) (omega (arith, in_range, length_joined))
        (elim (same_or j i) [
          | inl here ↦ omega (arith, meets, ap (λ m. (nth (joined ss i) m).high) here, ap (λ m. (nth ss (suc m)).high) here, high_joined, ap (λ s. s.low) (joined_above (suc j) (omega (arith, more))))
          | inr over ↦ omega (arith, meets, ap (λ s. s.high) (joined_above j (omega (arith, more, over))), ap (λ s. s.low) (joined_above (suc j) (omega (arith, more))))
        ])
        (elim (same_or j i) [
          | inl here ↦ omega (arith, same, e, ap (λ m. (nth (joined ss i) m).value) here, ap (λ m. (nth ss (suc m)).value) here, val_joined i (omega arith), ap (λ s. s.value) (joined_above (suc j) (omega (arith, more))))
          | inr over ↦ omega (arith, same, ap (λ s. s.value) (joined_above j (omega (arith, more, over))), ap (λ s. s.value) (joined_above (suc j) (omega (arith, more))))
        ])
  ]
