-- What the steps of `put`, `up` and `down` do to what is read.
use Rattle.std.proofs.Common.{◌≡◌, ℕ, suc, ◌+◌, ◌-◌, ◌<◌, ◌≤◌, List, length, if◌then◌else◌, Some, sym, ◌∙◌, ap, subst, inl, inr, arith}
use Rattle.std.specs.Prelude.{◌==◌}
use Rattle.std.specs.List.{insert}
use Rattle.std.proofs.lemmas.Bool.{cases_lt}
use Rattle.std.proofs.lemmas.Bool.Decides.{nat_tests}
use Rattle.std.proofs.lemmas.List.Edits.{length-insert, get_or-insert_below, get_or-insert_at, get_or-insert_above}
use Rattle.rept_versions.specs.declared.span.Span.{Span}
use Rattle.rept_versions.specs.Line.{nth, no_span, value_at, IsRising, AreSpansJoined, Misses, FollowsAt, PrecedesAt, ReadsSame, Beside, Line, Added, raised, lowered, joined}
use Rattle.rept_versions.proofs.Lines.{EndBelow, value_raised, value_lowered, value_inserted, value_misses, found, same_or, length_raised, low_lowered, high_lowered, val_lowered, length_lowered, lowered_but}

pub before_it : (ss : List Span) → IsRising ss → (i : ℕ) → i < length ss → EndBelow ss i (nth ss i).low
before_it ss rising i lt j less = rising.apart j i less lt

put_above : (ss : List Span) → IsRising ss → (i k v : ℕ) → Misses ss k i → FollowsAt ss i k v → (q : ℕ) → value_at (raised ss (i - 1) k) q ≡ (if q == k then Some v else value_at ss q)
put_above ss rising i k v misses follows q =
    let lt : i - 1 < length ss = omega (arith, misses.parts.bound, follows.some) in
    grind (arith, nat_tests, follows.meets, follows.value, value_raised ss (i - 1) k q (before_it ss rising (i - 1) lt) lt (rising.whole (i - 1) lt) (omega (arith, follows.meets)))

put_below : (ss : List Span) → IsRising ss → (i k v : ℕ) → Misses ss k i → PrecedesAt ss i k v → (q : ℕ) → value_at (lowered ss i k) q ≡ (if q == k then Some v else value_at ss q)
put_below ss rising i k v misses precedes q =
    grind (arith, nat_tests, precedes.meets, precedes.value, value_lowered ss i k q misses.below precedes.some (rising.whole i precedes.some) (omega (arith, precedes.meets)))

put_between : (ss : List Span) (i k v : ℕ) → Misses ss k i → (q : ℕ) → value_at (insert ss i (record { low = k; high = k; value = v })) q ≡ (if q == k then Some v else value_at ss q)
put_between ss i k v misses q = grind (arith, nat_tests, value_inserted ss i (record { low = k; high = k; value = v }) q misses.below misses.parts.bound)

-- v beside k stands in the span before the place or in the one at it
beside_none : (ss : List Span) → IsRising ss → (i k v : ℕ) → Misses ss k i → (FollowsAt ss i k v → ⊥) → (PrecedesAt ss i k v → ⊥) → Beside ss k v → ⊥
beside_none ss rising i k v misses not_follows not_precedes (inl above) =
    let f = found ss (k + 1) v above in
    elim (cases_lt f.0 i) [
      | inl less ↦ omega (arith, misses.below f.0 less, f.1.to)
      | inr more ↦ elim (same_or f.0 i) [
        | inl here ↦ not_precedes (subst (λ j. PrecedesAt ss j k v) here (record { some = f.1.within; meets = omega (arith, f.1.from, misses.parts.above f.0 more f.1.within); value = f.2 }))
        | inr over ↦ (let at : i < length ss = omega (arith, more, over, f.1.within) in omega (arith, f.1.from, misses.parts.above i (omega arith) at, rising.whole i at, rising.apart i f.0 (omega (arith, more, over)) f.1.within))
      ]
    ]
beside_none ss rising i k v misses not_follows not_precedes (inr below) =
    let f = found ss below.0 v below.2 in
    elim (cases_lt f.0 i) [
      | inr more ↦ omega (arith, misses.parts.above f.0 more f.1.within, f.1.from, below.1)
      | inl less ↦ elim (same_or (f.0 + 1) i) [
        | inl here ↦ (let e : f.0 ≡ i - 1 = omega (arith, here) in not_follows (record { some = omega (arith, here); meets = subst (λ j. (nth ss j).high + 1 ≡ k) e (omega (arith, f.1.to, below.1, misses.below f.0 less)); value = subst (λ j. (nth ss j).value ≡ v) e f.2 }))
        | inr over ↦ (let lt : i - 1 < length ss = omega (arith, misses.parts.bound, less) in omega (arith, f.1.to, below.1, rising.apart f.0 (i - 1) (omega (arith, less, over)) lt, rising.whole (i - 1) lt, misses.below (i - 1) (omega (arith, less))))
      ]
    ]

module _ (old new : Line) (rising : IsRising old.spans) (i k v : ℕ) (misses : Misses old.spans k i) (room : new.room ≡ old.room) where
  pub added_above : FollowsAt old.spans i k v → (middle : List Span) → middle ≡ raised old.spans (i - 1) k → ReadsSame middle new.spans → length new.spans ≤ length middle → Added old new k v
  added_above follows middle is same len =
      let lt : i - 1 < length old.spans = omega (arith, misses.parts.bound, follows.some) in
      let fewer : length new.spans ≤ length old.spans = omega (arith, len, ap length is, length_raised old.spans (i - 1) lt k) in
      record {
        none = value_misses old.spans k i misses;
        reads = λ q. same q ∙ (rw is (put_above old.spans rising i k v misses follows q));
        room = room;
        len = omega (arith, fewer);
        beside = λ _. fewer;
      }

  pub added_below : PrecedesAt old.spans i k v → new.spans ≡ lowered old.spans i k → Added old new k v
  added_below precedes is =
      let fewer : length new.spans ≤ length old.spans = omega (arith, ap length is, length_lowered old.spans i precedes.some k) in
      record {
        none = value_misses old.spans k i misses;
        reads = λ q. rw is (put_below old.spans rising i k v misses precedes q);
        room = room;
        len = omega (arith, fewer);
        beside = λ _. fewer;
      }

  pub added_between : (FollowsAt old.spans i k v → ⊥) → (PrecedesAt old.spans i k v → ⊥) → new.spans ≡ insert old.spans i (record { low = k; high = k; value = v }) → Added old new k v
  added_between not_follows not_precedes is = record {
    none = value_misses old.spans k i misses;
    reads = λ q. rw is (put_between old.spans i k v misses q);
    room = room;
    len = omega (arith, ap length is, length-insert old.spans i (record { low = k; high = k; value = v }) misses.parts.bound);
    beside = λ beside. absurd (beside_none old.spans rising i k v misses not_follows not_precedes beside);
  }

pub lowered_joined : (ss : List Span) (i k v : ℕ) → AreSpansJoined ss → Misses ss k i → (FollowsAt ss i k v → ⊥) → PrecedesAt ss i k v → AreSpansJoined (lowered ss i k)
lowered_joined ss i k v joined misses not_follows precedes j = elim (same_or (suc j) i) [
  | inr ne ↦ lowered_but ss i precedes.some k joined j ne
  | inl e ↦ (λ in_range meets same.
      let low = low_lowered ss i precedes.some k in
      let back : j ≡ i - 1 = omega (arith, e) in
      not_follows (record {
        some = omega (arith, e);
        meets = subst (λ m. (nth ss m).high + 1 ≡ k) back (omega (arith, meets, high_lowered ss i precedes.some k j, ap (λ m. (nth (lowered ss i k) m).low) e, low));
        value = subst (λ m. (nth ss m).value ≡ v) back (omega (arith, same, val_lowered ss i precedes.some k j, val_lowered ss i precedes.some k (suc j), ap (λ m. (nth ss m).value) e, precedes.value));
      }))
]

pub inserted_joined : (ss : List Span) (i k v : ℕ) → AreSpansJoined ss → Misses ss k i → (FollowsAt ss i k v → ⊥) → (PrecedesAt ss i k v → ⊥) → AreSpansJoined (insert ss i (record { low = k; high = k; value = v }))
inserted_joined ss i k v joined misses not_follows not_precedes j in_range meets same =
    let s : Span = record { low = k; high = k; value = v } in
    let new = insert ss i s in
    let bound = misses.parts.bound in
    let len = length-insert ss i s bound in
    let here = get_or-insert_at ss i s no_span bound in
    elim (cases_lt j i) [
      | inl less ↦ (let at_j = get_or-insert_below ss i s no_span j less bound in elim (same_or (suc j) i) [
        | inl e ↦ (let back : j ≡ i - 1 = omega (arith, e) in
            let next : nth new (suc j) ≡ s = rw e here in
            not_follows (record {
              some = omega (arith, e);
              meets = subst (λ m. (nth ss m).high + 1 ≡ k) back (omega (arith, meets, ap (λ s. s.high) at_j, ap (λ s. s.low) next));
              value = subst (λ m. (nth ss m).value ≡ v) back (omega (arith, same, ap (λ s. s.value) at_j, ap (λ s. s.value) next));
            }))
        | inr ne ↦ (let at_next = get_or-insert_below ss i s no_span (suc j) (omega (arith, less, ne)) bound in
            joined j (omega (arith, less, ne, bound)) (omega (arith, meets, ap (λ s. s.high) at_j, ap (λ s. s.low) at_next)) (omega (arith, same, ap (λ s. s.value) at_j, ap (λ s. s.value) at_next)))
      ])
      | inr more ↦ (let next : nth new (suc j) ≡ nth ss j = subst (λ m. nth new m ≡ nth ss j) {x = j + 1} (omega arith) (get_or-insert_above ss i s no_span j more bound) in
          elim (same_or j i) [
            | inl e ↦ (let at_j : nth new j ≡ s = rw e here in
                not_precedes (subst (λ m. PrecedesAt ss m k v) e (record {
                  some = omega (arith, in_range, len);
                  meets = omega (arith, meets, ap (λ s. s.high) at_j, ap (λ s. s.low) next);
                  value = omega (arith, same, ap (λ s. s.value) at_j, ap (λ s. s.value) next);
                })))
            | inr ne ↦ (let back : nth new j ≡ nth ss (j - 1) = subst (λ m. nth new m ≡ nth ss (j - 1)) {x = j - 1 + 1} (omega (arith, more, ne)) (get_or-insert_above ss i s no_span (j - 1) (omega (arith, more, ne)) bound) in
                let up : suc (j - 1) ≡ j = omega (arith, more, ne) in
                joined (j - 1) (omega (arith, in_range, len, more, ne)) (subst (λ m. (nth ss (j - 1)).high + 1 ≡ (nth ss m).low) (sym up) (omega (arith, meets, ap (λ s. s.high) back, ap (λ s. s.low) next))) (subst (λ m. (nth ss (j - 1)).value ≡ (nth ss m).value) (sym up) (omega (arith, same, ap (λ s. s.value) back, ap (λ s. s.value) next))))
          ])
    ]
