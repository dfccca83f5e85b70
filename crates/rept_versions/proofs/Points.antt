-- From a line to points and addresses.
use Rattle.std.proofs.Common.{Result, Ok, Err, ◌≡◌, ℕ, ◌-◌, ◌<◌, ◌≤◌, true, length, Some, None, sym, ◌∙◌, ap, subst, inl, inr, arith}
use Rattle.std.specs.Prelude.{⊤}
use Rattle.std.specs.declared.alloc.AllocError.{AllocError}
use Rattle.std.proofs.lemmas.Bool.{cases_lt}
use Rattle.std.proofs.lemmas.Bool.Decides.{nat_tests}
use Rattle.rept_versions.specs.Line.{Line, value_at}
use Rattle.rept_versions.specs.Row.{AddsTo}
use Rattle.rept_versions.specs.Facts.{StoreStays, change, Carry, Between, Spreads, StopsAtValue, TracksOr}
use Rattle.rept_versions.specs.Moves.{SpreadsOn, StopsOn}
use Rattle.rept_versions.specs.OnLine.{LineParts, store, fact_on, key}

abbrev course : ℕ → ℕ → ℕ → ℕ → Carry
course a from to v = record { address = a; from = from; to = to; value = v }

pub fact_in : (line : Line) (p a : ℕ) → p < 4294967296 → fact_on line p a ≡ value_at line.spans (key p a)
fact_in line p a lt = grind (arith, nat_tests, lt)

pub fact_out : (line : Line) (p a : ℕ) → 4294967296 ≤ p → fact_on line p a ≡ None
fact_out line p a le = grind (arith, nat_tests, le)

-- a place on the line has one point and one address
pub key_one : (p q a b : ℕ) → p < 4294967296 → q < 4294967296 → key q b ≡ key p a → (q ≡ p) × (b ≡ a)
key_one p q a b lt less e =
    let same : b ≡ a = elim (cases_lt b a) [ inl under ↦ absurd (omega (arith, lt, less, e, under)) | inr over ↦ elim (cases_lt a b) [ inl under ↦ absurd (omega (arith, lt, less, e, under)) | inr equal ↦ omega (arith, over, equal) ] ] in
    (omega (arith, e, same), same)

-- what stands between two points of an address
pub between_on : (from to q a : ℕ) → Between from to q → Between (key from a) (key to a) (key q a)
between_on from to q a (inl b) = inl (omega (arith, b.0), omega (arith, b.1))
between_on from to q a (inr b) = inr (omega (arith, b.0), omega (arith, b.1))

pub between_off : (from to q a : ℕ) → Between (key from a) (key to a) (key q a) → Between from to q
between_off from to q a (inl b) = inl (omega (arith, b.0), omega (arith, b.1))
between_off from to q a (inr b) = inr (omega (arith, b.0), omega (arith, b.1))

same_address : (from to q a b : ℕ) → from < 4294967296 → to < 4294967296 → q < 4294967296 → Between (key from a) (key to a) (key q b) → b ≡ a
same_address from to q a b lf lt lq (inl k) = elim (cases_lt b a) [ inl under ↦ absurd (omega (arith, lf, lt, lq, k.0, k.1, under)) | inr over ↦ elim (cases_lt a b) [ inl under ↦ absurd (omega (arith, lf, lt, lq, k.0, k.1, under)) | inr equal ↦ omega (arith, over, equal) ] ]
same_address from to q a b lf lt lq (inr k) = elim (cases_lt b a) [ inl under ↦ absurd (omega (arith, lf, lt, lq, k.0, k.1, under)) | inr over ↦ elim (cases_lt a b) [ inl under ↦ absurd (omega (arith, lf, lt, lq, k.0, k.1, under)) | inr equal ↦ omega (arith, over, equal) ] ]

between_small : (from to q : ℕ) → from < 4294967296 → to < 4294967296 → Between from to q → q < 4294967296
between_small from to q lf lt (inl b) = omega (arith, lf, lt, b.1)
between_small from to q lf lt (inr b) = omega (arith, lf, lt, b.1)

-- a place between two points of an address is a point of it
pub keyed : (from to a k : ℕ) → from < 4294967296 → to < 4294967296 → Between (key from a) (key to a) k → (p : ℕ) × (p < 4294967296) × (key p a ≡ k) × Between from to p
keyed from to a k lf lt (inl b) = (k - key 0 a, omega (arith, lf, lt, b.0, b.1), omega (arith, lf, lt, b.0, b.1), inl (omega (arith, b.0), omega (arith, b.1)))
keyed from to a k lf lt (inr b) = (k - key 0 a, omega (arith, lf, lt, b.0, b.1), omega (arith, lf, lt, b.0, b.1), inr (omega (arith, b.0), omega (arith, b.1)))

module _ (old new : LineParts) (row : new.row ≡ old.row) where
  pub stays : new.line ≡ old.line → StoreStays (store old) (store new)
  stays line = record {
    fact = λ q b. ap (λ l. fact_on l q b) line;
    tracked = ap (λ r. r.items) row;
    spare = ap (λ l. l.room - length l.spans) line;
    places = ap (λ r. r.room) row;
  }

  module _ (a from to v : ℕ) (lf : from < 4294967296) (lt : to < 4294967296) where
    pub spreads : SpreadsOn old.line new.line (key from a) (key to a) v → Spreads (change true (store old) (store new)) (course a from to v)
    spreads s = record {
      here = λ q between. fact_in new.line q a (between_small from to q lf lt between) ∙ s.here (key q a) (between_on from to q a between);
      free = λ q w between e. s.free (key q a) w (between_on from to q a between) (sym (fact_in old.line q a (between_small from to q lf lt between)) ∙ e);
      others = λ q b out. elim (cases_lt q 4294967296) [
        | inl lq ↦ fact_in new.line q b lq ∙ (s.others (key q b) (λ k. let e = same_address from to q a b lf lt lq k in out (between_off from to q a (subst (λ x. Between (key from a) (key to a) (key q x)) e k)) e) ∙ sym (fact_in old.line q b lq))
        | inr gq ↦ fact_out new.line q b gq ∙ sym (fact_out old.line q b gq)
      ];
      tracked = ap (λ r. r.items) row;
      places = ap (λ r. r.room) row;
      spare = λ _. omega (arith, s.room, s.len);
    }

    pub more : (q : ℕ) × Between (key from a) (key to a) q × (value_at old.line.spans q ≡ None) → (q : ℕ) × Between from to q × (fact_on old.line q a ≡ None)
    more m = let p = keyed from to a m.0 lf lt m.1 in (p.0, p.3, fact_in old.line p.0 a p.1 ∙ subst (λ k. value_at old.line.spans k ≡ None) (sym p.2) m.2)

  pub stops : (a from to v k w point : ℕ) → from < 4294967296 → to < 4294967296 → StopsOn old.line new.line (key from a) (key to a) v k w → key point a ≡ k → StopsAtValue (change true (store old) (store new)) (course a from to v) point w
  stops a from to v k w point lf lt s is =
      let b = keyed from to a s.before lf lt s.toward in
      let within = between_off from to point a (subst (λ x. Between (key from a) (key to a) x) (sym is) s.within) in
      record {
        reaches = record {
          before = b.0;
          next = elim s.next [ inl e ↦ inl (omega (arith, e, is, b.2)) | inr e ↦ inr (omega (arith, e, is, b.2)) ];
          toward = b.3;
          within = within;
          spreads = spreads a from b.0 v lf b.1 (subst (λ x. SpreadsOn old.line new.line (key from a) x v) (sym b.2) s.spreads);
        };
        other = fact_in old.line point a (between_small from to point lf lt within) ∙ subst (λ x. value_at old.line.spans x ≡ Some w) (sym is) s.other;
        differs = s.differs;
      }

pub tracks : (old new : LineParts) → new.line ≡ old.line → (a : ℕ) → (r : Result ⊤ AllocError) → AddsTo old.row new.row a r → TracksOr (change true (store old) (store new)) a r
tracks old new line a (Ok u) p = record {
  fact = λ q b. ap (λ l. fact_on l q b) line;
  spare = ap (λ l. l.room - length l.spans) line;
  places = p.room;
  there = p.there;
  last = p.last;
}
tracks old new line a (Err e) p = (
  record {
    fact = λ q b. ap (λ l. fact_on l q b) line;
    tracked = ap (λ r. r.items) p.0;
    spare = ap (λ l. l.room - length l.spans) line;
    places = ap (λ r. r.room) p.0;
  },
  p.1,
  λ _. p.2,
)

abbrev pub More : LineParts → LineParts → ℕ → ℕ → ℕ → ℕ → Type 0
More old new a from to v = Spreads (change true (store old) (store new)) (course a from to v) × ((q : ℕ) × Between from to q × (fact_on old.line q a ≡ None))

abbrev pub Told : LineParts → ℕ → ℕ → (ℕ → Type 0) → Type 0
Told old from a P = (v : ℕ) → fact_on old.line from a ≡ Some v → P v

module _ (old new : LineParts) (row : new.row ≡ old.row) (a from to k1 k2 : ℕ) (lf : from < 4294967296) (lt : to < 4294967296) (is1 : k1 ≡ key from a) (is2 : k2 ≡ key to a) where
  at : (v : ℕ) → fact_on old.line from a ≡ Some v → value_at old.line.spans k1 ≡ Some v
  at v e = subst (λ k. value_at old.line.spans k ≡ Some v) (sym is1) (sym (fact_in old.line from a lf) ∙ e)

  pub carried_more : ((v : ℕ) → value_at old.line.spans k1 ≡ Some v → SpreadsOn old.line new.line k1 k2 v × ((q : ℕ) × Between k1 k2 q × (value_at old.line.spans q ≡ None))) → Told old from a (λ v. More old new a from to v)
  carried_more moves v e =
      let m = subst (λ k. SpreadsOn old.line new.line k (key to a) v × ((q : ℕ) × Between k (key to a) q × (value_at old.line.spans q ≡ None))) is1
      (subst (λ k. SpreadsOn old.line new.line k1 k v × ((q : ℕ) × Between k1 k q × (value_at old.line.spans q ≡ None))) is2 (moves v (at v e))) in
      (spreads old new row a from to v lf lt m.0, more old new row a from to v lf lt m.1)

  pub carried_stop : (k u w point : ℕ) → key point a ≡ k → ((v : ℕ) → value_at old.line.spans k1 ≡ Some v → (u ≡ v) × StopsOn old.line new.line k1 k2 v k w) → Told old from a (λ v. (u ≡ v) × StopsAtValue (change true (store old) (store new)) (course a from to v) point w)
  carried_stop k u w point is moves v e =
      let m = moves v (at v e) in
      let n = subst (λ j. StopsOn old.line new.line j (key to a) v k w) is1 (subst (λ j. StopsOn old.line new.line k1 j v k w) is2 m.1) in
      (m.0, stops old new row a from to v k w point lf lt n is)
