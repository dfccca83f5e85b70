-- A value carried one point at a time.
use Rattle.std.proofs.Common.{◌≡◌, ◌≢◌, ℕ, ◌+◌, ◌≤◌, ◌⊎◌, Bool, true, false, Some, None, Result, Ok, Err, refl, sym, ◌∙◌, ap, subst, inl, inr, arith, true≢false}
use Rattle.std.specs.declared.alloc.AllocError.{AllocError}
use Rattle.rept_versions.specs.declared.facts.Learnt.TheVariants.{Old, New}
use Rattle.rept_versions.specs.Facts.{Store, StoreStays, change, Carry, ByteFact, Learns, Between, Spreads, ReachesPoint, FailsForRoom, CarriesOr, TracksOr}
use Rattle.std.specs.Result.{IsErr}
use Rattle.std.specs.Prelude.{⊤}
use Rattle.rept_versions.specs.declared.facts.Carried.{Carried}
use Rattle.rept_versions.specs.Row.{AddsTo}
use Rattle.rept_versions.specs.Listed.{Toward, Plain, store, fact_in}
use Rattle.rept_versions.proofs.Lines.{same_or}

abbrev course : ℕ → ℕ → ℕ → ℕ → Carry
course a from to v = record { address = a; from = from; to = to; value = v }

abbrev fact : ℕ → ℕ → ℕ → ByteFact
fact p a v = record { point = p; address = a; value = v }

-- v was carried from one point to another, and at one of them nothing was known, or nothing changed
abbrev pub Gone : Store → Store → ℕ → ℕ → ℕ → ℕ → Bool → Type 0
Gone old new a from to v true = Spreads (change false old new) (course a from to v) × ((q : ℕ) × Between from to q × (old.fact q a ≡ None))
Gone old new a from to v false = StoreStays old new × Spreads (change false old new) (course a from to v)

spread : (old new : Store) (a from to v : ℕ) (more : Bool) → Gone old new a from to v more → Spreads (change false old new) (course a from to v)
spread old new a from to v true g = g.0
spread old new a from to v false g = g.1

pub some_same : (v w : ℕ) → Some v ≡ Some w → w ≡ v
some_same v w e = grind (arith, e)

not_joins : {A : Type 0} → false ≡ true → A
not_joins e = absurd (true≢false (sym e))

-- the step goes on in the direction that was taken
abbrev Heads : ℕ → ℕ → ℕ → Type 0
Heads from point next = ((from ≤ point) × (next ≡ point + 1)) ⊎ ((point ≤ from) × (next + 1 ≡ point))

heads : (from to point next : ℕ) → Between from to point → Toward point to next → Heads from point next
heads from to point next (inl b) (inl t) = inl (b.0, t.1)
heads from to point next (inl b) (inr t) = absurd (omega (arith, b.1, t.0))
heads from to point next (inr b) (inl t) = absurd (omega (arith, b.0, t.0))
heads from to point next (inr b) (inr t) = inr (b.1, t.1)

pub within : (from to point next : ℕ) → Between from to point → Toward point to next → Between from to next
within from to point next (inl b) (inl t) = inl (omega (arith, b.0, t.1), omega (arith, t.0, t.1))
within from to point next (inl b) (inr t) = absurd (omega (arith, b.1, t.0))
within from to point next (inr b) (inl t) = absurd (omega (arith, b.0, t.0))
within from to point next (inr b) (inr t) = inr (omega (arith, t.0, t.1), omega (arith, b.1, t.1))

module _ (from point next : ℕ) where
  outside : Heads from point next → Between from point next → ⊥
  outside (inl h) (inl b) = omega (arith, h.1, b.1)
  outside (inl h) (inr b) = omega (arith, h.0, h.1, b.1)
  outside (inr h) (inl b) = omega (arith, h.0, h.1, b.0)
  outside (inr h) (inr b) = omega (arith, h.1, b.0)

  nearer : (q : ℕ) → Heads from point next → Between from next q → q ≢ next → Between from point q
  nearer q (inl h) (inl b) ne = inl (b.0, omega (arith, h.1, b.1, ne))
  nearer q (inl h) (inr b) ne = absurd (omega (arith, h.0, h.1, b.0, b.1))
  nearer q (inr h) (inl b) ne = absurd (omega (arith, h.0, h.1, b.0, b.1))
  nearer q (inr h) (inr b) ne = inr (omega (arith, h.1, b.0, ne), b.1)

  wider : (q : ℕ) → Heads from point next → Between from point q → Between from next q
  wider q (inl h) (inl b) = inl (b.0, omega (arith, h.1, b.1))
  wider q (inl h) (inr b) = inl (omega (arith, h.0, b.0), omega (arith, h.0, h.1, b.1))
  wider q (inr h) (inl b) = inr (omega (arith, h.0, h.1, b.0), omega (arith, h.0, b.1))
  wider q (inr h) (inr b) = inr (omega (arith, h.1, b.0), b.1)

  ends_at : Heads from point next → Between from next next
  ends_at (inl h) = inl (omega (arith, h.0, h.1), omega arith)
  ends_at (inr h) = inr (omega arith, omega (arith, h.0, h.1))

  beside : Heads from point next → (point + 1 ≡ next) ⊎ (next + 1 ≡ point)
  beside (inl h) = inl (sym h.1)
  beside (inr h) = inr h.1

module _ (old mid new : Store) (a from point next v : ℕ) (h : Heads from point next) (s : Spreads (change false old mid) (course a from point v)) where
  -- at the next point nothing changed yet
  untouched : mid.fact next a ≡ old.fact next a
  untouched = s.others next a (λ between _. outside from point next h between)

  spread_on : ((w : ℕ) → mid.fact next a ≡ Some w → w ≡ v) → new.fact next a ≡ Some v → ((q b : ℕ) → (q ≡ next → b ≡ a → ⊥) → new.fact q b ≡ mid.fact q b) → new.tracked ≡ mid.tracked → new.places ≡ mid.places → Spreads (change false old new) (course a from next v)
  spread_on free here others tracked places = record {
    here = λ q between. elim (same_or q next) [
      | inl e ↦ subst (λ x. new.fact x a ≡ Some v) (sym e) here
      | inr ne ↦ others q a (λ e _. ne e) ∙ s.here q (nearer from point next q h between ne)
    ];
    free = λ q w between e. elim (same_or q next) [
      | inl at ↦ free w (untouched ∙ subst (λ x. old.fact x a ≡ Some w) at e)
      | inr ne ↦ s.free q w (nearer from point next q h between ne) e
    ];
    others = λ q b out. others q b (λ e same. out (subst (λ x. Between from next x) (sym e) (ends_at from point next h)) same) ∙ s.others q b (λ between same. out (wider from point next q h between) same);
    tracked = tracked ∙ s.tracked;
    places = places ∙ s.places;
    spare = not_joins;
  }

  spread_old : Learns (change false mid new) (fact next a v) (Ok Old) → Spreads (change false old new) (course a from next v)
  spread_old l = spread_on (λ w e. some_same v w (sym l.1 ∙ e)) (l.0.fact next a ∙ l.1) (λ q b _. l.0.fact q b) l.0.tracked l.0.places

  spread_new : Learns (change false mid new) (fact next a v) (Ok New) → Spreads (change false old new) (course a from next v)
  spread_new l = spread_on (λ w e. absurd (none_some w (sym l.none ∙ e))) l.here l.others l.tracked l.places
    where
      none_some : (w : ℕ) → None ≡ Some w → ⊥
      none_some w e = grind (arith, e)

  -- nothing changed since
  spread_same : StoreStays mid new → Spreads (change false old new) (course a from point v)
  spread_same l = record {
    here = λ q between. l.fact q a ∙ s.here q between;
    free = s.free;
    others = λ q b out. l.fact q b ∙ s.others q b out;
    tracked = l.tracked ∙ s.tracked;
    places = l.places ∙ s.places;
    spare = not_joins;
  }

module _ (old mid new : Store) (a from to point next v : ℕ) (way : Between from to point) (toward : Toward point to next) (more : Bool) (g : Gone old mid a from point v more) where
  h : Heads from point next
  h = heads from to point next way toward

  s : Spreads (change false old mid) (course a from point v)
  s = spread old mid a from point v more g

  pub gone_new : Learns (change false mid new) (fact next a v) (Ok New) → Gone old new a from next v true
  gone_new l = (spread_new old mid new a from point next v h s l, (next, ends_at from point next h, sym (untouched old mid new a from point next v h s) ∙ l.none))

  reaches : StoreStays mid new → ReachesPoint (change false old new) (course a from to v) next
  reaches l = record {
    before = point;
    next = beside from point next h;
    toward = way;
    within = within from to point next way toward;
    spreads = spread_same old mid new a from point next v h s l;
  }

  pub gone_fail : (e : AllocError) → new.spare ≡ 0 → Learns (change false mid new) (fact next a v) (Err e) → FailsForRoom (change false old new) (course a from to v)
  gone_fail e none l = record {
    plain = refl;
    stop = next;
    reaches = reaches l.0;
    none = sym (untouched old mid new a from point next v h s) ∙ l.1;
    spare = none;
  }

pub failed : (old new : Store) (a from to v : ℕ) (r : Result Carried AllocError) → IsErr r → FailsForRoom (change false old new) (course a from to v) → CarriesOr (change false old new) (course a from to v) r
failed old new a from to v (Err e) is f = f
failed old new a from to v (Ok c) is f = not_joins is

-- a is tracked where it was added to the row
pub tracks_plain : (old new : Plain) (a : ℕ) (r : Result ⊤ AllocError) → new.entries ≡ old.entries → AddsTo old.row new.row a r → TracksOr (change false (store old) (store new)) a r
tracks_plain old new a (Ok u) same p = record {
  fact = λ q b. ap (λ es. fact_in es q b) same;
  spare = refl;
  places = p.room;
  there = p.there;
  last = p.last;
}
tracks_plain old new a (Err e) same p = (
  record {
    fact = λ q b. ap (λ es. fact_in es q b) same;
    tracked = ap (λ r. r.items) p.0;
    spare = refl;
    places = ap (λ r. r.room) p.0;
  },
  p.1,
  not_joins,
)
