-- That what is kept stays true when a row is added, and what it says of the first row that may
-- write an address.
use Rattle.std.proofs.Common.{◌≡◌, ℕ, ◌<◌, ◌≤◌, ◌^◌, ◌⊎◌, Bool, true, false, List, Option, Some, None, inl, inr, refl, sym, arith, subst}
use Rattle.std.specs.Prelude.{min, max}
use Rattle.std.specs.List.{Contains}
use Rattle.std.specs.Option.{unwrap_or}
use Rattle.std.proofs.lemmas.List.Elements.{All-contains}
use Rattle.std.specs.List.Sorted.{IsPermutation}
use Rattle.std.proofs.lemmas.List.Sorted.{All-permutation, Contains-permutation}
use Rattle.rept_writing.specs.declared.list.Writing.{Writing}
use Rattle.rept_writing.specs.declared.narrow.Hit.{Hit}
use Rattle.rept_writing.specs.Hits.{hits_at, IsNextHitBelow}
use Rattle.rept_writing.proofs.Keeping.{inside_of}
use Rattle.rept_writing.specs.Filed.{IsFirst, IsLeast, IsPast, IsFiled, hit, sooner}
use Rattle.rept_writing.proofs.Going.{past_from, past_later}

-- the first of which the one or the other holds
pub sooner_first : (P Q R : ℕ → Type 0) (k end : ℕ) (x y : Option ℕ) → ((j : ℕ) → P j → R j) → ((j : ℕ) → Q j → R j) → ((j : ℕ) → R j → P j ⊎ Q j) → IsFirst P k end x → IsFirst Q k end y → IsFirst R k end (sooner x y)
sooner_first P Q R k end None None p q each x y = λ j low high r. elim (each j r) [ inl h ↦ x j low high h | inr h ↦ y j low high h ]
sooner_first P Q R k end None (Some n) p q each x y = (y.0, y.1, q n y.2, λ j low lt r. elim (each j r) [ inl h ↦ x j low (omega (arith, lt, y.1)) h | inr h ↦ y.3 j low lt h ])
sooner_first P Q R k end (Some m) None p q each x y = (x.0, x.1, p m x.2, λ j low lt r. elim (each j r) [ inl h ↦ x.3 j low lt h | inr h ↦ y j low (omega (arith, lt, x.1)) h ])
sooner_first P Q R k end (Some m) (Some n) p q each x y = (omega (arith, x.0, y.0), omega (arith, x.1, y.1), least, λ j low lt r. elim (each j r) [ inl h ↦ x.3 j low (omega (arith, lt)) h | inr h ↦ y.3 j low (omega (arith, lt)) h ])
  where
    either : (min m n ≡ m) ⊎ (min m n ≡ n)
    either = grind arith

    least : R (min m n)
    least = elim either [ inl e ↦ subst R (sym e) (p m x.2) | inr e ↦ subst R (sym e) (q n y.2) ]

-- the first of which the one or the other holds, where the other one is looked for only before the
-- one that was found
pub first_of_both : (P Q R : ℕ → Type 0) (k end : ℕ) (x y : Option ℕ) → ((j : ℕ) → P j → R j) → ((j : ℕ) → Q j → R j) → ((j : ℕ) → R j → P j ⊎ Q j) → IsFirst P k end x → IsFirst Q k (unwrap_or x end) y → IsFirst R k end (sooner x y)
first_of_both P Q R k end None None p q each x y = sooner_first P Q R k end None None p q each x y
first_of_both P Q R k end None (Some n) p q each x y = sooner_first P Q R k end None (Some n) p q each x y
first_of_both P Q R k end (Some m) None p q each x y = (x.0, x.1, p m x.2, λ j low lt r. elim (each j r) [ inl h ↦ x.3 j low lt h | inr h ↦ y j low lt h ])
first_of_both P Q R k end (Some m) (Some n) p q each x y = sooner_first P Q R k end (Some m) (Some n) p q each x (y.0, omega (arith, x.1, y.1), y.2, y.3)

-- none before another number, where the least one isn't below that
pub none_of_least : (P : ℕ → Type 0) (k end h : ℕ) → end ≤ h → IsLeast P k (Some h) → IsFirst P k end None
none_of_least P k end h le least = λ j low high p. least.2 j low (omega (arith, high, le)) p

-- between narrower bounds
pub first_within : (P : ℕ → Type 0) (k low high end : ℕ) (r : Option ℕ) → ((j : ℕ) → P j → j < end) → IsFirst P (max k low) high r → IsFirst (λ j. P j × (low ≤ j) × (j < high)) k end r
first_within P k low high end None inside none = λ j from to p. none j (omega (arith, from, p.1)) p.2 p.0
first_within P k low high end (Some h) inside first = (omega (arith, first.0), inside h first.2, (first.2, omega (arith, first.0), first.1), λ j from lt p. first.3 j (omega (arith, from, p.1)) lt p.0)

false_of : (b : Bool) → (b ≡ true → ⊥) → b ≡ false
false_of true h = absurd (h refl)
false_of false h = refl

pub next : (list : List Writing) (k end a : ℕ) (r : Option ℕ) → IsFirst (λ j. hits_at list j a ≡ true) k end r → IsNextHitBelow list k end a r
next list k end a None none = λ j low high. false_of _ (none j low high)
next list k end a (Some h) first = (
  first.1,
  record {
    from = first.0;
    inside = inside_of list h a first.2;
    hits = first.2;
    none_before = λ j low lt. false_of _ (first.3 j low lt);
  },
)

-- the first row, from the first of the single addresses and the first of the rows of many
pub first_filed : (list : List Writing) (narrow : List Hit) (wide : List ℕ) (k end a : ℕ) (x y : Option ℕ) → IsFiled list narrow wide → a < 2 ^ 32 → IsFirst (λ j. Contains narrow (hit a j)) k end x → IsFirst (λ j. Contains wide j × (hits_at list j a ≡ true)) k (unwrap_or x end) y → IsNextHitBelow list k end a (sooner x y)
first_filed list narrow wide k end a x y filed small first second =
    next list k end a (sooner x y) (first_of_both (λ j. Contains narrow (hit a j)) (λ j. Contains wide j × (hits_at list j a ≡ true)) (λ j. hits_at list j a ≡ true) k end x y
    (λ j there. All-contains (λ (h : Hit). hits_at list h.index h.address ≡ true) narrow (hit a j) filed.sound there)
    (λ j there. there.1)
    (λ j hits. elim (filed.complete j a small hits) [ inl there ↦ inl there | inr there ↦ inr (there, hits) ])
    first second)

-- the place after the last one, from that of the single addresses and that of the rows of many
pub past_filed : (list : List Writing) (narrow : List Hit) (wide : List ℕ) (low k a : ℕ) (x y : ℕ) → IsFiled list narrow wide → a < 2 ^ 32 → IsPast (λ j. Contains narrow (hit a j)) 0 k x → IsPast (λ j. Contains wide j × (hits_at list j a ≡ true)) low k y → IsPast (λ j. hits_at list j a ≡ true) low k (max (max x low) y)
past_filed list narrow wide low k a x y filed small first second =
    past_later (λ j. Contains narrow (hit a j)) (λ j. Contains wide j × (hits_at list j a ≡ true)) (λ j. hits_at list j a ≡ true) low k (max x low) y
    (λ j there. All-contains (λ (h : Hit). hits_at list h.index h.address ≡ true) narrow (hit a j) filed.sound there)
    (λ j there. there.1)
    (λ j hits. elim (filed.complete j a small hits) [ inl there ↦ inl there | inr there ↦ inr (there, hits) ])
    (past_from (λ j. Contains narrow (hit a j)) low k x first) second

-- in another order
pub filed_sorted : (list : List Writing) (narrow sorted : List Hit) (wide : List ℕ) → IsFiled list narrow wide → IsPermutation narrow sorted → IsFiled list sorted wide
filed_sorted list narrow sorted wide filed moved = record {
  sound = All-permutation (λ (h : Hit). hits_at list h.index h.address ≡ true) narrow sorted moved filed.sound;
  complete = λ j a small hits. elim (filed.complete j a small hits) [ inl there ↦ inl (Contains-permutation narrow sorted _ moved there) | inr there ↦ inr there ];
  rising = filed.rising;
  each_once = filed.each_once;
  inside = filed.inside;
  few = filed.few;
  apart = All-permutation (λ (h : Hit). Contains wide h.index → ⊥) narrow sorted moved filed.apart;
}
