-- What is said of each number of a list, and how far a byte's value goes by it.
use mathlib.Core.Logic.{∥∥₁_elim, ∥∥₁_prop}
use Rattle.std.proofs.Props.{props}
use Rattle.std.proofs.Common.{◌≡◌, ℕ, ◌+◌, ◌-◌, ◌≤◌, ◌<◌, inl, inr, true, List, [], ◌∷◌, ◌++◌, length, get_or, Option, Some, None, refl, sym, ◌∙◌, subst, arith, length-append}
use Rattle.std.specs.Option.{IfSome}
use Rattle.std.proofs.lemmas.Bool.{cases_lt}
use Rattle.std.proofs.lemmas.List.{get_or_append_left, get_or_push, get_or_past}
use Rattle.rept_span.specs.Ranges.{Legs}
use Rattle.rept_report.specs.Moments.{Moments, AreMoments}
use Rattle.rept_extents.specs.Carry.Links.{IsNextFrom, IsNextTo}
use Rattle.rept_report.specs.declared.paths.NumberWindow.{NumberWindow}
use Rattle.rept_report.specs.Reach.Reaching.{IsLit, IsLeaving, IsReachedUp, IsReachedDown}
use Rattle.rept_extents.specs.declared.hulls.Bounds.{Bounds}
use Rattle.rept_extents.specs.declared.reaches.NextTables.{NextTables}
use Rattle.rept_extents.specs.declared.reaches.NextTables as tables
use Rattle.rept_extents.specs.Hulls.{LiesIn, LieIn}
use Rattle.rept_extents.specs.Tables.{AreEach, AreTables, NextsLieIn, IsUp, IsDown}

-- one number more
module _ (P : ℕ → Bounds → Type 0) where
  pub none_yet : AreEach P []
  none_yet k = tt

  pub each_more : (list : List (Option Bounds)) (n : ℕ) (h : Option Bounds) → length list ≡ n → AreEach P list → IfSome h (P n) → AreEach P (list ++ h ∷ [])
  each_more list n h count known here k =
      elim (cases_lt k n) [
        | inl below ↦ subst (λ (o : Option Bounds). IfSome o (P k)) (sym (get_or_append_left list (h ∷ []) None k (omega arith))) (known k)
        | inr past ↦
            elim (cases_lt n k) [
              | inl over ↦ subst (λ (o : Option Bounds). IfSome o (P k)) (sym (get_or_past (list ++ h ∷ []) k None (omega (arith, length-append list (h ∷ []))))) tt
              | inr under ↦
                  let same : n ≡ k = omega arith in
                  subst (λ (o : Option Bounds). IfSome o (P k)) (sym (get_or_push list h None k (count ∙ same))) (subst (λ (i : ℕ). IfSome h (P i)) same here)
            ]
      ]

module _ (M : Moments) where
  -- the tables can be had from the mere fact that they are these
  nexts_from : (m : ℕ) (o : Option Bounds) → ∥ IfSome o (NextsLieIn M m) ∥₁ → IfSome o (NextsLieIn M m)
  nexts_from m None t = tt
  nexts_from m (Some h) t = λ w e. (∥∥₁_elim t (hlevel props) (λ a. (a w e).0), ∥∥₁_elim t (hlevel props) (λ a. (a w e).1))

  up_from : (k : ℕ) (o : Option Bounds) → ∥ IfSome o (IsUp M k) ∥₁ → IfSome o (IsUp M k)
  up_from k None t = tt
  up_from k (Some h) t = record {
    earlier = ∥∥₁_elim t (hlevel props) (λ a. a.earlier);
    inside = ∥∥₁_elim t (hlevel props) (λ a. a.inside);
    lit = record {
      next = ∥∥₁_elim t (hlevel props) (λ a. a.lit.next);
      light = ∥∥₁_elim t (hlevel props) (λ a. a.lit.light);
    };
  }

  down_from : (k : ℕ) (o : Option Bounds) → ∥ IfSome o (IsDown M k) ∥₁ → IfSome o (IsDown M k)
  down_from k None t = tt
  down_from k (Some h) t = record {
    later = ∥∥₁_elim t (hlevel props) (λ a. a.later);
    lit = record {
      next = ∥∥₁_elim t (hlevel props) (λ a. a.lit.next);
      light = ∥∥₁_elim t (hlevel props) (λ a. a.lit.light);
    };
  }

  pub are_tables : (t : NextTables) → ∥ AreTables M t ∥₁ → AreTables M t
  are_tables tables.TheVariants.One t = λ m w e. ∥∥₁_elim t (hlevel props) (λ a. a m w e)
  are_tables (tables.TheVariants.Many nexts ups downs) t = record {
    next = λ m. nexts_from m (get_or nexts m None) (∥∥₁_elim t ∥∥₁_prop (λ a. ∣ a.next m ∣₁));
    up = λ k. up_from k (get_or ups k None) (∥∥₁_elim t ∥∥₁_prop (λ a. ∣ a.up k ∣₁));
    down = λ k. down_from k (get_or downs k None) (∥∥₁_elim t ∥∥₁_prop (λ a. ∣ a.down k ∣₁));
  }

  -- the numbers that are next to one
  next_in : (m w : ℕ) (outer : Bounds) (o : Option Bounds) → IfSome o (NextsLieIn M m) → LiesIn o outer → M.next m w ≡ true → (outer.least ≤ w) × (w ≤ outer.most)
  next_in m w outer None known lies e = absurd lies
  next_in m w outer (Some h) known lies e = let low = (known w e).0 in let high = (known w e).1 in let least = lies.0 in let most = lies.1 in (omega arith, omega arith)

  pub leaving : (nexts : List (Option Bounds)) (known : NumberWindow) (least n : ℕ) → AreEach (NextsLieIn M) nexts → least < known.to → least ≤ n → n ≤ known.to - 1 → LieIn nexts (record { from = least; to = n; outer = record { least = known.from; most = known.to - 1 } }) → IsLeaving M known least n
  leaving nexts known least n each order from to all = record {
    from = from;
    to = omega arith;
    inside = λ m w low less e. let lies = next_in m w (record { least = known.from; most = known.to - 1 }) (get_or nexts m None) (each m) (all m low less) e in let high = lies.1 in (lies.0, omega arith);
  }

  pub leaving_one : (known : NumberWindow) (least : ℕ) → known.from ≤ least → least < known.to → ((m w : ℕ) → M.next m w ≡ true → w ≡ m + 1) → IsLeaving M known least (known.to - 1)
  leaving_one known least since order one = record {
    from = omega arith;
    to = omega arith;
    inside = λ m w low less e. let next = one m w e in (omega arith, omega arith);
  }

  -- an earlier number that isn't below others
  up_in : (k : ℕ) (outer : Bounds) (o : Option Bounds) → IfSome o (IsUp M k) → LiesIn o outer → (m : ℕ) × (outer.least ≤ m) × (m < k + 1) × IsLit M m (k + 1)
  up_in k outer None known lies = absurd lies
  up_in k outer (Some h) known lies = let early = known.earlier in (h.least, lies.0, omega arith, known.lit)

  up_inside : (k : ℕ) (outer : Bounds) (o : Option Bounds) → IfSome o (IsUp M k) → LiesIn o outer → k < M.end
  up_inside k outer None known lies = absurd lies
  up_inside k outer (Some h) known lies = known.inside

  -- the number after one is reached
  reach_up : (low k i : ℕ) → i + 1 ≡ k → ((m : ℕ) × (low ≤ m) × (m < i + 1) × IsLit M m (i + 1)) → (m : ℕ) × (low ≤ m) × (m < k) × IsLit M m k
  reach_up low k i same way = subst (λ (j : ℕ). (m : ℕ) × (low ≤ m) × (m < j) × IsLit M m j) same way

  pub reached_up : (ups : List (Option Bounds)) (known : NumberWindow) (most high n : ℕ) → AreEach (IsUp M) ups → known.from < known.to → known.to ≤ M.end + 1 → known.to ≤ n + 1 → n ≤ most → LieIn ups (record { from = known.to - 1; to = n; outer = record { least = known.from; most = high } }) → IsReachedUp M known most n
  reached_up ups known most high n each order few from to all = record {
    from = from;
    to = inl to;
    inside = inside;
    ways = λ k low less. reach_up known.from k (k - 1) (omega arith) (up_in (k - 1) (record { least = known.from; most = high }) (get_or ups (k - 1) None) (each (k - 1)) (all (k - 1) (omega arith) (omega arith)));
  }
    where
      inside : n ≤ M.end
      inside =
          elim (cases_lt n known.to) [
            | inl less ↦ omega arith
            | inr past ↦ let last : n - 1 < M.end = up_inside (n - 1) (record { least = known.from; most = high }) (get_or ups (n - 1) None) (each (n - 1)) (all (n - 1) (omega arith) (omega arith)) in omega arith
          ]

  pub not_up : (known : NumberWindow) (most n : ℕ) → known.from < known.to → known.to ≤ M.end + 1 → n + 1 ≡ known.to → IsReachedUp M known most n
  not_up known most n order few same = record {
    from = omega arith;
    to = inr same;
    inside = omega arith;
    ways = λ k low high. absurd (omega arith);
  }

  -- a later number that isn't past others
  down_in : (k high : ℕ) (outer : Bounds) (o : Option Bounds) → outer.most < high → IfSome o (IsDown M k) → LiesIn o outer → (w : ℕ) × (k < w) × (w < high) × IsLit M k w
  down_in k high outer None under known lies = absurd lies
  down_in k high outer (Some h) under known lies = let most = lies.1 in (h.most, known.later, omega arith, known.lit)

  pub reached_down : (downs : List (Option Bounds)) (known : NumberWindow) (least low n : ℕ) → AreEach (IsDown M) downs → known.from < known.to → least ≤ n → n ≤ known.from → LieIn downs (record { from = n; to = known.from; outer = record { least = low; most = known.to - 1 } }) → IsReachedDown M known least n
  reached_down downs known least low n each order from to all = record {
    to = to;
    from = inl from;
    ways = λ k past less. down_in k known.to (record { least = low; most = known.to - 1 }) (get_or downs k None) (omega arith) (each k) (all k past less);
  }

  pub not_down : (known : NumberWindow) (least : ℕ) → IsReachedDown M known least known.from
  not_down known least = record {
    to = omega arith;
    from = inr refl;
    ways = λ k past less. absurd (omega arith);
  }

-- the numbers next to one lie between the least and the greatest of them
pub nexts_lie : (L : Legs) (M : Moments) (number end least most : ℕ) → AreMoments L M → end ≡ M.end → IsNextFrom M number 0 (Some least) → IsNextTo M number end (Some most) → NextsLieIn M number (record { least = least; most = most })
nexts_lie L M number end least most laws last low high w e = (
  elim (cases_lt w least) [
    | inl under ↦ absurd (low.2 w (omega arith) under e)
    | inr up ↦ up
  ],
  elim (cases_lt most w) [
    | inl over ↦ let few = (laws.inside number w e).1 in absurd (high.2 w over (omega arith) e)
    | inr down ↦ down
  ],
)
