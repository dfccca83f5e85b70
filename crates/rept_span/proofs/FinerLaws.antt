-- Where one kind of sets is never wider than another, the sets along the paths aren't either.
use Rattle.std.proofs.Common.{◌≡◌, ℕ, zero, suc, Bool, true, false, eqb, cond, Option, Some, None, ◌⊎◌, inl, inr, refl, sym, subst}
use Rattle.std.specs.Prelude.{◌<◌, ◌^◌, ◌&&◌}
use Rattle.std.proofs.Common.{lit<}
use Rattle.rept_isa.specs.declared.row.StepRow.{StepRow}
use Rattle.rept_isa.specs.Operands.{written_by, first_read, second_read}
use Rattle.rept_isa.specs.Rows.{from_of}
use Rattle.rept_partial.specs.Sets.{AreLawful}
use Rattle.rept_reason.specs.Facts.{Knowledge, register_fact}
use Rattle.rept_span.specs.Finer.{kind, LiesIn, IsFiner}
use Rattle.rept_span.specs.Ranges.{Legs, Way, is_place, narrows, operand_set, applied, narrowed, first_of, second_of, left, through_row, through, cut, at_start, range}
use Rattle.rept_span.proofs.RangeLaws.{HasIn}

some_none : {W : Type 0} {x : W} → Some x ≡ None → ⊥
some_none e = cc

module _ {V W : Type 0} (fine : Way V) (wide : Way W) (fine_laws : AreLawful fine.sets) (wide_laws : AreLawful wide.sets) (finer : IsFiner (kind fine.sets fine.moves) (kind wide.sets wide.moves)) where
  abbrev Within : Option V → Option W → Type 0
  Within x y = (v : ℕ) → HasIn fine.sets x v → HasIn wide.sets y v

  abbrev WithinPairs : Option (V × V) → Option (W × W) → Type 0
  WithinPairs n n' = (x : V × V) → n ≡ Some x → (x' : W × W) × (n' ≡ Some x') × LiesIn fine.sets wide.sets x.0 x'.0 × LiesIn fine.sets wide.sets x.1 x'.1

  -- a set that is not empty is within no empty one
  within_some : (a : V) (y : Option W) → Within (Some a) y → (b : W) × (y ≡ Some b) × LiesIn fine.sets wide.sets a b
  within_some a None h = let one = fine_laws.some a in absurd (h one.0 one.1)
  within_some a (Some b) h = (b, refl, h)

  unknown_within : LiesIn fine.sets wide.sets fine.sets.unknown wide.sets.unknown
  unknown_within v t = wide_laws.unknown v (fine_laws.words fine.sets.unknown v t)

  one_within : (n : ℕ) → n < 2 ^ 32 → LiesIn fine.sets wide.sets (fine.sets.exact n) (wide.sets.exact n)
  one_within n s v t = subst (λ (u : ℕ). wide.sets.has (wide.sets.exact n) u ≡ true) (sym (fine_laws.exact_only n v s t)) (wide_laws.exact n s)

  fine_meet : (a b : V) → (fine.sets.meet a b ≡ None) ⊎ ((c : V) × (fine.sets.meet a b ≡ Some c))
  fine_meet a b = elim (fine.sets.meet a b) as (λ x. (x ≡ None) ⊎ ((c : V) × (x ≡ Some c))) [ None ↦ inl refl | Some c ↦ inr (c, refl) ]

  wide_meet : (a b : W) → (wide.sets.meet a b ≡ None) ⊎ ((c : W) × (wide.sets.meet a b ≡ Some c))
  wide_meet a b = elim (wide.sets.meet a b) as (λ x. (x ≡ None) ⊎ ((c : W) × (x ≡ Some c))) [ None ↦ inl refl | Some c ↦ inr (c, refl) ]

  cut_within : (x : Option V) (y : Option W) (k : Option ℕ) → ((n : ℕ) → k ≡ Some n → n < 2 ^ 32) → Within x y → Within (cut fine x k) (cut wide y k)
  cut_within None y k s h v e = absurd e
  cut_within (Some a) None k s h v e = let one = fine_laws.some a in absurd (h one.0 one.1)
  cut_within (Some a) (Some b) None s h v e = h v e
  cut_within (Some a) (Some b) (Some n) s h v e =
      elim (fine_meet a (fine.sets.exact n)) [
        | inl none ↦ absurd (rw none at e)
        | inr (c, some) ↦
            let e' : fine.sets.has c v ≡ true = rw some at e in
            let both = fine_laws.meet_within a (fine.sets.exact n) c v some e' in
            let one = one_within n (s n refl) v both.1 in
            elim (wide_meet b (wide.sets.exact n)) [
              | inl none' ↦ absurd (wide_laws.meet_none b (wide.sets.exact n) v none' (h v both.0) one)
              | inr (c', some') ↦ rw some' (wide_laws.meet_some b (wide.sets.exact n) c' v some' (h v both.0) one)
            ]
      ]

  operand_within : (f : ℕ → Option V) (g : ℕ → Option W) (place : Option ℕ) → ((r : ℕ) → Within (f r) (g r)) → Within (operand_set fine f place) (operand_set wide g place)
  operand_within f g None h v e = unknown_within v e
  operand_within f g (Some r) h v e = h r v e

  applied_within : (row : StepRow) (a b : Option V) (a' b' : Option W) → Within a a' → Within b b' → Within (applied fine row a b) (applied wide row a' b')
  applied_within row (Some x) (Some y) a' b' h k v e =
      let p = within_some x a' h in
      let q = within_some y b' k in
      rw (p.1, q.1) (finer.apply row.instr (from_of row) x y p.0 q.0 p.2 q.2 v e)
  applied_within row (Some x) None a' b' h k v e = absurd e
  applied_within row None b a' b' h k v e = absurd e

  narrowed_within : (row : StepRow) (a b : Option V) (a' b' : Option W) → Within a a' → Within b b' → WithinPairs (narrowed fine row a b) (narrowed wide row a' b')
  narrowed_within row (Some x) (Some y) a' b' h k n e =
      let p = within_some x a' h in
      let q = within_some y b' k in
      rw (p.1, q.1) (finer.narrow row x y p.0 q.0 n p.2 q.2 e)
  narrowed_within row (Some x) None a' b' h k n e = absurd (some_none (sym e))
  narrowed_within row None b a' b' h k n e = absurd (some_none (sym e))

  first_within : (n : Option (V × V)) (n' : Option (W × W)) → WithinPairs n n' → Within (first_of n) (first_of n')
  first_within None n' h v e = absurd e
  first_within (Some x) n' h v e = let y = h x refl in rw y.1 (y.2 v e)

  second_within : (n : Option (V × V)) (n' : Option (W × W)) → WithinPairs n n' → Within (second_of n) (second_of n')
  second_within None n' h v e = absurd e
  second_within (Some x) n' h v e = let y = h x refl in rw y.1 (y.3 v e)

  if_within : (b : Bool) (x y : Option V) (x' y' : Option W) → Within x x' → Within y y' → Within (cond b x y) (cond b x' y')
  if_within true x y x' y' h k = h
  if_within false x y x' y' h k = k

  left_within : (row : StepRow) (f : ℕ → Option V) (g : ℕ → Option W) → ((r : ℕ) → Within (f r) (g r)) → WithinPairs (left fine row f) (left wide row g)
  left_within row f g h = narrowed_within row _ _ _ _ (operand_within f g (first_read row.instr) h) (operand_within f g (second_read row.instr) h)

  row_within : (row : StepRow) (f : ℕ → Option V) (g : ℕ → Option W) → ((r : ℕ) → Within (f r) (g r)) → (r : ℕ) → Within (through_row fine row f r) (through_row wide row g r)
  row_within row f g h r =
      let pairs = left_within row f g h in
      if_within (eqb r 0) _ _ _ _ (one_within 0 (lit< tt))
      (if_within (is_place (written_by row.instr) r) _ _ _ _ (applied_within row _ _ _ _ (operand_within f g (first_read row.instr) h) (operand_within f g (second_read row.instr) h))
      (if_within (narrows row && is_place (first_read row.instr) r) _ _ _ _ (first_within _ _ pairs)
      (if_within (narrows row && is_place (second_read row.instr) r) _ _ _ _ (second_within _ _ pairs) (h r))))

  start_within : (r : ℕ) → Within (at_start fine r) (at_start wide r)
  start_within r = if_within (eqb r 0) _ _ _ _ (one_within 0 (lit< tt)) unknown_within

  through_within : (row : Option StepRow) (f : ℕ → Option V) (g : ℕ → Option W) → ((r : ℕ) → Within (f r) (g r)) → (r : ℕ) → Within (through fine row f r) (through wide row g r)
  through_within None f g h r = start_within r
  through_within (Some row) f g h r = row_within row f g h r

  -- along the same paths, by the same facts
  module _ (same : fine.legs ≡ wide.legs) (K : Knowledge) (words : (p r n : ℕ) → register_fact K p r ≡ Some n → n < 2 ^ 32) where
    pub sets_within : (p r : ℕ) → Within (range fine K p r) (range wide K p r)
    sets_within zero r = cut_within _ _ (register_fact K 0 r) (words 0 r) (start_within r)
    sets_within (suc p) r =
        cut_within _ _ (register_fact K (suc p) r) (words (suc p) r)
        (subst (λ (legs : Legs). Within (through fine (fine.legs.row p) (range fine K p) r) (through wide (legs.row p) (range wide K p) r)) same (through_within (fine.legs.row p) (range fine K p) (range wide K p) (λ s. sets_within p s) r))
