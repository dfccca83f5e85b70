-- The bytes of a row that were found are all that its rules look at.
use Rattle.std.proofs.Common.{◌≡◌, ℕ, zero, suc, ◌<◌, cond, eqb, inl, inr, List, [], ◌∷◌, ◌++◌, Option, Some, None, map, min, refl, sym, ap, subst, ◌∙◌, arith}
use Rattle.std.specs.Prelude.{⊤}
use Rattle.std.specs.List.{Contains}
use Rattle.std.proofs.lemmas.Bool.{cases_eq, cases_order, cond-true, cond-false, eq-eqb, ne_eqb}
use Rattle.rept_isa.specs.declared.row.StepRow.{StepRow}
use Rattle.rept_isa.specs.Numbers.{plus, beside}
use Rattle.rept_isa.specs.Operands.{first_read}
use Rattle.rept_reason.specs.declared.fact.Fact.{Fact}
use Rattle.rept_reason.specs.declared.fact.Cell.TheVariants.{Register, Byte}
use Rattle.rept_reason.specs.declared.view.inferred.When.{When}
use Rattle.rept_reason.specs.declared.view.inferred.When.TheVariants.{Before, After}
use Rattle.rept_reason.specs.declared.view.inferred.Conclusion.{Conclusion}
use Rattle.rept_reason.specs.declared.view.inferred.Premise.{Premise}
use Rattle.rept_reason.specs.View.Rules.{Rules, AreLawfulRules, HasSameCells, IsRowByte, IsRowCell, offset_of}
use Rattle.rept_reason.specs.View.Seen.{Seen, IsLawful}
use Rattle.rept_reason.proofs.ViewLemmas.Alike.{inferred_alike}
use Rattle.rept_report.specs.Moments.{Moments}
use Rattle.rept_report.specs.Views.{instant_of}
use Rattle.rept_report.specs.Why.{Because, because, fact_of, or_zero, premise_of}
use Rattle.rept_log.specs.declared.row_bytes.RowByte.{RowByte}
use Rattle.rept_log.specs.RowBytes.{on_side, byte_among, row_byte, bytes_from, base_seen, bytes_from_base, row_bytes, with_bytes}
use Rattle.rept_log.specs.Concluding.{seen_row, IsConcluded, IsNotConcluded}

-- what agrees on the elements of a list
map_same : (f g : Premise → Fact) (ns : List Premise) → ((n : Premise) → Contains ns n → f n ≡ g n) → map f ns ≡ map g ns
map_same f g [] h = refl
map_same f g (n ∷ ns) h = rw (h n (0, omega arith, refl)) (ap (λ (fs : List Fact). g n ∷ fs) (map_same f g ns (λ m (k, below, at). h m (suc k, omega (arith, below), at))))

module _ (s : Seen) where
  -- they are told as they are seen
  abbrev AreTold : List RowByte → Type 0
  AreTold [] = ⊤
  AreTold (b ∷ bs) = ((w : When) → on_side b w ≡ s.byte w b.address) × AreTold bs

  side_is : (a : ℕ) (w : When) → on_side (row_byte s a) w ≡ s.byte w a
  side_is a Before = refl
  side_is a After = refl

  told_append : (xs ys : List RowByte) → AreTold xs → AreTold ys → AreTold (xs ++ ys)
  told_append [] ys h g = g
  told_append (x ∷ xs) ys h g = (h.0, told_append xs ys h.1 g)

  are_told : (base n : ℕ) → AreTold (bytes_from s base n)
  are_told base zero = tt
  are_told base (suc n) = told_append (bytes_from s base n) (row_byte s (beside base n) ∷ []) (are_told base n) (λ w. side_is (beside base n) w, tt)

  -- one that is told, before others
  among_head : (b : RowByte) (w : When) (a : ℕ) (rest : Option ℕ) → ((u : When) → on_side b u ≡ s.byte u b.address) → rest ≡ s.byte w a → cond (eqb b.address a) (on_side b w) rest ≡ s.byte w a
  among_head b w a rest told others = elim (cases_eq b.address a) [
    | inl e ↦ cond-true (eqb b.address a) (on_side b w) rest (eq-eqb b.address a e) ∙ told w ∙ ap (λ (n : ℕ). s.byte w n) e
    | inr ne ↦ cond-false (eqb b.address a) (on_side b w) rest (ne_eqb b.address a ne) ∙ others
  ]

  -- where the later ones tell of an address, so do all
  among_later : (xs ys : List RowByte) (w : When) (a : ℕ) → AreTold xs → byte_among ys w a ≡ s.byte w a → byte_among (xs ++ ys) w a ≡ s.byte w a
  among_later [] ys w a told h = h
  among_later (x ∷ xs) ys w a told h = among_head x w a (byte_among (xs ++ ys) w a) told.0 (among_later xs ys w a told.1 h)

  -- and where the earlier ones do
  among_earlier : (xs ys : List RowByte) (w : When) (a : ℕ) → AreTold xs → AreTold ys → byte_among xs w a ≡ s.byte w a → byte_among (xs ++ ys) w a ≡ s.byte w a
  among_earlier [] [] w a told also h = h
  among_earlier [] (y ∷ ys) w a told also h = among_head y w a (byte_among ys w a) also.0 (among_earlier [] ys w a told also.1 h)
  among_earlier (x ∷ xs) ys w a told also h = elim (cases_eq x.address a) [
    | inl e ↦ cond-true (eqb x.address a) (on_side x w) (byte_among (xs ++ ys) w a) (eq-eqb x.address a e) ∙ told.0 w ∙ ap (λ (n : ℕ). s.byte w n) e
    | inr ne ↦ cond-false (eqb x.address a) (on_side x w) (byte_among (xs ++ ys) w a) (ne_eqb x.address a ne) ∙ among_earlier xs ys w a told.1 also (sym (cond-false (eqb x.address a) (on_side x w) (byte_among xs w a) (ne_eqb x.address a ne)) ∙ h)
  ]

  -- each of them is found
  pub found_among : (base n k : ℕ) (w : When) → k < n → byte_among (bytes_from s base n) w (beside base k) ≡ s.byte w (beside base k)
  found_among base zero k w below = absurd (omega (arith, below))
  found_among base (suc n) k w below = elim (cases_order k n) [
    | inl e ↦ among_later (bytes_from s base n) (row_byte s (beside base n) ∷ []) w (beside base k) (are_told base n) (cond-true (eqb (beside base n) (beside base k)) (on_side (row_byte s (beside base n)) w) None (eq-eqb (beside base n) (beside base k) (ap (beside base) (sym e))) ∙ side_is (beside base n) w ∙ ap (λ (i : ℕ). s.byte w (beside base i)) (sym e))
    | inr (inl l) ↦ among_earlier (bytes_from s base n) (row_byte s (beside base n) ∷ []) w (beside base k) (are_told base n) (λ u. side_is (beside base n) u, tt) (found_among base n k w l)
    | inr (inr g) ↦ absurd (omega (arith, below, g))
  ]

-- of two views that have the same of a row's own cells, the one lets the row conclude what the
-- other does, and conclusions rest on the same facts
module _ (rules : Rules) (row : StepRow) (laws : AreLawfulRules rules) (s t : Seen) (ls : IsLawful s) (lt : IsLawful t) (same : HasSameCells rules row s t) where
  same_premise : (moments : Moments) (i : ℕ) (n : Premise) → IsRowCell rules row s n.when n.cell → premise_of moments t i n ≡ premise_of moments s i n
  same_premise moments i n own = ap (λ (v : Option ℕ). fact_of (instant_of moments i n.when n.cell) n.cell (or_zero v)) (same n.when n.cell own)

  same_premises : (d : Conclusion) → Contains (rules.infer row s) d → (moments : Moments) (i : ℕ) → map (premise_of moments s i) (rules.needs row s d) ≡ map (premise_of moments t i) (rules.needs row t d)
  same_premises d has moments i =
      sym (
      ap (λ (ns : List Premise). map (premise_of moments t i) ns) (laws.needs_told row s t d same)
      ∙ map_same (premise_of moments t i) (premise_of moments s i) (rules.needs row s d) (λ n needed. same_premise moments i n (laws.needs_own row s d n ls has needed).0)
      )

  pub concluded_alike : (moments : Moments) (i : ℕ) (f : Fact) (why : Because) → IsConcluded rules (seen_row moments i row s) f why → IsConcluded rules (seen_row moments i row t) f why
  concluded_alike moments i f why h = record {
    conclusion = h.conclusion;
    inferred = inferred_alike rules row laws s t h.conclusion ls lt same h.inferred;
    gives = h.gives;
    is = h.is ∙ ap (λ (ps : List Fact). because h.conclusion.rule ps []) (same_premises h.conclusion h.inferred moments i);
  }

  pub not_concluded_alike : (moments : Moments) (i : ℕ) (f : Fact) → IsNotConcluded rules (seen_row moments i row t) f → IsNotConcluded rules (seen_row moments i row s) f
  not_concluded_alike moments i f none d has gives = none d (inferred_alike rules row laws s t d ls lt same has) gives

module _ (rules : Rules) (row : StepRow) (s : Seen) where
  -- a byte of the row is among them
  own_byte : (w : When) (a : ℕ) → IsRowByte rules row s a → byte_among (row_bytes rules row s) w a ≡ s.byte w a
  own_byte w a h =
      let below = h.below_places in
      let four = h.below_four in
      let seen_base : base_seen (first_read row.instr) s ≡ Some h.base = ap (λ (r : Option ℕ). base_seen r s) h.read ∙ h.base_known in
      let here = found_among s (plus h.base (offset_of row.instr)) (min (rules.places row) 4) h.k w (omega (arith, below, four)) in
      ap (λ (b : Option ℕ). byte_among (bytes_from_base rules row s b) w a) seen_base ∙ subst (λ (n : ℕ). byte_among (bytes_from_base rules row s (Some h.base)) w n ≡ s.byte w n) (sym h.address) here

  pub same_cells : HasSameCells rules row s (with_bytes s (row_bytes rules row s))
  same_cells Before (Register r) own = refl
  same_cells After (Register r) own = refl
  same_cells Before (Byte a) own = own_byte Before a own
  same_cells After (Byte a) own = own_byte After a own
