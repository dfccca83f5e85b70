-- Lines are found one number after the other.
use Rattle.std.proofs.Common.{◌≡◌, ℕ, ◌+◌, ◌<◌, ◌≤◌, Bool, true, false, List, [], ◌∷◌, ◌++◌, length, Some, None, slice_get, inl, inr, refl, sym, ap, ◌∙◌, subst, arith, length-append}
use Rattle.std.proofs.lemmas.Bool.{cases_order, false≢true}
use Rattle.std.proofs.lemmas.Option.{slice_get_past}
use Rattle.rept_span.specs.Ranges.{Legs}
use Rattle.rept_report.specs.declared.paths.NumberChain.{NumberChain}
use Rattle.rept_report.specs.Moments.{Moments, AreMoments, points_of}
use Rattle.rept_report.specs.Timeline.{IsJoined, IsLine}
use Rattle.rept_report.proofs.Line.{next_is, is_next}
use Rattle.rept_extents.specs.Carry.Links.{IsNextFrom, IsNextTo}
use Rattle.rept_moments.proofs.Places.{get_end, get_before}
use Rattle.rept_extents.specs.Carry.Lines.{IsLineFrom, AreLinesBelow, whole}

some_same : {x y : NumberChain} → Some x ≡ Some y → x ≡ y
some_same e = cc

some_none : {x : NumberChain} → None ≡ Some x → ⊥
some_none e = cc

not_so : (b : Bool) → (b ≡ true → ⊥) → b ≡ false
not_so true k = absurd (k refl)
not_so false k = refl

module _ (M : Moments) where
  pub run_longer : (first last : ℕ) → ((k : ℕ) → first ≤ k → k < last → IsJoined M k) → IsJoined M last → (k : ℕ) → first ≤ k → k < last + 1 → IsJoined M k
  run_longer first last joined more k low less =
      elim (cases_order k last) [
        | inl same ↦ subst (λ (n : ℕ). IsJoined M n) (sym same) more
        | inr (inl below) ↦ joined k low below
        | inr (inr over) ↦ absurd (omega arith)
      ]

  -- nothing is next to the end with a greater number
  pub end_ends : (legs : Legs) → AreMoments legs M → (last : ℕ) → M.end ≤ last → IsJoined M last → ⊥
  end_ends legs laws last past its = let most = (laws.inside last (last + 1) its.next).1 in omega arith

  -- one number alone is next to another one
  pub joined_by : (m next : ℕ) → IsNextFrom M m 0 (Some next) → next ≡ m + 1 → ((w : ℕ) → next < w → M.next m w ≡ false) → IsJoined M m
  joined_by m next its same none = record {
    next = subst (λ (k : ℕ). M.next m k ≡ true) same its.0;
    only = λ w e.
        elim (cases_order w next) [
          | inl here ↦ here ∙ same
          | inr (inl below) ↦ absurd (its.2 w (omega arith) below e)
          | inr (inr over) ↦ absurd (false≢true (sym (none w over) ∙ e))
        ];
  }

  -- the least number that is next to one is not the one after it
  pub not_joined_over : (m next : ℕ) → IsNextFrom M m 0 (Some next) → m + 1 < next → IsJoined M m → ⊥
  not_joined_over m next its over j = its.2 (m + 1) (omega arith) over j.next

  pub none_joined : (m : ℕ) → IsNextFrom M m 0 None → IsJoined M m → ⊥
  none_joined m none j = none (m + 1) (omega arith) j.next

  pub no_more : (legs : Legs) → AreMoments legs M → (m next : ℕ) → M.end ≤ next → (w : ℕ) → next < w → M.next m w ≡ false
  no_more legs laws m next past w over = not_so (M.next m w) (λ e. let most = (laws.inside m w e).1 in omega arith)

  pub not_joined : (m next : ℕ) → M.next m next ≡ true → (next ≡ m + 1 → ⊥) → IsJoined M m → ⊥
  not_joined m next e other its = other (its.only next e)

  pub first_line : (last : ℕ) → IsLineFrom M 0 last → IsLine M 0 (whole last)
  first_line last run = record { from = omega arith; to = run.up; inside = run.inside; joined = run.joined; begins = λ k same its. absurd (omega arith); ends = run.ends }

  pub line_same : (m : ℕ) (x : NumberChain) → m < x.last → IsLine M m x → IsLine M (m + 1) x
  line_same m x less its = record { from = let low = its.from in omega arith; to = omega arith; inside = its.inside; joined = its.joined; begins = its.begins; ends = its.ends }

  pub line_more : (m last : ℕ) (x : NumberChain) → x.last ≤ m → IsLine M m x → IsLineFrom M (m + 1) last → IsLine M (m + 1) (record { first = m + 1; last = last })
  line_more m last x over its run =
      let same : x.last ≡ m = let to = its.to in omega arith in
      record {
        from = omega arith;
        to = run.up;
        inside = run.inside;
        joined = run.joined;
        begins = λ k before joined. its.ends (subst (λ (n : ℕ). IsJoined M n) (let here : k ≡ x.last = omega arith in here) joined);
        ends = run.ends;
      }

  pub no_lines : AreLinesBelow M 0 []
  no_lines = record { count = refl; each = λ k x e. absurd (some_none (sym (slice_get_past [] k (omega arith)) ∙ e)) }

  pub lines_more : (n : ℕ) (x : NumberChain) (list : List NumberChain) → AreLinesBelow M n list → IsLine M n x → AreLinesBelow M (n + 1) (list ++ x ∷ [])
  lines_more n x list known its = record { count = count; each = each }
    where
      many : length (list ++ x ∷ []) ≡ length list + 1
      many = length-append list (x ∷ [])

      count : length (list ++ x ∷ []) ≡ n + 1
      count = let old = known.count in let new = many in omega arith

      each : (k : ℕ) (y : NumberChain) → slice_get (list ++ x ∷ []) k ≡ Some y → IsLine M k y
      each k y e =
          elim (cases_order k (length list)) [
            | inl same ↦
                let here : x ≡ y = some_same (sym (get_end list x) ∙ ap (λ (j : ℕ). slice_get (list ++ x ∷ []) j) (sym same) ∙ e) in
                let number : n ≡ k = let old = known.count in omega arith in
                subst (λ (z : NumberChain). IsLine M k z) here (subst (λ (j : ℕ). IsLine M j x) number its)
            | inr (inl below) ↦ known.each k y (sym (get_before list x k below) ∙ e)
            | inr (inr over) ↦ absurd (some_none (sym (slice_get_past (list ++ x ∷ []) k (let new = many in omega arith)) ∙ e))
          ]

  pub line_read : (n number : ℕ) (x : NumberChain) (list : List NumberChain) → AreLinesBelow M n list → slice_get list number ≡ Some x → IsLine M number x
  line_read n number x list known e = known.each number x e

pub alone_whole : (n m : ℕ) → m ≤ n → IsLine (points_of n) m (whole n)
alone_whole n m few = record {
  from = omega arith;
  to = few;
  inside = omega arith;
  joined = λ k low less. record { next = is_next n k less; only = λ w e. (next_is n k w e).1 };
  begins = λ k same its. absurd (omega arith);
  ends = λ its. let past = (next_is n n (n + 1) its.next).0 in omega arith;
}
