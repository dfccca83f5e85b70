-- Of each byte and moment one thing alone is said of the writer.
use Rattle.std.proofs.Common.{◌≡◌, ◌≢◌, inl, inr, refl, sym, ap, ◌∙◌, subst}
use Rattle.std.proofs.lemmas.Bool.{cases_Bool, false≢true}
use Rattle.rept_steps.specs.Course.{Course, Row, IsSoundCourse}
use Rattle.rept_order.specs.Events.{first_event, last_event, Precedes}
use Rattle.rept_order.specs.Moments.Act.{row}
use Rattle.rept_order.specs.Times.{same_row}
use Rattle.rept_order.specs.Writers.{Writer, Reach, CourseSpot, ComesLast, IsSureBefore, IsCourseWriter}
use Rattle.rept_order.specs.Writers.Writer.{writes, may_write, several, none}
use Rattle.rept_order.proofs.Sequence.{after_or, precedes_trans}
use Rattle.rept_order.proofs.Times.{precedes_irreflexive}
use Rattle.rept_order.proofs.Between.{row_forward}
use Rattle.rept_order.proofs.Decide.{row_true, row_self}

same_act : {q r : Row} → row q ≡ row r → q ≡ r
same_act e = cc

module _ (C : Course) (sound : IsSoundCourse C) (can : Reach) (s : CourseSpot) where
  one_last : (q r : Row) → ComesLast C can s q → ComesLast C can s r → q ≡ r
  one_last q r h k =
      elim (cases_Bool (same_row q r)) [
        | inl same ↦ row_true q r same
        | inr differs ↦
            let apart : row q ≢ row r = λ e. false≢true (sym differs ∙ row_self q r (same_act e)) in
            let one : Precedes C (last_event C q) (first_event C r) = k.others (row q) h.candidate apart in
            let other : Precedes C (last_event C r) (first_event C q) = h.others (row r) k.candidate (λ e. apart (sym e)) in
            let to_last : Precedes C (first_event C r) (first_event C q) = after_or C _ _ _ (row_forward C r k.candidate.is) other in
            let back : Precedes C (first_event C q) (first_event C r) = after_or C _ _ _ (row_forward C q h.candidate.is) one in
            absurd (precedes_irreflexive C sound (first_event C q) (precedes_trans C _ _ _ back to_last))
      ]

  sure_moved : (q r : Row) → ComesLast C can s q → ComesLast C can s r → IsSureBefore C can s q → (IsSureBefore C can s r → ⊥) → ⊥
  sure_moved q r h k sure out = out (subst (λ (x : Row). IsSureBefore C can s x) (one_last q r h k) sure)

  pub one_writer : (v w : Writer) → IsCourseWriter C can s v → IsCourseWriter C can s w → v ≡ w
  one_writer (writes q) (writes r) h k = ap (λ (x : Row). writes x) (one_last q r h.0 k.0)
  one_writer (writes q) (may_write r) h k = absurd (sure_moved q r h.0 k.0 h.1 k.1)
  one_writer (writes q) several h k = absurd (k.1 q h.0)
  one_writer (writes q) none h k = absurd (k (row q) h.0.candidate)
  one_writer (may_write q) (writes r) h k = absurd (sure_moved r q k.0 h.0 k.1 h.1)
  one_writer (may_write q) (may_write r) h k = ap (λ (x : Row). may_write x) (one_last q r h.0 k.0)
  one_writer (may_write q) several h k = absurd (k.1 q h.0)
  one_writer (may_write q) none h k = absurd (k (row q) h.0.candidate)
  one_writer several (writes r) h k = absurd (h.1 r k.0)
  one_writer several (may_write r) h k = absurd (h.1 r k.0)
  one_writer several several h k = refl
  one_writer several none h k = absurd (k h.0.0 h.0.1)
  one_writer none (writes r) h k = absurd (h (row r) k.0.candidate)
  one_writer none (may_write r) h k = absurd (h (row r) k.0.candidate)
  one_writer none several h k = absurd (h k.0.0 k.0.1)
  one_writer none none h k = refl
