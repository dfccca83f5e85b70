-- What the answer on a writer says holds in each execution.
use Rattle.std.proofs.Common.{◌≡◌, ℕ, ◌<◌, true, refl, arith}
use Rattle.rept_steps.specs.Course.{Course, Row}
use Rattle.rept_order.specs.Moments.{IsMoment, Act, IsAct, may_by}
use Rattle.rept_order.specs.Moments.Moment.{before, after}
use Rattle.rept_order.specs.Moments.Act.{row, untraced}
use Rattle.rept_order.specs.History.{Ending, History, IsExecution, tick}
use Rattle.rept_order.specs.Writing.{ActWrites, By, Covers}
use Rattle.rept_order.specs.Writers.{Writer, Reach, CourseSpot, IsCourseCandidate, ComesLast, IsCourseWriter, NoneWrites, WriterHoldsInHistory, SurelyWrites}
use Rattle.rept_order.specs.Writers.Writer.{writes, may_write, several, none}
use Rattle.rept_order.proofs.Ticks.{order_kept}
use Rattle.rept_order.proofs.Keeps.{act_is, acts_before, acts_after}

module _ (C : Course) (D : Ending) (can : Reach) (h : History) (covers : Covers C D h can.may) (sure : SurelyWrites C D h can) (x : IsExecution C D h) (s : CourseSpot) (is : IsMoment C s.moment) where
  may_cover : (act : Act) → IsAct C act → ActWrites C D h act s.address → may_by can.may act s.address ≡ true
  may_cover (row r) inside w = covers r s.address inside w
  may_cover untraced inside w = refl

  acts_candidate : (act : Act) (k : ℕ) → k < tick C h s.moment → k < h.ticks → By (h.happening k) act → ActWrites C D h act s.address → IsCourseCandidate C can s act
  acts_candidate act k below last by w =
      let inside = act_is C D h x act k last by in
      record {
        is = inside;
        may = may_cover act inside w;
        not_after = λ way. let past = acts_after C D h x act k s.moment last by is way in omega arith;
      }

  last_holds : (r : Row) → ComesLast C can s r → NoneWrites C D h s (tick C h (before r)) (λ act. act ≡ row r)
  last_holds r c = record {
    none = λ act k other from below last by w.
        let way = c.others act (acts_candidate act k below last by w) other in
        let past = acts_before C D h x act k (before r) last by c.candidate.is way in
        omega arith;
  }

  pub writer_holds : (writer : Writer) → IsCourseWriter C can s writer → WriterHoldsInHistory C D h s writer
  writer_holds (writes r) k = (sure r s.address k.0.candidate.is k.1.sure k.0.candidate.may, order_kept C D h x (after r) s.moment k.0.candidate.is is k.1.before, last_holds r k.0)
  writer_holds (may_write r) k = last_holds r k.0
  writer_holds several k = tt
  writer_holds none k = record { none = λ act i other from below last by w. k act (acts_candidate act i below last by w) }
