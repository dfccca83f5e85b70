-- Names of which none is next to itself, and what an analysis wants of rows and moments.
use Rattle.std.proofs.Common.{◌≡◌, ◌≢◌, ℕ, suc, eqb, Bool, true, false, List, Option, Some, None, inl, inr, refl, sym, ap, ◌∙◌, arith}
use Rattle.std.proofs.lemmas.Bool.{ne_eqb}
use Rattle.rept_isa.specs.declared.row.StepRow.{StepRow}
use Rattle.rept_steps.specs.Course.{Course, Row, row_of, IsRow, IsSoundCourse}
use Rattle.rept_order.specs.Moments.{Moment, Stretch, stretch, ArePause}
use Rattle.rept_order.specs.Moments.Moment.{before, after, at_end}
use Rattle.rept_order.specs.Moments.ArePause.{between, last}
use Rattle.rept_span.specs.Ranges.{AreLegs}
use Rattle.rept_report.specs.Moments.{AreMoments}
use Rattle.rept_report.proofs.OneThread.{rows_within, are_points}
use Rattle.rept_moments.specs.Naming.Names.{MomentNames, AreNames}
use Rattle.rept_moments.proofs.NamingLemmas.Naming.{are_legs, are_moments}
use Rattle.rept_moments.proofs.NamingLemmas.Making.{are_names_by}
use Rattle.rept_moments.specs.Ordering.{in_order}
use Rattle.rept_moments.specs.Numbers.{unless, apart, numbers_of}
use Rattle.rept_moments.specs.Seen.{alone_by, seen_by, seen}
use Rattle.rept_moments.proofs.Listing.{are_listed}

before_after : {q r : Row} → before q ≡ after r → ⊥
before_after e = cc

before_end : {q : Row} → before q ≡ at_end → ⊥
before_end e = cc

after_same : {q r : Row} → after q ≡ after r → q ≡ r
after_same e = cc

before_same : {q r : Row} → before q ≡ before r → q ≡ r
before_same e = cc

none_some : {x : Stretch} → None ≡ Some x → ⊥
none_some e = cc

-- no pause begins before a row
pub no_pause : (C : Course) (r : Row) (w : Moment) (x : Stretch) → x ≡ stretch (before r) w → ArePause C x → ⊥
no_pause C r w x is (between t i less same) = before_after (ap (λ (y : Stretch). y.from) (sym is ∙ same))
no_pause C r w x is (last t i all same) = before_after (ap (λ (y : Stretch). y.from) (sym is ∙ same))

-- nor goes back to before its row
no_return : (C : Course) (r : Row) (x : Stretch) → x ≡ stretch (after r) (before r) → ArePause C x → ⊥
no_return C r x is (between t i less same) =
    let from : r ≡ row_of t i = after_same (ap (λ (y : Stretch). y.from) (sym is ∙ same)) in
    let to : r ≡ row_of t (suc i) = before_same (ap (λ (y : Stretch). y.to) (sym is ∙ same)) in
    let step : i ≡ suc i = ap (λ (q : Row). q.step) (sym from ∙ to) in
    absurd (omega arith)
no_return C r x is (last t i all same) = before_end (ap (λ (y : Stretch). y.to) (sym is ∙ same))

-- the moments of one row have two names
two_names : (C : Course) (N : MomentNames) → AreNames C N → (r : Row) → IsRow C r → N.name (before r) ≢ N.name (after r)
two_names C N names r is same =
    elim (names.own (before r) is) [
      | inr one ↦ no_pause C r (N.last (N.name (before r))) (stretch (before r) (N.last (N.name (before r)))) refl one.pause
      | inl first ↦
          elim (names.own (after r) is) [
            | inl own ↦ before_after (first ∙ ap N.last same ∙ sym own)
            | inr one ↦ no_return C r (stretch (after r) (N.last (N.name (after r)))) (ap (λ (y : Moment). stretch (after r) y) (ap N.last (sym same) ∙ sym first)) one.pause
          ]
    ]

kept_link : (b : Bool) (o : Option Stretch) (x : Stretch) → unless b o ≡ Some x → o ≡ Some x
kept_link true o x e = absurd (none_some e)
kept_link false o x e = e

other_link : (N : MomentNames) (m w : ℕ) → m ≢ w → (apart N).link m w ≡ N.link m w
other_link N m w other = ap (λ (b : Bool). unless b (N.link m w)) (ne_eqb m w other)

pub are_apart : (C : Course) (N : MomentNames) → AreNames C N → AreNames C (apart N)
are_apart C N names = record {
  one = names.one;
  own = names.own;
  few = names.few;
  named = names.named;
  end = names.end;
  links = λ m w x e. let its = names.links m w x (kept_link (eqb m w) (N.link m w) x e) in record { from = its.from; to = its.to; from_name = its.from_name; to_name = its.to_name; next = its.next };
  linked = λ m w is its next other e. names.linked m w is its next other (sym (other_link N (N.name m) (N.name w) other) ∙ e);
  rows = λ r is plain. other_link N (N.name (before r)) (N.name (after r)) (two_names C N names r is) ∙ names.rows r is plain;
}

pub are_numbers : (C : Course) → IsSoundCourse C → AreNames C (numbers_of C)
are_numbers C sound = are_apart C _ (are_names_by C sound (in_order C) (are_listed C))

legs_by : (C : Course) (o : Option (List StepRow)) → AreLegs (seen_by C o).legs
legs_by C (Some rows) = rows_within rows
legs_by C None = are_legs C

moments_by : (C : Course) → IsSoundCourse C → (o : Option (List StepRow)) → AreMoments (seen_by C o).legs (seen_by C o).moments
moments_by C sound (Some rows) = are_points rows
moments_by C sound None = are_moments C sound (numbers_of C) (are_numbers C sound)

pub legs_seen : (C : Course) → AreLegs (seen C).legs
legs_seen C = legs_by C (alone_by C.threads C.untraced)

pub moments_seen : (C : Course) → IsSoundCourse C → AreMoments (seen C).legs (seen C).moments
moments_seen C sound = moments_by C sound (alone_by C.threads C.untraced)
