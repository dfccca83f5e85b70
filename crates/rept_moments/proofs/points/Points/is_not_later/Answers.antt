use Rattle.std.proofs.Common.{nat_lt, ℕ, ap, sym, subst, ◌∙◌, arith}
use Rattle.rept_steps.specs.Course.{IsSoundCourse}
use Rattle.rept_order.specs.Events.{event_slice}
use Rattle.rept_order.specs.Times.{begin_of}
use Rattle.rept_moments.specs.Naming.Numbered.{row_on}
use Rattle.rept_moments.specs.Ordering.{event_at}
use Rattle.rept_moments.proofs.Places.{leg_below, there_row}
use Rattle.rept_moments.proofs.Sooner.{ends_some, ends_none, sides_apart}
use Rattle.rept_moments.proofs.Turns.{own_decided}
use Rattle.rept_moments.proofs.points.Points.is_not_later.Goals as goal

pub thread-requires : goal.thread-requires
thread-requires c = let less = leg_below c.args.self.now c.args.one.point c.requires.one in omega arith

pub thread-requires-2 : goal.thread-requires-2
thread-requires-2 c = let less = leg_below c.args.self.now c.args.other.point c.requires.other in omega arith

pub end-requires : goal.end-requires
end-requires c = let less = leg_below c.args.self.now c.args.one.point c.requires.one in omega arith

pub begin-requires : goal.begin-requires
begin-requires c = let less = leg_below c.args.self.now c.args.other.point c.requires.other in omega arith

pub returns-then-thread : goal.returns-then-thread
returns-then-thread c =
    let sound : IsSoundCourse c.args.self.now = subst IsSoundCourse c.self.view_is c.self.invariant.sound in
    c.stands_by.ensures ∙ own_decided c.args.self.now sound c.args.one c.args.other (there_row c.args.self.now (row_on c.args.self.now c.args.one.point) c.requires.one) (there_row c.args.self.now (row_on c.args.self.now c.args.other.point) c.requires.other) (sym c.thread.ensures ∙ c.if-thread.true ∙ c.thread-2.ensures)

pub returns-in-Some : goal.returns-in-Some
returns-in-Some c =
    ap (λ (t : ℕ). nat_lt c.in-Some.end t) c.begin.ensures
    ∙ ends_some (event_slice c.args.self.now (event_at c.args.self.now c.args.one)) c.in-Some.end (begin_of c.args.self.now (event_at c.args.self.now c.args.other)) (sym c.end.ensures ∙ c.in-Some.is)
    ∙ sym (sides_apart c.args.self.now c.args.one c.args.other (λ same. c.if-thread.false (c.thread.ensures ∙ same ∙ sym c.thread-2.ensures)))

pub returns-in-None : goal.returns-in-None
returns-in-None c =
    ends_none (event_slice c.args.self.now (event_at c.args.self.now c.args.one)) (begin_of c.args.self.now (event_at c.args.self.now c.args.other)) (sym c.end.ensures ∙ c.in-None.is)
    ∙ sym (sides_apart c.args.self.now c.args.one c.args.other (λ same. c.if-thread.false (c.thread.ensures ∙ same ∙ sym c.thread-2.ensures)))
