use Rattle.std.proofs.Common.{◌≡◌, ℕ, true, false, Option, ap, subst, ◌∙◌, arith}
use Rattle.rept_steps.specs.Course.{Course, IsSoundCourse}
use Rattle.rept_moments.specs.Edges.{end_at}
use Rattle.rept_order.specs.Crossing.Writers.{not_past}
use Rattle.rept_moments.proofs.Places.{below_in}
use Rattle.rept_moments.proofs.Reaching.{slice_leads, taken_none, taken_more, taken_all}
use Rattle.rept_moments.proofs.many.Many.add_begun.Goals as goal

pub end-requires : goal.end-requires
end-requires c = below_in c.self.inside.points c.args.self.now c.args.side.point c.self.view_is c.requires.row

pub loop-place-init : goal.loop-place-init
loop-place-init c = taken_none c.args.self.now c.args.side c.args.last c.args.begins.now c.args.own c.args.list.now.items c.after-start.result

pub add_later-requires-clause-first : goal.add_later-requires-clause-first
add_later-requires-clause-first c =
    let less = c.loop-place-test.true in
    let few = c.after-end.ensures.few in
    slice_leads c.args.self.now c.args.begins.now c.requires.begins c.loop-place.place c.first.result (omega arith) c.first.ensures

pub loop-place-preserved : goal.loop-place-preserved
loop-place-preserved c =
    let sound : IsSoundCourse c.args.self.now = subst IsSoundCourse c.self.view_is c.self.invariant.sound in
    let end : c.end.result ≡ end_at c.args.self.now c.args.side = c.end.ensures ∙ ap (λ (D : Course). end_at D c.args.side) c.self.view_is in
    taken_more c.args.self.now sound c.args.side c.args.last c.args.begins.now c.requires.begins c.after-start.result c.after-end.result
    (λ k b order there. subst (λ (o : Option ℕ). not_past o b.begin ≡ false) end (c.after-start.ensures.after k b order there))
    (λ k b less there. c.after-end.ensures.before k b less there)
    c.args.own c.args.list.now.items c.loop-place.list.items c.add_later.new.list.items c.loop-place.place c.first.result c.loop-place-test.true c.after-end.ensures.few c.loop-place.auto.place c.first.ensures c.loop-place.invariant c.in_ok-add_later.ensures

pub returns : goal.returns
returns c =
    let sound : IsSoundCourse c.args.self.now = subst IsSoundCourse c.self.view_is c.self.invariant.sound in
    let end : c.end.result ≡ end_at c.args.self.now c.args.side = c.end.ensures ∙ ap (λ (D : Course). end_at D c.args.side) c.self.view_is in
    taken_all c.args.self.now sound c.args.side c.args.last c.args.begins.now c.requires.begins c.after-start.result c.after-end.result
    (λ k b order there. subst (λ (o : Option ℕ). not_past o b.begin ≡ false) end (c.after-start.ensures.after k b order there))
    (λ k b less there. c.after-end.ensures.before k b less there)
    (λ k b less there. subst (λ (o : Option ℕ). not_past o b.begin ≡ true) end (c.after-start.ensures.before k b less there))
    (λ k b order there. c.after-end.ensures.after k b order there)
    c.args.own c.args.list.now.items c.loop-place.list.items c.loop-place.place c.loop-place-test.false c.loop-place.invariant
