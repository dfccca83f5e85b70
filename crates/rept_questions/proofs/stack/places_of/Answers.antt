use Rattle.std.proofs.Common.{◌≡◌, ◌∷◌, ◌∙◌, ap, arith, map, reverse, take}
use Rattle.rept_questions.specs.declared.frames.frames.Frame.{Frame}
use Rattle.rept_questions.proofs.StackLemmas.{one_place}
use Rattle.rept_questions.proofs.stack.places_of.Goals as goal

pub loop-k-preserved : goal.loop-k-preserved
loop-k-preserved c =
    one_place (c.args.pc ∷ reverse (map (λ (f : Frame). f.at) c.args.frames.now)) c.loop-k.k c.loop-k.places.items c.push_some.new.places.items c.place_of.result c.loop-k.invariant c.place_of.ensures c.in_ok-push_some.ensures

pub returns : goal.returns
returns c =
    let all : c.loop-k.k ≡ 256 = omega arith in
    c.loop-k.invariant ∙ ap (λ n. take n (c.args.pc ∷ reverse (map (λ (f : Frame). f.at) c.args.frames.now))) all
