use Rattle.std.proofs.Common.{◌<◌, ℕ, List, length, sym, subst}
use Rattle.rept_isa.specs.Numbers.{beside}
use Rattle.rept_relate.specs.declared.words.WordSlot.{WordSlot}
use Rattle.rept_relate.specs.Holding.{AreHeld, AreNodesBelow}
use Rattle.rept_relate.proofs.Summing.{any_err}
use Rattle.rept_relate.proofs.Rowing.{plain_of}
use Rattle.rept_relate.proofs.Remembering.{held_new, word_there}
use Rattle.rept_relate.proofs.storing.load_value.Goals as goal

pub returns-in_err-join_sum-in-Some-clause-refuses : goal.returns-in_err-join_sum-in-Some-clause-refuses
returns-in_err-join_sum-in-Some-clause-refuses c =
    let less : c.in-Some.known < length c.place_of.new.classes = subst (λ (n : ℕ). c.in-Some.known < n) (sym c.in_ok-place.ensures.len) (c.in-Some.ensures.below (length c.args.classes.now) (subst (λ (xs : List WordSlot). AreNodesBelow xs (length c.args.classes.now)) (sym c.deref.ensures.value) c.requires.below)) in
    any_err c.from_residual-in_err-join_sum-in-Some.result (λ value s zero small e valued held.
    let p = c.in_ok-place.ensures.keeps value zero small valued in
    let at = c.in-Some.ensures.word value s (subst (λ (xs : List WordSlot). AreHeld xs value s) (sym c.deref.ensures.value) held) in
    let same = word_there value s c.in_ok-place.place c.args.load.op (beside (value c.args.load.base) c.args.load.offset) c.args.load.node c.in-Some.known p.1 e at in
    let sum = plain_of value c.place_of.new.classes c.args.load.node c.in-Some.known less p.0 same in
    c.in_err-join_sum-in-Some.ensures.refuses value sum p.0)

pub returns-in-None-clause-keeps : goal.returns-in-None-clause-keeps
returns-in-None-clause-keeps c = λ value s zero small e valued held.
    let p = c.in_ok-place.ensures.keeps value zero small valued in
    (p.0, c.keep.ensures.held value s held (held_new value s c.in_ok-place.place c.args.load.op (beside (value c.args.load.base) c.args.load.offset) c.args.load.node p.1 (sym e)))

pub returns-in_ok-join_sum-in-Some-clause-keeps : goal.returns-in_ok-join_sum-in-Some-clause-keeps
returns-in_ok-join_sum-in-Some-clause-keeps c =
    let less : c.in-Some.known < length c.place_of.new.classes = subst (λ (n : ℕ). c.in-Some.known < n) (sym c.in_ok-place.ensures.len) (c.in-Some.ensures.below (length c.args.classes.now) (subst (λ (xs : List WordSlot). AreNodesBelow xs (length c.args.classes.now)) (sym c.deref.ensures.value) c.requires.below)) in
    λ value s zero small e valued held.
    let p = c.in_ok-place.ensures.keeps value zero small valued in
    let at = c.in-Some.ensures.word value s (subst (λ (xs : List WordSlot). AreHeld xs value s) (sym c.deref.ensures.value) held) in
    let same = word_there value s c.in_ok-place.place c.args.load.op (beside (value c.args.load.base) c.args.load.offset) c.args.load.node c.in-Some.known p.1 e at in
    let sum = plain_of value c.place_of.new.classes c.args.load.node c.in-Some.known less p.0 same in
    (c.in_ok-join_sum-in-Some.ensures.keeps value sum p.0, held)
