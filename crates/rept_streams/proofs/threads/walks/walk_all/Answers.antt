use Rattle.std.proofs.Common.{◌∷◌, ◌+◌, List, drop, refl, sym, subst}
use Rattle.rept_path.specs.Program.{code_of}
use Rattle.rept_streams.specs.Slices.Parts.{slices_told}
use Rattle.rept_streams.specs.Slices.Skipping.{kept}
use Rattle.rept_streams.specs.Slices.Entries.{AreEntriesOf}
use Rattle.rept_streams.specs.declared.slices.telling.StreamSlice.{StreamSlice}
use Rattle.rept_streams.proofs.SlicesLemmas.Lasting.{rest_whole}
use Rattle.rept_streams.proofs.ThreadsLemmas.Walking.{none_walked, first_left, one_walked, all_walked, may_walk}
use Rattle.rept_streams.proofs.threads.walks.walk_all.Goals as goal

pub loop-i-init : goal.loop-i-init
loop-i-init c = λ from lists a. none_walked (code_of c.args.program.now) (slices_told (kept from lists)) c.args.slices.now _ a c.new.ensures.items c.new-2.ensures.items refl

pub add_stretch-requires-clause-told : goal.add_stretch-requires-clause-told
add_stretch-requires-clause-told c =
    let q = c.requires in
    let es = c.args.slices.now in
    let i = c.loop-i.i in
    let f = first_left (code_of c.args.program.now) (slices_told (kept q.0 q.1)) es i c.loop-i.walks c.loop-i-test.true (c.loop-i.invariant q.0 q.1 q.2) in
    let m = may_walk (code_of c.args.program.now) q.0 q.1 (drop i es) (drop (i + 1) es) c.loop-i.walks q.3 f in
    (f.t, f.later, subst (λ (xs : List StreamSlice). AreEntriesOf xs (f.t ∷ f.later)) (sym (rest_whole es i)) f.are, m.0, m.1)

pub returns-in-Err-clause-err : goal.returns-in-Err-clause-err
returns-in-Err-clause-err c = λ from lists a.
    let es = c.args.slices.now in
    let i = c.loop-i.i in
    let f = first_left (code_of c.args.program.now) (slices_told (kept from lists)) es i c.loop-i.walks c.loop-i-test.true (c.loop-i.invariant from lists a) in
    c.in-Err.ensures.err from lists f.before f.later f.t f.ws f.same (subst (λ (xs : List StreamSlice). AreEntriesOf xs (f.t ∷ f.later)) (sym (rest_whole es i)) f.are) f.walked f.keeps

pub loop-i-preserved : goal.loop-i-preserved
loop-i-preserved c = λ from lists a.
    let es = c.args.slices.now in
    let i = c.loop-i.i in
    let f = first_left (code_of c.args.program.now) (slices_told (kept from lists)) es i c.loop-i.walks c.loop-i-test.true (c.loop-i.invariant from lists a) in
    one_walked (code_of c.args.program.now) (slices_told (kept from lists)) (drop i es) (drop (i + 1) es) c.loop-i.walks c.add_stretch.new.walks f
    (c.in_default.ensures.ok from lists f.before f.later f.t f.ws f.same (subst (λ (xs : List StreamSlice). AreEntriesOf xs (f.t ∷ f.later)) (sym (rest_whole es i)) f.are) f.walked f.keeps)

pub returns-clause-ok : goal.returns-clause-ok
returns-clause-ok c = λ from lists a. all_walked (code_of c.args.program.now) (slices_told (kept from lists)) c.args.slices.now c.loop-i.i c.loop-i.walks c.loop-i-test.false (c.loop-i.invariant from lists a)
