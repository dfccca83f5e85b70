use Rattle.std.proofs.Common.{◌≡◌, ℕ, ◌+◌, ◌-◌, length, subst, sym, ◌∙◌}
use Rattle.rept_maps.specs.Notes.Notes.{first_note}
use Rattle.rept_maps.specs.Notes.Found.{note_of}
use Rattle.rept_maps.specs.Notes.Sought.{is_sought}
use Rattle.rept_maps.proofs.NotesLemmas.NthLemmas.{none_passed, found_here, cut_here, all_passed, one_passed}
use Rattle.rept_maps.proofs.notes.nth.search_notes.Goals as goal

pub loop-rest-init : goal.loop-rest-init
loop-rest-init c = none_passed (is_sought c.args.kind) c.args.offset c.args.bytes.now c.args.skip

pub returns-in_default : goal.returns-in_default
returns-in_default c = λ notes a. absurd (cut_here (is_sought c.args.kind) c.args.offset c.args.bytes.now c.loop-rest.rest.now c.args.skip c.loop-rest.left c.loop-rest.invariant c.loop-rest-test.true c.in_default.ensures notes a)

pub returns-then-left-eq0 : goal.returns-then-left-eq0
returns-then-left-eq0 c =
    let bytes = c.args.bytes.now in
    let rest = c.loop-rest.rest.now in
    let placed : first_note (c.args.offset + (length bytes - length rest)) rest ≡ note_of c.in-Some.begun.note =
    subst (λ (o : ℕ). first_note (o + (length bytes - length rest)) rest ≡ note_of c.in-Some.begun.note) c.from.ensures c.in-Some.ensures.1 in
    λ notes a. found_here (is_sought c.args.kind) c.args.offset bytes rest c.args.skip c.loop-rest.left (note_of c.in-Some.begun.note) c.loop-rest.invariant c.loop-rest-test.true c.in-Some.ensures.0 placed
    (sym c.is_sought-sought.ensures ∙ c.if-sought.true) c.if-left-eq0.true notes a

pub loop-rest-preserved : goal.loop-rest-preserved
loop-rest-preserved c =
    let bytes = c.args.bytes.now in
    let rest = c.loop-rest.rest.now in
    let placed : first_note (c.args.offset + (length bytes - length rest)) rest ≡ note_of c.in-Some.begun.note =
    subst (λ (o : ℕ). first_note (o + (length bytes - length rest)) rest ≡ note_of c.in-Some.begun.note) c.from.ensures c.in-Some.ensures.1 in
    one_passed (is_sought c.args.kind) c.args.offset bytes rest c.in-Some.begun.after.now c.args.skip c.loop-rest.left c.pass-left.result (note_of c.in-Some.begun.note) c.is_sought-sought.result c.loop-rest.invariant c.in-Some.ensures.0 placed c.in-Some.ensures.2
    (sym c.is_sought-sought.ensures) c.pass-left.ensures

pub returns : goal.returns
returns c = λ notes a. all_passed (is_sought c.args.kind) c.args.offset c.args.bytes.now c.loop-rest.rest.now c.args.skip c.loop-rest.left c.loop-rest.invariant c.loop-rest-test.false notes a
