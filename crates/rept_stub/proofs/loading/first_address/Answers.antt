use Rattle.std.proofs.Common.{◌≡◌, ℕ, ◌≤◌, ◌+◌, ◌≢◌, ◌∙◌, List, Some, false, arith, drop, length, nat_eq, refl, rules, sym}
use Rattle.std.specs.Prelude.{slice_get}
use Rattle.std.proofs.lemmas.List.{at_drop_all}
use Rattle.rept_elf.specs.Image.{segment_of, segments_of}
use Rattle.rept_elf.specs.Segments.{ElfSegment}
use Rattle.rept_elf.proofs.SegmentLemmas.{drop-slice_get}
use Rattle.rept_stub.specs.CrashFiles.{first_address}
use Rattle.rept_stub.proofs.loading.first_address.Goals as goal

module _ (ss : List ElfSegment) (i : ℕ) where
  loads : (s : ElfSegment) → slice_get ss i ≡ Some s → s.kind ≡ 1 → first_address (drop i ss) ≡ Some s.vaddr
  loads s at load = rw (drop-slice_get ss i s at, load) refl

  passes : (s : ElfSegment) → slice_get ss i ≡ Some s → s.kind ≢ 1 → first_address (drop i ss) ≡ first_address (drop (i + 1) ss)
  passes s at other = rw (drop-slice_get ss i s at, not_same) refl
    where
      not_same : nat_eq s.kind 1 ≡ false
      not_same = search rules

pub returns-then-segment-eq-PT_LOAD : goal.returns-then-segment-eq-PT_LOAD
returns-then-segment-eq-PT_LOAD c =
    let ss = segments_of c.args.program.now in
    sym (c.loop-i.invariant ∙ loads ss c.loop-i.i (segment_of c.segment-segment.result) c.segment-segment.ensures.segment c.if-segment-eq-PT_LOAD.true)

pub loop-i-preserved : goal.loop-i-preserved
loop-i-preserved c =
    let ss = segments_of c.args.program.now in
    c.loop-i.invariant ∙ passes ss c.loop-i.i (segment_of c.segment-segment.result) c.segment-segment.ensures.segment c.if-segment-eq-PT_LOAD.false

pub returns : goal.returns
returns c =
    let ss = segments_of c.args.program.now in
    let past : length ss ≤ c.loop-i.i = (let count = c.count-i-end.ensures.count in let over = c.loop-i-test.false in omega (arith, count, over)) in
    sym (c.loop-i.invariant ∙ at_drop_all first_address ss c.loop-i.i past)
