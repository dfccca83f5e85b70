use Rattle.std.proofs.Common.{◌≡◌, ℕ, ◌+◌, ◌++◌, ◌∷◌, List, arith, ap, sym, ◌∙◌, map, reverse, take, slice_get}
use Rattle.std.specs.List.{flat_map, range_with_len}
use Rattle.std.specs.Prelude.{Option}
use Rattle.std.specs.Option.{option_and_then, option_map}
use Rattle.rept_elf.specs.Symbols.{symbol_of}
use Rattle.rept_elf.specs.declared.symbol.Symbol.{Symbol}
use Rattle.rept_isa.specs.declared.row.StepRow.{StepRow}
use Rattle.rept_questions.specs.Frames.Frames.{frames_of}
use Rattle.rept_questions.specs.declared.frames.frames.Frame.{Frame}
use Rattle.rept_findings.specs.Texts.{pc_at}
use Rattle.rept_questions.specs.Texts.{frame_line, stack_lines}
use Rattle.rept_questions.proofs.StackLemmas.{named_line}
use Rattle.rept_findings.proofs.TextLemmas.{grown_whole}
use Rattle.rept_questions.proofs.stack.stack_text.Goals as goal

pub loop-k-preserved : goal.loop-k-preserved
loop-k-preserved g c =
    let s = g.F.Findings.shown c.args.findings.now in
    let stack = c.address_at-pc.result ∷ reverse (map (λ (f : Frame). f.at) c.in_ok-frames.frames.items) in
    let f : ℕ → List ℕ = λ k. frame_line s k (slice_get stack k) in
    grown_whole f 0 c.loop-k.k c.loop-k.k (c.loop-k.k + 1) c.loop-k.text c.push_place.new.text (omega arith) (omega arith) c.loop-k.invariant
    (c.in_ok-push_place.ensures
    ∙ ap (λ (line : List ℕ). c.loop-k.text ++ line)
    (named_line s stack c.in_ok-places.places.items c.in_ok-functions.functions.items c.loop-k.k c.place_at-place.result c.function_at-function.result (omega arith)
    (c.in_ok-places.ensures ∙ ap (λ (fs : List Frame). take 256 (c.address_at-pc.result ∷ reverse (map (λ f. f.at) fs))) c.as_slice.ensures.value)
    (c.in_ok-functions.ensures ∙ ap (map s.symbol) c.as_slice-2.ensures.value)
    (c.place_at-place.ensures ∙ ap (λ (xs : List ℕ). slice_get xs c.loop-k.k) c.as_slice-in-loop-k.ensures.value)
    (c.function_at-function.ensures ∙ ap (λ (fs : List (Option Symbol)). option_and_then (λ f. f) (slice_get (map (option_map symbol_of) fs) c.loop-k.k)) c.as_slice-in-loop-k-2.ensures.value)))

pub returns : goal.returns
unfolding stack_lines
returns g c =
    let s = g.F.Findings.shown c.args.findings.now in
    let all : c.loop-k.k ≡ 256 = omega arith in
    let lines : ℕ → List Frame → ℕ → List ℕ = λ pc fs n. flat_map (λ k. frame_line s k (slice_get (pc ∷ reverse (map (λ f. f.at) fs)) k)) (range_with_len 0 n) in
    c.loop-k.invariant ∙ ap (lines c.address_at-pc.result c.in_ok-frames.frames.items) all ∙ ap (λ pc. lines pc c.in_ok-frames.frames.items 256) c.address_at-pc.ensures ∙ ap (λ (fs : List Frame). lines (pc_at s c.args.at) fs 256) (c.in_ok-frames.ensures ∙ ap (λ (rows : List StepRow). frames_of (take c.args.at.point rows)) c.rows.ensures.list)
