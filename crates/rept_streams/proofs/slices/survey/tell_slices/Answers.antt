use Rattle.std.proofs.Common.{ℕ, List, map, subst, ap, arith}
use Rattle.std.specs.List.{sum_by}
use Rattle.rept_streams.specs.Slices.Lefts.{AreLeft}
use Rattle.rept_streams.specs.Slices.Skipping.{full_from, from_time}
use Rattle.rept_streams.specs.Slices.Windows.{skipped_of}
use Rattle.rept_streams.specs.declared.slices.reading.StreamWindow.{StreamWindow}
use Rattle.rept_streams.proofs.SlicesLemmas.WindowLemmas.{all_skipped}
use Rattle.rept_streams.proofs.slices.survey.tell_slices.Goals as goal

pub skipped-requires : goal.skipped-requires
skipped-requires c =
    let q = c.requires.left in
    let kept = subst (λ (t : ℕ). AreLeft c.in_ok-left.left.items (map (from_time t) q.0)) (c.full_from-time.ensures q.0 q.1) (c.in_ok-left.ensures.ok q.0 q.1) in
    let counts = c.in_ok-left.ensures.counts in
    let few = c.requires.few in
    let all = all_skipped c.in_ok-left.left.items (map (from_time (full_from q.0)) q.0) kept in
    let seen = ap (λ (ws : List StreamWindow). sum_by skipped_of ws) c.deref.ensures.value in
    omega (arith, counts, few, all, seen)

pub returns-clause-skipped : goal.returns-clause-skipped
returns-clause-skipped c = λ lefts a.
    let kept = subst (λ (t : ℕ). AreLeft c.in_ok-left.left.items (map (from_time t) lefts)) (c.full_from-time.ensures lefts a) (c.in_ok-left.ensures.ok lefts a) in
    let counts = c.in_ok-left.ensures.counts in
    let all = all_skipped c.in_ok-left.left.items (map (from_time (full_from lefts)) lefts) kept in
    let seen = ap (λ (ws : List StreamWindow). sum_by skipped_of ws) c.deref.ensures.value in
    let is = c.skipped.ensures in
    omega (arith, counts, all, seen, is)
