use Rattle.std.proofs.Common.{◌≡◌, ◌∷◌, [], ◌++◌, List, ℕ, length, sym, ap, arith, ◌∙◌}
use Rattle.std.proofs.lemmas.List.FromFn.{map-range_with_len_more}
use Rattle.rept_isa.specs.declared.row.StepRow.{StepRow}
use Rattle.rept_stub.proofs.cursors.Cursors.new.Goals as goal

pub loop-thread-preserved : goal.loop-thread-preserved
loop-thread-preserved g c =
    let s = g.F.Findings.shown c.args.findings.now in
    let f : ℕ → ℕ = λ t. length (s.rows t) in
    c.in_ok-push.ensures.items ∙ ap (λ (rows : List StepRow). c.loop-thread.points.items ++ length rows ∷ []) c.rows.ensures.list
    ∙ ap (λ (ps : List ℕ). ps ++ f c.loop-thread.thread ∷ []) c.loop-thread.invariant ∙ sym (map-range_with_len_more f 0 c.loop-thread.thread c.loop-thread.thread (omega arith))
