use Rattle.std.proofs.Common.{◌≡◌, ℕ, ◌+◌, ◌≤◌, length, Option, Some, IfSome, subst, ap, ◌∙◌, arith}
use Rattle.std.proofs.lemmas.Result.{on_ok_weaker, on_err_weaker}
use Rattle.rept_known.specs.Both.{both_sets}
use Rattle.rept_narrow.proofs.Sentences.{inside_rows}
use Rattle.rept_narrow.proofs.Computing.{result_sound}
use Rattle.rept_narrow.proofs.exact.operated.Goals as goal

pub returns-in-Some-clause-keeps : goal.returns-in-Some-clause-keeps
returns-in-Some-clause-keeps c =
    let both = subst (λ (o : Option (ℕ × ℕ)). IfSome o (λ v. (both_sets.as_exact c.at-first.result ≡ Some v.0) × (both_sets.as_exact c.at-second.result ≡ Some v.1))) c.in-Some.is c.both_values.ensures in
    on_ok_weaker c.narrow.result (λ keeps story at run h. keeps story run h ((result_sound story c.args.table.now c.args.index c.args.operation.op c.args.operation.rd c.args.operation.rs1 c.args.operation.rs2 c.in-Some.values.0 c.in-Some.values.1 c.args.row.now c.at-first.result c.at-second.result c.exact-made.result at c.requires.form c.requires.named c.at-first.ensures.value both.0 c.at-second.ensures.value both.1 (c.exact-made.ensures ∙ ap both_sets.exact c.computed.ensures)) run h)) c.narrow.ensures.keeps

pub returns-in-Some-clause-refuses : goal.returns-in-Some-clause-refuses
returns-in-Some-clause-refuses c =
    let both = subst (λ (o : Option (ℕ × ℕ)). IfSome o (λ v. (both_sets.as_exact c.at-first.result ≡ Some v.0) × (both_sets.as_exact c.at-second.result ≡ Some v.1))) c.in-Some.is c.both_values.ensures in
    on_err_weaker c.narrow.result (λ refuses story at.
    let inside = inside_rows story.rows c.args.index c.args.row.now at in
    let last : c.args.index + 1 ≤ length story.rows = omega (arith, inside) in
    λ run h. refuses story run h ((result_sound story c.args.table.now c.args.index c.args.operation.op c.args.operation.rd c.args.operation.rs1 c.args.operation.rs2 c.in-Some.values.0 c.in-Some.values.1 c.args.row.now c.at-first.result c.at-second.result c.exact-made.result at c.requires.form c.requires.named c.at-first.ensures.value both.0 c.at-second.ensures.value both.1 (c.exact-made.ensures ∙ ap both_sets.exact c.computed.ensures)) run h) last) c.narrow.ensures.refuses
