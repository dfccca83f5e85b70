use Rattle.std.proofs.Common.{◌≡◌, ℕ, suc, ◌-◌, ◌++◌, List, Bool, false, true, arith, ap, sym, ◌∙◌, append_assoc}
use Rattle.std.specs.Prelude.{◌&&◌, slice_get}
use Rattle.std.specs.List.{filter}
use Rattle.rept_isa.specs.declared.row.StepRow.{StepRow}
use Rattle.rept_findings.specs.Texts.{at}
use Rattle.rept_questions.specs.Spots.{one_where}
use Rattle.rept_questions.specs.Trail.{falling}
use Rattle.rept_questions.specs.Writers.{is_some_writer, is_store, writes_some}
use Rattle.rept_questions.proofs.WriterLemmas.{and_false, falling_where, skip_quiet}
use Rattle.rept_questions.proofs.writers.look_back.Goals as goal

pub returns-then-not-is_store-clause-same : goal.returns-then-not-is_store-clause-same
returns-then-not-is_store-clause-same g c =
    let s = g.F.Findings.shown c.args.findings.now in
    let b = c.args.bytes in
    let t = c.args.at.thread in
    let p = c.args.at.point in
    let old = c.args.steps.now.items in
    let test : ℕ → Bool = λ k. writes_some s b (at t k) in
    let one : p ≡ suc (p - 1) = omega (arith, c.requires.some) in
    let store_is : c.is_store.result ≡ is_store (slice_get (s.rows t) (p - 1)) = c.is_store.ensures.value ∙ ap (λ (rows : List StepRow). is_store (slice_get rows (p - 1))) c.rows.ensures.list in
    let no_store : is_store (slice_get (s.rows t) (p - 1)) ≡ false = sym store_is ∙ c.if-not-is_store.true in
    let fails : test (p - 1) ≡ false = ap (λ (q : Bool). q && is_some_writer s b (at t (p - 1))) no_store in
    ap (λ (xs : List ℕ). old ++ xs) (falling_where test p (p - 1) one ∙ ap (λ (q : Bool). one_where q (p - 1) ++ filter test (falling (p - 1))) fails)

pub returns-clause-same : goal.returns-clause-same
returns-clause-same g c =
    let s = g.F.Findings.shown c.args.findings.now in
    let b = c.args.bytes in
    let t = c.args.at.thread in
    let p = c.args.at.point in
    let old = c.args.steps.now.items in
    let w = c.is_some_writer-writes.result in
    let r = c.next_below.result in
    let test : ℕ → Bool = λ k. writes_some s b (at t k) in
    let one : p ≡ suc (p - 1) = omega (arith, c.requires.some) in
    let store_is : c.is_store.result ≡ is_store (slice_get (s.rows t) (p - 1)) = c.is_store.ensures.value ∙ ap (λ (rows : List StepRow). is_store (slice_get rows (p - 1))) c.rows.ensures.list in
    let stores : is_store (slice_get (s.rows t) (p - 1)) ≡ true = sym store_is ∙ c.if-not-is_store.false in
    let passes : test (p - 1) ≡ w = ap (λ (q : Bool). q && is_some_writer s b (at t (p - 1))) stores ∙ sym c.is_some_writer-writes.ensures in
    let grown : c.push_where.new.points.items ≡ old ++ one_where w (p - 1) = c.in_ok-push_where.ensures in
    let rest : filter test (falling (p - 1)) ≡ filter test (falling r) =
    skip_quiet test (p - 1) r c.next_below.ensures.within (λ k over upto. and_false (is_store (slice_get (s.rows t) k)) _ (c.next_below.ensures.quiet k over upto))
    in
    ap (λ (xs : List ℕ). old ++ xs)
    (falling_where test p (p - 1) one ∙ ap (λ (q : Bool). one_where q (p - 1) ++ filter test (falling (p - 1))) passes ∙ ap (λ (xs : List ℕ). one_where w (p - 1) ++ xs) rest)
    ∙ sym (append_assoc old (one_where w (p - 1)) (filter test (falling r))) ∙ ap (λ (xs : List ℕ). xs ++ filter test (falling r)) (sym grown)
