use Rattle.std.proofs.Common.{◌≡◌, ◌≤◌, ℕ, length, sym, subst}
use Rattle.rept_narrow.specs.Sweeps.{memory_of}
use Rattle.rept_infer.proofs.sweeping.note_at.Goals as goal

pub returns-in_ok-note-in-Some-clause-holds : goal.returns-in_ok-note-in-Some-clause-holds
returns-in_ok-note-in-Some-clause-holds g c = λ story run le around t.
    let inside : c.point-point.result ≤ length story.rows = subst (λ (n : ℕ). n ≤ length story.rows) (sym c.point-point.ensures) le in
    let byte : (run c.point-point.result).memory c.args.address ≡ c.in-Some.value = c.in-Some.ensures story run inside around in
    c.in_ok-note-in-Some.ensures.holds (memory_of run) (subst (λ (n : ℕ). (run n).memory c.args.address ≡ c.in-Some.value) c.point-point.ensures byte) t
