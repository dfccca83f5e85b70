use Rattle.std.proofs.Common.{◌≡◌, ℕ, ◌+◌, ◌<◌, length, refl, sym, ap, ◌∙◌, subst, arith}
use Rattle.rept_steps.specs.Course.{rows_of}
use Rattle.rept_order.specs.Legs.{points_before, point_at}
use Rattle.rept_moments.specs.declared.side.PointOfThread.{PointOfThread}
use Rattle.rept_moments.proofs.Standing.{thread_of, last_is}
use Rattle.rept_moments.proofs.many.Many.last_of.Goals as goal

pub first-requires : goal.first-requires
first-requires c = subst (λ (p : PointOfThread). p.thread < length c.args.self.now.threads) (sym c.place-thread.ensures) (thread_of c.args.self.now c.args.point c.requires)

pub rows-requires : goal.rows-requires
rows-requires c = subst (λ (p : PointOfThread). p.thread < length c.args.self.now.threads) (sym c.place-thread.ensures) (thread_of c.args.self.now c.args.point c.requires)

pub returns : goal.returns
returns c =
    let thread : c.place-thread.result.thread ≡ (point_at c.args.self.now c.args.point).thread = ap (λ (p : PointOfThread). p.thread) c.place-thread.ensures in
    let first : c.first.result ≡ points_before c.args.self.now.threads (point_at c.args.self.now c.args.point).thread = c.first.ensures ∙ ap (λ (t : ℕ). points_before c.args.self.now.threads t) thread in
    let rows : c.rows.result ≡ length (rows_of c.args.self.now (point_at c.args.self.now c.args.point).thread) = c.rows.ensures.value ∙ ap (λ (t : ℕ). length (rows_of c.args.self.now t)) thread in
    last_is c.args.self.now c.args.point c.requires (c.first.result + c.rows.result) c.first.result c.rows.result first rows refl (omega (arith, c.rows.ensures.inside, c.first.ensures))
