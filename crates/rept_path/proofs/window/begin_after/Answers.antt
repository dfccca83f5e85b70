use Rattle.std.proofs.Common.{sym, ◌∙◌, inl, inr, subst, ℕ, Some, ◌++◌, ◌∷◌, [], ◌<◌, ◌≤◌, arith, length, Option}
use Rattle.rept_path.specs.declared.window.Begin.{Begin}
use Rattle.rept_path.specs.Survey.{number_in}
use Rattle.rept_path.specs.Trace.{IsWindow}
use Rattle.rept_path.proofs.Windows.{lost, found, still, still_none}
use Rattle.rept_path.proofs.window.begin_after.Goals as goal

pub returns-then-is_loss-clause-window : goal.returns-then-is_loss-clause-window
returns-then-is_loss-clause-window c = λ packets number w. lost packets c.args.packet c.args.from (sym c.is_loss.ensures ∙ c.if-is_loss.true)

pub returns-in-Some-clause-window : goal.returns-in-Some-clause-window
returns-in-Some-clause-window c = λ packets number w. still packets c.args.packet c.args.from c.in-Some.first.number (sym c.is_loss.ensures ∙ c.if-is_loss.false) (subst (λ (b : Option Begin). IsWindow packets c.args.from (number_in b)) c.in-Some.is w)

pub returns-then-not-is_start-clause-window : goal.returns-then-not-is_start-clause-window
returns-then-not-is_start-clause-window c = λ packets number w. still_none packets c.args.packet c.args.from (inl (sym c.is_start.ensures ∙ c.if-not-is_start.true)) (subst (λ (b : Option Begin). IsWindow packets c.args.from (number_in b)) c.in-None.is w)

pub returns-then-number-from-clause-window : goal.returns-then-number-from-clause-window
returns-then-number-from-clause-window c = λ packets number w. let lt : length packets < c.args.from = omega arith in still_none packets c.args.packet c.args.from (inr lt) (subst (λ (b : Option Begin). IsWindow packets c.args.from (number_in b)) c.in-None.is w)

pub returns-else-number-from-clause-window : goal.returns-else-number-from-clause-window
returns-else-number-from-clause-window c = λ packets number w. let le : c.args.from ≤ length packets = omega arith in subst (λ (n : ℕ). IsWindow (packets ++ c.args.packet ∷ []) c.args.from (Some n)) number (found packets c.args.packet c.args.from (sym c.is_start.ensures ∙ c.if-not-is_start.false) (sym c.is_loss.ensures ∙ c.if-is_loss.false) le (subst (λ (b : Option Begin). IsWindow packets c.args.from (number_in b)) c.in-None.is w))
