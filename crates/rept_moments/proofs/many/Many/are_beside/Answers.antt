use Rattle.std.proofs.Common.{◌≡◌, sym, subst, ◌∙◌}
use Rattle.std.proofs.lemmas.Bool.{false≢true}
use Rattle.rept_steps.specs.Course.{Course}
use Rattle.rept_moments.specs.Naming.Numbered.{row_on}
use Rattle.rept_moments.proofs.Places.{below_in}
use Rattle.rept_moments.proofs.Together.{beside_told, told_beside}
use Rattle.rept_moments.proofs.many.Many.are_beside.Goals as goal

pub thread-requires : goal.thread-requires
thread-requires c = below_in c.self.inside.points c.args.self.now c.args.one.point c.self.view_is c.requires.one

pub thread-requires-2 : goal.thread-requires-2
thread-requires-2 c = below_in c.self.inside.points c.args.self.now c.args.other.point c.self.view_is c.requires.other

pub is_alike-requires-clause-one : goal.is_alike-requires-clause-one
is_alike-requires-clause-one c = below_in c.self.inside.points c.args.self.now c.args.one.point c.self.view_is c.requires.one

pub is_alike-requires-clause-other : goal.is_alike-requires-clause-other
is_alike-requires-clause-other c = below_in c.self.inside.points c.args.self.now c.args.other.point c.self.view_is c.requires.other

pub returns-then-thread : goal.returns-then-thread
returns-then-thread c = (
  λ yes. beside_told c.self.inside.points c.args.self.now c.args.one c.args.other c.is_alike.result c.self.view_is (sym c.thread.ensures ∙ c.if-thread.true ∙ c.thread-2.ensures) c.is_alike.ensures yes,
  λ its. told_beside c.self.inside.points c.args.self.now c.args.one c.args.other c.is_alike.result c.self.view_is c.is_alike.ensures its,
)

pub returns-else-thread : goal.returns-else-thread
returns-else-thread c = (λ yes. absurd (false≢true yes), λ its. absurd (c.if-thread.false (c.thread.ensures ∙ subst (λ (D : Course). (row_on D c.args.one.point).thread ≡ (row_on D c.args.other.point).thread) (sym c.self.view_is) its.thread ∙ sym c.thread-2.ensures)))
