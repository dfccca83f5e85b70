use Rattle.std.proofs.Common.{rules, ◌≡◌, true, subst, ◌+◌, ◌-◌, ◌%◌}
use Rattle.rept_alias.specs.declared.addresses.Access.{Access}
use Rattle.rept_alias.specs.Accesses.{hits, between, access_of}
use Rattle.rept_alias.specs.Laws.AccessLemmas.{exact, narrower, some_width, few_width}
use Rattle.rept_alias.proofs.based.access.Goals as goal

pub returns-then-stays_inside-clause-exact : goal.returns-then-stays_inside-clause-exact
returns-then-stays_inside-clause-exact c =
    let is : between c.plus.result ((c.plus-then-stays_inside.result + (c.from-last.result - 1)) % 4294967296) ≡ access_of c.args.base c.args.imm c.args.width = search rules in
    λ one a fits t. exact c.args.base c.args.imm c.args.width a (some_width c.args.width c.requires) (few_width c.args.width c.requires) one fits (subst (λ (x : Access). hits x a ≡ true) is t)

pub returns-then-stays_inside-clause-monotone : goal.returns-then-stays_inside-clause-monotone
returns-then-stays_inside-clause-monotone c =
    let is : between c.plus.result ((c.plus-then-stays_inside.result + (c.from-last.result - 1)) % 4294967296) ≡ access_of c.args.base c.args.imm c.args.width = search rules in
    λ wider a w t. narrower c.args.base wider c.args.imm c.args.width a (some_width c.args.width c.requires) (few_width c.args.width c.requires) w (subst (λ (x : Access). hits x a ≡ true) is t)
