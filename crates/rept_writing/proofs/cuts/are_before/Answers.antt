use Rattle.std.proofs.Common.{◌≡◌, ◌∙◌, ◌-◌, None, true, false, get_or, leb, nat_lt, sym, arith}
use Rattle.std.proofs.lemmas.Bool.Decides.{nat_tests}
use Rattle.rept_writing.specs.declared.list.Writing.{Writing}
use Rattle.rept_writing.proofs.Numbers.{split_between}
use Rattle.rept_writing.proofs.cuts.are_before.Goals as goal
use Rattle.rept_writing.proofs.cuts.are_before.Goals.{then-at-eq0, else-at-eq0}

-- what is read past the end
abbrev blank : Writing
blank = record { row = 0; at = 0; from = 0; to = 0; is_call = false; access = record { first = None; second = None } }

pub returns-else-at-list-2-clause-split : goal.returns-else-at-list-2-clause-split
returns-else-at-list-2-clause-split c above =
    split_between c.args.list.now c.args.number c.args.at blank (omega (arith, c.if-at-list.false))
    (λ some. elim c.if-at-eq0.branch [
      | then-at-eq0 w ↦ absurd (omega (arith, some, w.if-at-eq0.true))
      | else-at-eq0 w ↦ let low : nat_lt (get_or c.args.list.now (c.args.at - 1) blank).at c.args.number ≡ true = sym w.value-is ∙ c.if-list-at.true in grind (arith, nat_tests, low)
    ])
    (λ _. let high : leb c.args.number (get_or c.args.list.now c.args.at blank).at ≡ true = above in grind (arith, nat_tests, high))
