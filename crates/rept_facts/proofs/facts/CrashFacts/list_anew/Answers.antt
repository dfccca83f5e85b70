use Rattle.std.proofs.Common.{◌≡◌, ◌∙◌, ap, set}
use Rattle.rept_writing.specs.declared.list.Writing.{Writing}
use Rattle.rept_facts.specs.State.{Whole, state_of, with_writing}
use Rattle.rept_facts.proofs.Barriers.{anew_grows}
use Rattle.rept_facts.proofs.Conclusion.{Grows_same}
use Rattle.std.specs.Option.{is_some}
use Rattle.rept_facts.proofs.facts.CrashFacts.list_anew.Goals as goal

pub returns-then-put-clause-grows : goal.returns-then-put-clause-grows
returns-then-put-clause-grows g c =
    let s = state_of g.W.Partial.sets g.W.Transfer.moves g.R.RowRules.rules g.B.ByteFacts.store c.args.self.now in
    let t = state_of g.W.Partial.sets g.W.Transfer.moves g.R.RowRules.rules g.B.ByteFacts.store c.renew_index.new.self in
    let w : Writing = c.writing_of.result in
    let noted = ap (λ (x : Whole g.row.B.Denot g.row.W.Denot g.row.R.Denot). state_of g.W.Partial.sets g.W.Transfer.moves g.R.RowRules.rules g.B.ByteFacts.store x) c.note_put.ensures in
    let put = c.put_writing-put.ensures.put c.if-put.true in
    let is : t ≡ with_writing s (set s.work.writing c.args.k w) = c.renew_index.ensures ∙ noted ∙ put in
    anew_grows s t c.args.k c.args.i w c.access_now-access.result c.writing_of.ensures.row c.writing_of.ensures.access c.requires.within c.requires.listed c.access_now-access.ensures (c.writing_of.ensures.at ∙ c.moment_at-at.ensures.value) c.writing_of.ensures.extent is

pub returns-else-put-clause-grows : goal.returns-else-put-clause-grows
returns-else-put-clause-grows g c = Grows_same _ _ (c.put_writing-put.ensures.same c.if-put.false)

pub moment_at-at-requires : goal.moment_at-at-requires
moment_at-at-requires g c = ap is_some c.requires.row
