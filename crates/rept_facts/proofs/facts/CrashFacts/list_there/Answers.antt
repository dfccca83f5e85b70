use Rattle.std.proofs.Common.{◌+◌, ap, sym, subst, List}
use Rattle.rept_alias.specs.declared.addresses.CallAccess.{CallAccess}
use Rattle.rept_writing.specs.declared.list.Writing.{Writing}
use Rattle.rept_facts.specs.State.{AnalysisState, state_of}
use Rattle.rept_facts.specs.Inferring.{AreWritingsBefore, IsAccess}
use Rattle.rept_facts.proofs.Listing.{listed_less, listed_more, none_spared}
use Rattle.rept_facts.proofs.facts.CrashFacts.list_there.Goals as goal

pub returns-then-not-is_none-clause-listed : goal.returns-then-not-is_none-clause-listed
returns-then-not-is_none-clause-listed g c =
    let s = (state_of g.W.Partial.sets g.W.Transfer.moves g.R.RowRules.rules g.B.ByteFacts.store c.args.self.now) in
    let list = ap (λ (x : AnalysisState g.row.W.Denot). x.work.writing) c.add_writing.ensures in
    subst (λ (xs : List Writing). AreWritingsBefore (c.args.number + 1) xs s) (sym list) (listed_more s c.args.number c.args.self.now.work.writing c.requires.before c.args.i c.requires.at.2 c.writing_of.result c.writing_of.ensures.row c.writing_of.ensures.at c.requires.at.0 c.requires.at.1 c.writing_of.ensures.extent (subst (λ (access : CallAccess). IsAccess c.args.i access s) (sym c.writing_of.ensures.access) c.access-access.ensures))

pub returns-else-not-is_none-clause-listed : goal.returns-else-not-is_none-clause-listed
returns-else-not-is_none-clause-listed g c =
    let s = (state_of g.W.Partial.sets g.W.Transfer.moves g.R.RowRules.rules g.B.ByteFacts.store c.args.self.now) in
    listed_less s c.args.number c.args.self.now.work.writing c.requires.before c.args.i c.requires.at.2 (none_spared s c.args.i c.access-access.result c.access-access.ensures (c.is_none.ensures c.if-not-is_none.false))
