use Rattle.std.proofs.Common.{◌≡◌, false, IfOk, subst, sym}
use Rattle.rept_dump.specs.Memory.{crash_byte}
use Rattle.rept_dump.specs.Program.{contents}
use Rattle.rept_facts.specs.State.{Whole, state_of}
use Rattle.rept_facts.specs.Inferring.{Grows, HasInferred, IsTracked, LastByteKnown}
use Rattle.rept_analysis.proofs.analysis.Analysis.infer_last_byte.Goals as goal

pub learn_last_byte-requires-clause-tracked : goal.learn_last_byte-requires-clause-tracked
learn_last_byte-requires-clause-tracked g c =
    let st = state_of g.W.Partial.sets g.W.Transfer.moves g.R.RowRules.rules g.B.ByteFacts.store in
    subst (λ (x : Whole g.row.B.Denot g.row.W.Denot g.row.R.Denot). IsTracked c.args.a (st x)) (sym c.last_byte-byte.ensures.same) c.requires.tracked

pub learn_last_byte-requires-clause-open : goal.learn_last_byte-requires-clause-open
learn_last_byte-requires-clause-open g c = subst (λ (x : Whole g.row.B.Denot g.row.W.Denot g.row.R.Denot). x.complete ≡ false) (sym c.last_byte-byte.ensures.same) c.requires.open

pub learn_last_byte-requires-clause-byte : goal.learn_last_byte-requires-clause-byte
learn_last_byte-requires-clause-byte g c = subst (λ (x : Whole g.row.B.Denot g.row.W.Denot g.row.R.Denot). c.last_byte-byte.result ≡ crash_byte (contents x.exe) x.core c.args.a) (sym c.last_byte-byte.ensures.same) c.last_byte-byte.ensures.byte

pub returns-clause-grows : goal.returns-clause-grows
returns-clause-grows g c =
    let st = state_of g.W.Partial.sets g.W.Transfer.moves g.R.RowRules.rules g.B.ByteFacts.store in
    subst (λ (x : Whole g.row.B.Denot g.row.W.Denot g.row.R.Denot). Grows (st x) (st c.learn_last_byte.new.self.propagation.facts)) c.last_byte-byte.ensures.same c.learn_last_byte.ensures.grows

pub returns-clause-inferred : goal.returns-clause-inferred
returns-clause-inferred g c =
    let st = state_of g.W.Partial.sets g.W.Transfer.moves g.R.RowRules.rules g.B.ByteFacts.store in
    subst (λ (x : Whole g.row.B.Denot g.row.W.Denot g.row.R.Denot). IfOk c.learn_last_byte.result (λ learnt. HasInferred (st x) (st c.learn_last_byte.new.self.propagation.facts) learnt (LastByteKnown c.args.a))) c.last_byte-byte.ensures.same c.learn_last_byte.ensures.inferred
