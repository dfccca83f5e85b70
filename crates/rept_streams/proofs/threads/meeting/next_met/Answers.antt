use Rattle.std.proofs.Common.{◌∷◌, List, sym, subst, ◌∙◌}
use Rattle.rept_streams.specs.Slices.Entries.{AreEntriesOf}
use Rattle.rept_streams.specs.Slices.Order.{head_of}
use Rattle.rept_streams.specs.declared.threads.walks.Walked.{Walked}
use Rattle.rept_streams.proofs.ThreadsLemmas.MeetLemmas.{slices_in, next_told, first_told, met_here, is_before}
use Rattle.rept_streams.proofs.threads.meeting.next_met.Goals as goal

pub meets-requires : goal.meets-requires
meets-requires c =
    let a = subst (λ (ws : List Walked). AreEntriesOf (slices_in ws) c.requires.0) c.in_ok-walked.ensures.cases.0 c.requires.1 in
    first_told c.in_ok-walked.walked.now c.in_ok-walked.later.now c.requires.0 a

pub returns-then-meets : goal.returns-then-meets
returns-then-meets c = λ t later a before.
    let w = c.in_ok-walked.walked.now in
    let ws = c.in_ok-walked.later.now in
    let told = subst (λ (xs : List Walked). AreEntriesOf (slices_in xs) (t ∷ later)) c.in_ok-walked.ensures.cases.0 a in
    let n = next_told ws w c.in_ok-next.next.now t later told c.in_ok-next.ensures.value in
    let b = is_before t n.0 (head_of later) n.1 before in
    met_here t n.0 c.in_ok-next.next.now.slice c.begin_of.result (head_of later) n.1 n.2 c.begin_of.ensures (sym (c.meets.ensures t n.0 told.0 n.2 b.0 b.1) ∙ c.if-meets.true)
