use Rattle.std.proofs.Common.{refl}
use Rattle.rept_path.specs.Program.{code_of}
use Rattle.rept_trace.specs.declared.packet.Packet.TheVariants.{Address, MapAddress}
use Rattle.rept_path.specs.Packets.{low_bits}
use Rattle.rept_path.proofs.Followed.{walked}
use Rattle.rept_path.proofs.walk.Walk.report.Goals as goal

pub returns-clause-ok : goal.returns-clause-ok
returns-clause-ok c =
    let w = c.in_ok-through.ensures.ok in
    let all = c.in_ok-push_bits.ensures.bits in
    walked (code_of c.args.program.now) c.args.number (MapAddress c.args.count c.args.map c.args.report) c.args.self.now _ c.through.new.self _ c.requires.runs (0, refl) refl all refl refl refl w refl refl refl refl refl (record { enough = w.counts.enough; few = w.counts.few; spare = w.counts.spare; linked = w.counts.linked }) c.infers-self.ensures (c.in_ok-through.ensures.rests refl) refl (λ _. refl) (λ _. refl)

pub returns-clause-ok_alone : goal.returns-clause-ok_alone
unfolding low_bits
returns-clause-ok_alone c zero =
    let w = c.in_ok-through.ensures.ok in
    let all = rw zero at c.in_ok-push_bits.ensures.bits in
    walked (code_of c.args.program.now) c.args.number (Address c.args.report) c.args.self.now _ c.through.new.self _ c.requires.runs (0, refl) refl all refl refl refl w refl refl refl refl refl (record { enough = w.counts.enough; few = w.counts.few; spare = w.counts.spare; linked = w.counts.linked }) c.infers-self.ensures (c.in_ok-through.ensures.rests refl) refl (λ _. refl) (λ _. refl)
