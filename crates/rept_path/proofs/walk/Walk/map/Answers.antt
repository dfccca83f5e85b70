use Rattle.std.proofs.Common.{refl}
use Rattle.rept_path.specs.Program.{code_of}
use Rattle.rept_trace.specs.declared.packet.Packet.TheVariants.{Map}
use Rattle.rept_path.proofs.Followed.{walked}
use Rattle.rept_path.proofs.walk.Walk.map.Goals as goal

pub returns-clause-ok : goal.returns-clause-ok
returns-clause-ok c =
    let w = c.in_ok-through.ensures.ok in
    walked (code_of c.args.program.now) c.args.number (Map c.args.map) c.args.self.now _ c.through.new.self _ c.requires.runs (0, refl) refl c.in_ok-push_bits.ensures.bits refl refl refl w refl refl refl refl refl (record { enough = w.counts.enough; few = w.counts.few; spare = w.counts.spare; linked = w.counts.linked }) refl (c.in_ok-through.ensures.rests refl) refl (λ _. refl) (λ _. refl)
