-- A trace file has one path at most over a dump, or one refusal.
use Rattle.std.proofs.Common.{◌≡◌, ℕ, List, sym, ◌∙◌, ap, subst, inl, inr}
use Rattle.rept_isa.specs.declared.row.StepRow.{StepRow}
use Rattle.rept_dump.specs.declared.dump.Dump.{Dump}
use Rattle.rept_trace.specs.declared.packet.Packet.{Packet}
use Rattle.rept_trace.specs.declared.packets.Packets.{Packets}
use Rattle.rept_trace.specs.declared.fault.TraceFault.{TraceFault}
use Rattle.rept_trace.specs.Packets.{rest_of, number_of}
use Rattle.rept_trace.proofs.Going.{one_list, not_both, one_fault}
use Rattle.rept_path.specs.declared.fault.PathFault.{PathFault}
use Rattle.rept_path.specs.declared.fault.PathFault.TheVariants as fault
use Rattle.rept_path.specs.Trace.{HasNoPathOfPackets, IsPath}
use Rattle.rept_path.specs.Traced.{code_over, pc_of, IsTracedPath, IsRefusedBy, raw_of}
use Rattle.rept_path.proofs.OneRoute.{one_path, path_or_refusal, one_refusal}

module _ (packets : Packets) (dump : Dump) (from : ℕ) where
  pub one_path_of : (i j : ℕ) (a b : List StepRow) → IsTracedPath (raw_of packets dump from) i a → IsTracedPath (raw_of packets dump from) j b → (i ≡ j) × (a ≡ b)
  one_path_of i j a b x y =
      let s = one_list (rest_of packets) x.0 y.0 x.1 y.1 in
      let z = subst (λ (l : List Packet). IsPath (record { code = code_over packets dump; packets = l; from = from; pc = pc_of dump }) i a) s x.2 in
      one_path (code_over packets dump) y.0 from (pc_of dump) i j a b z y.2

  pub path_or_refusal_of : (i : ℕ) (a : List StepRow) (e : PathFault) → IsTracedPath (raw_of packets dump from) i a → IsRefusedBy packets dump from e → ⊥
  path_or_refusal_of i a e x y = elim y [
    | inl f ↦ not_both (number_of packets) (rest_of packets) x.0 f.0 f.1 x.1 f.2
    | inr f ↦
        let s = one_list (rest_of packets) x.0 f.0 x.1 f.1 in
        let z = subst (λ (l : List Packet). IsPath (record { code = code_over packets dump; packets = l; from = from; pc = pc_of dump }) i a) s x.2 in
        path_or_refusal (code_over packets dump) f.0 from (pc_of dump) i a e z f.2
  ]

  pub one_refusal_of : (d e : PathFault) → IsRefusedBy packets dump from d → IsRefusedBy packets dump from e → d ≡ e
  one_refusal_of d e x y = elim x [
    | inl f ↦ elim y [
      | inl g ↦ f.3 ∙ ap (λ (t : TraceFault). fault.Packet t) (one_fault (number_of packets) (rest_of packets) f.0 g.0 f.1 g.1 f.2 g.2) ∙ sym g.3
      | inr g ↦ absurd (not_both (number_of packets) (rest_of packets) g.0 f.0 f.1 g.1 f.2)
    ]
    | inr f ↦ elim y [
      | inl g ↦ absurd (not_both (number_of packets) (rest_of packets) f.0 g.0 g.1 f.1 g.2)
      | inr g ↦
          let s = one_list (rest_of packets) f.0 g.0 f.1 g.1 in
          let z = subst (λ (l : List Packet). HasNoPathOfPackets (record { code = code_over packets dump; packets = l; from = from; pc = pc_of dump }) d) s f.2 in
          one_refusal (code_over packets dump) g.0 from (pc_of dump) d e z g.2
    ]
  ]
