-- The rows of a gap lead from where a stretch ended to their goal.
use Rattle.std.proofs.Common.{◌≡◌, inl, inr, ℕ, ◌+◌, ◌<◌, ◌==◌, nat_le, List, [], ◌∷◌, length, reverse, drop, get_or, Bool, true, false, cond, Option, Some, None, Result, Ok, Err, refl, sym, ◌∙◌, ap, subst}
use Rattle.std.specs.Prelude.{slice_get, is_none}
use Rattle.std.proofs.lemmas.Bool.Decides.{eqb_tells}
use Rattle.std.proofs.lemmas.List.{at_drop_more}
use Rattle.rept_isa.specs.declared.instr.Instr.{Instr}
use Rattle.rept_isa.specs.declared.row.StepRow.{StepRow}
use Rattle.rept_steps.specs.Linked.{EndBefore}
use Rattle.rept_path.specs.declared.flow.Flow.{Flow}
use Rattle.rept_path.specs.declared.flow.Flow.TheVariants.{Plain, Branch, Jump, Fixed, Far, Call, Stop}
use Rattle.rept_path.specs.declared.fault.PathFault.{PathFault}
use Rattle.rept_path.specs.declared.fault.PathFault.TheVariants.{TooLong, Gap, End}
use Rattle.rept_path.specs.Code.{Code, look, is_short, flow_of}
use Rattle.rept_path.specs.Gap.{Goal, Edge, row, call_row, by_successor, by_flow, crossing, gap, gap_to_start}
use Rattle.rept_path.specs.Moves.{Stand, way_by, site, successor, ◌>>=◌}
use Rattle.rept_path.proofs.MoveLemmas.{bind_ok}
use Rattle.rept_streams.specs.Slices.Stamps.{address_of}
use Rattle.rept_streams.specs.Slices.Stretches.{RanSlice}
use Rattle.rept_streams.specs.Slices.Joins.{ThreadGround, stand_at, bridge}
use Rattle.rept_streams.specs.Threads.Linking.{GoesFromTo, onward_to, Ready}
use Rattle.rept_streams.proofs.ThreadsLemmas.Leading.{Leads, leads_goes}

one_or_two : (code : Code) (e : Edge) (n : ℕ) (c : Bool) (rows : List StepRow) → cond (n == e.to) (Ok (row e n false ∷ [])) (cond c (Ok (call_row code n e.to ∷ row e n false ∷ [])) (Err e.otherwise)) ≡ Ok rows → Leads rows e.at e.to
one_or_two code e n c rows h = elim (eqb_tells n e.to) [
  | inl t ↦ (let k = rw t.0 at h in let is : row e n false ∷ [] ≡ rows = cc in subst (λ (xs : List StepRow). Leads xs e.at e.to) is (t.1, refl))
  | inr t ↦ (let k = rw t.0 at h in two c k)
] where
  two : (b : Bool) → cond b (Ok (call_row code n e.to ∷ row e n false ∷ [])) (Err e.otherwise) ≡ Ok rows → Leads rows e.at e.to
  two true k = let is : call_row code n e.to ∷ row e n false ∷ [] ≡ rows = cc in subst (λ (xs : List StepRow). Leads xs e.at e.to) is (refl, (refl, refl))
  two false k = absurd (cc)

one_only : (e : Edge) (b call : Bool) (rows : List StepRow) → cond b (Ok (row e e.to call ∷ [])) (Err e.otherwise) ≡ Ok rows → Leads rows e.at e.to
one_only e true call rows h = let is : row e e.to call ∷ [] ≡ rows = cc in subst (λ (xs : List StepRow). Leads xs e.at e.to) is (refl, refl)
one_only e false call rows h = absurd (cc)

module _ (code : Code) where
  by_next : (e : Edge) (next : Result ℕ PathFault) (rows : List StepRow) → (next >>= by_successor code e) ≡ Ok rows → Leads rows e.at e.to
  by_next e next rows h = let b = bind_ok next (by_successor code e) rows h in one_or_two code e b.0 _ rows b.2

  flow_leads : (e : Edge) (next : Result ℕ PathFault) (flow : Flow) (rows : List StepRow) → by_flow code e next flow ≡ Ok rows → Leads rows e.at e.to
  flow_leads e next Call rows h = one_only e _ true rows h
  flow_leads e next Far rows h = one_only e _ false rows h
  flow_leads e next Stop rows h = absurd (cc)
  flow_leads e next Plain rows h = by_next e next rows h
  flow_leads e next (Jump imm) rows h = by_next e next rows h
  flow_leads e next (Fixed to) rows h = by_next e next rows h
  flow_leads e next (Branch imm) rows h = by_next e next rows h

  pub gap_leads : (s : Stand) (goal : Goal) (rows : List StepRow) → gap code s goal ≡ Ok rows → Leads rows s.place.at goal.address
  unfolding gap
  gap_leads s goal rows is =
      let p = s.place in
      let f : List StepRow → Result (List StepRow) PathFault = λ xs. cond (nat_le (length p.rows + length xs) s.room) (Ok xs) (Err (TooLong s.packet)) in
      let cross : Instr → Result (List StepRow) PathFault = λ i. crossing code s goal i in
      let b = bind_ok (look code p.at) (λ i. cross i >>= f) rows is in
      let c = bind_ok (cross b.0) f rows b.2 in
      let edge : Edge = record { at = p.at; instr = b.0; short = is_short code p.at; to = goal.address; otherwise = goal.otherwise } in
      let there = flow_leads edge (successor s.packet (site code p.at) (flow_of b.0) (way_by (slice_get s.bits p.branches) None)) (flow_of b.0) c.0 c.1 in
      fits (nat_le (length p.rows + length c.0) s.room) c.0 there c.2
    where
      fits : (b : Bool) (xs : List StepRow) → Leads xs s.place.at goal.address → cond b (Ok xs) (Err (TooLong s.packet)) ≡ Ok rows → Leads rows s.place.at goal.address
      fits true xs l h = let is : xs ≡ rows = cc in subst (λ (ys : List StepRow). Leads ys s.place.at goal.address) is l
      fits false xs l h = absurd (cc)

-- where what is joined leads
abbrev pub target : ThreadGround → Option RanSlice → ℕ
target e None = e.pc
target e (Some q) = address_of q.told.start

pub bridge_goes : (e : ThreadGround) (count : ℕ) (r : RanSlice) (o : Option RanSlice) (more : List StepRow) → bridge e count r o ≡ Ok more → GoesFromTo (reverse more) (onward_to r o) (target e o)
bridge_goes e count r None more h =
    let s = stand_at e.packets r count in
    leads_goes more r.last.at e.pc (gap_leads e.code s (record { address = e.pc; otherwise = End s.place.at e.pc }) more h)
bridge_goes e count r (Some q) more h = go (is_none q.told.inside) h where
  a : ℕ
  a = address_of q.told.start

  go : (b : Bool) → cond b (gap_to_start e.code (stand_at q.told.number r count) a) (Ok []) ≡ Ok more → GoesFromTo (reverse more) (cond b r.last.at a) a
  go true k =
      let s = stand_at q.told.number r count in
      leads_goes more r.last.at a (gap_leads e.code s (record { address = a; otherwise = Gap s.packet s.place.at a }) more k)
  go false k = let is : [] ≡ more = cc in subst (λ (xs : List StepRow). GoesFromTo (reverse xs) a a) is refl

pub ready_of : (e : ThreadGround) (o : Option RanSlice) (rows : List StepRow) → EndBefore rows (target e o) → Ready rows o
ready_of e None rows h = tt
ready_of e (Some q) rows h = h

-- one row of those that lead on
pub row_of : (rows : List StepRow) (i : ℕ) (r : StepRow) (a b : ℕ) → i < length rows → r ≡ get_or rows i r → GoesFromTo (drop i rows) a b → (r.at ≡ a) × GoesFromTo (drop (i + 1) rows) r.next b
row_of rows i r a b within at g =
    let here : drop i rows ≡ r ∷ drop (i + 1) rows = at_drop_more (λ (xs : List StepRow). xs) rows i r within ∙ ap (λ (x : StepRow). x ∷ drop (i + 1) rows) (sym at) in
    subst (λ (xs : List StepRow). GoesFromTo xs a b) here g
