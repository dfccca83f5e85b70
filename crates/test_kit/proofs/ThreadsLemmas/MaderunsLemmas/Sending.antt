-- Each turn can be sent as a stretch: its steps can be made, none is an uninferable jump, and only
-- the last one may be a call.
use Rattle.std.proofs.Common.{◌≡◌, ℕ, zero, suc, negsuc, ◌+◌, ◌%◌, ◌<◌, ◌≤◌, true, false, List, [], ◌∷◌, ◌++◌, map, length, take, drop, get_or, slice_get, Some, None, All, refl, sym, ◌∙◌, ap, subst, arith, inl, inr}
use Rattle.std.proofs.lemmas.Bool.{cases_eq}
use Rattle.std.proofs.lemmas.List.Elements.{All-from_get_or}
use Rattle.std.proofs.lemmas.Option.{slice_get-get_or, slice_get_within}
use Rattle.rept_isa.specs.declared.instr.Instr.{Instr}
use Rattle.rept_isa.specs.declared.instr.Instr.TheVariants.{Lui, Auipc, Jal, Jalr, Branch, Load, Store, Imm, Op, Amo, Fence, Ecall, Ebreak, Counter}
use Rattle.rept_isa.specs.declared.row.StepRow.{StepRow}
use Rattle.rept_isa.specs.Numbers.{word, plus, following}
use Rattle.rept_isa.specs.Rows.{Addresses, addresses_of}
use Rattle.rept_isa.specs.Operands.{is_call}
use Rattle.rept_steps.specs.declared.threads.ThreadRows.{ThreadRows}
use Rattle.rept_path.specs.Code.{flow_of, jumps_far}
use Rattle.rept_encode.specs.Walkable.{MayLead, calls, IsStepped}
use Rattle.test_kit.specs.declared.threads.turns.turn.Turn.{Turn}
use Rattle.test_kit.specs.Threads.Turns.Turns.{rows_in, slice_by, slices_from}
use Rattle.test_kit.specs.Threads.Play.Shares.{UsesOwn}
use Rattle.test_kit.specs.Threads.Play.Code.{drawn_in, instr_in, row_in, IsPlayCode, CallsLast, IsPlayable}
use Rattle.test_kit.proofs.ThreadsLemmas.PlayLemmas.Finishing.{jump_in, other_in}
use Rattle.rept_encode.specs.declared.weaving.stretch.HartStretch.{HartStretch}
use Rattle.rept_streams.proofs.SlicesLemmas.InTime.{Each}
use Rattle.test_kit.specs.Threads.Woven.Ordered.{Piece, on_hart, pieces_from}
use Rattle.test_kit.specs.Threads.Maderuns.Harts.{steps_in, stretch_in, harts_of, IsSendable}
use Rattle.test_kit.proofs.ThreadsLemmas.MaderunsLemmas.Turning.{rows_within, slice_there, all_there, after_split}
use Rattle.test_kit.proofs.ThreadsLemmas.MaderunsLemmas.Pieces.{all_of, each_before, each_after, harts_after, harts_are, all_pieces, each_piece}
use Rattle.test_kit.proofs.ThreadsLemmas.MaderunsLemmas.Threads.{same_row, count_of}

word_back : word (negsuc 59) ≡ 4294967236
unfolding word
word_back = refl

-- an instruction that uses registers of the thread alone
uses_leads : (t : ℕ) (instr : Instr) (a : Addresses) → UsesOwn t instr → a.next ≡ following a.from → MayLead false (flow_of instr) a
uses_leads t (Imm op rd rs1 imm) a own on = on
uses_leads t (Op op rd rs1 rs2) a own on = on
uses_leads t (Load op rd rs1 imm) a own on = on
uses_leads t (Store op rs1 rs2 imm) a own on = on
uses_leads t (Lui rd imm) a own on = absurd own
uses_leads t (Auipc rd imm) a own on = absurd own
uses_leads t (Jal rd imm) a own on = absurd own
uses_leads t (Jalr rd rs1 imm) a own on = absurd own
uses_leads t (Branch op rs1 rs2 imm) a own on = absurd own
uses_leads t (Amo op rd rs1 rs2) a own on = absurd own
uses_leads t Fence a own on = absurd own
uses_leads t Ecall a own on = on
uses_leads t Ebreak a own on = absurd own
uses_leads t (Counter rd csr) a own on = absurd own

uses_near : (t : ℕ) (instr : Instr) → UsesOwn t instr → (is_call instr ≡ calls (flow_of instr)) × (jumps_far (flow_of instr) ≡ false)
uses_near t (Imm op rd rs1 imm) own = (refl, refl)
uses_near t (Op op rd rs1 rs2) own = (refl, refl)
uses_near t (Load op rd rs1 imm) own = (refl, refl)
uses_near t (Store op rs1 rs2 imm) own = (refl, refl)
uses_near t (Lui rd imm) own = absurd own
uses_near t (Auipc rd imm) own = absurd own
uses_near t (Jal rd imm) own = absurd own
uses_near t (Jalr rd rs1 imm) own = absurd own
uses_near t (Branch op rs1 rs2 imm) own = absurd own
uses_near t (Amo op rd rs1 rs2) own = absurd own
uses_near t Fence own = absurd own
uses_near t Ecall own = (refl, refl)
uses_near t Ebreak own = absurd own
uses_near t (Counter rd csr) own = absurd own

-- a row of a thread
pub record IsFine (row : StepRow) : Type 0 where
  pub stepped : IsStepped false row
  pub near : jumps_far (flow_of row.instr) ≡ false

module _ (code : List Instr) (slots : IsPlayCode code) (t : ℕ) (few : t < 4) where
  fine_instr : (i : ℕ) → MayLead false (flow_of (instr_in code t (i % 16))) (addresses_of (row_in code t i)) × ((is_call (instr_in code t (i % 16)) ≡ calls (flow_of (instr_in code t (i % 16)))) × (jumps_far (flow_of (instr_in code t (i % 16))) ≡ false))
  fine_instr i =
      elim (cases_eq (i % 16) 15) [
        | inl last ↦
            let back : (addresses_of (row_in code t i)).next ≡ plus (addresses_of (row_in code t i)).at (negsuc 59) = let w = word_back in omega arith in
            subst (λ (x : Instr). MayLead false (flow_of x) (addresses_of (row_in code t i)) × ((is_call x ≡ calls (flow_of x)) × (jumps_far (flow_of x) ≡ false))) (sym (jump_in code t (i % 16) last)) (back, (refl, refl))
        | inr other ↦
            let own = slots.uses t (i % 16) few (omega arith) in
            let on : (addresses_of (row_in code t i)).next ≡ following (addresses_of (row_in code t i)).from = omega arith in
            subst (λ (x : Instr). MayLead false (flow_of x) (addresses_of (row_in code t i)) × ((is_call x ≡ calls (flow_of x)) × (jumps_far (flow_of x) ≡ false))) (sym (other_in code t (i % 16) other))
            (uses_leads t (drawn_in code t (i % 16)) (addresses_of (row_in code t i)) own on, uses_near t (drawn_in code t (i % 16)) own)
      ]

  pub fine_row : (i : ℕ) → IsFine (row_in code t i)
  fine_row i = let x = fine_instr i in record { stepped = record { aligned = omega arith; lead = x.0; call = x.1.0; long = λ whole. refl }; near = x.1.1 }

-- an element of a part of a list
none_found : {A : Type 0} {x : A} → None ≡ Some x → ⊥
none_found e = cc

take_get : {A : Type 0} (n : ℕ) (xs : List A) (i : ℕ) (x : A) → slice_get (take n xs) i ≡ Some x → (i < n) × (slice_get xs i ≡ Some x)
take_get zero xs i x found = absurd (none_found found)
take_get (suc n) [] i x found = absurd (none_found found)
take_get (suc n) (y ∷ ys) zero x found = (omega arith, found)
take_get (suc n) (y ∷ ys) (suc i) x found = let rest = take_get n ys i x found in let less = rest.0 in (omega arith, rest.1)

drop_get : {A : Type 0} (n : ℕ) (xs : List A) (i : ℕ) → slice_get (drop n xs) i ≡ slice_get xs (n + i)
drop_get zero xs i = let e : i ≡ 0 + i = omega arith in ap (slice_get xs) e
drop_get (suc n) [] i = refl
drop_get (suc n) (y ∷ ys) i = drop_get n ys i ∙ (let e : suc n + i ≡ suc (n + i) = omega arith in rw e refl)

no_row : StepRow
no_row = record { at = 0; instr = Fence; next = 0; call = false; short = false }

-- what is so of each element, from what is so of those that are found
pub all_found : (P : StepRow → Type 0) (xs : List StepRow) → ((i : ℕ) (x : StepRow) → slice_get xs i ≡ Some x → P x) → All P xs
all_found P xs h = All-from_get_or P xs no_row (λ i less. h i (get_or xs i no_row) (slice_get-get_or xs i no_row less))

module _ (code : List Instr) (T : List ThreadRows) (turns : List Turn) (playable : IsPlayable code turns) (size : (t : ℕ) → length (steps_in T t) ≡ rows_in t turns) (rows : (t i : ℕ) → i < rows_in t turns → slice_get (steps_in T t) i ≡ Some (row_in code t i)) where
  -- a row of a stretch
  record IsThere (before : List Turn) (turn : Turn) (i : ℕ) (row : StepRow) : Type 0 where
    pub less : i < turn.count
    pub is : row ≡ row_in code turn.thread (rows_in turn.thread before + i)

  there : (before : List Turn) (turn : Turn) (i : ℕ) (row : StepRow) → slice_get (stretch_in T (rows_in turn.thread before) turn).steps i ≡ Some row → IsThere before turn i row
  there before turn i row found =
      let a = take_get turn.count (drop (rows_in turn.thread before) (steps_in T turn.thread)) i row found in
      let b : slice_get (steps_in T turn.thread) (rows_in turn.thread before + i) ≡ Some row = sym (drop_get (rows_in turn.thread before) (steps_in T turn.thread) i) ∙ a.1 in
      let inside = slice_get_within (steps_in T turn.thread) (rows_in turn.thread before + i) row b in
      let same = size turn.thread in
      record { less = a.0; is = same_row (sym b ∙ rows turn.thread (rows_in turn.thread before + i) (omega arith)) }

  sendable_at : (before : List Turn) (turn : Turn) (rest : List Turn) → before ++ turn ∷ rest ≡ turns → IsSendable (stretch_in T (rows_in turn.thread before) turn).steps
  sendable_at before turn rest is =
      let few : turn.thread < 4 = all_there (λ (x : Turn). x.thread < 4) before turn rest (subst (All (λ (x : Turn). x.thread < 4)) (sym is) playable.threads) in
      let some : 0 < turn.count = all_there (λ (x : Turn). 0 < x.count) before turn rest (subst (All (λ (x : Turn). 0 < x.count)) (sym is) playable.some) in
      let within : rows_in turn.thread before + turn.count ≤ rows_in turn.thread turns = subst (λ (ts : List Turn). rows_in turn.thread before + turn.count ≤ rows_in turn.thread ts) is (rows_within before turn rest) in
      let same = size turn.thread in
      let count : length (stretch_in T (rows_in turn.thread before) turn).steps ≡ turn.count = count_of T turn.thread before turn refl (omega arith) in
      let last : CallsLast code turn.thread (slice_by (0 + rows_in turn.thread before) turn) =
      slice_there (CallsLast code turn.thread) turn.thread 0 before turn rest refl (subst (λ (ts : List Turn). All (CallsLast code turn.thread) (slices_from turn.thread 0 ts)) (sym is) (playable.calls turn.thread)) in
      record {
        walkable = record {
          some = omega arith;
          steps = all_found (IsStepped false) (stretch_in T (rows_in turn.thread before) turn).steps (λ i row found. let its = there before turn i row found in subst (IsStepped false) (sym its.is) (fine_row code playable.slots turn.thread few (rows_in turn.thread before + i)).stepped);
        };
        near = λ i row found. let its = there before turn i row found in subst (λ (r : StepRow). jumps_far (flow_of r.instr) ≡ false) (sym its.is) (fine_row code playable.slots turn.thread few (rows_in turn.thread before + i)).near;
        calls = λ i row found call.
            let its = there before turn i row found in
            let less = its.less in
            let its_call : is_call (instr_in code turn.thread ((rows_in turn.thread before + i) % 16)) ≡ true = sym (ap (λ (r : StepRow). r.call) its.is) ∙ call in
            let end = last (rows_in turn.thread before + i) (omega arith) (omega arith) its_call in
            omega arith;
      }

  unmapped : (Q : HartStretch → Type 0) (h : ℕ) (hart : List HartStretch) → Each (λ (p : Piece). Q p.stretch) (map (on_hart h) hart) → Each Q hart
  unmapped Q h [] each = tt
  unmapped Q h (x ∷ hart) each = (each.0, unmapped Q h hart each.1)

  from_pieces : (Q : HartStretch → Type 0) (h : ℕ) (harts : List (List HartStretch)) → Each (λ (p : Piece). Q p.stretch) (pieces_from h harts) → Each (λ (hart : List HartStretch). All Q hart) harts
  from_pieces Q h [] each = tt
  from_pieces Q h (hart ∷ harts) each = (
    all_of Q hart (unmapped Q h hart (each_before (λ (p : Piece). Q p.stretch) (map (on_hart h) hart) (pieces_from (suc h) harts) each)),
    from_pieces Q (suc h) harts (each_after (λ (p : Piece). Q p.stretch) (map (on_hart h) hart) (pieces_from (suc h) harts) each),
  )

  pub all_sendable : (n : ℕ) → All (All (λ (s : HartStretch). IsSendable s.steps)) (harts_of T turns n 0)
  all_sendable n =
      let each : Each (λ (p : Piece). IsSendable p.stretch.steps) (all_pieces T [] turns n 0) =
      each_piece T (λ b x. IsSendable (stretch_in T (rows_in x.thread b) x).steps) (λ (p : Piece). IsSendable p.stretch.steps) (λ b x h. h) n 0 [] turns (after_split (λ b x. IsSendable (stretch_in T (rows_in x.thread b) x).steps) turns [] turns refl sendable_at) in
      subst (All (All (λ (s : HartStretch). IsSendable s.steps))) (sym (harts_are T turns n 0)) (all_of (All (λ (s : HartStretch). IsSendable s.steps)) (harts_after T [] turns n 0) (from_pieces (λ (s : HartStretch). IsSendable s.steps) 0 (harts_after T [] turns n 0) each))
