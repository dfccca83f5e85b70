-- One step more of a made run.
use Rattle.std.proofs.Common.{◌≡◌, ℕ, zero, suc, pos, negsuc, ◌+◌, ◌-◌, ◌*◌, ◌/◌, ◌%◌, ◌<◌, ◌≤◌, ◌==◌, nat_le, List, [], ◌∷◌, ◌++◌, length, get_or, slice_get, Option, None, Some, MatchOption, IsTrue, ◌↔◌, Bool, true, false, cond, refl, sym, ◌∙◌, ap, subst, arith, ◌⊎◌, inl, inr, length-append}
use Rattle.std.proofs.lemmas.Bool.{cases_eq}
use Rattle.std.proofs.lemmas.Bool.Decides.{nat_tests}
use Rattle.std.proofs.lemmas.List.Elements.{All-nil, All-push}
use Rattle.std.proofs.lemmas.Option.{slice_get_within, slice_get-get_or}
use Rattle.rept_isa.specs.declared.instr.Instr.{Instr}
use Rattle.rept_isa.specs.declared.instr.Instr.TheVariants.{Lui, Auipc, Jal, Jalr, Branch, Load, Store, Imm, Op, Amo, Fence, Ecall, Ebreak, Counter}
use Rattle.rept_isa.specs.declared.instr.ImmOp.TheVariants.{Addi}
use Rattle.rept_isa.specs.declared.row.StepRow.{StepRow}
use Rattle.rept_isa.specs.Words.{IsWord}
use Rattle.rept_isa.specs.Rows.{Addresses, of_word}
use Rattle.rept_isa.proofs.RowLemmas.{of_long}
use Rattle.rept_isa.specs.Numbers.{plus, following}
use Rattle.rept_isa.proofs.WordLemmas.{one_instruction}
use Rattle.rept_steps.specs.Linked.{BeginAt, EndBefore}
use Rattle.rept_machine.specs.State.{State, IsState}
use Rattle.rept_machine.specs.declared.machine.Machine.{Machine}
use Rattle.rept_machine.specs.Machine.{state_of, pc_of, code_of, base_of, next_word, word_of_code, IsNextInstr, IsNotRunnable, Halts}
use Rattle.rept_machine.specs.declared.machine.Halt.TheVariants as halt
use Rattle.rept_machine.specs.Arithmetic.{branch_holds}
use Rattle.rept_machine.specs.Step.{HasEffect, IsStep}
use Rattle.rept_machine.specs.Choices.{Picks}
use Rattle.rept_path.specs.declared.flow.Flow.{Flow}
use Rattle.rept_path.specs.Code.{flow_of, jumps_far}
use Rattle.rept_encode.specs.Walkable.{MayLead, calls, IsStepped, IsJumpEnd}
use Rattle.rept_make.specs.Code.{made_instr, IsTame, IsPlaced}
use Rattle.rept_make.specs.Run.{AreMadeStates, IsMadeRow}
use Rattle.rept_make.specs.Ran.{RanRows}
use Rattle.rept_make.specs.Start.{start_registers}
use Rattle.rept_make.specs.Words.{SpellsAt, IsCode}
use Rattle.rept_make.proofs.Nearness.{Next, near_step, jump_lands}

-- whether a call
not_call : (b : Bool) (i : Instr) → (IsTrue b ↔ (i ≡ Ecall)) → (i ≡ Ecall → ⊥) → b ≡ false
not_call true i f no_call = absurd (no_call (f.0 refl))
not_call false i f no_call = refl

is_call : (b : Bool) → (IsTrue b ↔ (Ecall ≡ Ecall)) → b ≡ true
is_call true f = refl
is_call false f = f.1 refl

jalr_calls : (b : Bool) (x y : Flow) → calls x ≡ false → calls y ≡ false → calls (cond b x y) ≡ false
jalr_calls true x y a c = a
jalr_calls false x y a c = c

pub called : (b : Bool) (i : Instr) → (IsTrue b ↔ (i ≡ Ecall)) → b ≡ calls (flow_of i)
called b (Lui rd imm) f = not_call b _ f (λ e. cc)
called b (Auipc rd imm) f = not_call b _ f (λ e. cc)
called b (Jal rd imm) f = not_call b _ f (λ e. cc)
called b (Jalr rd rs1 imm) f = not_call b _ f (λ e. cc) ∙ sym (jalr_calls (rs1 == 0) _ _ refl refl)
called b (Branch op rs1 rs2 imm) f = not_call b _ f (λ e. cc)
called b (Load op rd rs1 imm) f = not_call b _ f (λ e. cc)
called b (Store op rs1 rs2 imm) f = not_call b _ f (λ e. cc)
called b (Imm op rd rs1 imm) f = not_call b _ f (λ e. cc)
called b (Op op rd rs1 rs2) f = not_call b _ f (λ e. cc)
called b (Amo op rd rs1 rs2) f = not_call b _ f (λ e. cc)
called b Fence f = not_call b _ f (λ e. cc)
called b Ecall f = is_call b f
called b Ebreak f = not_call b _ f (λ e. cc)
called b (Counter rd csr) f = not_call b _ f (λ e. cc)

-- where a step leads, its instruction may lead
either_way : (b : Bool) (next x y : ℕ) → next ≡ cond b x y → (next ≡ x) ⊎ (next ≡ y)
either_way true next x y e = inl e
either_way false next x y e = inr e

tame_leads : (instr : Instr) (e at next : ℕ) (s t : State) → IsTame instr → HasEffect instr e (of_word at next) s t → MayLead false (flow_of instr) (of_word at next)
tame_leads (Imm op rd rs1 imm) e at next s t f h = h.onward
tame_leads (Op op rd rs1 rs2) e at next s t f h = h.onward
tame_leads (Load op rd rs1 imm) e at next s t f h = h.onward
tame_leads (Store op rs1 rs2 imm) e at next s t f h = h.onward
tame_leads (Branch op rs1 rs2 imm) e at next s t f h = either_way (branch_holds op (s.register rs1) (s.register rs2)) next (plus at imm) (following at) h.onward
tame_leads (Lui rd imm) e at next s t f h = absurd f
tame_leads (Auipc rd imm) e at next s t f h = absurd f
tame_leads (Jal rd imm) e at next s t f h = absurd f
tame_leads (Jalr rd rs1 imm) e at next s t f h = absurd f
tame_leads (Amo op rd rs1 rs2) e at next s t f h = absurd f
tame_leads Fence e at next s t f h = absurd f
tame_leads Ecall e at next s t f h = absurd f
tame_leads Ebreak e at next s t f h = absurd f
tame_leads (Counter rd csr) e at next s t f h = absurd f

leads : (slot : ℕ) (instr : Instr) (e at next : ℕ) (s t : State) → IsPlaced slot instr → next % 4 ≡ 0 → HasEffect instr e (of_word at next) s t → MayLead false (flow_of instr) (of_word at next)
leads slot instr e at next s t p even h = elim (cases_eq slot 64) [
  | inl x ↦ let i = p.jump x in subst (λ (y : Instr). MayLead false (flow_of y) (of_word at next)) (sym i) even
  | inr a ↦ elim (cases_eq slot 191) [
    | inl x ↦ let i = p.number x in subst (λ (y : Instr). MayLead false (flow_of y) (of_word at next)) (sym i) (let k = subst (λ (y : Instr). HasEffect y e (of_word at next) s t) i h in k.onward)
    | inr b ↦ elim (cases_eq slot 192) [
      | inl x ↦ let i = p.call x in subst (λ (y : Instr). MayLead false (flow_of y) (of_word at next)) (sym i) (let k = subst (λ (y : Instr). HasEffect y e (of_word at next) s t) i h in k.onward)
      | inr c ↦ elim (cases_eq slot 255) [
        | inl x ↦ let i = p.back x in subst (λ (y : Instr). MayLead false (flow_of y) (of_word at next)) (sym i) (let k = subst (λ (y : Instr). HasEffect y e (of_word at next) s t) i h in k.onward)
        | inr d ↦ tame_leads instr e at next s t (p.tame a b c d) h
      ]
    ]
  ]
]

-- only the jump of slot 64 is uninferable, only slot 192 is a call, and no instruction is a
-- breakpoint
tame_stays : (instr : Instr) → IsTame instr → jumps_far (flow_of instr) ≡ false
tame_stays (Imm op rd rs1 imm) f = refl
tame_stays (Op op rd rs1 rs2) f = refl
tame_stays (Load op rd rs1 imm) f = refl
tame_stays (Store op rs1 rs2 imm) f = refl
tame_stays (Branch op rs1 rs2 imm) f = refl
tame_stays (Lui rd imm) f = absurd f
tame_stays (Auipc rd imm) f = absurd f
tame_stays (Jal rd imm) f = absurd f
tame_stays (Jalr rd rs1 imm) f = absurd f
tame_stays (Amo op rd rs1 rs2) f = absurd f
tame_stays Fence f = absurd f
tame_stays Ecall f = absurd f
tame_stays Ebreak f = absurd f
tame_stays (Counter rd csr) f = absurd f

tame_runs : (instr : Instr) → IsTame instr → (instr ≡ Ecall → ⊥) × (instr ≡ Ebreak → ⊥)
tame_runs (Imm op rd rs1 imm) f = (λ e. cc, λ e. cc)
tame_runs (Op op rd rs1 rs2) f = (λ e. cc, λ e. cc)
tame_runs (Load op rd rs1 imm) f = (λ e. cc, λ e. cc)
tame_runs (Store op rs1 rs2 imm) f = (λ e. cc, λ e. cc)
tame_runs (Branch op rs1 rs2 imm) f = (λ e. cc, λ e. cc)
tame_runs (Lui rd imm) f = absurd f
tame_runs (Auipc rd imm) f = absurd f
tame_runs (Jal rd imm) f = absurd f
tame_runs (Jalr rd rs1 imm) f = absurd f
tame_runs (Amo op rd rs1 rs2) f = absurd f
tame_runs Fence f = absurd f
tame_runs Ecall f = absurd f
tame_runs Ebreak f = absurd f
tame_runs (Counter rd csr) f = absurd f

pub far_slot : (slot : ℕ) (instr : Instr) → IsPlaced slot instr → jumps_far (flow_of instr) ≡ true → slot ≡ 64
far_slot slot instr p far = elim (cases_eq slot 64) [
  | inl x ↦ x
  | inr a ↦ elim (cases_eq slot 191) [
    | inl x ↦ let i = p.number x in let bad : false ≡ true = subst (λ (y : Instr). jumps_far (flow_of y) ≡ true) i far in let no : ⊥ = cc in absurd no
    | inr b ↦ elim (cases_eq slot 192) [
      | inl x ↦ let i = p.call x in let bad : false ≡ true = subst (λ (y : Instr). jumps_far (flow_of y) ≡ true) i far in let no : ⊥ = cc in absurd no
      | inr c ↦ elim (cases_eq slot 255) [
        | inl x ↦ let i = p.back x in let bad : false ≡ true = subst (λ (y : Instr). jumps_far (flow_of y) ≡ true) i far in let no : ⊥ = cc in absurd no
        | inr d ↦ let bad : false ≡ true = sym (tame_stays instr (p.tame a b c d)) ∙ far in let no : ⊥ = cc in absurd no
      ]
    ]
  ]
]

pub no_breakpoint : (slot : ℕ) (instr : Instr) → IsPlaced slot instr → instr ≡ Ebreak → ⊥
no_breakpoint slot instr p e = elim (cases_eq slot 64) [
  | inl x ↦ let bad : Jalr 1 23 (pos 0) ≡ Ebreak = sym (p.jump x) ∙ e in cc
  | inr a ↦ elim (cases_eq slot 191) [
    | inl x ↦ let bad : Imm Addi 17 0 (pos 172) ≡ Ebreak = sym (p.number x) ∙ e in cc
    | inr b ↦ elim (cases_eq slot 192) [
      | inl x ↦ let bad : Ecall ≡ Ebreak = sym (p.call x) ∙ e in cc
      | inr c ↦ elim (cases_eq slot 255) [
        | inl x ↦ let bad : Jal 0 (negsuc 1019) ≡ Ebreak = sym (p.back x) ∙ e in cc
        | inr d ↦ (tame_runs instr (p.tame a b c d)).1 e
      ]
    ]
  ]
]

-- no call stands in slot 66
pub no_call_there : (instr : Instr) → IsPlaced 66 instr → instr ≡ Ecall → ⊥
no_call_there instr p e = (tame_runs instr (p.tame (λ x. omega arith) (λ x. omega arith) (λ x. omega arith) (λ x. omega arith))).0 e

-- the word at a slot
word_there : (words : List ℕ) (j a base : ℕ) → length words ≡ 256 → j < 256 → base ≡ 65536 → a ≡ 65536 + 4 * j → word_of_code words base a ≡ Some (get_or words j 0)
word_there words j a base size lt start e =
    let t : nat_le base a ≡ true = grind (arith, nat_tests) in
    let u : ((a - base) % 4 == 0) ≡ true = (let m : (a - base) % 4 ≡ 0 = omega arith in rw m refl) in
    let k : (a - base) / 4 ≡ j = omega arith in
    let g : slice_get words j ≡ Some (get_or words j 0) = slice_get-get_or words j 0 (omega arith) in
    rw (t, u, k) g

-- one row more
pub get_push : (rows : List StepRow) (row : StepRow) (i : ℕ) (r : StepRow) → slice_get (rows ++ row ∷ []) i ≡ Some r → (slice_get rows i ≡ Some r) ⊎ ((i ≡ length rows) × (row ≡ r))
get_push [] row zero r h = inr (refl, (cc))
get_push [] row (suc i) r h = absurd (cc)
get_push (x ∷ rows) row zero r h = inl h
get_push (x ∷ rows) row (suc i) r h = elim (get_push rows row i r h) [ inl g ↦ inl g | inr g ↦ inr (ap suc g.0, g.1) ]

begin_push : (rows : List StepRow) (row : StepRow) (a : ℕ) → BeginAt rows a → (rows ≡ [] → row.at ≡ a) → BeginAt (rows ++ row ∷ []) a
begin_push [] row a b f = f refl
begin_push (x ∷ rows) row a b f = b

abbrev longer : ℕ → (ℕ → State) → State → ℕ → State
longer n run last i = cond (nat_le i n) (run i) last

before : (n : ℕ) (run : ℕ → State) (last : State) (i : ℕ) → i ≤ n → longer n run last i ≡ run i
before n run last i le = let t : nat_le i n ≡ true = grind (arith, nat_tests) in rw t refl

at_last : (n : ℕ) (run : ℕ → State) (last : State) → longer n run last (n + 1) ≡ last
at_last n run last = let t : nat_le (n + 1) n ≡ false = grind (arith, nat_tests) in rw t refl

module _ (seed : ℕ) (words : List ℕ) (code : IsCode seed words) (old new : Machine) (rows : List StepRow) (ran : RanRows seed words old rows) (row : StepRow) (lawful : (e : ℕ) → IsStep e row (state_of old) (state_of new)) (state : IsState (state_of new)) (picks : Picks row.instr (state_of old) (state_of new)) (at : row.at ≡ pc_of old) (next : pc_of new ≡ row.next) (instr : IsNextInstr old row.instr) (call : IsTrue row.call ↔ (row.instr ≡ Ecall)) (long : row.short ≡ false) (kept : code_of new ≡ code_of old) (base : base_of new ≡ base_of old) where
  there : row.at ≡ 65536 + 4 * ran.slot.0
  there = at ∙ ran.slot.2

  spelled : SpellsAt ran.slot.0 (get_or words ran.slot.0 0) (made_instr seed ran.slot.0)
  spelled = code.spells ran.slot.0 ran.slot.1

  is_made : row.instr ≡ made_instr seed ran.slot.0
  is_made =
      let w : next_word old ≡ Some (get_or words ran.slot.0 0) = ap (λ (xs : List ℕ). word_of_code xs (base_of old) (pc_of old)) ran.code ∙ word_there words ran.slot.0 (pc_of old) (base_of old) code.size ran.slot.1 ran.base ran.slot.2 in
      let i : IsWord (get_or words ran.slot.0 0) row.instr = subst (λ (o : Option ℕ). MatchOption o ⊥ (λ word. IsWord word row.instr)) w instr in
      one_instruction (get_or words ran.slot.0 0) row.instr (made_instr seed ran.slot.0) i spelled.spelled

  placed : IsPlaced ran.slot.0 row.instr
  placed = subst (λ (i : Instr). IsPlaced ran.slot.0 i) (sym is_made) spelled.placed

  -- the row's addresses are those of an instruction of four bytes
  effect : (e : ℕ) → HasEffect row.instr e (of_word row.at row.next) (state_of old) (state_of new)
  effect e = subst (λ (a : Addresses). HasEffect row.instr e a (state_of old) (state_of new)) (of_long row long) (lawful e)

  goes : Next (state_of new) row.next
  goes = near_step row.at ran.slot.0 row.next (state_of old) (state_of new) there ran.near row.instr 0 ran.slot.1 ran.state.zero placed (effect 0)

  calls_so : row.call ≡ calls (flow_of row.instr)
  calls_so = called row.call row.instr call

  stepped : IsStepped false row
  stepped =
      let there_is = there in
      let to = goes.1 in
      record {
        aligned = omega arith;
        lead = subst (λ (a : Addresses). MayLead false (flow_of row.instr) a) (sym (of_long row long)) (leads ran.slot.0 row.instr 0 row.at row.next (state_of old) (state_of new) placed (let e = to.2 in omega arith) (effect 0));
        call = calls_so;
        long = λ words. long;
      }

  made_row : IsMadeRow seed row (state_of old) (state_of new)
  made_row = record { slot = ran.slot.0; below = ran.slot.1; at = there; instr = is_made; step = lawful; picks = picks; call = calls_so; long = long }

  abbrev run : ℕ → State
  run = longer (length rows) ran.run (state_of new)

  run_last : run (length (rows ++ row ∷ [])) ≡ state_of new
  run_last =
      let size : length (rows ++ row ∷ []) ≡ length rows + 1 = length-append rows (row ∷ []) in
      rw size (at_last (length rows) ran.run (state_of new))

  run_on : AreMadeStates seed (rows ++ row ∷ []) run
  run_on =
      let m = ran.made in
      let size : length (rows ++ row ∷ []) ≡ length rows + 1 = length-append rows (row ∷ []) in
      let first : run 0 ≡ ran.run 0 = before (length rows) ran.run (state_of new) 0 (omega arith) in
      record {
        registers = λ r. ap (λ (s : State). s.register r) first ∙ m.registers r;
        memory = λ a. ap (λ (s : State). s.memory a) first ∙ m.memory a;
        begin = begin_push rows row 65536 m.begin (λ none. at ∙ ran.start none);
        states = λ i le. elim (cases_eq i (length rows + 1)) [
          | inl e ↦ subst (λ (k : ℕ). IsState (run k)) (sym e) (subst IsState (sym (at_last (length rows) ran.run (state_of new))) state)
          | inr ne ↦ subst IsState (sym (before (length rows) ran.run (state_of new) i (omega arith))) (m.states i (omega arith))
        ];
        steps = λ i r get. elim (get_push rows row i r get) [
          | inl g ↦
              let w = slice_get_within rows i r g in
              subst (λ (s : State). IsMadeRow seed r s (run (i + 1))) (sym (before (length rows) ran.run (state_of new) i (omega arith))) (subst (λ (t : State). IsMadeRow seed r (ran.run i) t) (sym (before (length rows) ran.run (state_of new) (i + 1) (omega arith))) (m.steps i r g))
          | inr g ↦
              let a : run (length rows) ≡ state_of old = before (length rows) ran.run (state_of new) (length rows) (omega arith) ∙ ran.now in
              let b : run (length rows + 1) ≡ state_of new = at_last (length rows) ran.run (state_of new) in
              let here : IsMadeRow seed row (run (length rows)) (run (length rows + 1)) = subst (λ (s : State). IsMadeRow seed row s (run (length rows + 1))) (sym a) (subst (λ (t : State). IsMadeRow seed row (state_of old) t) (sym b) made_row) in
              let same : IsMadeRow seed r (run (length rows)) (run (length rows + 1)) = subst (λ (x : StepRow). IsMadeRow seed x (run (length rows)) (run (length rows + 1))) g.1 here in
              subst (λ (k : ℕ). IsMadeRow seed r (run k) (run (k + 1))) (sym g.0) same
        ];
      }

  -- the row that is new follows no uninferable jump where it is a call
  landed_on : (before : ℕ) (last : StepRow) → length (rows ++ row ∷ []) ≡ before + 1 → slice_get (rows ++ row ∷ []) before ≡ Some last → jumps_far (flow_of last.instr) ≡ true → pc_of new ≡ 65800
  landed_on before last size get far = elim (get_push rows row before last get) [
    | inl g ↦ let w = slice_get_within rows before last g in let l : length (rows ++ row ∷ []) ≡ length rows + 1 = length-append rows (row ∷ []) in let no : ⊥ = omega arith in absurd no
    | inr g ↦
        let here : jumps_far (flow_of row.instr) ≡ true = subst (λ (r : StepRow). jumps_far (flow_of r.instr) ≡ true) (sym g.1) far in
        let slot : ran.slot.0 ≡ 64 = far_slot ran.slot.0 row.instr placed here in
        next ∙ jump_lands row.at ran.slot.0 row.next (state_of old) (state_of new) there ran.near row.instr 0 slot placed (effect 0)
  ]

  no_call_here : pc_of old ≡ 65800 → row.instr ≡ Ecall → ⊥
  no_call_here lands e =
      let where_it_is = ran.slot.2 in
      let slot : ran.slot.0 ≡ 66 = omega arith in
      no_call_there row.instr (subst (λ (k : ℕ). IsPlaced k row.instr) slot placed) e

  entered_on : (i : ℕ) → IsJumpEnd (rows ++ row ∷ []) i → ⊥
  entered_on i end = elim (get_push rows row i end.call end.follows) [
    | inl g ↦ elim (get_push rows row end.before end.jump end.jumps) [
      | inl f ↦ ran.entered i (record { jump = end.jump; call = end.call; before = end.before; next = end.next; jumps = f; far = end.far; follows = g; is_call = end.is_call })
      | inr f ↦ let w = slice_get_within rows i end.call g in let a = end.next in let b = f.0 in omega arith
    ]
    | inr g ↦ elim (get_push rows row end.before end.jump end.jumps) [
      | inl f ↦
          let is_so : IsTrue row.call = subst (λ (r : StepRow). r.call ≡ true) (sym g.1) end.is_call in
          no_call_here (ran.landed end.before end.jump (sym g.0 ∙ end.next) f end.far) (call.0 is_so)
      | inr f ↦ let a = end.next in let b = f.0 in let e = g.0 in omega arith
    ]
  ]

  push_some : (xs : List StepRow) → (xs ++ row ∷ [] ≡ []) → ⊥
  push_some [] e = cc
  push_some (x ∷ xs) e = cc

  pub ran_on : EndBefore (rows ++ row ∷ []) row.next → RanRows seed words new (rows ++ row ∷ [])
  ran_on ends = record {
    code = kept ∙ ran.code;
    base = base ∙ ran.base;
    run = run;
    made = run_on;
    now = run_last;
    near = goes.0;
    state = state;
    slot = (goes.1.0, goes.1.1, next ∙ goes.1.2);
    start = λ none. absurd (push_some rows none);
    ends = rw next ends;
    steps = All-push (IsStepped false) rows row ran.steps stepped;
    landed = landed_on;
    entered = entered_on;
  }

-- Before the first step.
pub ran_first : (seed : ℕ) (words : List ℕ) (m : Machine) → code_of m ≡ words → base_of m ≡ 65536 → pc_of m ≡ 65536 → ((r : ℕ) → (state_of m).register r ≡ get_or (start_registers seed) r 0) → ((a : ℕ) → (state_of m).memory a ≡ 0) → IsState (state_of m) → RanRows seed words m []
ran_first seed words m code base pc registers memory state = record {
  code = code;
  base = base;
  run = λ i. state_of m;
  made = record { registers = registers; memory = memory; begin = tt; states = λ i le. state; steps = λ i row get. absurd (cc) };
  now = refl;
  near = record { number = registers 17; place = registers 20; offset = (let o = registers 21 in omega arith); far = 0; reached = registers 22 ∙ refl; few = omega arith; target = registers 23 };
  state = state;
  slot = (0, omega arith, pc ∙ refl);
  start = λ none. pc;
  ends = tt;
  steps = All-nil (IsStepped false);
  landed = λ before last size. omega arith;
  entered = λ i end. let get = end.jumps in cc;
}

above_zero : (r : ℕ) → (suc r == 0) ≡ false
above_zero r = grind (arith, nat_tests)

pub start_of : (seed : ℕ) (regs : List ℕ) (v r : ℕ) → regs ≡ start_registers seed → v ≡ cond (r == 0) 0 (get_or regs r 0) → v ≡ get_or (start_registers seed) r 0
start_of seed regs v zero is e = e
start_of seed regs v (suc r) is e =
    let t = above_zero r in
    e ∙ ap (λ (b : Bool). cond b 0 (get_or regs (suc r) 0)) t ∙ ap (λ (xs : List ℕ). get_or xs (suc r) 0) is

-- the machine of a made run halts only where memory is wanting
module _ (seed : ℕ) (words : List ℕ) (m : Machine) (rows : List StepRow) (code : IsCode seed words) (ran : RanRows seed words m rows) where
  word_next : next_word m ≡ Some (get_or words ran.slot.0 0)
  word_next = ap (λ (xs : List ℕ). word_of_code xs (base_of m) (pc_of m)) ran.code ∙ word_there words ran.slot.0 (pc_of m) (base_of m) code.size ran.slot.1 ran.base ran.slot.2

  pub has_code : {P : Type 0} (address : ℕ) → Halts m (halt.NotCode address) → P
  has_code address h = let bad : Some (get_or words ran.slot.0 0) ≡ None = sym word_next ∙ h.1 in let no : ⊥ = cc in absurd no

  pub has_instruction : {P : Type 0} (address : ℕ) → Halts m (halt.NotRunnable address) → P
  has_instruction address h =
      let refused : IsNotRunnable (get_or words ran.slot.0 0) = subst (λ (o : Option ℕ). MatchOption o ⊥ IsNotRunnable) word_next h.1 in
      let spelled = code.spells ran.slot.0 ran.slot.1 in
      absurd (no_breakpoint ran.slot.0 (made_instr seed ran.slot.0) spelled.placed (refused (made_instr seed ran.slot.0) spelled.spelled))
