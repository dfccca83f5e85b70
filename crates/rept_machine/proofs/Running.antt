-- A run one step longer.
use Rattle.std.proofs.Common.{◌≡◌, ℕ, zero, suc, ◌+◌, ◌≤◌, nat_le, List, [], ◌∷◌, ◌++◌, length, slice_get, Option, Some, MatchOption, true, false, cond, refl, sym, ◌∙◌, ap, subst, arith, ◌⊎◌, inl, inr, length-append}
use Rattle.std.specs.Prelude.{All}
use Rattle.std.proofs.lemmas.Bool.{cases_eq}
use Rattle.std.proofs.lemmas.Bool.Decides.{nat_tests}
use Rattle.std.proofs.lemmas.List.Elements.{All-nil, All-push}
use Rattle.std.proofs.lemmas.Option.{slice_get_within}
use Rattle.rept_isa.specs.declared.row.StepRow.{StepRow}
use Rattle.rept_isa.specs.Words.{IsWord}
use Rattle.rept_machine.specs.declared.machine.Machine.{Machine}
use Rattle.rept_machine.specs.Machine.{state_of, pc_of, code_of, base_of, word_of_code, IsNextInstr}
use Rattle.rept_machine.specs.State.{State, IsState}
use Rattle.rept_machine.specs.Step.{IsStep}
use Rattle.rept_machine.specs.Runs.{LeadFrom, IsSpelled, RunsOwnCode}

-- The states that a machine has gone through, each of them a state, each step lawful.
pub record Ran (old new : Machine) (rows : List StepRow) : Type 0 where
  pub code : code_of new ≡ code_of old
  pub base : base_of new ≡ base_of old
  pub leads : LeadFrom (pc_of old) rows (pc_of new)
  pub spelled : All (IsSpelled old) rows
  pub states : ℕ → State
  pub first : states 0 ≡ state_of old
  pub last : states (length rows) ≡ state_of new
  pub lawful : (p : ℕ) → p ≤ length rows → IsState (states p)
  pub steps : (image_end i : ℕ) (row : StepRow) → slice_get rows i ≡ Some row → IsStep image_end row (states i) (states (i + 1))

pub ran_none : (old : Machine) → IsState (state_of old) → Ran old old []
ran_none old state = record {
  code = refl;
  base = refl;
  leads = refl;
  spelled = All-nil (IsSpelled old);
  states = λ p. state_of old;
  first = refl;
  last = refl;
  lawful = λ p h. state;
  steps = λ e i row h. absurd (cc);
}

pub ran_is_run : (old new : Machine) (rows : List StepRow) → Ran old new rows → RunsOwnCode old new rows
ran_is_run old new rows ran = record {
  leads = ran.leads;
  spelled = ran.spelled;
  states = ran.states;
  first = ran.first;
  last = ran.last;
  execution = λ e registers dump saved. record {
    states = ran.lawful;
    steps = λ i row h. ran.steps e i row h;
    registers_end = λ r v some h. ap (λ (s : State). s.register r) ran.last ∙ saved.registers r v some h;
    bytes_end = λ a v h. ap (λ (s : State). s.memory a) ran.last ∙ saved.bytes a v h;
  };
}

leads_push : (from to next : ℕ) (rows : List StepRow) (row : StepRow) → LeadFrom from rows to → row.at ≡ to → next ≡ row.next → LeadFrom from (rows ++ row ∷ []) next
leads_push from to next [] row leads at is = (at ∙ leads, is)
leads_push from to next (r ∷ rows) row leads at is = (leads.0, leads_push r.next to next rows row leads.1 at is)

get_push : (rows : List StepRow) (row : StepRow) (i : ℕ) (r : StepRow) → slice_get (rows ++ row ∷ []) i ≡ Some r → (slice_get rows i ≡ Some r) ⊎ ((i ≡ length rows) × (row ≡ r))
get_push [] row zero r h = inr (refl, (cc))
get_push [] row (suc i) r h = absurd (cc)
get_push (x ∷ rows) row zero r h = inl h
get_push (x ∷ rows) row (suc i) r h = elim (get_push rows row i r h) [ inl g ↦ inl g | inr g ↦ inr (ap suc g.0, g.1) ]

-- the states up to a place, and the last one after it
abbrev longer : ℕ → (ℕ → State) → State → ℕ → State
longer n run last i = cond (nat_le i n) (run i) last

before : (n : ℕ) (run : ℕ → State) (last : State) (i : ℕ) → i ≤ n → longer n run last i ≡ run i
before n run last i le = let t : nat_le i n ≡ true = grind (arith, nat_tests) in rw t refl

at_last : (n : ℕ) (run : ℕ → State) (last : State) → longer n run last (n + 1) ≡ last
at_last n run last = let t : nat_le (n + 1) n ≡ false = grind (arith, nat_tests) in rw t refl

module _ (old mid new : Machine) (rows : List StepRow) (ran : Ran old mid rows) (row : StepRow) (lawful : (e : ℕ) → IsStep e row (state_of mid) (state_of new)) (state : IsState (state_of new)) (at : row.at ≡ pc_of mid) (next : pc_of new ≡ row.next) (instr : IsNextInstr mid row.instr) (kept : code_of new ≡ code_of mid) (base : base_of new ≡ base_of mid) where
  abbrev run : ℕ → State
  run = longer (length rows) ran.states (state_of new)

  size : length (rows ++ row ∷ []) ≡ length rows + 1
  size = length-append rows (row ∷ [])

  last_is : run (length rows + 1) ≡ state_of new
  last_is = at_last (length rows) ran.states (state_of new)

  spelled : IsSpelled old row
  spelled =
      let word : word_of_code (code_of mid) (base_of mid) (pc_of mid) ≡ word_of_code (code_of old) (base_of old) row.at = rw (ran.code, ran.base, at) refl in
      subst (λ (o : Option ℕ). MatchOption o ⊥ (λ w. IsWord w row.instr)) word instr

  steps_on : (e i : ℕ) (r : StepRow) → slice_get (rows ++ row ∷ []) i ≡ Some r → IsStep e r (run i) (run (i + 1))
  steps_on e i r get = elim (get_push rows row i r get) [
    | inl g ↦
        let w = slice_get_within rows i r g in
        subst (λ (s : State). IsStep e r s (run (i + 1))) (sym (before (length rows) ran.states (state_of new) i (omega arith))) (subst (λ (t : State). IsStep e r (ran.states i) t) (sym (before (length rows) ran.states (state_of new) (i + 1) (omega arith))) (ran.steps e i r g))
    | inr g ↦
        let a : run (length rows) ≡ state_of mid = before (length rows) ran.states (state_of new) (length rows) (omega arith) ∙ ran.last in
        let here : IsStep e row (run (length rows)) (run (length rows + 1)) = subst (λ (s : State). IsStep e row s (run (length rows + 1))) (sym a) (subst (λ (t : State). IsStep e row (state_of mid) t) (sym last_is) (lawful e)) in
        let same : IsStep e r (run (length rows)) (run (length rows + 1)) = subst (λ (x : StepRow). IsStep e x (run (length rows)) (run (length rows + 1))) g.1 here in
        subst (λ (k : ℕ). IsStep e r (run k) (run (k + 1))) (sym g.0) same
  ]

  pub ran_on : Ran old new (rows ++ row ∷ [])
  ran_on = record {
    code = kept ∙ ran.code;
    base = base ∙ ran.base;
    leads = leads_push (pc_of old) (pc_of mid) (pc_of new) rows row ran.leads at next;
    spelled = All-push (IsSpelled old) rows row ran.spelled spelled;
    states = run;
    first = before (length rows) ran.states (state_of new) 0 (omega arith) ∙ ran.first;
    last = ap run size ∙ last_is;
    lawful = λ p le. elim (cases_eq p (length rows + 1)) [
      | inl e ↦ subst (λ (k : ℕ). IsState (run k)) (sym e) (subst IsState (sym last_is) state)
      | inr ne ↦ (let s = size in subst IsState (sym (before (length rows) ran.states (state_of new) p (omega (arith, s, le, ne)))) (ran.lawful p (omega (arith, s, le, ne))))
    ];
    steps = steps_on;
  }
