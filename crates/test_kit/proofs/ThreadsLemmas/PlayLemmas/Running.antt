-- One step more of the machine.
use Rattle.std.proofs.Common.{◌≡◌, ℕ, suc, pos, ◌+◌, ◌-◌, ◌*◌, ◌/◌, ◌%◌, ◌<◌, ◌≤◌, nat_le, cond, false, List, length, get_or, Option, None, Some, MatchOption, refl, sym, ap, ◌∙◌, subst, arith, inl, inr}
use Rattle.std.proofs.lemmas.Bool.{cases_eq, cases_lt, le-leb, lt-leb, eq-eqb, ne_eqb}
use Rattle.std.proofs.lemmas.Option.{slice_get-get_or}
use Rattle.rept_isa.specs.declared.instr.Instr.{Instr}
use Rattle.rept_isa.specs.declared.instr.Instr.TheVariants.{Lui, Auipc, Jal, Jalr, Branch, Load, Store, Imm, Op, Amo, Fence, Ecall, Ebreak, Counter}
use Rattle.rept_isa.specs.declared.instr.ImmOp.TheVariants.{Addi}
use Rattle.rept_isa.specs.declared.row.StepRow.{StepRow}
use Rattle.rept_isa.specs.Words.{IsWord}
use Rattle.rept_isa.specs.Numbers.{following}
use Rattle.rept_isa.specs.Rows.{Addresses, of_word}
use Rattle.rept_isa.proofs.RowLemmas.{of_long}
use Rattle.rept_isa.proofs.WordLemmas.{one_instruction}
use Rattle.rept_machine.specs.State.{State, IsState}
use Rattle.rept_machine.specs.Step.{HasEffect, IsStep}
use Rattle.rept_machine.specs.Choices.{Picks}
use Rattle.rept_machine.specs.declared.machine.Machine.{Machine}
use Rattle.rept_machine.specs.declared.machine.Halt.TheVariants as halt
use Rattle.rept_machine.specs.Machine.{state_of, pc_of, code_of, base_of, next_word, word_of_code, IsNextInstr, IsNotRunnable, Halts}
use Rattle.test_kit.specs.declared.threads.turns.turn.Turn.{Turn}
use Rattle.test_kit.specs.Threads.Turns.Turns.{all_rows, steps_before, turn_at}
use Rattle.test_kit.proofs.ThreadsLemmas.TurnsLemmas.Places.{turn_there}
use Rattle.test_kit.specs.Threads.Play.Shares.{UsesOwn}
use Rattle.test_kit.specs.Threads.Play.Code.{drawn_in, played_in, played_at, IsPlayCode, IsPlayable, AreWords}
use Rattle.test_kit.specs.Threads.Play.Ran.{RanTurns, GoesBy}
use Rattle.test_kit.proofs.ThreadsLemmas.PlayLemmas.Turning.{thread_below}

word_there : (words : List ℕ) (k : ℕ) → k < length words → word_of_code words 65536 (65536 + 4 * k) ≡ Some (get_or words k 0)
word_there words k less =
    let place : (65536 + 4 * k - 65536) / 4 ≡ k = omega arith in
    rw (le-leb 65536 (65536 + 4 * k) (omega arith), eq-eqb ((65536 + 4 * k - 65536) % 4) 0 (omega arith), place) (slice_get-get_or words k 0 less)

-- no slot runs into a breakpoint, and each leads to the next address
uses_runs : (t : ℕ) (instr : Instr) → UsesOwn t instr → instr ≡ Ebreak → ⊥
uses_runs t (Imm op rd rs1 imm) own is = cc
uses_runs t (Op op rd rs1 rs2) own is = cc
uses_runs t (Load op rd rs1 imm) own is = cc
uses_runs t (Store op rs1 rs2 imm) own is = cc
uses_runs t (Lui rd imm) own is = absurd own
uses_runs t (Auipc rd imm) own is = absurd own
uses_runs t (Jal rd imm) own is = absurd own
uses_runs t (Jalr rd rs1 imm) own is = absurd own
uses_runs t (Branch op rs1 rs2 imm) own is = absurd own
uses_runs t (Amo op rd rs1 rs2) own is = absurd own
uses_runs t Fence own is = absurd own
uses_runs t Ecall own is = cc
uses_runs t Ebreak own is = absurd own
uses_runs t (Counter rd csr) own is = absurd own

uses_leads : (t : ℕ) (instr : Instr) (image_end : ℕ) (a : Addresses) (s u : State) → UsesOwn t instr → HasEffect instr image_end a s u → a.next ≡ following a.from
uses_leads t (Imm op rd rs1 imm) image_end a s u own h = h.onward
uses_leads t (Op op rd rs1 rs2) image_end a s u own h = h.onward
uses_leads t (Load op rd rs1 imm) image_end a s u own h = h.onward
uses_leads t (Store op rs1 rs2 imm) image_end a s u own h = h.onward
uses_leads t (Lui rd imm) image_end a s u own h = absurd own
uses_leads t (Auipc rd imm) image_end a s u own h = absurd own
uses_leads t (Jal rd imm) image_end a s u own h = absurd own
uses_leads t (Jalr rd rs1 imm) image_end a s u own h = absurd own
uses_leads t (Branch op rs1 rs2 imm) image_end a s u own h = absurd own
uses_leads t (Amo op rd rs1 rs2) image_end a s u own h = absurd own
uses_leads t Fence image_end a s u own h = absurd own
uses_leads t Ecall image_end a s u own h = h.onward
uses_leads t Ebreak image_end a s u own h = absurd own
uses_leads t (Counter rd csr) image_end a s u own h = absurd own

-- what a slot runs: the instruction that does nothing, or one that uses the thread's registers
pub last_slot : (code : List Instr) (t s : ℕ) → s ≡ 15 → played_in code t s ≡ Imm Addi 0 0 (pos 0)
last_slot code t s is = rw (eq-eqb s 15 is) refl

pub other_slot : (code : List Instr) (t s : ℕ) → (s ≡ 15 → ⊥) → played_in code t s ≡ drawn_in code t s
other_slot code t s other = rw (ne_eqb s 15 other) refl

nothing_runs : Imm Addi 0 0 (pos 0) ≡ Ebreak → ⊥
nothing_runs is = cc

slot_runs : (code : List Instr) (t s : ℕ) → IsPlayCode code → t < 4 → s < 16 → played_in code t s ≡ Ebreak → ⊥
slot_runs code t s slots few small is =
    elim (cases_eq s 15) [
      | inl last ↦ nothing_runs (sym (last_slot code t s last) ∙ is)
      | inr other ↦ uses_runs t (drawn_in code t s) (slots.uses t s few (omega arith)) (sym (other_slot code t s other) ∙ is)
    ]

slot_leads : (code : List Instr) (t s image_end : ℕ) (a : Addresses) (x u : State) → IsPlayCode code → t < 4 → s < 16 → HasEffect (played_in code t s) image_end a x u → a.next ≡ following a.from
slot_leads code t s image_end a x u slots few small h =
    elim (cases_eq s 15) [
      | inl last ↦ (subst (λ (i : Instr). HasEffect i image_end a x u) (last_slot code t s last) h).onward
      | inr other ↦ uses_leads t (drawn_in code t s) image_end a x u (slots.uses t s few (omega arith)) (subst (λ (i : Instr). HasEffect i image_end a x u) (other_slot code t s other) h)
    ]

-- states, and one more after the last
abbrev pub longer : ℕ → (ℕ → State) → State → (ℕ → State)
longer k states new j = cond (nat_le j k) (states j) new

longer_before : (k : ℕ) (states : ℕ → State) (new : State) (j : ℕ) → j ≤ k → longer k states new j ≡ states j
longer_before k states new j most = rw (le-leb j k most) refl

longer_last : (k : ℕ) (states : ℕ → State) (new : State) (j : ℕ) → k < j → longer k states new j ≡ new
longer_last k states new j more = rw (lt-leb j k more) refl

pub ran_first : (code : List Instr) (turns : List Turn) (machine : Machine) (words : List ℕ) → AreWords code turns words → code_of machine ≡ words → base_of machine ≡ 65536 → pc_of machine ≡ 65536 → IsState (state_of machine)
    → (ran : RanTurns code turns 0 machine) × (ran.states 0 ≡ state_of machine)
ran_first code turns machine words are is base pc state = (
  record {
    words = subst (λ (ws : List ℕ). AreWords code turns ws) (sym is) are;
    base = base;
    pc = pc;
    states = λ j. state_of machine;
    now = refl;
    are = λ j most. state;
    goes = λ j turn less at. absurd (omega arith);
  },
  refl,
)

module _ (code : List Instr) (turns : List Turn) (k : ℕ) (old : Machine) (playable : IsPlayable code turns) (below : k < all_rows turns) (ran : RanTurns code turns k old) where
  here : (turn : Turn) × (turn_at turns k ≡ Some turn)
  here = turn_there turns k below

  abbrev word : ℕ
  word = get_or (code_of old) k 0

  word_next : next_word old ≡ Some word
  word_next =
      ap (λ (base : ℕ). word_of_code (code_of old) base (pc_of old)) ran.base
      ∙ ap (λ (pc : ℕ). word_of_code (code_of old) 65536 pc) ran.pc
      ∙ word_there (code_of old) k (let size = ran.words.size in omega arith)

  small : (n : ℕ) → n % 16 < 16
  small n = omega arith

  spelled : (turn : Turn) → turn_at turns k ≡ Some turn → IsWord word (played_at code turns turn k)
  spelled turn at = ran.words.spell k turn at

  pub has_code : (address : ℕ) → Halts old (halt.NotCode address) → ⊥
  has_code address h = let bad : Some word ≡ None = sym word_next ∙ h.1 in cc

  pub has_instruction : (address : ℕ) → Halts old (halt.NotRunnable address) → ⊥
  has_instruction address h =
      let refused : IsNotRunnable word = subst (λ (o : Option ℕ). MatchOption o ⊥ IsNotRunnable) word_next h.1 in
      let turn = here.0 in
      slot_runs code here.0.thread (steps_before here.0.thread turns k % 16) playable.slots (thread_below turns k here.0 playable.threads here.1) (small (steps_before here.0.thread turns k)) (refused (played_at code turns here.0 k) (spelled here.0 here.1))

  module _ (new : Machine) (row : StepRow) (lawful : (image_end : ℕ) → IsStep image_end row (state_of old) (state_of new)) (state : IsState (state_of new)) (picks : Picks row.instr (state_of old) (state_of new)) (at : row.at ≡ pc_of old) (next : pc_of new ≡ row.next) (instr : IsNextInstr old row.instr) (long : row.short ≡ false) (kept : code_of new ≡ code_of old) (base : base_of new ≡ base_of old) where
    its_word : IsWord word row.instr
    its_word = subst (λ (o : Option ℕ). MatchOption o ⊥ (λ w. IsWord w row.instr)) word_next instr

    instr_is : (turn : Turn) → turn_at turns k ≡ Some turn → row.instr ≡ played_at code turns turn k
    instr_is turn its = one_instruction word row.instr (played_at code turns turn k) its_word (spelled turn its)

    effect : (turn : Turn) → turn_at turns k ≡ Some turn → (image_end : ℕ) → HasEffect (played_at code turns turn k) image_end (of_word row.at row.next) (state_of old) (state_of new)
    effect turn its image_end = subst (λ (i : Instr). HasEffect i image_end (of_word row.at row.next) (state_of old) (state_of new)) (instr_is turn its) (subst (λ (a : Addresses). HasEffect row.instr image_end a (state_of old) (state_of new)) (of_long row long) (lawful image_end))

    leads : row.next ≡ following row.at
    leads = slot_leads code here.0.thread (steps_before here.0.thread turns k % 16) 0 (of_word row.at row.next) (state_of old) (state_of new) playable.slots (thread_below turns k here.0 playable.threads here.1) (small (steps_before here.0.thread turns k)) (effect here.0 here.1 0)

    abbrev states : ℕ → State
    states = longer k ran.states (state_of new)

    now_old : states k ≡ state_of old
    now_old = longer_before k ran.states (state_of new) k (omega arith) ∙ ran.now

    now_new : states (suc k) ≡ state_of new
    now_new = longer_last k ran.states (state_of new) (suc k) (omega arith)

    goes_here : (turn : Turn) → turn_at turns k ≡ Some turn → GoesBy (played_at code turns turn k) (states k) (states (suc k))
    goes_here turn its = subst (λ (s : State). GoesBy (played_at code turns turn k) s (states (suc k))) (sym now_old) (subst (λ (s : State). GoesBy (played_at code turns turn k) (state_of old) s) (sym now_new) (record { at = row.at; next = row.next; effect = effect turn its; picks = subst (λ (i : Instr). Picks i (state_of old) (state_of new)) (instr_is turn its) picks }))

    goes_before : (j : ℕ) (turn : Turn) → j < k → turn_at turns j ≡ Some turn → GoesBy (played_at code turns turn j) (states j) (states (suc j))
    goes_before j turn less its = subst (λ (s : State). GoesBy (played_at code turns turn j) s (states (suc j))) (sym (longer_before k ran.states (state_of new) j (omega arith))) (subst (λ (s : State). GoesBy (played_at code turns turn j) (ran.states j) s) (sym (longer_before k ran.states (state_of new) (suc j) (omega arith))) (ran.goes j turn less its))

    goes : (j : ℕ) (turn : Turn) → j < k + 1 → turn_at turns j ≡ Some turn → GoesBy (played_at code turns turn j) (states j) (states (suc j))
    goes j turn less its =
        elim (cases_eq j k) [
          | inl same ↦ subst (λ (i : ℕ). GoesBy (played_at code turns turn i) (states i) (states (suc i))) (sym same) (goes_here turn (ap (turn_at turns) (sym same) ∙ its))
          | inr other ↦ goes_before j turn (omega arith) its
        ]

    are : (j : ℕ) → j ≤ k + 1 → IsState (states j)
    are j most =
        elim (cases_lt k j) [
          | inl last ↦ subst IsState (sym (longer_last k ran.states (state_of new) j last)) state
          | inr early ↦ subst IsState (sym (longer_before k ran.states (state_of new) j early)) (ran.are j early)
        ]

    -- one step more, of a machine that began as before
    pub ran_on : (next : RanTurns code turns (k + 1) new) × (next.states 0 ≡ ran.states 0)
    ran_on = (
      record {
        words = subst (λ (ws : List ℕ). AreWords code turns ws) (sym kept) ran.words;
        base = base ∙ ran.base;
        pc = let few = playable.few in let pc = ran.pc in let to = leads in omega arith;
        states = states;
        now = longer_last k ran.states (state_of new) (k + 1) (omega arith);
        are = are;
        goes = goes;
      },
      longer_before k ran.states (state_of new) 0 (omega arith),
    )
