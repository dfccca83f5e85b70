-- The run of a play that was made to its end.
use Rattle.std.proofs.Common.{◌≡◌, [], ℕ, suc, pos, negsuc, ◌+◌, ◌-◌, ◌%◌, ◌<◌, ◌≤◌, cond, Bool, true, false, List, length, slice_get, slice_index, unwrap_or, Option, Some, None, refl, sym, ap, ◌∙◌, subst, arith, inl, inr, ◌∷◌, All, ◌⊎◌}
use Rattle.std.proofs.lemmas.Bool.{cases_eq, cases_lt, eq-eqb, false≢true, le-ltb, lt-ltb, ne_eqb}
use Rattle.std.proofs.lemmas.List.Elements.{All-head, All-tail}
use Rattle.std.proofs.lemmas.Option.{slice_get_cases, slice_get_past}
use Rattle.rept_isa.specs.declared.instr.Instr.{Instr}
use Rattle.rept_isa.specs.declared.instr.Instr.TheVariants.{Jal, Imm}
use Rattle.rept_isa.specs.declared.instr.ImmOp.TheVariants.{Addi}
use Rattle.rept_isa.specs.Numbers.{word, plus, following}
use Rattle.rept_isa.specs.Rows.{Addresses, of_word, addresses_of}
use Rattle.rept_isa.specs.Operands.{is_call}
use Rattle.rept_machine.specs.State.{State}
use Rattle.rept_machine.specs.Step.{HasEffect, IsStep}
use Rattle.rept_machine.specs.Choices.{Picks}
use Rattle.rept_machine.specs.declared.machine.Machine.{Machine}
use Rattle.rept_machine.specs.Machine.{state_of}
use Rattle.rept_steps.specs.declared.slice.Slice.{Slice}
use Rattle.rept_steps.specs.declared.threads.ThreadRows.{ThreadRows}
use Rattle.rept_steps.specs.Course.{Course, Row, row_of, rows_of, no_thread, row_at, is_call_row, calls, CallsEnd, IsSoundCourse, slice_of}
use Rattle.rept_order.specs.History.{World, seen_by, OthersKeep, Stays, ExecutesRow, Ending}
use Rattle.test_kit.specs.declared.threads.turns.turn.Turn.{Turn}
use Rattle.test_kit.specs.Threads.Turns.Turns.{slice_by, all_rows, rows_in, steps_before, turn_at, HasTurns, slices_from}
use Rattle.test_kit.specs.Threads.Turns.Play.{Playing, IsPlay}
use Rattle.test_kit.proofs.ThreadsLemmas.TurnsLemmas.Places.{counted}
use Rattle.test_kit.proofs.ThreadsLemmas.TurnsLemmas.Slices.{turns_sound, slices_own, slices_other, same_slice, none_slice}
use Rattle.test_kit.proofs.ThreadsLemmas.TurnsLemmas.Playing.{play_executed}
use Rattle.test_kit.specs.Threads.Play.Shares.{world_of, Owns, sees}
use Rattle.test_kit.specs.Threads.Play.Code.{drawn_in, instr_in, row_in, played_in, CallsLast, IsPlayable, IsThread, AreThreads}
use Rattle.test_kit.specs.Threads.Play.Ran.{RanTurns, GoesBy, IsStartState}
use Rattle.test_kit.specs.Threads.Play.Played.{IsPlayLeft, IsFirstWorld, IsExecutedFrom, IsPlayed, course_until}
use Rattle.test_kit.specs.declared.threads.play.playing.Played.{Played}
use Rattle.test_kit.proofs.ThreadsLemmas.PlayLemmas.Sharing.{shared, others_stay, jumps, jumps_alone, share_state, who_sees}
use Rattle.test_kit.proofs.ThreadsLemmas.PlayLemmas.Turning.{thread_below, no_slices, no_rows}
use Rattle.test_kit.proofs.ThreadsLemmas.PlayLemmas.Running.{last_slot, other_slot}

word_back : word (negsuc 59) ≡ 4294967236
unfolding word
word_back = refl

pub jump_in : (code : List Instr) (t s : ℕ) → s ≡ 15 → instr_in code t s ≡ Jal 0 (negsuc 59)
jump_in code t s is = rw (eq-eqb s 15 is) refl

pub other_in : (code : List Instr) (t s : ℕ) → (s ≡ 15 → ⊥) → instr_in code t s ≡ drawn_in code t s
other_in code t s other = rw (ne_eqb s 15 other) refl

-- the slice that a row is in has the row
in_slice : (t first : ℕ) (turns : List Turn) (i : ℕ) (s : Slice) (P : Slice → Type 0) → All P (slices_from t first turns) → first ≤ i → slice_of (slices_from t first turns) i ≡ Some s → P s × (s.first ≤ i) × (i < s.first + s.count)
in_slice t first [] i s P all least found = absurd (none_slice found)
in_slice t first (h ∷ turns) i s P all least found =
    elim (cases_eq h.thread t) [
      | inl same ↦
          let own = slices_own t first h turns same in
          let each : All P (slice_by first h ∷ slices_from t (first + h.count) turns) = subst (λ (ss : List Slice). All P ss) own all in
          let listed : slice_of (slice_by first h ∷ slices_from t (first + h.count) turns) i ≡ Some s = subst (λ (ss : List Slice). slice_of ss i ≡ Some s) own found in
          elim (cases_lt i (first + h.count)) [
            | inl here ↦
                let is : slice_by first h ≡ s = same_slice (rw (lt-ltb i (first + h.count) here) at listed) in
                subst (λ (x : Slice). P x × (x.first ≤ i) × (i < x.first + x.count)) is (All-head P (slice_by first h) (slices_from t (first + h.count) turns) each, least, here)
            | inr beyond ↦ in_slice t (first + h.count) turns i s P (All-tail P (slice_by first h) (slices_from t (first + h.count) turns) each) beyond (rw (le-ltb i (first + h.count) beyond) at listed)
          ]
      | inr other ↦
          let not_own = slices_other t first h turns other in
          in_slice t first turns i s P (subst (λ (ss : List Slice). All P ss) not_own all) least (subst (λ (ss : List Slice). slice_of ss i ≡ Some s) not_own found)
    ]

module _ (code : List Instr) (turns : List Turn) (played : Played) (playable : IsPlayable code turns) (are : AreThreads code turns played.run.threads) (untraced : Option ℕ) where
  abbrev threads : List ThreadRows
  threads = played.run.threads

  abbrev C : Course
  C = course_until untraced played.run

  record Has (t : ℕ) : Type 0 where
    pub thread : ThreadRows
    pub at : slice_get threads t ≡ Some thread
    pub is : IsThread code turns t thread

  has_thread : (t : ℕ) → t < 4 → Has t
  has_thread t few =
      elim ((slice_get_cases threads t).1) [
        | inl found ↦ record { thread = found.0; at = found.2; is = are.each t found.0 found.2 }
        | inr past ↦ absurd (let size = are.size in let most = past.0 in omega arith)
      ]

  none_past : (t : ℕ) → 4 ≤ t → unwrap_or (slice_get threads t) no_thread ≡ no_thread
  none_past t far = ap (λ (o : Option ThreadRows). unwrap_or o no_thread) (slice_get_past threads t (let size = are.size in omega arith))

  thread_is : (t : ℕ) (own : Has t) → unwrap_or (slice_get threads t) no_thread ≡ own.thread
  thread_is t own = ap (λ (o : Option ThreadRows). unwrap_or o no_thread) own.at

  pub has : HasTurns C turns
  has = record {
    slices = λ t. elim (cases_lt t 4) [
      | inl few ↦ let own = has_thread t few in ap (λ (x : ThreadRows). x.slices) (thread_is t own) ∙ own.is.slices
      | inr far ↦ ap (λ (x : ThreadRows). x.slices) (none_past t far) ∙ sym (no_slices t 0 turns far playable.threads)
    ];
    rows = λ t. elim (cases_lt t 4) [
      | inl few ↦ let own = has_thread t few in ap (λ (x : ThreadRows). length x.steps) (thread_is t own) ∙ own.is.size
      | inr far ↦ ap (λ (x : ThreadRows). length x.steps) (none_past t far) ∙ sym (no_rows t turns far playable.threads)
    ];
  }

  pub row_is : (t i : ℕ) → i < rows_in t turns → row_at C (row_of t i) ≡ Some (row_in code t i)
  row_is t i less =
      elim (cases_lt t 4) [
        | inl few ↦ let own = has_thread t few in ap (λ (x : ThreadRows). slice_get x.steps i) (thread_is t own) ∙ own.is.listed i less
        | inr far ↦ absurd (let none = no_rows t turns far playable.threads in omega arith)
      ]

  thread_few : (t i : ℕ) → i < rows_in t turns → t < 4
  thread_few t i less =
      elim (cases_lt t 4) [
        | inl few ↦ few
        | inr far ↦ absurd (let none = no_rows t turns far playable.threads in omega arith)
      ]

  -- a call of the course stands in a slot that has one
  call_there : (r : Row) → calls C r ≡ true → is_call (instr_in code r.thread (r.step % 16)) ≡ true
  call_there r call =
      elim ((slice_get_cases (rows_of C r.thread) r.step).1) [
        | inl found ↦
            let size = has.rows r.thread in
            let inside = found.1 in
            let less : r.step < rows_in r.thread turns = omega arith in
            sym (ap is_call_row (row_is r.thread r.step less)) ∙ call
        | inr past ↦ absurd (false≢true (sym (ap is_call_row past.1) ∙ call))
      ]

  ends : CallsEnd C
  ends = λ r s call found.
      let its = in_slice r.thread 0 turns r.step s (CallsLast code r.thread) (playable.calls r.thread) (omega arith) (subst (λ (ss : List Slice). slice_of ss r.step ≡ Some s) (has.slices r.thread) found) in
      its.0 r.step its.1 its.2 (call_there r call)

  module _ (machine : Machine) (ran : RanTurns code turns (all_rows turns) machine) (saved : (r : ℕ) → r < 32 → slice_index played.registers r ≡ (state_of machine).register r) (held : (i : ℕ) → i < 32 → slice_index played.bytes.items i ≡ (state_of machine).memory (131072 + i)) where
    abbrev x : Playing
    x = record { turns = turns; world = λ k. world_of (ran.states k) }

    abbrev at_slot : ℕ → ℕ → Addresses
    at_slot t i = addresses_of (row_in code t i)

    back_leads : (t i : ℕ) → t < 4 → i % 16 ≡ 15 → (at_slot t i).next ≡ plus (at_slot t i).at (negsuc 59)
    back_leads t i few last = let back = word_back in omega arith

    on_leads : (t i : ℕ) → t < 4 → (i % 16 ≡ 15 → ⊥) → (at_slot t i).next ≡ following (at_slot t i).from
    on_leads t i few other = omega arith

    record Moves (D : Ending) (t i : ℕ) (s u : State) : Type 0 where
      pub step : IsStep D.image_end (row_in code t i) (seen_by t (world_of s)) (seen_by t (world_of u))
      pub others : OthersKeep t (record { old = world_of s; new = world_of u })

    moves : (D : Ending) (t i : ℕ) (s u : State) → t < 4 → GoesBy (played_in code t (i % 16)) s u → Moves D t i s u
    moves D t i s u few goes =
        elim (cases_eq (i % 16) 15) [
          | inl last ↦
              let effect : HasEffect (Imm Addi 0 0 (pos 0)) D.image_end (of_word goes.at goes.next) s u = subst (λ (j : Instr). HasEffect j D.image_end (of_word goes.at goes.next) s u) (last_slot code t (i % 16) last) (goes.effect D.image_end) in
              record {
                step = subst (λ (j : Instr). HasEffect j D.image_end (at_slot t i) (seen_by t (world_of s)) (seen_by t (world_of u))) (sym (jump_in code t (i % 16) last)) (jumps t D.image_end (of_word goes.at goes.next) (at_slot t i) s u (back_leads t i few last) effect);
                others = jumps_alone t D.image_end (of_word goes.at goes.next) s u effect;
              }
          | inr other ↦
              let own = playable.slots.uses t (i % 16) few (omega arith) in
              let effect : HasEffect (drawn_in code t (i % 16)) D.image_end (of_word goes.at goes.next) s u = subst (λ (j : Instr). HasEffect j D.image_end (of_word goes.at goes.next) s u) (other_slot code t (i % 16) other) (goes.effect D.image_end) in
              record {
                step = subst (λ (j : Instr). HasEffect j D.image_end (at_slot t i) (seen_by t (world_of s)) (seen_by t (world_of u))) (sym (other_in code t (i % 16) other)) (shared t (drawn_in code t (i % 16)) D.image_end (of_word goes.at goes.next) (at_slot t i) s u own (on_leads t i few other) (subst (λ (j : Instr). Picks j s u) (other_slot code t (i % 16) other) goes.picks) effect);
                others = others_stay t (drawn_in code t (i % 16)) D.image_end (of_word goes.at goes.next) s u own effect;
              }
        ]

    executes : (D : Ending) (k : ℕ) (turn : Turn) → turn_at turns k ≡ Some turn → ExecutesRow C D (row_of turn.thread (steps_before turn.thread turns k)) (record { old = x.world k; new = x.world (suc k) })
    executes D k turn at =
        let own = counted turns k turn at in
        let does = moves D turn.thread (steps_before turn.thread turns k) (ran.states k) (ran.states (suc k)) (thread_below turns k turn playable.threads at) (ran.goes k turn own.inside at) in
        record { its_row = row_in code turn.thread (steps_before turn.thread turns k); is_row = row_is turn.thread (steps_before turn.thread turns k) own.few; step = does.step; others = does.others }

    seen_small : (t s : ℕ) → t < 4 → Owns t s ⊎ (s ≡ 17) → s < 32
    seen_small t s few (inl own) = let a = own.1 in omega arith
    seen_small t s few (inr number) = omega arith

    seen_some : (t s : ℕ) → Owns t s ⊎ (s ≡ 17) → s ≡ 0 → ⊥
    seen_some t s (inl own) none = let a = own.0 in absurd (omega arith)
    seen_some t s (inr number) none = absurd (omega arith)

    last_share : (t s v : ℕ) (b : Bool) → t < 4 → sees t s ≡ b → cond b (slice_index played.registers s) 0 ≡ v → cond b ((ran.states (all_rows turns)).register s) 0 ≡ v
    last_share t s v true few own left = ap (λ (u : State). u.register s) ran.now ∙ sym (saved s (seen_small t s few (who_sees t s own))) ∙ left
    last_share t s v false few other left = left

    last_byte : (D : Ending) → IsPlayLeft D played → (a v : ℕ) → D.dump a ≡ Some v → (ran.states (all_rows turns)).memory a ≡ v
    last_byte D left a v dumped =
        let inside = left.inside a v dumped in
        let least = inside.0 in
        let most = inside.1 in
        ap (λ (u : State). u.memory a) ran.now ∙ ap (state_of machine).memory (omega arith) ∙ sym (held (a - 131072) (omega arith)) ∙ left.bytes a v dumped

    plays : (D : Ending) → IsPlayLeft D played → IsPlay C D x
    plays D left = record {
      states = λ k t most. share_state t (ran.states k) (ran.are k most);
      executes = executes D;
      registers_end = λ t s v some saved. let its = left.registers t s v some saved in last_share t s v (sees t s) its.0 refl its.1;
      bytes_end = λ a v dumped. last_byte D left a v dumped;
    }

    -- the first world
    first_share : (from : List ℕ) → IsStartState from (ran.states 0) → (t s : ℕ) (b : Bool) → sees t s ≡ b → cond b ((ran.states 0).register s) 0 ≡ cond b (slice_index from s) 0
    first_share from start t s true own = start.registers s ∙ ap (λ (b : Bool). cond b 0 (slice_index from s)) (ne_eqb s 0 (seen_some t s (who_sees t s own)))
    first_share from start t s false other = refl

    is_first : (from : List ℕ) → IsStartState from (ran.states 0) → (w : World) → Stays (record { old = x.world 0; new = w }) → IsFirstWorld from w
    is_first from start w stays = record {
      registers = λ t s. stays.registers t s ∙ first_share from start t s (sees t s) refl;
      memory = λ a. stays.memory a ∙ start.memory a;
    }

    pub executed : (from : List ℕ) → IsStartState from (ran.states 0) → (D : Ending) → IsPlayLeft D played → IsExecutedFrom from C D
    executed from start D left =
        let done = play_executed C D x has (plays D left) playable.some playable.order ends in
        record { history = done.history; execution = done.execution; first = is_first from start (done.history.world 0) done.first }

  pub run_sound : IsSoundCourse C
  run_sound = turns_sound C turns has playable.order playable.apart ends
