-- The same turns with wider times.
use Rattle.std.proofs.Common.{◌≡◌, ℕ, suc, ◌-◌, ◌<◌, ◌≤◌, List, [], ◌∷◌, Some, All, inl, inr, refl, sym, ap, ◌∙◌, subst, arith}
use Rattle.std.proofs.lemmas.Bool.{cases_lt, le-ltb}
use Rattle.std.proofs.lemmas.List.Elements.{All-nil, All-cons, All-head, All-tail}
use Rattle.rept_steps.specs.Course.{Course, row_of}
use Rattle.rept_order.specs.History.{Ending, ExecutesRow}
use Rattle.test_kit.specs.declared.threads.turns.turn.Turn.{Turn}
use Rattle.test_kit.specs.Threads.Turns.Turns.{all_rows, rows_in, steps_before, turn_at, AreSome, AreInOrder, AreWider}
use Rattle.test_kit.specs.Threads.Turns.Play.{Playing, with_turns, IsPlay}
use Rattle.test_kit.proofs.ThreadsLemmas.TurnsLemmas.Places.{turn_here, same_turn, none_turn}

ends_later : (time : ℕ) (turns wide : List Turn) → All (λ later. time ≤ later.end) turns → AreWider turns wide → All (λ later. time ≤ later.end) wide
ends_later time [] [] all wider = all
ends_later time (h ∷ turns) (w ∷ wide) all wider =
    let head = All-head (λ (later : Turn). time ≤ later.end) h turns all in
    let end = wider.0.end in
    All-cons (λ (later : Turn). time ≤ later.end) w wide (omega arith) (ends_later time turns wide (All-tail (λ (later : Turn). time ≤ later.end) h turns all) wider.1)
ends_later time [] (w ∷ wide) all wider = absurd wider
ends_later time (h ∷ turns) [] all wider = absurd wider

begins_sooner : (time other : ℕ) (turns : List Turn) → other ≤ time → All (λ later. time ≤ later.end) turns → All (λ later. other ≤ later.end) turns
begins_sooner time other [] less all = All-nil (λ (later : Turn). other ≤ later.end)
begins_sooner time other (h ∷ turns) less all =
    let head = All-head (λ (later : Turn). time ≤ later.end) h turns all in
    All-cons (λ (later : Turn). other ≤ later.end) h turns (omega arith) (begins_sooner time other turns less (All-tail (λ (later : Turn). time ≤ later.end) h turns all))

pub wider_order : (turns wide : List Turn) → AreInOrder turns → AreWider turns wide → AreInOrder wide
wider_order [] [] order wider = tt
wider_order (h ∷ turns) (w ∷ wide) order wider =
    let begin = wider.0.begin in
    let end = wider.0.end in
    let one = order.0 in
    (omega arith, begins_sooner h.begin w.begin wide begin (ends_later h.begin turns wide order.1 wider.1), wider_order turns wide order.2 wider.1)
wider_order [] (w ∷ wide) order wider = absurd wider
wider_order (h ∷ turns) [] order wider = absurd wider

pub wider_some : (turns wide : List Turn) → AreSome turns → AreWider turns wide → AreSome wide
wider_some [] [] some wider = some
wider_some (h ∷ turns) (w ∷ wide) some wider =
    let head = All-head (λ (turn : Turn). 0 < turn.count) h turns some in
    let count = wider.0.count in
    All-cons (λ (turn : Turn). 0 < turn.count) w wide (omega arith) (wider_some turns wide (All-tail (λ (turn : Turn). 0 < turn.count) h turns some) wider.1)
wider_some [] (w ∷ wide) some wider = absurd wider
wider_some (h ∷ turns) [] some wider = absurd wider

-- they have the same rows
pub wider_rows : (t : ℕ) (turns wide : List Turn) → AreWider turns wide → rows_in t wide ≡ rows_in t turns
wider_rows t [] [] wider = refl
wider_rows t (h ∷ turns) (w ∷ wide) wider = rw (wider.0.thread, wider.0.count, wider_rows t turns wide wider.1) refl
wider_rows t [] (w ∷ wide) wider = absurd wider
wider_rows t (h ∷ turns) [] wider = absurd wider

wider_all : (turns wide : List Turn) → AreWider turns wide → all_rows wide ≡ all_rows turns
wider_all [] [] wider = refl
wider_all (h ∷ turns) (w ∷ wide) wider = rw (wider.0.count, wider_all turns wide wider.1) refl
wider_all [] (w ∷ wide) wider = absurd wider
wider_all (h ∷ turns) [] wider = absurd wider

wider_steps : (t : ℕ) (turns wide : List Turn) (k : ℕ) → AreWider turns wide → steps_before t wide k ≡ steps_before t turns k
wider_steps t [] [] k wider = refl
wider_steps t (h ∷ turns) (w ∷ wide) k wider = rw (wider.0.thread, wider.0.count, wider_steps t turns wide (k - h.count) wider.1) refl
wider_steps t [] (w ∷ wide) k wider = absurd wider
wider_steps t (h ∷ turns) [] k wider = absurd wider

record Narrower (turns : List Turn) (k : ℕ) (w : Turn) : Type 0 where
  pub turn : Turn
  pub at : turn_at turns k ≡ Some turn
  pub own : turn.thread ≡ w.thread

narrower : (turns wide : List Turn) (k : ℕ) (turn : Turn) → AreWider turns wide → turn_at wide k ≡ Some turn → Narrower turns k turn
narrower [] [] k turn wider at = absurd (none_turn at)
narrower (h ∷ turns) (w ∷ wide) k turn wider at =
    let count = wider.0.count in
    elim (cases_lt k h.count) [
      | inl here ↦
          let same : w ≡ turn = same_turn (sym (turn_here w wide k (omega arith)) ∙ at) in
          record { turn = h; at = turn_here h turns k here; own = sym wider.0.thread ∙ ap (λ (x : Turn). x.thread) same }
      | inr beyond ↦
          let later : turn_at wide (k - w.count) ≡ Some turn = rw (le-ltb k w.count (omega arith)) at at in
          let rest = narrower turns wide (k - h.count) turn wider.1 (subst (λ (n : ℕ). turn_at wide (k - n) ≡ Some turn) count later) in
          record { turn = rest.turn; at = rw (le-ltb k h.count beyond) rest.at; own = rest.own }
    ]
narrower [] (w ∷ wide) k turn wider at = absurd wider
narrower (h ∷ turns) [] k turn wider at = absurd wider

module _ (C : Course) (D : Ending) (x : Playing) (wide : List Turn) (play : IsPlay C D x) (wider : AreWider x.turns wide) where
  all_same : all_rows wide ≡ all_rows x.turns
  all_same = wider_all x.turns wide wider

  executes : (k : ℕ) (turn : Turn) → turn_at wide k ≡ Some turn → ExecutesRow C D (row_of turn.thread (steps_before turn.thread wide k)) (record { old = x.world k; new = x.world (suc k) })
  executes k turn at =
      let own = narrower x.turns wide k turn wider at in
      let narrow : ExecutesRow C D (row_of own.turn.thread (steps_before own.turn.thread x.turns k)) (record { old = x.world k; new = x.world (suc k) }) = play.executes k own.turn own.at in
      let named : ExecutesRow C D (row_of turn.thread (steps_before turn.thread x.turns k)) (record { old = x.world k; new = x.world (suc k) }) = subst (λ (t : ℕ). ExecutesRow C D (row_of t (steps_before t x.turns k)) (record { old = x.world k; new = x.world (suc k) })) own.own narrow in
      subst (λ (i : ℕ). ExecutesRow C D (row_of turn.thread i) (record { old = x.world k; new = x.world (suc k) })) (sym (wider_steps turn.thread x.turns wide k wider)) named

  pub wider_play : IsPlay C D (with_turns x wide)
  wider_play = record {
    states = λ k t most. play.states k t (let same = all_same in omega arith);
    executes = executes;
    registers_end = λ t s v few saved. ap (λ (n : ℕ). (x.world n).register t s) all_same ∙ play.registers_end t s v few saved;
    bytes_end = λ a v saved. ap (λ (n : ℕ). (x.world n).memory a) all_same ∙ play.bytes_end a v saved;
  }
