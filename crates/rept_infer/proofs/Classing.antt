-- Sets of registers as sets of values, and back.
use Rattle.std.proofs.Common.{◌≡◌, ℕ, ◌+◌, ◌^◌, ◌<◌, ◌≤◌, Bool, true, Some, List, length, slice_get, sym, subst, ◌∙◌, arith}
use Rattle.std.proofs.lemmas.Option.{slice_get_within}
use Rattle.rept_isa.specs.declared.row.StepRow.{StepRow}
use Rattle.rept_isa.specs.Operands.{written_by}
use Rattle.rept_machine.specs.State.{State}
use Rattle.rept_known.specs.declared.both.Both.{Both}
use Rattle.rept_known.specs.Both.{both_has}
use Rattle.rept_span.specs.Filled.{View}
use Rattle.rept_relate.specs.declared.classes.node.ClassNode.{ClassNode}
use Rattle.rept_relate.specs.Classes.Valuations.{word_of, IsValued}
use Rattle.rept_relate.specs.Numbering.{value_in, IsWalk}
use Rattle.rept_relate.proofs.Counting.{value_first, value_of_row}
use Rattle.rept_relate.proofs.Summing.{own, plain}
use Rattle.rept_relate.proofs.Rowing.{inside_small}
use Rattle.rept_narrow.specs.Admitted.{Story}
use Rattle.rept_narrow.specs.Rules.{set_at, HasSets, IsSoundIn}

pub walk_of : (story : Story) (table : View Both) (run : ℕ → State) → HasSets story table run → IsWalk story.image_end story.rows run
walk_of story table run h = record { states = h.admitted.execution.states; steps = h.admitted.execution.steps }

-- ---- the sets of the table
pub first_has : (story : Story) (table : View Both) (run : ℕ → State) (r : ℕ) (w : Both) → r < 32 → set_at table 0 r ≡ Some w → HasSets story table run → both_has w (value_in story.rows run r) ≡ true
first_has story table run r w less at h = subst (λ (n : ℕ). both_has w n ≡ true) (sym (value_first story.rows run r less)) (h.sets 0 r w (omega arith) at)

pub after_has : (story : Story) (table : View Both) (run : ℕ → State) (i r : ℕ) (row : StepRow) (w : Both) → set_at table (i + 1) r ≡ Some w → written_by row.instr ≡ Some r → HasSets story table run → slice_get story.rows i ≡ Some row → both_has w (value_in story.rows run (32 + i)) ≡ true
after_has story table run i r row w at written h here =
    let inside = slice_get_within story.rows i row here in
    subst (λ (n : ℕ). both_has w n ≡ true) (sym (value_of_row story.rows run i r row here written)) (h.sets (i + 1) r w (omega (arith, inside)) at)

-- ---- and back
pub first_sound : (story : Story) (run : ℕ → State) (r : ℕ) (w : Both) → r < 32 → both_has w (word_of (value_in story.rows run) (own r)) ≡ true → value_in story.rows run r < 2 ^ 32 → IsSoundIn story run 0 r w
first_sound story run r w less has small le =
    let e : word_of (value_in story.rows run) (own r) ≡ (run 0).register r = plain (value_in story.rows run) r small ∙ value_first story.rows run r less in
    subst (λ (n : ℕ). both_has w n ≡ true) e has

pub after_sound : (story : Story) (run : ℕ → State) (i r : ℕ) (row : StepRow) (w : Both) → slice_get story.rows i ≡ Some row → written_by row.instr ≡ Some r → both_has w (word_of (value_in story.rows run) (own (32 + i))) ≡ true → value_in story.rows run (32 + i) < 2 ^ 32 → IsSoundIn story run (i + 1) r w
after_sound story run i r row w at written has small le =
    let e : word_of (value_in story.rows run) (own (32 + i)) ≡ (run (i + 1)).register r = plain (value_in story.rows run) (32 + i) small ∙ value_of_row story.rows run i r row at written in
    subst (λ (n : ℕ). both_has w n ≡ true) e has

-- ---- what loops need
pub first_told : (story : Story) (run : ℕ → State) (r node s : ℕ) (w : Both) (nodes : List ClassNode) → r < 32 → node ≡ r → s ≡ r → 32 ≤ length nodes → IsValued nodes (value_in story.rows run) → both_has w (word_of (value_in story.rows run) (own node)) ≡ true → IsSoundIn story run 0 s w
first_told story run r node s w nodes less n e long valued has =
    let here : both_has w (word_of (value_in story.rows run) (own r)) ≡ true = subst (λ (k : ℕ). both_has w (word_of (value_in story.rows run) (own k)) ≡ true) n has in
    let small = inside_small (value_in story.rows run) nodes r (omega (arith, less, long)) valued in
    subst (λ (k : ℕ). IsSoundIn story run 0 k w) (sym e) (first_sound story run r w less here small)

pub first_gathered : (story : Story) (table : View Both) (run : ℕ → State) (r s node : ℕ) (w : Both) → r < 32 → s ≡ r → node ≡ r → set_at table 0 s ≡ Some w → HasSets story table run → both_has w (value_in story.rows run node) ≡ true
first_gathered story table run r s node w less e n at h =
    let there : set_at table 0 r ≡ Some w = subst (λ (k : ℕ). set_at table 0 k ≡ Some w) e at in
    subst (λ (k : ℕ). both_has w (value_in story.rows run k) ≡ true) (sym n) (first_has story table run r w less there h)

pub walk_as : (story : Story) (table : View Both) (run : ℕ → State) (rows : List StepRow) → story.rows ≡ rows → HasSets story table run → IsWalk story.image_end rows run
walk_as story table run rows e h = subst (λ (xs : List StepRow). IsWalk story.image_end xs run) e (walk_of story table run h)

pub valued_as : (story : Story) (run : ℕ → State) (rows : List StepRow) (nodes : List ClassNode) → story.rows ≡ rows → IsValued nodes (value_in story.rows run) → IsValued nodes (value_in rows run)
valued_as story run rows nodes e valued = subst (λ (xs : List StepRow). IsValued nodes (value_in xs run)) e valued

pub valued_back : (story : Story) (run : ℕ → State) (rows : List StepRow) (nodes : List ClassNode) → story.rows ≡ rows → IsValued nodes (value_in rows run) → IsValued nodes (value_in story.rows run)
valued_back story run rows nodes e valued = subst (λ (xs : List StepRow). IsValued nodes (value_in xs run)) (sym e) valued
