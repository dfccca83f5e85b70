-- What is known of a path fills a table, and what the table and the premises add to it is true.
use Rattle.std.proofs.Common.{◌≡◌, ℕ, zero, suc, ◌+◌, ◌-◌, ◌*◌, ◌<◌, ◌≤◌, Bool, true, false, ◌&&◌, nat_le, nat_lt, List, length, Option, Some, None, slice_get, inl, inr, refl, sym, ap, subst, ◌∙◌, arith}
use Rattle.std.specs.Prelude.{if◌then◌else◌}
use Rattle.std.proofs.lemmas.Bool.{and_parts, cases_Bool, cases_lt, false≢true}
use Rattle.std.proofs.lemmas.Option.{slice_get_past}
use Rattle.rept_isa.specs.declared.row.StepRow.{StepRow}
use Rattle.rept_isa.specs.Rows.{addresses_of}
use Rattle.rept_machine.specs.State.{State}
use Rattle.rept_machine.proofs.StepLaws.{effect_keeps_byte}
use Rattle.rept_known.specs.declared.both.Both.{Both}
use Rattle.rept_known.specs.Both.{both_has, both_meet}
use Rattle.rept_known.specs.Laws.BothLaws.{both_lawful}
use Rattle.rept_span.specs.Filled.{View}
use Rattle.rept_narrow.specs.Admitted.{Premises, Story, IsAdmitted, IsSettled}
use Rattle.rept_infer.specs.Holding.{Has, holding_of, IsFinerHolding}
use Rattle.rept_narrow.specs.Rules.{set_at, HasSets, WritesNot}
use Rattle.rept_infer.specs.Path.{Fixed, IsStoryOf, met, or_else, first_some, path_set, path_byte, fixed_byte}
use Rattle.rept_narrow.specs.declared.lanes.span.ByteSpan.{ByteSpan}
use Rattle.rept_narrow.specs.Lanes.{lane_byte, AreTrueSpans}
use Rattle.rept_narrow.proofs.Truth.{lane_true}
use Rattle.rept_narrow.specs.Sweeps.{memory_of}
use Rattle.rept_narrow.proofs.Sentences.{some_none, same_some, lt_true, le_false, row_at}

-- ---- sets
no_set : (table : View Both) (p r : ℕ) → 32 ≤ r → set_at table p r ≡ None
no_set table p r le = rw (le_false r 32 le) refl

pub started : (story : Story) (run : ℕ → State) (set : ℕ → ℕ → Both) (byte : ℕ → ℕ → Option ℕ) (table : View Both) → ((p r : ℕ) → p < length story.rows + 1 → r < 32 → set_at table p r ≡ Some (set p r)) → Has story (holding_of set byte) run → HasSets story table run
started story run set byte table filled h = record { admitted = h.admitted; sets = sets }
  where
    sets : (p r : ℕ) (w : Both) → p ≤ length story.rows → set_at table p r ≡ Some w → both_has w ((run p).register r) ≡ true
    sets p r w le e = elim (cases_lt r 32) [
      | inl lt ↦
          let same : set p r ≡ w = same_some (sym (filled p r (omega (arith, le)) lt) ∙ e) in
          subst (λ (x : Both). both_has x ((run p).register r) ≡ true) same (h.holds.sets p r (set p r) le (rw (lt_true r 32 lt) refl))
      | inr past ↦ absurd (some_none (sym e ∙ no_set table p r past))
    ]

-- what is told of one of the 32 registers
picked : {W : Type 0} (b : Bool) (x w : W) → (if b then Some x else None) ≡ Some w → x ≡ w
picked true x w e = same_some e
picked false x w e = absurd (some_none (sym e))

chosen : {W : Type 0} (b : Bool) (x y w : W) → (if b then Some x else None) ≡ Some w → (if b then Some y else None) ≡ Some y
chosen true x y w e = refl
chosen false x y w e = absurd (some_none (sym e))

or_has : (a b : Both) (m : Option Both) (v : ℕ) → both_meet a b ≡ m → both_has a v ≡ true → both_has b v ≡ true → both_has (or_else a m) v ≡ true
or_has a b None v e h g = h
or_has a b (Some m) v e h g = both_lawful.meet_some a b m v e h g

met_has : (a : Both) (o : Option Both) (v : ℕ) → both_has a v ≡ true → ((b : Both) → o ≡ Some b → both_has b v ≡ true) → both_has (met a o) v ≡ true
met_has a None v h f = h
met_has a (Some b) v h f = or_has a b (both_meet a b) v refl h (f b refl)

or_within : (a b : Both) (m : Option Both) (v : ℕ) → both_meet a b ≡ m → both_has (or_else a m) v ≡ true → both_has a v ≡ true
or_within a b None v e h = h
or_within a b (Some m) v e h = (both_lawful.meet_within a b m v e h).0

met_within : (a : Both) (o : Option Both) (v : ℕ) → both_has (met a o) v ≡ true → both_has a v ≡ true
met_within a None v h = h
met_within a (Some b) v h = or_within a b (both_meet a b) v refl h

-- ---- bytes
pub same_byte : (story : Story) (run : ℕ → State) (i a : ℕ) (row : StepRow) → slice_get story.rows i ≡ Some row → IsAdmitted story run → WritesNot story run i a → (run (i + 1)).memory a ≡ (run i).memory a
same_byte story run i a row at admitted missed = effect_keeps_byte row.instr story.image_end (addresses_of row) (run i) (run (i + 1)) a (admitted.execution.steps i row at) (missed row at)

pub fixed_same : (story : Story) (run : ℕ → State) (a k p : ℕ) → IsAdmitted story run → story.premises.is_read_only a ≡ true → IsSettled story run p → p + k ≡ length story.rows → (run p).memory a ≡ (run (length story.rows)).memory a
fixed_same story run a zero p admitted fixed settled e = let here : p ≡ length story.rows = omega (arith, e) in ap (λ n. (run n).memory a) here
fixed_same story run a (suc k) p admitted fixed settled e =
    let less : p < length story.rows = omega (arith, e) in
    let row = row_at story.rows p less in
    let missed : WritesNot story run p a = λ other at w. admitted.read_only p a other at w fixed settled in
    let onward : p + 1 + k ≡ length story.rows = omega (arith, e) in
    sym (same_byte story run p a row.0 row.1 admitted missed) ∙ fixed_same story run a k (p + 1) admitted fixed (λ j call le at is. settled j call (omega (arith, le)) at is) onward

le_of : (a b : ℕ) → nat_le a b ≡ true → a ≤ b
le_of a b e = grind (arith, e)

pub settled_later : (story : Story) (run : ℕ → State) (i p : ℕ) → i ≤ p → IsSettled story run i → IsSettled story run p
settled_later story run i p le settled = λ j call later at is. settled j call (omega (arith, le, later)) at is

-- ---- the whole path
module _ (story : Story) (run : ℕ → State) (set : ℕ → ℕ → Both) (byte : ℕ → ℕ → Option ℕ) (h : Has story (holding_of set byte) run) where
  fixed_true : (fixed : Fixed) (p a v : ℕ) → fixed.last ≡ length story.rows → ((b : ℕ) → fixed.is_read_only b ≡ true → story.premises.is_read_only b ≡ true) → IsSettled story run fixed.settled → p ≤ length story.rows → fixed_byte byte fixed p a ≡ Some v → (run p).memory a ≡ v
  fixed_true fixed p a v last premises settled le e = elim (cases_Bool (nat_le fixed.settled p && fixed.is_read_only a)) [
    | inl both ↦
        let parts = and_parts (nat_le fixed.settled p) (fixed.is_read_only a) both in
        let known : byte fixed.last a ≡ Some v = rw both at e in
        let rest : p + (length story.rows - p) ≡ length story.rows = omega (arith, le) in
        fixed_same story run a (length story.rows - p) p h.admitted (premises a parts.1) (settled_later story run fixed.settled p (le_of fixed.settled p parts.0) settled) rest ∙ h.holds.bytes (length story.rows) a v (omega arith) (ap (λ n. byte n a) (sym last) ∙ known)
    | inr none ↦ absurd (some_none (sym e ∙ (rw none refl)))
  ]

  lanes_then : (spans : List ByteSpan) (p a v : ℕ) (o rest : Option ℕ) → lane_byte spans p a ≡ o → AreTrueSpans (memory_of run) spans → (rest ≡ Some v → (run p).memory a ≡ v) → first_some o rest ≡ Some v → (run p).memory a ≡ v
  lanes_then spans p a v None rest is are then_ e = then_ e
  lanes_then spans p a v (Some u) rest is are then_ e = lane_true (memory_of run) spans p a v are (is ∙ e)

  known_then : (p a v : ℕ) (o rest : Option ℕ) → byte p a ≡ o → p ≤ length story.rows → (rest ≡ Some v → (run p).memory a ≡ v) → first_some o rest ≡ Some v → (run p).memory a ≡ v
  known_then p a v None rest is le then_ e = then_ e
  known_then p a v (Some u) rest is le then_ e = h.holds.bytes p a v le (is ∙ e)

  pub fixed_known : (fixed : Fixed) → fixed.last ≡ length story.rows → ((b : ℕ) → fixed.is_read_only b ≡ true → story.premises.is_read_only b ≡ true) → IsSettled story run fixed.settled → (p a v : ℕ) → p ≤ length story.rows → first_some (byte p a) (fixed_byte byte fixed p a) ≡ Some v → (run p).memory a ≡ v
  fixed_known fixed last premises settled p a v le e = known_then p a v (byte p a) (fixed_byte byte fixed p a) refl le (fixed_true fixed p a v last premises settled le) e

  byte_true : (fixed : Fixed) (p a v : ℕ) → fixed.last ≡ length story.rows → ((b : ℕ) → fixed.is_read_only b ≡ true → story.premises.is_read_only b ≡ true) → IsSettled story run fixed.settled → AreTrueSpans (memory_of run) fixed.on → AreTrueSpans (memory_of run) fixed.back → p ≤ length story.rows → path_byte byte fixed p a ≡ Some v → (run p).memory a ≡ v
  byte_true fixed p a v last premises settled on back le e =
      known_then p a v (byte p a) (first_some (lane_byte fixed.on p a) (first_some (lane_byte fixed.back p a) (fixed_byte byte fixed p a))) refl le
      (lanes_then fixed.on p a v (lane_byte fixed.on p a) (first_some (lane_byte fixed.back p a) (fixed_byte byte fixed p a)) refl on
      (lanes_then fixed.back p a v (lane_byte fixed.back p a) (fixed_byte byte fixed p a) refl back
      (fixed_true fixed p a v last premises settled le))) e

  pub path_holds : (table : View Both) (fixed : Fixed) → fixed.last ≡ length story.rows → ((b : ℕ) → fixed.is_read_only b ≡ true → story.premises.is_read_only b ≡ true) → IsSettled story run fixed.settled → AreTrueSpans (memory_of run) fixed.on → AreTrueSpans (memory_of run) fixed.back → HasSets story table run → Has story (holding_of (path_set set table) (path_byte byte fixed)) run
  path_holds table fixed last premises settled on back t = record {
    admitted = h.admitted;
    holds = record { sets = sets; bytes = λ p a v le e. byte_true fixed p a v last premises settled on back le e };
  }
    where
      sets : (p r : ℕ) (w : Both) → p ≤ length story.rows → (if nat_lt r 32 then Some (path_set set table p r) else None) ≡ Some w → both_has w ((run p).register r) ≡ true
      sets p r w le e =
          let is : path_set set table p r ≡ w = picked (nat_lt r 32) (path_set set table p r) w e in
          let known : (if nat_lt r 32 then Some (set p r) else None) ≡ Some (set p r) = chosen (nat_lt r 32) (path_set set table p r) (set p r) w e in
          subst (λ (x : Both). both_has x ((run p).register r) ≡ true) is (met_has (set p r) (set_at table p r) ((run p).register r) (h.holds.sets p r (set p r) le known) (λ b at. t.sets p r b le at))

first_is : (o other : Option ℕ) (v : ℕ) → o ≡ Some v → first_some o other ≡ Some v
first_is o other v e = rw e refl

pub path_finer : (set : ℕ → ℕ → Both) (byte : ℕ → ℕ → Option ℕ) (table : View Both) (fixed : Fixed) → IsFinerHolding (holding_of (path_set set table) (path_byte byte fixed)) (holding_of set byte)
path_finer set byte table fixed = record { sets = sets; bytes = λ p a v e. first_is (byte p a) (first_some (lane_byte fixed.on p a) (first_some (lane_byte fixed.back p a) (fixed_byte byte fixed p a))) v e }
  where
    sets : (p r : ℕ) (w : Both) → (if nat_lt r 32 then Some (set p r) else None) ≡ Some w → (u : Both) × ((if nat_lt r 32 then Some (path_set set table p r) else None) ≡ Some u) × ((v : ℕ) → both_has u v ≡ true → both_has w v ≡ true)
    sets p r w e =
        let is : set p r ≡ w = picked (nat_lt r 32) (set p r) w e in
        (path_set set table p r, chosen (nat_lt r 32) (set p r) (path_set set table p r) w e, λ v has. subst (λ (x : Both). both_has x v ≡ true) is (met_within (set p r) (set_at table p r) v has))

-- past the last point a table tells nothing
pub set_past : (known : ℕ → ℕ → Both) (table : View Both) (p r : ℕ) (w : Both) → length table.items ≡ table.points * 32 → table.points ≤ p → r < 32 → w ≡ known p r → (if nat_lt r 32 then Some (path_set known table p r) else None) ≡ Some w
set_past known table p r w long past small is =
    let none : slice_get table.items (p * 32 + r) ≡ None = slice_get_past table.items (p * 32 + r) (omega (arith, long, past)) in
    given (nat_lt r 32) (path_set known table p r) w (lt_true r 32 small) (past_met (known p r) (set_at table p r) (rw (lt_true r 32 small) none) ∙ sym is)
  where
    past_met : (a : Both) (o : Option Both) → o ≡ None → met a o ≡ a
    past_met a o e = rw e refl

    given : (b : Bool) (x y : Both) → b ≡ true → x ≡ y → (if b then Some x else None) ≡ Some y
    given true x y e f = ap Some f
    given false x y e f = absurd (false≢true e)
