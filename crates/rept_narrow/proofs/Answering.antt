-- What a call answers lies in the set that the premise on answers gives.
use Rattle.std.proofs.Common.{◌≡◌, ◌≢◌, ℕ, ◌+◌, ◌^◌, ◌<◌, ◌≤◌, nat_le, Bool, true, false, length, Some, slice_get, sym, subst, arith}
use Rattle.std.specs.Prelude.{◌==◌, ◌&&◌, ◌||◌}
use Rattle.std.proofs.lemmas.Bool.{ne_eqb, leb-true}
use Rattle.rept_isa.specs.declared.instr.Instr.TheVariants.{Ecall}
use Rattle.rept_isa.specs.declared.row.StepRow.{StepRow}
use Rattle.rept_machine.specs.Calls.{is_error}
use Rattle.rept_machine.specs.State.{State}
use Rattle.rept_known.specs.declared.bits.Bits.{Bits}
use Rattle.rept_known.specs.declared.both.Both.{Both}
use Rattle.rept_known.specs.Bits.{bits_has, bits_sets}
use Rattle.rept_known.specs.Both.{both_has, both_sets}
use Rattle.rept_known.specs.Laws.BitsLaws.{bits_lawful}
use Rattle.rept_known.specs.Laws.BothLaws.{both_lawful}
use Rattle.rept_span.specs.Filled.{View}
use Rattle.rept_narrow.specs.Admitted.{Premises, Story, answer_fits, is_below, is_same}
use Rattle.rept_narrow.specs.Rules.{set_at, HasSets, IsSoundIn}

-- ---- sets of all words
pub all_has : (u : Both) (v : ℕ) → u ≡ both_sets.unknown → v < 2 ^ 32 → both_has u v ≡ true
all_has u v e small = subst (λ (w : Both). both_has w v ≡ true) (sym e) (both_lawful.unknown v small)

pub all_has_of : (a u : Both) (v : ℕ) → u ≡ both_sets.unknown → both_has a v ≡ true → both_has u v ≡ true
all_has_of a u v e has = all_has u v e (both_lawful.words a v has)

pub bits_all_has : (u : Bits) (v : ℕ) → u ≡ bits_sets.unknown → v < 2 ^ 32 → bits_has u v ≡ true
bits_all_has u v e small = subst (λ (w : Bits). bits_has w v ≡ true) (sym e) (bits_lawful.unknown v small)

-- ---- what an answer that isn't an error keeps
other_part : (x y : Bool) → x ≡ false → (x || y) ≡ true → y ≡ true
other_part true y e f = absurd (no e)
  where
    no : true ≡ false → ⊥
    no e = cc
other_part false y e f = f

pub at_most : (asked : Both) (hi v most : ℕ) → is_error v ≡ false → (is_error v || nat_le v most) ≡ true → hi ≡ both_sets.hi asked → both_has asked most ≡ true → v ≤ hi
at_most asked hi v most none fits e has =
    let l : v ≤ most = leb-true v most (other_part (is_error v) (nat_le v most) none fits) in
    let g = (both_lawful.bounds asked most has).1 in
    omega (arith, l, g, e)

-- ---- what the premise says of a number
module _ (p : Premises) (image_end n most v : ℕ) (fits : answer_fits p image_end n most v ≡ true) where
  pub fits_heap : n ≡ 214 → (nat_le image_end v && is_below p.stack_from v) ≡ true
  fits_heap e = subst (λ (k : ℕ). answer_fits p image_end k most v ≡ true) e fits

  pub fits_count : n ≢ 214 → n ≢ 222 → (n == 63 || n == 64) ≡ true → (is_error v || nat_le v most) ≡ true
  fits_count a b c = rw (ne_eqb n 214 a, ne_eqb n 222 b, c) at fits

  pub fits_process : n ≢ 214 → n ≢ 222 → (n == 63 || n == 64) ≡ false → (n == 172 || n == 178) ≡ true → is_same p.process v ≡ true
  fits_process a b c d = rw (ne_eqb n 214 a, ne_eqb n 222 b, c, d) at fits

-- ---- the answer's register
pub answer_sound : (story : Story) (run : ℕ → State) (table : View Both) (i n x y z t : ℕ) (row : StepRow) (premises : Premises) (image_end : ℕ) (number asked answer set : Both) → slice_get story.rows i ≡ Some row → row.instr ≡ Ecall → story.image_end ≡ image_end → story.premises ≡ premises → x ≡ 17 → set_at table i x ≡ Some number → both_sets.as_exact number ≡ Some n → y ≡ 12 → set_at table i y ≡ Some asked → z ≡ 10 → set_at table (i + 1) z ≡ Some answer → t ≡ 10 → ((v most : ℕ) → both_has asked most ≡ true → both_has answer v ≡ true → answer_fits premises image_end n most v ≡ true → both_has set v ≡ true) → HasSets story table run → IsSoundIn story run (i + 1) t set
answer_sound story run table i n x y z t row premises image_end number asked answer set at call end_is premises_are xe xs exact ye ys ze zs te covers h le =
    let inside : i ≤ length story.rows = omega (arith, le) in
    let v = (run (i + 1)).register 10 in
    let most = (run i).register 12 in
    let value : (run i).register x ≡ n = both_lawful.as_exact number n ((run i).register x) exact (h.sets i x number inside xs) in
    let named : (run i).register 17 ≡ n = subst (λ (k : ℕ). (run i).register k ≡ n) xe value in
    let fits : answer_fits story.premises story.image_end ((run i).register 17) most v ≡ true = h.admitted.answers i row at call in
    let one : answer_fits premises story.image_end ((run i).register 17) most v ≡ true = subst (λ (p : Premises). answer_fits p story.image_end ((run i).register 17) most v ≡ true) premises_are fits in
    let two : answer_fits premises image_end ((run i).register 17) most v ≡ true = subst (λ (k : ℕ). answer_fits premises k ((run i).register 17) most v ≡ true) end_is one in
    let three : answer_fits premises image_end n most v ≡ true = subst (λ (k : ℕ). answer_fits premises image_end k most v ≡ true) named two in
    let in_asked : both_has asked most ≡ true = subst (λ (k : ℕ). both_has asked ((run i).register k) ≡ true) ye (h.sets i y asked inside ys) in
    let in_answer : both_has answer v ≡ true = subst (λ (k : ℕ). both_has answer ((run (i + 1)).register k) ≡ true) ze (h.sets (i + 1) z answer le zs) in
    subst (λ (k : ℕ). both_has set ((run (i + 1)).register k) ≡ true) (sym te) (covers v most in_asked in_answer three)
