-- Where a row of an atomic instruction is sure, it writes its word.
use Rattle.std.proofs.Common.{◌≡◌, ℕ, ◌<◌, ◌≤◌, ◌^◌, refl, sym, ap, subst, ◌∙◌, true, ◌&&◌, arith, Option, Some, None, ◌==◌, pos, lit≤}
use Rattle.std.specs.Prelude.{not, is_some}
use Rattle.rept_isa.specs.declared.instr.Instr.{Instr}
use Rattle.rept_isa.specs.declared.instr.AmoOp.{AmoOp}
use Rattle.rept_isa.specs.declared.instr.AmoOp.TheVariants as atomic
use Rattle.rept_isa.specs.declared.row.StepRow.{StepRow}
use Rattle.rept_reason.specs.declared.view.inferred.When.TheVariants.{Before, After}
use Rattle.rept_reason.specs.View.Seen.{Seen, IsLawful, KnowsMore, Meets}
use Rattle.rept_isa.specs.Numbers.{plus, beside}
use Rattle.rept_machine.specs.State.{State}
use Rattle.rept_machine.specs.Writes.{WritesBy, WritesAtomic, IsOneOfBytes}
use Rattle.rept_alias.specs.Accesses.{hits, access_of}
use Rattle.rept_alias.specs.Laws.AccessLemmas as access
use Rattle.rept_rules.specs.MayWrite.{is_register, range_of, writes_word, instr_may_write}
use Rattle.rept_rules.specs.Laws.ValueLemmas.{true≢false, equal}
use Rattle.rept_rules.specs.Laws.WriteLemmas.{beside_plain, both, is_there, two_true, known_base, still_sure}
use Rattle.rept_amo.specs.declared.form.Form.{Form}
use Rattle.rept_amo.specs.Conclusions.{form_of}
use Rattle.rept_amo.specs.Writes.{is_zero, has_succeeded, is_done, form_is_sure, places_by}
use Rattle.rept_amo.specs.Laws.Sound.{form_is}

is_zero_is : (x : Option ℕ) → is_zero x ≡ true → x ≡ Some 0
is_zero_is None t = absurd (true≢false (sym t))
is_zero_is (Some v) t = ap Some (equal v 0 t)

-- an SC that is known to have succeeded
succeeded : (rd : ℕ) (s : Seen) → has_succeeded rd s ≡ true → s.register After rd ≡ Some 0
succeeded rd s t = is_zero_is (s.register After rd) (both (not (rd == 0)) (is_zero (s.register After rd)) t).1

done_writes : (op : AmoOp) (rd base : ℕ) (view : Seen) (before after : State) (a : ℕ) → Meets view before after → is_done op rd view ≡ true → IsOneOfBytes base 4 a → WritesAtomic op rd base after.register a
done_writes atomic.Lr rd base view before after a meets t w = absurd (true≢false (sym t))
done_writes atomic.Sc rd base view before after a meets t w = (λ named. meets.register After rd 0 (succeeded rd view t), w)
done_writes atomic.Swap rd base view before after a meets t w = w
done_writes atomic.Add rd base view before after a meets t w = w
done_writes atomic.Xor rd base view before after a meets t w = w
done_writes atomic.And rd base view before after a meets t w = w
done_writes atomic.Or rd base view before after a meets t w = w
done_writes atomic.Min rd base view before after a meets t w = w
done_writes atomic.Max rd base view before after a meets t w = w
done_writes atomic.Minu rd base view before after a meets t w = w
done_writes atomic.Maxu rd base view before after a meets t w = w

pub certain_at : (row : StepRow) (form : Form) (image_end : ℕ) (view : Seen) (before after : State) (a : ℕ) → form_of row.instr ≡ Some form → IsLawful view → Meets view before after → a < 2 ^ 32 → form_is_sure (Some form) row view ≡ true → instr_may_write row.instr view image_end a ≡ true → WritesBy row.instr image_end before after a
certain_at row form image_end view before after a is lawful meets fits sure may =
    let instr = form_is row.instr form is in
    let hit : (writes_word form.op form.rd view && hits (access_of (range_of view Before form.rs1) (pos 0) 4) a) ≡ true = subst (λ (i : Instr). instr_may_write i view image_end a ≡ true) instr may in
    let parts = both (is_register form.rs1 && is_some (view.register Before form.rs1)) (is_done form.op form.rd view) sure in
    let t = both (is_register form.rs1) (is_some (view.register Before form.rs1)) parts.0 in
    let v = is_there (view.register Before form.rs1) t.1 in
    let ends = known_base view form.rs1 v.0 lawful t.0 v.1 in
    let x = access.exact (range_of view Before form.rs1) (pos 0) 4 a (omega arith) (omega arith) (ends.0 ∙ sym ends.1) fits (both (writes_word form.op form.rd view) (hits (access_of (range_of view Before form.rs1) (pos 0) 4) a) hit).1 in
    let base = ends.0 ∙ sym (meets.register Before form.rs1 v.0 v.1) in
    let w : IsOneOfBytes (before.register form.rs1) 4 a = (x.0, x.1, x.2 ∙ ap (λ (b : ℕ). beside (plus b (pos 0)) x.0) base ∙ beside_plain (before.register form.rs1) x.0) in
    subst (λ (i : Instr). WritesBy i image_end before after a) (sym instr) (done_writes form.op form.rd (before.register form.rs1) view before after a meets parts.1 w)

done_more : (op : AmoOp) (rd : ℕ) (s t : Seen) → KnowsMore s t → is_done op rd s ≡ true → is_done op rd t ≡ true
done_more atomic.Lr rd s t more e = e
done_more atomic.Sc rd s t more e =
    let p = both (not (rd == 0)) (is_zero (s.register After rd)) e in
    two_true (not (rd == 0)) (is_zero (t.register After rd)) p.0 (ap is_zero (more.register After rd 0 (succeeded rd s e)))
done_more atomic.Swap rd s t more e = refl
done_more atomic.Add rd s t more e = refl
done_more atomic.Xor rd s t more e = refl
done_more atomic.And rd s t more e = refl
done_more atomic.Or rd s t more e = refl
done_more atomic.Min rd s t more e = refl
done_more atomic.Max rd s t more e = refl
done_more atomic.Minu rd s t more e = refl
done_more atomic.Maxu rd s t more e = refl

pub sure_more_at : (row : StepRow) (form : Form) (s t : Seen) → KnowsMore s t → form_is_sure (Some form) row s ≡ true → form_is_sure (Some form) row t ≡ true
sure_more_at row form s t more sure =
    let parts = both (is_register form.rs1 && is_some (s.register Before form.rs1)) (is_done form.op form.rd s) sure in
    two_true (is_register form.rs1 && is_some (t.register Before form.rs1)) (is_done form.op form.rd t)
    (still_sure (is_register form.rs1) (s.register Before form.rs1) (t.register Before form.rs1) (more.register Before form.rs1) parts.0) (done_more form.op form.rd s t more parts.1)

pub few_places_by : (op : AmoOp) → places_by op ≤ 8
few_places_by atomic.Lr = lit≤ tt
few_places_by atomic.Sc = lit≤ tt
few_places_by atomic.Swap = lit≤ tt
few_places_by atomic.Add = lit≤ tt
few_places_by atomic.Xor = lit≤ tt
few_places_by atomic.And = lit≤ tt
few_places_by atomic.Or = lit≤ tt
few_places_by atomic.Min = lit≤ tt
few_places_by atomic.Max = lit≤ tt
few_places_by atomic.Minu = lit≤ tt
few_places_by atomic.Maxu = lit≤ tt
