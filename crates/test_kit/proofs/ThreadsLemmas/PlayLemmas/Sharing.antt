-- A step of the machine with a thread's own registers is a step of that thread, and of no other
-- one's registers.
use Rattle.std.proofs.Common.{◌≡◌, ℕ, zero, suc, pos, negsuc, ◌+◌, ◌*◌, ◌<◌, ◌^◌, nat_le, nat_lt, cond, Bool, true, false, refl, sym, ap, ◌∙◌, subst, arith, lit<, ◌==◌, ◌⊎◌, inl, inr, ◌≢◌}
use Rattle.std.proofs.lemmas.Bool.{and_from, and_left, and_parts, eqb-true, le-leb, leb-true, lt-leb, lt-ltb, ltb-true, or_cases, or_from, or_left}
use Rattle.rept_isa.specs.declared.instr.Instr.{Instr}
use Rattle.rept_isa.specs.declared.instr.Instr.TheVariants.{Lui, Auipc, Jal, Jalr, Branch, Load, Store, Imm, Op, Amo, Fence, Ecall, Ebreak, Counter}
use Rattle.rept_isa.specs.declared.instr.ImmOp.TheVariants.{Addi}
use Rattle.rept_isa.specs.Numbers.{plus, following}
use Rattle.rept_isa.specs.Rows.{Addresses}
use Rattle.rept_machine.specs.State.{State, IsState}
use Rattle.rept_machine.specs.Arithmetic.{computed, computed_imm, loaded}
use Rattle.rept_machine.specs.Step.{Calls, SetsRegister, Computes, Stores, HasEffect}
use Rattle.rept_machine.specs.Choices.{Picks}
use Rattle.rept_order.specs.History.{seen_by, OthersKeep}
use Rattle.test_kit.specs.Threads.Play.Shares.{Owns, owns, sees, share_of, world_of, UsesOwn}

owns_is : (t r : ℕ) → Owns t r → owns t r ≡ true
owns_is t r own = and_from (nat_le (18 + 3 * t) r) (nat_lt r (21 + 3 * t)) (le-leb (18 + 3 * t) r own.0) (lt-ltb r (21 + 3 * t) own.1)

pub is_owns : (t r : ℕ) → owns t r ≡ true → Owns t r
is_owns t r own = let both = and_parts (nat_le (18 + 3 * t) r) (nat_lt r (21 + 3 * t)) own in (leb-true (18 + 3 * t) r both.0, ltb-true r (21 + 3 * t) both.1)

own_value : (t r : ℕ) (s : State) → Owns t r → share_of t s r ≡ s.register r
own_value t r s own = ap (λ (b : Bool). cond b (s.register r) 0) (or_left (owns t r) (r == 17) (owns_is t r own))

same_value : (t r : ℕ) (s u : State) → u.register r ≡ s.register r → share_of t u r ≡ share_of t s r
same_value t r s u same = ap (λ (v : ℕ). cond (sees t r) v 0) same

pub who_sees : (t r : ℕ) → sees t r ≡ true → Owns t r ⊎ (r ≡ 17)
who_sees t r seen =
    elim (or_cases (owns t r) (r == 17) seen) [
      | inl own ↦ inl (is_owns t r own)
      | inr number ↦ inr (eqb-true r 17 number)
    ]

-- only who sees a register sees what is put into it
kept_by : (t r : ℕ) (s u : State) (b : Bool) → sees t r ≡ b → (Owns t r ⊎ (r ≡ 17) → u.register r ≡ s.register r) → share_of t u r ≡ share_of t s r
kept_by t r s u true seen same = same_value t r s u (same (who_sees t r seen))
kept_by t r s u false other same = ap (λ (b : Bool). cond b (u.register r) 0) other ∙ sym (ap (λ (b : Bool). cond b (s.register r) 0) other)

sets : (t rd v w : ℕ) (s u : State) → Owns t rd → v ≡ w → SetsRegister rd v s u → SetsRegister rd w (seen_by t (world_of s)) (seen_by t (world_of u))
sets t rd v w s u own same h = record {
  written = λ some. own_value t rd u own ∙ h.written some ∙ same;
  lost = λ none. absurd (let least = own.0 in omega arith);
  others = λ r other. same_value t r s u (h.others r other);
}

apart_from : (t o rd r : ℕ) → Owns t rd → o ≢ t → Owns o r ⊎ (r ≡ 17) → r ≡ rd → ⊥
apart_from t o rd r own other (inl its) same = let a = own.0 in let b = own.1 in let c = its.0 in let d = its.1 in other (omega arith)
apart_from t o rd r own other (inr number) same = let a = own.0 in omega arith

not_ten : (o r : ℕ) → Owns o r ⊎ (r ≡ 17) → r ≢ 10
not_ten o r (inl its) same = let a = its.0 in omega arith
not_ten o r (inr number) same = omega arith

others_keep : (t rd w : ℕ) (s u : State) → Owns t rd → SetsRegister rd w s u → OthersKeep t (record { old = world_of s; new = world_of u })
others_keep t rd w s u own h = λ o r other. kept_by o r s u (sees o r) refl (λ its. h.others r (λ same. apart_from t o rd r own other its same))

calls_keep : (t image_end : ℕ) (a : Addresses) (s u : State) → Calls image_end a s u → OthersKeep t (record { old = world_of s; new = world_of u })
calls_keep t image_end a s u h = λ o r other. kept_by o r s u (sees o r) refl (λ its. h.others r (not_ten o r its))

computes : (t rd v w : ℕ) (a b : Addresses) (s u : State) → Owns t rd → v ≡ w → b.next ≡ following b.from → Computes rd v a s u → Computes rd w b (seen_by t (world_of s)) (seen_by t (world_of u))
computes t rd v w a b s u own same next h = record { result = sets t rd v w s u own same h.result; memory = h.memory; onward = next }

-- a thread's step
pub shared : (t : ℕ) (instr : Instr) (image_end : ℕ) (a b : Addresses) (s u : State) → UsesOwn t instr → b.next ≡ following b.from → Picks instr s u → HasEffect instr image_end a s u → HasEffect instr image_end b (seen_by t (world_of s)) (seen_by t (world_of u))
shared t (Imm op rd rs1 imm) image_end a b s u own next picks h = computes t rd _ _ a b s u own.0 (ap (λ (x : ℕ). computed_imm op x imm) (sym (own_value t rs1 s own.1))) next h
shared t (Op op rd rs1 rs2) image_end a b s u own next picks h = computes t rd _ _ a b s u own.0 (ap (λ (x : ℕ). computed op x (s.register rs2)) (sym (own_value t rs1 s own.1)) ∙ ap (λ (x : ℕ). computed op (share_of t s rs1) x) (sym (own_value t rs2 s own.2))) next h
shared t (Load op rd rs1 imm) image_end a b s u own next picks h = computes t rd _ _ a b s u own.0 (ap (λ (x : ℕ). loaded op s.memory (plus x imm)) (sym (own_value t rs1 s own.1))) next h
shared t (Store op rs1 rs2 imm) image_end a b s u own next picks h =
    let here : Stores op (s.register rs2) (plus (s.register rs1) imm) b (seen_by t (world_of s)) (seen_by t (world_of u)) = record { registers = λ r. same_value t r s u (h.registers r); written = h.written; others = h.others; onward = next } in
    subst (λ (x : ℕ). Stores op x (plus (share_of t s rs1) imm) b (seen_by t (world_of s)) (seen_by t (world_of u))) (sym (own_value t rs2 s own.1))
    (subst (λ (x : ℕ). Stores op (s.register rs2) (plus x imm) b (seen_by t (world_of s)) (seen_by t (world_of u))) (sym (own_value t rs1 s own.0)) here)
shared t (Lui rd imm) image_end a b s u own next picks h = absurd own
shared t (Auipc rd imm) image_end a b s u own next picks h = absurd own
shared t (Jal rd imm) image_end a b s u own next picks h = absurd own
shared t (Jalr rd rs1 imm) image_end a b s u own next picks h = absurd own
shared t (Branch op rs1 rs2 imm) image_end a b s u own next picks h = absurd own
shared t (Amo op rd rs1 rs2) image_end a b s u own next picks h = absurd own
shared t Fence image_end a b s u own next picks h = absurd own
shared t Ecall image_end a b s u own next picks h = record { others = λ r other. same_value t r s u (h.others r other); memory = λ c out. picks.1 c; onward = next }
shared t Ebreak image_end a b s u own next picks h = absurd own
shared t (Counter rd csr) image_end a b s u own next picks h = absurd own

all_keep : (t : ℕ) (s u : State) → ((r : ℕ) → u.register r ≡ s.register r) → OthersKeep t (record { old = world_of s; new = world_of u })
all_keep t s u same = λ o r other. same_value o r s u (same r)

pub others_stay : (t : ℕ) (instr : Instr) (image_end : ℕ) (a : Addresses) (s u : State) → UsesOwn t instr → HasEffect instr image_end a s u → OthersKeep t (record { old = world_of s; new = world_of u })
others_stay t (Imm op rd rs1 imm) image_end a s u own h = others_keep t rd _ s u own.0 h.result
others_stay t (Op op rd rs1 rs2) image_end a s u own h = others_keep t rd _ s u own.0 h.result
others_stay t (Load op rd rs1 imm) image_end a s u own h = others_keep t rd _ s u own.0 h.result
others_stay t (Store op rs1 rs2 imm) image_end a s u own h = all_keep t s u h.registers
others_stay t (Lui rd imm) image_end a s u own h = absurd own
others_stay t (Auipc rd imm) image_end a s u own h = absurd own
others_stay t (Jal rd imm) image_end a s u own h = absurd own
others_stay t (Jalr rd rs1 imm) image_end a s u own h = absurd own
others_stay t (Branch op rs1 rs2 imm) image_end a s u own h = absurd own
others_stay t (Amo op rd rs1 rs2) image_end a s u own h = absurd own
others_stay t Fence image_end a s u own h = absurd own
others_stay t Ecall image_end a s u own h = calls_keep t image_end a s u h
others_stay t Ebreak image_end a s u own h = absurd own
others_stay t (Counter rd csr) image_end a s u own h = absurd own

-- ADDI x0, x0, 0 does nothing, as a jump without a link
nothing_by : (s u : State) (v r : ℕ) → SetsRegister 0 v s u → u.register r ≡ s.register r
nothing_by s u v zero h = h.lost refl
nothing_by s u v (suc r) h = h.others (suc r) (omega arith)

pub jumps : (t image_end : ℕ) (a b : Addresses) (s u : State) → b.next ≡ plus b.at (negsuc 59) → HasEffect (Imm Addi 0 0 (pos 0)) image_end a s u → HasEffect (Jal 0 (negsuc 59)) image_end b (seen_by t (world_of s)) (seen_by t (world_of u))
jumps t image_end a b s u next h = record {
  link = record { written = λ some. absurd (some refl); lost = λ none. same_value t 0 s u (nothing_by s u _ 0 h.result); others = λ r other. same_value t r s u (nothing_by s u _ r h.result) };
  memory = h.memory;
  onward = next;
}

pub jumps_alone : (t image_end : ℕ) (a : Addresses) (s u : State) → HasEffect (Imm Addi 0 0 (pos 0)) image_end a s u → OthersKeep t (record { old = world_of s; new = world_of u })
jumps_alone t image_end a s u h = all_keep t s u (λ r. nothing_by s u _ r h.result)

-- what a thread sees is a state
pub share_state : (t : ℕ) (s : State) → IsState s → IsState (seen_by t (world_of s))
share_state t s is = record {
  zero = ap (λ (b : Bool). cond b (s.register 0) 0) (or_from (owns t 0) false (and_left (nat_le (18 + 3 * t) 0) (nat_lt 0 (21 + 3 * t)) (lt-leb (18 + 3 * t) 0 (omega arith))) refl);
  words = λ r. few_by r (sees t r);
  bytes = is.bytes;
}
  where
    few_by : (r : ℕ) (b : Bool) → cond b (s.register r) 0 < 2 ^ 32
    few_by r true = is.words r
    few_by r false = lit< tt
