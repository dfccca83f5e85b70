-- A word that is read as an instruction spells it.
use Rattle.std.specs.Prelude.{◌≡◌, ℕ, pos, ◌<◌, ◌==◌, nat_lt, Bool, true, false, ◌||◌, ◌&&◌, Option, Some, None, IfSome, IfNone, option_map}
use Rattle.std.proofs.Common.{arith, refl, sym, ◌∙◌, subst, cond, ◌⊎◌, inl, inr}
use Rattle.std.proofs.lemmas.Bool.Decides.{nat_tests}
use Rattle.rept_isa.specs.declared.instr.Instr.{Instr}
use Rattle.rept_isa.specs.declared.instr.Instr.TheVariants.{Branch, Load, Store, Imm, Op, Amo, Fence, Ecall, Ebreak, Counter}
use Rattle.rept_isa.specs.declared.instr.AmoOp.{AmoOp}
use Rattle.rept_isa.specs.declared.instr.AmoOp.TheVariants as atomic
use Rattle.rept_isa.specs.declared.instr.BranchOp.{BranchOp}
use Rattle.rept_isa.specs.declared.instr.BranchOp.TheVariants.{Beq, Bne, Blt, Bge, Bltu, Bgeu}
use Rattle.rept_isa.specs.declared.instr.LoadOp.{LoadOp}
use Rattle.rept_isa.specs.declared.instr.LoadOp.TheVariants.{Lb, Lh, Lw, Lbu, Lhu}
use Rattle.rept_isa.specs.declared.instr.StoreOp.{StoreOp}
use Rattle.rept_isa.specs.declared.instr.StoreOp.TheVariants.{Sb, Sh, Sw}
use Rattle.rept_isa.specs.declared.instr.ImmOp.{ImmOp}
use Rattle.rept_isa.specs.declared.instr.ImmOp.TheVariants.{Addi, Slti, Sltiu, Xori, Ori, Andi, Slli, Srli, Srai}
use Rattle.rept_isa.specs.declared.instr.RegOp.{RegOp}
use Rattle.rept_isa.specs.declared.instr.RegOp.TheVariants.{Add, Sub, Sll, Slt, Sltu, Xor, Srl, Sra, Or, And, Mul, Mulh, Mulhsu, Mulhu, Div, Divu, Rem, Remu}
use Rattle.rept_isa.specs.Words.{IsWord, IsCounter, IsImmediate, opcode, field, funct3, funct5, funct7, rd_field, rs1_field, rs2_field, i_immediate, s_immediate, b_immediate, branch_funct3, load_funct3, store_funct3, op_funct3, op_funct7, amo_funct5, HasSource}
use Rattle.rept_isa.specs.Reading.{branch_named, load_named, store_named, base_named, other_named, multiply_named, register_named, amo_named, wide_named, shift_named, is_counter, read_jalr, read_branch, read_load, read_store, read_shift, read_wide, read_immediate, read_register, read_amo, read_fence, read_system}
use Rattle.rept_isa.proofs.WordLemmas.{reads}
use Rattle.rept_path.specs.Code.{instruction}

-- one of two ways
pick : {A : Type 0} (b : Bool) (x y : Option A) (z : A) → cond b x y ≡ Some z → ((b ≡ true) × (x ≡ Some z)) ⊎ ((b ≡ false) × (y ≡ Some z))
pick true x y z h = inl (refl, h)
pick false x y z h = inr (refl, h)

same : (a b : ℕ) → (a == b) ≡ true → a ≡ b
same a b h = grind (arith, nat_tests)

inside : {A : Type 0} {x y : A} → Some x ≡ Some y → x ≡ y
inside h = cc

nothing : {A : Type 0} {x : A} → None ≡ Some x → ⊥
nothing h = cc

mapped : {A B : Type 0} (f : A → B) (r : Option A) (y : B) → option_map f r ≡ Some y → (x : A) × (r ≡ Some x) × (f x ≡ y)
mapped f None y h = cc
mapped f (Some x) y h = (x, refl, inside h)

branch_back : (n : ℕ) (op : BranchOp) → branch_named n ≡ Some op → branch_funct3 op ≡ n
branch_back n op h = elim (pick (n == 0) (Some Beq) _ op h) [
  | inl p0 ↦ let s : Beq ≡ op = inside p0.1 in subst (λ (o : BranchOp). branch_funct3 o ≡ n) s (sym (same n 0 p0.0))
  | inr p0 ↦ elim (pick (n == 1) (Some Bne) _ op p0.1) [
    | inl p1 ↦ let s : Bne ≡ op = inside p1.1 in subst (λ (o : BranchOp). branch_funct3 o ≡ n) s (sym (same n 1 p1.0))
    | inr p1 ↦ elim (pick (n == 4) (Some Blt) _ op p1.1) [
      | inl p2 ↦ let s : Blt ≡ op = inside p2.1 in subst (λ (o : BranchOp). branch_funct3 o ≡ n) s (sym (same n 4 p2.0))
      | inr p2 ↦ elim (pick (n == 5) (Some Bge) _ op p2.1) [
        | inl p3 ↦ let s : Bge ≡ op = inside p3.1 in subst (λ (o : BranchOp). branch_funct3 o ≡ n) s (sym (same n 5 p3.0))
        | inr p3 ↦ elim (pick (n == 6) (Some Bltu) _ op p3.1) [
          | inl p4 ↦ let s : Bltu ≡ op = inside p4.1 in subst (λ (o : BranchOp). branch_funct3 o ≡ n) s (sym (same n 6 p4.0))
          | inr p4 ↦ elim (pick (n == 7) (Some Bgeu) _ op p4.1) [
            | inl p5 ↦ let s : Bgeu ≡ op = inside p5.1 in subst (λ (o : BranchOp). branch_funct3 o ≡ n) s (sym (same n 7 p5.0))
            | inr p5 ↦ absurd (nothing p5.1)
          ]
        ]
      ]
    ]
  ]
]

load_back : (n : ℕ) (op : LoadOp) → load_named n ≡ Some op → load_funct3 op ≡ n
load_back n op h = elim (pick (n == 0) (Some Lb) _ op h) [
  | inl p0 ↦ let s : Lb ≡ op = inside p0.1 in subst (λ (o : LoadOp). load_funct3 o ≡ n) s (sym (same n 0 p0.0))
  | inr p0 ↦ elim (pick (n == 1) (Some Lh) _ op p0.1) [
    | inl p1 ↦ let s : Lh ≡ op = inside p1.1 in subst (λ (o : LoadOp). load_funct3 o ≡ n) s (sym (same n 1 p1.0))
    | inr p1 ↦ elim (pick (n == 2) (Some Lw) _ op p1.1) [
      | inl p2 ↦ let s : Lw ≡ op = inside p2.1 in subst (λ (o : LoadOp). load_funct3 o ≡ n) s (sym (same n 2 p2.0))
      | inr p2 ↦ elim (pick (n == 4) (Some Lbu) _ op p2.1) [
        | inl p3 ↦ let s : Lbu ≡ op = inside p3.1 in subst (λ (o : LoadOp). load_funct3 o ≡ n) s (sym (same n 4 p3.0))
        | inr p3 ↦ elim (pick (n == 5) (Some Lhu) _ op p3.1) [
          | inl p4 ↦ let s : Lhu ≡ op = inside p4.1 in subst (λ (o : LoadOp). load_funct3 o ≡ n) s (sym (same n 5 p4.0))
          | inr p4 ↦ absurd (nothing p4.1)
        ]
      ]
    ]
  ]
]

store_back : (n : ℕ) (op : StoreOp) → store_named n ≡ Some op → store_funct3 op ≡ n
store_back n op h = elim (pick (n == 0) (Some Sb) _ op h) [
  | inl p0 ↦ let s : Sb ≡ op = inside p0.1 in subst (λ (o : StoreOp). store_funct3 o ≡ n) s (sym (same n 0 p0.0))
  | inr p0 ↦ elim (pick (n == 1) (Some Sh) _ op p0.1) [
    | inl p1 ↦ let s : Sh ≡ op = inside p1.1 in subst (λ (o : StoreOp). store_funct3 o ≡ n) s (sym (same n 1 p1.0))
    | inr p1 ↦ elim (pick (n == 2) (Some Sw) _ op p1.1) [
      | inl p2 ↦ let s : Sw ≡ op = inside p2.1 in subst (λ (o : StoreOp). store_funct3 o ≡ n) s (sym (same n 2 p2.0))
      | inr p2 ↦ absurd (nothing p2.1)
    ]
  ]
]

base_back : (n : ℕ) (op : RegOp) → base_named n ≡ Some op → (op_funct3 op ≡ n) × (op_funct7 op ≡ 0)
base_back n op h = elim (pick (n == 0) (Some Add) _ op h) [
  | inl p0 ↦ let s : Add ≡ op = inside p0.1 in subst (λ (o : RegOp). (op_funct3 o ≡ n) × (op_funct7 o ≡ 0)) s (sym (same n 0 p0.0), refl)
  | inr p0 ↦ elim (pick (n == 1) (Some Sll) _ op p0.1) [
    | inl p1 ↦ let s : Sll ≡ op = inside p1.1 in subst (λ (o : RegOp). (op_funct3 o ≡ n) × (op_funct7 o ≡ 0)) s (sym (same n 1 p1.0), refl)
    | inr p1 ↦ elim (pick (n == 2) (Some Slt) _ op p1.1) [
      | inl p2 ↦ let s : Slt ≡ op = inside p2.1 in subst (λ (o : RegOp). (op_funct3 o ≡ n) × (op_funct7 o ≡ 0)) s (sym (same n 2 p2.0), refl)
      | inr p2 ↦ elim (pick (n == 3) (Some Sltu) _ op p2.1) [
        | inl p3 ↦ let s : Sltu ≡ op = inside p3.1 in subst (λ (o : RegOp). (op_funct3 o ≡ n) × (op_funct7 o ≡ 0)) s (sym (same n 3 p3.0), refl)
        | inr p3 ↦ elim (pick (n == 4) (Some Xor) _ op p3.1) [
          | inl p4 ↦ let s : Xor ≡ op = inside p4.1 in subst (λ (o : RegOp). (op_funct3 o ≡ n) × (op_funct7 o ≡ 0)) s (sym (same n 4 p4.0), refl)
          | inr p4 ↦ elim (pick (n == 5) (Some Srl) _ op p4.1) [
            | inl p5 ↦ let s : Srl ≡ op = inside p5.1 in subst (λ (o : RegOp). (op_funct3 o ≡ n) × (op_funct7 o ≡ 0)) s (sym (same n 5 p5.0), refl)
            | inr p5 ↦ elim (pick (n == 6) (Some Or) _ op p5.1) [
              | inl p6 ↦ let s : Or ≡ op = inside p6.1 in subst (λ (o : RegOp). (op_funct3 o ≡ n) × (op_funct7 o ≡ 0)) s (sym (same n 6 p6.0), refl)
              | inr p6 ↦ elim (pick (n == 7) (Some And) _ op p6.1) [
                | inl p7 ↦ let s : And ≡ op = inside p7.1 in subst (λ (o : RegOp). (op_funct3 o ≡ n) × (op_funct7 o ≡ 0)) s (sym (same n 7 p7.0), refl)
                | inr p7 ↦ absurd (nothing p7.1)
              ]
            ]
          ]
        ]
      ]
    ]
  ]
]

other_back : (n : ℕ) (op : RegOp) → other_named n ≡ Some op → (op_funct3 op ≡ n) × (op_funct7 op ≡ 32)
other_back n op h = elim (pick (n == 0) (Some Sub) _ op h) [
  | inl p0 ↦ let s : Sub ≡ op = inside p0.1 in subst (λ (o : RegOp). (op_funct3 o ≡ n) × (op_funct7 o ≡ 32)) s (sym (same n 0 p0.0), refl)
  | inr p0 ↦ elim (pick (n == 5) (Some Sra) _ op p0.1) [
    | inl p1 ↦ let s : Sra ≡ op = inside p1.1 in subst (λ (o : RegOp). (op_funct3 o ≡ n) × (op_funct7 o ≡ 32)) s (sym (same n 5 p1.0), refl)
    | inr p1 ↦ absurd (nothing p1.1)
  ]
]

multiply_back : (n : ℕ) (op : RegOp) → multiply_named n ≡ Some op → (op_funct3 op ≡ n) × (op_funct7 op ≡ 1)
multiply_back n op h = elim (pick (n == 0) (Some Mul) _ op h) [
  | inl p0 ↦ let s : Mul ≡ op = inside p0.1 in subst (λ (o : RegOp). (op_funct3 o ≡ n) × (op_funct7 o ≡ 1)) s (sym (same n 0 p0.0), refl)
  | inr p0 ↦ elim (pick (n == 1) (Some Mulh) _ op p0.1) [
    | inl p1 ↦ let s : Mulh ≡ op = inside p1.1 in subst (λ (o : RegOp). (op_funct3 o ≡ n) × (op_funct7 o ≡ 1)) s (sym (same n 1 p1.0), refl)
    | inr p1 ↦ elim (pick (n == 2) (Some Mulhsu) _ op p1.1) [
      | inl p2 ↦ let s : Mulhsu ≡ op = inside p2.1 in subst (λ (o : RegOp). (op_funct3 o ≡ n) × (op_funct7 o ≡ 1)) s (sym (same n 2 p2.0), refl)
      | inr p2 ↦ elim (pick (n == 3) (Some Mulhu) _ op p2.1) [
        | inl p3 ↦ let s : Mulhu ≡ op = inside p3.1 in subst (λ (o : RegOp). (op_funct3 o ≡ n) × (op_funct7 o ≡ 1)) s (sym (same n 3 p3.0), refl)
        | inr p3 ↦ elim (pick (n == 4) (Some Div) _ op p3.1) [
          | inl p4 ↦ let s : Div ≡ op = inside p4.1 in subst (λ (o : RegOp). (op_funct3 o ≡ n) × (op_funct7 o ≡ 1)) s (sym (same n 4 p4.0), refl)
          | inr p4 ↦ elim (pick (n == 5) (Some Divu) _ op p4.1) [
            | inl p5 ↦ let s : Divu ≡ op = inside p5.1 in subst (λ (o : RegOp). (op_funct3 o ≡ n) × (op_funct7 o ≡ 1)) s (sym (same n 5 p5.0), refl)
            | inr p5 ↦ elim (pick (n == 6) (Some Rem) _ op p5.1) [
              | inl p6 ↦ let s : Rem ≡ op = inside p6.1 in subst (λ (o : RegOp). (op_funct3 o ≡ n) × (op_funct7 o ≡ 1)) s (sym (same n 6 p6.0), refl)
              | inr p6 ↦ elim (pick (n == 7) (Some Remu) _ op p6.1) [
                | inl p7 ↦ let s : Remu ≡ op = inside p7.1 in subst (λ (o : RegOp). (op_funct3 o ≡ n) × (op_funct7 o ≡ 1)) s (sym (same n 7 p7.0), refl)
                | inr p7 ↦ absurd (nothing p7.1)
              ]
            ]
          ]
        ]
      ]
    ]
  ]
]

register_back : (seven n : ℕ) (op : RegOp) → register_named seven n ≡ Some op → (op_funct3 op ≡ n) × (op_funct7 op ≡ seven)
register_back seven n op h = elim (pick (seven == 0) (base_named n) _ op h) [
  | inl p ↦ let b = base_back n op p.1 in (b.0, b.1 ∙ sym (same seven 0 p.0))
  | inr p ↦ elim (pick (seven == 32) (other_named n) _ op p.1) [
    | inl q ↦ let b = other_back n op q.1 in (b.0, b.1 ∙ sym (same seven 32 q.0))
    | inr q ↦ elim (pick (seven == 1) (multiply_named n) _ op q.1) [
      | inl r ↦ let b = multiply_back n op r.1 in (b.0, b.1 ∙ sym (same seven 1 r.0))
      | inr r ↦ absurd (nothing r.1)
    ]
  ]
]

jalr_back : (word : ℕ) (i : Instr) → opcode word ≡ 103 → read_jalr word ≡ Some i → IsWord word i
jalr_back word i e h = elim (pick (funct3 word == 0) _ _ i h) [
  | inl p ↦ subst (λ (j : Instr). IsWord word j) (inside p.1) (record { form = e; operation = same (funct3 word) 0 p.0; target = refl; source = refl; number = refl })
  | inr p ↦ absurd (nothing p.1)
]

branch_word : (word : ℕ) (i : Instr) → opcode word ≡ 99 → read_branch word ≡ Some i → IsWord word i
branch_word word i e h =
    let m = mapped (λ op. Branch op (rs1_field word) (rs2_field word) (b_immediate word)) (branch_named (funct3 word)) i h in
    subst (λ (j : Instr). IsWord word j) m.2 (record { form = e; operation = sym (branch_back (funct3 word) m.0 m.1); first = refl; second = refl; number = refl })

load_word : (word : ℕ) (i : Instr) → opcode word ≡ 3 → read_load word ≡ Some i → IsWord word i
load_word word i e h =
    let m = mapped (λ op. Load op (rd_field word) (rs1_field word) (i_immediate word)) (load_named (funct3 word)) i h in
    subst (λ (j : Instr). IsWord word j) m.2 (record { form = e; operation = sym (load_back (funct3 word) m.0 m.1); target = refl; source = refl; number = refl })

store_word : (word : ℕ) (i : Instr) → opcode word ≡ 35 → read_store word ≡ Some i → IsWord word i
store_word word i e h =
    let m = mapped (λ op. Store op (rs1_field word) (rs2_field word) (s_immediate word)) (store_named (funct3 word)) i h in
    subst (λ (j : Instr). IsWord word j) m.2 (record { form = e; operation = sym (store_back (funct3 word) m.0 m.1); base = refl; source = refl; number = refl })

register_word : (word : ℕ) (i : Instr) → opcode word ≡ 51 → read_register word ≡ Some i → IsWord word i
register_word word i e h =
    let m = mapped (λ op. Op op (rd_field word) (rs1_field word) (rs2_field word)) (register_named (funct7 word) (funct3 word)) i h in
    let b = register_back (funct7 word) (funct3 word) m.0 m.1 in
    subst (λ (j : Instr). IsWord word j) m.2 (record { form = e; operation = sym b.0; high = sym b.1; target = refl; first = refl; second = refl })

wide_back : (word : ℕ) (op : ImmOp) → opcode word ≡ 19 → wide_named (funct3 word) ≡ Some op → IsImmediate op word (rd_field word) (rs1_field word) (i_immediate word)
wide_back word op e h = elim (pick (funct3 word == 0) (Some Addi) _ op h) [
  | inl p0 ↦ subst (λ (o : ImmOp). IsImmediate o word (rd_field word) (rs1_field word) (i_immediate word)) (inside p0.1) (record { form = e; operation = same (funct3 word) 0 p0.0; target = refl; source = refl; number = refl })
  | inr p0 ↦ elim (pick (funct3 word == 2) (Some Slti) _ op p0.1) [
    | inl p1 ↦ subst (λ (o : ImmOp). IsImmediate o word (rd_field word) (rs1_field word) (i_immediate word)) (inside p1.1) (record { form = e; operation = same (funct3 word) 2 p1.0; target = refl; source = refl; number = refl })
    | inr p1 ↦ elim (pick (funct3 word == 3) (Some Sltiu) _ op p1.1) [
      | inl p2 ↦ subst (λ (o : ImmOp). IsImmediate o word (rd_field word) (rs1_field word) (i_immediate word)) (inside p2.1) (record { form = e; operation = same (funct3 word) 3 p2.0; target = refl; source = refl; number = refl })
      | inr p2 ↦ elim (pick (funct3 word == 4) (Some Xori) _ op p2.1) [
        | inl p3 ↦ subst (λ (o : ImmOp). IsImmediate o word (rd_field word) (rs1_field word) (i_immediate word)) (inside p3.1) (record { form = e; operation = same (funct3 word) 4 p3.0; target = refl; source = refl; number = refl })
        | inr p3 ↦ elim (pick (funct3 word == 6) (Some Ori) _ op p3.1) [
          | inl p4 ↦ subst (λ (o : ImmOp). IsImmediate o word (rd_field word) (rs1_field word) (i_immediate word)) (inside p4.1) (record { form = e; operation = same (funct3 word) 6 p4.0; target = refl; source = refl; number = refl })
          | inr p4 ↦ elim (pick (funct3 word == 7) (Some Andi) _ op p4.1) [
            | inl p5 ↦ subst (λ (o : ImmOp). IsImmediate o word (rd_field word) (rs1_field word) (i_immediate word)) (inside p5.1) (record { form = e; operation = same (funct3 word) 7 p5.0; target = refl; source = refl; number = refl })
            | inr p5 ↦ absurd (nothing p5.1)
          ]
        ]
      ]
    ]
  ]
]

shift_back : (word : ℕ) (op : ImmOp) → opcode word ≡ 19 → shift_named (funct7 word) (funct3 word) ≡ Some op → IsImmediate op word (rd_field word) (rs1_field word) (pos (rs2_field word))
shift_back word op e h = elim (pick (funct3 word == 1) _ _ op h) [
  | inl p ↦ elim (pick (funct7 word == 0) (Some Slli) _ op p.1) [
    | inl q ↦ subst (λ (o : ImmOp). IsImmediate o word (rd_field word) (rs1_field word) (pos (rs2_field word))) (inside q.1) (record { form = e; operation = same (funct3 word) 1 p.0; high = same (funct7 word) 0 q.0; target = refl; source = refl; amount = refl })
    | inr q ↦ absurd (nothing q.1)
  ]
  | inr p ↦ elim (pick (funct3 word == 5) _ _ op p.1) [
    | inl r ↦ elim (pick (funct7 word == 0) (Some Srli) _ op r.1) [
      | inl q ↦ subst (λ (o : ImmOp). IsImmediate o word (rd_field word) (rs1_field word) (pos (rs2_field word))) (inside q.1) (record { form = e; operation = same (funct3 word) 5 r.0; high = same (funct7 word) 0 q.0; target = refl; source = refl; amount = refl })
      | inr t ↦ elim (pick (funct7 word == 32) (Some Srai) _ op t.1) [
        | inl q ↦ subst (λ (o : ImmOp). IsImmediate o word (rd_field word) (rs1_field word) (pos (rs2_field word))) (inside q.1) (record { form = e; operation = same (funct3 word) 5 r.0; high = same (funct7 word) 32 q.0; target = refl; source = refl; amount = refl })
        | inr q ↦ absurd (nothing q.1)
      ]
    ]
    | inr r ↦ absurd (nothing r.1)
  ]
]

immediate_word : (word : ℕ) (i : Instr) → opcode word ≡ 19 → read_immediate word ≡ Some i → IsWord word i
immediate_word word i e h = elim (pick (funct3 word == 1 || funct3 word == 5) (read_shift word) (read_wide word) i h) [
  | inl p ↦
      let m = mapped (λ op. Imm op (rd_field word) (rs1_field word) (pos (rs2_field word))) (shift_named (funct7 word) (funct3 word)) i p.1 in
      subst (λ (j : Instr). IsWord word j) m.2 (shift_back word m.0 e m.1)
  | inr p ↦
      let m = mapped (λ op. Imm op (rd_field word) (rs1_field word) (i_immediate word)) (wide_named (funct3 word)) i p.1 in
      subst (λ (j : Instr). IsWord word j) m.2 (wide_back word m.0 e m.1)
]

amo_back : (five second : ℕ) (op : AmoOp) → amo_named five second ≡ Some op → (five ≡ amo_funct5 op) × HasSource op second
amo_back five second op h = elim (pick (five == 0) _ _ op h) [
  | inl q0 ↦ subst (λ (o : AmoOp). (five ≡ amo_funct5 o) × HasSource o second) (inside q0.1) (same five 0 q0.0, tt)
  | inr q0 ↦ elim (pick (five == 1) _ _ op q0.1) [
    | inl q1 ↦ subst (λ (o : AmoOp). (five ≡ amo_funct5 o) × HasSource o second) (inside q1.1) (same five 1 q1.0, tt)
    | inr q1 ↦ elim (pick (five == 2) _ _ op q1.1) [
      | inl q2 ↦ elim (pick (second == 0) (Some atomic.Lr) None op q2.1) [
        | inl r ↦ subst (λ (o : AmoOp). (five ≡ amo_funct5 o) × HasSource o second) (inside r.1) (same five 2 q2.0, same second 0 r.0)
        | inr r ↦ absurd (nothing r.1)
      ]
      | inr q2 ↦ elim (pick (five == 3) _ _ op q2.1) [
        | inl q3 ↦ subst (λ (o : AmoOp). (five ≡ amo_funct5 o) × HasSource o second) (inside q3.1) (same five 3 q3.0, tt)
        | inr q3 ↦ elim (pick (five == 4) _ _ op q3.1) [
          | inl q4 ↦ subst (λ (o : AmoOp). (five ≡ amo_funct5 o) × HasSource o second) (inside q4.1) (same five 4 q4.0, tt)
          | inr q4 ↦ elim (pick (five == 8) _ _ op q4.1) [
            | inl q5 ↦ subst (λ (o : AmoOp). (five ≡ amo_funct5 o) × HasSource o second) (inside q5.1) (same five 8 q5.0, tt)
            | inr q5 ↦ elim (pick (five == 12) _ _ op q5.1) [
              | inl q6 ↦ subst (λ (o : AmoOp). (five ≡ amo_funct5 o) × HasSource o second) (inside q6.1) (same five 12 q6.0, tt)
              | inr q6 ↦ elim (pick (five == 16) _ _ op q6.1) [
                | inl q7 ↦ subst (λ (o : AmoOp). (five ≡ amo_funct5 o) × HasSource o second) (inside q7.1) (same five 16 q7.0, tt)
                | inr q7 ↦ elim (pick (five == 20) _ _ op q7.1) [
                  | inl q8 ↦ subst (λ (o : AmoOp). (five ≡ amo_funct5 o) × HasSource o second) (inside q8.1) (same five 20 q8.0, tt)
                  | inr q8 ↦ elim (pick (five == 24) _ _ op q8.1) [
                    | inl q9 ↦ subst (λ (o : AmoOp). (five ≡ amo_funct5 o) × HasSource o second) (inside q9.1) (same five 24 q9.0, tt)
                    | inr q9 ↦ elim (pick (five == 28) _ _ op q9.1) [
                      | inl q10 ↦ subst (λ (o : AmoOp). (five ≡ amo_funct5 o) × HasSource o second) (inside q10.1) (same five 28 q10.0, tt)
                      | inr q10 ↦ absurd (nothing q10.1)
                    ]
                  ]
                ]
              ]
            ]
          ]
        ]
      ]
    ]
  ]
]

amo_word : (word : ℕ) (i : Instr) → opcode word ≡ 47 → read_amo word ≡ Some i → IsWord word i
amo_word word i e h = elim (pick (funct3 word == 2) _ _ i h) [
  | inl p ↦
      let m = mapped (λ op. Amo op (rd_field word) (rs1_field word) (rs2_field word)) (amo_named (funct5 word) (rs2_field word)) i p.1 in
      let b = amo_back (funct5 word) (rs2_field word) m.0 m.1 in
      subst (λ (j : Instr). IsWord word j) m.2 (record { form = e; operation = same (funct3 word) 2 p.0; high = b.0; target = refl; first = refl; second = refl; source = b.1 })
  | inr p ↦ absurd (nothing p.1)
]

fence_word : (word : ℕ) (i : Instr) → opcode word ≡ 15 → read_fence word ≡ Some i → IsWord word i
fence_word word i e h = elim (pick (nat_lt (funct3 word) 2) (Some Fence) _ i h) [
  | inl p ↦ let lt : funct3 word < 2 = (let t = p.0 in grind (arith, nat_tests)) in subst (λ (j : Instr). IsWord word j) (inside p.1) (record { form = e; operation = lt })
  | inr p ↦ absurd (nothing p.1)
]

counter_is : (csr : ℕ) → is_counter csr ≡ true → IsCounter csr
counter_is csr h = go (csr == 3072) (csr == 3073) (csr == 3074) (csr == 3200) (csr == 3201) (csr == 3202) refl refl refl refl refl refl h where
  go : (a b c d e f : Bool) → (csr == 3072) ≡ a → (csr == 3073) ≡ b → (csr == 3074) ≡ c → (csr == 3200) ≡ d → (csr == 3201) ≡ e → (csr == 3202) ≡ f → (a || b || c || d || e || f) ≡ true → IsCounter csr
  go true b c d e f p q r s t u h = inl (same csr 3072 p)
  go false true c d e f p q r s t u h = inr (inl (same csr 3073 q))
  go false false true d e f p q r s t u h = inr (inr (inl (same csr 3074 r)))
  go false false false true e f p q r s t u h = inr (inr (inr (inl (same csr 3200 s))))
  go false false false false true f p q r s t u h = inr (inr (inr (inr (inl (same csr 3201 t)))))
  go false false false false false true p q r s t u h = inr (inr (inr (inr (inr (same csr 3202 u)))))
  go false false false false false false p q r s t u h = cc

three : (a b c : Bool) → (a && b && c) ≡ true → (a ≡ true) × (b ≡ true) × (c ≡ true)
three true true true h = (refl, refl, refl)
three true true false h = cc
three true false c h = cc
three false b c h = cc

system_word : (word : ℕ) (i : Instr) → opcode word ≡ 115 → read_system word ≡ Some i → IsWord word i
system_word word i e h = elim (pick (word == 115) (Some Ecall) _ i h) [
  | inl p ↦ subst (λ (j : Instr). IsWord word j) (inside p.1) (same word 115 p.0)
  | inr p ↦ elim (pick (word == 1048691) (Some Ebreak) _ i p.1) [
    | inl q ↦ subst (λ (j : Instr). IsWord word j) (inside q.1) (same word 1048691 q.0)
    | inr q ↦ elim (pick (funct3 word == 2 && rs1_field word == 0 && is_counter (field word 20 12)) (Some (Counter (rd_field word) (field word 20 12))) _ i q.1) [
      | inl r ↦
          let t = three (funct3 word == 2) (rs1_field word == 0) (is_counter (field word 20 12)) r.0 in
          subst (λ (j : Instr). IsWord word j) (inside r.1) (record { form = e; operation = same (funct3 word) 2 t.0; target = refl; source = same (rs1_field word) 0 t.1; register = refl; counter = counter_is (field word 20 12) t.2 })
      | inr r ↦ absurd (nothing r.1)
    ]
  ]
]

-- A word that is read as an instruction spells it.
pub spells : (word : ℕ) (i : Instr) → instruction word ≡ Some i → IsWord word i
spells word i h = elim (pick (opcode word == 55) _ _ i h) [
  | inl p0 ↦ subst (λ (j : Instr). IsWord word j) (inside p0.1) (record { form = (same (opcode word) 55 p0.0); target = refl; number = refl })
  | inr p0 ↦ elim (pick (opcode word == 23) _ _ i p0.1) [
    | inl p1 ↦ subst (λ (j : Instr). IsWord word j) (inside p1.1) (record { form = (same (opcode word) 23 p1.0); target = refl; number = refl })
    | inr p1 ↦ elim (pick (opcode word == 111) _ _ i p1.1) [
      | inl p2 ↦ subst (λ (j : Instr). IsWord word j) (inside p2.1) (record { form = (same (opcode word) 111 p2.0); target = refl; number = refl })
      | inr p2 ↦ elim (pick (opcode word == 103) _ _ i p2.1) [
        | inl p3 ↦ jalr_back word i (same (opcode word) 103 p3.0) p3.1
        | inr p3 ↦ elim (pick (opcode word == 99) _ _ i p3.1) [
          | inl p4 ↦ branch_word word i (same (opcode word) 99 p4.0) p4.1
          | inr p4 ↦ elim (pick (opcode word == 3) _ _ i p4.1) [
            | inl p5 ↦ load_word word i (same (opcode word) 3 p5.0) p5.1
            | inr p5 ↦ elim (pick (opcode word == 35) _ _ i p5.1) [
              | inl p6 ↦ store_word word i (same (opcode word) 35 p6.0) p6.1
              | inr p6 ↦ elim (pick (opcode word == 19) _ _ i p6.1) [
                | inl p7 ↦ immediate_word word i (same (opcode word) 19 p7.0) p7.1
                | inr p7 ↦ elim (pick (opcode word == 51) _ _ i p7.1) [
                  | inl p8 ↦ register_word word i (same (opcode word) 51 p8.0) p8.1
                  | inr p8 ↦ elim (pick (opcode word == 47) _ _ i p8.1) [
                    | inl p9 ↦ amo_word word i (same (opcode word) 47 p9.0) p9.1
                    | inr p9 ↦ elim (pick (opcode word == 15) _ _ i p9.1) [
                      | inl p10 ↦ fence_word word i (same (opcode word) 15 p10.0) p10.1
                      | inr p10 ↦ elim (pick (opcode word == 115) _ _ i p10.1) [
                        | inl p11 ↦ system_word word i (same (opcode word) 115 p11.0) p11.1
                        | inr p11 ↦ absurd (nothing p11.1)
                      ]
                    ]
                  ]
                ]
              ]
            ]
          ]
        ]
      ]
    ]
  ]
]

-- what a reading of the word answers
pub read_as : (word : ℕ) (answer : Option Instr) → IfSome answer (λ i. IsWord word i) → IfNone answer ((i : Instr) → IsWord word i → ⊥) → answer ≡ instruction word
read_as word (Some i) some none = sym (reads word i some)
read_as word None some none = go (instruction word) refl where
  go : (r : Option Instr) → instruction word ≡ r → None ≡ r
  go None e = refl
  go (Some i) e = absurd (none i (spells word i e))
