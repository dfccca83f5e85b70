-- The law of what a row makes of its operands, for two values of which no row speaks: it holds of a row between two states that are made for it.
use Rattle.std.proofs.Common.{◌≡◌, ◌≢◌, ℕ, ◌^◌, ◌<◌, Bool, true, false, Some, refl, sym, subst, lit<}
use Rattle.std.specs.Prelude.{◌==◌, if◌then◌else◌}
use Rattle.std.proofs.lemmas.Bool.{ne_eqb}
use Rattle.rept_isa.specs.declared.instr.Instr.{Instr}
use Rattle.rept_isa.specs.declared.instr.Instr.TheVariants.{Op}
use Rattle.rept_isa.specs.declared.instr.RegOp.{RegOp}
use Rattle.rept_isa.specs.declared.row.StepRow.{StepRow}
use Rattle.rept_isa.specs.Numbers.{following}
use Rattle.rept_machine.specs.State.{State}
use Rattle.rept_machine.specs.Arithmetic.{computed}
use Rattle.rept_known.specs.declared.both.Both.{Both}
use Rattle.rept_known.specs.Both.{both_has}
use Rattle.rept_known.specs.BothMoves.{both_moves, both_covers}
use Rattle.rept_known.specs.Laws.BothLaws.{both_lawful}

same_number : (m n : ℕ) → Some m ≡ Some n → m ≡ n
same_number m n e = cc

-- ---- two states and a row between them
before : ℕ → ℕ → ℕ → ℕ
before x y r = if r == 1 then x else if r == 2 then y else 0

after : ℕ → ℕ → ℕ → ℕ → ℕ
after x y v r = if r == 3 then v else before x y r

chosen_small : (t : Bool) (m n : ℕ) → m < 2 ^ 32 → n < 2 ^ 32 → (if t then m else n) < 2 ^ 32
chosen_small true m n s t = s
chosen_small false m n s t = t

before_small : (x y r : ℕ) → x < 2 ^ 32 → y < 2 ^ 32 → before x y r < 2 ^ 32
unfolding before
before_small x y r s t = chosen_small (r == 1) x (if r == 2 then y else 0) s (chosen_small (r == 2) y 0 t (lit< tt))

after_small : (x y v r : ℕ) → x < 2 ^ 32 → y < 2 ^ 32 → v < 2 ^ 32 → after x y v r < 2 ^ 32
unfolding after
after_small x y v r s t u = chosen_small (r == 3) v (before x y r) u (before_small x y r s t)

state_of : (ℕ → ℕ) → State
state_of register = record { register = register; memory = λ a. 0 }

row_of : RegOp → StepRow
row_of op = record { at = 0; instr = Op op 3 1 2; next = following 0; call = false; short = false }

pub combined_has : (op : RegOp) (a b : Both) (x y : ℕ) → both_has a x ≡ true → both_has b y ≡ true → computed op x y < 2 ^ 32 → both_has (both_moves.apply (Op op 3 1 2) 0 a b) (computed op x y) ≡ true
unfolding before after state_of row_of
combined_has op a b x y p q small =
    let s = state_of (before x y) in
    let t = state_of (after x y (computed op x y)) in
    both_covers.covering (row_of op) a b 0 s t (record {
      before = record { zero = refl; words = λ r. before_small x y r (both_lawful.words a x p) (both_lawful.words b y q); bytes = λ m. lit< tt };
      after = record { zero = refl; words = λ r. after_small x y (computed op x y) r (both_lawful.words a x p) (both_lawful.words b y q) small; bytes = λ m. lit< tt };
      step = record {
        result = record { written = λ named. refl; lost = λ zero. refl; others = λ r ne. rw (ne_eqb r 3 ne) refl };
        memory = λ m. refl;
        onward = refl;
      };
      first = λ r e. subst (λ (n : ℕ). both_has a (before x y n) ≡ true) (same_number 1 r e) p;
      second = λ r e. subst (λ (n : ℕ). both_has b (before x y n) ≡ true) (same_number 2 r e) q;
    }) 3 refl

-- the numbers of the registers don't matter
pub combined_as : (op : RegOp) (a b : Both) (rd rs1 rs2 : ℕ) (result : Both) → result ≡ both_moves.apply (Op op rd rs1 rs2) 0 a b → (x y : ℕ) → both_has a x ≡ true → both_has b y ≡ true → computed op x y < 2 ^ 32 → both_has result (computed op x y) ≡ true
combined_as op a b rd rs1 rs2 result is x y p q small = subst (λ (w : Both). both_has w (computed op x y) ≡ true) (sym is) (combined_has op a b x y p q small)
