-- The law of what ADD makes of two sets, for two words of which no row speaks: it holds of a row
-- between two states that are made for it.
use Rattle.std.proofs.Common.{◌≡◌, ℕ, ◌^◌, ◌<◌, Bool, true, false, Some, refl, sym, subst, arith, lit<}
use Rattle.std.specs.Prelude.{◌==◌, if◌then◌else◌}
use Rattle.std.proofs.lemmas.Bool.{ne_eqb}
use Rattle.rept_isa.specs.declared.instr.Instr.TheVariants.{Op}
use Rattle.rept_isa.specs.declared.instr.RegOp.TheVariants.{Add}
use Rattle.rept_isa.specs.declared.row.StepRow.{StepRow}
use Rattle.rept_isa.specs.Numbers.{beside, following}
use Rattle.rept_machine.specs.State.{State}
use Rattle.rept_known.specs.declared.both.Both.{Both}
use Rattle.rept_known.specs.Both.{both_has, both_sets}
use Rattle.rept_known.specs.BothMoves.{both_moves, both_covers}
use Rattle.rept_known.specs.Laws.BothLaws.{both_lawful}

same_number : (m n : ℕ) → Some m ≡ Some n → m ≡ n
same_number m n e = cc

before : ℕ → ℕ → ℕ → ℕ
before x y r = if r == 1 then x else if r == 2 then y else 0

after : ℕ → ℕ → ℕ → ℕ → ℕ
after x y v r = if r == 3 then v else before x y r

chosen_small : (t : Bool) (m n : ℕ) → m < 2 ^ 32 → n < 2 ^ 32 → (if t then m else n) < 2 ^ 32
chosen_small true m n s t = s
chosen_small false m n s t = t

before_small : (x y r : ℕ) → x < 2 ^ 32 → y < 2 ^ 32 → before x y r < 2 ^ 32
unfolding before
before_small x y r s t = chosen_small (r == 1) x (if r == 2 then y else 0) s (chosen_small (r == 2) y 0 t (lit< tt))

after_small : (x y v r : ℕ) → x < 2 ^ 32 → y < 2 ^ 32 → v < 2 ^ 32 → after x y v r < 2 ^ 32
unfolding after
after_small x y v r s t u = chosen_small (r == 3) v (before x y r) u (before_small x y r s t)

state_of : (ℕ → ℕ) → State
state_of register = record { register = register; memory = λ a. 0 }

row_of : StepRow
row_of = record { at = 0; instr = Op Add 3 1 2; next = following 0; call = false; short = false }

beside_small : (x y : ℕ) → beside x y < 2 ^ 32
beside_small x y = omega arith

added_has : (a b : Both) (x y : ℕ) → both_has a x ≡ true → both_has b y ≡ true → both_has (both_moves.apply (Op Add 3 1 2) 0 a b) (beside x y) ≡ true
unfolding before after state_of row_of
added_has a b x y p q =
    let s = state_of (before x y) in
    let t = state_of (after x y (beside x y)) in
    both_covers.covering row_of a b 0 s t (record {
      before = record { zero = refl; words = λ r. before_small x y r (both_lawful.words a x p) (both_lawful.words b y q); bytes = λ m. lit< tt };
      after = record { zero = refl; words = λ r. after_small x y (beside x y) r (both_lawful.words a x p) (both_lawful.words b y q) (beside_small x y); bytes = λ m. lit< tt };
      step = record {
        result = record { written = λ named. refl; lost = λ zero. refl; others = λ r ne. rw (ne_eqb r 3 ne) refl };
        memory = λ m. refl;
        onward = refl;
      };
      first = λ r e. subst (λ (n : ℕ). both_has a (before x y n) ≡ true) (same_number 1 r e) p;
      second = λ r e. subst (λ (n : ℕ). both_has b (before x y n) ≡ true) (same_number 2 r e) q;
    }) 3 refl

-- the numbers of the registers don't matter
pub sum_has : (a b : Both) (rd rs1 rs2 y : ℕ) (sum : Both) → y < 2 ^ 32 → b ≡ both_sets.exact y → sum ≡ both_moves.apply (Op Add rd rs1 rs2) 0 a b → (v : ℕ) → both_has a v ≡ true → both_has sum (beside v y) ≡ true
sum_has a b rd rs1 rs2 y sum small exact is v p =
    let one : both_has b y ≡ true = subst (λ (w : Both). both_has w y ≡ true) (sym exact) (both_lawful.exact y small) in
    subst (λ (w : Both). both_has w (beside v y) ≡ true) (sym is) (added_has a b v y p one)

-- nothing added
pub beside_nothing : (a : Both) (v by : ℕ) → by ≡ 0 → both_has a v ≡ true → both_has a (beside v by) ≡ true
beside_nothing a v by none p =
    let small = both_lawful.words a v p in
    let same : beside v by ≡ v = omega (arith, small, none) in
    subst (λ (n : ℕ). both_has a n ≡ true) (sym same) p
