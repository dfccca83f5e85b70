-- The example is asked for nothing that it hasn't.
use Rattle.std.proofs.Common.{◌≡◌, List, [], ◌∷◌, false, refl, arith}
use Rattle.std.specs.List.{All, AllByRecursion}
use Rattle.std.proofs.lemmas.List.Elements.{All-from_recursion}
use Rattle.rept_isa.specs.declared.row.StepRow.{StepRow}
use Rattle.rept_path.specs.Code.{Code, look, is_short}
use Rattle.rept_path.specs.Rows.{CarriesCode, CarryCode}
use Rattle.rept_encode.specs.Encoded.{coded}
use Rattle.rept_streams.specs.Slices.Joins.{ThreadNote}
use Rattle.test_kit.specs.Threads.Woven.Told.{AreInTime}
use Rattle.test_kit.specs.Threads.Woven.Ordered.{Piece, on_hart, pieces, begins, thread_in, IsThreadJoined, IsNoted, AreApart, AreOrdered, HasStretches}
use Rattle.test_kit.specs.Threads.Woven.Worked.{code, stretch, harts, notes, nothing, jump, call}

abbrev here : Code
here = coded false code

first_carries : CarriesCode here (nothing 65536)
unfolding look is_short
first_carries = record { instr = refl; short = refl }

second_carries : CarriesCode here (nothing 65540)
unfolding look is_short
second_carries = record { instr = refl; short = refl }

last_carries : CarriesCode here (nothing 65552)
unfolding look is_short
last_carries = record { instr = refl; short = refl }

jump_carries : CarriesCode here (jump 65536)
unfolding look is_short
jump_carries = record { instr = refl; short = refl }

call_carries : CarriesCode here call
unfolding look is_short
call_carries = record { instr = refl; short = refl }

all_rows : (rows : List StepRow) → AllByRecursion (CarriesCode here) rows → CarryCode here rows
all_rows rows h = All-from_recursion (CarriesCode here) rows h

pub carries : HasStretches (coded false code) harts
carries = All-from_recursion (λ (p : Piece). CarryCode here p.stretch.steps) (pieces harts) (
  all_rows (nothing 65536 ∷ []) (first_carries, tt),
  (
    all_rows (nothing 65552 ∷ []) (last_carries, tt),
    (
      all_rows (call ∷ []) (call_carries, tt),
      (all_rows (nothing 65540 ∷ jump 65536 ∷ nothing 65536 ∷ []) (second_carries, (jump_carries, (first_carries, tt))), tt),
    ),
  ),
)

-- the four stretches
abbrev first : Piece
first = on_hart 0 (stretch 1 1 3 (nothing 65536 ∷ []))

abbrev second : Piece
second = on_hart 0 (stretch 2 5 6 (nothing 65552 ∷ []))

abbrev third : Piece
third = on_hart 1 (stretch 2 1 4 (call ∷ []))

abbrev fourth : Piece
fourth = on_hart 1 (stretch 1 5 9 (nothing 65540 ∷ jump 65536 ∷ nothing 65536 ∷ []))

apart_from : (q : Piece) → AreApart q first → AreApart q second → AreApart q third → AreApart q fourth → All (AreApart q) (pieces harts)
apart_from q a b c d = All-from_recursion (AreApart q) (pieces harts) (a, (b, (c, (d, tt))))

pub are_ordered : AreOrdered harts notes
are_ordered = record {
  in_time = All-from_recursion (AreInTime 0) harts ((omega arith, omega arith, (omega arith, omega arith, tt)), ((omega arith, omega arith, (omega arith, omega arith, tt)), tt));
  some = omega arith;
  time = 1;
  together = All-from_recursion (λ n. n ≡ 1) (begins harts) (refl, (refl, tt));
  apart = All-from_recursion (λ p. All (AreApart p) (pieces harts)) (pieces harts) (
    apart_from first (λ a b. omega (arith, a, b)) (λ a b. omega (arith, a, b)) (λ a b. omega (arith, a, b)) (λ a b. omega (arith, a, b)),
    (apart_from second (λ a b. omega (arith, a, b)) (λ a b. omega (arith, a, b)) (λ a b. omega (arith, a, b)) (λ a b. omega (arith, a, b)), (apart_from third (λ a b. omega (arith, a, b)) (λ a b. omega (arith, a, b)) (λ a b. omega (arith, a, b)) (λ a b. omega (arith, a, b)), (apart_from fourth (λ a b. omega (arith, a, b)) (λ a b. omega (arith, a, b)) (λ a b. omega (arith, a, b)) (λ a b. omega (arith, a, b)), tt))),
  );
  noted = All-from_recursion (IsNoted notes) (pieces harts) (refl, (refl, (refl, (refl, tt))));
  joined = All-from_recursion (λ (n : ThreadNote). IsThreadJoined (thread_in harts n) n.pc) notes (
    record { linked = (refl, (refl, (refl, (tt, tt)))); ends = refl; in_time = (omega arith, omega arith, (omega arith, tt, tt)) },
    (record { linked = (refl, (tt, tt)); ends = refl; in_time = (omega arith, omega arith, (omega arith, tt, tt)) }, tt),
  );
  few = omega arith;
}
