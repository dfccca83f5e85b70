-- The line of a step is true of an execution, of which all that is told is true.
use Rattle.std.proofs.Common.{◌≡◌, ℕ, ℤ, ◌+◌, ◌<◌, List, [], ◌∷◌, ◌++◌, length, Option, Some, None, option_map, slice_get, refl, sym, ap, ◌∙◌, subst, arith}
use Rattle.std.specs.Prelude.{codes}
use Rattle.std.specs.List.{flat_map}
use Rattle.std.proofs.lemmas.Option.{slice_get_within}
use Rattle.rept_isa.specs.declared.row.StepRow.{StepRow}
use Rattle.rept_isa.specs.Numbers.{plus}
use Rattle.rept_isa.specs.Operands.{first_read, second_read, written_by}
use Rattle.rept_findings.specs.Shown.{IsThreadPoint, Shown, number}
use Rattle.rept_findings.specs.Texts.{at}
use Rattle.rept_findings.specs.declared.place.ThreadPoint.{ThreadPoint}
use Rattle.rept_questions.specs.Texts.{access_text, around_lines, at_line, executed_text, named_row, operand_text, reads_text, row_line, second_text, writes_text}
use Rattle.rept_questions.specs.Trail.{address_by, base_of}
use Rattle.rept_app.specs.TrueSteps.{AreParts, AreStepsTrue, IsAtTrue, IsRowTrue, IsStepTrue, points_around, reads_told, second_told, writes_told}
use Rattle.rept_app.specs.TrueValues.{PointHeld}
use Rattle.rept_app.proofs.HeldPoints.{IsHeldAt}

-- a text for each of some numbers, each of which is true
parts_are : (F : ℕ → List ℕ → Type 0) (text_of : ℕ → List ℕ) → ((k : ℕ) → F k (text_of k)) → (ks : List ℕ) → AreParts F ks (flat_map text_of ks)
parts_are F text_of each [] = refl
parts_are F text_of each (k ∷ ks) = record { first = text_of k; rest = flat_map text_of ks; parts = refl; answers = each k; follows = parts_are F text_of each ks }

module _ (s : Shown) where
  seconds_are : (p : ℕ) (o : Option ℕ) → second_text s p o ≡ second_told (s.register p) o
  seconds_are p None = refl
  seconds_are p (Some r) = refl

  reads_are : (p : ℕ) (first second : Option ℕ) → reads_text s p first second ≡ reads_told (s.register p) first second
  reads_are p None second = refl
  reads_are p (Some r) second = ap (λ (t : List ℕ). codes " reads" ++ operand_text s p r ++ t) (seconds_are p second)

  writes_are : (p : ℕ) (o : Option ℕ) → writes_text s p o ≡ writes_told (s.register p) o
  writes_are p None = refl
  writes_are p (Some r) = refl

-- an address by a register that has the value that is told
placed : (value : ℕ) (known : Option ℕ) (imm : ℤ) (a : ℕ) → ((v : ℕ) → known ≡ Some v → value ≡ v) → option_map (λ v. plus v imm) known ≡ Some a → Some (plus value imm) ≡ Some a
placed value None imm a is e = let no : ⊥ = cc in absurd no
placed value (Some v) imm a is e = ap (λ (x : ℕ). Some (plus x imm)) (is v refl) ∙ e

module _ (s : Shown) (held : ThreadPoint → PointHeld) (all : (c : ThreadPoint) → IsThreadPoint s c → IsHeldAt s c (held c)) where
  pub accessed : (c : ThreadPoint) → IsThreadPoint s c → (base : Option (ℕ × ℤ)) (a : ℕ) → address_by s (number s c) base ≡ Some a → option_map (λ b. plus ((held c).register b.0) b.1) base ≡ Some a
  accessed c is None a e = let no : ⊥ = cc in absurd no
  accessed c is (Some base) a e = placed ((held c).register base.0) (s.register (number s c) base.0) base.1 a ((all c is).registers base.0) e

  number_next : (c : ThreadPoint) → number s (at c.thread (c.point + 1)) ≡ number s c + 1
  number_next c = omega arith

  -- the values that are told of a step
  pub step_true : (c : ThreadPoint) (row : StepRow) → IsThreadPoint s c → c.point < length (s.rows c.thread) → IsStepTrue held s c row (executed_text s c row)
  step_true c row is within =
      let next : IsThreadPoint s (at c.thread (c.point + 1)) = (is.0, omega (arith, within)) in
      record {
        before = s.register (number s c);
        address = address_by s (number s c) (base_of row.instr);
        after = s.register (number s c + 1);
        reads = (all c is).registers;
        accesses = λ a e. accessed c is (base_of row.instr) a e;
        writes = λ r v e. (all (at c.thread (c.point + 1)) next).registers r v (ap (λ (n : ℕ). s.register n r) (number_next c) ∙ e);
        is = ap (λ (t : List ℕ). named_row s c.point row ++ t ++ access_text s (number s c) row.instr ++ writes_text s (number s c + 1) (written_by row.instr)) (reads_are s (number s c) (first_read row.instr) (second_read row.instr))
            ∙ ap (λ (t : List ℕ). named_row s c.point row ++ reads_told (s.register (number s c)) (first_read row.instr) (second_read row.instr) ++ access_text s (number s c) row.instr ++ t) (writes_are s (number s c + 1) (written_by row.instr));
      }

  row_true : (c : ThreadPoint) (o : Option StepRow) → slice_get (s.rows c.thread) c.point ≡ o → IsThreadPoint s c → IsRowTrue held s c o (row_line s c o)
  row_true c None e is = refl
  row_true c (Some row) e is = (executed_text s c row, step_true c row is (slice_get_within (s.rows c.thread) c.point row e), refl)

  at_here : (c : ThreadPoint) → IsThreadPoint s c → IsAtTrue held s c (at_line s c)
  at_here c is = row_true c (slice_get (s.rows c.thread) c.point) refl is

  -- past its last step a thread has no more of them
  row_of_thread : (c : ThreadPoint) (o : Option StepRow) → slice_get (s.rows c.thread) c.point ≡ o → c.thread < s.threads → IsRowTrue held s c o (row_line s c o)
  row_of_thread c None e is = refl
  row_of_thread c (Some row) e is = let within = slice_get_within (s.rows c.thread) c.point row e in row_true c (Some row) e (is, omega (arith, within))

  pub at_true : (c : ThreadPoint) (text : List ℕ) → IsThreadPoint s c → text ≡ at_line s c → IsAtTrue held s c text
  at_true c text is e = subst (IsAtTrue held s c) (sym e) (at_here c is)

  arounds : (c : ThreadPoint) (count : ℕ) → IsThreadPoint s c → AreStepsTrue held s c count (around_lines s c count)
  unfolding around_lines
  arounds c count is = parts_are (λ p. IsAtTrue held s (at c.thread p)) (λ p. at_line s (at c.thread p)) (λ p. row_of_thread (at c.thread p) (slice_get (s.rows c.thread) p) refl is.0) (points_around s c count)

  pub around_true : (c : ThreadPoint) (count : ℕ) (text : List ℕ) → IsThreadPoint s c → text ≡ around_lines s c count → AreStepsTrue held s c count text
  around_true c count text is e = subst (AreStepsTrue held s c count) (sym e) (arounds c count is)
