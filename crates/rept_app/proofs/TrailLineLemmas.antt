-- The lines of `from` and `lost` are true of an execution, of which all that is told is true.
use Rattle.std.proofs.Common.{◌≡◌, ◌⊎◌, ℕ, ◌+◌, ◌<◌, ◌%◌, ◌^◌, ◌==◌, inl, inr, List, [], ◌∷◌, ◌++◌, Bool, true, false, cond, nat_lt, Option, Some, None, slice_get, unwrap_or, refl, sym, ap, ◌∙◌, subst, arith}
use Rattle.std.specs.Prelude.{codes, is_none, ◌&&◌}
use Rattle.std.specs.List.{All, Contains, find, flat_map, range_with_len}
use Rattle.std.specs.Option.{option_to_list}
use Rattle.std.proofs.lemmas.Bool.{and_parts, eqb-true}
use Rattle.std.proofs.lemmas.Nat.{mod_below}
use Rattle.std.proofs.lemmas.Option.{slice_get_within}
use Rattle.std.proofs.lemmas.List.Elements.{All-cons, All-contains, All-contains_itself, All-head, All-map, All-nil, All-tail, All-weaker, Contains-append_cases, Contains-append_left, Contains-append_right, Contains-push}
use Rattle.rept_isa.specs.declared.instr.Instr.{Instr}
use Rattle.rept_isa.specs.declared.row.StepRow.{StepRow}
use Rattle.rept_word.specs.Hex.{hex_word}
use Rattle.rept_steps.specs.Course.{row_of}
use Rattle.rept_order.specs.Writers.{Writer}
use Rattle.rept_order.specs.Writers.Writer.{writes}
use Rattle.rept_report.specs.declared.writer.Writer as told
use Rattle.rept_findings.specs.Shown.{IsThreadPoint, Shown, moment_at, number}
use Rattle.rept_findings.specs.Texts.{at}
use Rattle.rept_findings.specs.declared.place.ThreadPoint.{ThreadPoint}
use Rattle.rept_questions.specs.Lost.{lost_byte, lost_lines, lost_register, lost_row, lost_step, unknown_byte, unknown_operand}
use Rattle.rept_questions.specs.Texts.{IsFromByte, IsFromRegister, IsTrailText, byte_end, bytes_end, executed_text, more_line, trail_at, trail_line}
use Rattle.rept_questions.specs.Trail.{IsTraced, Lead, address_by, base_of, byte_source, byte_sources, bytes_from, bytes_read, loaded, own_step, register_source, register_sources, registers_read, row_sources, sure_step}
use Rattle.rept_app.specs.TrueSteps.{AreParts, address_in}
use Rattle.rept_app.specs.TrueTrails.{AreLinks, AreLostLinesTrue, IsByteEndTrue, IsFromByteTrue, IsFromRegisterTrue, IsLostByteTrue, IsLostRegisterTrue, IsLostRowTrue, IsLostStepTrue, IsSource, IsTrailRowTrue, IsTrailTrue, bytes_loaded}
use Rattle.rept_app.specs.TrueValues.{IsWriterLineTrue, PointHeld}
use Rattle.rept_app.proofs.HeldPoints.{IsHeldAt, bytes_are, writer_is, writer_told}
use Rattle.rept_app.proofs.StepLemmas.{accessed, step_true}

some_same : {A : Type 0} (x y : A) → Some x ≡ Some y → x ≡ y
some_same x y e = ap (λ o. unwrap_or o x) e

-- a text for each of some numbers, which is true where this holds of the number
parts_where : (P : ℕ → Type 0) (F : ℕ → List ℕ → Type 0) (text_of : ℕ → List ℕ) → ((k : ℕ) → P k → F k (text_of k)) → (ks : List ℕ) → All P ks → AreParts F ks (flat_map text_of ks)
parts_where P F text_of each [] all = refl
parts_where P F text_of each (k ∷ ks) all = record { first = text_of k; rest = flat_map text_of ks; parts = refl; answers = each k (All-head P k ks all); follows = parts_where P F text_of each ks (All-tail P k ks all) }

-- what is among the parts of a list is in one of them
in_a_part : (f : ℕ → List ℕ) (xs : List ℕ) (k : ℕ) → Contains (flat_map f xs) k → (x : ℕ) × Contains xs x × Contains (f x) k
in_a_part f [] k inside = let less = inside.1 in absurd (omega (arith, less))
in_a_part f (x ∷ xs) k inside = by_part (Contains-append_cases (f x) (flat_map f xs) k inside) (λ h. in_a_part f xs k h)
  where
    by_part : Contains (f x) k ⊎ Contains (flat_map f xs) k → (Contains (flat_map f xs) k → (y : ℕ) × Contains xs y × Contains (f y) k) → (y : ℕ) × Contains (x ∷ xs) y × Contains (f y) k
    by_part (inl h) onward = (x, Contains-append_left (x ∷ []) xs x (Contains-push [] x), h)
    by_part (inr h) onward = let later = onward h in (later.0, Contains-append_right (x ∷ []) xs later.0 later.1, later.2)

in_an_option : (o : Option ℕ) (k : ℕ) → Contains (option_to_list o) k → o ≡ Some k
in_an_option None k inside = let less = inside.1 in absurd (omega (arith, less))
in_an_option (Some x) k inside = All-contains (λ y. Some x ≡ Some y) (x ∷ []) k (All-cons (λ y. Some x ≡ Some y) x [] refl (All-nil (λ y. Some x ≡ Some y))) inside

found_in : (p : ℕ → Bool) (xs : List ℕ) (a : ℕ) → find p xs ≡ Some a → Contains xs a
found_in p [] a e = let no : ⊥ = cc in absurd no
found_in p (x ∷ xs) a e = by_test (p x) e (found_in p xs a)
  where
    by_test : (b : Bool) → cond b (Some x) (find p xs) ≡ Some a → (find p xs ≡ Some a → Contains xs a) → Contains (x ∷ xs) a
    by_test true h onward = subst (Contains (x ∷ xs)) (some_same x a h) (Contains-append_left (x ∷ []) xs x (Contains-push [] x))
    by_test false h onward = Contains-append_right (x ∷ []) xs a (onward h)

-- the bytes from an address on
bytes_small : (count : ℕ) (o : Option ℕ) → All (λ a. a < 2 ^ 32) (bytes_from count o)
bytes_small count None = All-nil (λ a. a < 2 ^ 32)
bytes_small count (Some x) = All-map (λ a. a < 2 ^ 32) (λ i. (x + i) % 2 ^ 32) (range_with_len 0 count) (λ k d inside. mod_below _ (2 ^ 32) (omega arith))

bytes_alike : (count : ℕ) (o p : Option ℕ) → ((a : ℕ) → o ≡ Some a → p ≡ Some a) → (a : ℕ) → Contains (bytes_from count o) a → Contains (bytes_from count p) a
bytes_alike count None p alike a inside = let less = inside.1 in absurd (omega (arith, less))
bytes_alike count (Some x) p alike a inside = subst (λ (q : Option ℕ). Contains (bytes_from count q) a) (sym (alike x refl)) inside

module _ (s : Shown) where
  own_is : (c step : ThreadPoint) (k : ℕ) → own_step c step ≡ Some k → writes (row_of step.thread step.point) ≡ writes (row_of c.thread k)
  own_is c step k e = by_test ((step.thread == c.thread) && nat_lt step.point c.point) refl e
    where
      by_test : (b : Bool) → ((step.thread == c.thread) && nat_lt step.point c.point) ≡ b → cond b (Some step.point) None ≡ Some k → writes (row_of step.thread step.point) ≡ writes (row_of c.thread k)
      by_test true same h =
          let thread = eqb-true step.thread c.thread (and_parts (step.thread == c.thread) (nat_lt step.point c.point) same).0 in
          ap (λ (t : ℕ). writes (row_of t step.point)) thread ∙ ap (λ (j : ℕ). writes (row_of c.thread j)) (some_same step.point k h)
      by_test false same h = let no : ⊥ = cc in absurd no

  sure_is : (c : ThreadPoint) (w : told.Writer) (k : ℕ) → sure_step s c w ≡ Some k → writer_told s w ≡ writes (row_of c.thread k)
  sure_is c (told.TheVariants.Writes i) k e = own_is c (s.point i) k e
  sure_is c (told.TheVariants.MayWrite i) k e = let no : ⊥ = cc in absurd no
  sure_is c told.TheVariants.Several k e = let no : ⊥ = cc in absurd no
  sure_is c told.TheVariants.None k e = let no : ⊥ = cc in absurd no

module _ (s : Shown) (held : ThreadPoint → PointHeld) (all : (c : ThreadPoint) → IsThreadPoint s c → IsHeldAt s c (held c)) where
  wrote : (c : ThreadPoint) (a k : ℕ) → IsThreadPoint s c → a < 2 ^ 32 → byte_source s c a ≡ Some k → (held c).last_writer a (writes (row_of c.thread k))
  wrote c a k is small e = subst (λ (w : Writer). (held c).last_writer a w) (sure_is s c (s.writer (moment_at s c) a) k e) ((all c is).writers a small)

  loads : (c : ThreadPoint) (instr : Instr) (a : ℕ) → IsThreadPoint s c → Contains (bytes_read s c instr) a → Contains (bytes_loaded (held c).register instr) a
  loads c instr a is inside = bytes_alike (loaded instr) (address_by s (number s c) (base_of instr)) (address_in (held c).register instr) (accessed s held all c is (base_of instr)) a inside

  small_of : (c : ThreadPoint) (instr : Instr) (a : ℕ) → Contains (bytes_read s c instr) a → a < 2 ^ 32
  small_of c instr a inside = All-contains (λ x. x < 2 ^ 32) (bytes_read s c instr) a (bytes_small (loaded instr) (address_by s (number s c) (base_of instr))) inside

  module _ (thread : ℕ) (some : thread < s.threads) where
    is_point : (j : ℕ) (row : StepRow) → slice_get (s.rows thread) j ≡ Some row → IsThreadPoint s (at thread j)
    is_point j row e = let within = slice_get_within (s.rows thread) j row e in (some, omega (arith, within))

    source_by : (j k : ℕ) (o : Option StepRow) → slice_get (s.rows thread) j ≡ o → Contains (row_sources s (at thread j) o) k → IsSource held s thread j k
    source_by j k None e inside = let less = inside.1 in absurd (omega (arith, less))
    source_by j k (Some row) e inside = by_part (Contains-append_cases (register_sources (s.rows thread) j (registers_read row.instr)) (byte_sources s (at thread j) (bytes_read s (at thread j) row.instr)) k inside)
      where
        by_part : Contains (register_sources (s.rows thread) j (registers_read row.instr)) k ⊎ Contains (byte_sources s (at thread j) (bytes_read s (at thread j) row.instr)) k → IsSource held s thread j k
        by_part (inl h) =
            let x = in_a_part (λ r. option_to_list (register_source (s.rows thread) j r)) (registers_read row.instr) k h in
            (row, e, inl (x.0, x.1, in_an_option (register_source (s.rows thread) j x.0) k x.2))
        by_part (inr h) =
            let x = in_a_part (λ a. option_to_list (byte_source s (at thread j) a)) (bytes_read s (at thread j) row.instr) k h in
            let is = is_point j row e in
            (row, e, inr (x.0, loads (at thread j) row.instr x.0 is x.1, wrote (at thread j) x.0 k is (small_of (at thread j) row.instr x.0 x.1) (in_an_option (byte_source s (at thread j) x.0) k x.2)))

    links_are : (first : ℕ) (js : List ℕ) (k : ℕ) → Lead s thread first js k → AreLinks held s thread first js k
    links_are first [] k lead = lead
    links_are first (j ∷ js) k lead = (source_by j k (slice_get (s.rows thread) j) refl lead.0, links_are first js j lead.1)

    byte_end_by : (j : ℕ) (instr : Instr) (o : Option ℕ) → IsThreadPoint s (at thread j) → ((a : ℕ) → o ≡ Some a → Contains (bytes_read s (at thread j) instr) a) → IsByteEndTrue held s (at thread j) instr (byte_end s (at thread j) o)
    byte_end_by j instr None is among = inl refl
    byte_end_by j instr (Some a) is among =
        let w : told.Writer = s.writer (moment_at s (at thread j)) a in
        inr (a, writer_told s w, loads (at thread j) instr a is (among a refl), (all (at thread j) is).writers a (small_of (at thread j) instr a (among a refl)), ap (λ (t : List ℕ). codes " " ++ hex_word a ++ codes " " ++ t) (writer_is s w))

    byte_end_true : (j : ℕ) (instr : Instr) → IsThreadPoint s (at thread j) → IsByteEndTrue held s (at thread j) instr (bytes_end s (at thread j) instr)
    byte_end_true j instr is =
        byte_end_by j instr (find (λ a. is_none (byte_source s (at thread j) a)) (bytes_read s (at thread j) instr)) is (found_in (λ a. is_none (byte_source s (at thread j) a)) (bytes_read s (at thread j) instr))

    trail_row : (first j : ℕ) → IsTraced s thread first j → (o : Option StepRow) → slice_get (s.rows thread) j ≡ o → IsTrailRowTrue held s thread first j o (trail_line s (at thread j) o)
    trail_row first j traced None e = refl
    trail_row first j traced (Some row) e =
        let is = is_point j row e in
        record {
          from = traced.0;
          links = links_are first traced.0 j traced.1;
          step = executed_text s (at thread j) row;
          values = step_true s held all (at thread j) row is (slice_get_within (s.rows thread) j row e);
          byte = bytes_end s (at thread j) row.instr;
          byte_end = byte_end_true j row.instr is;
          call = s.register (number s (at thread j)) 17;
          called = (all (at thread j) is).registers 17;
          is = refl;
        }

    trail_true : (first : ℕ) (text : List ℕ) → IsTrailText s thread first text → IsTrailTrue held s thread first text
    trail_true first text (rows, (more, (trail, e))) =
        let traced : All (IsTraced s thread first) rows = All-weaker (Contains rows) (IsTraced s thread first) trail.right rows (All-contains_itself rows) in
        record {
          steps = rows;
          more = more;
          lines = record {
            first = flat_map (trail_at s thread) rows;
            rest = more_line more;
            parts = e;
            answers = parts_where (IsTraced s thread first) (λ j. IsTrailRowTrue held s thread first j (slice_get (s.rows thread) j)) (trail_at s thread) (λ j way. trail_row first j way (slice_get (s.rows thread) j) refl) rows traced;
            follows = refl;
          };
        }

    lost_row_true : (side : List ℕ) (j : ℕ) (o : Option StepRow) → slice_get (s.rows thread) j ≡ o → IsLostRowTrue held s side (at thread j) o (lost_row s side (at thread j) o)
    lost_row_true side j None e = refl
    lost_row_true side j (Some row) e =
        (executed_text s (at thread j) row, unknown_operand s (number s (at thread j)) row.instr, unknown_byte s (at thread j) row.instr, step_true s held all (at thread j) row (is_point j row e) (slice_get_within (s.rows thread) j row e), refl)

    lost_step_true : (side : List ℕ) (o : Option ℕ) → IsLostStepTrue held s side thread o (lost_step s side thread o)
    lost_step_true side None = refl
    lost_step_true side (Some j) = lost_row_true side j (slice_get (s.rows thread) j) refl

    lost_lines_true : (back onward : Option ℕ) (text : List ℕ) → text ≡ lost_lines s thread back onward → AreLostLinesTrue held s thread text
    lost_lines_true back onward text e = record {
      back = back;
      onward = onward;
      lines = record {
        first = lost_step s (codes "back ") thread back;
        rest = lost_step s (codes "onward ") thread onward;
        parts = e;
        answers = lost_step_true (codes "back ") back;
        follows = lost_step_true (codes "onward ") onward;
      };
    }

  pub lost_register_true : (c : ThreadPoint) (r : ℕ) (text : List ℕ) → IsThreadPoint s c → text ≡ lost_register s c r (s.register (number s c) r) → IsLostRegisterTrue held s c r text
  lost_register_true c r text is e = by_value (s.register (number s c) r) refl e
    where
      by_value : (o : Option ℕ) → s.register (number s c) r ≡ o → text ≡ lost_register s c r o → IsLostRegisterTrue held s c r text
      by_value None known h = inr (lost_lines_true c.thread is.0 _ _ text h)
      by_value (Some v) known h = inl (Some v, λ x same. (all c is).registers r x (known ∙ same), h)

  pub lost_byte_true : (c : ThreadPoint) (a : ℕ) (text : List ℕ) → IsThreadPoint s c → text ≡ lost_byte s c a (s.byte (moment_at s c) a) → IsLostByteTrue held s c a text
  lost_byte_true c a text is e = by_value (s.byte (moment_at s c) a) e
    where
      by_value : (o : Option ℕ) → text ≡ lost_byte s c a o → IsLostByteTrue held s c a text
      by_value None h = inr (lost_lines_true c.thread is.0 _ _ text h)
      by_value (Some v) h = inl (bytes_are s c (held c) a 1 text (all c is) h)

  from_register_by : (c : ThreadPoint) (r : ℕ) (o : Option ℕ) (text : List ℕ) → IsThreadPoint s c → IsFromRegister s c r o text → IsFromRegisterTrue held s c r o text
  from_register_by c r None text is h = h
  from_register_by c r (Some step) text is h = trail_true c.thread is.0 step text h

  pub from_register_true : (c : ThreadPoint) (r : ℕ) (text : List ℕ) → IsThreadPoint s c → IsFromRegister s c r (register_source (s.rows c.thread) c.point r) text → IsFromRegisterTrue held s c r (register_source (s.rows c.thread) c.point r) text
  from_register_true c r text is h = from_register_by c r (register_source (s.rows c.thread) c.point r) text is h

  pub from_byte_true : (c : ThreadPoint) (a : ℕ) (text : List ℕ) → IsThreadPoint s c → IsFromByte s c a (byte_source s c a) text → IsFromByteTrue held s c a text
  from_byte_true c a text is h small = by_source (byte_source s c a) refl h
    where
      by_source : (o : Option ℕ) → byte_source s c a ≡ o → IsFromByte s c a o text → IsWriterLineTrue s.threads (held c) a text ⊎ ((step : ℕ) × (held c).last_writer a (writes (row_of c.thread step)) × IsTrailTrue held s c.thread step text)
      by_source None e t = inl (writer_told s (s.writer (moment_at s c) a), (all c is).writers a small, t ∙ ap (λ (ws : List ℕ). ws ++ 10 ∷ []) (writer_is s (s.writer (moment_at s c) a)))
      by_source (Some step) e t = inr (step, wrote c a step is small e, trail_true c.thread is.0 step text t)
