-- A register at a point is the value of its node, in each execution.
use Rattle.std.proofs.Common.{◌≡◌, ℕ, zero, suc, ◌+◌, ◌-◌, ◌^◌, ◌<◌, ◌≤◌, nat_lt, true, false, List, [], ◌∷◌, ◌++◌, length, get_or, Option, Some, None, slice_get, ◌⊎◌, inl, inr, refl, sym, ap, subst, ◌∙◌, lit<, add-one, arith}
use Rattle.std.specs.Prelude.{if◌then◌else◌}
use Rattle.std.proofs.lemmas.Bool.{cases_Bool, cases_lt, eqb-true, eq-eqb, false≢true}
use Rattle.std.proofs.lemmas.List.{length_push}
use Rattle.std.proofs.lemmas.Option.{slice_get_within, slice_get-get_or}
use Rattle.rept_isa.specs.declared.row.StepRow.{StepRow}
use Rattle.rept_isa.specs.Operands.{written_by}
use Rattle.rept_machine.specs.State.{State, IsState}
use Rattle.rept_machine.proofs.StepLaws.{step-keeps}
use Rattle.rept_relate.specs.declared.numbering.OperandNodes.{OperandNodes}
use Rattle.rept_relate.specs.Numbering.{register_of, is_number, node_at, value_after, value_in, IsWalk, IsNumbered, AreNumbered}

pub same_some : {W : Type 0} {x y : W} → Some x ≡ Some y → x ≡ y
same_some e = cc

lt_true : (a b : ℕ) → a < b → nat_lt a b ≡ true
lt_true a b h = grind (arith, h)

le_false : (a b : ℕ) → b ≤ a → nat_lt a b ≡ false
le_false a b h = grind (arith, h)

number_is : (o : Option ℕ) (r : ℕ) → is_number o r ≡ true → o ≡ Some r
number_is (Some s) r e = ap Some (eqb-true s r e)
number_is None r e = absurd (false≢true e)

is_own : (r : ℕ) → is_number (Some r) r ≡ true
is_own r = eq-eqb r r refl

pub row_at : (rows : List StepRow) (i : ℕ) → i < length rows → (row : StepRow) × (slice_get rows i ≡ Some row)
row_at [] i less = absurd (omega arith)
row_at (row ∷ rows) zero less = (row, refl)
row_at (row ∷ rows) (suc i) less = row_at rows i (omega arith)

after_small : (o : Option ℕ) (t : State) → IsState t → value_after o t < 2 ^ 32
after_small (Some r) t is = is.words r
after_small None t is = lit< tt

pub node_next : (rows : List StepRow) (i r : ℕ) → node_at rows (i + 1) r ≡ (if is_number (register_of (slice_get rows i)) r then 32 + i else node_at rows i r)
node_next rows i r = rw add-one refl

-- ---- values in an execution
module _ (rows : List StepRow) (run : ℕ → State) where
  result_value : (i : ℕ) → value_in rows run (32 + i) ≡ value_after (register_of (slice_get rows i)) (run (i + 1))
  result_value i =
      let back : 32 + i - 32 ≡ i = omega arith in
      rw (le_false (32 + i) 32 (omega arith), back) refl

  pub value_of_row : (i r : ℕ) (row : StepRow) → slice_get rows i ≡ Some row → written_by row.instr ≡ Some r → value_in rows run (32 + i) ≡ (run (i + 1)).register r
  value_of_row i r row at w = result_value i ∙ ap (λ (o : Option ℕ). value_after o (run (i + 1))) (ap register_of at ∙ w)

  pub value_first : (r : ℕ) → r < 32 → value_in rows run r ≡ (run 0).register r
  value_first r less = rw (lt_true r 32 less) refl

-- a row that writes nothing has a word, too
pub value_of_none : (rows : List StepRow) (run : ℕ → State) (i : ℕ) (row : StepRow) → slice_get rows i ≡ Some row → written_by row.instr ≡ None → value_in rows run (32 + i) ≡ 0
value_of_none rows run i row at w = result_value rows run i ∙ ap (λ (o : Option ℕ). value_after o (run (i + 1))) (ap register_of at ∙ w)

module _ (image_end : ℕ) (rows : List StepRow) (run : ℕ → State) (walk : IsWalk image_end rows run) where
  pub value_zero : value_in rows run 0 ≡ 0
  value_zero = value_first rows run 0 (lit< tt) ∙ (walk.states 0 (omega arith)).zero

  pub value_small : (x : ℕ) → x < 32 + length rows → value_in rows run x < 2 ^ 32
  value_small x less = elim (cases_lt x 32) [
    | inl lt ↦ let small = (walk.states 0 (omega arith)).words x in subst (λ (n : ℕ). n < 2 ^ 32) (sym (value_first rows run x lt)) small
    | inr le ↦ rw (le_false x 32 le) (after_small (register_of (slice_get rows (x - 32))) (run (x - 32 + 1)) (walk.states (x - 32 + 1) (omega (arith, le, less))))
  ]

  kept : (i r : ℕ) (row : StepRow) → slice_get rows i ≡ Some row → is_number (register_of (slice_get rows i)) r ≡ false → (run (i + 1)).register r ≡ (run i).register r
  kept i r row at miss = step-keeps image_end row (run i) (run (i + 1)) (walk.steps i row at) r (λ w. false≢true (sym miss ∙ (ap (λ (o : Option ℕ). is_number o r) (ap register_of at ∙ w) ∙ is_own r)))

  pub value_of_node : (i r : ℕ) → i ≤ length rows → r < 32 → value_in rows run (node_at rows i r) ≡ (run i).register r
  value_of_node zero r le less = value_first rows run r less
  value_of_node (suc i) r le less =
      let next : i + 1 ≡ suc i = omega arith in
      elim (cases_Bool (is_number (register_of (slice_get rows i)) r)) [
        | inl hit ↦
            let named = number_is (register_of (slice_get rows i)) r hit in
            let value : value_in rows run (32 + i) ≡ (run (i + 1)).register r = result_value rows run i ∙ ap (λ (o : Option ℕ). value_after o (run (i + 1))) named in
            rw hit (value ∙ ap (λ (n : ℕ). (run n).register r) next)
        | inr miss ↦
            let found = row_at rows i (omega (arith, le)) in
            rw miss (value_of_node i r (omega (arith, le)) less ∙ sym (kept i r found.0 found.1 miss) ∙ ap (λ (n : ℕ). (run n).register r) next)
      ]

-- ---- lists that grow
get_end : {W : Type 0} (xs : List W) (x : W) → slice_get (xs ++ x ∷ []) (length xs) ≡ Some x
get_end [] x = refl
get_end (y ∷ xs) x = get_end xs x

get_before : {W : Type 0} (xs : List W) (x : W) (k : ℕ) → k < length xs → slice_get (xs ++ x ∷ []) k ≡ slice_get xs k
get_before [] x k less = absurd (omega arith)
get_before (y ∷ xs) x zero less = refl
get_before (y ∷ xs) x (suc k) less = get_before xs x k (omega arith)

-- an element of a list with one more is one of those before, or that one
pub pushed_cases : {W : Type 0} (old new : List W) (x y : W) (k : ℕ) → new ≡ old ++ x ∷ [] → slice_get new k ≡ Some y → (slice_get old k ≡ Some y) ⊎ ((k ≡ length old) × (x ≡ y))
pushed_cases {W} old new x y k pushed is =
    let at : slice_get (old ++ x ∷ []) k ≡ Some y = subst (λ (xs : List W). slice_get xs k ≡ Some y) pushed is in
    elim (cases_lt k (length old)) [
      | inl lt ↦ inl (sym (get_before old x k lt) ∙ at)
      | inr le ↦
          let within = slice_get_within (old ++ x ∷ []) k y at in
          let more = length_push old x in
          let here : k ≡ length old = omega (arith, within, more, le) in
          inr (here, same_some (sym (get_end old x) ∙ (ap (λ (j : ℕ). slice_get (old ++ x ∷ []) j) (sym here) ∙ at)))
    ]

pub length_more : {W : Type 0} (old new : List W) (x : W) (n : ℕ) → length old ≡ n → new ≡ old ++ x ∷ [] → length new ≡ n + 1
length_more old new x n long pushed = ap length pushed ∙ length_push old x ∙ ap (λ (k : ℕ). k + 1) long

pub places_more : (old new : List ℕ) (n : ℕ) → length old ≡ n → ((k : ℕ) → k < n → slice_get old k ≡ Some k) → new ≡ old ++ n ∷ [] → (k : ℕ) → k < n + 1 → slice_get new k ≡ Some k
places_more old new n long places pushed k less = ap (λ (xs : List ℕ). slice_get xs k) pushed ∙ elim (cases_lt k n) [
  | inl lt ↦ get_before old n k (omega (arith, lt, long)) ∙ places k lt
  | inr le ↦
      let here : k ≡ length old = omega (arith, le, less, long) in
      ap (λ (j : ℕ). slice_get (old ++ n ∷ []) j) here ∙ get_end old n ∙ ap Some (sym long ∙ sym here)
]

-- ---- the numbering goes on
pub node_written : (rows : List StepRow) (i r node x : ℕ) (row : StepRow) → slice_get rows i ≡ Some row → node ≡ 32 + i → x ≡ node_at rows i r → (if is_number (written_by row.instr) r then node else x) ≡ node_at rows (i + 1) r
node_written rows i r node x row at e f =
    let same : register_of (slice_get rows i) ≡ written_by row.instr = ap register_of at in
    let next = node_next rows i r in
    sym (next ∙ rw (same, e, f) refl)

pub numbered_more : (rows : List StepRow) (old new : List OperandNodes) (i : ℕ) (row : StepRow) (nodes : OperandNodes) → length old ≡ i → AreNumbered rows old → slice_get rows i ≡ Some row → IsNumbered rows i row nodes → new ≡ old ++ nodes ∷ [] → AreNumbered rows new
numbered_more rows old new i row nodes long numbered at is pushed k other found its here = elim (pushed_cases old new nodes found k pushed here) [
  | inl before ↦ numbered k other found its before
  | inr (last, same) ↦
      let place : k ≡ i = last ∙ long in
      let equal : row ≡ other = same_some (sym at ∙ (ap (λ (j : ℕ). slice_get rows j) (sym place) ∙ its)) in
      subst (λ (n : OperandNodes). IsNumbered rows k other n) same (subst (λ (o : StepRow). IsNumbered rows k o nodes) equal (subst (λ (j : ℕ). IsNumbered rows j row nodes) (sym place) is))
]

-- ---- a row that was read
pub at_row : (rows : List StepRow) (i : ℕ) (row : StepRow) → i < length rows → row ≡ get_or rows i row → slice_get rows i ≡ Some row
at_row rows i row less is = slice_get-get_or rows i row less ∙ ap Some (sym is)
