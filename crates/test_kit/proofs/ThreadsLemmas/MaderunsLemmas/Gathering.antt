-- The loops that gather stretches and harts.
use Rattle.std.proofs.Common.{◌≡◌, ℕ, suc, ◌+◌, ◌<◌, ◌≤◌, List, [], ◌∷◌, ◌++◌, length, take, drop, get_or, refl, sym, ◌∙◌, ap, subst, arith, append_assoc, drop-cons, take-append-drop}
use Rattle.std.proofs.lemmas.Bool.{eq-eqb, ne_eqb}
use Rattle.rept_isa.specs.declared.row.StepRow.{StepRow}
use Rattle.rept_steps.specs.declared.threads.ThreadRows.{ThreadRows}
use Rattle.test_kit.specs.declared.threads.turns.turn.Turn.{Turn}
use Rattle.test_kit.specs.Threads.Turns.Turns.{rows_in}
use Rattle.rept_encode.specs.declared.weaving.stretch.HartStretch.{HartStretch}
use Rattle.test_kit.specs.Threads.Maderuns.Harts.{steps_in, stretch_in, stretches_of, harts_of, HaveRows}
use Rattle.test_kit.proofs.ThreadsLemmas.MaderunsLemmas.Turning.{rows_append, rows_within}

-- a turn of the stream, and one of another stream
module _ (T : List ThreadRows) (s : ℕ) (before : List Turn) (h : Turn) (turns : List Turn) where
  pub stretches_own : h.stream ≡ s → stretches_of T s before (h ∷ turns) ≡ stretch_in T (rows_in h.thread before) h ∷ stretches_of T s (before ++ h ∷ []) turns
  stretches_own same = rw (eq-eqb h.stream s same) refl

  pub stretches_other : (h.stream ≡ s → ⊥) → stretches_of T s before (h ∷ turns) ≡ stretches_of T s (before ++ h ∷ []) turns
  stretches_other other = rw (ne_eqb h.stream s other) refl

-- the turns up to one, that one, and those after it
split_at : (turns : List Turn) (i : ℕ) (d : Turn) → i < length turns → take i turns ++ get_or turns i d ∷ drop (i + 1) turns ≡ turns
split_at turns i d less =
    let next : suc i ≡ i + 1 = omega arith in
    ap (λ (n : ℕ). take i turns ++ get_or turns i d ∷ drop n turns) (sym next) ∙ ap (λ (xs : List Turn). take i turns ++ xs) (sym (drop-cons turns i d less)) ∙ take-append-drop i turns

rows_fit : (T : List ThreadRows) (turns : List Turn) (i : ℕ) (d : Turn) → i < length turns → HaveRows T turns → rows_in (get_or turns i d).thread (take i turns) + (get_or turns i d).count ≤ length (steps_in T (get_or turns i d).thread)
rows_fit T turns i d less have =
    let within : rows_in (get_or turns i d).thread (take i turns) + (get_or turns i d).count ≤ rows_in (get_or turns i d).thread turns =
    subst (λ (ts : List Turn). rows_in (get_or turns i d).thread (take i turns) + (get_or turns i d).count ≤ rows_in (get_or turns i d).thread ts) (split_at turns i d less) (rows_within (take i turns) (get_or turns i d) (drop (i + 1) turns)) in
    let rows = have.rows (get_or turns i d).thread in
    omega arith

-- the rows of the turns before one, and of that one
pub few_before : (T : List ThreadRows) (turns : List Turn) (i t : ℕ) → HaveRows T turns → rows_in t (take i turns) ≤ 65536
few_before T turns i t have =
    let all : rows_in t (take i turns ++ drop i turns) ≡ rows_in t turns = ap (rows_in t) (take-append-drop i turns) in
    let parts = rows_append t (take i turns) (drop i turns) in
    let few = have.few t in
    omega arith

pub fits_after : (T : List ThreadRows) (turns : List Turn) (i first : ℕ) (d : Turn) → i < length turns → HaveRows T turns → first ≡ rows_in (get_or turns i d).thread (take i turns)
    → first + (get_or turns i d).count ≤ length (steps_in T (get_or turns i d).thread)
fits_after T turns i first d less have before = let fit = rows_fit T turns i d less have in omega arith

-- a stretch of copied steps
pub stretch_is : (T : List ThreadRows) (first : ℕ) (turn : Turn) (rows part steps : List StepRow) → rows ≡ steps_in T turn.thread → part ≡ take turn.count (drop first rows) → steps ≡ part
    → ◌≡◌ {A = HartStretch} (record { process = turn.thread + 1; begin = turn.begin; end = turn.end; steps = steps }) (stretch_in T first turn)
stretch_is T first turn rows part steps own some copied =
    let e : steps ≡ take turn.count (drop first (steps_in T turn.thread)) = copied ∙ some ∙ ap (λ (xs : List StepRow). take turn.count (drop first xs)) own in
    λ i. record { process = turn.thread + 1; begin = turn.begin; end = turn.end; steps = e i }

-- one hart more
pub harts_more : (T : List ThreadRows) (turns : List Turn) (s n : ℕ) (old new all : List (List HartStretch)) (x : List HartStretch) → ((m : ℕ) → s + m ≡ n → old ++ harts_of T turns m s ≡ all) → x ≡ stretches_of T s [] turns → new ≡ old ++ x ∷ [] → (m : ℕ) → s + 1 + m ≡ n → new ++ harts_of T turns m (s + 1) ≡ all
harts_more T turns s n old new all x before is added m sum =
    let next : s + 1 ≡ suc s = omega arith in
    ap (λ (hs : List (List HartStretch)). hs ++ harts_of T turns m (s + 1)) added
    ∙ append_assoc old (x ∷ []) (harts_of T turns m (s + 1))
    ∙ ap (λ (k : ℕ). old ++ x ∷ harts_of T turns m k) next
    ∙ ap (λ (y : List HartStretch). old ++ y ∷ harts_of T turns m (suc s)) is
    ∙ before (suc m) (omega arith)
