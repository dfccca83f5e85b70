-- The pieces of all harts: where one turn comes before others, its piece is put among theirs; and
-- by their begins those of a thread are its turns.
use Rattle.std.proofs.Common.{◌≡◌, ℕ, zero, suc, ◌+◌, ◌<◌, ◌≤◌, ◌==◌, cond, Bool, List, [], ◌∷◌, ◌++◌, map, All, refl, sym, ◌∙◌, ap, subst, arith, inl, inr, append_assoc}
use Rattle.std.specs.List.{filter}
use Rattle.std.proofs.lemmas.Bool.{cases_eq, eq-eqb, ne_eqb, le-leb, lt-leb}
use Rattle.std.proofs.lemmas.List.Elements.{All-nil, All-cons, All-head, All-tail, filter-append}
use Rattle.rept_steps.specs.declared.threads.ThreadRows.{ThreadRows}
use Rattle.test_kit.specs.declared.threads.turns.turn.Turn.{Turn}
use Rattle.test_kit.specs.Threads.Turns.Turns.{rows_in, AreTurnsApart, TakeTime}
use Rattle.rept_encode.specs.declared.weaving.stretch.HartStretch.{HartStretch}
use Rattle.rept_streams.specs.Slices.Order.{put, by_time}
use Rattle.rept_streams.proofs.SlicesLemmas.InTime.{Each, each_by_time}
use Rattle.test_kit.specs.Threads.Woven.Ordered.{Piece, on_hart, pieces_from, begin_of}
use Rattle.test_kit.specs.Threads.Maderuns.Harts.{stretch_in, stretches_of, harts_of}
use Rattle.test_kit.proofs.ThreadsLemmas.MaderunsLemmas.Turning.{AllAfter, after_all}
use Rattle.test_kit.proofs.ThreadsLemmas.MaderunsLemmas.Gathering.{stretches_own, stretches_other}

pub each_append : {A : Type 0} (P : A → Type 0) (xs ys : List A) → Each P xs → Each P ys → Each P (xs ++ ys)
each_append P [] ys h k = k
each_append P (x ∷ xs) ys h k = (h.0, each_append P xs ys h.1 k)

pub each_before : {A : Type 0} (P : A → Type 0) (xs ys : List A) → Each P (xs ++ ys) → Each P xs
each_before P [] ys h = tt
each_before P (x ∷ xs) ys h = (h.0, each_before P xs ys h.1)

pub each_after : {A : Type 0} (P : A → Type 0) (xs ys : List A) → Each P (xs ++ ys) → Each P ys
each_after P [] ys h = h
each_after P (x ∷ xs) ys h = each_after P xs ys h.1

pub all_of : {A : Type 0} (P : A → Type 0) (xs : List A) → Each P xs → All P xs
all_of P [] h = All-nil P
all_of P (x ∷ xs) h = All-cons P x xs h.0 (all_of P xs h.1)

-- one piece among others
pub record Inserted (x : Piece) (old new : List Piece) : Type 0 where
  pub xs : List Piece
  pub ys : List Piece
  pub is_old : old ≡ xs ++ ys
  pub is_new : new ≡ xs ++ x ∷ ys

-- the piece that begins first
put_least : (x : Piece) (ys : List Piece) → Each (λ (p : Piece). x.stretch.begin < p.stretch.begin) ys → put begin_of x ys ≡ x ∷ ys
put_least x [] h = refl
put_least x (y ∷ ys) h = let less = h.0 in rw (le-leb x.stretch.begin y.stretch.begin (omega arith)) refl

put_past : (a x : Piece) (ys : List Piece) → x.stretch.begin < a.stretch.begin → put begin_of a (x ∷ ys) ≡ x ∷ put begin_of a ys
put_past a x ys less = rw (lt-leb a.stretch.begin x.stretch.begin less) refl

sort_least : (x : Piece) (xs ys : List Piece) → Each (λ (p : Piece). x.stretch.begin < p.stretch.begin) (xs ++ ys) → by_time begin_of (xs ++ x ∷ ys) ≡ x ∷ by_time begin_of (xs ++ ys)
sort_least x [] ys h = put_least x (by_time begin_of ys) (each_by_time begin_of (λ (p : Piece). x.stretch.begin < p.stretch.begin) ys h)
sort_least x (a ∷ xs) ys h = ap (put begin_of a) (sort_least x xs ys h.1) ∙ put_past a x (by_time begin_of (xs ++ ys)) h.0

-- the pieces of a process
abbrev pub of_process : ℕ → List Piece → List Piece
of_process process ps = filter (λ (p : Piece). p.stretch.process == process) ps

kept : (process : ℕ) (P : Piece → Type 0) (ps : List Piece) → Each (λ (p : Piece). p.stretch.process ≡ process → P p) ps → Each P (of_process process ps)
kept process P [] h = tt
kept process P (p ∷ ps) h =
    elim (cases_eq p.stretch.process process) [
      | inl same ↦ rw (eq-eqb p.stretch.process process same) (h.0 same, kept process P ps h.1)
      | inr other ↦ rw (ne_eqb p.stretch.process process other) (kept process P ps h.1)
    ]

sorted_more : (process : ℕ) (x : Piece) (old new : List Piece) → Inserted x old new → x.stretch.process ≡ process → Each (λ (p : Piece). p.stretch.process ≡ process → x.stretch.begin < p.stretch.begin) old
    → by_time begin_of (of_process process new) ≡ x ∷ by_time begin_of (of_process process old)
sorted_more process x old new i own later =
    let parts : of_process process old ≡ of_process process i.xs ++ of_process process i.ys = ap (of_process process) i.is_old ∙ filter-append (λ (p : Piece). p.stretch.process == process) i.xs i.ys in
    let among : of_process process new ≡ of_process process i.xs ++ x ∷ of_process process i.ys =
    ap (of_process process) i.is_new ∙ filter-append (λ (p : Piece). p.stretch.process == process) i.xs (x ∷ i.ys)
    ∙ ap (λ (b : Bool). of_process process i.xs ++ cond b (x ∷ of_process process i.ys) (of_process process i.ys)) (eq-eqb x.stretch.process process own) in
    let each : Each (λ (p : Piece). x.stretch.begin < p.stretch.begin) (of_process process i.xs ++ of_process process i.ys) =
    subst (Each (λ (p : Piece). x.stretch.begin < p.stretch.begin)) parts (kept process (λ (p : Piece). x.stretch.begin < p.stretch.begin) old later) in
    ap (by_time begin_of) among ∙ sort_least x (of_process process i.xs) (of_process process i.ys) each ∙ ap (λ (ps : List Piece). x ∷ by_time begin_of ps) (sym parts)

same_more : (process : ℕ) (x : Piece) (old new : List Piece) → Inserted x old new → (x.stretch.process ≡ process → ⊥) → of_process process new ≡ of_process process old
same_more process x old new i other =
    ap (of_process process) i.is_new ∙ filter-append (λ (p : Piece). p.stretch.process == process) i.xs (x ∷ i.ys)
    ∙ ap (λ (b : Bool). of_process process i.xs ++ cond b (x ∷ of_process process i.ys) (of_process process i.ys)) (ne_eqb x.stretch.process process other)
    ∙ sym (filter-append (λ (p : Piece). p.stretch.process == process) i.xs i.ys) ∙ ap (of_process process) (sym i.is_old)

module _ (T : List ThreadRows) where
  abbrev pub piece_of : List Turn → Turn → Piece
  piece_of before turn = on_hart turn.stream (stretch_in T (rows_in turn.thread before) turn)

  -- the harts, with the turns after some others
  abbrev pub harts_after : List Turn → List Turn → ℕ → ℕ → List (List HartStretch)
  harts_after before turns zero s = []
  harts_after before turns (suc n) s = stretches_of T s before turns ∷ harts_after before turns n (suc s)

  pub harts_are : (turns : List Turn) (n s : ℕ) → harts_of T turns n s ≡ harts_after [] turns n s
  harts_are turns zero s = refl
  harts_are turns (suc n) s = ap (λ (hs : List (List HartStretch)). stretches_of T s [] turns ∷ hs) (harts_are turns n (suc s))

  abbrev pub all_pieces : List Turn → List Turn → ℕ → ℕ → List Piece
  all_pieces before turns n s = pieces_from s (harts_after before turns n s)

  -- harts of later streams don't have the turn
  later_harts : (n s : ℕ) (before : List Turn) (h : Turn) (turns : List Turn) → h.stream < s → harts_after before (h ∷ turns) n s ≡ harts_after (before ++ h ∷ []) turns n s
  later_harts zero s before h turns less = refl
  later_harts (suc n) s before h turns less =
      ap (λ (hart : List HartStretch). hart ∷ harts_after before (h ∷ turns) n (suc s)) (stretches_other T s before h turns (λ same. omega arith))
      ∙ ap (λ (hs : List (List HartStretch)). stretches_of T s (before ++ h ∷ []) turns ∷ hs) (later_harts n (suc s) before h turns (omega arith))

  inserted : (n s : ℕ) (before : List Turn) (h : Turn) (turns : List Turn) → s ≤ h.stream → h.stream < s + n → Inserted (piece_of before h) (all_pieces (before ++ h ∷ []) turns n s) (all_pieces before (h ∷ turns) n s)
  inserted zero s before h turns least less = absurd (omega arith)
  inserted (suc n) s before h turns least less =
      elim (cases_eq h.stream s) [
        | inl same ↦ record {
          xs = [];
          ys = all_pieces (before ++ h ∷ []) turns (suc n) s;
          is_old = refl;
          is_new =
              ap (λ (hart : List HartStretch). map (on_hart s) hart ++ pieces_from (suc s) (harts_after before (h ∷ turns) n (suc s))) (stretches_own T s before h turns same)
              ∙ ap (λ (hs : List (List HartStretch)). on_hart s (stretch_in T (rows_in h.thread before) h) ∷ (map (on_hart s) (stretches_of T s (before ++ h ∷ []) turns) ++ pieces_from (suc s) hs)) (later_harts n (suc s) before h turns (omega arith))
              ∙ ap (λ (k : ℕ). on_hart k (stretch_in T (rows_in h.thread before) h) ∷ all_pieces (before ++ h ∷ []) turns (suc n) s) (sym same);
        }
        | inr other ↦
            let rest = inserted n (suc s) before h turns (omega arith) (omega arith) in
            record {
              xs = map (on_hart s) (stretches_of T s (before ++ h ∷ []) turns) ++ rest.xs;
              ys = rest.ys;
              is_old = ap (λ (ps : List Piece). map (on_hart s) (stretches_of T s (before ++ h ∷ []) turns) ++ ps) rest.is_old ∙ sym (append_assoc (map (on_hart s) (stretches_of T s (before ++ h ∷ []) turns)) rest.xs rest.ys);
              is_new =
                  ap (λ (hart : List HartStretch). map (on_hart s) hart ++ pieces_from (suc s) (harts_after before (h ∷ turns) n (suc s))) (stretches_other T s before h turns other)
                  ∙ ap (λ (ps : List Piece). map (on_hart s) (stretches_of T s (before ++ h ∷ []) turns) ++ ps) rest.is_new
                  ∙ sym (append_assoc (map (on_hart s) (stretches_of T s (before ++ h ∷ []) turns)) rest.xs (piece_of before h ∷ rest.ys));
            }
      ]

  -- each piece is that of a turn
  module _ (P : List Turn → Turn → Type 0) (Q : Piece → Type 0) (w : (before : List Turn) (turn : Turn) → P before turn → Q (piece_of before turn)) where
    each_hart : (s : ℕ) (before turns : List Turn) → AllAfter P before turns → Each Q (map (on_hart s) (stretches_of T s before turns))
    each_hart s before [] all = tt
    each_hart s before (h ∷ turns) all =
        elim (cases_eq h.stream s) [
          | inl same ↦ subst (λ (hart : List HartStretch). Each Q (map (on_hart s) hart)) (sym (stretches_own T s before h turns same))
              (subst (λ (k : ℕ). Q (on_hart k (stretch_in T (rows_in h.thread before) h))) same (w before h all.0), each_hart s (before ++ h ∷ []) turns all.1)
          | inr other ↦ subst (λ (hart : List HartStretch). Each Q (map (on_hart s) hart)) (sym (stretches_other T s before h turns other)) (each_hart s (before ++ h ∷ []) turns all.1)
        ]

    pub each_piece : (n s : ℕ) (before turns : List Turn) → AllAfter P before turns → Each Q (all_pieces before turns n s)
    each_piece zero s before turns all = tt
    each_piece (suc n) s before turns all = each_append Q (map (on_hart s) (stretches_of T s before turns)) (pieces_from (suc s) (harts_after before turns n (suc s))) (each_hart s before turns all) (each_piece n (suc s) before turns all)

  -- those of a thread in their order
  abbrev pub own_pieces : ℕ → List Turn → List Turn → List Piece
  own_pieces t before [] = []
  own_pieces t before (turn ∷ turns) = cond (turn.thread == t) (piece_of before turn ∷ own_pieces t (before ++ turn ∷ []) turns) (own_pieces t (before ++ turn ∷ []) turns)

  pub own_more : (t : ℕ) (before : List Turn) (h : Turn) (turns : List Turn) → h.thread ≡ t → own_pieces t before (h ∷ turns) ≡ piece_of before h ∷ own_pieces t (before ++ h ∷ []) turns
  own_more t before h turns same = rw (eq-eqb h.thread t same) refl

  pub own_less : (t : ℕ) (before : List Turn) (h : Turn) (turns : List Turn) → (h.thread ≡ t → ⊥) → own_pieces t before (h ∷ turns) ≡ own_pieces t (before ++ h ∷ []) turns
  own_less t before h turns other = rw (ne_eqb h.thread t other) refl

  no_pieces : (n s : ℕ) (before : List Turn) → all_pieces before [] n s ≡ []
  no_pieces zero s before = refl
  no_pieces (suc n) s before = no_pieces n (suc s) before

  later_begin : (n : ℕ) (before : List Turn) (h : Turn) (turns : List Turn) → AreTurnsApart (h ∷ turns) → TakeTime (h ∷ turns) → Each (λ (p : Piece). p.stretch.process ≡ h.thread + 1 → h.begin < p.stretch.begin) (all_pieces (before ++ h ∷ []) turns n 0)
  later_begin n before h turns apart long =
      let time = All-head (λ (turn : Turn). turn.begin < turn.end) h turns long in
      each_piece (λ b turn. turn.thread ≡ h.thread → h.end ≤ turn.begin) (λ (p : Piece). p.stretch.process ≡ h.thread + 1 → h.begin < p.stretch.begin)
      (λ b turn late same. let begin = late (omega arith) in omega arith) n 0 (before ++ h ∷ []) turns (after_all (λ (turn : Turn). turn.thread ≡ h.thread → h.end ≤ turn.begin) (before ++ h ∷ []) turns apart.0)

  pub sorted : (t n : ℕ) (before turns : List Turn) → All (λ turn. turn.stream < n) turns → AreTurnsApart turns → TakeTime turns → by_time begin_of (of_process (t + 1) (all_pieces before turns n 0)) ≡ own_pieces t before turns
  sorted t n before [] streams apart long = ap (λ (ps : List Piece). by_time begin_of (of_process (t + 1) ps)) (no_pieces n 0 before)
  sorted t n before (h ∷ turns) streams apart long =
      let stream = All-head (λ (turn : Turn). turn.stream < n) h turns streams in
      let i = inserted n 0 before h turns (omega arith) (omega arith) in
      let rest = sorted t n (before ++ h ∷ []) turns (All-tail (λ (turn : Turn). turn.stream < n) h turns streams) apart.1 (All-tail (λ (turn : Turn). turn.begin < turn.end) h turns long) in
      elim (cases_eq h.thread t) [
        | inl same ↦
            let later = subst (λ (u : ℕ). Each (λ (p : Piece). p.stretch.process ≡ u + 1 → h.begin < p.stretch.begin) (all_pieces (before ++ h ∷ []) turns n 0)) same (later_begin n before h turns apart long) in
            sorted_more (t + 1) (piece_of before h) (all_pieces (before ++ h ∷ []) turns n 0) (all_pieces before (h ∷ turns) n 0) i (omega arith) later
            ∙ ap (λ (ps : List Piece). piece_of before h ∷ ps) rest ∙ sym (own_more t before h turns same)
        | inr other ↦
            ap (by_time begin_of) (same_more (t + 1) (piece_of before h) (all_pieces (before ++ h ∷ []) turns n 0) (all_pieces before (h ∷ turns) n 0) i (λ same. other (omega arith)))
            ∙ rest ∙ sym (own_less t before h turns other)
      ]
