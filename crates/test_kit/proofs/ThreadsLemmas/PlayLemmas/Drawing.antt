-- What is drawn can be played.
use Rattle.std.proofs.Common.{◌≡◌, ℕ, zero, suc, ◌+◌, ◌-◌, ◌*◌, ◌/◌, ◌%◌, ◌<◌, ◌≤◌, ◌==◌, cond, Bool, true, false, List, [], ◌∷◌, ◌++◌, length, get_or, All, Option, Some, None, ◌⊎◌, refl, sym, ap, ◌∙◌, subst, arith, inl, inr, mod-lt, append-nil, ◌^◌}
use Rattle.std.proofs.lemmas.Bool.{false≢true, cases_eq, cases_lt, eq-eqb, ne_eqb, le-leb, lt-leb, le-ltb, lt-ltb}
use Rattle.std.proofs.lemmas.List.Elements.{All-nil, All-cons, All-head, All-tail, All-push}
use Rattle.rept_isa.specs.declared.instr.Instr.{Instr}
use Rattle.rept_isa.specs.Operands.{is_call}
use Rattle.rept_steps.specs.declared.slice.Slice.{Slice}
use Rattle.test_kit.specs.declared.threads.turns.turn.Turn.{Turn}
use Rattle.test_kit.specs.Threads.Turns.Turns.{all_rows, rows_in, slice_by, slices_from, AreSome, AreInOrder, AreTurnsApart, AreApartByStream, TakeTime, first_on, BeginTogether}
use Rattle.test_kit.proofs.ThreadsLemmas.TurnsLemmas.Places.{rows_own, rows_other, same_turn, none_turn}
use Rattle.test_kit.proofs.ThreadsLemmas.TurnsLemmas.Slices.{slices_own, slices_other}
use Rattle.test_kit.specs.declared.threads.play.draw.Slot.{Slot}
use Rattle.test_kit.specs.declared.threads.play.score.Sizes.{Sizes}
use Rattle.test_kit.specs.Threads.Play.Code.{drawn_in, instr_in, IsPlayCode, CallsLast, IsPlayable}
use Rattle.test_kit.specs.Threads.Play.Drawn.{draw, slot_of, instr_of, made_instr, thread_end, stream_end, last_end, last_begin, to_call, drawn_thread, drawn_stream, drawn_early, drawn_begin, next_turn, drawn_turns}
use Rattle.test_kit.proofs.ThreadsLemmas.PlayLemmas.Finishing.{jump_in, other_in}

pub draw_below : (seed number below : ℕ) → 0 < below → draw seed number below < below
unfolding draw
draw_below seed number below some = mod-lt (((seed + number * 2654435761) * 1664525 + 1013904223) % 2 ^ 32 / 65536) some

get_end : {X : Type 0} (xs : List X) (x d : X) → get_or (xs ++ x ∷ []) (length xs) d ≡ x
get_end [] x d = refl
get_end (y ∷ xs) x d = get_end xs x d

get_early : {X : Type 0} (xs ys : List X) (k : ℕ) (d : X) → k < length xs → get_or (xs ++ ys) k d ≡ get_or xs k d
get_early [] ys k d less = absurd (omega arith)
get_early (x ∷ xs) ys zero d less = refl
get_early (x ∷ xs) ys (suc k) d less = get_early xs ys k d (omega arith)

-- what holds of each element by its number holds of one more
pub all_more : {X : Type 0} (P : ℕ → X → Type 0) (old new : List X) (k : ℕ) (x d : X) → new ≡ old ++ x ∷ [] → length old ≡ k → ((j : ℕ) → j < k → P j (get_or old j d)) → P k x → (j : ℕ) → j < k + 1 → P j (get_or new j d)
all_more P old new k x d is size before own j less =
    elim (cases_eq j k) [
      | inl same ↦
          let here : get_or new j d ≡ x = ap (λ xs. get_or xs j d) is ∙ ap (λ (i : ℕ). get_or (old ++ x ∷ []) i d) (same ∙ sym size) ∙ get_end old x d in
          subst (P j) (sym here) (subst (λ (i : ℕ). P i x) (sym same) own)
      | inr other ↦
          let here : get_or new j d ≡ get_or old j d = ap (λ xs. get_or xs j d) is ∙ get_early old (x ∷ []) j d (omega arith) in
          subst (P j) (sym here) (before j (omega arith))
    ]

-- one turn more
pub rows_more : (turns : List Turn) (b : Turn) → all_rows (turns ++ b ∷ []) ≡ all_rows turns + b.count
rows_more [] b = omega arith
rows_more (h ∷ turns) b = let rest = rows_more turns b in omega arith

order_more : (turns : List Turn) (b : Turn) → AreInOrder turns → b.begin ≤ b.end → last_begin turns ≤ b.end → AreInOrder (turns ++ b ∷ [])
order_more [] b order own late = (own, All-nil (λ (later : Turn). b.begin ≤ later.end), tt)
order_more (h ∷ turns) b order own late =
    (order.0, All-push (λ (later : Turn). h.begin ≤ later.end) turns b order.1 (omega arith), order_more turns b order.2 own (omega arith))

end_later : (t : ℕ) (h : Turn) (turns : List Turn) → h.thread ≡ t → h.end ≤ thread_end t (h ∷ turns)
end_later t h turns same = rw (eq-eqb h.thread t same) (omega arith)

end_rest : (t : ℕ) (h : Turn) (turns : List Turn) → thread_end t turns ≤ thread_end t (h ∷ turns)
end_rest t h turns = omega arith

apart_more : (turns : List Turn) (b : Turn) → AreTurnsApart turns → thread_end b.thread turns ≤ b.begin → AreTurnsApart (turns ++ b ∷ [])
apart_more [] b apart early = (All-nil (λ (later : Turn). later.thread ≡ b.thread → b.end ≤ later.begin), tt)
apart_more (h ∷ turns) b apart early =
    let rest = end_rest b.thread h turns in
    (All-push (λ (later : Turn). later.thread ≡ h.thread → h.end ≤ later.begin) turns b apart.0 (λ same. let own = end_later b.thread h turns (sym same) in omega arith), apart_more turns b apart.1 (omega arith))

stream_later : (s : ℕ) (h : Turn) (turns : List Turn) → h.stream ≡ s → h.end ≤ stream_end s (h ∷ turns)
stream_later s h turns same = rw (eq-eqb h.stream s same) (omega arith)

stream_rest : (s : ℕ) (h : Turn) (turns : List Turn) → stream_end s turns ≤ stream_end s (h ∷ turns)
stream_rest s h turns = omega arith

streams_more : (turns : List Turn) (b : Turn) → AreApartByStream turns → stream_end b.stream turns ≤ b.begin → AreApartByStream (turns ++ b ∷ [])
streams_more [] b apart early = (All-nil (λ (later : Turn). later.stream ≡ b.stream → b.end ≤ later.begin), tt)
streams_more (h ∷ turns) b apart early =
    let rest = stream_rest b.stream h turns in
    (All-push (λ (later : Turn). later.stream ≡ h.stream → h.end ≤ later.begin) turns b apart.0 (λ same. let own = stream_later b.stream h turns (sym same) in omega arith), streams_more turns b apart.1 (omega arith))

-- the first turn of a stream
on_own : (s : ℕ) (h : Turn) (turns : List Turn) → h.stream ≡ s → first_on s (h ∷ turns) ≡ Some h
on_own s h turns same = rw (eq-eqb h.stream s same) refl

on_other : (s : ℕ) (h : Turn) (turns : List Turn) → (h.stream ≡ s → ⊥) → first_on s (h ∷ turns) ≡ first_on s turns
on_other s h turns other = rw (ne_eqb h.stream s other) refl

first_push : (s : ℕ) (turns : List Turn) (b turn : Turn) → first_on s (turns ++ b ∷ []) ≡ Some turn → (first_on s turns ≡ Some turn) ⊎ ((first_on s turns ≡ None) × (b.stream ≡ s) × (b ≡ turn))
first_push s [] b turn found =
    elim (cases_eq b.stream s) [
      | inl same ↦ inr (refl, same, same_turn (sym (on_own s b [] same) ∙ found))
      | inr other ↦ absurd (none_turn (sym (on_other s b [] other) ∙ found))
    ]
first_push s (h ∷ turns) b turn found =
    elim (cases_eq h.stream s) [
      | inl same ↦ inl (on_own s h turns same ∙ sym (on_own s h (turns ++ b ∷ []) same) ∙ found)
      | inr other ↦ elim (first_push s turns b turn (sym (on_other s h (turns ++ b ∷ []) other) ∙ found)) [
        | inl early ↦ inl (on_other s h turns other ∙ early)
        | inr last ↦ inr (on_other s h turns other ∙ last.0, last.1, last.2)
      ]
    ]

none_push : (s : ℕ) (turns : List Turn) (b : Turn) → first_on s (turns ++ b ∷ []) ≡ None → (first_on s turns ≡ None) × (b.stream ≡ s → ⊥)
none_push s [] b none =
    elim (cases_eq b.stream s) [
      | inl same ↦ absurd (none_turn (sym none ∙ on_own s b [] same))
      | inr other ↦ (refl, other)
    ]
none_push s (h ∷ turns) b none =
    elim (cases_eq h.stream s) [
      | inl same ↦ absurd (none_turn (sym none ∙ on_own s h (turns ++ b ∷ []) same))
      | inr other ↦ let rest = none_push s turns b (sym (on_other s h (turns ++ b ∷ []) other) ∙ none) in (on_other s h turns other ∙ rest.0, rest.1)
    ]

together_more : (turns : List Turn) (b : Turn) → BeginTogether turns → (first_on b.stream turns ≡ None → b.begin ≡ 0) → BeginTogether (turns ++ b ∷ [])
together_more turns b together own = λ s turn found.
    elim (first_push s turns b turn found) [
      | inl early ↦ together s turn early
      | inr last ↦ ap (λ (x : Turn). x.begin) (sym last.2) ∙ own (ap (λ (k : ℕ). first_on k turns) last.1 ∙ last.0)
    ]

-- so far all turns are of threads and streams below this number
abbrev Below : ℕ → Turn → Type 0
Below n turn = (turn.thread < n) × (turn.stream < n)

below_more : (n : ℕ) (turns : List Turn) → All (Below n) turns → All (Below (suc n)) turns
below_more n [] all = All-nil (Below (suc n))
below_more n (h ∷ turns) all =
    let head = All-head (Below n) h turns all in
    let one = head.0 in
    let two = head.1 in
    All-cons (Below (suc n)) h turns (omega arith, omega arith) (below_more n turns (All-tail (Below n) h turns all))

thread_none : (n : ℕ) (turns : List Turn) → All (Below n) turns → thread_end n turns ≡ 0
thread_none n [] all = refl
thread_none n (h ∷ turns) all =
    let head = (All-head (Below n) h turns all).0 in
    let rest = thread_none n turns (All-tail (Below n) h turns all) in
    rw (ne_eqb h.thread n (λ same. omega arith)) (omega arith)

stream_none : (n : ℕ) (turns : List Turn) → All (Below n) turns → stream_end n turns ≡ 0
stream_none n [] all = refl
stream_none n (h ∷ turns) all =
    let head = (All-head (Below n) h turns all).1 in
    let rest = stream_none n turns (All-tail (Below n) h turns all) in
    rw (ne_eqb h.stream n (λ same. omega arith)) (omega arith)

-- no turn of a thread or a stream ends later than all
pub thread_most : (t : ℕ) (turns : List Turn) → thread_end t turns ≤ last_end turns
thread_most t [] = omega arith
thread_most t (h ∷ turns) =
    let rest = thread_most t turns in
    elim (cases_eq h.thread t) [
      | inl same ↦ rw (eq-eqb h.thread t same) (omega arith)
      | inr other ↦ rw (ne_eqb h.thread t other) (omega arith)
    ]

pub stream_most : (s : ℕ) (turns : List Turn) → stream_end s turns ≤ last_end turns
stream_most s [] = omega arith
stream_most s (h ∷ turns) =
    let rest = stream_most s turns in
    elim (cases_eq h.stream s) [
      | inl same ↦ rw (eq-eqb h.stream s same) (omega arith)
      | inr other ↦ rw (ne_eqb h.stream s other) (omega arith)
    ]

end_push : (turns : List Turn) (b : Turn) (most : ℕ) → last_end turns ≤ most → b.end ≤ most → last_end (turns ++ b ∷ []) ≤ most
end_push [] b most before own = omega arith
end_push (h ∷ turns) b most before own = let rest = end_push turns b most (omega arith) own in omega arith

begin_push : (turns : List Turn) (b : Turn) (most : ℕ) → last_begin turns ≤ most → b.begin ≤ most → last_begin (turns ++ b ∷ []) ≤ most
begin_push [] b most before own = omega arith
begin_push (h ∷ turns) b most before own = let rest = begin_push turns b most (omega arith) own in omega arith

slices_more : (t first : ℕ) (turns : List Turn) (b : Turn) → slices_from t first (turns ++ b ∷ []) ≡ slices_from t first turns ++ slices_from t (first + rows_in t turns) (b ∷ [])
slices_more t first [] b = ap (λ (n : ℕ). slices_from t n (b ∷ [])) (omega arith)
slices_more t first (h ∷ turns) b =
    elim (cases_eq h.thread t) [
      | inl same ↦
          let rest = slices_more t (first + h.count) turns b in
          let rows : first + h.count + rows_in t turns ≡ first + rows_in t (h ∷ turns) = let own = rows_own t h turns same in omega arith in
          slices_own t first h (turns ++ b ∷ []) same ∙ ap (λ (ss : List Slice). slice_by first h ∷ ss) rest
          ∙ ap (λ (n : ℕ). slice_by first h ∷ (slices_from t (first + h.count) turns ++ slices_from t n (b ∷ []))) rows
          ∙ ap (λ (ss : List Slice). ss ++ slices_from t (first + rows_in t (h ∷ turns)) (b ∷ [])) (sym (slices_own t first h turns same))
      | inr other ↦
          let rest = slices_more t first turns b in
          let rows : first + rows_in t turns ≡ first + rows_in t (h ∷ turns) = let own = rows_other t h turns other in omega arith in
          slices_other t first h (turns ++ b ∷ []) other ∙ rest
          ∙ ap (λ (n : ℕ). slices_from t first turns ++ slices_from t n (b ∷ [])) rows
          ∙ ap (λ (ss : List Slice). ss ++ slices_from t (first + rows_in t (h ∷ turns)) (b ∷ [])) (sym (slices_other t first h turns other))
    ]

calls_more : (t : ℕ) (turns : List Turn) (b : Turn) (P : Slice → Type 0) → All P (slices_from t 0 turns) → (b.thread ≡ t → P (slice_by (rows_in t turns) b)) → All P (slices_from t 0 (turns ++ b ∷ []))
calls_more t turns b P all own =
    subst (λ (ss : List Slice). All P ss) (sym (slices_more t 0 turns b))
    (elim (cases_eq b.thread t) [
      | inl same ↦ subst (λ (ss : List Slice). All P (slices_from t 0 turns ++ ss)) (sym (slices_own t (0 + rows_in t turns) b [] same))
          (All-push P (slices_from t 0 turns) (slice_by (0 + rows_in t turns) b) all (subst (λ (n : ℕ). P (slice_by n b)) (omega arith) (own same)))
      | inr other ↦ subst (λ (ss : List Slice). All P (slices_from t 0 turns ++ ss)) (sym (slices_other t (0 + rows_in t turns) b [] other)) (subst (λ (ss : List Slice). All P ss) (sym (append-nil (slices_from t 0 turns))) all)
    ])

-- a call stands in slot 7 alone
plain : (b : Bool) (i j : Instr) → is_call i ≡ false → is_call j ≡ false → is_call (cond b i j) ≡ false
plain true i j one other = one
plain false i j one other = other

slot_plain : (s : Slot) → is_call (instr_of s) ≡ false
slot_plain s = plain (s.kind == 0) _ _ refl (plain (s.kind == 1) _ _ refl (plain (s.kind == 2) _ _ refl (plain (s.kind == 3) _ _ refl (plain (s.kind == 4) _ _ refl refl))))

only_call : (code : List Instr) (seed t s : ℕ) → ((t s : ℕ) → t < 4 → s < 15 → drawn_in code t s ≡ made_instr seed t s) → t < 4 → s < 16 → is_call (instr_in code t s) ≡ true → s ≡ 7
only_call code seed t s drawn few small call =
    elim (cases_eq s 7) [
      | inl same ↦ same
      | inr other ↦
          elim (cases_eq s 15) [
            | inl last ↦ absurd (false≢true (sym (ap is_call (jump_in code t s last)) ∙ call))
            | inr there ↦
                let own : is_call (drawn_in code t s) ≡ false = ap is_call (drawn t s few (omega arith)) ∙ ap (λ (b : Bool). is_call (cond b (made_instr seed t 7) (instr_of (slot_of seed t s)))) (ne_eqb s 7 other) ∙ slot_plain (slot_of seed t s) in
                absurd (false≢true (sym (ap is_call (other_in code t s there) ∙ own) ∙ call))
          ]
    ]

near_call : (place : ℕ) → place ≤ 7 → to_call place ≡ 8 - place
near_call place near = rw (le-leb place 7 near) refl

far_call : (place : ℕ) → 7 < place → to_call place ≡ 24 - place
far_call place far = rw (lt-leb place 7 far) refl

call_last : (first count i : ℕ) → count ≤ to_call (first % 16) → first ≤ i → i < first + count → i % 16 ≡ 7 → first + count ≡ suc i
call_last first count i most least less is =
    elim (cases_lt 7 (first % 16)) [
      | inl far ↦ let to = far_call (first % 16) far in omega arith
      | inr near ↦ let to = near_call (first % 16) near in omega arith
    ]

some_call : (place : ℕ) → place < 16 → 0 < to_call place
some_call place small =
    elim (cases_lt 7 place) [
      | inl far ↦ let to = far_call place far in omega arith
      | inr near ↦ let to = near_call place near in omega arith
    ]

pub record Good (code : List Instr) (sizes : Sizes) (turns : List Turn) (n : ℕ) : Type 0 where
  pub threads : All (λ (turn : Turn). turn.thread < 4) turns
  pub some : AreSome turns
  pub order : AreInOrder turns
  pub apart : AreTurnsApart turns
  pub calls : (t : ℕ) → All (CallsLast code t) (slices_from t 0 turns)
  pub few : all_rows turns ≤ 8 * n
  pub streams : All (λ (turn : Turn). turn.stream < sizes.streams) turns
  pub stream_apart : AreApartByStream turns
  pub long : TakeTime turns
  pub together : BeginTogether turns
  -- the first turns are those of the streams, each of another thread
  pub early : n ≤ sizes.streams → All (Below n) turns
  pub seen : (s : ℕ) → s < n → s < sizes.streams → first_on s turns ≡ None → ⊥

module _ (sizes : Sizes) (seed n : ℕ) where
  first_thread : n < sizes.streams → drawn_thread sizes seed n ≡ n
  first_thread less = rw (lt-ltb n sizes.streams less) refl

  later_thread : sizes.streams ≤ n → drawn_thread sizes seed n ≡ draw seed (240 + 5 * n) sizes.threads
  later_thread most = rw (le-ltb n sizes.streams most) refl

  first_stream : n < sizes.streams → drawn_stream sizes seed n ≡ n
  first_stream less = rw (lt-ltb n sizes.streams less) refl

  later_stream : sizes.streams ≤ n → drawn_stream sizes seed n ≡ draw seed (241 + 5 * n) sizes.streams
  later_stream most = rw (le-ltb n sizes.streams most) refl

  first_early : n < sizes.streams → drawn_early sizes seed n ≡ 0
  first_early less = rw (lt-ltb n sizes.streams less) refl

  thread_small : 1 ≤ sizes.threads → sizes.streams ≤ sizes.threads → drawn_thread sizes seed n < sizes.threads
  thread_small some fewer =
      elim (cases_lt n sizes.streams) [
        | inl first ↦ let is = first_thread first in omega arith
        | inr later ↦ let is = later_thread later in let below = draw_below seed (240 + 5 * n) sizes.threads some in omega arith
      ]

  stream_small : 1 ≤ sizes.streams → drawn_stream sizes seed n < sizes.streams
  stream_small some =
      elim (cases_lt n sizes.streams) [
        | inl first ↦ let is = first_stream first in omega arith
        | inr later ↦ let is = later_stream later in let below = draw_below seed (241 + 5 * n) sizes.streams some in omega arith
      ]

  pub early_small : drawn_early sizes seed n ≤ 8 * n
  early_small =
      elim (cases_lt n sizes.streams) [
        | inl first ↦ let is = first_early first in omega arith
        | inr later ↦ rw (le-ltb n sizes.streams later) (omega arith)
      ]

  first_begin : (turns : List Turn) → n < sizes.streams → All (Below n) turns → drawn_begin sizes seed n turns ≡ 0
  first_begin turns less all =
      let a = first_early less in
      let b : thread_end (drawn_thread sizes seed n) turns ≡ 0 = ap (λ (t : ℕ). thread_end t turns) (first_thread less) ∙ thread_none n turns all in
      let c : stream_end (drawn_stream sizes seed n) turns ≡ 0 = ap (λ (s : ℕ). stream_end s turns) (first_stream less) ∙ stream_none n turns all in
      omega arith

module _ (code : List Instr) (seed : ℕ) (drawn : (t s : ℕ) → t < 4 → s < 15 → drawn_in code t s ≡ made_instr seed t s) (sizes : Sizes) (least : 1 ≤ sizes.threads) (most : sizes.threads ≤ 4) (one : 1 ≤ sizes.streams) (fewer : sizes.streams ≤ sizes.threads) where
  together_next : (n : ℕ) (turns : List Turn) → Good code sizes turns n → first_on (drawn_stream sizes seed n) turns ≡ None → drawn_begin sizes seed n turns ≡ 0
  together_next n turns good none =
      elim (cases_lt n sizes.streams) [
        | inl first ↦ first_begin sizes seed n turns first (good.early (omega arith))
        | inr later ↦ let small = stream_small sizes seed n one in absurd (good.seen (drawn_stream sizes seed n) (omega arith) small none)
      ]

  early_next : (n : ℕ) (turns : List Turn) → Good code sizes turns n → suc n ≤ sizes.streams → All (Below (suc n)) (turns ++ next_turn sizes seed n turns ∷ [])
  early_next n turns good less =
      let thread = first_thread sizes seed n (omega arith) in
      let stream = first_stream sizes seed n (omega arith) in
      All-push (Below (suc n)) turns (next_turn sizes seed n turns) (below_more n turns (good.early (omega arith))) (omega arith, omega arith)

  seen_next : (n : ℕ) (turns : List Turn) → Good code sizes turns n → (s : ℕ) → s < suc n → s < sizes.streams → first_on s (turns ++ next_turn sizes seed n turns ∷ []) ≡ None → ⊥
  seen_next n turns good s less inside none =
      let rest = none_push s turns (next_turn sizes seed n turns) none in
      elim (cases_lt s n) [
        | inl early ↦ good.seen s early inside rest.0
        | inr late ↦ let stream = first_stream sizes seed n (omega arith) in rest.1 (omega arith)
      ]

  good_more : (n : ℕ) (turns : List Turn) → Good code sizes turns n → Good code sizes (turns ++ next_turn sizes seed n turns ∷ []) (suc n)
  good_more n turns good =
      let thread = thread_small sizes seed n least fewer in
      let rows = draw_below seed (242 + 5 * n) 8 (omega arith) in
      let some = some_call (rows_in (drawn_thread sizes seed n) turns % 16) (omega arith) in
      let few = good.few in
      let more = rows_more turns (next_turn sizes seed n turns) in
      record {
        threads = All-push (λ (turn : Turn). turn.thread < 4) turns (next_turn sizes seed n turns) good.threads (omega arith);
        some = All-push (λ (turn : Turn). 0 < turn.count) turns (next_turn sizes seed n turns) good.some (omega arith);
        order = order_more turns (next_turn sizes seed n turns) good.order (omega arith) (omega arith);
        apart = apart_more turns (next_turn sizes seed n turns) good.apart (omega arith);
        calls = λ t. calls_more t turns (next_turn sizes seed n turns) (CallsLast code t) (good.calls t) (λ same i from less call.
            call_last (rows_in t turns) (next_turn sizes seed n turns).count i (subst (λ (u : ℕ). (next_turn sizes seed n turns).count ≤ to_call (rows_in u turns % 16)) same (omega arith)) from less
            (only_call code seed t (i % 16) drawn (let its : drawn_thread sizes seed n ≡ t = same in omega arith) (omega arith) call));
        few = omega arith;
        streams = All-push (λ (turn : Turn). turn.stream < sizes.streams) turns (next_turn sizes seed n turns) good.streams (stream_small sizes seed n one);
        stream_apart = streams_more turns (next_turn sizes seed n turns) good.stream_apart (omega arith);
        long = All-push (λ (turn : Turn). turn.begin < turn.end) turns (next_turn sizes seed n turns) good.long (omega arith);
        together = together_more turns (next_turn sizes seed n turns) good.together (together_next n turns good);
        early = early_next n turns good;
        seen = seen_next n turns good;
      }

  pub good : (n : ℕ) → Good code sizes (drawn_turns sizes seed n) n
  good zero = record {
    threads = All-nil (λ (turn : Turn). turn.thread < 4);
    some = All-nil (λ (turn : Turn). 0 < turn.count);
    order = tt;
    apart = tt;
    calls = λ t. All-nil (CallsLast code t);
    few = omega arith;
    streams = All-nil (λ (turn : Turn). turn.stream < sizes.streams);
    stream_apart = tt;
    long = All-nil (λ (turn : Turn). turn.begin < turn.end);
    together = λ s turn found. absurd (none_turn found);
    early = λ most. All-nil (Below 0);
    seen = λ s less. absurd (omega arith);
  }
  good (suc n) = good_more n (drawn_turns sizes seed n) (good n)

  pub drawn_playable : (n : ℕ) → n ≤ 64 → IsPlayCode code → IsPlayable code (drawn_turns sizes seed n)
  drawn_playable n small slots = let g = good n in let few = g.few in record { slots = slots; threads = g.threads; some = g.some; order = g.order; apart = g.apart; calls = g.calls; few = omega arith }

pub turns_few : (sizes : Sizes) (seed n : ℕ) → all_rows (drawn_turns sizes seed n) ≤ 8 * n
turns_few sizes seed zero = omega arith
turns_few sizes seed (suc n) =
    let rows = draw_below seed (242 + 5 * n) 8 (omega arith) in
    let more = rows_more (drawn_turns sizes seed n) (next_turn sizes seed n (drawn_turns sizes seed n)) in
    let rest = turns_few sizes seed n in
    omega arith

-- and they end soon
soon_next : (sizes : Sizes) (seed n : ℕ) (turns : List Turn) → last_end turns ≤ 8 * n + 16 → last_begin turns ≤ 8 * n + 16 → ((next_turn sizes seed n turns).begin ≤ 8 * n + 16) × ((next_turn sizes seed n turns).end ≤ 8 * n + 24)
soon_next sizes seed n turns end begin =
    let early = early_small sizes seed n in
    let thread = thread_most (drawn_thread sizes seed n) turns in
    let stream = stream_most (drawn_stream sizes seed n) turns in
    let late = draw_below seed (244 + 5 * n) 16 (omega arith) in
    (omega arith, omega arith)

pub turns_soon : (sizes : Sizes) (seed n : ℕ) → (last_end (drawn_turns sizes seed n) ≤ 8 * n + 16) × (last_begin (drawn_turns sizes seed n) ≤ 8 * n + 16)
turns_soon sizes seed zero = (omega arith, omega arith)
turns_soon sizes seed (suc n) =
    let rest = turns_soon sizes seed n in
    let end = rest.0 in
    let begin = rest.1 in
    let next = soon_next sizes seed n (drawn_turns sizes seed n) rest.0 rest.1 in
    let one = next.0 in
    let two = next.1 in
    (end_push (drawn_turns sizes seed n) (next_turn sizes seed n (drawn_turns sizes seed n)) (8 * suc n + 16) (omega arith) (omega arith), begin_push (drawn_turns sizes seed n) (next_turn sizes seed n (drawn_turns sizes seed n)) (8 * suc n + 16) (omega arith) (omega arith))
