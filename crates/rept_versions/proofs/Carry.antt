-- What one step of `up` or `down` does, and what the rest of the way does after it.
use Rattle.rept_versions.specs.Puts.{Ups, Downs}
use Rattle.std.proofs.Common.{Option, ◌≡◌, ℕ, suc, ◌+◌, ◌-◌, ◌<◌, ◌≤◌, ◌≢◌, List, length, Some, None, refl, sym, ◌∙◌, ap, inl, inr, arith}
use Rattle.std.proofs.lemmas.Bool.{cases_lt}
use Rattle.std.proofs.lemmas.Bool.Decides.{nat_tests}
use Rattle.std.proofs.lemmas.Option.{none-some}
use Rattle.rept_versions.specs.declared.span.Span.{Span}
use Rattle.rept_versions.specs.Line.{nth, value_at, IsRising, AreSpansJoined, ReadsSame, Line, Filled, StoppedBelow, FilledDown, StoppedDown, raised, lowered, joined, filled, filled_down}
use Rattle.rept_versions.proofs.Lines.{gap_after, value_raised, value_lowered, value_joined, value_lies, value_misses, same_or, high_raised, low_raised, val_raised, raised_other, length_raised, raised_but, low_lowered, high_lowered, val_lowered, lowered_other, length_lowered, lowered_but, low_joined, val_joined, high_joined, length_joined, joined_joined}
use Rattle.rept_versions.proofs.Fill.{before_it}

some_same : (v w : ℕ) → Some v ≡ Some w → w ≡ v
some_same v w e = grind (arith, e)

-- between a span and the next one nothing is read
pub free_above : (ss : List Span) → IsRising ss → (i q : ℕ) → i < length ss → (nth ss i).high < q → (suc i < length ss → q < (nth ss (suc i)).low) → value_at ss q ≡ None
free_above ss rising i q at over under =
    let below = gap_after ss rising q i at over in
    value_misses ss q (suc i) (record {
      parts = record {
        bound = at;
        below = λ j lt. omega (arith, below j lt, rising.whole j (omega (arith, lt, at)));
        above = λ j le lt. elim (same_or j (suc i)) [
          | inl e ↦ rw e (under (omega (arith, e, lt)))
          | inr ne ↦ omega (arith, under (omega (arith, le, lt)), rising.whole (suc i) (omega (arith, le, lt)), rising.apart (suc i) j (omega (arith, le, ne)) lt)
        ];
      };
      below = below;
    })

pub free_below : (ss : List Span) → IsRising ss → (i q : ℕ) → i < length ss → q < (nth ss i).low → ((j : ℕ) → j < i → (nth ss j).high < q) → value_at ss q ≡ None
free_below ss rising i q at under over =
    value_misses ss q i (record {
      parts = record {
        bound = omega (arith, at);
        below = λ j lt. omega (arith, over j lt, rising.whole j (omega (arith, lt, at)));
        above = λ j le lt. elim (same_or j i) [
          | inl e ↦ rw e under
          | inr ne ↦ omega (arith, under, rising.whole i at, rising.apart i j (omega (arith, le, ne)) lt)
        ];
      };
      below = over;
    })

module _ (old new : Line) (rising : IsRising old.spans) (i to : ℕ) (at : i < length old.spans) (middle : List Span) (same : ReadsSame middle new.spans) (len : length new.spans ≤ length middle) (room : new.room ≡ old.room) where
  pub filled_raised : (nth old.spans i).high ≤ to → (suc i < length old.spans → to < (nth old.spans (suc i)).low) → middle ≡ raised old.spans i to → Filled old new (nth old.spans i).high to (nth old.spans i).value
  filled_raised later free is = record {
    reads = λ q. same q ∙ rw is (value_raised old.spans i to q (before_it old.spans rising i at) at (rising.whole i at) later);
    free = λ q w over under e. absurd (none-some w (sym (free_above old.spans rising i q at over (λ lt. omega (arith, under, free lt))) ∙ e));
    room = room;
    len = omega (arith, len, ap length is, length_raised old.spans i at to);
  }

  pub filled_lowered : to ≤ (nth old.spans i).low → ((j : ℕ) → j < i → (nth old.spans j).high < to) → middle ≡ lowered old.spans i to → FilledDown old new to (nth old.spans i).low (nth old.spans i).value
  filled_lowered earlier free is = record {
    reads = λ q. same q ∙ rw is (value_lowered old.spans i to q free at (rising.whole i at) earlier);
    free = λ q w over under e. absurd (none-some w (sym (free_below old.spans rising i q at under (λ j lt. omega (arith, over, free j lt))) ∙ e));
    room = room;
    len = omega (arith, len, ap length is, length_lowered old.spans i at to);
  }

module _ (ss : List Span) (rising : IsRising ss) (i : ℕ) (at : suc i < length ss) where
  near : i < length ss
  near = omega (arith, at)

  gap : (nth ss i).high < (nth ss (suc i)).low
  gap = rising.apart i (suc i) (omega arith) at

  next_here : (q : ℕ) → (nth ss (suc i)).low ≤ q → q ≤ (nth ss (suc i)).high → value_at ss q ≡ Some (nth ss (suc i)).value
  next_here q from to = value_lies ss rising q (suc i) (record { within = at; from = from; to = to })

  this_here : (q : ℕ) → (nth ss i).low ≤ q → q ≤ (nth ss i).high → value_at ss q ≡ Some (nth ss i).value
  this_here q from to = value_lies ss rising q i (record { within = near; from = from; to = to })

  abbrev pub reached : List Span
  reached = raised ss i ((nth ss (suc i)).low - 1)

  abbrev pub reached_down : List Span
  reached_down = lowered ss (suc i) ((nth ss i).high + 1)

  pub reached_reads : (q : ℕ) → value_at reached q ≡ filled ss (nth ss i).high ((nth ss (suc i)).low - 1) (nth ss i).value q
  reached_reads q = value_raised ss i ((nth ss (suc i)).low - 1) q (before_it ss rising i near) near (rising.whole i near) (omega (arith, gap))

  pub reached_down_reads : (q : ℕ) → value_at reached_down q ≡ filled_down ss ((nth ss i).high + 1) (nth ss (suc i)).low (nth ss (suc i)).value q
  reached_down_reads q = value_lowered ss (suc i) ((nth ss i).high + 1) q (λ j lt. elim (same_or j i) [ inl e ↦ rw e (omega arith) | inr ne ↦ omega (arith, rising.apart j i (omega (arith, lt, ne)) near, rising.whole i near) ]) at (rising.whole (suc i) at) (omega (arith, gap))

  module _ (same : (nth ss i).value ≡ (nth ss (suc i)).value) where
    h : ℕ
    h = (nth ss (suc i)).low - 1

    pub same_reached : (nth reached i).value ≡ (nth reached (suc i)).value
    same_reached = omega (arith, same, val_raised ss i near ((nth ss (suc i)).low - 1) i, val_raised ss i near ((nth ss (suc i)).low - 1) (suc i))

    pub same_reached_down : (nth reached_down i).value ≡ (nth reached_down (suc i)).value
    same_reached_down = omega (arith, same, val_lowered ss (suc i) at ((nth ss i).high + 1) i, val_lowered ss (suc i) at ((nth ss i).high + 1) (suc i))

    within_reached : suc i < length reached
    within_reached = omega (arith, at, length_raised ss i near ((nth ss (suc i)).low - 1))

    within_down : suc i < length reached_down
    within_down = omega (arith, at, length_lowered ss (suc i) at ((nth ss i).high + 1))

    pub on_joined : AreSpansJoined ss → AreSpansJoined (joined reached i)
    on_joined is_joined = joined_joined reached i within_reached same_reached (raised_but ss i near ((nth ss (suc i)).low - 1) is_joined)

    pub on_joined_down : AreSpansJoined ss → AreSpansJoined (joined reached_down i)
    on_joined_down is_joined = joined_joined reached_down i within_down same_reached_down (λ j ne. lowered_but ss (suc i) at ((nth ss i).high + 1) is_joined j (λ e. ne (omega (arith, e))))

    pub on_reads : (q : ℕ) → value_at (joined reached i) q ≡ filled ss (nth ss i).high ((nth ss (suc i)).low - 1) (nth ss i).value q
    on_reads q =
        let other = raised_other ss i near ((nth ss (suc i)).low - 1) (suc i) (λ e. omega (arith, e)) in
        value_joined reached i q within_reached
        (omega (arith, gap, rising.whole i near, low_raised ss i near ((nth ss (suc i)).low - 1) i, high_raised ss i near ((nth ss (suc i)).low - 1)))
        (omega (arith, rising.whole (suc i) at, ap (λ s. s.low) other, ap (λ s. s.high) other))
        (omega (arith, gap, high_raised ss i near ((nth ss (suc i)).low - 1), ap (λ s. s.low) other))
        same_reached ∙ reached_reads q

    pub on_reads_down : (q : ℕ) → value_at (joined reached_down i) q ≡ filled_down ss ((nth ss i).high + 1) (nth ss (suc i)).low (nth ss (suc i)).value q
    on_reads_down q =
        let other = lowered_other ss (suc i) at ((nth ss i).high + 1) i (λ e. omega (arith, e)) in
        let low = low_lowered ss (suc i) at ((nth ss i).high + 1) in
        let high = high_lowered ss (suc i) at ((nth ss i).high + 1) (suc i) in
        value_joined reached_down i q within_down
        (omega (arith, rising.whole i near, ap (λ s. s.low) other, ap (λ s. s.high) other))
        (omega (arith, gap, rising.whole (suc i) at, low, high))
        (omega (arith, low, ap (λ s. s.high) other))
        same_reached_down ∙ reached_down_reads q

    pub on_high : (nth (joined reached i) i).high ≡ (nth ss (suc i)).high
    on_high = high_joined reached i within_reached ∙ ap (λ s. s.high) (raised_other ss i near ((nth ss (suc i)).low - 1) (suc i) (λ e. omega (arith, e)))

    pub on_value : (nth (joined reached i) i).value ≡ (nth ss i).value
    on_value = val_joined reached i within_reached i (omega arith) ∙ val_raised ss i near ((nth ss (suc i)).low - 1) i

    pub on_low_down : (nth (joined reached_down i) i).low ≡ (nth ss i).low
    on_low_down = low_joined reached_down i within_down i (omega arith) ∙ ap (λ s. s.low) (lowered_other ss (suc i) at ((nth ss i).high + 1) i (λ e. omega (arith, e)))

    pub on_value_down : (nth (joined reached_down i) i).value ≡ (nth ss i).value
    on_value_down = val_joined reached_down i within_down i (omega arith) ∙ val_lowered ss (suc i) at ((nth ss i).high + 1) i

    pub on_length : length (joined reached i) + 1 ≡ length ss
    on_length = omega (arith, length_joined reached i within_reached, length_raised ss i near ((nth ss (suc i)).low - 1))

    pub on_length_down : length (joined reached_down i) + 1 ≡ length ss
    on_length_down = omega (arith, length_joined reached_down i within_down, length_lowered ss (suc i) at ((nth ss i).high + 1))

module _ (old middle new : Line) (rising : IsRising old.spans) (i : ℕ) (at : suc i < length old.spans) (room : middle.room ≡ old.room) (same : (nth old.spans i).value ≡ (nth old.spans (suc i)).value) where
  module _ (is : middle.spans ≡ joined (raised old.spans i ((nth old.spans (suc i)).low - 1)) i) where
    reads : (q : ℕ) → value_at middle.spans q ≡ filled old.spans (nth old.spans i).high ((nth old.spans (suc i)).low - 1) (nth old.spans i).value q
    reads q = rw is (on_reads old.spans rising i at same q)

    pub filled_on : (to : ℕ) → (nth old.spans (suc i)).low ≤ to → Filled middle new (nth middle.spans i).high to (nth middle.spans i).value → Filled old new (nth old.spans i).high to (nth old.spans i).value
    filled_on to over rest =
        let high : (nth middle.spans i).high ≡ (nth old.spans (suc i)).high = rw is (on_high old.spans rising i at same) in
        let value : (nth middle.spans i).value ≡ (nth old.spans i).value = rw is (on_value old.spans rising i at same) in
        let here = next_here old.spans rising i at in
        let g = gap old.spans rising i at in
        let w = rising.whole (suc i) at in
        record {
          reads = λ q. grind (arith, nat_tests, rest.reads q, reads q, high, value, here q, same, g, w, over);
          free = λ q w above below e. elim (cases_lt q (nth old.spans (suc i)).low) [
            | inl less ↦ absurd (none-some w (sym (free_above old.spans rising i q (omega (arith, at)) above (λ _. less)) ∙ e))
            | inr more ↦ elim (cases_lt (nth old.spans (suc i)).high q) [
              | inl past ↦ rest.free q w (omega (arith, past, high)) below (reads q ∙ grind (arith, nat_tests, e, past, more, g)) ∙ value
              | inr within ↦ some_same (nth old.spans (suc i)).value w (sym (here q more within) ∙ e) ∙ sym same
            ]
          ];
          room = rest.room ∙ room;
          len = omega (arith, rest.len, ap length is, on_length old.spans rising i at same);
        }

    pub stopped_on : (to stop : ℕ) → StoppedBelow middle new (nth middle.spans i).high to (nth middle.spans i).value stop → StoppedBelow old new (nth old.spans i).high to (nth old.spans i).value stop
    stopped_on to stop rest =
        let high : (nth middle.spans i).high ≡ (nth old.spans (suc i)).high = rw is (on_high old.spans rising i at same) in
        let value : (nth middle.spans i).value ≡ (nth old.spans i).value = rw is (on_value old.spans rising i at same) in
        let g = gap old.spans rising i at in
        let w = rising.whole (suc i) at in
        record {
          over = omega (arith, rest.over, high, g, w);
          under = rest.under;
          filled = filled_on (stop - 1) (omega (arith, rest.over, high, w)) rest.filled;
          other = (rest.other.0, grind (arith, nat_tests, rest.other.1, reads stop, rest.over, high, g, w), λ e. rest.other.2 (e ∙ sym value));
        }

  module _ (is : middle.spans ≡ joined (lowered old.spans (suc i) ((nth old.spans i).high + 1)) i) where
    reads_down : (q : ℕ) → value_at middle.spans q ≡ filled_down old.spans ((nth old.spans i).high + 1) (nth old.spans (suc i)).low (nth old.spans (suc i)).value q
    reads_down q = rw is (on_reads_down old.spans rising i at same q)

    pub filled_on_down : (to : ℕ) → to ≤ (nth old.spans i).high → FilledDown middle new to (nth middle.spans i).low (nth middle.spans i).value → FilledDown old new to (nth old.spans (suc i)).low (nth old.spans (suc i)).value
    filled_on_down to over rest =
        let low : (nth middle.spans i).low ≡ (nth old.spans i).low = rw is (on_low_down old.spans rising i at same) in
        let value : (nth middle.spans i).value ≡ (nth old.spans i).value = rw is (on_value_down old.spans rising i at same) in
        let here = this_here old.spans rising i at in
        let g = gap old.spans rising i at in
        let w = rising.whole i (omega (arith, at)) in
        record {
          reads = λ q. grind (arith, nat_tests, rest.reads q, reads_down q, low, value, here q, same, g, w, over);
          free = λ q w above below e. elim (cases_lt (nth old.spans i).high q) [
            | inl more ↦ absurd (none-some w (sym (free_below old.spans rising (suc i) q at below (λ j lt. elim (same_or j i) [ inl k ↦ rw k more | inr ne ↦ omega (arith, more, rising.apart j i (omega (arith, lt, ne)) (omega (arith, at)), rising.whole i (omega (arith, at))) ])) ∙ e))
            | inr less ↦ elim (cases_lt q (nth old.spans i).low) [
              | inl past ↦ rest.free q w above (omega (arith, past, low)) (reads_down q ∙ grind (arith, nat_tests, e, past, less, g)) ∙ (value ∙ same)
              | inr within ↦ some_same (nth old.spans i).value w (sym (here q within less) ∙ e) ∙ same
            ]
          ];
          room = rest.room ∙ room;
          len = omega (arith, rest.len, ap length is, on_length_down old.spans rising i at same);
        }

    pub stopped_on_down : (to stop : ℕ) → StoppedDown middle new to (nth middle.spans i).low (nth middle.spans i).value stop → StoppedDown old new to (nth old.spans (suc i)).low (nth old.spans (suc i)).value stop
    stopped_on_down to stop rest =
        let low : (nth middle.spans i).low ≡ (nth old.spans i).low = rw is (on_low_down old.spans rising i at same) in
        let value : (nth middle.spans i).value ≡ (nth old.spans i).value = rw is (on_value_down old.spans rising i at same) in
        let g = gap old.spans rising i at in
        let w = rising.whole i (omega (arith, at)) in
        record {
          under = omega (arith, rest.under, low, g, w);
          over = rest.over;
          filled = filled_on_down (stop + 1) (omega (arith, rest.under, low, w)) rest.filled;
          other = (rest.other.0, grind (arith, nat_tests, rest.other.1, reads_down stop, rest.under, low, g, w), λ e. rest.other.2 (e ∙ sym (value ∙ same)));
        }

-- the stop at another value
pub stopped_raised : (old new : Line) → IsRising old.spans → (i to : ℕ) → suc i < length old.spans → (t : Span) → t ≡ nth old.spans (suc i) → t.low ≤ to → (t.value ≢ (nth old.spans i).value) → new.spans ≡ raised old.spans i (t.low - 1) → new.room ≡ old.room → StoppedBelow old new (nth old.spans i).high to (nth old.spans i).value t.low
stopped_raised old new rising i to at t is le ne spans room =
    let g = gap old.spans rising i at in
    let low = ap (λ s. s.low) is in
    let value = ap (λ s. s.value) is in
    record {
      over = omega (arith, g, low);
      under = le;
      filled = filled_raised old new rising i (t.low - 1) (omega (arith, at)) new.spans (λ q. refl) (omega arith) room (omega (arith, g, low)) (λ lt. omega (arith, g, low)) spans;
      other = (t.value, value_lies old.spans rising t.low (suc i) (record { within = at; from = omega (arith, low); to = omega (arith, low, rising.whole (suc i) at) }) ∙ ap Some (sym value), ne);
    }

pub stopped_lowered : (old new : Line) → IsRising old.spans → (i to : ℕ) → suc i < length old.spans → (t : Span) → t ≡ nth old.spans i → to ≤ t.high → (t.value ≢ (nth old.spans (suc i)).value) → new.spans ≡ lowered old.spans (suc i) (t.high + 1) → new.room ≡ old.room → StoppedDown old new to (nth old.spans (suc i)).low (nth old.spans (suc i)).value t.high
stopped_lowered old new rising i to at t is le ne spans room =
    let g = gap old.spans rising i at in
    let high = ap (λ s. s.high) is in
    let value = ap (λ s. s.value) is in
    record {
      under = omega (arith, g, high);
      over = le;
      filled = filled_lowered old new rising (suc i) (t.high + 1) at new.spans (λ q. refl) (omega arith) room (omega (arith, g, high)) (λ j lt. elim (same_or j i) [ inl e ↦ rw e (omega (arith, high)) | inr ne ↦ omega (arith, high, rising.apart j i (omega (arith, lt, ne)) (omega (arith, at)), rising.whole i (omega (arith, at))) ]) spans;
      other = (t.value, value_lies old.spans rising t.high i (record { within = omega (arith, at); from = omega (arith, high, rising.whole i (omega (arith, at))); to = omega (arith, high) }) ∙ ap Some (sym value), ne);
    }

-- the spans after a step
pub step_is : (ss one two : List Span) (i : ℕ) (t : Span) → t ≡ nth ss (suc i) → one ≡ raised ss i (t.low - 1) → two ≡ joined one i → two ≡ joined (raised ss i ((nth ss (suc i)).low - 1)) i
step_is ss one two i t is first second = second ∙ ap (λ l. joined l i) (first ∙ ap (λ s. raised ss i (s.low - 1)) is)

pub step_down_is : (ss one two : List Span) (i : ℕ) (t : Span) → t ≡ nth ss i → one ≡ lowered ss (suc i) (t.high + 1) → two ≡ joined one i → two ≡ joined (lowered ss (suc i) ((nth ss i).high + 1)) i
step_down_is ss one two i t is first second = second ∙ ap (λ l. joined l i) (first ∙ ap (λ s. lowered ss (suc i) (s.high + 1)) is)

module _ (old middle new : Line) (rising : IsRising old.spans) (i to : ℕ) (at : suc i < length old.spans) (room : middle.room ≡ old.room) (same : (nth old.spans i).value ≡ (nth old.spans (suc i)).value) where
  pub ups_on : middle.spans ≡ joined (raised old.spans i ((nth old.spans (suc i)).low - 1)) i → (nth old.spans (suc i)).low ≤ to → (r : Option ℕ) → Ups middle new i to r → Ups old new i to r
  ups_on is over None rest = filled_on old middle new rising i at room same is to over rest
  ups_on is over (Some stop) rest = stopped_on old middle new rising i at room same is to stop rest

  pub downs_on : middle.spans ≡ joined (lowered old.spans (suc i) ((nth old.spans i).high + 1)) i → to ≤ (nth old.spans i).high → (r : Option ℕ) → Downs middle new i to r → Downs old new (suc i) to r
  downs_on is over None rest = filled_on_down old middle new rising i at room same is to over rest
  downs_on is over (Some stop) rest = stopped_on_down old middle new rising i at room same is to stop rest

-- if the span before place i ends below k, so do all before it
pub ends_before : (ss : List Span) → IsRising ss → (i k : ℕ) → i < length ss → (nth ss (i - 1)).high < k → (j : ℕ) → j < i → (nth ss j).high < k
ends_before ss rising i k at lt j before = elim (same_or j (i - 1)) [
  | inl e ↦ rw e lt
  | inr ne ↦ omega (arith, rising.apart j (i - 1) (omega (arith, before, ne)) (omega (arith, at)), rising.whole (i - 1) (omega (arith, at)), lt)
]
