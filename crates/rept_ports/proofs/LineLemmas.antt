-- A line so far, and what one more byte makes of it.
use Rattle.std.proofs.Common.{◌≡◌, ◌≢◌, ℕ, ◌+◌, ◌-◌, ◌<◌, ◌≤◌, List, [], ◌∷◌, ◌++◌, length, Bool, true, false, append_assoc, arith, refl, sym, ◌∙◌, ap, cond, inl, inr, subst, length-append, rules}
use Rattle.std.proofs.lemmas.List.{append-nil}
use Rattle.std.specs.Prelude.{Option, None, Some, Ok, Err, nat_eq}
use Rattle.std.specs.Str.Lines.{strip_carriage_return}
use Rattle.std.specs.Io.KnownBytes.{Consumes, Keeps}
use Rattle.rept_ports.specs.Causes.{OneFault}
use Rattle.rept_ports.specs.Port.{Port}
use Rattle.rept_ports.specs.Taken.{Taken, TakesByte}
use Rattle.rept_ports.specs.Lines.{lines_from, whole_from, lines_of, whole_lines, HoldsLine, IsFound, IsLastLine, GivesLine, LineStep, Took, said_of, to_come}
use Rattle.rept_ports.specs.declared.lines.limits.LineFault.{LineFault}
use Rattle.rept_ports.specs.declared.lines.limits.LineFault.TheVariants.{ReadFault, TooMuchInput}
use Rattle.rept_ports.specs.declared.lines.found.LineRead.{LineRead}
use Rattle.rept_ports.specs.declared.lines.found.LineRead.TheVariants as found

pub Consumes-nothing : (a : Option (List ℕ)) → Consumes a a []
Consumes-nothing None = tt
Consumes-nothing (Some xs) = refl

pub Consumes-trans : (a b c : Option (List ℕ)) (xs ys : List ℕ) → Consumes a b xs → Consumes b c ys → Consumes a c (xs ++ ys)
Consumes-trans None b c xs ys h k = tt
Consumes-trans (Some x) None c xs ys h k = absurd h
Consumes-trans (Some x) (Some y) None xs ys h k = absurd k
Consumes-trans (Some x) (Some y) (Some z) xs ys h k = h ∙ ap (λ w. xs ++ w) k ∙ sym (append_assoc xs ys z)

pub Consumes-Keeps : (a b c : Option (List ℕ)) (xs : List ℕ) → Consumes a b xs → Keeps b c → Consumes a c xs
Consumes-Keeps None b c xs h k = tt
Consumes-Keeps (Some x) None c xs h k = absurd h
Consumes-Keeps (Some x) (Some y) None xs h k = absurd k
Consumes-Keeps (Some x) (Some y) (Some z) xs h k = h ∙ ap (λ w. xs ++ w) (sym k)

-- What was taken so far, and the prefix of the line.
pub record SoFar (old new : Taken) (source source' : Port) (items : List ℕ) (is_long : Bool) : Type 0 where
  pub got : List ℕ
  pub consumed : Consumes source.bytes source'.bytes got
  pub count : new.count ≡ old.count + length got
  pub calm : source'.faults ≡ source.faults
  pub front : List ℕ
  pub holds : HoldsLine items is_long front
  pub going : new.ended ≡ false
  pub fewer : to_come new + length front ≤ to_come old
  pub lines : (more : List ℕ) → lines_of ((old.pending ++ got) ++ more) ≡ lines_from front (new.pending ++ more)
  pub whole : (more : List ℕ) → whole_lines ((old.pending ++ got) ++ more) ≡ whole_from front (new.pending ++ more)

pub at_start : (old : Taken) (source : Port) (items : List ℕ) → items ≡ [] → old.ended ≡ false → SoFar old old source source items false
at_start old source items e going = record {
  going = going;
  got = [];
  consumed = Consumes-nothing source.bytes;
  count = omega arith;
  calm = refl;
  front = [];
  holds = e;
  fewer = omega arith;
  lines = λ more. rw append-nil refl;
  whole = λ more. rw append-nil refl;
}

regroup : (p g h more : List ℕ) → (p ++ (g ++ h)) ++ more ≡ (p ++ g) ++ (h ++ more)
regroup p g h more = simp append_assoc

not_newline : (b : ℕ) → b ≢ 10 → nat_eq b 10 ≡ false
not_newline b h = search rules

abbrev front_line : List ℕ → List (List ℕ)
front_line front = front ∷ []

one_line : (front : List ℕ) → 0 < length front → lines_from front [] ≡ front_line front
one_line [] h = absurd (omega arith)
one_line (x ∷ xs) h = search rules

-- an input without lines is empty
never_empty : (front bs : List ℕ) → 0 < length front → lines_from front bs ≡ [] → ⊥
never_empty front [] h e = not_nil front h e
  where
    not_nil : (front : List ℕ) → 0 < length front → lines_from front [] ≡ [] → ⊥
    not_nil [] h e = omega arith
    not_nil (x ∷ xs) h e = let k : front_line (x ∷ xs) ≡ [] = sym (one_line (x ∷ xs) h) ∙ e in cc
never_empty front (b ∷ bs) h e = either (nat_eq b 10) (never_empty (front ++ b ∷ []) bs (omega (arith, length-append front (b ∷ [])))) e
  where
    either : (q : Bool) → (lines_from (front ++ b ∷ []) bs ≡ [] → ⊥) → cond q (strip_carriage_return front ∷ lines_from [] bs) (lines_from (front ++ b ∷ []) bs) ≡ [] → ⊥
    either true k h = cc
    either false k h = k h

no_lines_from : (bs : List ℕ) → lines_from [] bs ≡ [] → bs ≡ []
no_lines_from [] e = refl
no_lines_from (b ∷ bs) e = absurd (either (nat_eq b 10) e)
  where
    either : (q : Bool) → cond q (strip_carriage_return [] ∷ lines_from [] bs) (lines_from (b ∷ []) bs) ≡ [] → ⊥
    either true h = cc
    either false h = never_empty (b ∷ []) bs (omega arith) h

no_lines : (bs : List ℕ) → lines_of bs ≡ [] → bs ≡ []
no_lines bs e = no_lines_from bs e

may_act_by : (mid new : Taken) (b : ℕ) (got : List ℕ) → mid.pending ++ got ≡ b ∷ new.pending → new.count ≡ mid.count + length got → new.count ≤ 1048576 → (1048576 - new.count) + length new.pending < (1048576 - mid.count) + length mid.pending
may_act_by mid new b [] e n h = omega (arith, ap length e, length-append mid.pending [])
may_act_by mid new b (x ∷ xs) e n h = omega (arith, ap length e, length-append mid.pending (x ∷ xs))

pub may_act : (mid new : Taken) (source source' : Port) (b : ℕ) → TakesByte mid new source source' (Ok (Some b)) → (1048576 - new.count) + length new.pending < (1048576 - mid.count) + length mid.pending
may_act mid new source source' b t = may_act_by mid new b t.0 t.2 t.3 t.4

-- what the code knows when one more byte came
module _ (old mid new : Taken) (source source' source'' : Port) (items : List ℕ) (is_long : Bool) (so_far : SoFar old mid source source' items is_long) where
  pub lines_on : (got : List ℕ) (b : ℕ) → mid.pending ++ got ≡ b ∷ new.pending → (more : List ℕ) → lines_of ((old.pending ++ (so_far.got ++ got)) ++ more) ≡ lines_from so_far.front (b ∷ (new.pending ++ more))
  lines_on got b e more = ap lines_of (regroup old.pending so_far.got got more) ∙ so_far.lines (got ++ more) ∙ ap (lines_from so_far.front) (sym (append_assoc mid.pending got more) ∙ ap (λ w. w ++ more) e)

  pub whole_on : (got : List ℕ) (b : ℕ) → mid.pending ++ got ≡ b ∷ new.pending → (more : List ℕ) → whole_lines ((old.pending ++ (so_far.got ++ got)) ++ more) ≡ whole_from so_far.front (b ∷ (new.pending ++ more))
  whole_on got b e more = ap whole_lines (regroup old.pending so_far.got got more) ∙ so_far.whole (got ++ more) ∙ ap (whole_from so_far.front) (sym (append_assoc mid.pending got more) ∙ ap (λ w. w ++ more) e)

  -- the line goes on
  pub one_more : (b : ℕ) (items' : List ℕ) (is_long' : Bool) → TakesByte mid new source' source'' (Ok (Some b)) → b ≢ 10 → HoldsLine items' is_long' (so_far.front ++ b ∷ []) → SoFar old new source source'' items' is_long'
  one_more b items' is_long' t ne h = record {
    got = so_far.got ++ t.0;
    consumed = Consumes-trans source.bytes source'.bytes source''.bytes so_far.got t.0 so_far.consumed t.1;
    count = omega (arith, so_far.count, t.3, length-append so_far.got t.0);
    calm = t.5 ∙ so_far.calm;
    front = so_far.front ++ b ∷ [];
    holds = h;
    going = t.6;
    fewer = omega (arith, so_far.fewer, may_act mid new source' source'' b t, length-append so_far.front (b ∷ []));
    lines = λ more. lines_on t.0 b t.2 more ∙ ap (λ q. cond q (strip_carriage_return so_far.front ∷ lines_from [] (new.pending ++ more)) (lines_from (so_far.front ++ b ∷ []) (new.pending ++ more))) (not_newline b ne);
    whole = λ more. whole_on t.0 b t.2 more ∙ ap (λ q. cond q (strip_carriage_return so_far.front ∷ whole_from [] (new.pending ++ more)) (whole_from (so_far.front ++ b ∷ []) (new.pending ++ more))) (not_newline b ne);
  }

  took_more : (got : List ℕ) → Consumes source'.bytes source''.bytes got → new.count ≡ mid.count + length got → new.count ≤ 1048576 → Took old new source source'' (so_far.got ++ got)
  took_more got more counted within = record {
    consumed = Consumes-trans source.bytes source'.bytes source''.bytes so_far.got got so_far.consumed more;
    count = omega (arith, so_far.count, length-append so_far.got got);
    within = within;
  }

  gives : (t : TakesByte mid new source' source'' (Ok (Some 10))) → GivesLine (old.pending ++ (so_far.got ++ t.0)) new (strip_carriage_return so_far.front)
  gives t = record { next = λ more. lines_on t.0 10 t.2 more; whole = λ more. whole_on t.0 10 t.2 more; going = t.6 }

  -- the line ends
  pub at_newline : (b : ℕ) (r : LineRead) (items' : List ℕ) → TakesByte mid new source' source'' (Ok (Some b)) → b ≡ 10 → IsFound r items' (strip_carriage_return so_far.front) → LineStep old new source source'' (said_of (Ok r) items')
  at_newline b found.End items' t e h = absurd h
  at_newline b found.Text items' t e h =
      let u : TakesByte mid new source' source'' (Ok (Some 10)) = subst (λ x. TakesByte mid new source' source'' (Ok (Some x))) e t in
      record {
        got = so_far.got ++ u.0;
        took = took_more u.0 u.1 u.3 u.4;
        calm = u.5 ∙ so_far.calm;
        fewer = omega (arith, so_far.fewer, may_act mid new source' source'' 10 u);
        line = strip_carriage_return so_far.front;
        told = h;
        next = inl (gives u);
      }
  at_newline b found.Long items' t e h =
      let u : TakesByte mid new source' source'' (Ok (Some 10)) = subst (λ x. TakesByte mid new source' source'' (Ok (Some x))) e t in
      record {
        got = so_far.got ++ u.0;
        took = took_more u.0 u.1 u.3 u.4;
        calm = u.5 ∙ so_far.calm;
        fewer = omega (arith, so_far.fewer, may_act mid new source' source'' 10 u);
        line = strip_carriage_return so_far.front;
        told = h;
        next = inl (gives u);
      }

  whole_none : mid.pending ≡ [] → whole_lines (old.pending ++ so_far.got) ≡ []
  whole_none e = ap whole_lines (sym (append-nil (old.pending ++ so_far.got))) ∙ so_far.whole [] ∙ ap (λ w. whole_from so_far.front (w ++ [])) e

  lines_none : mid.pending ≡ [] → lines_of (old.pending ++ so_far.got) ≡ lines_from so_far.front []
  lines_none e = ap lines_of (sym (append-nil (old.pending ++ so_far.got))) ∙ so_far.lines [] ∙ ap (λ w. lines_from so_far.front (w ++ [])) e

  strictly : TakesByte mid new source' source'' (Ok None) → 0 < length so_far.front → to_come new < to_come old
  strictly t h = omega (arith, so_far.fewer, t.4, ap length t.3, ap length t.0)

  took_none : TakesByte mid new source' source'' (Ok None) → Took old new source source'' so_far.got
  took_none t = record {
    consumed = rw append-nil at (Consumes-trans source.bytes source'.bytes source''.bytes so_far.got [] so_far.consumed t.2);
    count = omega (arith, so_far.count, t.4);
    within = t.7;
  }

  -- the input ends
  pub at_its_end : (r : LineRead) (items' : List ℕ) → TakesByte mid new source' source'' (Ok None) → IsLastLine r items' so_far.front → LineStep old new source source'' (said_of (Ok r) items')
  at_its_end found.End items' t h =
      record { got = so_far.got; took = took_none t; calm = t.5 ∙ so_far.calm; nothing = nothing_left t h; none_pending = t.3; at_end = t.1; ended = t.6 }
    where
      empty_line : (xs ys : List ℕ) → lines_of xs ≡ lines_from ys [] → ys ≡ [] → lines_of xs ≡ []
      empty_line xs ys e h = e ∙ ap (λ w. lines_from w []) h

      nothing_left : TakesByte mid new source' source'' (Ok None) → so_far.front ≡ [] → old.pending ++ so_far.got ≡ []
      nothing_left t h = no_lines (old.pending ++ so_far.got) (empty_line (old.pending ++ so_far.got) so_far.front (lines_none t.0) h)
  at_its_end found.Text items' t h = record {
    got = so_far.got;
    took = took_none t;
    calm = t.5 ∙ so_far.calm;
    fewer = strictly t h.1;
    line = so_far.front;
    told = h.0;
    next = inr (record { last = lines_none t.0 ∙ one_line so_far.front h.1; none_whole = whole_none t.0; all = t.3; at_end = t.1; ended = t.6 });
  }
  at_its_end found.Long items' t h = record {
    got = so_far.got;
    took = took_none t;
    calm = t.5 ∙ so_far.calm;
    fewer = strictly t h.1;
    line = so_far.front;
    told = h.0;
    next = inr (record { last = lines_none t.0 ∙ one_line so_far.front h.1; none_whole = whole_none t.0; all = t.3; at_end = t.1; ended = t.6 });
  }

  pub at_fault : (e : LineFault) → TakesByte mid new source' source'' (Err e) → LineStep old new source source'' (Err e)
  at_fault ReadFault t = record {
    got = so_far.got;
    took = record { consumed = Consumes-Keeps source.bytes source'.bytes source''.bytes so_far.got so_far.consumed t.2; count = ap (λ w. w.count) t.3 ∙ so_far.count; within = t.4 };
    fault = subst (λ before. OneFault before source''.faults) so_far.calm t.1;
    none_whole = whole_none t.0;
  }
  at_fault TooMuchInput t = record {
    got = so_far.got;
    extra = t.1.0;
    consumed = Consumes-trans source.bytes source'.bytes source''.bytes so_far.got (t.1.0 ∷ []) so_far.consumed t.1.1;
    count = ap (λ w. w.count) t.3 ∙ so_far.count;
    full = ap (λ w. w.count) t.3 ∙ t.2;
    calm = t.4 ∙ so_far.calm;
    none_whole = whole_none t.0;
  }

pub pushed : (items front : List ℕ) (b : ℕ) (is_long : Bool) (items' : List ℕ) → HoldsLine items is_long front → items' ≡ items ++ b ∷ [] → HoldsLine items' is_long (front ++ b ∷ [])
pushed items front b false items' h e = e ∙ ap (λ w. w ++ b ∷ []) h
pushed items front b true items' h e = omega (arith, length-append front (b ∷ []), h)

pub overflowed : (items front : List ℕ) (b : ℕ) (is_long : Bool) (items' : List ℕ) → HoldsLine items is_long front → length items ≡ 257 → HoldsLine items' true (front ++ b ∷ [])
overflowed items front b false items' h e = omega (arith, length-append front (b ∷ []), ap length h)
overflowed items front b true items' h e = omega (arith, length-append front (b ∷ []), h)
