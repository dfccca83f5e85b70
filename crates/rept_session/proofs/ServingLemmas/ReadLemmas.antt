-- How far an input was read, line by line.
use Rattle.std.proofs.Common.{◌≡◌, ◌⊎◌, ℕ, ◌+◌, ◌-◌, ◌<◌, ◌≤◌, length, take, List, [], ◌∷◌, ◌++◌, Bool, true, false, Option, Some, None, IfSome, Ok, Err, MatchOption, MatchBool, cond, inl, inr, refl, sym, ap, subst, ◌∙◌, arith, append_assoc, nat_le}
use Rattle.std.proofs.lemmas.Bool.Decides.{nat_tests}
use Rattle.std.proofs.lemmas.List.{append-nil, length-append}
use Rattle.std.proofs.Math.Seq.{take-append_seam, take-append-add}
use Rattle.std.specs.Io.KnownBytes.{Consumes, IsAtEnd}
use Rattle.rept_ports.specs.Lines.{lines_of, whole_lines, given, GivesLine, EndsInLine, LineStep, SaidLine, EndsInput, FindsLine, FailsRead, PassesLimit}
use Rattle.rept_ports.specs.Bounded.{LinesOn, IsSame, fault_in}
use Rattle.rept_ports.specs.Port.{Port}
use Rattle.rept_ports.specs.Taken.{Taken}
use Rattle.rept_ports.specs.declared.lines.bounded.BoundedLines.{BoundedLines}
use Rattle.rept_ports.specs.declared.lines.limits.LineFault.{LineFault}
use Rattle.rept_ports.proofs.LineLemmas.{Consumes-trans}
use Rattle.rept_session.specs.Serving.Serving.{lines_read, most_input}

clash : false ≡ true → ⊥
clash e = cc

-- where the input tells its bytes
pub where_told : {T : Type 0} (o : Option T) (P : T → Type 0) → ((x : T) → o ≡ Some x → P x) → IfSome o P
where_told None P h = tt
where_told (Some x) P h = h x refl

pub at_some : {T : Type 0} (o : Option T) (x : T) (P : T → Type 0) → o ≡ Some x → IfSome o P → P x
at_some {T} o x P e h = let Q : Option T → Type 0 = λ w. IfSome w P in subst Q e h

-- what follows where the input tells its bytes
pub over : {T : Type 0} (o o' : Option T) (P Q : T → Type 0) → o ≡ o' → IfSome o P → ((x : T) → P x → Q x) → IfSome o' Q
over {T} o o' P Q e h k = let R : Option T → Type 0 = λ w. IfSome w Q in subst R e (where_told o Q (λ x is. k x (at_some o x P is h)))

-- the lines that are read of an input
test_within : (n : ℕ) → n ≤ most_input → nat_le n most_input ≡ true
test_within n h = grind (arith, nat_tests)

test_beyond : (n : ℕ) → most_input < n → nat_le n most_input ≡ false
test_beyond n h = grind (arith, nat_tests)

all_read : (input : List ℕ) → length input ≤ most_input → lines_read input ≡ lines_of input
all_read input h = ap (λ (b : Bool). cond b (lines_of input) (whole_lines (take most_input input))) (test_within (length input) h)

front_read : (input : List ℕ) → most_input < length input → lines_read input ≡ whole_lines (take most_input input)
front_read input h = ap (λ (b : Bool). cond b (lines_of input) (whole_lines (take most_input input))) (test_beyond (length input) h)

-- How far an input was read: taken are the bytes that came, and done the lines that were given.
pub record ReadTo (input : List ℕ) (left : Option (List ℕ)) (intake : Taken) (done : List (List ℕ)) : Type 0 where
  pub taken : List ℕ
  pub from : Consumes (Some input) left taken
  pub count : intake.count ≡ length taken
  pub within : length taken ≤ most_input
  pub lines : intake.ended ≡ false → (more : List ℕ) → lines_of (taken ++ more) ≡ done ++ lines_of (intake.pending ++ more)
  pub whole : intake.ended ≡ false → (more : List ℕ) → whole_lines (taken ++ more) ≡ done ++ whole_lines (intake.pending ++ more)
  pub all : intake.ended ≡ true → (lines_of input ≡ done) × (length input ≤ most_input)

pub none_read : (input : List ℕ) (left : Option (List ℕ)) (intake : Taken) → left ≡ Some input → intake ≡ record { pending = []; count = 0; ended = false } → ReadTo input left intake []
none_read input left intake e h = record {
  taken = [];
  from = rw e refl;
  count = ap (λ t. t.count) h;
  within = omega arith;
  lines = λ _ more. ap (λ t. lines_of (t.pending ++ more)) (sym h);
  whole = λ _ more. ap (λ t. whole_lines (t.pending ++ more)) (sym h);
  all = λ k. let bad : false ≡ true = sym (ap (λ t. t.ended) h) ∙ k in absurd (clash bad);
}

-- the bytes that are left in the end
told_rest : (input taken : List ℕ) (left : Option (List ℕ)) → Consumes (Some input) left taken → (rest : List ℕ) × (left ≡ Some rest) × (input ≡ taken ++ rest)
told_rest input taken None h = absurd h
told_rest input taken (Some rest) h = (rest, refl, h)

told_all : (input taken : List ℕ) (left : Option (List ℕ)) → Consumes (Some input) left taken → IsAtEnd left → input ≡ taken
told_all input taken None h k = absurd h
told_all input taken (Some rest) h k = h ∙ ap (λ w. taken ++ w) k ∙ append-nil taken

-- the lines that are read begin with those of a prefix
begins_with : (input taken rest : List ℕ) (F W : List ℕ → List (List ℕ)) (front : List (List ℕ)) → input ≡ taken ++ rest → length taken ≤ most_input
    → ((more : List ℕ) → lines_of (taken ++ more) ≡ front ++ F more) → ((more : List ℕ) → whole_lines (taken ++ more) ≡ front ++ W more)
    → (b : Bool) → nat_le (length input) most_input ≡ b → (later : List (List ℕ)) × (lines_read input ≡ front ++ later)
begins_with input taken rest F W front parts short lines whole true e =
    (F rest, ap (λ (b : Bool). cond b (lines_of input) (whole_lines (take most_input input))) e ∙ ap lines_of parts ∙ lines rest)
begins_with input taken rest F W front parts short lines whole false e =
    let n : ℕ = most_input - length taken in
    let all : length taken + n ≡ most_input = omega (arith, short) in
    let cut : take most_input input ≡ taken ++ take n rest = ap (λ m. take m input) (sym all) ∙ ap (take (length taken + n)) parts ∙ take-append-add taken rest n in
    (W (take n rest), ap (λ (b : Bool). cond b (lines_of input) (whole_lines (take most_input input))) e ∙ ap whole_lines cut ∙ whole (take n rest))

module _ (input : List ℕ) (source : Port) (intake : Taken) (done : List (List ℕ)) (r : ReadTo input source.bytes intake done) where
  -- the lines that are read begin with those that were given
  given_first : (b : Bool) → intake.ended ≡ b → (later : List (List ℕ)) × (lines_read input ≡ done ++ later)
  given_first true e = let a = r.all e in ([], all_read input a.1 ∙ a.0 ∙ sym (append-nil done))
  given_first false e =
      let t = told_rest input r.taken source.bytes r.from in
      begins_with input r.taken t.0 (λ more. lines_of (intake.pending ++ more)) (λ more. whole_lines (intake.pending ++ more)) done t.2 r.within (r.lines e) (r.whole e) (nat_le (length input) most_input) refl

  pub read_first : (later : List (List ℕ)) × (lines_read input ≡ done ++ later)
  read_first = given_first intake.ended refl

  module _ (source' : Port) (intake' : Taken) (going : intake.ended ≡ false) where
    on : (got : List ℕ) → Consumes source.bytes source'.bytes got → Consumes (Some input) source'.bytes (r.taken ++ got)
    on got h = Consumes-trans (Some input) source.bytes source'.bytes r.taken got r.from h

    lines_with : (got more : List ℕ) → lines_of ((r.taken ++ got) ++ more) ≡ done ++ lines_of ((intake.pending ++ got) ++ more)
    lines_with got more = ap lines_of (append_assoc r.taken got more) ∙ r.lines going (got ++ more) ∙ ap (λ w. done ++ lines_of w) (sym (append_assoc intake.pending got more))

    whole_with : (got more : List ℕ) → whole_lines ((r.taken ++ got) ++ more) ≡ done ++ whole_lines ((intake.pending ++ got) ++ more)
    whole_with got more = ap whole_lines (append_assoc r.taken got more) ∙ r.whole going (got ++ more) ∙ ap (λ w. done ++ whole_lines w) (sym (append_assoc intake.pending got more))

    lines_all : (got : List ℕ) → lines_of (r.taken ++ got) ≡ done ++ lines_of (intake.pending ++ got)
    lines_all got = ap lines_of (sym (append-nil (r.taken ++ got))) ∙ lines_with got [] ∙ ap (λ w. done ++ lines_of w) (append-nil (intake.pending ++ got))

    whole_all : (got : List ℕ) → whole_lines (r.taken ++ got) ≡ done ++ whole_lines (intake.pending ++ got)
    whole_all got = ap whole_lines (sym (append-nil (r.taken ++ got))) ∙ whole_with got [] ∙ ap (λ w. done ++ whole_lines w) (append-nil (intake.pending ++ got))

    counted : (got : List ℕ) → intake'.count ≡ intake.count + length got → intake'.count ≡ length (r.taken ++ got)
    counted got n = omega (arith, n, r.count, length-append r.taken got)

    -- one more line was given
    one_line : (said : Option (List ℕ)) (t : FindsLine intake intake' source source' said) → GivesLine (intake.pending ++ t.got) intake' t.line ⊎ EndsInLine (intake.pending ++ t.got) intake' source'.bytes t.line → ReadTo input source'.bytes intake' (done ++ t.line ∷ [])
    one_line said t (inl g) = record {
      taken = r.taken ++ t.got;
      from = on t.got t.took.consumed;
      count = counted t.got t.took.count;
      within = omega (arith, counted t.got t.took.count, t.took.within);
      lines = λ _ more. lines_with t.got more ∙ ap (λ w. done ++ w) (g.next more) ∙ sym (append_assoc done (t.line ∷ []) (lines_of (intake'.pending ++ more)));
      whole = λ _ more. whole_with t.got more ∙ ap (λ w. done ++ w) (g.whole more) ∙ sym (append_assoc done (t.line ∷ []) (whole_lines (intake'.pending ++ more)));
      all = λ k. absurd (clash (sym g.going ∙ k));
    }
    one_line said t (inr g) =
        let everything : input ≡ r.taken ++ t.got = told_all input (r.taken ++ t.got) source'.bytes (on t.got t.took.consumed) g.at_end in
        record {
          taken = r.taken ++ t.got;
          from = on t.got t.took.consumed;
          count = counted t.got t.took.count;
          within = omega (arith, counted t.got t.took.count, t.took.within);
          lines = λ k more. absurd (clash (sym k ∙ g.ended));
          whole = λ k more. absurd (clash (sym k ∙ g.ended));
          all = λ k. (ap lines_of everything ∙ lines_all t.got ∙ ap (λ w. done ++ w) g.last, omega (arith, counted t.got t.took.count, t.took.within, ap length everything));
        }

    pub read_line_on : (said : Option (List ℕ)) → FindsLine intake intake' source source' said → (l : List ℕ) × (given l ≡ said) × ReadTo input source'.bytes intake' (done ++ l ∷ [])
    read_line_on said t = (t.line, t.told, one_line said t t.next)

    -- the input ended
    pub read_end : EndsInput intake intake' source source' → (length input ≤ most_input) × (lines_read input ≡ done)
    read_end t =
        let everything : input ≡ r.taken ++ t.got = told_all input (r.taken ++ t.got) source'.bytes (on t.got t.took.consumed) t.at_end in
        let short : length input ≤ most_input = omega (arith, counted t.got t.took.count, t.took.within, ap length everything) in
        (short, all_read input short ∙ ap lines_of everything ∙ lines_all t.got ∙ ap (λ w. done ++ lines_of w) t.nothing ∙ append-nil done)

    -- the source failed
    pub read_fails : FailsRead intake intake' source source' → (taken : List ℕ) × (rest : List ℕ) × (source'.bytes ≡ Some rest) × (input ≡ taken ++ rest) × (length taken ≤ most_input) × (whole_lines taken ≡ done)
    read_fails t =
        let more = told_rest input (r.taken ++ t.got) source'.bytes (on t.got t.took.consumed) in
        (r.taken ++ t.got, more.0, more.1, more.2, omega (arith, counted t.got t.took.count, t.took.within), whole_all t.got ∙ ap (λ w. done ++ w) t.none_whole ∙ append-nil done)

    -- there is more input than may be taken
    pub read_too_much : PassesLimit intake intake' source source' → (most_input < length input) × (lines_read input ≡ done)
    read_too_much t =
        let taken : List ℕ = r.taken ++ t.got in
        let more = told_rest input (r.taken ++ (t.got ++ t.extra ∷ [])) source'.bytes (on (t.got ++ t.extra ∷ []) t.consumed) in
        let rest : List ℕ = t.extra ∷ more.0 in
        let parts : input ≡ taken ++ rest = more.2 ∙ simp append_assoc in
        let full : length taken ≡ most_input = omega (arith, counted t.got t.count, t.full) in
        let front : take most_input input ≡ taken = ap (λ n. take n input) (sym full) ∙ ap (take (length taken)) parts ∙ take-append_seam taken rest in
        let long : most_input < length input = omega (arith, ap length parts, length-append taken rest, full) in
        (long, front_read input long ∙ ap whole_lines front ∙ whole_all t.got ∙ ap (λ w. done ++ w) t.none_whole ∙ append-nil done)

-- the end had been seen before
pub ended_before : (input : List ℕ) (left : Option (List ℕ)) (intake : Taken) (done : List (List ℕ)) → ReadTo input left intake done → intake.ended ≡ true → (length input ≤ most_input) × (lines_read input ≡ done)
ended_before input left intake done r e = let a = r.all e in (a.1, all_read input a.1 ∙ a.0)

-- what a call of `next_line` did, before any fault
module _ {S : Type 0} (port : S → Port) (lines lines' : BoundedLines S) (none : lines.fault ≡ None) where
  abbrev Steps : SaidLine → Type 0
  Steps said = LineStep lines.intake lines'.intake (port lines.source.now) (port lines'.source.now) said × (lines'.fault ≡ fault_in said)

  abbrev By : SaidLine → Type 0
  By said = MatchBool lines.intake.ended ((said ≡ Ok None) × IsSame lines lines') (Steps said)

  on_by : (said : SaidLine) (f : Option LineFault) → f ≡ None → MatchOption f (By said) (λ e. (said ≡ Err e) × IsSame lines lines') → By said
  on_by said None e h = h
  on_by said (Some f) e h = let bad : ⊥ = cc in absurd bad

  not_ended : (said : SaidLine) (b : Bool) → (said ≡ Ok None → ⊥) → MatchBool b ((said ≡ Ok None) × IsSame lines lines') (Steps said) → (b ≡ false) × Steps said
  not_ended said true ne h = absurd (ne h.0)
  not_ended said false ne h = (refl, h)

  stepped : (said : SaidLine) → (said ≡ Ok None → ⊥) → LinesOn port lines lines' said → (lines.intake.ended ≡ false) × Steps said
  stepped said ne h = not_ended said lines.intake.ended ne (on_by said lines.fault none h)

  some_is_no_end : (x : Option (List ℕ)) (said : SaidLine) → said ≡ Ok (Some x) → said ≡ Ok None → ⊥
  some_is_no_end x said e h = cc

  fault_is_no_end : (f : LineFault) (said : SaidLine) → said ≡ Err f → said ≡ Ok None → ⊥
  fault_is_no_end f said e h = cc

  -- the end had not been seen, and this was said
  abbrev pub Came : SaidLine → Type 0
  Came said = (lines.intake.ended ≡ false) × LineStep lines.intake lines'.intake (port lines.source.now) (port lines'.source.now) said × (lines'.fault ≡ fault_in said)

  pub line_came : (said : SaidLine) (x : Option (List ℕ)) → said ≡ Ok (Some x) → LinesOn port lines lines' said → Came (Ok (Some x))
  line_came said x e h = let t = stepped said (some_is_no_end x said e) h in subst Came e (t.0, t.1.0, t.1.1)

  pub fault_came : (said : SaidLine) (f : LineFault) → said ≡ Err f → LinesOn port lines lines' said → Came (Err f)
  fault_came said f e h = let t = stepped said (fault_is_no_end f said e) h in subst Came e (t.0, t.1.0, t.1.1)

  pub end_came : (said : SaidLine) → said ≡ Ok None → LinesOn port lines lines' said
      → MatchBool lines.intake.ended (Unit {0}) (EndsInput lines.intake lines'.intake (port lines.source.now) (port lines'.source.now))
  end_came said e h = by_end lines.intake.ended ((said : SaidLine) × (said ≡ Ok None) × IsSame lines lines') (wider lines.intake.ended (on_by said lines.fault none h))
    where
      wider : (b : Bool) → MatchBool b ((said ≡ Ok None) × IsSame lines lines') (Steps said) → MatchBool b ((said : SaidLine) × (said ≡ Ok None) × IsSame lines lines') (Steps (Ok None))
      wider true k = (said, k.0, k.1)
      wider false k = subst Steps e (k.0, k.1)

      by_end : (b : Bool) (P : Type 0) → MatchBool b P (Steps (Ok None)) → MatchBool b (Unit {0}) (EndsInput lines.intake lines'.intake (port lines.source.now) (port lines'.source.now))
      by_end true P k = tt
      by_end false P k = k.0
