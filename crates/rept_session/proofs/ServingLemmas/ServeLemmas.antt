-- A session so far, and what one line more or its end makes of it.
use Rattle.std.proofs.Common.{◌≡◌, ℕ, ◌+◌, ◌≤◌, length, take, List, [], ◌∷◌, ◌++◌, Bool, true, false, ◌||◌, Option, Some, None, IfSome, Result, Ok, Err, MatchBool, cond, inl, inr, refl, sym, ap, subst, ◌∙◌, arith, append_assoc, nat_lt}
use Rattle.std.proofs.lemmas.List.{length-append}
use Rattle.std.proofs.Math.Seq.{take-append_seam, take-append-add}
use Rattle.std.specs.Io.KnownBytes.{Appends}
use Rattle.rept_ports.specs.Bounded.{said_by as line_said_by}
use Rattle.rept_ports.specs.Causes.{AppendsPrefix}
use Rattle.rept_ports.specs.Lines.{given, EndsInput, FindsLine, FailsRead, PassesLimit}
use Rattle.rept_ports.specs.Port.{Port, move}
use Rattle.rept_ports.specs.Taken.{Taken}
use Rattle.rept_ports.specs.declared.lines.limits.Line.{Line}
use Rattle.rept_ports.specs.declared.lines.limits.Line.TheVariants as line
use Rattle.rept_ports.specs.declared.lines.limits.LineFault.{LineFault}
use Rattle.rept_ports.proofs.CallerLemmas.{Appends-nothing, Appends-trans}
use Rattle.rept_session.specs.Commands.{command_of_words}
use Rattle.rept_session.specs.Session.{HasAnswered, IsReply, IsSession, cursor_of, ends, is_quit_line, said_at}
use Rattle.rept_session.specs.SessionLaws.{begun, answered_more, quits_alike, session_over, session_quit}
use Rattle.rept_findings.specs.Shown.{SessionTold, Shown}
use Rattle.rept_session.specs.Texts.{last_of}
use Rattle.rept_findings.specs.declared.place.ThreadPoint.{ThreadPoint}
use Rattle.rept_session.specs.Words.{words_in}
use Rattle.rept_session.specs.declared.command.BadCommand.TheVariants.{LongLine}
use Rattle.rept_session.specs.Serving.Replies.{Replied, FailsReply, said_by, said_of_line}
use Rattle.rept_session.specs.Serving.Serving.{Reading, Serves, FirstAnswers, has_quit, lines_read, most_input}
use Rattle.rept_session.specs.declared.serving.serving.Served.{Served}
use Rattle.rept_session.specs.declared.serving.serving.Served.TheVariants as served
use Rattle.rept_session.proofs.ServingLemmas.ReadLemmas.{ReadTo, none_read, read_first, read_line_on, read_end, read_fails, read_too_much, ended_before, where_told, over}

abbrev pub reading_of : List ℕ → Option (List ℕ) → Reading
reading_of input left = record { input = input; left = left }

-- what is given of a line says which command it is
pub said_given : (s : Shown) (c : ThreadPoint) (l : List ℕ) → said_by s c (given l) ≡ said_at s c l
said_given s c l = at (nat_lt 256 (length l)) refl
  where
    at : (b : Bool) → nat_lt 256 (length l) ≡ b → said_by s c (cond b None (Some l)) ≡ said_at s c l
    at true e = sym (ap (λ (b : Bool). cond b (Err LongLine) (command_of_words s.address_named (length (s.rows c.thread)) s.threads (words_in l))) e)
    at false e = refl

-- whether it ends the session
quit_at : (s : Shown) (c : ThreadPoint) (l : List ℕ) (b : Bool) → ends (said_at s c l) ≡ b → is_quit_line l ≡ b
quit_at s c l b e = quits_alike (λ name. None) 0 1 s.address_named (length (s.rows c.thread)) s.threads l ∙ e

no_quit_more : (done : List (List ℕ)) (l : List ℕ) → has_quit done ≡ false → is_quit_line l ≡ false → has_quit (done ++ l ∷ []) ≡ false
no_quit_more [] l h e = rw e refl
no_quit_more (d ∷ done) l h e = by_test (is_quit_line d) h (λ k. no_quit_more done l k e)
  where
    by_test : (b : Bool) → (b || has_quit done) ≡ false → (has_quit done ≡ false → has_quit (done ++ l ∷ []) ≡ false) → (b || has_quit (done ++ l ∷ [])) ≡ false
    by_test true h k = let bad : true ≡ false = h in let no : ⊥ = cc in absurd no
    by_test false h k = k h

quit_there : (done : List (List ℕ)) (l : List ℕ) (later : List (List ℕ)) → is_quit_line l ≡ true → has_quit (done ++ l ∷ later) ≡ true
quit_there [] l later e = rw e refl
quit_there (d ∷ done) l later e = by_test (is_quit_line d) (quit_there done l later e)
  where
    by_test : (b : Bool) → has_quit (done ++ l ∷ later) ≡ true → (b || has_quit (done ++ l ∷ later)) ≡ true
    by_test true k = refl
    by_test false k = k

-- A session so far: its answers to the lines that were given are written, and none of these is
-- `quit`.
pub record SoFar (t : SessionTold) (input : List ℕ) (left : Option (List ℕ)) (intake : Taken) (cursor : ThreadPoint) (old new : Option (List ℕ)) : Type 0 where
  pub done : List (List ℕ)
  pub read : ReadTo input left intake done
  pub goes_on : has_quit done ≡ false
  pub written : List ℕ
  pub answered : HasAnswered t (last_of t.shown 0) done written cursor
  pub text : Appends old new written

pub starts : (t : SessionTold) (o : Option (List ℕ)) (intake : Taken) (cursor : ThreadPoint) (old : Option (List ℕ)) → intake ≡ record { pending = []; count = 0; ended = false } → cursor ≡ last_of t.shown 0 → IfSome o (λ input. SoFar t input o intake cursor old old)
starts t o intake cursor old h at = where_told o (λ input. SoFar t input o intake cursor old old) (λ input told. record {
  done = [];
  read = none_read input o intake told h;
  goes_on = refl;
  written = [];
  answered = subst (λ (n : ThreadPoint). HasAnswered t (last_of t.shown 0) [] [] n) (sym at) (begun t (last_of t.shown 0));
  text = Appends-nothing old;
})

-- a prefix of what follows
prefix_after : (old mid new : Option (List ℕ)) (front whole : List ℕ) → Appends old mid front → AppendsPrefix mid new whole → AppendsPrefix old new (front ++ whole)
prefix_after old mid new front whole h p = (
  length front + p.0,
  omega (arith, length-append front whole, p.1),
  subst (Appends old new) (sym (take-append-add front whole p.0)) (Appends-trans old mid new front (take p.0 whole) h p.2),
)

module _ (t : SessionTold) (input : List ℕ) (source source' : Port) (intake intake' : Taken) (cursor : ThreadPoint) (old mid : Port) (so_far : SoFar t input source.bytes intake cursor old.bytes mid.bytes) where
  abbrev start : ThreadPoint
  start = last_of t.shown 0

  abbrev Here : Port → Served → Type 0
  Here new result = Serves t (reading_of input source'.bytes) (move old new) result

  answers_done : IsSession t start so_far.done so_far.written
  answers_done = session_over t start so_far.done so_far.written cursor so_far.answered

  answers_read : lines_read input ≡ so_far.done → IsSession t start (lines_read input) so_far.written
  answers_read e = subst (λ ls. IsSession t start ls so_far.written) (sym e) answers_done

  no_quit_read : lines_read input ≡ so_far.done → has_quit (lines_read input) ≡ false
  no_quit_read e = ap has_quit e ∙ so_far.goes_on

  -- the end of the input
  ends_so : (length input ≤ most_input) × (lines_read input ≡ so_far.done) → Here mid served.Ended
  ends_so e = inl (so_far.written, record { whole = inl e.0; answers = answers_read e.1 }, so_far.text)

  pub at_end : MatchBool intake.ended (Unit {0}) (EndsInput intake intake' source source') → Here mid served.Ended
  at_end h = by_end intake.ended refl h
    where
      by_end : (b : Bool) → intake.ended ≡ b → MatchBool b (Unit {0}) (EndsInput intake intake' source source') → Here mid served.Ended
      by_end true e h = ends_so (ended_before input source.bytes intake so_far.done so_far.read e)
      by_end false e h = ends_so (read_end input source intake so_far.done so_far.read source' intake' e h)

  -- the first lines were answered
  first_done : (later : List (List ℕ)) → lines_read input ≡ so_far.done ++ later → FirstAnswers t input so_far.written
  first_done later read =
      let these : take (length so_far.done) (lines_read input) ≡ so_far.done = ap (take (length so_far.done)) read ∙ take-append_seam so_far.done later in
      record { count = length so_far.done; goes_on = ap has_quit these ∙ so_far.goes_on; answers = subst (λ ls. IsSession t start ls so_far.written) (sym these) answers_done }

  module _ (going : intake.ended ≡ false) where
    -- the source failed
    pub at_fault : FailsRead intake intake' source source' → Here mid served.ReadFault
    at_fault f =
        let r = read_fails input source intake so_far.done so_far.read source' intake' going f in
        inl (
          so_far.written,
          record {
            taken = r.0;
            rest = r.1;
            parts = r.3;
            rest_left = r.2;
            within = r.4;
            goes_on = ap has_quit r.5 ∙ so_far.goes_on;
            answers = subst (λ ls. IsSession t start ls so_far.written) (sym r.5) answers_done;
          },
          so_far.text,
        )

    -- there is too much input
    pub at_too_much : PassesLimit intake intake' source source' → Here mid served.TooMuchInput
    at_too_much f =
        let r = read_too_much input source intake so_far.done so_far.read source' intake' going f in
        inl (so_far.written, record { long = r.0; goes_on = no_quit_read r.1; answers = answers_read r.1 }, so_far.text)

    module _ (said : Option (List ℕ)) (f : FindsLine intake intake' source source' said) where
      abbrev This : Type 0
      This = (l : List ℕ) × (given l ≡ said) × ReadTo input source'.bytes intake' (so_far.done ++ l ∷ [])

      abbrev this : This
      this = read_line_on input source intake so_far.done so_far.read source' intake' going said f

      said_here : said_by t.shown cursor said ≡ said_at t.shown cursor this.0
      said_here = ap (said_by t.shown cursor) (sym this.1) ∙ said_given t.shown cursor this.0

      quit_here : (b : Bool) → ends (said_by t.shown cursor said) ≡ b → is_quit_line this.0 ≡ b
      quit_here b e = quit_at t.shown cursor this.0 b (ap ends (sym said_here) ∙ e)

      -- the answer to the line was written, and the session goes on
      pub line_on : (new : Port) (now : ThreadPoint) → Replied t cursor said (move mid new) now → SoFar t input source'.bytes intake' now old.bytes new.bytes
      line_on new now h =
          let goes : ends (said_at t.shown cursor this.0) ≡ false = ap ends (sym said_here) ∙ h.goes_on in
          let answer : IsReply t cursor (said_at t.shown cursor this.0) h.reply = subst (λ x. IsReply t cursor x h.reply) said_here h.answers in
          let at : now ≡ cursor_of t.shown cursor (said_at t.shown cursor this.0) = h.moved ∙ ap (cursor_of t.shown cursor) said_here in
          record {
            done = so_far.done ++ this.0 ∷ [];
            read = this.2;
            goes_on = no_quit_more so_far.done this.0 so_far.goes_on (quit_here false h.goes_on);
            written = so_far.written ++ h.reply;
            answered = subst (λ (n : ThreadPoint). HasAnswered t start (so_far.done ++ this.0 ∷ []) (so_far.written ++ h.reply) n) (sym at) (answered_more t start so_far.done so_far.written cursor so_far.answered this.0 h.reply goes answer);
            text = Appends-trans old.bytes mid.bytes new.bytes so_far.written h.reply so_far.text h.wrote;
          }

      -- the lines that are read go on with this one
      these : (later : List (List ℕ)) × (lines_read input ≡ so_far.done ++ this.0 ∷ later)
      these = let l = read_first input source' intake' (so_far.done ++ this.0 ∷ []) this.2 in (l.0, l.1 ∙ append_assoc so_far.done (this.0 ∷ []) l.0)

      -- the line is `quit`
      pub at_quit : (new : Port) → new ≡ mid → ends (said_by t.shown cursor said) ≡ true → Here new served.Ended
      at_quit new same e =
          let over : ends (said_at t.shown cursor this.0) ≡ true = ap ends (sym said_here) ∙ e in
          let l = these in
          subst (λ (p : Port). Here p served.Ended) (sym same) (inl (
            so_far.written,
            record {
              whole = inr (ap has_quit l.1 ∙ quit_there so_far.done this.0 l.0 (quit_here true e));
              answers = subst (λ ls. IsSession t start ls so_far.written) (sym l.1) (session_quit t start so_far.done so_far.written cursor so_far.answered this.0 l.0 over);
            },
            so_far.text,
          ))

      -- there is no memory for the answer
      pub at_no_memory : (new : Port) → new ≡ mid → Here new served.OutOfMemory
      at_no_memory new same = let l = read_first input source intake so_far.done so_far.read in subst (λ (p : Port). Here p served.OutOfMemory) (sym same) (inl (so_far.written, first_done l.0 l.1, so_far.text))

      -- the output failed in the answer
      pub at_output_fault : (new : Port) → FailsReply t cursor said (move mid new) → Here new served.OutputFault
      at_output_fault new h =
          let goes : ends (said_at t.shown cursor this.0) ≡ false = ap ends (sym said_here) ∙ h.goes_on in
          let answer : IsReply t cursor (said_at t.shown cursor this.0) h.reply = subst (λ x. IsReply t cursor x h.reply) said_here h.answers in
          let all : List (List ℕ) = so_far.done ++ this.0 ∷ [] in
          let l = read_first input source' intake' all this.2 in
          let first : take (length all) (lines_read input) ≡ all = ap (take (length all)) l.1 ∙ take-append_seam all l.0 in
          let told = session_over t start all (so_far.written ++ h.reply) (cursor_of t.shown cursor (said_at t.shown cursor this.0)) (answered_more t start so_far.done so_far.written cursor so_far.answered this.0 h.reply goes answer) in
          inr (
            refl,
            (
              so_far.written ++ h.reply,
              record {
                count = length all;
                goes_on = ap has_quit first ∙ no_quit_more so_far.done this.0 so_far.goes_on (quit_here false h.goes_on);
                answers = subst (λ ls. IsSession t start ls (so_far.written ++ h.reply)) (sym first) told;
              },
              prefix_after old.bytes mid.bytes new.bytes so_far.written h.reply so_far.text h.wrote,
            ),
          )

pub line_said : (r : Result (Option Line) LineFault) (o : Option Line) (l : Line) → r ≡ Ok o → o ≡ Some l → line_said_by r ≡ Ok (Some (said_of_line l))
line_said r o l e h = ap line_said_by (e ∙ ap Ok h) ∙ at_line l
  where
    at_line : (l : Line) → line_said_by (Ok (Some l)) ≡ Ok (Some (said_of_line l))
    at_line (line.Text t) = refl
    at_line line.Long = refl

pub end_said : (r : Result (Option Line) LineFault) (o : Option Line) → r ≡ Ok o → o ≡ None → line_said_by r ≡ Ok None
end_said r o e h = ap line_said_by (e ∙ ap Ok h)

pub fault_said : (r : Result (Option Line) LineFault) (f g : LineFault) → r ≡ Err f → f ≡ g → line_said_by r ≡ Err g
fault_said r f g e h = ap line_said_by (e ∙ ap Err h)

-- what a session delivers, where the input tells its bytes
pub served_so : {S : Type 0} (port : S → Port) (t : SessionTold) (o o' left : Option (List ℕ)) (now final : S) (intake : Taken) (cursor : ThreadPoint) (old mid new : Port) (result : Served) → o ≡ o' → final ≡ now
    → IfSome o (λ input. SoFar t input left intake cursor old.bytes mid.bytes)
    → ((input : List ℕ) → SoFar t input left intake cursor old.bytes mid.bytes → Serves t (reading_of input (port now).bytes) (move old new) result)
    → IfSome o' (λ input. Serves t (reading_of input (port final).bytes) (move old new) result)
served_so {S} port t o o' left now final intake cursor old mid new result e at h k =
    over o o' (λ input. SoFar t input left intake cursor old.bytes mid.bytes) (λ input. Serves t (reading_of input (port final).bytes) (move old new) result) e h
    (λ input so_far. let P : S → Type 0 = λ x. Serves t (reading_of input (port x).bytes) (move old new) result in subst P (sym at) (k input so_far))
