-- Each line of a session is true of an execution, of which all that is told is true.
use Rattle.std.proofs.Common.{◌≡◌, ℕ, Bool, true, false, List, [], ◌∷◌, ◌++◌, length, Ok, Err, IfOk, MatchBool, ap, ◌∙◌, arith}
use Rattle.rept_findings.specs.Shown.{IsThreadPoint, SessionTold, Shown, moment_at, number}
use Rattle.rept_findings.specs.declared.place.ThreadPoint.{ThreadPoint}
use Rattle.rept_session.specs.Commands.{IsCommandWithin}
use Rattle.rept_session.specs.Session.{IsDivided, IsReply, IsSession, Said, cursor_of, ends, said_at}
use Rattle.rept_session.specs.Texts.{IsAnswered, IsText, cursor_after}
use Rattle.rept_session.specs.declared.command.Command.{Command}
use Rattle.rept_session.specs.declared.command.Command.TheVariants as command
use Rattle.rept_session.specs.declared.question.Question.{Question}
use Rattle.rept_session.specs.declared.question.Question.TheVariants as question
use Rattle.rept_session.proofs.WithinLemmas.{command_within}
use Rattle.rept_app.specs.TrueLines.{AreLinesTrue, IsLineTrue, IsReplyTrue, IsReplyToQuestionTrue}
use Rattle.rept_app.specs.TrueValues.{ExecutionHeld}
use Rattle.rept_app.proofs.HeldPoints.{IsHeldAt, bytes_are, registers_are, writer_is, writer_told}
use Rattle.rept_app.proofs.FindLemmas.{find_true}
use Rattle.rept_app.proofs.ReasonLineLemmas.{AreReasonsTrue, why_byte, why_register}
use Rattle.rept_app.proofs.StepLemmas.{at_true, around_true}
use Rattle.rept_app.proofs.TrailLineLemmas.{from_byte_true, from_register_true, lost_byte_true, lost_register_true}
use Rattle.rept_app.proofs.WriterLineLemmas.{writers_true}

module _ (t : SessionTold) (x : ExecutionHeld) (all : (c : ThreadPoint) → IsThreadPoint t.shown c → IsHeldAt t.shown c (x.at c)) (because : AreReasonsTrue t x) where
  question_true : (c : ThreadPoint) (text : List ℕ) → IsThreadPoint t.shown c → (q : Question) → IsAnswered t.shown c q text → IsReplyToQuestionTrue x.at t.shown c q text
  question_true c text is question.At e = at_true t.shown x.at all c text is e
  question_true c text is (question.Around count) e = around_true t.shown x.at all c count text is e
  question_true c text is (question.Visits address) e = tt
  question_true c text is (question.Find r value) e = find_true t.shown x.at all c r value text is e
  question_true c text is question.Pc e = tt
  question_true c text is question.Recent e = tt
  question_true c text is (question.FromRegister r) e = from_register_true t.shown x.at all c r text is e
  question_true c text is (question.FromByte a) e = from_byte_true t.shown x.at all c a text is e
  question_true c text is (question.Writers a count) e = writers_true t.shown x.at all c a count text is e
  question_true c text is question.Premises e = tt
  question_true c text is (question.Calls count) e = tt
  question_true c text is (question.LostRegister r) e = lost_register_true t.shown x.at all c r text is e
  question_true c text is (question.LostByte a) e = lost_byte_true t.shown x.at all c a text is e
  question_true c text is question.Help e = tt

  line_true : (c : ThreadPoint) (text : List ℕ) → IsThreadPoint t.shown c → (k : Command) → IsText t c k text → IsLineTrue x t.shown c k text
  line_true c text is (command.Reg r) e = (t.shown.register (number t.shown c) r, (all c is).registers r, e)
  line_true c text is command.Regs e = registers_are t.shown c (x.at c) text (all c is) e
  line_true c text is (command.Range r) e = record {
    range = t.shown.range (number t.shown c) r;
    note = t.shown.note (number t.shown c) r;
    from = ((all c is).ranges r).0;
    to = ((all c is).ranges r).1;
    bits = (all c is).notes r;
    is = e;
  }
  line_true c text is (command.Mem address count) e = bytes_are t.shown c (x.at c) address count text (all c is) e
  line_true c text is (command.Writer a) e = λ small. (writer_told t.shown (t.shown.writer (moment_at t.shown c) a), (all c is).writers a small, e ∙ ap (λ (ws : List ℕ). ws ++ 10 ∷ []) (writer_is t.shown (t.shown.writer (moment_at t.shown c) a)))
  line_true c text is command.Where e = tt
  line_true c text is (command.Back k) e = tt
  line_true c text is (command.Fwd k) e = tt
  line_true c text is (command.Goto i) e = tt
  line_true c text is (command.WhyReg r) e = why_register t x because c r text e
  line_true c text is (command.WhyByte a) e = why_byte t x because c a text e
  line_true c text is (command.List first count) e = tt
  line_true c text is (command.Thread thread) e = tt
  line_true c text is command.Stack e = tt
  line_true c text is command.Summary e = tt
  line_true c text is command.Quit e = tt
  line_true c text is command.Nothing e = tt
  line_true c text is (command.Ask question) e = question_true c text is question e

module _ (s : Shown) where
  -- the cursor stays at a point of a thread
  stays : (c : ThreadPoint) → IsThreadPoint s c → (k : Command) → IsCommandWithin (length (s.rows c.thread)) s.threads k → IsThreadPoint s (cursor_after s c k)
  stays c is (command.Thread t) within = (within, omega arith)
  stays c is (command.Back k) within = let few = is.1 in (is.0, omega (arith, few))
  stays c is (command.Fwd k) within = (is.0, omega arith)
  stays c is (command.Goto i) within = (is.0, within)
  stays c is command.Where within = is
  stays c is command.Regs within = is
  stays c is (command.Reg r) within = is
  stays c is (command.Range r) within = is
  stays c is (command.Mem address count) within = is
  stays c is (command.Writer a) within = is
  stays c is (command.WhyReg r) within = is
  stays c is (command.WhyByte a) within = is
  stays c is (command.List first count) within = is
  stays c is command.Stack within = is
  stays c is command.Summary within = is
  stays c is command.Quit within = is
  stays c is command.Nothing within = is
  stays c is (command.Ask question) within = is

  stays_by : (c : ThreadPoint) → IsThreadPoint s c → (said : Said) → IfOk said (IsCommandWithin (length (s.rows c.thread)) s.threads) → IsThreadPoint s (cursor_of s c said)
  stays_by c is (Ok k) within = stays c is k within
  stays_by c is (Err refusal) within = is

  pub stays_after : (c : ThreadPoint) → IsThreadPoint s c → (line : List ℕ) → IsThreadPoint s (cursor_of s c (said_at s c line))
  stays_after c is line = stays_by c is (said_at s c line) (command_within s.address_named (length (s.rows c.thread)) s.threads line)

module _ (t : SessionTold) (x : ExecutionHeld) (all : (c : ThreadPoint) → IsThreadPoint t.shown c → IsHeldAt t.shown c (x.at c)) (because : AreReasonsTrue t x) where
  reply_true : (c : ThreadPoint) (said : Said) (text : List ℕ) → IsThreadPoint t.shown (cursor_of t.shown c said) → IsReply t c said text → IsReplyTrue x t.shown c said text
  reply_true c (Ok k) text is e = line_true t x all because (cursor_after t.shown c k) text is k e
  reply_true c (Err refusal) text is e = e

  goes_on : (over : Bool) (text : List ℕ) (F F' G G' : List ℕ → Type 0) → ((first : List ℕ) → F first → F' first) → ((rest : List ℕ) → G rest → G' rest) → MatchBool over (text ≡ []) (IsDivided text F G) → MatchBool over (text ≡ []) (IsDivided text F' G')
  goes_on true text F F' G G' f g h = h
  goes_on false text F F' G G' f g h = record { first = h.first; rest = h.rest; parts = h.parts; answers = f h.first h.answers; follows = g h.rest h.follows }

  pub lines_true : (c : ThreadPoint) → IsThreadPoint t.shown c → (lines : List (List ℕ)) (text : List ℕ) → IsSession t c lines text → AreLinesTrue x t.shown c lines text
  lines_true c is [] text h = h
  lines_true c is (line ∷ lines) text h =
      let there = stays_after t.shown c is line in
      goes_on (ends (said_at t.shown c line)) text (IsReply t c (said_at t.shown c line)) (IsReplyTrue x t.shown c (said_at t.shown c line)) (IsSession t (cursor_of t.shown c (said_at t.shown c line)) lines)
      (AreLinesTrue x t.shown (cursor_of t.shown c (said_at t.shown c line)) lines)
      (λ first e. reply_true c (said_at t.shown c line) first there e) (λ rest e. lines_true (cursor_of t.shown c (said_at t.shown c line)) there lines rest e) h
