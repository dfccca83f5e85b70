-- The lines that a session prints of a run are true, line by line.
use Rattle.std.proofs.Common.{◌≡◌, ◌≢◌, ◌⊎◌, Bool, true, false, ℕ, zero, suc, ◌+◌, ◌<◌, ◌≤◌, List, [], ◌∷◌, length, Option, Some, None, inl, inr, refl, sym, ap, ◌∙◌, subst, arith, zero-add}
use Rattle.std.specs.Prelude.{bit_and, if◌then◌else◌, nat_le, ◌==◌, ◌&&◌}
use Rattle.std.proofs.lemmas.Bool.{eqb-true}
use Rattle.std.proofs.lemmas.List.Elements.{All-weaker}
use Rattle.rept_isa.specs.declared.row.StepRow.{StepRow}
use Rattle.rept_machine.specs.State.{State}
use Rattle.rept_narrow.specs.Admitted.{IsAdmitted}
use Rattle.rept_reason.specs.declared.fact.Fact.{Fact}
use Rattle.rept_reason.specs.declared.fact.Cell.{Cell}
use Rattle.rept_reason.specs.declared.fact.Cell.TheVariants.{Register, Byte}
use Rattle.rept_reason.specs.declared.reason.RangePremise.{RangePremise}
use Rattle.rept_reason.specs.Facts.{In, Knowledge, register_known}
use Rattle.rept_report.specs.Closure.{Derivation, IsReport}
use Rattle.rept_report.specs.Setting.{IsInstant, Setting}
use Rattle.rept_report.specs.Why.{Because, IsGiven, IsReason}
use Rattle.rept_analysis.specs.Logged.{IsLogOf}
use Rattle.rept_report.specs.OneThread.{ThreadPath, path_setting}
use Rattle.rept_report.specs.Spots.{spot}
use Rattle.rept_report.specs.declared.writer.Writer as told
use Rattle.rept_steps.specs.Course.{IsSoundCourse}
use Rattle.rept_steps.specs.Runs.{course_of}
use Rattle.rept_order.specs.History.{History}
use Rattle.rept_order.specs.Moments.{Moment}
use Rattle.rept_order.specs.Points.{memory_at}
use Rattle.rept_order.specs.Writers.{Writer, WriterHoldsInHistory}
use Rattle.rept_order.specs.Legs.{points_before}
use Rattle.rept_moments.specs.Seen.{seen}
use Rattle.rept_moments.proofs.NamingLemmas.Naming.{points_next}
use Rattle.rept_findings.specs.LastWriters.{named_row}
use Rattle.rept_findings.specs.Shown.{IsThreadPoint, Shown, moment_at, number}
use Rattle.rept_findings.specs.declared.place.Place.TheVariants as places
use Rattle.rept_findings.specs.declared.place.ThreadPlace.{ThreadPlace}
use Rattle.rept_findings.specs.declared.place.ThreadPoint.{ThreadPoint}
use Rattle.rept_found.specs.Crash.{Scene}
use Rattle.rept_found.specs.Histories.{IsPointOf, IsTrueIn, IsTrueTrip, RangeHoldsInAll, spot_in, value_at}
use Rattle.rept_found.specs.Inferred.Narrowed.{Beyond, shown_beyond}
use Rattle.rept_found.specs.Inferred.Writing.{greatest, is_line, or_writer, refined_step, writer_beyond, writer_if}
use Rattle.rept_found.specs.Telling.{shown_of, shown_on}
use Rattle.rept_found.specs.Trip.Executed.{IsHistoryOf, writer_on}
use Rattle.rept_found.specs.Trip.Trip.{Trip, setting_on}
use Rattle.rept_found.specs.Truth.{IsTrueOf, RangeAlwaysHoldsOnPath, WriterHoldsOnPath}
use Rattle.rept_found.proofs.Alone.{alone_setting}
use Rattle.rept_found.proofs.Settings.{points_are}
use Rattle.rept_found.proofs.InferredLemmas.Lined.{refined_named}
use Rattle.rept_found.proofs.InferredLemmas.Writers.{last_single}
use Rattle.rept_found.proofs.Single.{one_thread_shown}
use Rattle.rept_found.proofs.TripLemmas.Pointing.{at_point}
use Rattle.rept_opening.specs.Beyond.{story_of}
use Rattle.rept_opening.specs.Opened.{CrashRun, IsAccountOf, RunAccount, route_of, run_setting, told_in}
use Rattle.rept_opening.specs.True.{IsTrue, IsTrueBeyond, path_by}
use Rattle.rept_opening.proofs.RunLemmas.{IsWhole}
use Rattle.rept_session.specs.Session.{IsSession}
use Rattle.rept_session.specs.Texts.{last_of}
use Rattle.rept_streams.specs.Runs.Kind.{path_rows}
use Rattle.rept_app.specs.TrueAnswers.{AreTrueLines, WritesOnPath, all_held_in, all_held_on, held_in, held_on, point_by}
use Rattle.rept_app.specs.TrueLines.{AreLinesTrue}
use Rattle.rept_app.specs.TrueReasons.{IsCellTrue, IsLookedTrue, IsPremiseTrue}
use Rattle.rept_app.specs.TrueValues.{ExecutionHeld}
use Rattle.rept_app.proofs.HeldPoints.{IsHeldAt, writer_told}
use Rattle.rept_app.proofs.LineLemmas.{lines_true}
use Rattle.rept_app.proofs.ReasonLineLemmas.{ArePremisesTrue, AreReasonsTrue}

register_same : (r k : ℕ) → Register r ≡ Register k → r ≡ k
register_same r k e = ap register_in e
  where
    register_in : Cell → ℕ
    register_in (Register x) = x
    register_in (Byte x) = r

-- what a report knows is at points and memory points that the run has
derivation_early : {W : Type 0} (S : Setting W) (fs : List Fact) → Derivation S fs → (f : Fact) → In fs f → IsInstant S f.cell f.point
derivation_early S [] d f h = absurd h
derivation_early S (g ∷ gs) d f (inl e) = rw e d.2.early
derivation_early S (g ∷ gs) d f (inr h) = derivation_early S gs d.0 f h

early_of : {W : Type 0} (S : Setting W) (K : Knowledge) → IsReport S K → (f : Fact) → K f.point f.cell ≡ Some f.value → IsInstant S f.cell f.point
early_of S K report f e = let x = (report.exact f).0 e in derivation_early S x.0 x.1 f x.2

-- a fact on a register, which x0 has none of
given_register : (K : Knowledge) (p r v : ℕ) {P : Type 0} → K p (Register r) ≡ Some v → (register_known K p r ≡ Some v → P) → (r ≡ 0) ⊎ P
given_register K p r v {P} e next = by_test (r == 0) refl next
  where
    by_test : (b : Bool) → (r == 0) ≡ b → ((if b then Some 0 else K p (Register r)) ≡ Some v → P) → (r ≡ 0) ⊎ P
    by_test true same go = inl (eqb-true r 0 same)
    by_test false same go = inr (go e)

-- of all threads
module _ {W : Type 0} (t : Trip W) (K : Knowledge) (scene : Scene) (sound : IsSoundCourse t.course) (some : 0 < length t.course.threads) (trip : IsTrueTrip t K) (h : History) (is_history : IsHistoryOf t h) where
  abbrev s : Shown
  s = shown_on t K scene

  answers : IsTrueIn t s h
  answers = trip.answers scene h is_history

  -- the step that is told has the name of its number
  named : (w : told.Writer) → writer_on t.course w ≡ writer_told s w
  named (told.TheVariants.Writes j) = refl
  named (told.TheVariants.MayWrite j) = refl
  named told.TheVariants.Several = refl
  named told.TheVariants.None = refl

  held_trip : (c : ThreadPoint) → IsThreadPoint s c → IsHeldAt s c (held_in t h c)
  held_trip c is =
      let names : IsPointOf t s c = trip.points scene c is in
      let below : points_before t.course.threads c.thread + c.point < points_before t.course.threads (length t.course.threads) = points_next t.course.threads c.thread c.point is.0 is.1 in
      let all : suc (seen t.course).legs.count ≡ points_before t.course.threads (length t.course.threads) = points_are t.course some in
      let inside : number s c < s.points = omega (arith, below, all) in
      let latest : moment_at s c ≤ (seen t.course).moments.end = (at_point t.course sound c.thread c.point is.0 is.1).within in
      let within : moment_at s c < s.moments = omega (arith, latest) in
      record {
        registers = λ r v e. sym (ap (λ (x : ThreadPoint). value_at t h x r) names.point) ∙ answers.registers (number s c) r v inside e;
        ranges = λ r. subst (λ (x : ThreadPoint). ((s.range (number s c) r).lo ≤ value_at t h x r) × (value_at t h x r ≤ (s.range (number s c) r).hi)) names.point (answers.ranges (number s c) r inside);
        notes = λ r n e. sym (ap (λ (x : ThreadPoint). bit_and (value_at t h x r) n.0) names.point) ∙ answers.notes (number s c) r n inside e;
        bytes = λ a v e. sym (ap (λ (m : Moment). memory_at t.course h m a) names.moment) ∙ answers.bytes (moment_at s c) a v within e;
        writers = λ a small.
            subst (λ (m : Moment). WriterHoldsInHistory t.course t.ending h (record { moment = m; address = a }) (writer_told s (s.writer (moment_at s c) a))) names.moment
            (subst (λ (w : Writer). WriterHoldsInHistory t.course t.ending h (spot_in t s (moment_at s c) a) w) (named (s.writer (moment_at s c) a)) (answers.writers (moment_at s c) a within small));
      }

  cell_true : (p : ℕ) (c : Cell) (v : ℕ) → (K p c ≡ Some v → IsInstant (setting_on t) c p) → (c ≡ Register 0) ⊎ (K p c ≡ Some v) → IsCellTrue (all_held_in t h) s p c v
  cell_true p (Register r) v early (inl e) = inl (register_same r 0 e)
  cell_true p (Register r) v early (inr e) =
      let few : p ≤ (seen t.course).legs.count = early e in
      let inside : p < s.points = omega (arith, few) in
      given_register K p r v e (λ known. answers.registers p r v inside known)
  cell_true p (Byte a) v early (inl e) = let no : ⊥ = cc in absurd no
  cell_true p (Byte a) v early (inr e) =
      let few : p ≤ (seen t.course).moments.end = early e in
      let inside : p < s.moments = omega (arith, few) in
      answers.bytes p a v inside e

  reasons_trip : IsReport (setting_on t) K → (log : List Fact) → IsLogOf (setting_on t) K log → (fact : Fact) (why : Because) → IsReason (setting_on t) log fact why → ArePremisesTrue (all_held_in t h) s why
  reasons_trip report log learnt fact why is =
      let b = trip.reasons log fact why learnt is in (
        All-weaker (IsGiven K) (IsPremiseTrue (all_held_in t h) s) (λ f given. cell_true f.point f.cell f.value (early_of (setting_on t) K report f) given) why.premises b.premises,
        All-weaker (RangeHoldsInAll t) (IsLookedTrue (all_held_in t h) s) (λ looked holds inside. holds h is_history) why.ranges b.ranges,
      )

-- what is told of one path, with what is told besides
pub record IsAlongPath (rows : List StepRow) (s : Shown) : Type 0 where
  pub threads : s.threads ≡ 1
  pub steps : s.rows 0 ≡ rows
  pub first : s.first 0 ≡ 0
  pub point : (p : ℕ) → p ≤ length rows → s.point p ≡ record { thread = 0; point = p }
  pub moment : (p : ℕ) → p ≤ length rows → s.moment p ≡ p
  pub points : s.points ≡ length rows + 1
  pub moments : s.moments ≡ length rows + 1
  pub place : (m : ℕ) → m ≤ length rows → s.place m ≡ record { thread = 0; place = places.Point m }
  pub single : (p a : ℕ) → p ≤ length rows → s.writer p a ≢ told.TheVariants.Several

none_some : {j : ℕ} → None ≡ Some j → ⊥
none_some e = cc

-- the greatest step of which something is told isn't told as several
greatest_single : (told_at : ℕ → Option told.Writer) → ((j : ℕ) (w : told.Writer) → told_at j ≡ Some w → named_row w ≡ Some j) → (p : ℕ) → greatest told_at p ≢ told.TheVariants.Several
greatest_single told_at named zero e = let no : ⊥ = cc in no
greatest_single told_at named (suc k) e = by (told_at k) refl (greatest_single told_at named k) e
  where
    by : (o : Option told.Writer) → told_at k ≡ o → greatest told_at k ≢ told.TheVariants.Several → or_writer o (greatest told_at k) ≢ told.TheVariants.Several
    by None is before e = before e
    by (Some w) is before e = let no : ⊥ = none_some (ap named_row (sym e) ∙ named k w is) in no

-- nor is it where more is inferred
single_beyond : (b : Beyond) (s : Shown) (p a : ℕ) → s.writer p a ≢ told.TheVariants.Several → writer_beyond b.told s p a ≢ told.TheVariants.Several
single_beyond b s p a single = by (is_line s && nat_le p (length (s.rows 0)))
  where
    by : (lined : Bool) → writer_if lined b.told s p a ≢ told.TheVariants.Several
    by true = greatest_single (refined_step b.told s a) (refined_named b.told s a) p
    by false = single

along_path : {W : Type 0} (P : ThreadPath W) (K : Knowledge) (scene : Scene) → IsAlongPath P.given.rows (shown_of P K scene)
along_path P K scene = let one = one_thread_shown P K scene in record { threads = one.threads; steps = one.rows; first = one.first; point = one.point; moment = one.moment; points = one.points; moments = one.moments; place = one.place; single = λ p a few e. last_single (path_setting P) K p a (sym (one.writer p a few) ∙ e) }

along_beyond : (rows : List StepRow) (s : Shown) (b : Option Beyond) → IsAlongPath rows s → IsAlongPath rows (shown_beyond b s)
along_beyond rows s None a = a
along_beyond rows s (Some b) a = record { threads = a.threads; steps = a.steps; first = a.first; point = a.point; moment = a.moment; points = a.points; moments = a.moments; place = a.place; single = λ p q few. single_beyond b s p q (a.single p q few) }

-- of one path
module _ {W : Type 0} (P : ThreadPath W) (s : Shown) (along : IsAlongPath P.given.rows s) (states : ℕ → State) (true_of : IsTrueOf P s states) where
  abbrev n : ℕ
  n = length P.given.rows

  only : (c : ThreadPoint) → IsThreadPoint s c → 0 ≡ c.thread
  only c is = let one = along.threads in let less = is.0 in omega (arith, one, less)

  few : (c : ThreadPoint) → IsThreadPoint s c → c.point ≤ n
  few c is = subst (λ (rows : List StepRow). c.point ≤ length rows) (ap s.rows (sym (only c is)) ∙ along.steps) is.1

  number_is : (c : ThreadPoint) → IsThreadPoint s c → number s c ≡ c.point
  number_is c is = ap (λ (t : ℕ). s.first t + c.point) (sym (only c is)) ∙ ap (λ (k : ℕ). k + c.point) along.first ∙ zero-add c.point

  moment_is : (c : ThreadPoint) → IsThreadPoint s c → moment_at s c ≡ c.point
  moment_is c is = ap s.moment (number_is c is) ∙ along.moment c.point (few c is)

  step_thread : (j : ℕ) → j ≤ n → (s.point j).thread ≡ 0
  step_thread j most = ap (λ (x : ThreadPoint). x.thread) (along.point j most)

  step_point : (j : ℕ) → j ≤ n → j ≡ (s.point j).point
  step_point j most = sym (ap (λ (x : ThreadPoint). x.point) (along.point j most))

  writer_held : (p a : ℕ) → p ≤ n → (w : told.Writer) → w ≢ told.TheVariants.Several → WriterHoldsOnPath P states (spot p a) w → WritesOnPath P states (spot p a) (writer_told s w)
  writer_held p a most (told.TheVariants.Writes j) single h =
      let less = h.0 in
      (step_thread j (omega (arith, less, most)), subst (λ (k : ℕ). WriterHoldsOnPath P states (spot p a) (told.TheVariants.Writes k)) (step_point j (omega (arith, less, most))) h)
  writer_held p a most (told.TheVariants.MayWrite j) single h =
      let less = h.0 in
      (step_thread j (omega (arith, less, most)), subst (λ (k : ℕ). WriterHoldsOnPath P states (spot p a) (told.TheVariants.MayWrite k)) (step_point j (omega (arith, less, most))) h)
  writer_held p a most told.TheVariants.Several single h = single refl
  writer_held p a most told.TheVariants.None single h = h

  held_path : (c : ThreadPoint) → IsThreadPoint s c → IsHeldAt s c (held_on P states c)
  held_path c is =
      let most = few c is in
      record {
        registers = λ r v e. true_of.registers c.point r v most (sym (ap (λ (p : ℕ). s.register p r) (number_is c is)) ∙ e);
        ranges = λ r. subst (λ (p : ℕ). ((s.range p r).lo ≤ (states c.point).register r) × ((states c.point).register r ≤ (s.range p r).hi)) (sym (number_is c is)) (true_of.ranges c.point r most);
        notes = λ r k e. true_of.notes c.point r k most (sym (ap (λ (p : ℕ). s.note p r) (number_is c is)) ∙ e);
        bytes = λ a v e. true_of.bytes c.point a v (sym (ap (λ (m : ℕ). s.byte m a) (moment_is c is)) ∙ e);
        writers = λ a small. subst (λ (m : ℕ). WritesOnPath P states (spot c.point a) (writer_told s (s.writer m a))) (sym (moment_is c is)) (writer_held c.point a most (s.writer c.point a) (along.single c.point a most) (true_of.writers c.point a most small));
      }

  cell_on_path : (K : Knowledge) → ((p r v : ℕ) → register_known K p r ≡ Some v → s.register p r ≡ Some v) → ((m a v : ℕ) → K m (Byte a) ≡ Some v → s.byte m a ≡ Some v)
      → (p : ℕ) (c : Cell) (v : ℕ) → (K p c ≡ Some v → p ≤ n) → (c ≡ Register 0) ⊎ (K p c ≡ Some v) → IsCellTrue (all_held_on P states) s p c v
  cell_on_path K registers bytes p (Register r) v most_of (inl e) = inl (register_same r 0 e)
  cell_on_path K registers bytes p (Register r) v most_of (inr e) =
      let most : p ≤ n = most_of e in
      given_register K p r v e (λ known. ap (λ (c : ThreadPoint). (states c.point).register r) (along.point p most) ∙ true_of.registers p r v most (registers p r v known))
  cell_on_path K registers bytes p (Byte a) v most_of (inl e) = let no : ⊥ = cc in absurd no
  cell_on_path K registers bytes p (Byte a) v most_of (inr e) =
      let most : p ≤ n = most_of e in
      ap (λ (y : ThreadPlace). (states (point_by n y.place)).memory a) (along.place p most) ∙ true_of.bytes p a v (bytes p a v e)

  looked_on_path : (looked : RangePremise) → (looked.range.lo ≤ (states looked.point).register looked.reg) × ((states looked.point).register looked.reg ≤ looked.range.hi) → IsLookedTrue (all_held_on P states) s looked
  looked_on_path looked holds inside =
      let all = along.points in
      let most : looked.point ≤ n = omega (arith, all, inside) in
      subst (λ (c : ThreadPoint). (looked.range.lo ≤ (states c.point).register looked.reg) × ((states c.point).register looked.reg ≤ looked.range.hi)) (sym (along.point looked.point most)) holds

module _ {W : Type 0} (p : CrashRun W) (a : RunAccount) (whole : IsWhole p.crash p.run) (account : IsAccountOf p a) (holds : IsTrue p a.known) (beyond : IsTrueBeyond p a) where
  abbrev told_shown : Shown
  told_shown = (told_in p a).shown

  first_point : IsThreadPoint (shown_on (route_of p) a.known a.scene) (last_of (shown_on (route_of p) a.known a.scene) 0)
  first_point = (whole.some, omega arith)

  threads_true : (b : Option Beyond) → b ≡ None → (lines : List (List ℕ)) (text : List ℕ) (h : History) → IsHistoryOf (route_of p) h → IsSession (told_in p (record a { beyond = b })) (last_of (told_in p (record a { beyond = b })).shown 0) lines text
      → AreLinesTrue (all_held_in (route_of p) h) (told_in p (record a { beyond = b })).shown (last_of (told_in p (record a { beyond = b })).shown 0) lines text
  threads_true None e lines text h is text_is =
      lines_true (told_in p (record a { beyond = None })) (all_held_in (route_of p) h) (λ c at. held_trip (route_of p) a.known a.scene whole.sound whole.some holds.threads h is c at) (reasons_trip (route_of p) a.known a.scene whole.sound whole.some holds.threads h is account.report a.log account.log) (last_of (shown_on (route_of p) a.known a.scene) 0) first_point lines text text_is
  threads_true (Some b) e lines text h is text_is = absurd (some_none e)
    where
      some_none : {x : Beyond} → Some x ≡ None → ⊥
      some_none e = cc

  along_report : (rows : List StepRow) → path_rows p.run ≡ Some rows → IsAlongPath rows (shown_on (route_of p) a.known a.scene)
  along_report rows one = subst (λ (s : Shown). IsAlongPath rows s) (sym ((holds.alone rows one).shown a.scene)) (along_path (path_by p rows) a.known a.scene)

  along : (rows : List StepRow) → path_rows p.run ≡ Some rows → IsAlongPath rows told_shown
  along rows one = along_beyond rows (shown_on (route_of p) a.known a.scene) a.beyond (along_report rows one)

  first_told : (rows : List StepRow) → IsAlongPath rows told_shown → IsThreadPoint told_shown (last_of told_shown 0)
  first_told rows a = (let one = a.threads in omega (arith, one), omega arith)

  few_of : (rows : List StepRow) → path_rows p.run ≡ Some rows → (c : Cell) (q : ℕ) → IsInstant (run_setting p) c q → q ≤ length rows
  few_of rows one (Register r) q e =
      let all : (seen (course_of p.run)).legs.count + 1 ≡ length rows + 1 = (along_report rows one).points in
      let less : q ≤ (seen (course_of p.run)).legs.count = e in
      omega (arith, all, less)
  few_of rows one (Byte a) q e =
      let all : (seen (course_of p.run)).moments.end + 1 ≡ length rows + 1 = (along_report rows one).moments in
      let less : q ≤ (seen (course_of p.run)).moments.end = e in
      omega (arith, all, less)

  path_reasons : (rows : List StepRow) → path_rows p.run ≡ Some rows → IsAlongPath rows told_shown → (states : ℕ → State) → IsAdmitted (story_of p.crash p.run.skipped rows) states → AreReasonsTrue (told_in p a) (all_held_on (path_by p rows) states)
  path_reasons rows one path states admitted fact why is =
      let P : ThreadPath W = path_by p rows in
      let x : ExecutionHeld = all_held_on P states in
      let of : IsTrueOf P told_shown states = beyond.holds rows one states admitted in
      let same : run_setting p ≡ path_setting P = alone_setting p.means rows p.crash (course_of p.run) one whole.noted in
      let learnt : IsLogOf (path_setting P) a.known a.log = subst (λ (S : Setting W). IsLogOf S a.known a.log) same account.log in
      let reason : IsReason (path_setting P) a.log fact why = subst (λ (S : Setting W). IsReason S a.log fact why) same is in
      let b = (holds.alone rows one).holds.reasons a.log fact why learnt reason in (
        All-weaker (IsGiven a.known) (IsPremiseTrue x told_shown)
            (λ f given. cell_on_path P told_shown path states of a.known (λ q r v e. beyond.whole.registers q r v e) (λ m b v e. beyond.whole.bytes m b v e) f.point f.cell f.value (λ e. few_of rows one f.cell f.point (early_of (run_setting p) a.known account.report f e)) given) why.premises b.premises,
        All-weaker (RangeAlwaysHoldsOnPath P) (IsLookedTrue x told_shown) (λ looked always. looked_on_path P told_shown path states of looked (always states admitted.execution)) why.ranges b.ranges,
      )

  pub true_lines : (lines : List (List ℕ)) (text : List ℕ) → IsSession (told_in p a) (last_of (told_in p a).shown 0) lines text → AreTrueLines p a lines text
  true_lines lines text session = record {
    threads = λ none h is. threads_true a.beyond none lines text h is session;
    alone = λ rows one states admitted.
        let path = along rows one in
        lines_true (told_in p a) (all_held_on (path_by p rows) states) (λ c at. held_path (path_by p rows) told_shown path states (beyond.holds rows one states admitted) c at) (path_reasons rows one path states admitted) (last_of told_shown 0) (first_told rows path) lines text session;
  }
