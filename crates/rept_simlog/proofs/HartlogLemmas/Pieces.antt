-- Pieces of a log, and the stretches that they make.
use Rattle.std.proofs.Common.{◌≡◌, ℕ, zero, suc, ◌+◌, ◌-◌, ◌<◌, ◌≤◌, ◌^◌, List, [], ◌∷◌, ◌++◌, length, map, take, drop, slice_get, Option, None, Some, Ok, Bool, false, refl, sym, ◌∙◌, ap, subst, arith, inl, inr, append_assoc, length-append}
use Rattle.std.proofs.lemmas.List.{append-nil, length-drop, take-append-drop}
use Rattle.rept_elf.proofs.SegmentLemmas.{drop-slice_get}
use Rattle.std.proofs.lemmas.Bool.{cases_eq, eq-eqb}
use Rattle.rept_isa.specs.declared.row.StepRow.{StepRow}
use Rattle.rept_path.specs.Code.{Code, look}
use Rattle.rept_steps.specs.Linked.{EndBefore}
use Rattle.rept_encode.specs.Walkable.{AreStraight}
use Rattle.rept_encode.specs.Added.{asked_of, MayAddStep}
use Rattle.rept_encode.specs.declared.step.Site.{Site}
use Rattle.rept_simlog.specs.Program.{site_of}
use Rattle.rept_encode.specs.declared.weaving.stretch.HartStretch.{HartStretch}
use Rattle.rept_simlog.specs.declared.hartlog.log.HartLogLine.{HartLogLine}
use Rattle.rept_simlog.specs.declared.hartlog.refusal.HartLogRefusal.{HartLogRefusal}
use Rattle.rept_simlog.specs.declared.hartlog.refusal.HartLogRefusal.TheVariants.{Executable, NoNumbers, NoInstruction, NoStep, JumpEnds, NoSteps, TooLong, OutOfMemory}
use Rattle.rept_simlog.specs.Hartlog.Log.{AreLines}
use Rattle.rept_simlog.specs.Hartlog.Steps.{Logged, logged_as, next_address, AddsLoggedRow, AreLoggedThen, AreLogged, IsEntryReached, HasNoStep}
use Rattle.rept_simlog.specs.Hartlog.Stretches.{AreTogether, IsHartPiece, IsStretchOf, AreStretches, AreStretchesOf}
use Rattle.rept_simlog.specs.Hartlog.Recorded.{IsStepRefused, IsStepsFault}
use Rattle.rept_simlog.proofs.Reading.{get_push}
use Rattle.rept_simlog.proofs.HartlogLemmas.Lines.{line_at, rest_whole}

abbrev pub no_entry : HartLogLine
no_entry = record { line = 0; hart = 0; thread = 0; address = 0 }

-- a list around one of its entries
take_suc : (entries : List HartLogLine) (i : ℕ) (entry : HartLogLine) → slice_get entries i ≡ Some entry → take (suc i) entries ≡ take i entries ++ entry ∷ []
take_suc [] i entry h = absurd (cc)
take_suc (x ∷ entries) zero entry h = let same : x ≡ entry = cc in ap (λ (e : HartLogLine). e ∷ []) same
take_suc (x ∷ entries) (suc i) entry h = ap (λ (es : List HartLogLine). x ∷ es) (take_suc entries i entry h)

one_more : (i : ℕ) → suc i ≡ i + 1
one_more i = omega arith

pub take_at : (entries : List HartLogLine) (i : ℕ) (entry : HartLogLine) → slice_get entries i ≡ Some entry → take (i + 1) entries ≡ take i entries ++ entry ∷ []
take_at entries i entry h = subst (λ (k : ℕ). take k entries ≡ take i entries ++ entry ∷ []) (one_more i) (take_suc entries i entry h)

pub whole : (entries : List HartLogLine) (k : ℕ) → entries ≡ take k entries ++ drop k entries
whole entries k = sym (take-append-drop k entries)

whole_at : (entries : List HartLogLine) (i : ℕ) (entry : HartLogLine) → slice_get entries i ≡ Some entry → entries ≡ take i entries ++ entry ∷ drop (i + 1) entries
whole_at entries i entry h = whole entries i ∙ ap (λ (es : List HartLogLine). take i entries ++ es) (drop-slice_get entries i entry h)

-- the steps of one part of a log, and of the next one
pub logged_append : (code : Code) (a b rest : List HartLogLine) (x y : List Logged) → AreLoggedThen code a (b ++ rest) x → AreLoggedThen code b rest y → AreLoggedThen code (a ++ b) rest (x ++ y)
logged_append code [] b rest x y h k = subst (λ (l : List Logged). AreLoggedThen code b rest (l ++ y)) (sym h) k
logged_append code (e ∷ a) b rest x y h k =
    let order : a ++ (b ++ rest) ≡ (a ++ b) ++ rest = sym (append_assoc a b rest) in
    elim h [
      | inl none ↦ inl (subst (λ (es : List HartLogLine). next_address es e.thread ≡ None) order none.0, logged_append code a b rest x y none.1 k)
      | inr some ↦ inr (some.0, some.1, some.2 ++ y, subst (λ (es : List HartLogLine). next_address es e.thread ≡ Some some.0) order some.3, ap (λ (l : List Logged). l ++ y) some.4, some.5, logged_append code a b rest some.2 y some.6 k)
    ]

together_push : (first : HartLogLine) (count : ℕ) (steps : List Logged) (step : Logged) → AreTogether first count steps → step.entry.hart ≡ first.hart → step.entry.thread ≡ first.thread → step.entry.line ≡ first.line + (count + length steps) → AreTogether first count (steps ++ step ∷ [])
together_push first count [] step h hart thread line = (hart, thread, line ∙ omega arith, tt)
together_push first count (x ∷ steps) step h hart thread line = (h.0, h.1, h.2, together_push first (count + 1) steps step h.3 hart thread (line ∙ omega arith))

map_push : (steps : List Logged) (step : Logged) → map (λ (s : Logged). s.row) (steps ++ step ∷ []) ≡ map (λ (s : Logged). s.row) steps ++ step.row ∷ []
map_push [] step = refl
map_push (x ∷ steps) step = ap (λ (rows : List StepRow). x.row ∷ rows) (map_push steps step)

map_size : (steps : List Logged) → length (map (λ (s : Logged). s.row) steps) ≡ length steps
map_size [] = refl
map_size (x ∷ steps) = ap suc (map_size steps)

get_last : (rows : List StepRow) (row : StepRow) → slice_get (rows ++ row ∷ []) (length rows) ≡ Some row
get_last [] row = refl
get_last (x ∷ rows) row = get_last rows row

-- no call among the rows but for the one that was added
straight_push : (rows : List StepRow) (row : StepRow) → AreStraight rows (length rows) → AreStraight (rows ++ row ∷ []) (length rows)
straight_push rows row h = λ j r lt there. elim (get_push rows row j r there) [
  | inl old ↦ h j r lt old
  | inr new ↦ absurd (let e = new.0 in omega arith)
]

straight_whole : (rows : List StepRow) (row : StepRow) → AreStraight rows (length rows) → row.call ≡ false → AreStraight (rows ++ row ∷ []) (length rows + 1)
straight_whole rows row h calm = λ j r lt there. elim (get_push rows row j r there) [
  | inl old ↦ elim (cases_eq j (length rows)) [
    | inl e ↦ absurd (beyond rows j r (omega arith) old)
    | inr ne ↦ h j r (omega arith) old
  ]
  | inr new ↦ ap (λ (s : StepRow). s.call) (sym new.1) ∙ calm
]
  where
    beyond : (rows : List StepRow) (j : ℕ) (r : StepRow) → length rows ≤ j → slice_get rows j ≡ Some r → ⊥
    beyond [] j r le there = absurd (cc)
    beyond (x ∷ rows) zero r le there = absurd (omega arith)
    beyond (x ∷ rows) (suc j) r le there = beyond rows j r (omega arith) there

-- the first of the entries have these steps and none has none; the last of these steps leads to the
-- next entry, if that is of their thread
pub record Going (code : Code) (entries : List HartLogLine) (i : ℕ) (rows : List StepRow) : Type 0 where
  pub logged : List Logged
  pub steps : AreLoggedThen code (take i entries) (drop i entries) logged
  pub rows_of : rows ≡ map (λ (step : Logged). step.row) logged
  pub together : (first : HartLogLine) → slice_get entries 0 ≡ Some first → AreTogether first 0 logged
  pub straight : AreStraight rows (length rows)
  pub count : length rows ≡ i
  pub ends : (first entry : HartLogLine) → slice_get entries 0 ≡ Some first → slice_get entries i ≡ Some entry → entry.thread ≡ first.thread → EndBefore rows entry.address

-- an instruction that doesn't lead there
pub none_goes : (code near : Code) (from : HartLogLine) (to : ℕ) (site : Site) → near ≡ code → site ≡ site_of near from.address site.instr → look near from.address ≡ Ok site.instr → (MayAddStep (asked_of code.halves site to) → ⊥) → HasNoStep code from to
none_goes code near from to site same is looked none =
    let stands : site ≡ site_of code from.address site.instr = subst (λ (c : Code). site ≡ site_of c from.address site.instr) same is in
    (site.instr, subst (λ (c : Code). look c from.address ≡ Ok site.instr) same looked, λ may. none (subst (λ (s : Site). MayAddStep (asked_of code.halves s to)) (sym stands) may))

-- an entry that isn't of the first one's hart and thread isn't the first
pub some_before : (entries : List HartLogLine) (i : ℕ) (first entry : HartLogLine) → slice_get entries 0 ≡ Some first → slice_get entries i ≡ Some entry → (first.hart ≡ entry.hart → first.thread ≡ entry.thread → ⊥) → 0 < i
some_before entries zero first entry a b other =
    let e : ◌≡◌ {A = Option HartLogLine} (Some first) (Some entry) = sym a ∙ b in
    let same : first ≡ entry = cc in
    absurd (other (ap (λ (x : HartLogLine). x.hart) same) (ap (λ (x : HartLogLine). x.thread) same))
some_before entries (suc i) first entry a b other = omega arith

-- the last row is no call
pub last_calm : (rows new : List StepRow) (calls : Bool) → rows ≡ new → ((k : ℕ) (row : StepRow) → k + 1 ≡ length rows → slice_get rows k ≡ Some row → row.call ≡ calls) → calls ≡ false → (k : ℕ) (row : StepRow) → k + 1 ≡ length new → slice_get new k ≡ Some row → row.call ≡ false
last_calm rows new calls same is calm k row size there = is k row (size ∙ sym (ap (length {A = StepRow}) same)) (ap (λ (rs : List StepRow). slice_get rs k) same ∙ there) ∙ calm

-- nothing is done yet
pub going_first : (code : Code) (entries : List HartLogLine) → Going code entries 0 []
going_first code entries = record {
  logged = [];
  steps = refl;
  rows_of = refl;
  together = λ first there. tt;
  straight = λ j row lt there. absurd (omega arith);
  count = refl;
  ends = λ first entry a b same. tt;
}

-- the first entry that isn't of the first one's hart and thread, or the end
pub piece_here : (code : Code) (entries : List HartLogLine) (i : ℕ) (rows : List StepRow) → Going code entries i rows → 0 < i → i ≤ length entries → IsHartPiece code entries rows i
piece_here code entries i rows g some within =
    let count = g.count in
    record {
      some = some;
      within = within;
      logged = g.logged;
      steps = g.steps;
      rows_of = g.rows_of;
      together = g.together;
      straight = λ j row lt there. g.straight j row (omega arith) there;
      few = omega arith;
    }

-- the last entry of its thread
pub piece_last : (code : Code) (entries : List HartLogLine) (i : ℕ) (rows : List StepRow) (entry : HartLogLine) → Going code entries i rows → slice_get entries i ≡ Some entry → i < length entries → next_address (drop (i + 1) entries) entry.thread ≡ None → IsHartPiece code entries rows (i + 1)
piece_last code entries i rows entry g there lt none =
    let count = g.count in
    let one : AreLoggedThen code (entry ∷ []) (drop (i + 1) entries) [] = inl (none, refl) in
    let front : AreLoggedThen code (take i entries) ((entry ∷ []) ++ drop (i + 1) entries) g.logged = subst (λ (es : List HartLogLine). AreLoggedThen code (take i entries) es g.logged) (drop-slice_get entries i entry there) g.steps in
    let both : AreLoggedThen code (take i entries ++ entry ∷ []) (drop (i + 1) entries) (g.logged ++ []) = logged_append code (take i entries) (entry ∷ []) (drop (i + 1) entries) g.logged [] front one in
    let all : AreLoggedThen code (take (i + 1) entries) (drop (i + 1) entries) (g.logged ++ []) = subst (λ (es : List HartLogLine). AreLoggedThen code es (drop (i + 1) entries) (g.logged ++ [])) (sym (take_at entries i entry there)) both in
    record {
      some = omega arith;
      within = omega arith;
      logged = g.logged;
      steps = subst (λ (l : List Logged). AreLoggedThen code (take (i + 1) entries) (drop (i + 1) entries) l) (append-nil g.logged) all;
      rows_of = g.rows_of;
      together = g.together;
      straight = λ j row less at. g.straight j row (omega arith) at;
      few = omega arith;
    }

-- one step more
module _ (code : Code) (entries : List HartLogLine) (i : ℕ) (old new : List StepRow) (first entry : HartLogLine) (to : ℕ) (g : Going code entries i old) (begins : slice_get entries 0 ≡ Some first) (there : slice_get entries i ≡ Some entry) (hart : entry.hart ≡ first.hart) (thread : entry.thread ≡ first.thread) (lines : AreLines entries) (next : next_address (drop (i + 1) entries) entry.thread ≡ Some to) (added : AddsLoggedRow code old new entry to) where
  abbrev more : List Logged
  more = g.logged ++ logged_as entry added.row ∷ []

  more_steps : AreLoggedThen code (take (i + 1) entries) (drop (i + 1) entries) more
  more_steps =
      let one : AreLoggedThen code (entry ∷ []) (drop (i + 1) entries) (logged_as entry added.row ∷ []) = inr (to, added.row, [], next, refl, added.step, refl) in
      let front : AreLoggedThen code (take i entries) ((entry ∷ []) ++ drop (i + 1) entries) g.logged = subst (λ (es : List HartLogLine). AreLoggedThen code (take i entries) es g.logged) (drop-slice_get entries i entry there) g.steps in
      let both : AreLoggedThen code (take i entries ++ entry ∷ []) (drop (i + 1) entries) more = logged_append code (take i entries) (entry ∷ []) (drop (i + 1) entries) g.logged (logged_as entry added.row ∷ []) front one in
      subst (λ (es : List HartLogLine). AreLoggedThen code es (drop (i + 1) entries) more) (sym (take_at entries i entry there)) both

  more_rows : new ≡ map (λ (step : Logged). step.row) more
  more_rows = added.rows ∙ ap (λ (rows : List StepRow). rows ++ added.row ∷ []) g.rows_of ∙ sym (map_push g.logged (logged_as entry added.row))

  more_together : (f : HartLogLine) → slice_get entries 0 ≡ Some f → AreTogether f 0 more
  more_together f is =
      let same : first ≡ f = (let e : ◌≡◌ {A = Option HartLogLine} (Some first) (Some f) = sym begins ∙ is in cc) in
      let a = line_at lines.line entries 0 first lines.each begins in
      let b = line_at lines.line entries i entry lines.each there in
      let s = map_size g.logged in
      let r = ap (length {A = StepRow}) g.rows_of in
      let c = g.count in
      subst (λ (x : HartLogLine). AreTogether x 0 more) same (together_push first 0 g.logged (logged_as entry added.row) (g.together first begins) hart thread (omega arith))

  size : length new ≡ i + 1
  size = ap (length {A = StepRow}) added.rows ∙ length-append old (added.row ∷ []) ∙ (let c = g.count in omega arith)

  pub piece_step : i < length entries → IsHartPiece code entries new (i + 1)
  piece_step lt =
      let n = size in
      let c = g.count in
      record {
        some = omega arith;
        within = omega arith;
        logged = more;
        steps = more_steps;
        rows_of = more_rows;
        together = more_together;
        straight = λ j row less at. straight_push old added.row g.straight j row (omega arith) (subst (λ (rows : List StepRow). slice_get rows j ≡ Some row) added.rows at);
        few = omega arith;
      }

  pub going_step : EndBefore new to → ((k : ℕ) (row : StepRow) → k + 1 ≡ length new → slice_get new k ≡ Some row → row.call ≡ false) → Going code entries (i + 1) new
  going_step ends calm =
      let n = size in
      let c = g.count in
      let last : slice_get new (length old) ≡ Some added.row = subst (λ (rows : List StepRow). slice_get rows (length old) ≡ Some added.row) (sym added.rows) (get_last old added.row) in
      let quiet : added.row.call ≡ false = calm (length old) added.row (omega arith) last in
      record {
        logged = more;
        steps = more_steps;
        rows_of = more_rows;
        together = more_together;
        straight = λ j row less at. straight_whole old added.row g.straight quiet j row (omega arith) (subst (λ (rows : List StepRow). slice_get rows j ≡ Some row) added.rows at);
        count = n;
        ends = λ f other is at same.
            let one : first ≡ f = (let e : ◌≡◌ {A = Option HartLogLine} (Some first) (Some f) = sym begins ∙ is in cc) in
            let threads : other.thread ≡ entry.thread = same ∙ ap (λ (x : HartLogLine). x.thread) (sym one) ∙ sym thread in
            let leads : next_address (other ∷ drop (i + 1 + 1) entries) entry.thread ≡ Some to = subst (λ (es : List HartLogLine). next_address es entry.thread ≡ Some to) (drop-slice_get entries (i + 1) other at) next in
            let here : next_address (other ∷ drop (i + 1 + 1) entries) entry.thread ≡ Some other.address = next_here other (drop (i + 1 + 1) entries) entry.thread threads in
            let e : ◌≡◌ {A = Option ℕ} (Some to) (Some other.address) = sym leads ∙ here in
            let address : to ≡ other.address = cc in
            subst (λ (a : ℕ). EndBefore new a) address ends;
      }
    where
      next_here : (e : HartLogLine) (es : List HartLogLine) (t : ℕ) → e.thread ≡ t → next_address (e ∷ es) t ≡ Some e.address
      next_here e es t is = rw (eq-eqb e.thread t is) refl

-- why the entry has no step
pub fault_here : (code : Code) (entries : List HartLogLine) (i : ℕ) (rows : List StepRow) (entry : HartLogLine) (to : ℕ) (r : HartLogRefusal) → Going code entries i rows → slice_get entries i ≡ Some entry → next_address (drop (i + 1) entries) entry.thread ≡ Some to → IsStepRefused code entry to r → IsStepsFault code entries r
fault_here code entries i rows entry to r g there next h = by r h
  where
    reached : IsEntryReached code entries entry to
    reached = record {
      before = take i entries;
      after = drop (i + 1) entries;
      order = whole_at entries i entry there;
      logged = g.logged;
      steps = subst (λ (es : List HartLogLine). AreLoggedThen code (take i entries) es g.logged) (drop-slice_get entries i entry there) g.steps;
      next = next;
    }

    by : (r : HartLogRefusal) → IsStepRefused code entry to r → IsStepsFault code entries r
    by (NoInstruction k fault) h = (entry, to, reached, h.0, h.1)
    by (NoStep k) h = (entry, to, reached, h.0, h.1)
    by OutOfMemory h = tt
    by (JumpEnds k) h = absurd h
    by NoSteps h = absurd h
    by TooLong h = absurd h
    by (NoNumbers k) h = absurd h
    by (Executable fault) h = absurd h

-- The stretches have the steps of all entries before the rest.
pub record Progress (code : Code) (entries rest : List HartLogLine) (stretches : List HartStretch) : Type 0 where
  pub done : List HartLogLine
  pub order : entries ≡ done ++ rest
  pub logged : List Logged
  pub steps : AreLoggedThen code done rest logged
  pub cut : AreStretches logged stretches

pub progress_first : (code : Code) (entries : List HartLogLine) → Progress code entries entries []
progress_first code entries = record { done = []; order = refl; logged = []; steps = refl; cut = refl }

pub progress_last : (code : Code) (entries rest : List HartLogLine) (stretches : List HartStretch) → Progress code entries rest stretches → rest ≡ [] → AreStretchesOf code entries stretches
progress_last code entries rest stretches p none =
    let all : entries ≡ p.done = p.order ∙ ap (λ (es : List HartLogLine). p.done ++ es) none ∙ append-nil p.done in
    let steps : AreLogged code p.done p.logged = subst (λ (es : List HartLogLine). AreLoggedThen code p.done es p.logged) none p.steps in
    record { logged = p.logged; steps = subst (λ (es : List HartLogLine). AreLogged code es p.logged) (sym all) steps; cut = p.cut }

stretches_push : (a b : List Logged) (ss : List HartStretch) (s : HartStretch) → AreStretches a ss → IsStretchOf b s → AreStretches (a ++ b) (ss ++ s ∷ [])
stretches_push a b [] s h is = (b, [], ap (λ (l : List Logged). l ++ b) h ∙ sym (append-nil b), is, refl)
stretches_push a b (r ∷ ss) s h is =
    let front : List Logged = h.0 in
    let later : List Logged = h.1 in
    (front, later ++ b, ap (λ (l : List Logged). l ++ b) h.2 ∙ append_assoc front later b, h.3, stretches_push later b ss s h.4 is)

none_logged : (logged : List Logged) → length (map (λ (s : Logged). s.row) logged) ≡ 0 → logged ≡ []
none_logged [] h = refl
none_logged (x ∷ logged) h = absurd (omega arith)

-- a piece more
module _ (code : Code) (entries rest : List HartLogLine) (stretches : List HartStretch) (rows : List StepRow) (count : ℕ) (p : Progress code entries rest stretches) (piece : IsHartPiece code rest rows count) where
  abbrev done_on : List HartLogLine
  done_on = p.done ++ take count rest

  order_on : entries ≡ done_on ++ drop count rest
  order_on = p.order ∙ ap (λ (es : List HartLogLine). p.done ++ es) (whole rest count) ∙ sym (append_assoc p.done (take count rest) (drop count rest))

  steps_on : AreLoggedThen code done_on (drop count rest) (p.logged ++ piece.logged)
  steps_on = logged_append code p.done (take count rest) (drop count rest) p.logged piece.logged (subst (λ (es : List HartLogLine). AreLoggedThen code p.done es p.logged) (whole rest count) p.steps) piece.steps

  pub progress_skip : length rows ≡ 0 → Progress code entries (drop count rest) stretches
  progress_skip none =
      let e : piece.logged ≡ [] = none_logged piece.logged (ap (length {A = StepRow}) (sym piece.rows_of) ∙ none) in
      let same : p.logged ++ piece.logged ≡ p.logged = ap (λ (l : List Logged). p.logged ++ l) e ∙ append-nil p.logged in
      record { done = done_on; order = order_on; logged = p.logged; steps = subst (λ (l : List Logged). AreLoggedThen code done_on (drop count rest) l) same steps_on; cut = p.cut }

  pub progress_push : (stretch : HartStretch) (first : HartLogLine) → slice_get rest 0 ≡ Some first → 0 < length rows → stretch.steps ≡ rows → stretch.process ≡ first.thread → stretch.begin ≡ first.line → stretch.end + 1 ≡ first.line + length rows → Progress code entries (drop count rest) (stretches ++ stretch ∷ [])
  progress_push stretch first begins some same process begin end = record {
    done = done_on;
    order = order_on;
    logged = p.logged ++ piece.logged;
    steps = steps_on;
    cut = stretches_push p.logged piece.logged stretches stretch p.cut (is piece.logged (piece.together first begins) piece.rows_of);
  }
    where
      is : (logged : List Logged) → AreTogether first 0 logged → rows ≡ map (λ (s : Logged). s.row) logged → IsStretchOf logged stretch
      is [] together e = absurd (let n = ap (length {A = StepRow}) e in omega arith)
      is (x ∷ others) together e =
          let n = ap (length {A = StepRow}) e in
          let m = map_size others in
          let line : x.entry.line ≡ first.line = together.2 ∙ omega arith in
          record {
            first = x;
            others = others;
            some = refl;
            together = towards (x ∷ others) first x.entry 0 together (sym together.0) (sym together.1) (sym line);
            rows = same ∙ e;
            straight = subst (λ (r : List StepRow). AreStraight r (length r - 1)) (sym same) piece.straight;
            process = process ∙ sym together.1;
            begin = begin ∙ sym line;
            end = omega arith;
          }
        where
          towards : (l : List Logged) (a b : HartLogLine) (k : ℕ) → AreTogether a k l → a.hart ≡ b.hart → a.thread ≡ b.thread → a.line ≡ b.line → AreTogether b k l
          towards [] a b k h hart thread line = tt
          towards (y ∷ l) a b k h hart thread line = (h.0 ∙ hart, h.1 ∙ thread, h.2 ∙ ap (λ (n : ℕ). n + k) line, towards l a b (k + 1) h.3 hart thread line)

-- what is left after a piece
pub few_left : (rest : List HartLogLine) (count : ℕ) → length rest ≤ 65537 → length (take (length rest - count) (drop count rest)) ≤ 65537
few_left rest count few =
    let e = ap (length {A = HartLogLine}) (rest_whole rest count) in
    let n = length-drop count rest in
    omega arith

-- a stretch ends before 2^32
pub short_piece : (code : Code) (rest : List HartLogLine) (rows : List StepRow) (count : ℕ) (first : HartLogLine) (stretch : HartStretch) → IsHartPiece code rest rows count → AreLines rest → slice_get rest 0 ≡ Some first → stretch.steps ≡ rows → stretch.begin ≡ first.line → stretch.begin + length stretch.steps ≤ 2 ^ 32
short_piece code rest rows count first stretch piece lines begins same begin =
    let few = piece.few in
    let within = piece.within in
    let end = lines.few in
    let at = line_at lines.line rest 0 first lines.each begins in
    let size = ap (length {A = StepRow}) same in
    omega arith

-- a fault in what is left is one of all
pub fault_on : (code : Code) (entries rest : List HartLogLine) (stretches : List HartStretch) (r : HartLogRefusal) → Progress code entries rest stretches → IsStepsFault code rest r → IsStepsFault code entries r
fault_on code entries rest stretches r p h = by r h
  where
    reached : (from : HartLogLine) (to : ℕ) → IsEntryReached code rest from to → IsEntryReached code entries from to
    reached from to x = record {
      before = p.done ++ x.before;
      after = x.after;
      order = p.order ∙ ap (λ (es : List HartLogLine). p.done ++ es) x.order ∙ sym (append_assoc p.done x.before (from ∷ x.after));
      logged = p.logged ++ x.logged;
      steps = logged_append code p.done x.before (from ∷ x.after) p.logged x.logged (subst (λ (es : List HartLogLine). AreLoggedThen code p.done es p.logged) x.order p.steps) x.steps;
      next = x.next;
    }

    by : (r : HartLogRefusal) → IsStepsFault code rest r → IsStepsFault code entries r
    by (NoInstruction k fault) h = (h.0, h.1, reached h.0 h.1 h.2, h.3, h.4)
    by (NoStep k) h = (h.0, h.1, reached h.0 h.1 h.2, h.3, h.4)
    by OutOfMemory h = tt
    by (JumpEnds k) h = absurd h
    by NoSteps h = absurd h
    by TooLong h = absurd h
    by (NoNumbers k) h = absurd h
    by (Executable fault) h = absurd h
