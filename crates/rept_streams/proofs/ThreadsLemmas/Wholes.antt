-- The run of a file of several streams, from its parts.
use Rattle.std.proofs.Common.{◌≡◌, ◌⊎◌, inl, inr, ℕ, ◌<◌, ◌^◌, List, [], ◌∷◌, length, map, Bool, cond, Option, Some, None, Result, Ok, Err, refl, sym, ◌∙◌, ap, subst, arith}
use Rattle.std.specs.Prelude.{IfOk, IfErr, MatchResult}
use Rattle.std.specs.List.{All, sum_by}
use Rattle.std.proofs.lemmas.List.Elements.{All-nil, All-cons, All-same}
use Rattle.rept_steps.specs.Course.{IsSoundCourse}
use Rattle.rept_trace.specs.declared.parameters.Parameters.{Parameters}
use Rattle.rept_trace.specs.declared.packet.Packet.TheVariants.{Start, Context, Support, Address, Map, MapAddress}
use Rattle.rept_trace.specs.Grammar.{timed, IsPacket}
use Rattle.rept_trace.specs.Fits.{FieldsFit}
use Rattle.rept_trace.proofs.Fitting.{fits}
use Rattle.rept_dump.specs.declared.dump.Dump.{Dump}
use Rattle.rept_steps.specs.declared.run.Run.{Run}
use Rattle.rept_steps.specs.declared.threads.ThreadRows.{ThreadRows}
use Rattle.rept_trace.specs.declared.packet.Packet.{Packet}
use Rattle.rept_trace.specs.Streams.{StreamFile}
use Rattle.rept_trace.specs.Stream.{Stream, Hold}
use Rattle.rept_path.specs.Code.{Code}
use Rattle.rept_path.specs.declared.fault.PathFault.{PathFault}
use Rattle.rept_path.specs.declared.fault.PathFault.TheVariants.{NoStart, OutOfMemory}
use Rattle.rept_path.specs.declared.fault.PathFault.TheVariants as fault
use Rattle.rept_streams.specs.Slices.Stamps.{clock_of}
use Rattle.rept_streams.proofs.SlicesLemmas.Sound.{is_sound}
use Rattle.rept_streams.proofs.SlicesLemmas.Only.{one_run, one_refusal, run_or_refusal}
use Rattle.rept_streams.proofs.SlicesLemmas.OneSurvey.{same_lists, held_or_refused, same_refused}
use Rattle.rept_path.specs.Moves.{◌>>=◌}
use Rattle.rept_streams.specs.Slices.Parts.{ToldSlice, slices_told}
use Rattle.rept_streams.specs.Slices.Skipping.{windows, greatest, ends_of, kept, skipped, untraced}
use Rattle.rept_streams.specs.Slices.Checks.{first_fault, check}
use Rattle.rept_streams.specs.Slices.Stretches.{heads, StretchLegs, Walks, WalksFault, ran}
use Rattle.rept_streams.specs.Slices.Joins.{ThreadNote, ran_rows, threads}
use Rattle.rept_streams.specs.Slices.Many.{Traces, processes, ground, overlap_fault, unmet, run_by, joined, IsRunOfStreams, HasNoRunOfStreams}
use Rattle.rept_streams.specs.Slices.Raw.{streams_of, HoldEach, RawFiles, code_in, traces, IsRunOfFiles, HasNoRun, IsRefusedBefore, PassBefore, note_in, files_of}
use Rattle.rept_streams.specs.Threads.Notes.{known_by}
use Rattle.rept_streams.specs.Slices.Surveyed.{IsSurvey}
use Rattle.rept_streams.specs.declared.slices.survey.StreamSurvey.{StreamSurvey}
use Rattle.rept_streams.specs.declared.threads.notes.KeptNote.{KeptNote}

-- what is told before a row is walked, and the notes
pub record Parts (file : StreamFile) (descs : List (List ℕ)) (from : ℕ) (processes_are : List ℕ) (notes : List KeptNote) (lists : List (List Packet)) : Type 0 where
  pub passed : PassBefore (record { file = file; processes = processes_are; from = from }) lists
  pub noted : map known_by notes ≡ map note_in descs
  pub processes : processes_are ≡ map (λ (n : KeptNote). n.process) notes

known_processes : (notes : List KeptNote) → map (λ (n : KeptNote). n.process) notes ≡ map (λ (n : ThreadNote). n.process) (map known_by notes)
known_processes [] = refl
known_processes (n ∷ notes) = ap (λ (ps : List ℕ). n.process ∷ ps) (known_processes notes)

-- A file of which a packet is told has a stream.
no_stream : (from : ℕ) (threads : List ℕ) → check from threads [] ≡ Some (NoStart 0)
no_stream from threads = refl

pub some_stream : (file : StreamFile) (from : ℕ) (threads : List ℕ) (lists : List (List Packet)) → PassBefore (record { file = file; processes = threads; from = from }) lists → 0 < length file.streams
some_stream file from threads lists p = go file.streams refl where
  go : (streams : List (List ℕ)) → file.streams ≡ streams → 0 < length file.streams
  go [] e = absurd (
      let none : HoldEach [] lists = subst (λ (ss : List (List ℕ)). HoldEach (map (λ bytes. record { widths = timed file.halves; bytes = bytes }) ss) lists) e p.0 in
      let c : check from threads lists ≡ Some (NoStart 0) = ap (check from threads) none ∙ no_stream from threads in
      let q = p.1 in
      cc
      )
  go (s ∷ streams) e = let n = ap (length {A = List ℕ}) e in omega (arith, n)

pub untraced_is : (from : ℕ) (lists : List (List Packet)) (s : StreamSurvey) (d : Option ℕ) → IsSurvey from lists s → d ≡ cond s.several (Some (greatest (s.time ∷ ends_of s.time (slices_told (windows from lists))))) None → d ≡ untraced from lists
untraced_is from lists s d is h = h ∙ (λ i. cond (is.several i) (Some (greatest (is.time i ∷ ends_of (is.time i) (slices_told (windows from lists))))) None)

module _ (dump : Dump) (file : StreamFile) (descs : List (List ℕ)) (from : ℕ) (processes_are : List ℕ) (notes : List KeptNote) (lists : List (List Packet)) (p : Parts file descs from processes_are notes lists) where
  abbrev files : RawFiles
  files = files_of dump file descs from

  abbrev all : Traces
  all = traces files lists

  abbrev ts : List ToldSlice
  ts = slices_told (kept from lists)

  same_processes : processes_are ≡ processes all
  same_processes = p.processes ∙ known_processes notes ∙ ap (map (λ (n : ThreadNote). n.process)) p.noted

  passes : check from (processes all) lists ≡ None
  passes = ap (λ (ps : List ℕ). check from ps lists) (sym same_processes) ∙ p.passed.1

  pub no_walk : (code : Code) (e : PathFault) → code ≡ code_in files → WalksFault code 0 (heads ts) e → HasNoRun files e
  no_walk code e is h = inr (lists, p.passed.0, inr (passes, inl (subst (λ (c : Code). WalksFault c 0 (heads ts) e) is h)))

  module _ (code : Code) (is : code ≡ code_in files) (ws : List StretchLegs) (walks : Walks code 0 (heads ts) ws) where
    walks_too : Walks (code_in files) 0 (heads ts) ws
    walks_too = subst (λ (c : Code). Walks c 0 (heads ts) ws) is walks

    abbrev onward : List ThreadRows → Result Run PathFault
    onward rows = Ok (run_by all rows)

    abbrev by_threads : Result (List ThreadRows) PathFault
    by_threads = threads (ground all) (ran_rows (ran (code_in files) ts ws)) (map note_in descs) (ran (code_in files) ts ws)

    found_is : (o : Option PathFault) → o ≡ first_fault (overlap_fault ts) processes_are → first_fault (overlap_fault ts) (processes all) ≡ o
    found_is o h = sym (h ∙ ap (first_fault (overlap_fault ts)) same_processes)

    pub no_turn : (e : PathFault) → Some e ≡ first_fault (overlap_fault ts) processes_are → HasNoRun files e
    no_turn e h =
        inr (lists, p.passed.0, inr (passes, inr (ws, walks_too, ap (λ (o : Option PathFault). unmet o >>= (λ none. by_threads >>= onward)) (found_is (Some e) h))))

    same_threads : (packets count : ℕ) (r : Result (List ThreadRows) PathFault) → packets ≡ sum_by (λ ps. length ps) lists → count ≡ ran_rows (ran code ts ws) → threads (record { code = code; packets = packets }) count (map known_by notes) (ran code ts ws) ≡ r → by_threads ≡ r
    same_threads packets count r packets_are counted h =
        let there : count ≡ ran_rows (ran (code_in files) ts ws) = counted ∙ ap (λ (c : Code). ran_rows (ran c ts ws)) is in
        sym (λ i. threads (record { code = is i; packets = packets_are i }) (there i) (p.noted i) (ran (is i) ts ws)) ∙ h

    pub no_join : (packets count : ℕ) (e : PathFault) → None ≡ first_fault (overlap_fault ts) processes_are → packets ≡ sum_by (λ ps. length ps) lists → count ≡ ran_rows (ran code ts ws)
        → threads (record { code = code; packets = packets }) count (map known_by notes) (ran code ts ws) ≡ Err e → HasNoRun files e
    no_join packets count e unmet_is packets_are counted h =
        let apart = ap (λ (o : Option PathFault). unmet o >>= (λ none. by_threads >>= onward)) (found_is None unmet_is) in
        inr (lists, p.passed.0, inr (passes, inr (ws, walks_too, apart ∙ ap (λ (r : Result (List ThreadRows) PathFault). r >>= onward) (same_threads packets count (Err e) packets_are counted h))))

    pub has_run : (packets count : ℕ) (rows : List ThreadRows) (d : Option ℕ) (n : ℕ) → None ≡ first_fault (overlap_fault ts) processes_are → packets ≡ sum_by (λ ps. length ps) lists → count ≡ ran_rows (ran code ts ws)
        → threads (record { code = code; packets = packets }) count (map known_by notes) (ran code ts ws) ≡ Ok rows → d ≡ untraced from lists → n ≡ skipped from lists → IsRunOfFiles files (record { threads = rows; untraced = d; skipped = n })
    has_run packets count rows d n unmet_is packets_are counted h untraced_of skips =
        let apart = ap (λ (o : Option PathFault). unmet o >>= (λ none. by_threads >>= onward)) (found_is None unmet_is) in
        let result : joined all ws ≡ Ok (run_by all rows) = apart ∙ ap (λ (r : Result (List ThreadRows) PathFault). r >>= onward) (same_threads packets count (Ok rows) packets_are counted h) in
        let run_is : record { threads = rows; untraced = d; skipped = n } ≡ run_by all rows = λ i. record { threads = rows; untraced = untraced_of i; skipped = skips i } in
        (lists, p.passed.0, subst (λ (r : Run). IsRunOfStreams all r) (sym run_is) (record { passed = passes; walked = ws; walks = walks_too; result = result }))

-- A survey is refused as the whole is.
pub refused_before : (dump : Dump) (file : StreamFile) (descs : List (List ℕ)) (from : ℕ) (processes_are : List ℕ) (notes : List KeptNote) (e : PathFault) → map known_by notes ≡ map note_in descs → processes_are ≡ map (λ (n : KeptNote). n.process) notes
    → IsRefusedBefore (record { file = file; processes = processes_are; from = from }) e → HasNoRun (files_of dump file descs from) e
refused_before dump file descs from processes_are notes e noted processes_is (inl x) = inl x
refused_before dump file descs from processes_are notes e noted processes_is (inr x) =
    let same : processes_are ≡ map (λ (n : ThreadNote). n.process) (map note_in descs) = processes_is ∙ known_processes notes ∙ ap (map (λ (n : ThreadNote). n.process)) noted in
    inr (x.0, x.1, inl (ap (λ (ps : List ℕ). check from ps x.0) (sym same) ∙ x.2))

-- times have 64 bits
clock_fits : (halves : Bool) (x : Packet) → FieldsFit (timed halves) x → clock_of x < 2 ^ 64
clock_fits halves (Start branch privilege a time context) f = f.2.0
clock_fits halves (Context privilege time context) f = f.1.0
clock_fits halves (Support enabled status) f = omega arith
clock_fits halves (Address report) f = omega arith
clock_fits halves (Map map) f = omega arith
clock_fits halves (MapAddress count map report) f = omega arith

clocks_fit : (halves : Bool) (stream : Stream) (packets : List Packet) → stream.widths ≡ timed halves → Hold stream packets → All (λ p. clock_of p < 2 ^ 64) packets
clocks_fit halves stream [] w h = All-nil (λ (p : Packet). clock_of p < 2 ^ 64)
clocks_fit halves stream (p ∷ packets) w h =
    let b = h.1 in
    let spelt : IsPacket (timed halves) b.0 p = subst (λ (x : Parameters). IsPacket x b.0 p) w b.2 in
    All-cons (λ (q : Packet). clock_of q < 2 ^ 64) p packets (clock_fits halves p (fits (timed halves) b.0 p spelt)) (clocks_fit halves h.0 packets (b.3 ∙ w) h.2)

all_clocks : (halves : Bool) (streams : List (List ℕ)) (lists : List (List Packet)) → HoldEach (map (λ bytes. record { widths = timed halves; bytes = bytes }) streams) lists → All (All (λ p. clock_of p < 2 ^ 64)) lists
all_clocks halves [] lists h = All-same (All (λ (p : Packet). clock_of p < 2 ^ 64)) lists [] h (All-nil (All (λ (p : Packet). clock_of p < 2 ^ 64)))
all_clocks halves (s ∷ streams) [] h = absurd h
all_clocks halves (s ∷ streams) (p ∷ lists) h = All-cons (All (λ (q : Packet). clock_of q < 2 ^ 64)) p lists (clocks_fit halves (record { widths = timed halves; bytes = s }) p refl h.0) (all_clocks halves streams lists h.1)

-- The run of a file is sound.
pub file_sound : (f : RawFiles) (run : Run) → IsRunOfFiles f run → IsSoundCourse (record { threads = run.threads; untraced = run.untraced })
file_sound f run x = is_sound (traces f x.0) run (all_clocks f.file.halves f.file.streams x.0 x.1) x.2

-- There is one answer.
pub one_run_of : (f : RawFiles) (a b : Run) → IsRunOfFiles f a → IsRunOfFiles f b → a ≡ b
one_run_of f a b x y = one_run (traces f y.0) a b (subst (λ (ps : List (List Packet)). IsRunOfStreams (traces f ps) a) (same_lists (streams_of f.file) x.0 y.0 x.1 y.1) x.2) y.2

pub run_or_none : (f : RawFiles) (a : Run) (e : PathFault) → IsRunOfFiles f a → HasNoRun f e → ⊥
run_or_none f a e x (inl y) = held_or_refused 0 (streams_of f.file) x.0 y.0 x.1 y.1
run_or_none f a e x (inr y) = run_or_refusal (traces f y.0) a e (subst (λ (ps : List (List Packet)). IsRunOfStreams (traces f ps) a) (same_lists (streams_of f.file) x.0 y.0 x.1 y.1) x.2) y.2

pub one_refusal_of : (f : RawFiles) (d e : PathFault) → HasNoRun f d → HasNoRun f e → d ≡ e
one_refusal_of f d e (inl x) (inl y) = x.2 ∙ ap fault.Packet (same_refused 0 (streams_of f.file) x.0 y.0 x.1 y.1) ∙ sym y.2
one_refusal_of f d e (inl x) (inr y) = absurd (held_or_refused 0 (streams_of f.file) y.0 x.0 y.1 x.1)
one_refusal_of f d e (inr x) (inl y) = absurd (held_or_refused 0 (streams_of f.file) x.0 y.0 x.1 y.1)
one_refusal_of f d e (inr x) (inr y) = one_refusal (traces f y.0) d e (subst (λ (ps : List (List Packet)). HasNoRunOfStreams (traces f ps) d) (same_lists (streams_of f.file) x.0 y.0 x.1 y.1) x.2) y.2

-- What holds of a result by one clause each makes it the only one.
pub only_found : {A : Type 0} (P : A → Type 0) (Q : PathFault → Type 0) (r : Result A PathFault) (x : A) → IfOk r P → IfErr r (λ e. (e ≡ OutOfMemory) ⊎ Q e) → ((a : A) → P a → a ≡ x) → ((e : PathFault) → Q e → ⊥) → MatchResult r (λ a. a ≡ x) (λ e. e ≡ OutOfMemory)
only_found P Q (Ok a) x ok err one none = one a ok
only_found P Q (Err e) x ok err one none = elim err [ inl m ↦ m | inr q ↦ absurd (none e q) ]

pub only_fault : {A : Type 0} (P : A → Type 0) (Q : PathFault → Type 0) (r : Result A PathFault) (f : PathFault) → IfOk r P → IfErr r (λ e. (e ≡ OutOfMemory) ⊎ Q e) → ((a : A) → P a → ⊥) → ((e : PathFault) → Q e → e ≡ f) → MatchResult r (λ a. ⊥) (λ e. (e ≡ OutOfMemory) ⊎ (e ≡ f))
only_fault P Q (Ok a) f ok err none one = none a ok
only_fault P Q (Err e) f ok err none one = elim err [ inl m ↦ inl m | inr q ↦ inr (one e q) ]
