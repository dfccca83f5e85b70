-- An analysis keeps what always holds of it, when a fact is learnt or an address is tracked.
use Rattle.std.proofs.Common.{slice_get, ◌≡◌, ℕ, ◌+◌, ◌<◌, ◌≤◌, ◌^◌, Bool, true, false, cond, List, [], ◌∷◌, length, Option, Some, None, Result, Ok, Err, Contains, inl, inr, refl, sym, ap, subst, ◌∙◌, arith}
use Rattle.std.proofs.lemmas.Bool.{cases_Bool, false≢true, true≢false, false_from_ne_true}
use Rattle.std.proofs.lemmas.List.{length_push}
use Rattle.std.proofs.lemmas.List.Elements.{Contains-append_left, Contains-push}
use mathlib.Core.Path.{fun_ext}
use Rattle.std.specs.declared.alloc.AllocError.{AllocError}
use Rattle.rept_reason.specs.declared.fact.Fact.{Fact}
use Rattle.rept_reason.specs.declared.fact.Cell.{Cell}
use Rattle.rept_reason.specs.declared.fact.Cell.TheVariants.{Register, Byte}
use Rattle.rept_reason.specs.Facts.{Knowledge, IsCell, told, speaks}
use Rattle.rept_span.specs.Ranges.{AreLegs}
use Rattle.rept_report.specs.Setting.{HasLaws, IsInstant}
use Rattle.rept_report.specs.Conclusions.{IsWordOf, HasWords}
use Rattle.rept_report.specs.Log.{oldest, OnceEach, Entry, facts_of, add_if, logged_of, IsByte, IsLearnt, IsTrace}
use Rattle.rept_report.specs.declared.conflict.ConflictKind.{ConflictKind}
use Rattle.rept_report.proofs.Told.{told_new, told_old, told_more, speaks_is, none_some}
use Rattle.rept_report.proofs.Places.{oldest_new}
use Rattle.rept_report.proofs.Traces.{trace_words, words_of}
use Rattle.rept_versions.specs.Facts.{ByteFact}
use Rattle.rept_log.specs.declared.answer.LearnOutcome.{LearnOutcome}
use Rattle.rept_log.specs.declared.answer.LearnOutcome.TheVariants.{Old, New, Clash}
use Rattle.rept_log.specs.Known.{Known, knows, known_change, with_entry, IsNew, LearnsRegister, AddsByte, LearnsByte, HasNoRoom, TracksMore, TracksByte}
use Rattle.rept_facts.specs.State.{AnalysisState, IsRoomy, all_known, along}
use Rattle.rept_report.specs.Why.{fact_of}
use Rattle.rept_facts.specs.Inferring.{IsTracked, Grows, IsFollowing, IsBrought, IsRowAddress, HasPlace}
use Rattle.rept_facts.specs.Sums.{sum_to}
use Rattle.rept_facts.specs.Room.{places_at, HasRoom}
use Rattle.rept_facts.specs.Inferring.HasNews.{fact, address}
use Rattle.rept_facts.specs.Kept.{IsKept}
use Rattle.rept_writing.specs.declared.passes.pass.Pass.{Pass}
use Rattle.rept_writing.specs.declared.passes.pass.Pass.TheVariants.{Never}
use Rattle.rept_facts.proofs.Barriers.{writings_still}
use Rattle.rept_facts.proofs.Begun.{log_added}
use Rattle.rept_facts.proofs.Passing.{passes_more, never_pass}
use Rattle.rept_facts.proofs.Reserve.{room_like, room_inferred, room_last, room_to_infer, room_to_read, room_tracked, room_to_track, room_new}
use Rattle.rept_facts.specs.Told.{ByteToldAs, IsNewlyTold, ToldAs, Tracks}

abbrev pub with_known : {W : Type 0} → AnalysisState W → Known → AnalysisState W
with_known s k = record { path = s.path; known = k; spans = s.spans; filled = s.filled; shown = s.shown; complete = s.complete; conflict = s.conflict; work = s.work }

same_byte : {a b : ℕ} → Byte a ≡ Byte b → a ≡ b
same_byte e = cc

byte_differs : {a r : ℕ} → Byte a ≡ Register r → ⊥
byte_differs e = cc

register_differs : {a r : ℕ} → Register r ≡ Byte a → ⊥
register_differs e = cc

-- the older part of a log stays
oldest_add : (t : ℕ) (keep : Bool) (f : Fact) (fs : List Fact) → t ≤ length fs → oldest t (add_if keep f fs) ≡ oldest t fs
oldest_add t true f fs h = oldest_new t f fs h
oldest_add t false f fs h = refl

length_add : (keep : Bool) (f : Fact) (fs : List Fact) → length fs ≤ length (add_if keep f fs)
length_add true f fs = omega arith
length_add false f fs = omega arith

pub same_known : {W : Type 0} (s : AnalysisState W) (k : Known) → k ≡ s.known → with_known s k ≡ s
same_known s k e = ap (λ (x : Known). with_known s x) e

pub kept_same : {W : Type 0} (s : AnalysisState W) (k : Known) → k ≡ s.known → IsKept s → IsKept (with_known s k)
kept_same s k e kept = subst (λ (x : AnalysisState _). IsKept x) (sym (same_known s k e)) kept

module _ {W : Type 0} (s : AnalysisState W) (kept : IsKept s) where
  -- the facts that were learnt are what is known
  pub trace_known : told (facts_of kept.traced.entries) ≡ all_known s
  trace_known = fun_ext (λ p. fun_ext (λ c. kept.traced.agree p c))

  pub known_words : HasWords (all_known s)
  known_words = subst HasWords trace_known (words_of (facts_of kept.traced.entries) (trace_words (along s.path) kept.traced.entries kept.traced.trace))

-- a fact that was learnt, and what is known with it
pub record IsNext {W : Type 0} (s : AnalysisState W) (kept : IsKept s) (f : Fact) (keep : Bool) (k : Known) : Type 0 where
  pub early : IsInstant (along s.path) f.cell f.point
  pub cell : IsCell f.cell
  pub word : IsWordOf f.cell f.value
  pub new : all_known s f.point f.cell ≡ None
  pub open_ : s.complete ≡ false
  pub follows : IsFollowing s f
  pub brought : keep ≡ false → IsByte f.cell × IsBrought s f
  pub last : k.last ≡ s.known.last
  pub log : k.log ≡ add_if keep f s.known.log
  pub once : OnceEach k.log
  pub tracked : k.store.tracked ≡ s.known.store.tracked
  pub listed : (p a v : ℕ) → knows k p (Byte a) ≡ Some v → Contains s.known.store.tracked a
  pub roomy : ((p : ℕ) (c : Cell) (v : ℕ) → all_known s p c ≡ Some v → knows k p c ≡ Some v) → IsRoomy s → HasRoom s.path k
  pub agree : (p : ℕ) (c : Cell) → told (f ∷ facts_of kept.traced.entries) p c ≡ knows k p c

module _ {W : Type 0} (s : AnalysisState W) (kept : IsKept s) (f : Fact) (keep : Bool) (k : Known) (n : IsNext s kept f keep k) where
  abbrev learnt : Entry
  learnt = record { fact = f; logged = keep }

  abbrev es : List Entry
  es = kept.traced.entries

  next_learnt : IsLearnt (along s.path) (told (facts_of es)) learnt
  next_learnt = subst (λ (K : Knowledge). IsLearnt (along s.path) K learnt) (sym (trace_known s kept)) (record {
    cell = n.cell;
    word = n.word;
    new = n.new;
    unlogged = λ e. (n.brought e).0;
    carried = λ e quiet. (n.brought e).1 quiet;
    follows = n.follows;
  })

  next_trace : IsTrace (along s.path) (learnt ∷ es)
  next_trace = (kept.traced.trace, next_learnt)

  next_logged : logged_of (learnt ∷ es) ≡ k.log
  next_logged = ap (λ (fs : List Fact). add_if keep f fs) kept.traced.logged ∙ sym n.log

  old_part : (t : ℕ) → t ≤ length s.known.log → oldest t k.log ≡ oldest t s.known.log
  old_part t h = rw n.log (oldest_add t keep f s.known.log h)

  no_shorter : length s.known.log ≤ length k.log
  no_shorter = rw n.log (length_add keep f s.known.log)

  more : (p : ℕ) (c : Cell) (v : ℕ) → all_known s p c ≡ Some v → knows k p c ≡ Some v
  more p c v e =
      let was : told (facts_of es) f.point f.cell ≡ None = kept.traced.agree f.point f.cell ∙ n.new in
      sym (n.agree p c) ∙ told_more f (facts_of es) was p c v (kept.traced.agree p c ∙ e)

  here : knows k f.point f.cell ≡ Some f.value
  here = sym (n.agree f.point f.cell) ∙ told_new f (facts_of es)

  pub next_kept : IsKept (with_known s k)
  next_kept =
      let longer = no_shorter in
      let filled = kept.filled in
      let shown = kept.shown in
      record {
        few = kept.few;
        registers = kept.registers;
        last_is = n.last ∙ kept.last_is;
        sized = kept.sized;
        filled = omega (arith, longer, filled);
        once = n.once;
        traced = record { entries = learnt ∷ es; trace = next_trace; logged = next_logged; agree = n.agree };
        listed = λ p a v e. subst (λ (xs : List ℕ). Contains xs a) (sym n.tracked) (n.listed p a v e);
        shown = omega (arith, longer, shown);
        calm = λ u below. rw (old_part u (omega (arith, shown, below))) (kept.calm u below);
        stopped = kept.stopped;
        finished = λ e. absurd (false≢true (sym n.open_ ∙ e));
        room = kept.room;
        rows = kept.rows;
        inferred = passes_more s (with_known s k) refl more refl kept.inferred;
        roomy = n.roomy more;
      }

  next_words : HasWords (knows k)
  next_words = known_words (with_known s k) next_kept

  pub next_told : IsNewlyTold s (with_known s k) f
  next_told = record {
    grows = record {
      path = refl;
      count = refl;
      row = λ i. refl;
      spans = refl;
      filled = refl;
      shown = refl;
      complete = refl;
      conflict = refl;
      answers = old_part s.shown kept.shown;
      older = old_part s.filled kept.filled;
      longer = no_shorter;
      log = old_part;
      more = more;
      tracked = λ a h. subst (λ (xs : List ℕ). Contains xs a) (sym n.tracked) h;
      counted = rw n.tracked (omega arith);
      writing = writings_still s (with_known s k) refl refl (old_part s.filled kept.filled) more refl (λ _. next_words);
      fewer = omega arith;
      spent = omega arith;
      words = λ _. next_words;
    };
    news = fact f.point f.cell f.value n.early n.cell n.new here;
    here = here;
    still = refl;
    log = log_added keep f s.known.log k.log n.log;
  }

-- a register
module _ {W : Type 0} (s : AnalysisState W) (kept : IsKept s) (p r v : ℕ) (early : p ≤ s.path.given.legs.count) (named : 0 < r) (in_file : r < 32) (small : v < 2 ^ 32) (open_ : s.complete ≡ false) (follows : IsFollowing s (fact_of p (Register r) v)) where
  register_agrees : (q : ℕ) (c : Cell) → told (fact_of p (Register r) v ∷ facts_of kept.traced.entries) q c ≡ knows (with_entry s.known (fact_of p (Register r) v)) q c
  register_agrees q (Register t) = ap (λ (x : Option ℕ). cond (speaks (fact_of p (Register r) v) q (Register t)) (Some v) x) (kept.traced.agree q (Register t))
  register_agrees q (Byte a) = told_old (fact_of p (Register r) v) (facts_of kept.traced.entries) q (Byte a) (false_from_ne_true (speaks (fact_of p (Register r) v) q (Byte a)) (λ e. register_differs (speaks_is (fact_of p (Register r) v) q (Byte a) e).1)) ∙ kept.traced.agree q (Byte a)

  register_next : OnceEach (fact_of p (Register r) v ∷ s.known.log) → told s.known.log p (Register r) ≡ None → IsNext s kept (fact_of p (Register r) v) true (with_entry s.known (fact_of p (Register r) v))
  register_next once none = record {
    early = early;
    cell = (named, in_file);
    word = small;
    new = none;
    open_ = open_;
    follows = follows;
    brought = λ e. absurd (true≢false e);
    last = refl;
    log = refl;
    once = once;
    tracked = refl;
    listed = λ q a w e. kept.listed q a w e;
    roomy = λ more j. room_like s.path s.known (with_entry s.known (fact_of p (Register r) v)) more (omega arith) (omega arith) refl refl (kept.roomy j);
    agree = register_agrees;
  }

  pub told_register : (k : Known) → OnceEach k.log → (answer : LearnOutcome) → LearnsRegister s.known k (fact_of p (Register r) v) answer → IsKept (with_known s k) × ToldAs s (with_known s k) (fact_of p (Register r) v) answer
  told_register k once Old (same, known) = (kept_same s k same kept, (same_known s k same, known))
  told_register k once (Clash w) (same, known, differs) = (kept_same s k same kept, (same_known s k same, known, differs))
  told_register k once New (same, none) =
      let n = register_next (subst (λ (x : Known). OnceEach x.log) same once) none in
      subst (λ (x : Known). IsKept (with_known s x) × ToldAs s (with_known s x) (fact_of p (Register r) v) New) (sym same) (next_kept s kept _ true _ n, next_told s kept _ true _ n)

-- a byte
module _ {W : Type 0} (s : AnalysisState W) (kept : IsKept s) (joins : Bool) (p a v : ℕ) (early : p ≤ s.path.given.moments.end) (small : a < 2 ^ 32) (tracked : IsTracked a s) (open_ : s.complete ≡ false) (follows : IsFollowing s (fact_of p (Byte a) v)) (keep : Bool) (brought : keep ≡ false → IsBrought s (fact_of p (Byte a) v)) where
  abbrev f : Fact
  f = fact_of p (Byte a) v

  abbrev on_byte : ByteFact
  on_byte = record { point = p; address = a; value = v }

  module _ (k : Known) (adds : AddsByte (known_change joins s.known k) on_byte keep) where
    silent : (q r : ℕ) → speaks f q (Register r) ≡ false
    silent q r = false_from_ne_true (speaks f q (Register r)) (λ e. byte_differs (speaks_is f q (Register r) e).1)

    register_stays : (q r : ℕ) → told k.log q (Register r) ≡ told s.known.log q (Register r)
    register_stays q r = rw adds.log (of keep)
      where
        of : (b : Bool) → told (add_if b f s.known.log) q (Register r) ≡ told s.known.log q (Register r)
        of true = told_old f s.known.log q (Register r) (silent q r)
        of false = refl

    byte_agrees : (q : ℕ) (c : Cell) → told (f ∷ facts_of kept.traced.entries) q c ≡ knows k q c
    byte_agrees q (Register r) = told_old f (facts_of kept.traced.entries) q (Register r) (silent q r) ∙ kept.traced.agree q (Register r) ∙ sym (register_stays q r)
    byte_agrees q (Byte b) =
        elim (cases_Bool (speaks f q (Byte b))) [
          | inl is ↦
              let parts = speaks_is f q (Byte b) is in
              let point : p ≡ q = parts.0 in
              let address : a ≡ b = same_byte parts.1 in
              rw (← point, ← address) (told_new f (facts_of kept.traced.entries) ∙ sym adds.store.here)
          | inr elsewhere ↦ told_old f (facts_of kept.traced.entries) q (Byte b) elsewhere ∙ kept.traced.agree q (Byte b) ∙ sym (adds.store.others q b (λ is_p is_a. not_here q b elsewhere is_p is_a))
        ]
      where
        not_here : (q b : ℕ) → speaks f q (Byte b) ≡ false → q ≡ p → b ≡ a → ⊥
        not_here q b elsewhere is_p is_a =
            let at : speaks f p (Byte a) ≡ false = subst (λ (z : ℕ). speaks f p (Byte z) ≡ false) is_a (subst (λ (z : ℕ). speaks f z (Byte b) ≡ false) is_p elsewhere) in
            let new : told (f ∷ facts_of kept.traced.entries) p (Byte a) ≡ Some v = told_new f (facts_of kept.traced.entries) in
            let old = told_old f (facts_of kept.traced.entries) p (Byte a) at in
            none_some (sym (kept.traced.agree p (Byte a) ∙ adds.store.none) ∙ sym old ∙ new)

    byte_listed : (q b w : ℕ) → knows k q (Byte b) ≡ Some w → Contains s.known.store.tracked b
    byte_listed q b w e =
        elim (cases_Bool (speaks f q (Byte b))) [
          | inl is ↦ subst (λ (x : ℕ). Contains s.known.store.tracked x) (same_byte (speaks_is f q (Byte b) is).1) tracked
          | inr elsewhere ↦ kept.listed q b w (sym (kept.traced.agree q (Byte b)) ∙ sym (told_old f (facts_of kept.traced.entries) q (Byte b) elsewhere) ∙ byte_agrees q (Byte b) ∙ e)
        ]

    byte_next : OnceEach k.log → (((q : ℕ) (c : Cell) (w : ℕ) → all_known s q c ≡ Some w → knows k q c ≡ Some w) → IsRoomy s → HasRoom s.path k) → IsNext s kept f keep k
    byte_next once roomy = record {
      early = early;
      cell = small;
      word = tt;
      new = adds.store.none;
      open_ = open_;
      follows = follows;
      brought = λ e. (tt, brought e);
      last = adds.last;
      log = adds.log;
      once = once;
      tracked = adds.store.tracked;
      listed = byte_listed;
      roomy = roomy;
      agree = byte_agrees;
    }

    -- it is new
    pub new_byte : OnceEach k.log → (((q : ℕ) (c : Cell) (w : ℕ) → all_known s q c ≡ Some w → knows k q c ≡ Some w) → IsRoomy s → HasRoom s.path k) → IsKept (with_known s k) × IsNewlyTold s (with_known s k) f
    new_byte once roomy = let n = byte_next once roomy in (next_kept s kept f keep k n, next_told s kept f keep k n)

-- a byte for which there is room
module _ {W : Type 0} (s : AnalysisState W) (laws : HasLaws (along s.path)) (kept : IsKept s) (joins : Bool) (p a v : ℕ) (early : p ≤ s.path.given.moments.end) (small : a < 2 ^ 32) (tracked : IsTracked a s) (open_ : s.complete ≡ false) (follows : IsFollowing s (fact_of p (Byte a) v)) where
  abbrev g : Fact
  g = fact_of p (Byte a) v

  abbrev byte_learnt : ByteFact
  byte_learnt = record { point = p; address = a; value = v }

  byte_room : (keep : Bool) → HasPlace keep p a s → (k : Known) → AddsByte (known_change joins s.known k) byte_learnt keep → ((q : ℕ) (c : Cell) (w : ℕ) → all_known s q c ≡ Some w → knows k q c ≡ Some w) → IsRoomy s → HasRoom s.path k
  byte_room true place k adds more j = room_inferred s.path laws s.known k more joins p a v place adds (kept.roomy j)
  byte_room false (inl place) k adds more j = room_last s.path s.known k more joins p a v place tracked adds (kept.roomy j)
  byte_room false (inr plain) k adds more j = absurd (plain j)

  byte_full : (keep : Bool) → HasPlace keep p a s → HasNoRoom s.known p a keep → IsRoomy s → ⊥
  byte_full true place full j = room_to_infer s.path laws s.known (kept.roomy j) p a place full
  byte_full false (inl place) full j = room_to_read s.path s.known (kept.roomy j) p a place tracked full
  byte_full false (inr plain) full j = plain j

  pub told_byte : (keep : Bool) → (keep ≡ false → IsBrought s g) → HasPlace keep p a s → (k : Known) → OnceEach k.log → (r : Result LearnOutcome AllocError) → LearnsByte (known_change joins s.known k) byte_learnt keep r → IsKept (with_known s k) × ByteToldAs s (with_known s k) g r
  told_byte keep brought place k once (Err e) (same, full) = (kept_same s k same kept, (same_known s k same, byte_full keep place full))
  told_byte keep brought place k once (Ok Old) (same, known) = (kept_same s k same kept, (same_known s k same, known))
  told_byte keep brought place k once (Ok (Clash w)) (same, known, differs) = (kept_same s k same kept, (same_known s k same, known, differs))
  told_byte keep brought place k once (Ok New) adds = new_byte s kept joins p a v early small tracked open_ follows keep brought k adds once (byte_room keep place k adds)

-- one more address is tracked
module _ {W : Type 0} (s : AnalysisState W) (legs : AreLegs s.path.given.legs) (kept : IsKept s) (a : ℕ) (small : a < 2 ^ 32) (open_ : s.complete ≡ false) (row : IsRowAddress a s) where
  module _ (k : Known) (h : TracksMore s.known k a) where
    same_knows : (p : ℕ) (c : Cell) → all_known s p c ≡ knows k p c
    same_knows p (Register r) = rw h.log refl
    same_knows p (Byte b) = rw h.fact refl

    still : (b : ℕ) → IsTracked b s → Contains k.store.tracked b
    still b at = rw h.tracked (Contains-append_left s.known.store.tracked (a ∷ []) b at)

    track_kept : IsKept (with_known s k)
    track_kept = record {
      few = kept.few;
      registers = kept.registers;
      last_is = h.last ∙ kept.last_is;
      sized = kept.sized;
      filled = rw h.log kept.filled;
      once = rw h.log kept.once;
      traced = record { entries = kept.traced.entries; trace = kept.traced.trace; logged = kept.traced.logged ∙ sym h.log; agree = λ p c. kept.traced.agree p c ∙ same_knows p c };
      listed = λ p b v e. still b (kept.listed p b v (same_knows p (Byte b) ∙ e));
      shown = rw h.log kept.shown;
      calm = λ u below. rw h.log (kept.calm u below);
      stopped = kept.stopped;
      finished = λ e. absurd (false≢true (sym open_ ∙ e));
      room = kept.room;
      rows = kept.rows;
      inferred = passes_more s (with_known s k) refl (λ p c v e. sym (same_knows p c) ∙ e) refl kept.inferred;
      roomy = λ j. room_tracked s.path legs s.known (kept.roomy j) row.0 row.1 a row.2 h.was_not k h;
    }

    track_grows : Grows s (with_known s k)
    track_grows = record {
      path = refl;
      count = refl;
      row = λ i. refl;
      spans = refl;
      filled = refl;
      shown = refl;
      complete = refl;
      conflict = refl;
      answers = ap (λ (fs : List Fact). oldest s.shown fs) h.log;
      older = ap (λ (fs : List Fact). oldest s.filled fs) h.log;
      longer = rw h.log (omega arith);
      log = λ t below. ap (λ (fs : List Fact). oldest t fs) h.log;
      more = λ p c v e. sym (same_knows p c) ∙ e;
      tracked = still;
      counted = let long = length_push s.known.store.tracked a in rw h.tracked (omega (arith, long));
      writing = writings_still s (with_known s k) refl refl (ap (λ (fs : List Fact). oldest s.filled fs) h.log) (λ p c v e. sym (same_knows p c) ∙ e) refl (λ words p r v e. words p r v (same_knows p (Register r) ∙ e));
      fewer = omega arith;
      spent = omega arith;
      words = λ words p r v e. words p r v (same_knows p (Register r) ∙ e);
    }

    now_tracked : Contains k.store.tracked a
    now_tracked = rw h.tracked (Contains-push s.known.store.tracked a)

  never_full : (IsTracked a s → ⊥) → (s.work.joins ≡ true → s.known.store.places ≤ length s.known.store.tracked) → IsRoomy s → ⊥
  never_full was_not full j = let free = room_to_track s.path legs s.known (kept.roomy j) row.0 row.1 a row.2 was_not in let none = full j.0 in omega (arith, free, none)

  pub tracked_byte : (k : Known) (r : Result Bool AllocError) → TracksByte (known_change s.work.joins s.known k) a r → IsKept (with_known s k) × Tracks s (with_known s k) a r
  tracked_byte k (Err e) (same, was_not, full) = (kept_same s k same kept, (same_known s k same, never_full was_not full))
  tracked_byte k (Ok false) (same, there) = (kept_same s k same kept, (same_known s k same, there))
  tracked_byte k (Ok true) h = (track_kept k h, (track_grows k h, address a small h.was_not (now_tracked k h), now_tracked k h, h.log, h.fact, refl))

-- a new analysis
pub fresh_kept : {W : Type 0} (s : AnalysisState W) (bytes : ℕ) → bytes ≡ sum_to (places_at s.path) (s.path.given.legs.count) → s.path.given.legs.count ≤ 66560 → ((p r v : ℕ) → s.path.given.last p r ≡ Some v → r < 32) → IsNew s.work.joins s.known (s.path.given.legs.count) bytes → s.spans.points ≡ s.path.given.legs.count + 1 → s.filled ≡ 0 → s.shown ≡ 0 → s.complete ≡ false → s.conflict ≡ None → s.path.given.moments.end < s.work.room → length s.work.inferred ≡ s.path.given.legs.count → ((i : ℕ) (x : Pass) → slice_get s.work.inferred i ≡ Some x → x ≡ Never) → IsKept s
fresh_kept s bytes sum few registers new sized filled shown open_ calm_ room rows never = record {
  few = few;
  registers = registers;
  last_is = new.last_is;
  sized = sized;
  filled = rw filled (omega arith);
  once = rw new.log tt;
  traced = record { entries = []; trace = tt; logged = sym new.log; agree = agree };
  listed = λ p a v e. absurd (none_some (sym (new.made.fact p a) ∙ e));
  shown = rw shown (omega arith);
  calm = λ u below. let none = shown in absurd (omega (arith, none, below));
  stopped = λ kind e. absurd (differs (sym calm_ ∙ e));
  finished = λ e. absurd (false≢true (sym open_ ∙ e));
  room = room;
  rows = rows;
  inferred = λ i row x at is. never_pass s row i x (never i x is);
  roomy = λ j. let places = new.made.places j.0 in let spare = new.made.spare j.0 in room_new s.path s.known bytes sum new.made.tracked new.left (omega (arith, places)) (omega (arith, spare));
}
  where
    differs : {kind : ConflictKind} → None ≡ Some kind → ⊥
    differs e = cc

    agree : (p : ℕ) (c : Cell) → None ≡ all_known s p c
    agree p (Register r) = rw new.log refl
    agree p (Byte a) = sym (new.made.fact p a)
