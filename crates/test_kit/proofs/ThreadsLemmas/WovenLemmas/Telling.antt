-- The slices of a written stream, packet by packet.
use Rattle.std.proofs.Common.{◌≡◌, ℕ, suc, ◌+◌, List, [], ◌∷◌, ◌++◌, length, Bool, true, false, not, cond, Option, Some, None, ◌≤◌, ◌||◌, refl, sym, ◌∙◌, ap, subst, arith, append_assoc}
use Rattle.std.specs.List.{list_any}
use Rattle.std.proofs.lemmas.Bool.{le-ltb}
use Rattle.rept_trace.specs.declared.packet.Packet.{Packet}
use Rattle.rept_trace.specs.declared.packet.Packet.TheVariants.{Start, Context, Support, Address, Map, MapAddress}
use Rattle.rept_encode.specs.Encoded.{IsReporting, AreReporting}
use Rattle.rept_encode.specs.declared.weaving.stretch.HartStretch.{HartStretch}
use Rattle.rept_encode.specs.Weaving.Woven.{start_of, ended, end_of, IsStretchSent, AreSent}
use Rattle.rept_path.specs.Trace.{loses}
use Rattle.rept_path.specs.declared.fault.PathFault.TheVariants.{TimeBack}
use Rattle.rept_streams.specs.Slices.Checks.{back_from}
use Rattle.rept_streams.specs.Slices.Skipping.{window_from, window_of}
use Rattle.rept_streams.specs.Slices.Stamps.{is_start, running_after, stamp_of, is_past, is_before}
use Rattle.rept_streams.specs.Slices.Parts.{ToldSlice, told_from, first_time}
use Rattle.rept_streams.specs.Slices.Stretches.{same_stretch, stretch}
use Rattle.rept_streams.proofs.SlicesLemmas.Packs.{IsInner, stretch_on}
use Rattle.rept_streams.proofs.SlicesLemmas.Scanning.{from_end, end_on, end_here}
use Rattle.test_kit.specs.Threads.Woven.Told.{IsSliceOf, AreSlicesOf, AreInTime}

pub report_inner : (p : Packet) → IsReporting p → IsInner p
report_inner (Start branch privilege a time context) h = absurd h
report_inner (Context privilege time context) h = absurd h
report_inner (Support enabled status) h = absurd h
report_inner (Address report) h = record { start = refl; closes = refl; waits = λ b. refl; begins = λ b. refl; runs = λ o. refl }
report_inner (Map map) h = record { start = refl; closes = refl; waits = λ b. refl; begins = λ b. refl; runs = λ o. refl }
report_inner (MapAddress count map report) h = record { start = refl; closes = refl; waits = λ b. refl; begins = λ b. refl; runs = λ o. refl }

told_on : (s k : ℕ) (inside : Option ℕ) (p : Packet) (later : List Packet) → is_start p ≡ false → told_from s k inside (p ∷ later) ≡ told_from s (suc k) (running_after p inside) later
told_on s k inside p later h =
    let t : ToldSlice = record { stream = s; number = k; start = p; later = later; inside = inside } in
    ap (λ (b : Bool). cond b (t ∷ told_from s (suc k) (running_after p inside) later) (told_from s (suc k) (running_after p inside) later)) h

-- Reports begin no slice.
pub told_past : (s k : ℕ) (inside : Option ℕ) (rs rest : List Packet) → AreReporting rs → told_from s k inside (rs ++ rest) ≡ told_from s (k + length rs) inside rest
told_past s k inside [] rest h = ap (λ (n : ℕ). told_from s n inside rest) (let e : k ≡ k + 0 = omega arith in e)
told_past s k inside (r ∷ rs) rest h =
    let i = report_inner r h.0 in
    let n : suc k + length rs ≡ k + suc (length rs) = omega arith in
    told_on s k inside r (rs ++ rest) i.start
    ∙ ap (λ (o : Option ℕ). told_from s (suc k) o (rs ++ rest)) (i.runs inside)
    ∙ told_past s (suc k) inside rs rest h.1
    ∙ ap (λ (m : ℕ). told_from s m inside rest) n

-- They end none.
pub end_past : (rs rest : List Packet) → AreReporting rs → from_end (rs ++ ended ∷ rest) ≡ ended ∷ rest
end_past [] rest h = end_here ended rest refl
end_past (r ∷ rs) rest h = end_on r (rs ++ ended ∷ rest) (report_inner r h.0).closes ∙ end_past rs rest h.1

-- They are of one stretch with what stands before them.
pub stretch_past : (rs rest : List Packet) → AreReporting rs → same_stretch false (rs ++ rest) ≡ rs ++ same_stretch false rest
stretch_past [] rest h = refl
stretch_past (r ∷ rs) rest h =
    let i = report_inner r h.0 in
    stretch_on r false false (rs ++ rest) (i.begins false) (i.waits false) ∙ ap (λ (ps : List Packet). r ∷ ps) (stretch_past rs rest h.1)

module _ (halves : Bool) where
  -- the packets of a stretch, and those after it
  pub layout : (x : HartStretch) (front later : List Packet) (i : IsStretchSent halves x front) → front ++ later ≡ start_of x i.first ∷ (i.reports ++ (ended ∷ end_of x ∷ later))
  layout x front later i =
      ap (λ (ps : List Packet). ps ++ later) i.order
      ∙ ap (λ (ps : List Packet). start_of x i.first ∷ ps) (append_assoc i.reports (ended ∷ end_of x ∷ []) later)

  -- Where the trace waits, the next stretch begins a walk of its own.
  pub new_stretch : (xs : List HartStretch) (packets : List Packet) → AreSent halves xs packets → same_stretch true packets ≡ []
  new_stretch [] packets h = ap (same_stretch true) h
  new_stretch (x ∷ xs) packets (front, later, cut, i, others) = ap (same_stretch true) (cut ∙ layout x front later i)

  pub slices_are : (xs : List HartStretch) (packets : List Packet) (s k : ℕ) → AreSent halves xs packets → AreSlicesOf halves s xs (told_from s k None packets)
  slices_are [] packets s k h = ap (λ (ps : List Packet). told_from s k None ps) h
  slices_are (x ∷ xs) packets s k (front, later, cut, i, others) =
      let rest : List Packet = ended ∷ end_of x ∷ later in
      let t : ToldSlice = record { stream = s; number = k; start = start_of x i.first; later = i.reports ++ (ended ∷ end_of x ∷ later); inside = None } in
      let n : ℕ = suc (suc (suc k + length i.reports)) in
      let a : told_from s k None packets ≡ t ∷ told_from s (suc k) (Some x.process) (i.reports ++ (ended ∷ end_of x ∷ later)) = ap (λ (ps : List Packet). told_from s k None ps) (cut ∙ layout x front later i) in
      let b : told_from s (suc k) (Some x.process) (i.reports ++ (ended ∷ end_of x ∷ later)) ≡ told_from s (suc (suc (suc k + length i.reports))) None later = told_past s (suc k) (Some x.process) i.reports (ended ∷ end_of x ∷ later) i.told in
      let all : told_from s k None packets ≡ t ∷ told_from s (suc (suc (suc k + length i.reports))) None later = a ∙ ap (λ (ts : List ToldSlice). t ∷ ts) b in
      let e : same_stretch false (i.reports ++ (ended ∷ end_of x ∷ later)) ≡ i.reports ++ (ended ∷ end_of x ∷ []) =
      stretch_past i.reports (ended ∷ end_of x ∷ later) i.told ∙ ap (λ (ps : List Packet). i.reports ++ (ended ∷ end_of x ∷ ps)) (new_stretch xs later others) in
      let whole : front ≡ stretch t = i.order ∙ ap (λ (ps : List Packet). start_of x i.first ∷ ps) (sym e) in
      let first : IsSliceOf halves s x t = record {
        stream = refl;
        thread = refl;
        begin = refl;
        waits = refl;
        end = ap first_time (end_past i.reports (end_of x ∷ later) i.told);
        packets = subst (λ (ps : List Packet). IsStretchSent halves x ps) whole i;
      } in
      subst (λ (ts : List ToldSlice). AreSlicesOf halves s (x ∷ xs) ts) (sym all) (first, slices_are xs later s (suc (suc (suc k + length i.reports))) others)

-- No packet of a written stream says that packets were lost.
report_keeps : (p : Packet) → IsReporting p → loses p ≡ false
report_keeps (Start branch privilege a time context) h = absurd h
report_keeps (Context privilege time context) h = absurd h
report_keeps (Support enabled status) h = absurd h
report_keeps (Address report) h = refl
report_keeps (Map map) h = refl
report_keeps (MapAddress count map report) h = refl

lost_past : (rs rest : List Packet) → AreReporting rs → list_any loses (rs ++ rest) ≡ list_any loses rest
lost_past [] rest h = refl
lost_past (r ∷ rs) rest h = ap (λ (b : Bool). b || list_any loses (rs ++ rest)) (report_keeps r h.0) ∙ lost_past rs rest h.1

none_lost : (halves : Bool) (xs : List HartStretch) (packets : List Packet) → AreSent halves xs packets → list_any loses packets ≡ false
none_lost halves [] packets h = ap (list_any loses) h
none_lost halves (x ∷ xs) packets (front, later, cut, i, others) =
    ap (list_any loses) (cut ∙ layout halves x front later i) ∙ lost_past i.reports (ended ∷ end_of x ∷ later) i.told ∙ none_lost halves xs later others

pub whole_window : (halves : Bool) (x : HartStretch) (xs : List HartStretch) (packets : List Packet) → AreSent halves (x ∷ xs) packets → window_of 0 packets ≡ Some 0
whole_window halves x xs packets (front, later, cut, i, others) =
    let rest : List Packet = i.reports ++ (ended ∷ end_of x ∷ later) in
    let same = cut ∙ layout halves x front later i in
    let kept : list_any loses (start_of x i.first ∷ (i.reports ++ (ended ∷ end_of x ∷ later))) ≡ false = sym (ap (list_any loses) same) ∙ none_lost halves (x ∷ xs) packets (front, later, cut, i, others) in
    ap (λ (ps : List Packet). window_of 0 ps) same
    ∙ ap (λ (b : Bool). cond (not b) (Some 0) (window_from 0 1 (i.reports ++ (ended ∷ end_of x ∷ later)))) kept

-- No packet before is of a later time than this one, or than a later one.
abbrev Calm : ℕ → List Packet → Type 0
Calm time earlier = (u : ℕ) → time ≤ u → list_any (λ q. is_past u (stamp_of q)) earlier ≡ false

not_past : (u v : ℕ) → v ≤ u → is_past u (Some v) ≡ false
not_past u v h = le-ltb u v h

none_before : (earlier : List Packet) → list_any (λ q. is_before None (stamp_of q)) earlier ≡ false
none_before [] = refl
none_before (q ∷ qs) = none_before qs

-- a packet without a time, and one with a time
back_on : (k : ℕ) (earlier later : List Packet) (p : Packet) → stamp_of p ≡ None → back_from k earlier (p ∷ later) ≡ back_from (suc k) (p ∷ earlier) later
back_on k earlier later p e =
    ap (λ (b : Bool). cond b (Some (TimeBack k)) (back_from (suc k) (p ∷ earlier) later)) (ap (λ (o : Option ℕ). list_any (λ q. is_before o (stamp_of q)) earlier) e ∙ none_before earlier)

back_at : (k time v : ℕ) (earlier later : List Packet) (p : Packet) → stamp_of p ≡ Some v → time ≤ v → Calm time earlier → back_from k earlier (p ∷ later) ≡ back_from (suc k) (p ∷ earlier) later
back_at k time v earlier later p e le calm =
    ap (λ (b : Bool). cond b (Some (TimeBack k)) (back_from (suc k) (p ∷ earlier) later)) (ap (λ (o : Option ℕ). list_any (λ q. is_before o (stamp_of q)) earlier) e ∙ calm v le)

calm_on : (time : ℕ) (earlier : List Packet) (p : Packet) → stamp_of p ≡ None → Calm time earlier → Calm time (p ∷ earlier)
calm_on time earlier p e calm = λ u le. ap (λ (o : Option ℕ). is_past u o || list_any (λ q. is_past u (stamp_of q)) earlier) e ∙ calm u le

calm_at : (time v : ℕ) (earlier : List Packet) (p : Packet) → stamp_of p ≡ Some v → time ≤ v → Calm time earlier → Calm v (p ∷ earlier)
calm_at time v earlier p e le calm = λ u h.
    ap (λ (o : Option ℕ). is_past u o || list_any (λ q. is_past u (stamp_of q)) earlier) e
    ∙ ap (λ (b : Bool). b || list_any (λ q. is_past u (stamp_of q)) earlier) (not_past u v h)
    ∙ calm u (omega (arith, h, le))

pub report_timeless : (p : Packet) → IsReporting p → stamp_of p ≡ None
report_timeless (Start branch privilege a time context) h = absurd h
report_timeless (Context privilege time context) h = absurd h
report_timeless (Support enabled status) h = absurd h
report_timeless (Address report) h = refl
report_timeless (Map map) h = refl
report_timeless (MapAddress count map report) h = refl

-- what stands before after reports were passed
record Past (k time : ℕ) (earlier rs rest : List Packet) : Type 0 where
  pub number : ℕ
  pub before : List Packet
  pub calm : Calm time before
  pub same : back_from k earlier (rs ++ rest) ≡ back_from number before rest

back_past : (k time : ℕ) (earlier rs rest : List Packet) → AreReporting rs → Calm time earlier → Past k time earlier rs rest
back_past k time earlier [] rest h calm = record { number = k; before = earlier; calm = calm; same = refl }
back_past k time earlier (r ∷ rs) rest h calm =
    let none = report_timeless r h.0 in
    let p = back_past (suc k) time (r ∷ earlier) rs rest h.1 (calm_on time earlier r none calm) in
    record { number = p.number; before = p.before; calm = p.calm; same = back_on k earlier (rs ++ rest) r none ∙ p.same }

times_on : (halves : Bool) (xs : List HartStretch) (packets : List Packet) (k time : ℕ) (earlier : List Packet) → AreSent halves xs packets → AreInTime time xs → Calm time earlier → back_from k earlier packets ≡ None
times_on halves [] packets k time earlier h ordered calm = ap (back_from k earlier) h
times_on halves (x ∷ xs) packets k time earlier (front, later, cut, i, others) (first, own, after) calm =
    let s : Packet = start_of x i.first in
    let c = calm_at time x.begin earlier (start_of x i.first) refl first calm in
    let p = back_past (suc k) x.begin (start_of x i.first ∷ earlier) i.reports (ended ∷ end_of x ∷ later) i.told c in
    let d = calm_on x.begin p.before ended refl p.calm in
    let e = calm_at x.begin x.end (ended ∷ p.before) (end_of x) refl own d in
    ap (back_from k earlier) (cut ∙ layout halves x front later i)
    ∙ back_at k time x.begin earlier (i.reports ++ (ended ∷ end_of x ∷ later)) (start_of x i.first) refl first calm
    ∙ p.same
    ∙ back_on p.number p.before (end_of x ∷ later) ended refl
    ∙ back_at (suc p.number) x.begin x.end (ended ∷ p.before) later (end_of x) refl own d
    ∙ times_on halves xs later (suc (suc p.number)) x.end (end_of x ∷ ended ∷ p.before) others after e

pub times_rise : (halves : Bool) (xs : List HartStretch) (packets : List Packet) (k : ℕ) → AreSent halves xs packets → AreInTime 0 xs → back_from k [] packets ≡ None
times_rise halves xs packets k h ordered = times_on halves xs packets k 0 [] h ordered (λ u le. refl)
