-- The slices that written streams tell, one for each stretch.
use Rattle.std.proofs.Common.{◌≡◌, ℕ, suc, ◌+◌, ◌<◌, ◌^◌, List, [], ◌∷◌, ◌++◌, length, map, reverse, Bool, false, not, cond, ◌||◌, take, Option, Some, None, refl, sym, ◌∙◌, ap, subst, arith}
use Rattle.std.specs.List.{AllZip, list_any, prefix_len}
use Rattle.rept_isa.specs.declared.row.StepRow.{StepRow}
use Rattle.rept_trace.specs.declared.packet.Packet.{Packet}
use Rattle.rept_encode.specs.Encoded.{AreReporting}
use Rattle.rept_encode.specs.declared.weaving.stretch.HartStretch.{HartStretch}
use Rattle.rept_encode.specs.Weaving.Woven.{start_of, ended, end_of, IsStretchSent, AreSent}
use Rattle.rept_streams.specs.Slices.Stamps.{stamp_of, clock_of, context_of, is_past, closes}
use Rattle.rept_streams.specs.Slices.Parts.{ToldSlice, thread_of, begin_of, beyond, first_time, told_from, slices_told}
use Rattle.rept_streams.specs.Slices.Order.{starts_past, lasts_past}
use Rattle.rept_streams.specs.Slices.Skipping.{numbered}
use Rattle.rept_streams.specs.Slices.Stretches.{same_stretch, stretch}
use Rattle.rept_streams.proofs.SlicesLemmas.InTime.{Each}
use Rattle.rept_streams.proofs.SlicesLemmas.Packs.{rows_by, first_rows, Cut}
use Rattle.rept_streams.proofs.SlicesLemmas.Scanning.{from_end}
use Rattle.test_kit.specs.Threads.Woven.Ordered.{Piece, on_hart, pieces_from}
use Rattle.test_kit.proofs.ThreadsLemmas.WovenLemmas.Telling.{report_inner, report_timeless, told_past, end_past, stretch_past, layout, new_stretch}
use Rattle.test_kit.proofs.ThreadsLemmas.WovenLemmas.Zipped.{zip_append, each_after}

-- times have 64 bits
abbrev pub Fits : Packet → Type 0
Fits p = clock_of p < 2 ^ 64

-- The slice is that of a stretch, and these are its stream's packets from it on.
pub record IsPieceOf (halves : Bool) (p : Piece) (t : ToldSlice) : Type 0 where
  pub stream : t.stream ≡ p.hart
  pub waits : t.inside ≡ None
  pub front : List Packet
  pub sent : IsStretchSent halves p.stretch front
  pub more : List Packet
  pub start : t.start ≡ start_of p.stretch sent.first
  pub later : t.later ≡ sent.reports ++ (ended ∷ end_of p.stretch ∷ more)
  pub same : same_stretch false t.later ≡ sent.reports ++ (ended ∷ end_of p.stretch ∷ [])
  pub fits : p.stretch.end < 2 ^ 64

module _ (halves : Bool) where
  pub slices_in : (xs : List HartStretch) (packets : List Packet) (s k : ℕ) → AreSent halves xs packets → Each Fits packets → AllZip (IsPieceOf halves) (map (on_hart s) xs) (told_from s k None packets)
  slices_in [] packets s k h fits = subst (λ (ps : List Packet). AllZip (IsPieceOf halves) [] (told_from s k None ps)) (sym h) tt
  slices_in (x ∷ xs) packets s k (front, later, cut, i, others) fits =
      let rest : List Packet = i.reports ++ (ended ∷ end_of x ∷ later) in
      let whole : packets ≡ start_of x i.first ∷ (i.reports ++ (ended ∷ end_of x ∷ later)) = cut ∙ layout halves x front later i in
      let t : ToldSlice = record { stream = s; number = k; start = start_of x i.first; later = i.reports ++ (ended ∷ end_of x ∷ later); inside = None } in
      let n : ℕ = suc (suc (suc k + length i.reports)) in
      let a : told_from s k None packets ≡ t ∷ told_from s (suc k) (Some x.process) (i.reports ++ (ended ∷ end_of x ∷ later)) = ap (λ (ps : List Packet). told_from s k None ps) whole in
      let b : told_from s (suc k) (Some x.process) (i.reports ++ (ended ∷ end_of x ∷ later)) ≡ told_from s (suc (suc (suc k + length i.reports))) None later = told_past s (suc k) (Some x.process) i.reports (ended ∷ end_of x ∷ later) i.told in
      let all : told_from s k None packets ≡ t ∷ told_from s (suc (suc (suc k + length i.reports))) None later = a ∙ ap (λ (ts : List ToldSlice). t ∷ ts) b in
      let e : same_stretch false (i.reports ++ (ended ∷ end_of x ∷ later)) ≡ i.reports ++ (ended ∷ end_of x ∷ []) =
      stretch_past i.reports (ended ∷ end_of x ∷ later) i.told ∙ ap (λ (ps : List Packet). i.reports ++ (ended ∷ end_of x ∷ ps)) (new_stretch halves xs later others) in
      let each : Each Fits (start_of x i.first ∷ (i.reports ++ (ended ∷ end_of x ∷ later))) = subst (Each Fits) whole fits in
      let tail : Each Fits (ended ∷ end_of x ∷ later) = each_after Fits i.reports (ended ∷ end_of x ∷ later) each.1 in
      let first : IsPieceOf halves (on_hart s x) t = record {
        stream = refl;
        waits = refl;
        front = front;
        sent = i;
        more = later;
        start = refl;
        later = refl;
        same = e;
        fits = tail.1.0;
      } in
      subst (λ (ts : List ToldSlice). AllZip (IsPieceOf halves) (map (on_hart s) (x ∷ xs)) ts) (sym all) (first, slices_in xs later s (suc (suc (suc k + length i.reports))) others tail.1.1)

  pub all_slices : (harts : List (List HartStretch)) (lists : List (List Packet)) (s k : ℕ) → AllZip (AreSent halves) harts lists → Each (Each Fits) lists → AllZip (IsPieceOf halves) (pieces_from s harts) (slices_told (numbered s k lists))
  all_slices [] [] s k h fits = tt
  all_slices [] (packets ∷ lists) s k h fits = absurd h
  all_slices (hart ∷ harts) [] s k h fits = absurd h
  all_slices (hart ∷ harts) (packets ∷ lists) s k h fits =
      zip_append (IsPieceOf halves) (map (on_hart s) hart) (told_from s k None packets) (pieces_from (suc s) harts) (slices_told (numbered (suc s) (k + length packets) lists)) (slices_in hart packets s k h.0 fits.0) (all_slices harts lists (suc s) (k + length packets) h.1 fits.1)

  module _ (p : Piece) (t : ToldSlice) (i : IsPieceOf halves p t) where
    pub thread_is : thread_of t ≡ p.stretch.process
    thread_is = ap context_of i.start

    pub begin_is : begin_of t ≡ p.stretch.begin
    begin_is = ap clock_of i.start

    pub end_is : first_time (beyond t) ≡ Some p.stretch.end
    end_is = ap (λ (ps : List Packet). first_time (from_end ps)) i.later ∙ ap first_time (end_past i.sent.reports (end_of p.stretch ∷ i.more) i.sent.told)

    pub packets_are : stretch t ≡ i.front
    packets_are =
        let e : stretch t ≡ start_of p.stretch i.sent.first ∷ (i.sent.reports ++ (ended ∷ end_of p.stretch ∷ [])) = λ n. i.start n ∷ i.same n in
        e ∙ sym i.sent.order

-- Packets of a slice, but for the start packet, have no times.
no_time : (time : ℕ) (rs rest : List Packet) → AreReporting rs → list_any (λ p. is_past time (stamp_of p)) (take (prefix_len (λ p. not (closes p)) (rs ++ ended ∷ rest)) (rs ++ ended ∷ rest)) ≡ false
no_time time [] rest h = refl
no_time time (r ∷ rs) rest h =
    let n : ℕ = prefix_len (λ p. not (closes p)) (rs ++ ended ∷ rest) in
    let i = report_inner r h.0 in
    let one : 1 + prefix_len (λ p. not (closes p)) (rs ++ ended ∷ rest) ≡ suc (prefix_len (λ p. not (closes p)) (rs ++ ended ∷ rest)) = omega arith in
    ap (λ (b : Bool). list_any (λ p. is_past time (stamp_of p)) (take (cond (not b) (1 + prefix_len (λ p. not (closes p)) (rs ++ ended ∷ rest)) 0) (r ∷ (rs ++ ended ∷ rest)))) i.closes
    ∙ ap (λ (m : ℕ). list_any (λ p. is_past time (stamp_of p)) (take m (r ∷ (rs ++ ended ∷ rest)))) one
    ∙ ap (λ (o : Option ℕ). is_past time o || list_any (λ p. is_past time (stamp_of p)) (take (prefix_len (λ p. not (closes p)) (rs ++ ended ∷ rest)) (rs ++ ended ∷ rest))) (report_timeless r h.0)
    ∙ no_time time rs rest h.1

-- So no slice lasts past a time.
pub lasts_not : (halves : Bool) (p : Piece) (t : ToldSlice) (time : ℕ) → IsPieceOf halves p t → lasts_past time t ≡ false
lasts_not halves p t time i =
    let rest : List Packet = end_of p.stretch ∷ i.more in
    let a = no_time time i.sent.reports (end_of p.stretch ∷ i.more) i.sent.told in
    let b : take 1 (from_end (i.sent.reports ++ ended ∷ (end_of p.stretch ∷ i.more))) ≡ ended ∷ [] = ap (take 1) (end_past i.sent.reports (end_of p.stretch ∷ i.more) i.sent.told) in
    ap (λ (ps : List Packet). list_any (λ q. is_past time (stamp_of q)) (take (prefix_len (λ q. not (closes q)) ps) ps) || list_any (starts_past time) (take 1 (from_end ps))) i.later
    ∙ (λ n. a n || list_any (starts_past time) (b n))

-- All rows of the legs are those up to the packet that ends the slice.
pub all_rows : (rs : List Packet) (last : Packet) (more : List Packet) (ls : List (List StepRow)) → AreReporting rs → Cut false (rs ++ (ended ∷ last ∷ [])) ls → first_rows (rs ++ (ended ∷ last ∷ more)) ls ≡ rows_by ls
all_rows [] last more [] h c = absurd c
all_rows [] last more (l ∷ []) h c = absurd c.1
all_rows [] last more (l ∷ (k ∷ ls)) h c =
    let none : k ≡ [] = c.1.0 refl in
    let end : ls ≡ [] = c.1.1 in
    sym (λ n. rows_by (l ∷ none n ∷ end n))
all_rows (r ∷ rs) last more [] h c = absurd c
all_rows (r ∷ rs) last more (l ∷ ls) h c =
    let i = report_inner r h.0 in
    let j : ℕ = prefix_len (λ p. not (closes p)) (rs ++ (ended ∷ last ∷ more)) in
    let one : 1 + prefix_len (λ p. not (closes p)) (rs ++ (ended ∷ last ∷ more)) ≡ suc (prefix_len (λ p. not (closes p)) (rs ++ (ended ∷ last ∷ more))) = omega arith in
    ap (λ (b : Bool). rows_by (take (suc (cond (not b) (1 + prefix_len (λ p. not (closes p)) (rs ++ (ended ∷ last ∷ more))) 0)) (l ∷ ls))) i.closes
    ∙ ap (λ (n : ℕ). rows_by (l ∷ take n ls)) one
    ∙ ap (λ (xs : List StepRow). reverse l ++ xs) (all_rows rs last more ls h.1 (subst (λ (b : Bool). Cut b (rs ++ (ended ∷ last ∷ [])) ls) (i.waits false) c.1))
