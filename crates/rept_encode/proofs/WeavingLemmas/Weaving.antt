-- What each thing that is written makes of the bytes before it.
use Rattle.std.proofs.Common.{◌≡◌, ℕ, ◌+◌, ◌-◌, ◌*◌, ◌/◌, ◌%◌, ◌^◌, ◌<◌, ◌≤◌, List, [], ◌∷◌, ◌++◌, length, reverse, take, get_or, slice_get, Option, Some, Bool, false, refl, sym, ◌∙◌, ap, subst, arith, inl, inr, append_assoc}
use Rattle.std.proofs.lemmas.List.{append-nil, take_more}
use Rattle.std.proofs.lemmas.Bool.{cases_eq}
use Rattle.std.proofs.lemmas.Option.{slice_get-get_or}
use Rattle.rept_word.specs.Bits.{bit_of, field}
use Rattle.rept_isa.specs.declared.row.StepRow.{StepRow}
use Rattle.rept_trace.specs.declared.parameters.Parameters.{Parameters}
use Rattle.rept_trace.specs.declared.packet.Packet.{Packet}
use Rattle.rept_trace.specs.declared.packet.Packet.TheVariants.{Start, Context, Support, Address, Map, MapAddress}
use Rattle.rept_trace.specs.Grammar.{timed, untimed, IsPacket}
use Rattle.rept_trace.specs.Header.{several_streams, heading_of, header_bytes}
use Rattle.rept_trace.specs.Streams.{AreStreamsThen, IsStreamThen}
use Rattle.rept_encode.specs.Walkable.{AreStraight}
use Rattle.rept_encode.specs.Written.{AreWritten}
use Rattle.rept_path.specs.Code.{Code}
use Rattle.rept_encode.specs.Bits.{start_bit}
use Rattle.rept_encode.specs.Encoded.{TellsAfter, LeadsOver, coded, IsReporting, AreReporting}
use Rattle.rept_encode.proofs.Sending.{written_held}
use Rattle.rept_encode.specs.declared.weaving.stretch.HartStretch.{HartStretch}
use Rattle.rept_encode.specs.declared.weaving.fault.HartPlace.{HartPlace}
use Rattle.rept_encode.specs.declared.weaving.fault.WeaveFault.{WeaveFault}
use Rattle.rept_encode.specs.declared.weaving.fault.WeaveFault.TheVariants.{HartCount, InnerCall, JumpEnds, TooLong, OutOfMemory}
use Rattle.rept_encode.specs.Weaving.Stamped.{AddsPackets}
use Rattle.rept_encode.specs.Weaving.Steps.{AddsStart, AddsStretch, AddsHart, IsTraceFront, IsStretchCause, IsHartCause, framed}
use Rattle.rept_encode.specs.Weaving.Woven.{AreStretchesTold, start_of, ended, end_of, IsStretchSent, AreSent, IsStreamOf, AreStreamsOf, IsWoven, IsCause}
use Rattle.rept_encode.proofs.WeavingLemmas.Clock.{leads_stamped}

written_append : (w : Parameters) (a b : List ℕ) (ps qs : List Packet) → AreWritten w a ps → AreWritten w b qs → AreWritten w (a ++ b) (ps ++ qs)
written_append w a b [] qs x y = rw x y
written_append w a b (p ∷ ps) qs x y =
    let front : List ℕ = x.0 in
    let rest : List ℕ = x.1 in
    (front, rest ++ b, ap (λ (xs : List ℕ). xs ++ b) x.2 ∙ ap (λ (xs : List ℕ). length front ∷ xs) (append_assoc front rest b), x.3, x.4, written_append w rest b ps qs x.5 y)

pub adds_on : (w : Parameters) (old middle new : List ℕ) (ps qs : List Packet) → AddsPackets w old middle ps → AddsPackets w middle new qs → AddsPackets w old new (ps ++ qs)
adds_on w old middle new ps qs x y = record {
  bytes = x.bytes ++ y.bytes;
  appended = y.appended ∙ ap (λ (xs : List ℕ). xs ++ y.bytes) x.appended ∙ append_assoc old x.bytes y.bytes;
  written = written_append w x.bytes y.bytes ps qs x.written y.written;
}

-- Packets without times and contexts are sent in the same way by all encoders.
report_timed : (halves : Bool) (payload : List ℕ) (p : Packet) → IsReporting p → IsPacket (untimed halves) payload p → IsPacket (timed halves) payload p
report_timed halves payload (Start branch privilege a time context) h x = absurd h
report_timed halves payload (Context privilege time context) h x = absurd h
report_timed halves payload (Support enabled status) h x = absurd h
report_timed halves payload (Address report) h x = record { format = x.format; fields = record { address = x.fields.address; asked = x.fields.asked; discontinuity = x.fields.discontinuity; returned = x.fields.returned } }
report_timed halves payload (Map map) h x = x
report_timed halves payload (MapAddress count map report) h x = record { format = x.format; some = x.some; number = x.number; bits = x.bits; fields = record { address = x.fields.address; asked = x.fields.asked; discontinuity = x.fields.discontinuity; returned = x.fields.returned } }

reports_timed : (halves : Bool) (bytes : List ℕ) (ps : List Packet) → AreReporting ps → AreWritten (untimed halves) bytes ps → AreWritten (timed halves) bytes ps
reports_timed halves bytes [] h x = x
reports_timed halves bytes (p ∷ ps) h x = (x.0, x.1, x.2, x.3, report_timed halves x.0 p h.0 x.4, reports_timed halves x.1 ps h.1 x.5)

-- the packet that ends a trace
pub ended_spells : (halves : Bool) → IsPacket (timed halves) (79 ∷ []) ended
unfolding bit_of field
ended_spells halves = record { format = refl; subformat = refl; enable = refl; mode = refl; number = refl; options = refl }

-- all packets of a stretch
pub stretch_on : (halves : Bool) (s : HartStretch) (old one two three new reports : List ℕ) → AddsStart halves s old one → two ≡ one ++ reports → AddsPackets (timed halves) two three (ended ∷ []) → AddsPackets (timed halves) three new (end_of s ∷ []) → TellsAfter halves reports s.steps → AreStraight s.steps (length s.steps - 1) → AddsStretch halves s old new
stretch_on halves s old one two three new reports start is end until t straight =
    let first : StepRow = start.0 in
    let same : t.first ≡ first = (let e : ◌≡◌ {A = Option StepRow} (Some t.first) (Some first) = sym t.begins ∙ start.1 in cc) in
    let told = t.told straight in
    let middle : AddsPackets (timed halves) one two t.packets = record { bytes = reports; appended = is; written = reports_timed halves reports t.packets told t.written } in
    let tail : AddsPackets (timed halves) two new (ended ∷ end_of s ∷ []) = adds_on (timed halves) two three new (ended ∷ []) (end_of s ∷ []) end until in
    let whole : AddsPackets (timed halves) old new (start_of s first ∷ (t.packets ++ ended ∷ end_of s ∷ [])) = adds_on (timed halves) old two new (start_of s first ∷ t.packets) (ended ∷ end_of s ∷ []) (adds_on (timed halves) old one two (start_of s first ∷ []) t.packets start.2 middle) tail in (
      start_of s first ∷ (t.packets ++ ended ∷ end_of s ∷ []),
      record {
        first = first;
        begins = start.1;
        reports = t.packets;
        told = told;
        order = refl;
        leads = λ contents carry.
            let code : Code = coded halves contents in
            subst (λ (row : StepRow). LeadsOver code (reverse (start_of s row ∷ (t.packets ++ ended ∷ end_of s ∷ []))) s.steps) same (leads_stamped code t.packets (start_bit t.first) t.first.at s.begin s.process s.end s.steps told (t.leads contents carry));
      },
      whole,
    )

sent_on : (halves : Bool) (ss : List HartStretch) (s : HartStretch) (ps qs : List Packet) → AreSent halves ss ps → IsStretchSent halves s qs → AreSent halves (ss ++ s ∷ []) (ps ++ qs)
sent_on halves [] s ps qs x y = (qs, [], rw x (sym (append-nil qs)), y, refl)
sent_on halves (r ∷ ss) s ps qs x y =
    let front : List Packet = x.0 in
    let later : List Packet = x.1 in
    (front, later ++ qs, ap (λ (xs : List Packet). xs ++ qs) x.2 ∙ append_assoc front later qs, x.3, sent_on halves ss s later qs x.4 y)

-- one stretch more
pub told_on : (halves : Bool) (ss : List HartStretch) (i : ℕ) (s : HartStretch) (old new : List ℕ) → i < length ss → s ≡ get_or ss i s → AreStretchesTold halves (take i ss) old → AddsStretch halves s old new → AreStretchesTold halves (take (i + 1) ss) new
told_on halves ss i s old new lt is x y =
    let more : take (i + 1) ss ≡ take i ss ++ s ∷ [] = take_more ss i s lt ∙ ap (λ (r : HartStretch). take i ss ++ r ∷ []) (sym is) in
    let a = y.2 in
    let e = a.appended in
    rw more (x.0 ++ y.0, rw e (written_append (timed halves) old a.bytes x.0 y.0 x.1 a.written), sent_on halves (take i ss) s x.0 y.0 x.2 y.1)

-- a stream with its length in front
four_bytes : (w : ℕ) → w < 2 ^ 32 → w % 256 + 256 * (w / 256 % 256 + 256 * (w / 65536 % 256 + 256 * (w / 16777216 % 256 + 256 * 0))) ≡ w
four_bytes w lt = omega arith

framed_then : (stream later : List ℕ) → length stream < 2 ^ 32 → IsStreamThen (framed stream ++ later) stream later
framed_then stream later few = record { whole = omega arith; size = sym (four_bytes (length stream) few); parts = refl }

streams_then : (a b c : List ℕ) (ss ts : List (List ℕ)) → AreStreamsThen a ss b → AreStreamsThen b ts c → AreStreamsThen a (ss ++ ts) c
streams_then a b c [] ts x y = rw (← x) y
streams_then a b c (s ∷ ss) ts x y = (x.0, x.1, streams_then x.0 b c ss ts x.2 y)

each_on : (halves : Bool) (hs : List (List HartStretch)) (ss : List (List ℕ)) (h : List HartStretch) (s : List ℕ) → AreStreamsOf halves hs ss → IsStreamOf halves h s → AreStreamsOf halves (hs ++ h ∷ []) (ss ++ s ∷ [])
each_on halves [] ss h s x y = rw x (y, refl)
each_on halves (g ∷ hs) [] h s x y = absurd x
each_on halves (g ∷ hs) (r ∷ ss) h s x y = (x.0, each_on halves hs ss h s x.1 y)

each_counts : (halves : Bool) (hs : List (List HartStretch)) (ss : List (List ℕ)) → AreStreamsOf halves hs ss → length ss ≡ length hs
each_counts halves [] ss x = ap (length {A = List ℕ}) x
each_counts halves (g ∷ hs) [] x = absurd x
each_counts halves (g ∷ hs) (r ∷ ss) x = let e = each_counts halves hs ss x.1 in omega arith

-- one hart more
pub front_on : (halves : Bool) (count : ℕ) (hs : List (List HartStretch)) (i : ℕ) (h : List HartStretch) (old new : List ℕ) → i < length hs → h ≡ get_or hs i h → IsTraceFront halves count (take i hs) old → AddsHart halves h old new → IsTraceFront halves count (take (i + 1) hs) new
front_on halves count hs i h old new lt is x y =
    let more : take (i + 1) hs ≡ take i hs ++ h ∷ [] = take_more hs i h lt ∙ ap (λ (g : List HartStretch). take i hs ++ g ∷ []) (sym is) in
    let held : IsStreamOf halves h y.stream = (y.told.0, written_held (timed halves) y.stream y.told.0 y.told.1, y.told.2) in
    rw more (record {
      streams = x.streams ++ y.stream ∷ [];
      body = x.body ++ framed y.stream;
      layout = y.appended ∙ ap (λ (xs : List ℕ). xs ++ framed y.stream) x.layout ∙ append_assoc (header_bytes several_streams (heading_of count halves)) x.body (framed y.stream);
      whole = λ later.
          let e : (x.body ++ framed y.stream) ++ later ≡ x.body ++ (framed y.stream ++ later) = append_assoc x.body (framed y.stream) later in
          rw e (streams_then (x.body ++ (framed y.stream ++ later)) (framed y.stream ++ later) later x.streams (y.stream ∷ []) (x.whole (framed y.stream ++ later)) (later, framed_then y.stream later y.few, refl));
      each = each_on halves (take i hs) x.streams h y.stream x.each held;
    })

pub front_empty : (halves : Bool) (count : ℕ) (hs : List (List HartStretch)) (text : List ℕ) → text ≡ header_bytes several_streams (heading_of count halves) → IsTraceFront halves count (take 0 hs) text
front_empty halves count hs text is = record { streams = []; body = []; layout = is; whole = λ later. refl; each = refl }

-- all harts
pub front_woven : (halves : Bool) (hs done : List (List HartStretch)) (text : List ℕ) → done ≡ hs → 0 < length hs → length hs ≤ 64 → IsTraceFront halves (length hs) done text → IsWoven halves hs text
front_woven halves hs done text is some few x =
    let each : AreStreamsOf halves hs x.streams = subst (λ (ds : List (List HartStretch)). AreStreamsOf halves ds x.streams) is x.each in
    let n : length x.streams ≡ length hs = each_counts halves hs x.streams each in
    let whole : AreStreamsThen x.body x.streams [] = subst (λ (xs : List ℕ). AreStreamsThen xs x.streams []) (append-nil x.body) (x.whole []) in
    record {
      streams = x.streams;
      file = (x.body, rw n (record { some = some; few = few; layout = x.layout }), whole);
      each = each;
    }

pub at_index : (A : Type 0) (xs : List A) (i : ℕ) (x : A) → x ≡ get_or xs i x → i < length xs → slice_get xs i ≡ Some x
at_index A xs i x is lt = slice_get-get_or xs i x lt ∙ ap (λ (y : A). Some y) (sym is)

-- one row more that is no call
pub straight_on : (rows : List StepRow) (i : ℕ) (row : StepRow) → row ≡ get_or rows i row → i < length rows → row.call ≡ false → AreStraight rows i → AreStraight rows (i + 1)
straight_on rows i row is lt none all j r le get = elim (cases_eq j i) [
  | inl e ↦
      let there : ◌≡◌ {A = Option StepRow} (Some row) (Some r) = sym (at_index StepRow rows i row is lt) ∙ sym (ap (λ (k : ℕ). slice_get rows k) e) ∙ get in
      let same : row ≡ r = (cc) in
      subst (λ (x : StepRow). x.call ≡ false) same none
  | inr ne ↦ all j r (omega arith) get
]

-- causes
pub in_hart : (halves : Bool) (hart : List HartStretch) (at : HartPlace) (s : HartStretch) (fault : WeaveFault) → slice_get hart at.stretch ≡ Some s → IsStretchCause at s.steps fault → IsHartCause halves at.hart hart fault
in_hart halves hart at s HartCount get x = absurd x
in_hart halves hart at s (InnerCall p) get x = (x.0, (s, ap (λ (k : ℕ). slice_get hart k) x.1 ∙ get, x.2))
in_hart halves hart at s (JumpEnds p) get x = (x.0, (s, ap (λ (k : ℕ). slice_get hart k) x.1 ∙ get, x.2))
in_hart halves hart at s (TooLong hart_number) get x = absurd x
in_hart halves hart at s OutOfMemory get x = tt

pub in_harts : (halves : Bool) (harts : List (List HartStretch)) (i : ℕ) (hart : List HartStretch) (fault : WeaveFault) → slice_get harts i ≡ Some hart → i < length harts → IsHartCause halves i hart fault → IsCause halves harts fault
in_harts halves harts i hart HartCount get lt x = absurd x
in_harts halves harts i hart (InnerCall p) get lt x = (hart, ap (λ (k : ℕ). slice_get harts k) x.0 ∙ get, x.1)
in_harts halves harts i hart (JumpEnds p) get lt x = (hart, ap (λ (k : ℕ). slice_get harts k) x.0 ∙ get, x.1)
in_harts halves harts i hart (TooLong k) get lt x = (hart, ap (λ (n : ℕ). slice_get harts n) x.0 ∙ get, x.1)
in_harts halves harts i hart OutOfMemory get lt x = tt
