-- Reading a payload from its first bit on: a payload spells one thing.
use Rattle.std.proofs.Common.{◌≡◌, ◌≢◌, ℕ, zero, suc, ◌+◌, ◌<◌, ◌==◌, List, Bool, false, cond, if◌then◌else◌, Result, Ok, Err, refl, sym, ◌∙◌, ap, arith, ◌⊎◌, inl, inr}
use Rattle.std.proofs.lemmas.Bool.Decides.{nat_tests}
use Rattle.rept_word.specs.Bits.{bit_of, field}
use Rattle.rept_trace.specs.declared.packet.Report.{Report}
use Rattle.rept_trace.specs.declared.packet.Qual.{Qual}
use Rattle.rept_trace.specs.declared.packet.Qual.TheVariants.{NoChange, EndedRep, TraceLost, EndedNtr}
use Rattle.rept_trace.specs.declared.packet.Packet.{Packet}
use Rattle.rept_trace.specs.declared.packet.Packet.TheVariants.{Start, Context, Support, Address, Map, MapAddress}
use Rattle.rept_trace.specs.declared.fault.TraceFault.{TraceFault}
use Rattle.rept_trace.specs.declared.fault.TraceFault.TheVariants.{BadMagic, BadHeader, Truncated, Optional, Trap, BadSupport, StreamPastEnd, Rest}
use Rattle.rept_trace.specs.declared.parameters.Parameters.{Parameters}
use Rattle.rept_trace.specs.Grammar.{changes, address_width, sent_address, map_width, qual_number, after_stamp, IsReportAt, IsBadSupport, Spells}

unfoldable report_at : Parameters → List ℕ → ℕ → Report
report_at widths payload i = record { difference = sent_address widths payload i; notify = changes payload (i + address_width widths); updiscon = changes payload (i + (address_width widths + 1)); irreport = changes payload (i + (address_width widths + 2)) }

abbrev qual_of : ℕ → Qual
qual_of n = if n == 0 then NoChange else if n == 1 then EndedRep else if n == 2 then TraceLost else EndedNtr

unfoldable support_at : ℕ → List ℕ → Result Packet TraceFault
support_at number payload = if field payload 5 1 == 0 then if field payload 8 5 == 0 then Ok (Support (bit_of payload 4) (qual_of (field payload 6 2))) else Err (BadSupport number) else Err (BadSupport number)

unfoldable map_at : Parameters → List ℕ → Packet
map_at widths payload = if field payload 2 5 == 0 then Map (field payload 7 31) else MapAddress (field payload 2 5) (field payload 7 (map_width (field payload 2 5))) (report_at widths payload (7 + map_width (field payload 2 5)))

unfoldable start_at : Parameters → ℕ → List ℕ → Result Packet TraceFault
start_at widths number payload =
    if field payload 2 2 == 0 then Ok (Start (bit_of payload 4) (field payload 5 2) (sent_address widths payload (after_stamp widths 7)) (field payload 7 widths.time_width) (field payload (7 + widths.time_width) widths.context_width))
    else if field payload 2 2 == 1 then Err (Trap number)
    else if field payload 2 2 == 2 then Ok (Context (field payload 4 2) (field payload 6 widths.time_width) (field payload (6 + widths.time_width) widths.context_width))
    else support_at number payload

unfoldable spelled_at : Parameters → ℕ → List ℕ → Result Packet TraceFault
spelled_at widths number payload =
    if field payload 0 2 == 0 then Err (Optional number)
    else if field payload 0 2 == 1 then Ok (map_at widths payload)
    else if field payload 0 2 == 2 then Ok (Address (report_at widths payload 2))
    else start_at widths number payload

qual_back : (status : Qual) → qual_of (qual_number status) ≡ status
qual_back NoChange = refl
qual_back EndedRep = refl
qual_back TraceLost = refl
qual_back EndedNtr = refl

same_report : (w : Parameters) (p : List ℕ) (i : ℕ) (r : Report) → IsReportAt w p i r → report_at w p i ≡ r
unfolding report_at
same_report w p i r x =
    let f : ℕ → Bool → Bool → Bool → Report = λ a b c d. record { difference = a; notify = b; updiscon = c; irreport = d } in
    let a = x.address in let b = x.asked in let c = x.discontinuity in let d = x.returned in
    let e : f (sent_address w p i) (changes p (i + address_width w)) (changes p (i + (address_width w + 1))) (changes p (i + (address_width w + 2))) ≡ f r.difference r.notify r.updiscon r.irreport = cc in
    e

not_zero : (n : ℕ) → (suc n == 0) ≡ false
not_zero n = grind (arith, nat_tests)

counted : (n : ℕ) (a b : Packet) → 0 < n → cond (n == 0) a b ≡ b
counted zero a b lt = absurd (omega arith)
counted (suc n) a b lt = rw (not_zero n) refl

module _ (w : Parameters) (k : ℕ) (p : List ℕ) where
  refused_support : IsBadSupport p → support_at k p ≡ Err (BadSupport k)
  unfolding support_at
  refused_support s = go (field p 5 1) (field p 8 5) s.wrong where
    go : (m n : ℕ) → (m ≢ 0) ⊎ (n ≢ 0) → cond (m == 0) (cond (n == 0) (Ok (Support (bit_of p 4) (qual_of (field p 6 2)))) (Err (BadSupport k))) (Err (BadSupport k)) ≡ Err (BadSupport k)
    go zero zero h = absurd (elim h [ inl x ↦ x refl | inr x ↦ x refl ])
    go zero (suc n) h = rw (not_zero n) refl
    go (suc m) n h = rw (not_zero m) refl

  reads : (x : Result Packet TraceFault) → Spells w k p x → spelled_at w k p ≡ x
  unfolding spelled_at start_at support_at map_at
  reads (Ok (Start branch privilege address time context)) s = let t = s.stamp in rw (s.format, s.subformat, s.branch_bit, s.level, s.place, t.clock, t.process) refl
  reads (Ok (Context privilege time context)) s = let t = s.stamp in rw (s.format, s.subformat, s.level, t.clock, t.process) refl
  reads (Ok (Support enabled status)) s = rw (s.format, s.subformat, s.enable, s.mode, s.options, s.number, qual_back) refl
  reads (Ok (Address report)) s = rw (s.format, same_report w p 2 report s.fields) refl
  reads (Ok (Map map)) s = rw (s.format, s.count, s.bits) refl
  reads (Ok (MapAddress count map report)) s =
      let f : report_at w p (7 + map_width count) ≡ report = same_report w p (7 + map_width count) report s.fields in
      rw (s.format, ← s.number, f, s.bits) (ap (λ (q : Packet). Ok q) (counted count _ _ s.some))
  reads (Err (Optional j)) s = rw (s.0, s.1) refl
  reads (Err (Trap j)) s = rw (s.0, s.1, s.2) refl
  reads (Err (BadSupport j)) s = let e = s.1 in rw (s.0, e.format, e.subformat) (refused_support e)
  reads (Err BadMagic) s = elim s [ ]
  reads (Err (BadHeader i)) s = elim s [ ]
  reads (Err (Truncated j)) s = elim s [ ]
  reads (Err (StreamPastEnd j)) s = elim s [ ]
  reads (Err (Rest j)) s = elim s [ ]

  -- a payload spells one thing
  pub one_spelling : (x y : Result Packet TraceFault) → Spells w k p x → Spells w k p y → x ≡ y
  one_spelling x y a b = sym (reads x a) ∙ reads y b
