-- Bytes that were taken one after the other.
use Rattle.std.proofs.Common.{◌≡◌, ℕ, ◌-◌, ◌<◌, ◌≤◌, List, [], ◌∷◌, ◌++◌, Bool, false, append_assoc, arith, refl, ◌∙◌, ap, subst, inl, inr, length-append}
use Rattle.std.proofs.lemmas.List.{append-nil}
use Rattle.std.proofs.lemmas.List.Folds.{list_any-append}
use Rattle.std.specs.List.{list_any}
use Rattle.std.specs.Prelude.{Ok, Err}
use Rattle.rept_ports.proofs.LineLemmas.{Consumes-nothing, Consumes-trans}
use Rattle.rept_ports.specs.Causes.{OneFault}
use Rattle.rept_ports.specs.Port.{Port, move}
use Rattle.rept_remote.specs.Frames.{IsCutPacket, arrived, brought, has_call, has_end, asks}
use Rattle.rept_remote.specs.Reading.{Passed, most_input, taking}
use Rattle.rept_remote.specs.Steps.{IsOpenPacket, StopsAfter, TakesArrival, TakesByte, TakesDigits, TakesPacket, ending_of}
use Rattle.rept_remote.specs.declared.bytes.NoByte.{NoByte}
use Rattle.rept_remote.specs.declared.bytes.NoByte.TheVariants as none
use Rattle.rept_remote.specs.declared.arrival.Arrival.{Arrival}
use Rattle.rept_remote.specs.declared.arrival.Ending.TheVariants as ending

pub passed_none : (a : ℕ) (s : Port) → a ≤ most_input → Passed (taking (move a a) (move s s) [])
passed_none a s within = record { took = record { consumed = Consumes-nothing s.bytes; counted = omega arith; within = within }; calm = refl }

module _ (a b c : ℕ) (s t u : Port) (g h : List ℕ) (first : Passed (taking (move a b) (move s t) g)) where
  pub passed_more : Passed (taking (move b c) (move t u) h) → Passed (taking (move a c) (move s u) (g ++ h))
  passed_more next = record {
    took = record {
      consumed = Consumes-trans s.bytes t.bytes u.bytes g h first.took.consumed next.took.consumed;
      counted = omega (arith, first.took.counted, next.took.counted, length-append g h);
      within = next.took.within;
    };
    calm = next.calm ∙ first.calm;
  }

  pub halts_after : (why : NoByte) → StopsAfter (taking (move b c) (move t u) h) why → StopsAfter (taking (move a c) (move s u) (g ++ h)) why
  halts_after none.End next = record { passed = passed_more next.passed; at_end = next.at_end }
  halts_after none.ReadFault next = record {
    took = record {
      consumed = Consumes-trans s.bytes t.bytes u.bytes g h first.took.consumed next.took.consumed;
      counted = omega (arith, first.took.counted, next.took.counted, length-append g h);
      within = next.took.within;
    };
    fault = subst (λ before. OneFault before u.faults) first.calm next.fault;
  }
  halts_after none.TooMuchInput next = record {
    extra = next.extra;
    consumed = rw append_assoc (Consumes-trans s.bytes t.bytes u.bytes g (h ++ next.extra ∷ []) first.took.consumed next.consumed);
    counted = omega (arith, first.took.counted, next.counted, length-append g h);
    full = next.full;
    calm = next.calm ∙ first.calm;
  }

-- the same, where no byte came
pub halts_here : (a b c : ℕ) (s t u : Port) (g : List ℕ) → Passed (taking (move a b) (move s t) g) → (why : NoByte) → StopsAfter (taking (move b c) (move t u) []) why → StopsAfter (taking (move a c) (move s u) g) why
halts_here a b c s t u g first why next = subst (λ got. StopsAfter (taking (move a c) (move s u) got) why) (append-nil g) (halts_after a b c s t u g [] first why next)

none_with : (p : ℕ → Bool) (xs : List ℕ) (y : ℕ) → list_any p xs ≡ false → p y ≡ false → list_any p (xs ++ y ∷ []) ≡ false
none_with p xs y h k = rw (list_any-append p xs (y ∷ []), h, k) refl

-- one byte more that asks for nothing
pub noise_more : (noise : List ℕ) (byte : ℕ) → has_call noise ≡ false → asks byte ≡ false → has_call (noise ++ byte ∷ []) ≡ false
noise_more noise byte h k = none_with asks noise byte h k

-- one byte taken makes the measure less
pub may_act : (a b : ℕ) (s t : Port) (byte : ℕ) → TakesByte (move a b) (move s t) (Ok byte) → most_input - b < most_input - a
may_act a b s t byte h = omega (arith, h.took.counted, h.took.within)

-- the second digit doesn't come
pub digit_halts : (a b c : ℕ) (s t u : Port) (high : ℕ) (why : NoByte) → TakesByte (move a b) (move s t) (Ok high) → TakesByte (move b c) (move t u) (Err why) → TakesDigits (move a c) (move s u) (Err why)
digit_halts a b c s t u high why h k = (high ∷ [], omega arith, halts_here a b c s t u (high ∷ []) h why k)

pub digits_pass : (a b c : ℕ) (s t u : Port) (high low : ℕ) → TakesByte (move a b) (move s t) (Ok high) → TakesByte (move b c) (move t u) (Ok low) → TakesDigits (move a c) (move s u) (Ok (high, low))
digits_pass a b c s t u high low h k = passed_more a b c s t u (high ∷ []) (low ∷ []) h k

module _ (a b c : ℕ) (s t u : Port) (body : List ℕ) (plain : has_end body ≡ false) (before : Passed (taking (move a b) (move s t) (body ++ 35 ∷ []))) where
  -- the digits after `#` don't come
  pub packet_halts : (carried : List ℕ) (why : NoByte) → TakesDigits (move b c) (move t u) (Err why) → TakesPacket (move a c) (move s u) carried (Err why)
  packet_halts carried why h =
      ((body ++ 35 ∷ []) ++ h.0, record { body = body; tail = 35 ∷ h.0; parts = append_assoc body (35 ∷ []) h.0; plain = plain; short = (refl, h.1) }, halts_after a b c s t u (body ++ 35 ∷ []) h.0 before why h.2)

  pub packet_comes : (carried : List ℕ) (what : Arrival) (digits : ℕ × ℕ) → TakesDigits (move b c) (move t u) (Ok digits) → arrived what carried ≡ brought body digits.0 digits.1 → TakesPacket (move a c) (move s u) carried (Ok what)
  packet_comes carried what digits h e = (
    (body ++ 35 ∷ []) ++ digits.0 ∷ digits.1 ∷ [],
    record { body = body; high = digits.0; low = digits.1; parts = ap (λ rest. 36 ∷ rest) (append_assoc body (35 ∷ []) (digits.0 ∷ digits.1 ∷ [])); plain = plain; brings = e },
    passed_more a b c s t u (body ++ 35 ∷ []) (digits.0 ∷ digits.1 ∷ []) before h,
  )

module _ (a b c : ℕ) (s t u : Port) (noise : List ℕ) (quiet : has_call noise ≡ false) (byte : ℕ) (begins : byte ≡ 36) (first : Passed (taking (move a b) (move s t) (noise ++ byte ∷ []))) where
  before : Passed (taking (move a b) (move s t) (noise ++ 36 ∷ []))
  before = subst (λ x. Passed (taking (move a b) (move s t) (noise ++ x ∷ []))) begins first

  -- the packet comes
  pub arrival_comes : (carried : List ℕ) (what : Arrival) → TakesPacket (move b c) (move t u) carried (Ok what) → TakesArrival (move a c) (move s u) carried (Ok what)
  arrival_comes carried what h =
      ((noise ++ 36 ∷ []) ++ h.0, passed_more a b c s t u (noise ++ 36 ∷ []) h.0 before h.2, record { noise = noise; part = 36 ∷ h.0; parts = append_assoc noise (36 ∷ []) h.0; quiet = quiet; arrives = inl h.1 })

  cut : (part : List ℕ) → IsOpenPacket part → IsCutPacket ((noise ++ 36 ∷ []) ++ part)
  cut part open_part = record {
    noise = noise;
    body = open_part.body;
    tail = open_part.tail;
    parts = append_assoc noise (36 ∷ []) part ∙ ap (λ rest. noise ++ 36 ∷ rest) open_part.parts;
    quiet = quiet;
    plain = open_part.plain;
    short = open_part.short;
  }

  -- the packet doesn't end
  pub arrival_halts : (carried : List ℕ) (why : NoByte) → TakesPacket (move b c) (move t u) carried (Err why) → TakesArrival (move a c) (move s u) carried (Err (ending_of why ending.InPacket))
  arrival_halts carried none.End h = ((noise ++ 36 ∷ []) ++ h.0, (cut h.0 h.1, halts_after a b c s t u (noise ++ 36 ∷ []) h.0 before none.End h.2))
  arrival_halts carried none.ReadFault h = ((noise ++ 36 ∷ []) ++ h.0, (inr (cut h.0 h.1), halts_after a b c s t u (noise ++ 36 ∷ []) h.0 before none.ReadFault h.2))
  arrival_halts carried none.TooMuchInput h = ((noise ++ 36 ∷ []) ++ h.0, (inr (cut h.0 h.1), halts_after a b c s t u (noise ++ 36 ∷ []) h.0 before none.TooMuchInput h.2))
