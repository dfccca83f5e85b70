-- A run that was found between two packets.
use Rattle.std.proofs.Common.{◌≡◌, ◌≢◌, ◌⊎◌, ◌<◌, ◌≤◌, ◌-◌, ◌∙◌, ℕ, suc, List, length, Option, None, Some, Result, Ok, Err, inl, inr, refl, sym, subst, arith}
use Rattle.std.specs.Prelude.{MatchOption}
use Rattle.rept_steps.specs.declared.run.Run.{Run}
use Rattle.rept_path.specs.declared.fault.PathFault.{PathFault}
use Rattle.rept_path.specs.declared.fault.PathFault.TheVariants as fault
use Rattle.rept_found.specs.Crash.{Crash}
use Rattle.rept_opening.specs.Opened.{CrashTrace}
use Rattle.rept_opening.specs.TraceRun.{HasNoRunOf, IsRunBy, IsRunOf, IsRunRead}
use Rattle.rept_debug.specs.Begin.{AreBegun, BeginsAt, HasNoStart, IsAnalysisBegun, IsRefusedAt, IsTooLong, NeverBegins, beginning}
use Rattle.rept_debug.specs.declared.begin.RunFrom.{RunFrom}

module _ (crash : Crash) (trace : List ℕ) where
  -- no run begins at a packet
  pub has_no_start : (from : ℕ) (e : PathFault) → ((count : ℕ) × (e ≡ fault.NoStart count)) → IsRunRead crash trace from (Err e) → HasNoStart crash trace from
  has_no_start from e (count, is) read = by read.refusal
    where
      by : (e ≡ fault.OutOfMemory) ⊎ HasNoRunOf crash trace from e → HasNoStart crash trace from
      by (inl memory) = let no : fault.NoStart count ≡ fault.OutOfMemory = sym is ∙ memory in let bad : ⊥ = cc in absurd bad
      by (inr has) = inl (count, subst (λ (x : PathFault). HasNoRunOf crash trace from x) is has)

  -- a run that is refused, and neither for want of a start nor of memory
  pub refused_at : (from : ℕ) (e : PathFault) → (e ≢ fault.OutOfMemory) × ((count : ℕ) → e ≢ fault.NoStart count) → IsRunRead crash trace from (Err e) → IsRefusedAt crash trace from e
  refused_at from e (other, started) read = record {
    fails = by read.refusal;
    not_start = started;
    none = λ run is. other (read.only_run run is);
    starts = λ count has. only count (read.only_refusal (fault.NoStart count) has);
  }
    where
      by : (e ≡ fault.OutOfMemory) ⊎ HasNoRunOf crash trace from e → HasNoRunOf crash trace from e
      by (inl memory) = absurd (other memory)
      by (inr has) = has

      only : (count : ℕ) → (e ≡ fault.OutOfMemory) ⊎ (e ≡ fault.NoStart count) → ⊥
      only count (inl memory) = other memory
      only count (inr none) = started count none

  -- a run that has too many steps
  pub long_at : (from : ℕ) (e : PathFault) → ((packet : ℕ) × (e ≡ fault.TooLong packet)) → IsRunRead crash trace from (Err e) → IsTooLong crash trace from
  long_at from e (packet, is) read = by read.refusal
    where
      by : (e ≡ fault.OutOfMemory) ⊎ HasNoRunOf crash trace from e → IsTooLong crash trace from
      by (inl memory) = let no : fault.TooLong packet ≡ fault.OutOfMemory = sym is ∙ memory in let bad : ⊥ = cc in absurd bad
      by (inr has) = (packet, subst (λ (x : PathFault). HasNoRunOf crash trace from x) is has)

  pub refused_long : (from : ℕ) (e : PathFault) → ((packet : ℕ) × (e ≡ fault.TooLong packet)) → IsRunRead crash trace from (Err e) → IsRefusedAt crash trace from e
  refused_long from e (packet, is) read =
      refused_at from e (
        λ memory. (let no : fault.TooLong packet ≡ fault.OutOfMemory = sym is ∙ memory in let bad : ⊥ = cc in bad),
        λ count none. (let no : fault.TooLong packet ≡ fault.NoStart count = sym is ∙ none in let bad : ⊥ = cc in bad),
      )
      read

  -- a run that was found directly after a packet from which there is none
  pub next_to : (low high : ℕ) (e : PathFault) → IsTooLong crash trace 0 → IsRefusedAt crash trace low e → low < high → high - low ≤ 1 → (0 < length trace → high ≤ length trace) → BeginsAt crash trace 0 high
  next_to low high e long refused after near few =
      let next : high ≡ suc low = omega arith in
      inr (
        refl,
        long,
        record {
          before = low;
          inside = λ some. (let bound = few some in omega (arith, bound, after));
          next = next;
          fault = e;
          refused = refused;
        },
      )

  -- where the next packet has no start
  pub fault_to_the_end : (low high : ℕ) (e : PathFault) → IsTooLong crash trace 0 → IsRefusedAt crash trace low e → low < high → high - low ≤ 1 → (0 < length trace → high ≤ length trace) → HasNoStart crash trace high → (e ≡ fault.OutOfMemory) ⊎ NeverBegins crash trace 0 e
  fault_to_the_end low high e long refused after near few none =
      let next : high ≡ suc low = omega arith in
      inr (inr (
        refl,
        long,
        record {
          from = low;
          inside = λ some. (let bound = few some in omega (arith, bound, after));
          refused = refused;
          next = subst (HasNoStart crash trace) next none;
        },
      ))

  -- the first packet, where none after it is asked for
  first_packet_asked : (from : ℕ) → from ≤ 0 → from ≡ 0
  first_packet_asked from h = omega arith

  pub long_first : (from : ℕ) → from ≤ 0 → IsTooLong crash trace from → IsTooLong crash trace 0
  long_first from h has = subst (IsTooLong crash trace) (first_packet_asked from h) has

  pub refused_first : (from : ℕ) (e : PathFault) → from ≤ 0 → IsRefusedAt crash trace from e → IsRefusedAt crash trace 0 e
  refused_first from e h has = subst (λ (n : ℕ). IsRefusedAt crash trace n e) (first_packet_asked from h) has

  -- what is begun where that is asked for
  pub begun_first : (from : ℕ) (r : Result RunFrom PathFault) → from ≤ 0 → AreBegun crash trace 0 r → AreBegun crash trace from r
  begun_first from r h begun = subst (λ (n : ℕ). AreBegun crash trace n r) (sym (first_packet_asked from h)) begun

  -- a run from the packet that is asked for, or none
  pub begun_here : (from : ℕ) (run : Run) → IsRunOf crash trace from run → AreBegun crash trace from (Ok (record { from = from; run = run }))
  begun_here from run is = record { run = is; from = inl refl; refused = tt }

  pub begun_after : (asked from : ℕ) (run : Run) → IsRunOf crash trace from run → BeginsAt crash trace asked from → AreBegun crash trace asked (Ok (record { from = from; run = run }))
  begun_after asked from run is begins = record { run = is; from = begins; refused = tt }

  pub never_begun : (asked : ℕ) (e : PathFault) → (e ≡ fault.OutOfMemory) ⊎ NeverBegins crash trace asked e → AreBegun crash trace asked (Err e)
  never_begun asked e why = record { run = tt; from = tt; refused = why }

  pub fails_here : (from : ℕ) (e : PathFault) → ((n : ℕ) → e ≢ fault.TooLong n) → (e ≡ fault.OutOfMemory) ⊎ HasNoRunOf crash trace from e → (e ≡ fault.OutOfMemory) ⊎ NeverBegins crash trace from e
  fails_here from e not_long (inl memory) = inl memory
  fails_here from e not_long (inr has) = inr (inl (has, inr not_long))

  -- a packet after the first one, whatever the refusal
  pub too_long_later : (from : ℕ) (e : PathFault) → 0 < from → (e ≡ fault.OutOfMemory) ⊎ HasNoRunOf crash trace from e → (e ≡ fault.OutOfMemory) ⊎ NeverBegins crash trace from e
  too_long_later from e later (inl memory) = inl memory
  too_long_later from e later (inr has) = inr (inl (has, inl later))

-- the run that is analysed, for one that was begun
module _ (t : CrashTrace) where
  pub analysis_begun : (told : RunFrom) (run : Run) → AreBegun t.crash t.trace t.manner.from (Ok told) → IsRunBy (beginning t.manner told.from) t.trace told.run run → IsAnalysisBegun t (Ok (record { from = told.from; run = run }))
  analysis_begun told run are by = record { run = (told.run, are.run, by); from = are.from; refused = tt }

  pub no_analysis : (e : PathFault) → (e ≡ fault.OutOfMemory) ⊎ NeverBegins t.crash t.trace t.manner.from e → IsAnalysisBegun t (Err e)
  no_analysis e why = record { run = tt; from = tt; refused = why }
