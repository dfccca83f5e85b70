-- The run that is analysed, by the one that the trace tells: the same steps, with an untraced
-- prefix that may end earlier.
use Rattle.std.proofs.Common.{◌≡◌, ◌⊎◌, ℕ, ◌<◌, Bool, true, false, List, length, Result, Ok, Err, IfOk, IfErr, inl, inr, sym, ap, subst}
use Rattle.std.specs.Prelude.{MatchBool, option_map}
use Rattle.rept_dump.specs.declared.dump.Dump.{Dump}
use Rattle.rept_steps.specs.Course.{CallsEnd, IsAlone, IsSoundCourse}
use Rattle.rept_steps.specs.Runs.{course_of}
use Rattle.rept_steps.specs.declared.run.Run.{Run}
use Rattle.rept_trace.specs.declared.packet.Packet.{Packet}
use Rattle.rept_path.specs.declared.fault.PathFault.{PathFault}
use Rattle.rept_path.specs.declared.fault.PathFault.TheVariants as fault
use Rattle.rept_streams.specs.Runs.Ended.{HoldsPackets, IsEndedRun, with_untraced}
use Rattle.rept_streams.specs.Runs.Kind.{is_several}
use Rattle.rept_streams.specs.Runs.Told.{IsTracedRun}
use Rattle.rept_found.specs.Crash.{Crash}
use Rattle.rept_opening.specs.TraceRun.{FitsDump, IsRunBy, IsRunFor, IsRunFound, IsRunOf, IsRunRead, ends_early, traced_in}
use Rattle.rept_opening.specs.declared.load.OpenOptions.{OpenOptions}
use Rattle.rept_opening.specs.declared.words.request.Domain.{Domain}
use Rattle.rept_opening.specs.declared.words.request.Domain.TheVariants as domain
use Rattle.rept_opening.proofs.RunLemmas.{IsWhole, of_run, whole_run}

-- only of a trace of several streams
pub early_several : (d : Domain) (trace : List ℕ) → ends_early d trace ≡ true → is_several trace ≡ true
early_several domain.Ranges trace e = let no : ⊥ = cc in absurd no
early_several domain.KnownBits trace e = let no : ⊥ = cc in absurd no
early_several domain.Inferred trace e = e

-- the run with another end of its untraced prefix is as sound
module _ (f : ℕ → ℕ) (run : Run) where
  abbrev mapped : Run
  mapped = with_untraced (option_map f run.untraced) run

  mapped_calls : IsAlone (course_of run) ⊎ CallsEnd (course_of run) → IsAlone (course_of mapped) ⊎ CallsEnd (course_of mapped)
  mapped_calls (inl alone) = inl (record { thread = alone.thread; slice = alone.slice; only = alone.only; whole = alone.whole; told = ap (option_map f) alone.told })
  mapped_calls (inr ends) = inr ends

  pub mapped_sound : IsSoundCourse (course_of run) → IsSoundCourse (course_of mapped)
  mapped_sound s = record { taken = s.taken; in_time = s.in_time; calls = mapped_calls s.calls }

  pub mapped_fits : (dump : Dump) → FitsDump dump run → FitsDump dump mapped
  mapped_fits dump fits = record {
    sound = mapped_sound fits.sound;
    small = record { rows = fits.small.rows; threads = fits.small.threads };
    threads = fits.threads;
    some = fits.some;
  }

  pub mapped_whole : (crash : Crash) → IsWhole crash run → IsWhole crash mapped
  mapped_whole crash whole = record { sound = mapped_sound whole.sound; some = whole.some; noted = whole.noted }

-- what holds of a told run, and of it with each other end, holds of the one with the earlier end
ended_has : (P : Run → Type 0) (trace : List ℕ) (from : ℕ) (told run : Run) → ((f : ℕ → ℕ) → P told → P (with_untraced (option_map f told.untraced) told)) → P told → IsEndedRun trace from told run → P run
ended_has P trace from told run h is (lists, holds, same) = subst P (sym same) (h _ is)

ended_fits : (dump : Dump) (trace : List ℕ) (from : ℕ) (told run : Run) → FitsDump dump told → IsEndedRun trace from told run → FitsDump dump run
ended_fits dump trace from told run fits ended = ended_has (FitsDump dump) trace from told run (λ f. mapped_fits f told dump) fits ended

ended_whole : (crash : Crash) (trace : List ℕ) (from : ℕ) (told run : Run) → IsWhole crash told → IsEndedRun trace from told run → IsWhole crash run
ended_whole crash trace from told run whole ended = ended_has (IsWhole crash) trace from told run (λ f. mapped_whole f told crash) whole ended

-- what is analysed of a trace is a sound run of some threads
pub analysed_whole : (crash : Crash) (trace : List ℕ) (manner : OpenOptions) (run : Run) → 0 < length crash.notes → IsRunFor crash trace manner run → IsWhole crash run
analysed_whole crash trace manner run noted (told, is, by) = at (ends_early manner.domain trace) by
  where
    at : (b : Bool) → MatchBool b (IsEndedRun trace manner.from told run) (run ≡ told) → IsWhole crash run
    at true ended = ended_whole crash trace manner.from told run (whole_run crash trace manner.from told noted is) ended
    at false same = subst (IsWhole crash) (sym same) (whole_run crash trace manner.from told noted is)

-- of a trace of several streams that tells a run, each stream holds packets
pub told_packets : (trace : List ℕ) (from : ℕ) (told : Run) → is_several trace ≡ true → (crash : Crash) × IsRunOf crash trace from told → (lists : List (List Packet)) × HoldsPackets trace lists
told_packets trace from told several (crash, is) = of (of_run crash trace from several told is)
  where
    of : IsTracedRun (traced_in crash trace from) told → (lists : List (List Packet)) × HoldsPackets trace lists
    of (file, streams, (before, (lists, held, is), same)) = (lists, record { file = file; streams = streams; packets = held })

pub result_fits : (trace : List ℕ) (from : ℕ) (told : Run) (dump : Dump) (r : Result Run PathFault) → FitsDump dump told → IfOk r (IsEndedRun trace from told) → IfOk r (FitsDump dump)
result_fits trace from told dump (Ok run) fits ended = ended_fits dump trace from told run fits ended
result_fits trace from told dump (Err e) fits ended = tt

-- what was read of a trace, and what is analysed for it
module _ (crash : Crash) (trace : List ℕ) (manner : OpenOptions) where
  pub run_found : (told : Run) (r : Result Run PathFault) → IsRunRead crash trace manner.from (Ok told) → IfOk r (IsRunBy manner trace told)
      → ((other : Run) → IsRunBy manner trace told other → IfOk r (λ run. run ≡ other)) → IfErr r (λ e. e ≡ fault.OutOfMemory) → IsRunFound crash trace manner r
  run_found told (Ok run) read by only memory = record {
    run = (told, read.run, by);
    refusal = tt;
    only_run = λ other is. only other (subst (λ (t : Run). IsRunBy manner trace t other) (sym (read.only_run is.0 is.1)) is.2);
    only_refusal = λ f has. read.only_refusal f has;
    reason = λ f has. read.reason f has;
  }
  run_found told (Err e) read by only memory = record {
    run = tt;
    refusal = inl memory;
    only_run = λ other is. memory;
    only_refusal = λ f has. inl memory;
    reason = λ f has. read.reason f has;
  }

  pub no_run_found : (e : PathFault) → IsRunRead crash trace manner.from (Err e) → IsRunFound crash trace manner (Err e)
  no_run_found e read = record {
    run = tt;
    refusal = read.refusal;
    only_run = λ other is. read.only_run is.0 is.1;
    only_refusal = read.only_refusal;
    reason = read.reason;
  }
