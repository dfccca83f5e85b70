use Rattle.std.proofs.Common.{◌≡◌, ◌⊎◌, Result, Ok, Err, map, ap, subst, arith}
use Rattle.std.specs.Prelude.{MatchResult}
use Rattle.rept_trace.specs.Streams.{StreamFile}
use Rattle.rept_trace.specs.declared.fault.TraceFault.{TraceFault}
use Rattle.rept_path.specs.declared.fault.PathFault.TheVariants.{Packet, OutOfMemory}
use Rattle.rept_streams.specs.Slices.Raw.{files_of, note_in, IsRunOfFiles, HasNoRun}
use Rattle.rept_streams.proofs.ThreadsLemmas.Fitting.{file_fits}
use Rattle.test_kit.specs.Threads.Woven.Ordered.{run_of_harts}
use Rattle.test_kit.proofs.ThreadsLemmas.WovenLemmas.Whole.{rebuilt, either_way}
use Rattle.test_kit.proofs.threads.woven.reading.rebuild_trace.Goals as goal

pub rebuild_many-requires : goal.rebuild_many-requires
rebuild_many-requires c =
    let fits = file_fits c.args.trace.now c.in-Ok.streams c.in-Ok.ensures.opens in
    let few = c.requires in
    omega (arith, fits, few)

pub returns-in-Ok-clause-woven : goal.returns-in-Ok-clause-woven
returns-in-Ok-clause-woven c = λ halves harts descs woven threads count carries ordered.
    let same = c.in-Ok.ensures.only (Ok (record { halves = halves; streams = woven.streams })) woven.file in
    c.rebuild_many.ensures.only_run descs (run_of_harts harts (map note_in descs)) threads count (rebuilt c.args.dump.now c.in-Ok.streams descs halves harts c.args.trace.now woven same carries ordered)

pub returns-in-Ok-clause-read : goal.returns-in-Ok-clause-read
returns-in-Ok-clause-read c = λ file descs opens threads count.
    let same : ◌≡◌ {A = Result StreamFile TraceFault} (Ok c.in-Ok.streams) (Ok file) = c.in-Ok.ensures.only (Ok file) opens in
    let is : c.in-Ok.streams ≡ file = cc in
    let found : StreamFile → Type 0 = λ f. MatchResult c.rebuild_many.result (λ run. IsRunOfFiles (files_of c.args.dump.now f descs 0) run) (λ e. (e ≡ OutOfMemory) ⊎ HasNoRun (files_of c.args.dump.now f descs 0) e) in
    subst found is (either_way (IsRunOfFiles (files_of c.args.dump.now c.in-Ok.streams descs 0)) (λ e. (e ≡ OutOfMemory) ⊎ HasNoRun (files_of c.args.dump.now c.in-Ok.streams descs 0) e) c.rebuild_many.result (c.rebuild_many.ensures.ok descs threads count) (c.rebuild_many.ensures.err descs threads count))

pub returns-in-Ok-clause-refused : goal.returns-in-Ok-clause-refused
returns-in-Ok-clause-refused c = λ fault opens.
    let same = c.in-Ok.ensures.only (Err fault) opens in
    absurd (cc)

pub returns-in-Err-clause-woven : goal.returns-in-Err-clause-woven
returns-in-Err-clause-woven c = λ halves harts descs woven threads count carries ordered.
    let same = c.in-Err.ensures.only (Ok (record { halves = halves; streams = woven.streams })) woven.file in
    absurd (cc)

pub returns-in-Err-clause-read : goal.returns-in-Err-clause-read
returns-in-Err-clause-read c = λ file descs opens threads count.
    let same = c.in-Err.ensures.only (Ok file) opens in
    absurd (cc)

pub returns-in-Err-clause-refused : goal.returns-in-Err-clause-refused
returns-in-Err-clause-refused c = λ fault opens.
    let same = c.in-Err.ensures.only (Err fault) opens in
    let is : c.in-Err.fault ≡ fault = cc in
    ap (λ (f : TraceFault). Err (Packet f)) is
