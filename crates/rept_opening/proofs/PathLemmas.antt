-- The path of a trace file, by what its packets tell.
use Rattle.std.proofs.Common.{◌≡◌, ℕ, List, Bool, cond, Result, Ok, Err, MatchResult, inl, inr, ap, sym, subst, ◌∙◌}
use Rattle.rept_isa.specs.declared.row.StepRow.{StepRow}
use Rattle.rept_trace.specs.Header.{one_stream, IsHeaderFault}
use Rattle.rept_trace.proofs.HeaderLemmas.{same_halves}
use Rattle.rept_trace.specs.declared.fault.TraceFault.{TraceFault}
use Rattle.rept_path.specs.Traced.{IsTracedPath, IsUntraced}
use Rattle.rept_path.specs.declared.fault.PathFault.{PathFault}
use Rattle.rept_path.specs.declared.fault.PathFault.TheVariants.{OutOfMemory}
use Rattle.rept_path.specs.declared.rebuilding.Path.{Path}
use Rattle.rept_found.specs.Crash.{Crash}
use Rattle.rept_opening.specs.Path.{TraceFile, file_bytes, raw_run_of, IsTracePath, HasNoPath}

-- a file that begins with the header is one file
module _ (crash : Crash) (trace : List ℕ) (from : ℕ) (file : TraceFile) (parts : trace ≡ file_bytes file) where
  same_file : (x y : TraceFile) → x.halves ≡ y.halves → x.bytes ≡ y.bytes → x ≡ y
  same_file x y a b =
      let f : Bool → List ℕ → TraceFile = λ h l. record { halves = h; bytes = l } in
      let e : f x.halves x.bytes ≡ f y.halves y.bytes = cc in
      e

  same_rest : (other : TraceFile) → trace ≡ file_bytes other → other ≡ file
  same_rest other e = by_header (sym e ∙ parts)
    where
      by_header : file_bytes other ≡ file_bytes file → other ≡ file
      by_header same =
          let halves : ◌≡◌ {A = ℕ} (cond other.halves 1 0) (cond file.halves 1 0) = cc in
          let bytes : other.bytes ≡ file.bytes = cc in
          same_file other file (same_halves other.halves file.halves halves) bytes

  pub traced_after : (path : Path) → IsTracePath crash trace from path → IsTracedPath (raw_run_of crash file from) path.skipped path.steps
  traced_after path (other, e, h) = subst (λ (f : TraceFile). IsTracedPath (raw_run_of crash f from) path.skipped path.steps) (same_rest other e) h

  pub untraced_after : ((refused : TraceFault) → IsHeaderFault one_stream trace refused → ⊥) → (f : PathFault) → HasNoPath crash trace from f → IsUntraced (raw_run_of crash file from) 0 f
  untraced_after fine f (inl (refused, h, e)) = absurd (fine refused h)
  untraced_after fine f (inr (other, e, h)) = subst (λ (x : TraceFile). IsUntraced (raw_run_of crash x from) 0 f) (same_rest other e) h

-- a path by its parts
pub same_path : (r : Result Path PathFault) (other : Path) → MatchResult r (λ path. (path.skipped ≡ other.skipped) × (path.steps ≡ other.steps)) (λ e. e ≡ OutOfMemory) → MatchResult r (λ path. path ≡ other) (λ e. e ≡ OutOfMemory)
same_path (Ok path) other h = ap (λ (n : ℕ). record { steps = path.steps; skipped = n }) h.0 ∙ ap (λ (rows : List StepRow). record { steps = rows; skipped = other.skipped }) h.1
same_path (Err e) other h = h
