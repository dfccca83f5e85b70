-- Lines of a log, and the steps between them.
use Rattle.std.proofs.Common.{◌≡◌, ℕ, ◌+◌, ◌<◌, List, [], ◌∷◌, ◌++◌, length, get_or, slice_get, Option, Some, false, refl, sym, ◌∙◌, ap, subst, arith, inl, inr, length-append}
use Rattle.std.proofs.lemmas.Bool.{cases_eq}
use Rattle.std.proofs.lemmas.List.Elements.{All-from_get_or}
use Rattle.std.proofs.lemmas.Option.{slice_get_within, slice_get-get_or}
use Rattle.rept_isa.specs.declared.instr.Instr.TheVariants.{Fence}
use Rattle.rept_isa.specs.declared.row.StepRow.{StepRow}
use Rattle.rept_steps.specs.Linked.{EndBefore}
use Rattle.rept_path.specs.Code.{Code}
use Rattle.rept_path.specs.Rows.{CarriesCode, CarryCode}
use Rattle.rept_encode.specs.Walkable.{IsFirstJumpEnd}
use Rattle.rept_encode.specs.Encoded.{TellsRows}
use Rattle.rept_encode.specs.Added as added
use Rattle.rept_encode.specs.Added.{asked_of}
use Rattle.rept_encode.specs.declared.step.Site.{Site}
use Rattle.rept_simlog.specs.declared.entry.LogLine.{LogLine}
use Rattle.rept_simlog.specs.declared.refusal.SimLogRefusal.{SimLogRefusal}
use Rattle.rept_simlog.specs.declared.refusal.SimLogRefusal.TheVariants.{Executable, NoNumber, NoInstruction, NoStep, JumpEnds, NoSteps, OutOfMemory}
use Rattle.rept_simlog.specs.Program.{site_of}
use Rattle.rept_simlog.specs.Recorded.{IsStepRefused, IsWalkFault}
use Rattle.rept_simlog.specs.Walk.{step_asked, IsStepBetween, AddsRow, Along, GoAlong, MayStep, MayGo, EndsJump, RecordsOneHart}
use Rattle.rept_simlog.proofs.Reading.{get_push}

-- a fault between two entries is one of all
pub lift_fault : (code : Code) (entries : List LogLine) (i : ℕ) (from to : LogLine) (r : SimLogRefusal) → MayGo code entries i → slice_get entries i ≡ Some from → slice_get entries (i + 1) ≡ Some to → IsStepRefused code from to r → IsWalkFault code entries r
lift_fault code entries i from to (NoInstruction k fault) go a b h =
    let w = slice_get_within entries (i + 1) to b in
    record { i = i; entry = from; there = a; early = w; first = go; line = h.0; looked = h.1 }
lift_fault code entries i from to (NoStep k) go a b h = let n = h.1 in record { i = i; from = from; to = to; instr = n.0; there = a; next = b; first = go; line = h.0; looked = n.1; none = n.2 }
lift_fault code entries i from to OutOfMemory go a b h = tt
lift_fault code entries i from to (JumpEnds k) go a b h = absurd h
lift_fault code entries i from to NoSteps go a b h = absurd h
lift_fault code entries i from to (NoNumber k) go a b h = absurd h
lift_fault code entries i from to (Executable fault) go a b h = absurd h

same_entry : (entries : List LogLine) (i j : ℕ) (a b : LogLine) → i ≡ j → slice_get entries i ≡ Some a → slice_get entries j ≡ Some b → a ≡ b
same_entry entries i j a b e x y =
    let f : ◌≡◌ {A = Option LogLine} (Some a) (Some b) = sym x ∙ ap (λ (k : ℕ). slice_get entries k) e ∙ y in
    cc

-- a step that was refused can't be made
pub none_goes : (code : Code) (from to : LogLine) (site : Site) → site ≡ site_of code from.address site.instr → (added.MayAddStep (asked_of code.halves site to.address) → ⊥) → added.MayAddStep (step_asked code site.instr from to) → ⊥
none_goes code from to site is none m = none (subst (λ (s : Site). added.MayAddStep (asked_of code.halves s to.address)) (sym is) m)

-- one step more along the entries
pub along_push : (code : Code) (entries : List LogLine) (old new : List StepRow) (i : ℕ) (from to : LogLine) → Along code entries old → length old ≡ i → slice_get entries i ≡ Some from → slice_get entries (i + 1) ≡ Some to → AddsRow code old new from to → Along code entries new
along_push code entries old new i from to before size a b x = λ j row f t get get_f get_t.
    let g : slice_get (old ++ x.row ∷ []) j ≡ Some row = subst (λ (rows : List StepRow). slice_get rows j ≡ Some row) x.rows get in
    elim (get_push old x.row j row g) [
      | inl h ↦ before j row f t h get_f get_t
      | inr h ↦
          let e : j ≡ i = h.0 ∙ size in
          let same_from : from ≡ f = same_entry entries i j from f (sym e) a get_f in
          let same_to : to ≡ t = same_entry entries (i + 1) (j + 1) to t (ap (λ (k : ℕ). k + 1) (sym e)) b get_t in
          let s : IsStepBetween code from to row = subst (λ (r : StepRow). IsStepBetween code from to r) h.1 x.step in
          subst (λ (u : LogLine). IsStepBetween code f u row) same_to (subst (λ (u : LogLine). IsStepBetween code u to row) same_from s)
    ]

pub go_push : (code : Code) (entries : List LogLine) (i : ℕ) (from to : LogLine) → MayGo code entries i → slice_get entries i ≡ Some from → slice_get entries (i + 1) ≡ Some to → MayStep code from to → MayGo code entries (i + 1)
go_push code entries i from to before a b step = λ j f t lt get_f get_t. elim (cases_eq j i) [
  | inl e ↦
      let same_from : from ≡ f = same_entry entries i j from f (sym e) a get_f in
      let same_to : to ≡ t = same_entry entries (i + 1) (j + 1) to t (ap (λ (k : ℕ). k + 1) (sym e)) b get_t in
      subst (λ (u : LogLine). MayStep code f u) same_to (subst (λ (u : LogLine). MayStep code u to) same_from step)
  | inr ne ↦ before j f t (omega arith) get_f get_t
]

pub rows_size : (code : Code) (old new : List StepRow) (from to : LogLine) → AddsRow code old new from to → length new ≡ length old + 1
rows_size code old new from to x = ap (length {A = StepRow}) x.rows ∙ length-append old (x.row ∷ [])

pub ends_at : (entries : List LogLine) (i : ℕ) (to : LogLine) (rows : List StepRow) → slice_get entries (i + 1) ≡ Some to → EndBefore rows to.address → (last : LogLine) → slice_get entries (i + 1) ≡ Some last → EndBefore rows last.address
ends_at entries i to rows a h last get =
    let same : to ≡ last = same_entry entries (i + 1) (i + 1) to last refl a get in
    subst (λ (e : LogLine). EndBefore rows e.address) same h

pub get_entry : (entries : List LogLine) (i : ℕ) (entry : LogLine) → entry ≡ get_or entries i entry → i < length entries → slice_get entries i ≡ Some entry
get_entry entries i entry is lt = slice_get-get_or entries i entry lt ∙ ap (λ (x : LogLine). Some x) (sym is)

no_row : StepRow
no_row = record { at = 0; instr = Fence; next = 0; call = false; short = false }

abbrev pub no_entry : LogLine
no_entry = record { line = 0; address = 0 }

-- what is told of the rows
pub records_is : (code : Code) (entries : List LogLine) (rows : List StepRow) (trace : List ℕ) → GoAlong code entries rows → TellsRows code.halves trace rows → RecordsOneHart code entries trace
records_is code entries rows trace g t = record {
  rows = rows;
  along = g;
  rest = t.rest;
  layout = t.layout;
  path = λ last get. t.path code.contents last.address carry (g.ends last get);
}
  where
    carry : CarryCode code rows
    carry = All-from_get_or (CarriesCode code) rows no_row (λ i lt.
        let count = g.count in
        let row : slice_get rows i ≡ Some (get_or rows i no_row) = slice_get-get_or rows i no_row lt in
        let from : slice_get entries i ≡ Some (get_or entries i no_entry) = slice_get-get_or entries i no_entry (omega arith) in
        let to : slice_get entries (i + 1) ≡ Some (get_or entries (i + 1) no_entry) = slice_get-get_or entries (i + 1) no_entry (omega arith) in
        let s = g.along i (get_or rows i no_row) (get_or entries i no_entry) (get_or entries (i + 1) no_entry) row from to in
        record { instr = s.instr; short = s.short })

pub within_entries : (code : Code) (entries : List LogLine) (rows : List StepRow) (i : ℕ) → GoAlong code entries rows → IsFirstJumpEnd rows i → i < length entries
within_entries code entries rows i g f =
    let w = slice_get_within rows i f.there.call f.there.follows in
    let count = g.count in
    omega arith

pub ends_jump : (code : Code) (entries : List LogLine) (rows : List StepRow) (i line : ℕ) → GoAlong code entries rows → IsFirstJumpEnd rows i → ((entry : LogLine) → slice_get entries i ≡ Some entry → entry.line ≡ line) → EndsJump code entries line
ends_jump code entries rows i line g f is =
    let w = within_entries code entries rows i g f in
    let get = slice_get-get_or entries i no_entry w in
    record { rows = rows; along = g; i = i; first = f; entry = get_or entries i no_entry; there = get; line = is (get_or entries i no_entry) get }
