-- The register notes that are read of a core file: they are of few threads, no two of one process.
use Rattle.std.proofs.Common.{◌≡◌, ℕ, ◌<◌, nat_lt, cond, Bool, true, false, List, [], ◌∷◌, length, map, Option, Some, None, Result, Ok, Err, inl, inr, refl, sym, ap, ◌∙◌, subst, arith}
use Rattle.std.specs.Prelude.{MatchBool}
use Rattle.std.specs.List.{filter}
use Rattle.std.proofs.lemmas.Bool.{cases_lt, lt-ltb, le-ltb, true≢false}
use Rattle.rept_elf.specs.Segments.{ElfSegment, segments}
use Rattle.rept_maps.specs.Notes.Notes.{Note}
use Rattle.rept_dump.specs.Dump.{registers_of, threads_of, AreRead, AreReadOfAll}
use Rattle.rept_dump.specs.Registers.{is_status, all_registers, by_size, by_count, by_twin, first_short, first_twin, descs_of, pid_of, most_threads, SaysRegisters, SaysOfAll}
use Rattle.rept_dump.specs.declared.dump.Dump.{Dump}
use Rattle.rept_dump.specs.declared.fault.CoreFault.{CoreFault}
use Rattle.rept_dump.specs.declared.fault.CoreFault.TheVariants.{TooManyThreads}
use Rattle.rept_dump.proofs.NoteLemmas.{all_said_once}
use Rattle.rept_streams.specs.Runs.Told.{AreNotesApart}
use Rattle.rept_opening.specs.Reading.{AreNotesOf, HasNotes, NotesSay, SaysOfOne}

abbrev pub all_ok : List (List ℕ) → Result (List (List ℕ)) CoreFault
all_ok descs = Ok descs

abbrev pub all_err : CoreFault → Result (List (List ℕ)) CoreFault
all_err fault = Err fault

abbrev one_ok : List ℕ → Result (List ℕ) CoreFault
one_ok note = Ok note

abbrev one_err : CoreFault → Result (List ℕ) CoreFault
one_err fault = Err fault

same_descs : (a b : List (List ℕ)) → all_ok a ≡ all_ok b → a ≡ b
same_descs a b e = cc

ok_or_err : (descs : List (List ℕ)) (f : CoreFault) → all_ok descs ≡ all_err f → ⊥
ok_or_err descs f e = cc

same_note : (a b : List ℕ) → one_ok a ≡ one_ok b → a ≡ b
same_note a b e = cc

same_fault : (f g : CoreFault) → one_err f ≡ one_err g → f ≡ g
same_fault f g e = cc

note_or_fault : (note : List ℕ) (f : CoreFault) → one_ok note ≡ one_err f → ⊥
note_or_fault note f e = cc

-- of few threads, no two of one process
apart_by_twin : (descs ds : List (List ℕ)) (o : Option ℕ) → first_twin (map pid_of ds) ≡ o → all_ok descs ≡ by_twin o ds → (descs ≡ ds) × (first_twin (map pid_of ds) ≡ None)
apart_by_twin descs ds (Some pid) e h = let no : ⊥ = cc in absurd no
apart_by_twin descs ds None e h = (same_descs descs ds h, e)

-- they are those that were found, of few threads, no two of one process
record AreFound (descs ds : List (List ℕ)) : Type 0 where
  same : descs ≡ ds
  apart : AreNotesApart ds

found_by_count : (descs ds : List (List ℕ)) → all_ok descs ≡ by_count ds → AreFound descs ds
found_by_count descs ds h =
    elim (cases_lt most_threads (length ds)) [
      | inl over ↦ absurd (ok_or_err descs (TooManyThreads (length ds)) (said_at (lt-ltb most_threads (length ds) over)))
      | inr few ↦
          let its = apart_by_twin descs ds (first_twin (map pid_of ds)) refl (said_at (le-ltb most_threads (length ds) few)) in
          record { same = its.0; apart = record { few = few; apart = its.1 } }
    ]
  where
    -- what is said where the count passes the limit, or doesn't
    said_at : {b : Bool} → nat_lt most_threads (length ds) ≡ b → all_ok descs ≡ cond b (Err (TooManyThreads (length ds))) (by_twin (first_twin (map pid_of ds)) ds)
    said_at e = h ∙ ap (λ (b : Bool). cond b (Err (TooManyThreads (length ds))) (by_twin (first_twin (map pid_of ds)) ds)) e

found_by_size : (descs ds : List (List ℕ)) (o : Option ℕ) → all_ok descs ≡ by_size o ds → AreFound descs ds
found_by_size descs ds (Some size) h = let no : ⊥ = cc in absurd no
found_by_size descs ds None h = found_by_count descs ds h

-- there are some
record AreSome (descs : List (List ℕ)) : Type 0 where
  some : 0 < length descs
  apart : AreNotesApart descs

some_of : (descs : List (List ℕ)) (statuses : List Note) → all_ok descs ≡ all_registers statuses → AreSome descs
some_of descs [] h = let no : ⊥ = cc in absurd no
some_of descs (note ∷ notes) h =
    let found = found_by_size descs (descs_of (note ∷ notes)) (first_short (note ∷ notes)) h in
    subst (λ (xs : List (List ℕ)). AreSome xs) (sym found.same) (record { some = omega arith; apart = found.apart })

all_some : (size : ℕ) (ss : List ElfSegment) (descs : List (List ℕ)) → SaysOfAll size ss (Ok descs) → AreSome descs
all_some size ss descs (inl cut) = let no : ⊥ = cc in absurd no
all_some size ss descs (inr whole) = some_of descs (filter is_status whole.0) whole.2

one_apart : (note : List ℕ) → AreNotesApart (note ∷ [])
one_apart note = record { few = omega arith; apart = refl }

-- notes that are said are some
pub some_said : (many : Bool) (core : List ℕ) (notes : List (List ℕ)) → NotesSay many core (Ok notes) → 0 < length notes
some_said true core notes h = (all_some (length core) (segments core) notes h).some
some_said false core notes (note, says, e) = subst (λ (xs : List (List ℕ)). 0 < length xs) (sym e) (omega arith)

-- what was read of the notes is what they say, and they say nothing else
pub record AreSaid (many : Bool) (core : List ℕ) (here : Result (List (List ℕ)) CoreFault) : Type 0 where
  pub said : NotesSay many core here
  pub only : (said : Result (List (List ℕ)) CoreFault) → NotesSay many core said → said ≡ here

-- a dump has these notes, which are what is said
pub record AreReadNotes (many : Bool) (core : List ℕ) (dump : Dump) : Type 0 where
  pub notes : List (List ℕ)
  pub are : AreNotesOf dump notes
  pub said : AreSaid many core (Ok notes)
  pub one : many ≡ false → threads_of dump ≡ 1

abbrev pub AreNoted : Bool → List ℕ → Result Dump CoreFault → Type 0
AreNoted many core (Ok dump) = AreReadNotes many core dump
AreNoted many core (Err fault) = AreSaid many core (Err fault)

module _ (core : List ℕ) where
  abbrev Here : Result (List (List ℕ)) CoreFault → Type 0
  Here said = SaysOfOne (length core) (segments core) said

  only_one : (note : List ℕ) → ((said : Result (List ℕ) CoreFault) → SaysRegisters (length core) (segments core) said → said ≡ one_ok note) → (said : Result (List (List ℕ)) CoreFault) → Here said → said ≡ all_ok (note ∷ [])
  only_one note only (Ok other) (n, says, e) = ap all_ok (e ∙ ap (λ (x : List ℕ). x ∷ []) (same_note n note (only (one_ok n) says)))
  only_one note only (Err f) says = absurd (note_or_fault note f (sym (only (one_err f) says)))

  only_fault : (fault : CoreFault) → ((said : Result (List ℕ) CoreFault) → SaysRegisters (length core) (segments core) said → said ≡ one_err fault) → (said : Result (List (List ℕ)) CoreFault) → Here said → said ≡ all_err fault
  only_fault fault only (Ok other) (n, says, e) = absurd (note_or_fault n fault (only (one_ok n) says))
  only_fault fault only (Err f) says = ap all_err (same_fault f fault (only (one_err f) says))

  pub noted_by : (many : Bool) (r : Result Dump CoreFault) → MatchBool many (AreReadOfAll (length core) (segments core) r) (AreRead (length core) (segments core) r) → AreNoted many core r
  noted_by false (Ok dump) h = record {
    notes = registers_of dump ∷ [];
    are = record { threads = h.one.threads; count = h.one.count; first = refl; apart = one_apart (registers_of dump) };
    said = record { said = (registers_of dump, h.said, refl); only = only_one (registers_of dump) h.only };
    one = λ e. h.one.count;
  }
  noted_by false (Err fault) h = record { said = h.said; only = only_fault fault h.only }
  noted_by true (Ok dump) h =
      let all = h.ok in
      record {
        notes = all.0;
        are = record { threads = all.2; count = all.4; first = all.3; apart = (all_some (length core) (segments core) all.0 all.1).apart };
        said = record { said = all.1; only = λ said says. all_said_once (length core) (segments core) said (all_ok all.0) says all.1 };
        one = λ e. absurd (true≢false e);
      }
  noted_by true (Err fault) h = record { said = h.err; only = λ said says. all_said_once (length core) (segments core) said (all_err fault) says h.err }

  -- what is said of the bytes that an image borrows
  pub noted_at : (bytes : List ℕ) (many : Bool) (r : Result Dump CoreFault) → bytes ≡ core → AreNoted many bytes r → AreNoted many core r
  noted_at bytes many r e h = subst (λ b. AreNoted many b r) e h

pub has_notes : (many : Bool) (core : List ℕ) (dump : Dump) → AreReadNotes many core dump → HasNotes many dump
has_notes many core dump read = record { notes = read.notes; are = read.are; one = read.one }
