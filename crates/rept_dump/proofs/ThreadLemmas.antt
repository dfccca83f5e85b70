-- What the register notes of several threads say.
use mathlib.Core.Logic.{∥∥₁_elim}
use Rattle.std.proofs.Props.{props}
use Rattle.std.specs.Coded.{le_prop}
use Rattle.std.proofs.lemmas.Bool.{lt-ltb, le-ltb, ltb-false}
use Rattle.std.proofs.Common.{◌≡◌, ◌≢◌, ◌==◌, nat_lt, take, Ok, Err, if◌then◌else◌, inl, inr, ℕ, zero, suc, ◌<◌, ◌≤◌, List, [], ◌∷◌, length, map, Bool, true, false, Option, Some, None, slice_get, refl, sym, ◌∙◌, ap, subst, arith}
use Rattle.std.specs.List.{filter, list_any}
use Rattle.rept_elf.specs.Segments.{ElfSegment}
use Rattle.rept_maps.specs.Notes.Notes.{Note}
use Rattle.rept_dump.specs.Registers.{is_status, descs_of, HaveThreads, SaysRegisters, SaysOfAll, all_registers, by_size, only_registers, first_twin, first_of, first_short, short_size, status_size, pid_of, most_threads}
use Rattle.rept_dump.specs.Threads.{AreThreadNotes, AllLong}
use Rattle.rept_dump.specs.declared.fault.CoreFault.{CoreFault}
use Rattle.rept_dump.specs.declared.fault.CoreFault.TheVariants as fault
use Rattle.rept_dump.proofs.NoteLemmas.{all_said_once, same_threads}

pub length-descs : (a : List Note) → length (descs_of a) ≡ length a
length-descs [] = refl
length-descs (note ∷ a) = let i = length-descs a in omega arith

-- the descriptor of a note
pub desc_at : (notes : List Note) (k : ℕ) (note : Note) → slice_get notes k ≡ Some note → slice_get (descs_of notes) k ≡ Some note.desc
desc_at [] k note at = absurd ((cc))
desc_at (n ∷ notes) zero note at = let same : n ≡ note = (cc) in ap (λ (o : Note). Some o.desc) same
desc_at (n ∷ notes) (suc k) note at = desc_at notes k note at

-- a number that stands in none of those after it isn't the first twin
pub twin_on : (numbers rest : List ℕ) (number : ℕ) (others : List ℕ) → first_twin numbers ≡ first_twin rest → rest ≡ number ∷ others → list_any (λ m. m == number) others ≡ false → first_twin numbers ≡ first_twin others
twin_on numbers rest number others so split none = so ∙ ap first_twin split ∙ (rw none refl)

pub twin_here : (numbers rest : List ℕ) (number : ℕ) (others : List ℕ) → first_twin numbers ≡ first_twin rest → rest ≡ number ∷ others → list_any (λ m. m == number) others ≡ true → Some number ≡ first_twin numbers
twin_here numbers rest number others so split some = sym (so ∙ ap first_twin split ∙ (rw some refl))

pub front_is : (xs ys : List ℕ) → length ys ≤ length xs → ((k : ℕ) → k < length ys → slice_get xs k ≡ slice_get ys k) → take (length ys) xs ≡ ys
front_is xs [] h e = refl
front_is [] (y ∷ ys) h e = absurd (omega arith)
front_is (x ∷ xs) (y ∷ ys) h e =
    let first : Some x ≡ Some y = e 0 (omega arith) in
    let rest : take (length ys) xs ≡ ys = front_is xs ys (omega arith) (λ k lt. e (suc k) (omega arith)) in
    let same : x ≡ y = (cc) in
    rw (rest, same) refl

short_none : (desc : List ℕ) (b : Bool) → nat_lt (length desc) status_size ≡ b → (if b then Some (length desc) else None) ≡ None → status_size ≤ length desc
short_none desc true e h = absurd ((cc))
short_none desc false e h = ltb-false (length desc) status_size e

first_none : (a b : Option ℕ) → first_of a b ≡ None → (a ≡ None) × (b ≡ None)
first_none None b h = (refl, h)
first_none (Some n) b h = absurd ((cc))

-- where none is short, all have all registers
pub all_long : (statuses : List Note) → first_short statuses ≡ None → AllLong (descs_of statuses)
all_long [] h i desc at = absurd ((cc))
all_long (note ∷ notes) h zero desc at =
    let n = first_none (short_size note.desc) (first_short notes) h in
    let same : note.desc ≡ desc = (cc) in
    subst (λ (d : List ℕ). status_size ≤ length d) same (short_none note.desc (nat_lt (length note.desc) status_size) refl n.0)
all_long (note ∷ notes) h (suc i) desc at = all_long notes (first_none (short_size note.desc) (first_short notes) h).1 i desc at

-- what is said where one is short, where there are too many, where two are of one process, and else
pub too_short : (statuses : List Note) (size : ℕ) → Some size ≡ first_short statuses → Err (fault.ShortStatus size) ≡ all_registers statuses
too_short [] size e = absurd ((cc))
too_short (note ∷ notes) size e = ap (λ (o : Option ℕ). by_size o (descs_of (note ∷ notes))) e

pub too_many : (statuses : List Note) (count : ℕ) → count ≡ length statuses → first_short statuses ≡ None → most_threads < count → Err (fault.TooManyThreads count) ≡ all_registers statuses
too_many [] count e long many = let n : count ≡ 0 = e in absurd (omega arith)
too_many (note ∷ notes) count e long many =
    let d : length (descs_of (note ∷ notes)) ≡ count = length-descs (note ∷ notes) ∙ sym e in
    let more : nat_lt most_threads (length (descs_of (note ∷ notes))) ≡ true = lt-ltb most_threads (length (descs_of (note ∷ notes))) (omega arith) in
    rw (long, more) (ap (λ (n : ℕ). Err (fault.TooManyThreads n)) (sym d))

few : (note : Note) (notes : List Note) → length (note ∷ notes) ≤ most_threads → nat_lt most_threads (length (descs_of (note ∷ notes))) ≡ false
few note notes h = let d = length-descs (note ∷ notes) in le-ltb most_threads (length (descs_of (note ∷ notes))) (omega arith)

pub two_of_one : (statuses : List Note) (count pid : ℕ) → count ≡ length statuses → count ≢ 0 → first_short statuses ≡ None → count ≤ most_threads → Some pid ≡ first_twin (map pid_of (descs_of statuses)) → Err (fault.SameThread pid) ≡ all_registers statuses
two_of_one [] count pid e some long h twin = absurd (some e)
two_of_one (note ∷ notes) count pid e some long h twin =
    let less = few note notes (omega arith) in
    let t : first_twin (map pid_of (descs_of (note ∷ notes))) ≡ Some pid = sym twin in
    rw (long, less, t) refl

pub each_its_own : (statuses : List Note) (count : ℕ) → count ≡ length statuses → count ≢ 0 → first_short statuses ≡ None → count ≤ most_threads → None ≡ first_twin (map pid_of (descs_of statuses)) → Ok (descs_of statuses) ≡ all_registers statuses
each_its_own [] count e some long h twin = absurd (some e)
each_its_own (note ∷ notes) count e some long h twin =
    let less = few note notes (omega arith) in
    let t : first_twin (map pid_of (descs_of (note ∷ notes))) ≡ None = sym twin in
    rw (long, less, t) refl

-- the one thread of a core file of one
only_thread : (statuses : List Note) (first : List ℕ) → Ok first ≡ only_registers statuses → descs_of statuses ≡ first ∷ []
only_thread [] first e = absurd ((cc))
only_thread (note ∷ []) first e = go (nat_lt (length note.desc) status_size) e where
  go : (b : Bool) → Ok first ≡ (if b then Err (fault.ShortStatus (length note.desc)) else Ok note.desc) → note.desc ∷ [] ≡ first ∷ []
  go true h = absurd ((cc))
  go false h = (cc)
only_thread (note ∷ (other ∷ notes)) first e = absurd ((cc))

pub one_note : (size : ℕ) (ss : List ElfSegment) (first : List ℕ) → SaysRegisters size ss (Ok first) → HaveThreads size ss (first ∷ [])
one_note size ss first (inl a) = let e = a.2 in absurd ((cc))
one_note size ss first (inr a) = (a.0, a.1, sym (only_thread (filter is_status a.0) first a.2))

pub one_thread : (size : ℕ) (ss : List ElfSegment) (first : List ℕ) → SaysRegisters size ss (Ok first) → status_size ≤ length first → AreThreadNotes size ss first 1
one_thread size ss first (inl a) long = let e = a.2 in absurd ((cc))
one_thread size ss first (inr a) long = record {
  descs = first ∷ [];
  have = one_note size ss first (inr a);
  first_is = refl;
  counted = refl;
  long = λ i desc at. one i desc at;
} where
  one : (i : ℕ) (desc : List ℕ) → slice_get (first ∷ []) i ≡ Some desc → status_size ≤ length desc
  one zero desc at = let same : first ≡ desc = (cc) in subst (λ (d : List ℕ). status_size ≤ length d) same long
  one (suc i) desc at = absurd ((cc))

-- a dump's threads, of which it is only told that there are some
pub is_first : (size : ℕ) (ss : List ElfSegment) (first : List ℕ) (count : ℕ) → ∥ AreThreadNotes size ss first count ∥₁ → (descs : List (List ℕ)) → HaveThreads size ss descs → slice_get descs 0 ≡ Some first
is_first size ss first count t descs h = ∥∥₁_elim t (hlevel props) (λ a. subst (λ (ds : List (List ℕ)). slice_get ds 0 ≡ Some first) (same_threads size ss a.descs descs a.have h) a.first_is)

pub found_long : (size : ℕ) (ss : List ElfSegment) (first : List ℕ) (count i : ℕ) (desc : List ℕ) → ∥ AreThreadNotes size ss first count ∥₁ → ((descs : List (List ℕ)) → HaveThreads size ss descs → slice_get descs i ≡ Some desc) → status_size ≤ length desc
found_long size ss first count i desc t found = ∥∥₁_elim t le_prop (λ a. a.long i desc (found a.descs a.have))

pub is_found : (size : ℕ) (ss : List ElfSegment) (first : List ℕ) (count i : ℕ) → ∥ AreThreadNotes size ss first count ∥₁ → i < count → ((descs : List (List ℕ)) → HaveThreads size ss descs → length descs ≤ i) → ⊥
is_found size ss first count i t less past = ∥∥₁_elim t (λ x y. absurd x) (λ a. let p = past a.descs a.have in let n = a.counted in omega arith)

pub not_ok_and_err : (size : ℕ) (ss : List ElfSegment) (descs : List (List ℕ)) (fault : CoreFault) → SaysOfAll size ss (Ok descs) → SaysOfAll size ss (Err fault) → ⊥
not_ok_and_err size ss descs fault a b = let e : Ok descs ≡ Err fault = all_said_once size ss (Ok descs) (Err fault) a b in cc

pub length-pids : (descs : List (List ℕ)) → length (map pid_of descs) ≡ length descs
length-pids [] = refl
length-pids (desc ∷ descs) = let i = length-pids descs in omega arith

pub same_fault : (size : ℕ) (ss : List ElfSegment) (fault fault' : CoreFault) → SaysOfAll size ss (Err fault) → SaysOfAll size ss (Err fault') → fault ≡ fault'
same_fault size ss fault fault' a b = cc (all_said_once size ss (Err fault) (Err fault') a b)
