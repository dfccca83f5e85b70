-- What the files that a core file lists come to.
use Rattle.std.proofs.Common.{◌≡◌, ◌⊎◌, ℕ, zero, suc, ◌+◌, ◌-◌, ◌<◌, ◌≤◌, List, [], ◌∷◌, length, map, min, Bool, true, false, ◌&&◌, cond, get_or, nat_le, Option, None, Some, IfErr, IfSome, MatchOption, Result, Err, refl, sym, ap, subst, ◌∙◌, arith}
use Rattle.std.specs.Prelude.{slice_get, MatchBool}
use Rattle.std.specs.Option.{option_and_then, option_map}
use Rattle.std.proofs.lemmas.Option.{slice_get-get_or, slice_get-map}
use Rattle.std.proofs.lemmas.List.{length-map}
use Rattle.rept_elf.specs.Segments.{segments}
use Rattle.rept_elf.specs.declared.fault.ElfFault.{ElfFault}
use Rattle.rept_dump.specs.Program.Program.{MappedFiles}
use Rattle.rept_dump.specs.Dump.{AreRead, AreReadOfAll}
use Rattle.rept_dump.specs.declared.dump.Dump.{Dump}
use Rattle.rept_dump.specs.declared.fault.CoreFault.{CoreFault}
use Rattle.rept_found.specs.Crash.{Crash}
use Rattle.rept_maps.specs.declared.fault.MapFault.{MapFault}
use Rattle.rept_elf.specs.Image.{file_of}
use Rattle.rept_elf.specs.declared.image.Image.{Image}
use Rattle.rept_maps.specs.FileMap.{entry_at, entry_named}
use Rattle.rept_maps.specs.Mapped.Mapped.{Mapping, mapping_by, mappings, mappings_from}
use Rattle.rept_maps.specs.Mapfiles.Kept.{as_image, asked_names, image_at, is_image, kept_all, kept_at, kept_by, kept_in, most_bytes, most_in_all, names_of, place_in, taken}
use Rattle.rept_ports.specs.Shelves.{Files}
use Rattle.rept_streams.specs.Runs.Kind.{is_several}
use Rattle.rept_opening.specs.Forms.{core_image_fault, crash_in}
use Rattle.rept_opening.specs.Loading.{CoreBytes, parts_bytes}
use Rattle.rept_opening.specs.Mapped.{ListSays, kept_of, mapped_files, mapped_part, parts_from}
use Rattle.rept_opening.specs.Reading.{HasNoCrash, NotesRefuse}
use Rattle.rept_opening.specs.Opened.{crash_trace, trace_in}
use Rattle.rept_opening.specs.declared.refusal.Refusal.TheVariants as refusal
use Rattle.rept_opening.proofs.Notes.{AreNoted, AreSaid, noted_by}

-- the crash of mapped files
parts_crash : (crash : Crash) (ms : List Mapping) (core : List ℕ) → crash.exe ≡ MappedFiles ms → crash.core ≡ segments core → crash ≡ crash_in (MappedFiles ms) core crash.notes
parts_crash crash ms core e k =
    ap (λ x. record { exe = x; core = crash.core; notes = crash.notes }) e ∙ ap (λ x. record { exe = MappedFiles ms; core = x; notes = crash.notes }) k

pub parts_trace : (crash : Crash) (ms : List Mapping) (c : CoreBytes) (trace : List ℕ) → crash.exe ≡ MappedFiles ms → crash.core ≡ segments c.core → trace ≡ c.trace → crash_trace crash trace c.manner ≡ trace_in (parts_bytes ms c) crash.notes
parts_trace crash ms c trace e k t =
    ap (λ (x : Crash). crash_trace x trace c.manner) (parts_crash crash ms c.core e k) ∙ ap (λ (x : List ℕ). crash_trace (crash_in (MappedFiles ms) c.core crash.notes) x c.manner) t

-- the kind of a trace is that of the slice of it
pub kind_is : (many : Bool) (slice trace : List ℕ) → many ≡ is_several slice → slice ≡ trace → many ≡ is_several trace
kind_is many slice trace e t = e ∙ ap is_several t

-- what was read of the notes, as the trace asks for it
pub parts_noted : (c : CoreBytes) (many : Bool) (r : Result Dump CoreFault) → many ≡ is_several c.trace → MatchBool many (AreReadOfAll (length c.core) (segments c.core) r) (AreRead (length c.core) (segments c.core) r) → AreNoted (is_several c.trace) c.core r
parts_noted c many r e h = subst (λ (b : Bool). AreNoted b c.core r) e (noted_by c.core many r h)

pub parts_refused : (ms : List Mapping) (c : CoreBytes) (f : CoreFault) → core_image_fault c.core ≡ None → AreSaid (is_several c.trace) c.core (Err f) → HasNoCrash (is_several c.trace) (parts_bytes ms c) (refusal.Core f)
parts_refused ms c f accepted says =
    let P : Option ElfFault → Type 0 = λ o. MatchOption o (NotesRefuse (is_several c.trace) c.core (refusal.Core f)) (λ g. refusal.Core f ≡ refusal.CoreImage g) in
    subst P (sym accepted) (f, says.said, says.only, refl)

-- what the list of the bytes says that an image borrows
pub list_at : (bytes core : List ℕ) (said : Result (List ℕ) MapFault) → bytes ≡ core → ListSays bytes said → ListSays core said
list_at bytes core said e h = subst (λ b. ListSays b said) e h

pub list_only_at : (bytes core : List ℕ) (here : Result (List ℕ) MapFault) → bytes ≡ core → ((said : Result (List ℕ) MapFault) → ListSays bytes said → said ≡ here) → (said : Result (List ℕ) MapFault) → ListSays core said → said ≡ here
list_only_at bytes core here e only said h = only said (subst (λ b. ListSays b said) (sym e) h)

-- what a file note's entries map
entries_by : List ℕ → ℕ → List (Option (List ℕ)) → List Mapping
entries_by desc i [] = []
entries_by desc i (f ∷ fs) = mapped_part (entry_at desc i) f ∷ entries_by desc (i + 1) fs

by_bytes : (desc : List ℕ) (i : ℕ) (images : List (Option Image)) → mappings_from desc i images ≡ entries_by desc i (map (option_map file_of) images)
unfolding entries_by
by_bytes desc i [] = refl
by_bytes desc i (image ∷ images) = ap (λ rest. mapping_by (entry_at desc i) image ∷ rest) (by_bytes desc (i + 1) images)

by_names : (k : List ℕ → Option (List ℕ)) (desc : List ℕ) (i : ℕ) (ns : List (List ℕ)) → entries_by desc i (map k ns) ≡ parts_from k desc i ns
unfolding entries_by
by_names k desc i [] = refl
by_names k desc i (n ∷ ns) = ap (λ rest. mapped_part (entry_named desc i n) (k n) ∷ rest) (by_names k desc (i + 1) ns)

same_parts : (k l : List ℕ → Option (List ℕ)) → ((n : List ℕ) → k n ≡ l n) → (desc : List ℕ) (i : ℕ) (ns : List (List ℕ)) → parts_from k desc i ns ≡ parts_from l desc i ns
same_parts k l h desc i [] = refl
same_parts k l h desc i (n ∷ ns) =
    ap (λ f. mapped_part (entry_named desc i n) f ∷ parts_from k desc (i + 1) ns) (h n) ∙ ap (λ rest. mapped_part (entry_named desc i n) (l n) ∷ rest) (same_parts k l h desc (i + 1) ns)

-- what is kept has an image
by_tests : (bytes : List ℕ) (within image : Bool) → is_image bytes ≡ image → option_and_then as_image (cond (within && image) (Some bytes) None) ≡ cond (within && image) (Some bytes) None
by_tests bytes true true e = ap (λ (b : Bool). cond b (Some bytes) None) e
by_tests bytes true false e = refl
by_tests bytes false image e = refl

one_image : (limit : ℕ) (o : Option (List ℕ)) → option_and_then as_image (option_and_then (λ bytes. cond (nat_le (length bytes) limit && is_image bytes) (Some bytes) None) o) ≡ option_and_then (λ bytes. cond (nat_le (length bytes) limit && is_image bytes) (Some bytes) None) o
one_image limit None = refl
one_image limit (Some bytes) = by_tests bytes (nat_le (length bytes) limit) (is_image bytes) refl

kept_images : (files : Files) (room : ℕ) (names : List (List ℕ)) (place : ℕ) → option_and_then as_image (kept_in (kept_all files room names) place) ≡ kept_in (kept_all files room names) place
kept_images files room [] place = refl
kept_images files room (n ∷ ns) zero = one_image (min most_bytes room) (files n)
kept_images files room (n ∷ ns) (suc place) = kept_images files (room - taken (kept_by files (min most_bytes room) n)) ns place

image_kept : (files : Files) (names : List (List ℕ)) (n : List ℕ) → image_at names (kept_all files most_in_all names) n ≡ kept_at names (kept_all files most_in_all names) n
image_kept files names n = at (place_in names n)
  where
    at : (o : Option ℕ) → option_and_then as_image (option_and_then (kept_in (kept_all files most_in_all names)) o) ≡ option_and_then (kept_in (kept_all files most_in_all names)) o
    at None = refl
    at (Some place) = kept_images files most_in_all names place

-- the program of the images is that of the file note
pub program_is : (files : Files) (desc : List ℕ) (names : List (List ℕ)) (kept : List (Option (List ℕ))) (images : List (Option Image)) → names ≡ asked_names desc → kept ≡ kept_all files most_in_all names
    → map (option_map file_of) images ≡ map (image_at names kept) (names_of desc) → mappings desc images ≡ mapped_files files desc
program_is files desc names kept images asked held same =
    let asked_kept : kept ≡ kept_all files most_in_all (asked_names desc) = held ∙ ap (kept_all files most_in_all) asked in
    let here : map (option_map file_of) images ≡ map (image_at (asked_names desc) (kept_all files most_in_all (asked_names desc))) (names_of desc) =
    same ∙ ap (λ ns. map (image_at ns kept) (names_of desc)) asked ∙ ap (λ k. map (image_at (asked_names desc) k) (names_of desc)) asked_kept in
    by_bytes desc 0 images ∙ ap (entries_by desc 0) here ∙ by_names (image_at (asked_names desc) (kept_all files most_in_all (asked_names desc))) desc 0 (names_of desc)
    ∙ same_parts (image_at (asked_names desc) (kept_all files most_in_all (asked_names desc))) (kept_of files desc) (image_kept files (asked_names desc)) desc 0 (names_of desc)

-- the name at a place
pub named_at : {A : Type 0} (f : A → List ℕ) (names : List A) (asked : List (List ℕ)) (place : ℕ) (name : A) → map f names ≡ asked → place < length names → name ≡ get_or names place name → slice_get asked place ≡ Some (f name)
named_at {A} f names asked place name e within is =
    let at : slice_get names place ≡ Some name = slice_get-get_or names place name within ∙ ap (λ (x : A). Some x) (sym is) in
    ap (λ (ns : List (List ℕ)). slice_get ns place) (sym e) ∙ slice_get-map f names place ∙ ap (option_map f) at

-- how many names there are
pub count_is : {A : Type 0} (f : A → List ℕ) (names : List A) (asked : List (List ℕ)) → map f names ≡ asked → length names ≡ length asked
count_is f names asked e = sym (length-map names f) ∙ ap length e

-- what is said of a call that answered with this error
pub err_at : {T E : Type 0} (r : Result T E) (e f : E) (P : E → Type 0) → r ≡ Err e → e ≡ f → IfErr r P → P f
err_at {T} {E} r e f P is same h =
    let here : P e = subst (λ (x : Result T E). IfErr x P) is h in
    subst P same here

-- no fault more
pub same_count : (o : Option Files) (n : ℕ) → IfSome o (λ _. n ≤ n + 1)
same_count None n = tt
same_count (Some files) n = omega arith

-- how many of the names
pub within_names : (count names asked : ℕ) → count ≤ names → names ≡ asked → count ≤ asked
within_names count names asked h e = omega (arith, h, e)

-- what follows where the files are told
pub over_files : (o : Option Files) (P Q : Files → Type 0) → ((files : Files) → P files → Q files) → IfSome o P → IfSome o Q
over_files None P Q h k = tt
over_files (Some files) P Q h k = h files k
