use Rattle.std.proofs.Common.{◌≡◌, ◌∙◌, [], sym, ap, map, string_bytes, subst, inl, inr}
use Rattle.std.specs.Prelude.{◌⊎◌}
use Rattle.clap.specs.Words.{subcommand_of, fault_of, is_simple, is_simple_and_free, IsAmong, kind_of, Kinds}
use Rattle.clap.specs.declared.error.kind.ErrorKind.{ErrorKind}
use Rattle.clap.specs.declared.error.kind.ErrorKind.TheVariants.{OutOfMemory}
use Rattle.rept_opening.specs.Words.CommandLine.{rept_app}
use Rattle.rept_opening.specs.Words.Found.{found_meaning}
use Rattle.rept_opening.proofs.WordsLemmas.Walks.{screened, screened_meaning, unscreened, simple, free}
use Rattle.rept_opening.proofs.words.reading.meaning.Goals as goal

pub returns-then-not-is_screened : goal.returns-then-not-is_screened
returns-then-not-is_screened c = sym (unscreened (map string_bytes c.args.words.now) (sym c.is_screened.ensures ∙ c.if-not-is_screened.true))

pub returns-in-Ok : goal.returns-in-Ok
returns-in-Ok c =
    let words = map string_bytes c.args.words.now in
    let app = c.in_ok-rept_command.ensures in
    let right = sym c.is_screened.ensures ∙ c.if-not-is_screened.false in
    let screen = screened words right in
    let none : fault_of rept_app words ≡ [] = subst (λ a. fault_of a words ≡ []) app (c.in-Ok.ensures.kinds (ap is_simple_and_free app ∙ free)) in
    let found = (c.in-Ok.ensures.matches (ap is_simple app ∙ simple)).1 in
    c.asked.ensures ∙ ap found_meaning (found ∙ ap (λ a. subcommand_of a words) app) ∙ screen.takes_them none ∙ sym (screened_meaning words right)

-- a kind that is among these, or else the one that is not there
among : (k : ErrorKind) (ks : Kinds) → (k ≡ OutOfMemory → ⊥) → (k ≡ OutOfMemory) ⊎ IsAmong k ks → ks ≡ [] → ⊥
among k ks no_memory (inl h) e = no_memory h
among k ks no_memory (inr h) e = subst (IsAmong k) e h

pub returns-else-eq : goal.returns-else-eq
returns-else-eq c =
    let words = map string_bytes c.args.words.now in
    let app = c.in_ok-rept_command.ensures in
    let right = sym c.is_screened.ensures ∙ c.if-not-is_screened.false in
    let screen = screened words right in
    let other : kind_of c.in-Err.error ≡ OutOfMemory → ⊥ = λ h. let k : c.kind.result ≡ OutOfMemory = c.kind.ensures ∙ h in let f = rw k at c.if-eq.ensures in cc in
    sym (screened_meaning words right ∙ screen.refuses (λ e. among (kind_of c.in-Err.error) _ other (c.in-Err.ensures.kinds (ap is_simple_and_free app ∙ free)) (ap (λ a. fault_of a words) app ∙ e)))
