use Rattle.std.proofs.Common.{◌≡◌, map, string_bytes, List, [], ℕ, IfSome, None, Result, Ok, Err, sym, ap, subst}
use Rattle.std.specs.Result.{result_map_both}
use Rattle.rept_ports.specs.Port.{move}
use Rattle.rept_ports.specs.declared.arguments.Unreadable.{Unreadable}
use Rattle.rept_opening.specs.Delivered.{Delivers}
use Rattle.rept_app.specs.Promise.{Promise}
use Rattle.rept_app.specs.Told.{CallWrites, call_input}
use Rattle.rept_app.specs.Top.{EndsByFiles, FileStoreCauses}
use Rattle.rept_opening.specs.Loading.{FaultsEnd}
use Rattle.rept_opening.specs.declared.status.ExitStatus.TheVariants as ends
use Rattle.rept_opening.specs.Words.Words.{meaning_of}
use Rattle.rept_app.specs.Process.Process.{words_read}
use Rattle.rept_app.proofs.process.status_on.Goals as goal

-- what holds on the words that were read
on_words : (read : Result (List (List ℕ)) Unreadable) (words passed : List (List ℕ)) (P : List (List ℕ) → Type 0) → read ≡ Ok words → passed ≡ words → P passed → P (words_read read)
on_words read words passed P is same h = subst (λ (r : Result (List (List ℕ)) Unreadable). P (words_read r)) (sym is) (subst P same h)

on_none : (read : Result (List (List ℕ)) Unreadable) (why : Unreadable) (P : List (List ℕ) → Type 0) → read ≡ Err why → P [] → P (words_read read)
on_none read why P is h = subst (λ (r : Result (List (List ℕ)) Unreadable). P (words_read r)) (sym is) h

pub returns-in-Ok-clause-promise : goal.returns-in-Ok-clause-promise
returns-in-Ok-clause-promise g c read =
    let file_store = move (g.H.FileStore.port c.args.file_store.now) (g.H.FileStore.port c.rept.new.file_store) in
    let source = move (g.S.Source.port c.args.input.now) (g.S.Source.port c.rept.new.input) in
    let sink = move (g.K.Sink.port c.args.out.now) (g.K.Sink.port c.rept.new.out) in
    on_words _ (map string_bytes c.in-Ok.words.items) (map string_bytes c.as_slice.result.now) (λ (ws : List (List ℕ)). IfSome file_store.before.files (λ files. IfSome source.before.bytes (λ left. Promise (call_input ws files file_store (record { input = left; left = source.after.bytes })) sink c.rept.result)))
    (ap (result_map_both (λ v. map string_bytes v.items) (λ e. e)) c.in-Ok.is) (ap (map string_bytes) c.as_slice.ensures.value) c.rept.ensures.promise

pub returns-in-Ok-clause-once : goal.returns-in-Ok-clause-once
returns-in-Ok-clause-once g c =
    let file_store = move (g.H.FileStore.port c.args.file_store.now) (g.H.FileStore.port c.rept.new.file_store) in
    on_words _ (map string_bytes c.in-Ok.words.items) (map string_bytes c.as_slice.result.now) (λ (ws : List (List ℕ)). FaultsEnd (meaning_of ws) file_store.before.files → FileStoreCauses file_store c.rept.result)
    (ap (result_map_both (λ v. map string_bytes v.items) (λ e. e)) c.in-Ok.is) (ap (map string_bytes) c.as_slice.ensures.value) c.rept.ensures.once

pub returns-in-Ok-clause-usage : goal.returns-in-Ok-clause-usage
returns-in-Ok-clause-usage g c =
    on_words _ (map string_bytes c.in-Ok.words.items) (map string_bytes c.as_slice.result.now) (λ (ws : List (List ℕ)). c.rept.result ≡ ends.Usage → meaning_of ws ≡ None)
    (ap (result_map_both (λ v. map string_bytes v.items) (λ e. e)) c.in-Ok.is) (ap (map string_bytes) c.as_slice.ensures.value) c.rept.ensures.usage

pub returns-in-Ok-clause-files : goal.returns-in-Ok-clause-files
returns-in-Ok-clause-files g c read =
    let file_store = move (g.H.FileStore.port c.args.file_store.now) (g.H.FileStore.port c.rept.new.file_store) in
    on_words _ (map string_bytes c.in-Ok.words.items) (map string_bytes c.as_slice.result.now) (λ (ws : List (List ℕ)). IfSome file_store.before.files (λ files. EndsByFiles ws files c.rept.result))
    (ap (result_map_both (λ v. map string_bytes v.items) (λ e. e)) c.in-Ok.is) (ap (map string_bytes) c.as_slice.ensures.value) c.rept.ensures.files

pub returns-in-Ok-clause-text : goal.returns-in-Ok-clause-text
returns-in-Ok-clause-text g c read =
    let file_store = move (g.H.FileStore.port c.args.file_store.now) (g.H.FileStore.port c.rept.new.file_store) in
    let source = move (g.S.Source.port c.args.input.now) (g.S.Source.port c.rept.new.input) in
    let sink = move (g.K.Sink.port c.args.out.now) (g.K.Sink.port c.rept.new.out) in
    on_words _ (map string_bytes c.in-Ok.words.items) (map string_bytes c.as_slice.result.now) (λ (ws : List (List ℕ)). IfSome file_store.before.files (λ files. IfSome source.before.bytes (λ left. Delivers (CallWrites (call_input ws files file_store (record { input = left; left = source.after.bytes }))) sink c.rept.result)))
    (ap (result_map_both (λ v. map string_bytes v.items) (λ e. e)) c.in-Ok.is) (ap (map string_bytes) c.as_slice.ensures.value) c.rept.ensures.text

pub returns-in-Err-NotText-clause-promise : goal.returns-in-Err-NotText-clause-promise
returns-in-Err-NotText-clause-promise g c read =
    let file_store = move (g.H.FileStore.port c.args.file_store.now) (g.H.FileStore.port c.rept-in-Err-NotText.new.file_store) in
    let source = move (g.S.Source.port c.args.input.now) (g.S.Source.port c.rept-in-Err-NotText.new.input) in
    let sink = move (g.K.Sink.port c.args.out.now) (g.K.Sink.port c.rept-in-Err-NotText.new.out) in
    on_none _ _ (λ (ws : List (List ℕ)). IfSome file_store.before.files (λ files. IfSome source.before.bytes (λ left. Promise (call_input ws files file_store (record { input = left; left = source.after.bytes })) sink c.rept-in-Err-NotText.result)))
    (ap (result_map_both (λ v. map string_bytes v.items) (λ e. e)) c.in-Err-NotText.is) c.rept-in-Err-NotText.ensures.promise

pub returns-in-Err-NotText-clause-once : goal.returns-in-Err-NotText-clause-once
returns-in-Err-NotText-clause-once g c =
    let file_store = move (g.H.FileStore.port c.args.file_store.now) (g.H.FileStore.port c.rept-in-Err-NotText.new.file_store) in
    on_none _ _ (λ (ws : List (List ℕ)). FaultsEnd (meaning_of ws) file_store.before.files → FileStoreCauses file_store c.rept-in-Err-NotText.result)
    (ap (result_map_both (λ v. map string_bytes v.items) (λ e. e)) c.in-Err-NotText.is) c.rept-in-Err-NotText.ensures.once

pub returns-in-Err-NotText-clause-usage : goal.returns-in-Err-NotText-clause-usage
returns-in-Err-NotText-clause-usage g c =
    on_none _ _ (λ (ws : List (List ℕ)). c.rept-in-Err-NotText.result ≡ ends.Usage → meaning_of ws ≡ None)
    (ap (result_map_both (λ v. map string_bytes v.items) (λ e. e)) c.in-Err-NotText.is) c.rept-in-Err-NotText.ensures.usage

pub returns-in-Err-NotText-clause-files : goal.returns-in-Err-NotText-clause-files
returns-in-Err-NotText-clause-files g c read =
    let file_store = move (g.H.FileStore.port c.args.file_store.now) (g.H.FileStore.port c.rept-in-Err-NotText.new.file_store) in
    on_none _ _ (λ (ws : List (List ℕ)). IfSome file_store.before.files (λ files. EndsByFiles ws files c.rept-in-Err-NotText.result))
    (ap (result_map_both (λ v. map string_bytes v.items) (λ e. e)) c.in-Err-NotText.is) c.rept-in-Err-NotText.ensures.files

pub returns-in-Err-NotText-clause-text : goal.returns-in-Err-NotText-clause-text
returns-in-Err-NotText-clause-text g c read =
    let file_store = move (g.H.FileStore.port c.args.file_store.now) (g.H.FileStore.port c.rept-in-Err-NotText.new.file_store) in
    let source = move (g.S.Source.port c.args.input.now) (g.S.Source.port c.rept-in-Err-NotText.new.input) in
    let sink = move (g.K.Sink.port c.args.out.now) (g.K.Sink.port c.rept-in-Err-NotText.new.out) in
    on_none _ _ (λ (ws : List (List ℕ)). IfSome file_store.before.files (λ files. IfSome source.before.bytes (λ left. Delivers (CallWrites (call_input ws files file_store (record { input = left; left = source.after.bytes }))) sink c.rept-in-Err-NotText.result)))
    (ap (result_map_both (λ v. map string_bytes v.items) (λ e. e)) c.in-Err-NotText.is) c.rept-in-Err-NotText.ensures.text
