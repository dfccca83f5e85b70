use Rattle.std.proofs.Common.{ap, ◌∙◌, cond}
use Rattle.std.specs.Prelude.{Some}
use Rattle.std.specs.Str.{bytes_eq}
use Rattle.rept_ports.specs.FileList.{file_in}
use Rattle.rept_ports.proofs.FileLemmas.{file_in-put}
use Rattle.rept_ports.proofs.file_store.InfallibleFileStore.put.Goals as goal

pub returns-clause-ok : goal.returns-clause-ok
returns-clause-ok c = λ q.
    file_in-put c.in_ok-name.name c.args.name.now c.in_ok-bytes.bytes c.args.bytes.now c.self.inside.files c.insert.new.self c.in_ok-name.ensures.ok
    c.in_ok-bytes.ensures.items c.in_ok-insert.ensures.updates q
    ∙ ap (λ s. cond (bytes_eq c.args.name.now q) (Some c.args.bytes.now) (file_in s.files q)) c.self.view_is
