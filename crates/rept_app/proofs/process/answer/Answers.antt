use Rattle.std.proofs.Common.{◌≡◌, map, string_bytes, Result, Ok, Err}
use Rattle.std.specs.Result.{result_map_both}
use Rattle.rept_ports.specs.declared.arguments.Unreadable.TheVariants.{OutOfMemory}
use Rattle.rept_app.proofs.process.answer.Goals as goal

-- words that aren't read have the same cause, whatever is made of those that are
same_cause : {T U E : Type 0} (f : T → U) (r : Result T E) (why : E) → result_map_both f (λ e. e) r ≡ Err why → r ≡ Err why
same_cause f (Ok x) why h = let no : ⊥ = cc in absurd no
same_cause f (Err e) why h = let same : e ≡ why = cc in cc

pub returns : goal.returns
returns g c =
    let ends = c.status_on.ensures in (
      c.status_on.result,
      c.exit_code.ensures,
      record {
        promise = ends.promise;
        causes = ends.causes;
        once = ends.once;
        usage = ends.usage;
        files = ends.files;
        text = ends.text;
        memory = λ unread. ends.memory (same_cause (λ v. map string_bytes v.items) c.args.words OutOfMemory unread);
      },
    )
