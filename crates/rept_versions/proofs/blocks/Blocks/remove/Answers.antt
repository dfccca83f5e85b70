use Rattle.std.proofs.Common.{◌≡◌, suc, ◌+◌, ◌-◌, ◌*◌, ◌/◌, ◌%◌, ◌<◌, ◌≤◌, length, sym, ap, ◌∙◌, arith}
use Rattle.std.specs.List.{insert, remove}
use Rattle.std.proofs.lemmas.List.Edits.{length-remove}
use Rattle.rept_versions.proofs.BlockRow.{insert_removed, remove_inserted}
use Rattle.rept_versions.proofs.blocks.Blocks.remove.Goals as goal

pub loop-k-init : goal.loop-k-init
loop-k-init c =
    let spans = c.args.self.now.spans in
    let len : c.self.inside.len ≡ length spans = c.self.invariant.len ∙ ap (λ l. length l.spans) c.self.view_is in
    let lt : (c.self.inside.len - 1) / 2048 * 2048 < length spans = omega (arith, len, c.requires) in
    let rest : c.remove_last-2.new.self.spans ≡ remove spans ((c.self.inside.len - 1) / 2048 * 2048) = c.remove_last-2.ensures.spans ∙ ap (λ n. remove spans n) (omega arith) in
    record {
      spans = ap (λ l. insert l ((c.self.inside.len - 1) / 2048 * 2048) c.at-moved.result) rest ∙ (ap (λ x. insert (remove spans ((c.self.inside.len - 1) / 2048 * 2048)) ((c.self.inside.len - 1) / 2048 * 2048) x) c.at-moved.ensures ∙ insert_removed spans ((c.self.inside.len - 1) / 2048 * 2048) lt);
      len = omega (arith, ap length rest, length-remove spans ((c.self.inside.len - 1) / 2048 * 2048) lt);
      room = c.remove_last-2.ensures.room;
      within = omega (arith, len, c.requires, c.if-j-last.false);
      at = omega (arith, len, ap length rest, length-remove spans ((c.self.inside.len - 1) / 2048 * 2048) lt, c.requires);
    }

pub returns-clause-spans : goal.returns-clause-spans
returns-clause-spans c =
    let new = c.pull_through-gone.new.self.spans in
    let x = c.pull_through-gone.result in
    let le : c.args.i ≤ length new = omega (arith, c.requires, c.loop-k.invariant.len, c.pull_through-gone.ensures.len) in
    let next : suc (c.args.i / 2048) * 2048 ≡ c.loop-k.k * 2048 = omega (arith, c.loop-k.invariant.within, c.loop-k-test.false) in
    let whole : insert new (c.args.i / 2048 * 2048 + c.args.i % 2048) x ≡ c.args.self.now.spans = c.pull_through-gone.ensures.spans ∙ (ap (λ n. insert c.loop-k.self.spans n c.loop-k.moved) next ∙ c.loop-k.invariant.spans) in
    sym (remove_inserted new c.args.i x le) ∙ (ap (λ n. remove (insert new n x) c.args.i) (omega arith) ∙ ap (λ l. remove l c.args.i) whole)
