use Rattle.std.proofs.Common.{ℕ, ◌++◌, List, codes, ap, ◌∙◌, append_assoc}
use Rattle.rept_word.specs.Hex.{hex_word}
use Rattle.rept_questions.proofs.lost.push_lacked_address.Goals as goal

pub returns : goal.returns
returns c =
    let a = c.args.address in
    c.in_ok-push_word.ensures.ok ∙ ap (λ (t : List ℕ). t ++ hex_word a) c.in_ok-push.ensures.ok ∙ append_assoc c.args.text.now (codes " lacks ") (hex_word a)
