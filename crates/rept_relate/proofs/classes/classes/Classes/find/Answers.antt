use Rattle.std.proofs.Common.{refl, ◌∙◌, arith}
use Rattle.rept_relate.proofs.ClassesLemmas.Changing.{further, same_itself, same_then}
use Rattle.rept_relate.proofs.classes.classes.Classes.find.Goals as goal

pub loop-self-init : goal.loop-self-init
loop-self-init c = record {
  len = refl;
  lower = omega arith;
  alike = λ value valued. refl;
  same = same_itself c.args.self.now;
  roots = λ y r. r;
}

pub loop-self-preserved : goal.loop-self-preserved
loop-self-preserved c =
    let i = c.loop-self.invariant in
    let s = c.shorten-up.ensures in
    record {
      len = s.len ∙ i.len;
      lower = let l = s.lower in let m = i.lower in omega (arith, l, m);
      alike = λ value valued. further (value c.loop-self.at.node) (value c.shorten-up.result.node) c.shorten-up.result.offset c.loop-self.at.offset (s.alike value (i.same.onward value valued)) ∙ i.alike value valued;
      same = same_then c.args.self.now c.loop-self.self c.shorten-up.new.self i.same s.same;
      roots = λ y r. s.roots y (i.roots y r);
    }
