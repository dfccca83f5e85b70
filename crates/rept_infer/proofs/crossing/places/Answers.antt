use Rattle.rept_infer.proofs.Listing.{place_more}
use Rattle.rept_infer.proofs.crossing.places.Goals as goal

pub loop-k-preserved : goal.loop-k-preserved
loop-k-preserved c = place_more c.loop-k.list.items c.push.new.self.items c.args.place c.loop-k.k c.in_ok-push.ensures.items c.loop-k.invariant
