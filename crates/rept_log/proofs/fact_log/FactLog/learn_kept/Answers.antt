use Rattle.std.proofs.Common.{◌≡◌, ◌<◌, None, refl, sym, subst, arith}
use Rattle.std.proofs.lemmas.List.{reverse-append}
use Rattle.rept_versions.specs.Facts.{ByteFact, change, AddsFact}
use Rattle.rept_log.specs.Known.{Held}
use Rattle.rept_log.proofs.Indexing.{indexed_store, indexed_byte}
use Rattle.rept_log.proofs.Stores.{learns_more, learns_new}
use Rattle.rept_log.proofs.fact_log.FactLog.learn_kept.Goals as goal

pub invariant_of-self : goal.invariant_of-self
invariant_of-self g c =
    let made = change g.B.ByteFacts.JOINS (g.B.ByteFacts.store c.self.inside.bytes) (g.B.ByteFacts.store c.learn.new.self) in
    let fact : ByteFact = record { point = c.args.point; address = c.args.a; value = c.args.value } in
    indexed_store _ _ _ _ _ _ _ c.self.invariant (g.B.ByteFacts.store c.learn.new.self) (learns_more made fact c.learn.result c.learn.ensures)

pub invariant_of-self-in-Ok : goal.invariant_of-self-in-Ok
invariant_of-self-in-Ok g c =
    let made = change g.B.ByteFacts.JOINS (g.B.ByteFacts.store c.self.inside.bytes) (g.B.ByteFacts.store c.learn.new.self) in
    let fact : ByteFact = record { point = c.args.point; address = c.args.a; value = c.args.value } in
    let none : (g.B.ByteFacts.store c.self.inside.bytes).fact c.args.point c.args.a ≡ None = subst (λ (x : Held g.row.B.Denot). (g.B.ByteFacts.store x.bytes).fact c.args.point c.args.a ≡ None) (sym c.self.view_is) c.requires in
    let added : AddsFact made fact = learns_new made fact c.learn.result c.in-Ok.is c.learn.ensures none in
    let had : 0 < c.self.inside.left = omega arith in
    rw (c.push_reserved.ensures.items, reverse-append, c.push_reserved.ensures.capacity) (indexed_byte _ _ _ _ _ _ _ c.self.invariant c.args.point c.args.a c.args.value (g.B.ByteFacts.store c.learn.new.self) none added.here (learns_more made fact c.learn.result c.learn.ensures) had)

pub returns-in-Ok : goal.returns-in-Ok
returns-in-Ok g c =
    let made = change g.B.ByteFacts.JOINS (g.B.ByteFacts.store c.self.inside.bytes) (g.B.ByteFacts.store c.learn.new.self) in
    let fact : ByteFact = record { point = c.args.point; address = c.args.a; value = c.args.value } in
    let none : (g.B.ByteFacts.store c.self.inside.bytes).fact c.args.point c.args.a ≡ None = subst (λ (x : Held g.row.B.Denot). (g.B.ByteFacts.store x.bytes).fact c.args.point c.args.a ≡ None) (sym c.self.view_is) c.requires in
    let added : AddsFact made fact = learns_new made fact c.learn.result c.in-Ok.is c.learn.ensures none in
    let had : 0 < c.self.inside.left = omega arith in
    rw (← c.self.view_is, c.push_reserved.ensures.items, reverse-append) (record { last = refl; log = refl; left = refl; had_room = λ k. had; store = added })
