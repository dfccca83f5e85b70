use Rattle.rept_debug.proofs.dialog.conversation.converse.Goals as goal

pub returns : goal.returns
returns g c = record {
  talk = c.go_on.ensures.talk (g.S.Source.port c.args.input.now) (g.K.Sink.port c.args.out.now) c.greet-greeting.ensures;
}
