use Rattle.std.proofs.Common.{IfErr, IfOk}
use Rattle.rept_opening.proofs.ReportLemmas.{in_domain}
use Rattle.rept_found.specs.Crash.{crash_of}
use Rattle.rept_ports.specs.Port.{move}
use Rattle.rept_opening.specs.declared.words.request.Domain.TheVariants as domain
use Rattle.rept_opening.specs.Report.{HasNoReport, IsAsked}
use Rattle.rept_opening.proofs.answering.open_report.Goals as goal

pub returns-in-Ranges-clause-asked : goal.returns-in-Ranges-clause-asked
returns-in-Ranges-clause-asked g c = λ notes are.
    in_domain (λ d p. IfOk c.open_by.result (IsAsked (g.A.Asking.asks c.args.asking.now) p (move (g.S.Source.port c.args.input.now) (g.S.Source.port c.open_by.new.input)) (move (g.K.Sink.port c.args.out.now) (g.K.Sink.port c.open_by.new.out))))
    c.args.domain domain.Ranges (crash_of c.args.dump.now notes) c.args.run.now c.in-Ranges.is (c.open_by.ensures.asked notes are)

pub returns-in-Ranges-clause-refused : goal.returns-in-Ranges-clause-refused
returns-in-Ranges-clause-refused g c = λ notes are. in_domain (λ d p. IfErr c.open_by.result (HasNoReport p)) c.args.domain domain.Ranges (crash_of c.args.dump.now notes) c.args.run.now c.in-Ranges.is (c.open_by.ensures.refused notes are)

pub returns-in-KnownBits-clause-asked : goal.returns-in-KnownBits-clause-asked
returns-in-KnownBits-clause-asked g c = λ notes are.
    in_domain (λ d p. IfOk c.open_by-in-KnownBits.result (IsAsked (g.A.Asking.asks c.args.asking.now) p (move (g.S.Source.port c.args.input.now) (g.S.Source.port c.open_by-in-KnownBits.new.input)) (move (g.K.Sink.port c.args.out.now) (g.K.Sink.port c.open_by-in-KnownBits.new.out))))
    c.args.domain domain.KnownBits (crash_of c.args.dump.now notes) c.args.run.now c.in-KnownBits.is (c.open_by-in-KnownBits.ensures.asked notes are)

pub returns-in-KnownBits-clause-refused : goal.returns-in-KnownBits-clause-refused
returns-in-KnownBits-clause-refused g c = λ notes are. in_domain (λ d p. IfErr c.open_by-in-KnownBits.result (HasNoReport p)) c.args.domain domain.KnownBits (crash_of c.args.dump.now notes) c.args.run.now c.in-KnownBits.is (c.open_by-in-KnownBits.ensures.refused notes are)

pub returns-in-Inferred-clause-asked : goal.returns-in-Inferred-clause-asked
returns-in-Inferred-clause-asked g c = λ notes are.
    in_domain (λ d p. IfOk c.open_beyond.result (IsAsked (g.A.Asking.asks c.args.asking.now) p (move (g.S.Source.port c.args.input.now) (g.S.Source.port c.open_beyond.new.input)) (move (g.K.Sink.port c.args.out.now) (g.K.Sink.port c.open_beyond.new.out))))
    c.args.domain domain.Inferred (crash_of c.args.dump.now notes) c.args.run.now c.in-Inferred.is (c.open_beyond.ensures.asked notes are)

pub returns-in-Inferred-clause-refused : goal.returns-in-Inferred-clause-refused
returns-in-Inferred-clause-refused g c = λ notes are. in_domain (λ d p. IfErr c.open_beyond.result (HasNoReport p)) c.args.domain domain.Inferred (crash_of c.args.dump.now notes) c.args.run.now c.in-Inferred.is (c.open_beyond.ensures.refused notes are)
