use Rattle.rept_infer.proofs.relating.row_access.Goals as goal

pub returns-in-Ecall : goal.returns-in-Ecall
returns-in-Ecall c = λ story run image at h call a writes. c.call_access.ensures story run c.args.row.now a image at call h writes
