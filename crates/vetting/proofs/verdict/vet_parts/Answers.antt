use Rattle.vetting.proofs.Vetting.{main_refused, handler_refused}
use Rattle.vetting.proofs.verdict.vet_parts.Goals as goal

pub returns-in_err-judge : goal.returns-in_err-judge
returns-in_err-judge c = main_refused _ _ _ c.main-main.ensures _ _ c.from_residual.ensures.1 c.in_err-judge.ensures

pub returns-in_err-judge-2 : goal.returns-in_err-judge-2
returns-in_err-judge-2 c =
    handler_refused _ _ _ c.main-main.ensures c.in_ok-judge.ensures c.if-not-enables_interrupts.ensures _ c.handler-handler.ensures
    _ _ c.from_residual-in_err-judge-2.ensures.1 c.in_err-judge-2.ensures
