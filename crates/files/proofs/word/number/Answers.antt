-- Digit by digit.
use Rattle.std.proofs.Common.{◌≡◌, ◌+◌, length, sym, ◌∙◌, ap, arith, rules, tests}
use Rattle.files.specs.Words.{with_digit}
use Rattle.files.proofs.Numbers.{between, room, read_end}
use Rattle.files.proofs.word.number.Goals as goal

pub try_fold-requires-clause-callable : goal.try_fold-requires-clause-callable
try_fold-requires-clause-callable c =
    record { at = λ xs t q x u y folds step. let read = between _ (λ p x q turn. let e : turn.0 ≡ with_digit p.1 x.now = search (rules, tests) in sym e ∙ turn.2) xs _ t _ q 0 (omega arith) y folds in room c.args.digits q.1 (0 + length xs) read.small (omega (arith, read.long, ap length step, ap length c.iter.ensures.rest)) }

pub returns : goal.returns
returns c =
    let ran = c.try_fold.ensures.ran in
    let read = between _ (λ p x q turn. let e : turn.0 ≡ with_digit p.1 x.now = search (rules, tests) in sym e ∙ turn.2) ran.0 _ ran.4.0 _ (ran.2, ran.3) 0 (omega arith) ran.4.1 ran.5 in
    let end = read_end c.args.digits c.args.token.now (omega arith) c.iter.result ran.4.0 c.try_fold.new.self ran.3 (length ran.0) c.try_fold.result c.iter.ensures.rest read ran.1 ran.4.2 ran.6 (λ x stopped. let e : stopped.0 ≡ with_digit ran.3 x.now = search (rules, tests) in (sym e ∙ stopped.4, stopped.5)) in
    record { value = end.0; bound = end.1 }
