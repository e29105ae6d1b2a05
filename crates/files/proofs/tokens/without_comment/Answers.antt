use Rattle.std.proofs.Common.{rules, tests}
use Rattle.std.proofs.lemmas.Iterator.Search.{position_from_yields_List}
use Rattle.files.proofs.Comments.{two_slashes, YieldsList-from_windows, comment_cut}
use Rattle.files.proofs.tokens.without_comment.Goals as goal

pub returns : goal.returns
returns c =
    rw c.unwrap_or-end.ensures (comment_cut _ c.position.result (position_from_yields_List two_slashes _ _ c.position.result c.position.ensures.ran (YieldsList-from_windows c.args.line.now c.windows.ensures.rest c.windows.ensures.size) (λ x b q k. search (rules, tests))))
