-- Line by line.
use Rattle.std.proofs.Common.{◌≡◌, map, None, rules, tests, of_calls, sym, refl, ap, ◌∙◌}
use denote.Param.Always.{mut_by}
use Rattle.std.specs.Slice.Iter.{split_callee}
use Rattle.std.specs.Iterator.Adapters.{enumerate_source}
use Rattle.std.proofs.lemmas.Iterator.Consumers.{YieldsList-at, YieldsList-from_enumerate, YieldsList-end}
use Rattle.std.proofs.lemmas.Iterator.Splits.{YieldsList-from_slice_split}
use Rattle.std.proofs.lemmas.Result.{err_from_is_err_and}
use Rattle.files.specs.Texts.{Token, ends_line, tokens_of}
use Rattle.files.proofs.Collecting.{in_hand, text_fault}
use Rattle.files.proofs.reader.read.Goals as goal

-- the function may be called at each byte
pub loop-index-init-derived : goal.loop-index-init-derived
loop-index-init-derived g c =
    let source = ap enumerate_source c.into_iter-index-iterator.ensures.into_iter_gives ∙ c.enumerate-index-items.ensures.source in
    let ends = ap split_callee source ∙ c.split.ensures.closure in
    ((mut_by _ (λ s. s ≡ split_callee (enumerate_source c.into_iter-index-iterator.result)) (λ s a is. rw (is ∙ ends) (∣ tt ∣₁)) (λ s a r t is e. search (rules, tests)) _ refl, tt, search of_calls), tt)

pub loop-index-init : goal.loop-index-init
loop-index-init g c = (
  YieldsList-at c.into_iter-index-iterator.ensures.into_iter_gives (YieldsList-from_enumerate (
      YieldsList-at c.enumerate-index-items.ensures.source (YieldsList-from_slice_split _ ends_line c.args.text.now c.split.ensures.rest c.split.ensures.done c.split.ensures.closure (λ x r q k. search (rules, tests)))
      ) c.enumerate-index-items.ensures.count),
  search rules,
)

pub returns-in_err-add_line : goal.returns-in_err-add_line
returns-in_err-add_line g c =
    let p = err_from_is_err_and c.from_residual.result c.from_residual.ensures.1 in
    let cut = in_hand c.loop-index.invariant.0 _ _ c.next.new.self (c.in-Some.index, c.in-Some.line) c.loop-index.yielded_by c.in-Some.ensures.steps in
    rw (p.1, p.2) (text_fault g.W.Word.value g.W.Word.DIGITS _ _ (c.in-Some.index, c.in-Some.line.now) _ _ _ cut c.loop-index.invariant.1 c.in_err-add_line.ensures)

pub returns : goal.returns
returns g c =
    let end = YieldsList-end c.loop-index.invariant.0 _ _ c.loop-index.yielded_by None c.next.new.self refl c.in-None.ensures.steps in
    sym (c.loop-index.invariant.1 ∙ ap (λ ls. map (λ (t : Token). g.W.Word.value t.bytes) (tokens_of ls)) end.0)
