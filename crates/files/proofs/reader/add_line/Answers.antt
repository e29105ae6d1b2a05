-- The words of the line go in, in their order.
use Rattle.std.proofs.Common.{◌≡◌, ◌++◌, map, Some, None, rules, tests, refl, ap, ◌∙◌}
use denote.Param.Always.{mut_by}
use Rattle.std.proofs.lemmas.Fn.{serves_by}
use Rattle.std.proofs.lemmas.Iterator.Consumers.{YieldsList-at, YieldsList-from_filter, YieldsList-end}
use Rattle.std.proofs.lemmas.Iterator.Splits.{YieldsList-from_slice_split}
use Rattle.std.proofs.lemmas.Result.{err_from_is_err_and}
use Rattle.std.specs.Slice.Iter.{split_callee}
use Rattle.std.specs.Iterator.Adapters.{filter_source, filter_callee}
use Rattle.files.specs.Texts.{Token, is_blank, is_filled, uncommented, token_at}
use Rattle.files.proofs.Collecting.{in_hand, line_fault}
use Rattle.files.proofs.reader.add_line.Goals as goal

-- the two functions may be called at each byte and each piece
pub loop-bytes-init-derived : goal.loop-bytes-init-derived
loop-bytes-init-derived g c =
    let source = ap filter_source c.into_iter-bytes-iterator.ensures.into_iter_gives ∙ c.filter-bytes-items.ensures.source in
    let blank = ap split_callee source ∙ c.split.ensures.closure in
    let filled = ap filter_callee c.into_iter-bytes-iterator.ensures.into_iter_gives ∙ c.filter-bytes-items.ensures.closure in (
      (
        mut_by _ (λ s. s ≡ split_callee (filter_source c.into_iter-bytes-iterator.result)) (λ s a is. rw (is ∙ blank) (∣ tt ∣₁)) (λ s a r t is e. search (rules, tests)) _ refl,
        tt,
        serves_by _ (λ xs q. q ≡ filter_callee c.into_iter-bytes-iterator.result) (λ xs q x v is turn. search (rules, tests)) _ _ _ _ refl (λ xs t q x u y n is. rw (is ∙ filled) (λ y e. (∣ tt ∣₁))),
      ),
      tt,
    )

pub loop-bytes-init : goal.loop-bytes-init
loop-bytes-init g c = (
  YieldsList-at c.into_iter-bytes-iterator.ensures.into_iter_gives (YieldsList-from_filter _ is_filled (
      YieldsList-at c.filter-bytes-items.ensures.source (YieldsList-from_slice_split _ is_blank (uncommented c.args.text.now) (c.split.ensures.rest ∙ c.without_comment.ensures) c.split.ensures.done c.split.ensures.closure (λ x r q k. search (rules, tests)))
      ) c.filter-bytes-items.ensures.closure (λ x b q k. search (rules, tests))),
  search rules,
)

pub returns-in_err-word : goal.returns-in_err-word
returns-in_err-word g c =
    let p = err_from_is_err_and c.from_residual.result c.from_residual.ensures.1 in
    let cut = in_hand c.loop-bytes.invariant.0 _ _ c.next.new.self c.in-Some.bytes c.loop-bytes.yielded_by c.in-Some.ensures.steps in
    rw (p.1, p.2) (line_fault g.W.Word.value g.W.Word.DIGITS c.args.line _ _ _ _ _ _ _ cut c.loop-bytes.invariant.1 c.in_err-word.ensures)

pub returns : goal.returns
returns g c =
    let end = YieldsList-end c.loop-bytes.invariant.0 _ _ c.loop-bytes.yielded_by None c.next.new.self refl c.in-None.ensures.steps in
    c.loop-bytes.invariant.1 ∙ ap (λ ps. map Some c.args.words.now.items ++ map (λ (t : Token). g.W.Word.value t.bytes) (map (token_at c.args.line) ps)) end.0
