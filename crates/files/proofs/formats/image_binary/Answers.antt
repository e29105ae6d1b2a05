-- Pair by pair.
use Rattle.std.proofs.Common.{◌≡◌, ℕ, ◌/◌, length, Ok, rules, tests, vec_items, ◌∙◌, arith, true-eqb, false-eqb}
use Rattle.std.proofs.lemmas.Iterator.{YieldsList-from_slice, YieldsList-from_map_by}
use Rattle.std.proofs.lemmas.Iterator.Consumers.{YieldsList-at, map_from_collect}
use Rattle.std.specs.List.{flat_map}
use Rattle.std.specs.Simd.{first_chunks}
use Rattle.files.specs.Formats.{big_endian}
use Rattle.files.proofs.BytePairs.{even_length, words_whole, same_words}
use Rattle.files.proofs.formats.image_binary.Goals as goal

pub returns-then-not-is_empty-clause-back : goal.returns-then-not-is_empty-clause-back
returns-then-not-is_empty-clause-back c ws all is = absurd (false-eqb _ 0 c.if-not-is_empty.ensures (omega (arith, c.as_chunks.ensures.back_len, even_length _ ws is)))

pub returns : goal.returns
returns c =
    let bytes = c.args.bytes.now in
    let each = map_from_collect {E = ℕ} (Ok c.in_ok-collect.field-0) c.in_ok-collect.ensures.ran (YieldsList-from_map_by _ big_endian (λ p. p) (YieldsList-at c.map.ensures.source (YieldsList-from_slice (first_chunks 2 (length bytes / 2) bytes) (c.iter.ensures.rest ∙ c.as_chunks.ensures.front))) c.map.ensures.closure (λ x r q k. search (rules, tests))) in
    let whole : flat_map big_endian (vec_items c.in_ok-collect.field-0) ≡ bytes = words_whole bytes (vec_items c.in_ok-collect.field-0) (omega (arith, c.as_chunks.ensures.back_len, true-eqb _ 0 c.if-not-is_empty.ensures)) each in
    record { joins = whole; back = λ ws all is. same_words _ ws (whole ∙ is) }
