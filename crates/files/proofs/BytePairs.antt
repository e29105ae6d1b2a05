-- Words of two bytes, pair by pair.
use Rattle.std.proofs.Common.{◌≡◌, ℕ, zero, suc, ◌*◌, ◌/◌, ◌%◌, List, [], ◌∷◌, map, length, sym, refl, ap, ◌∙◌, arith}
use Rattle.std.specs.List.{flat_map}
use Rattle.std.proofs.lemmas.List.{map-id}
use Rattle.std.proofs.lemmas.List.Folds.{flat_map-map}
use Rattle.std.specs.Simd.{first_chunks}
use Rattle.files.specs.Formats.{big_endian}

even : (ws : List ℕ) → length (flat_map big_endian ws) ≡ 2 * length ws
even [] = omega arith
even (w ∷ ws) = omega (arith, even ws)

pub even_length : (bs ws : List ℕ) → bs ≡ flat_map big_endian ws → length bs % 2 ≡ 0
even_length bs ws is = omega (arith, ap length is, even ws)

-- pairs, one after another, give the bytes back
pairs_join : (n : ℕ) (bs : List ℕ) → length bs ≡ 2 * n → flat_map (λ p. p) (first_chunks 2 n bs) ≡ bs
pairs_join zero [] long = refl
pairs_join zero (b ∷ bs) long = absurd (omega arith)
pairs_join (suc n) [] long = absurd (omega arith)
pairs_join (suc n) (b ∷ []) long = absurd (omega arith)
pairs_join (suc n) (b ∷ c ∷ bs) long = ap (λ l. b ∷ c ∷ l) (pairs_join n bs (omega arith))

-- where no byte is left over, the words of the pairs are all
pub words_whole : (bs ws : List ℕ) → length bs % 2 ≡ 0 → map big_endian ws ≡ map (λ p. p) (first_chunks 2 (length bs / 2) bs) → flat_map big_endian ws ≡ bs
words_whole bs ws whole is = sym (flat_map-map (λ p. p) big_endian ws) ∙ ap (flat_map (λ p. p)) (is ∙ map-id _) ∙ pairs_join (length bs / 2) bs (omega arith)

pub same_words : (vs ws : List ℕ) → flat_map big_endian vs ≡ flat_map big_endian ws → vs ≡ ws
same_words [] [] e = refl
same_words [] (w ∷ ws) e = cc
same_words (v ∷ vs) [] e = cc
same_words (v ∷ vs) (w ∷ ws) e =
    let high : v / 0x100 ≡ w / 0x100 = cc in
    let low : v % 0x100 ≡ w % 0x100 = cc in
    let more : flat_map big_endian vs ≡ flat_map big_endian ws = cc in
    let first : v ≡ w = omega arith in
    let rest = same_words vs ws more in
    cc
