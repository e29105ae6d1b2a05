-- A text that was written from words reads as these words.
use Rattle.std.proofs.Common.{◌≡◌, ℕ, ◌+◌, ◌*◌, ◌/◌, ◌%◌, ◌^◌, ◌<◌, ◌≤◌, Bool, true, false, cond, List, [], ◌∷◌, ◌++◌, map, Some, None, Ok, Err, vec_items, Option, Result, Vec, sym, refl, ap, ◌∙◌, append_assoc, arith}
use Rattle.std.proofs.lemmas.List.{map-append}
use Rattle.std.proofs.lemmas.Bool.Decides.{nat_tests}
use Rattle.std.specs.List.{flat_map, filter, enumerate_from, slice_split, AllByRecursion}
use Rattle.hexadecimal.specs.Hexadecimal.{digit_of, value_of, four_digits}
use Rattle.files.specs.Formats.{eight_digits, line_of, ReadBack}
use Rattle.files.specs.Reading.{AreWords, Reads}
use Rattle.files.specs.Texts.{ends_line, is_blank, is_filled, slashes, uncommented, token_at, line_tokens, tokens_of, tokens, Token}
use Rattle.files.specs.Words.{number_on, word_of}
use Rattle.files.specs.declared.fault.Digits.{Digits}
use Rattle.files.specs.declared.fault.Digits.TheVariants.{Four, Eight}
use Rattle.files.specs.declared.fault.Fault.{Fault}
use Rattle.files.specs.declared.fault.Fault.TheVariants.{Malformed, HalfWord, Memory}
use Rattle.files.proofs.Numbers.{digit_read}

-- every byte is '0' or above, as digits are: none is a separator or a slash
abbrev High : List ℕ → Type 0
High bs = AllByRecursion (λ b. 48 ≤ b) bs

no_line_end : (b : ℕ) → 48 ≤ b → ends_line b ≡ false
no_line_end b h = grind (arith, nat_tests)

no_blank : (b : ℕ) → 48 ≤ b → is_blank b ≡ false
no_blank b h = grind (arith, nat_tests)

no_comment : (b : ℕ) (bs : List ℕ) → 48 ≤ b → slashes (b ∷ bs) ≡ false
no_comment b bs h = grind (arith, nat_tests)

uncommented_high : (bs : List ℕ) → High bs → uncommented bs ≡ bs
uncommented_high [] hs = refl
uncommented_high (b ∷ bs) (h, hs) = rw (no_comment b bs h, uncommented_high bs hs)

-- a row of digits is one piece
one_piece : (bs : List ℕ) → High bs → slice_split is_blank bs ≡ bs ∷ []
one_piece [] hs = refl
one_piece (b ∷ bs) (h, hs) = rw (no_blank b h, one_piece bs hs)

line_before : (bs rest : List ℕ) → High bs → slice_split ends_line (bs ++ 10 ∷ rest) ≡ bs ∷ slice_split ends_line rest
line_before [] rest hs = refl
line_before (b ∷ bs) rest (h, hs) = rw (no_line_end b h, line_before bs rest hs)

has_bytes : (b : ℕ) (bs : List ℕ) → is_filled (b ∷ bs) ≡ true
has_bytes b bs = grind (arith, nat_tests)

-- a line of digits is one token
one_token : (n b : ℕ) (bs : List ℕ) → High (b ∷ bs) → line_tokens n (b ∷ bs) ≡ token_at n (b ∷ bs) ∷ []
one_token n b bs hs = ap (λ l. map (token_at n) (filter is_filled (slice_split is_blank l))) (uncommented_high (b ∷ bs) hs) ∙ ap (λ ps. map (token_at n) (filter is_filled ps)) (one_piece (b ∷ bs) hs) ∙ ap (λ (t : Bool). map (token_at n) (cond t ((b ∷ bs) ∷ []) [])) (has_bytes b bs)

-- what a way to write words has to be for them to be read again
pub record Written (value : List ℕ → Option ℕ) (digits : ℕ → List ℕ) (limit : ℕ) : Type 0 where
  pub first : ℕ → ℕ
  pub rest : ℕ → List ℕ
  pub parts : (w : ℕ) → digits w ≡ first w ∷ rest w
  pub high : (w : ℕ) → High (first w ∷ rest w)
  pub back : (w : ℕ) → w < limit → value (first w ∷ rest w) ≡ Some w

some_same : (xs ys : List ℕ) → map {B = Option ℕ} Some xs ≡ map Some ys → xs ≡ ys
some_same [] [] e = refl
some_same [] (y ∷ ys) e = cc
some_same (x ∷ xs) [] e = cc
some_same (x ∷ xs) (y ∷ ys) e =
    let tail : map {B = Option ℕ} Some xs ≡ map Some ys = cc in
    let same = some_same xs ys tail in cc

no_none : (before after : List (Option ℕ)) (ws : List ℕ) → before ++ None ∷ after ≡ map Some ws → ⊥
no_none [] after [] e = cc
no_none [] after (w ∷ ws) e = cc
no_none (x ∷ before) after [] e = cc
no_none (x ∷ before) after (w ∷ ws) e = let tail : before ++ None ∷ after ≡ map Some ws = cc in no_none before after ws tail

module _ {value : List ℕ → Option ℕ} {digits : ℕ → List ℕ} {limit : ℕ} (way : Written value digits limit) where
  -- the words of a text that has each on a line of its own
  lines_read : (n : ℕ) (ws : List ℕ) → AllByRecursion (λ w. w < limit) ws → AreWords value (tokens_of (enumerate_from n (slice_split ends_line (flat_map (line_of digits) ws)))) ws
  lines_read n [] all = refl
  lines_read n (w ∷ ws) (small, all) =
      let more = flat_map (line_of digits) ws in
      let word = way.first w ∷ way.rest w in
      let text : line_of digits w ++ more ≡ word ++ 10 ∷ more = append_assoc (digits w) (10 ∷ []) more ∙ ap (λ ds. ds ++ 10 ∷ more) (way.parts w) in
      let cut : slice_split ends_line (line_of digits w ++ more) ≡ word ∷ slice_split ends_line more = ap (slice_split ends_line) text ∙ line_before word more (way.high w) in
      ap (λ ps. map (λ (t : Token). value t.bytes) (tokens_of (enumerate_from n ps))) cut ∙
      ap (λ ts. map (λ (t : Token). value t.bytes) (ts ++ tokens_of (enumerate_from (n + 1) (slice_split ends_line more)))) (one_token (n + 1) (way.first w) (way.rest w) (way.high w)) ∙
      (λ i. way.back w small i ∷ lines_read (n + 1) ws all i)

  pub reads_back : {Z : Type 0} (width : Digits) (text : List ℕ) (r : Result (Vec ℕ Z) Fault) → Reads value width (tokens text) r → ReadBack limit (line_of digits) text r
  reads_back width text (Ok v) read ws all is =
      some_same (vec_items v) ws (sym read ∙ ap (λ l. map (λ (t : Token). value t.bytes) (tokens l)) is ∙ lines_read 0 ws all)
  reads_back width text (Err (Malformed line digits found)) (t, fault, at_line, of_width, as_shown) ws all is =
      let f : Token → Option ℕ = λ t. value t.bytes in
      let split : map f (tokens text) ≡ map f fault.before ++ None ∷ map f fault.after =
      ap (map f) fault.cut ∙ map-append f fault.before (t ∷ fault.after) ∙ ap (λ o. map f fault.before ++ o ∷ map f fault.after) fault.bad in
      absurd (no_none (map f fault.before) (map f fault.after) ws (sym split ∙ ap (λ l. map f (tokens l)) is ∙ lines_read 0 ws all))
  reads_back width text (Err (HalfWord n)) none ws all is = absurd none
  reads_back width text (Err Memory) read ws all is = refl

-- a digit is '0' or above, and has its value
digit_high : (n : ℕ) → 48 ≤ digit_of n
digit_high n = grind (arith, nat_tests)

digit_back : (n : ℕ) → n < 16 → value_of (digit_of n) ≡ Some n
digit_back n h = grind (arith, nat_tests)

one_read : (n d : ℕ) (cs : List ℕ) → d < 16 → number_on n (digit_of d ∷ cs) ≡ number_on (n * 16 + d) cs
one_read n d cs h = digit_read n (digit_of d) d cs (digit_back d h)

all_read : (n a b c d : ℕ) (cs : List ℕ) → a < 16 → b < 16 → c < 16 → d < 16 → number_on n (digit_of a ∷ digit_of b ∷ digit_of c ∷ digit_of d ∷ cs) ≡ number_on ((((n * 16 + a) * 16 + b) * 16 + c) * 16 + d) cs
all_read n a b c d cs p q r s =
    one_read n a (digit_of b ∷ digit_of c ∷ digit_of d ∷ cs) p ∙
    one_read (n * 16 + a) b (digit_of c ∷ digit_of d ∷ cs) q ∙
    one_read ((n * 16 + a) * 16 + b) c (digit_of d ∷ cs) r ∙
    one_read (((n * 16 + a) * 16 + b) * 16 + c) d cs s

-- four digits after the number n
four_read : (n w : ℕ) (cs : List ℕ) → w < 0x10000 → number_on n (four_digits w ++ cs) ≡ number_on (n * 0x10000 + w) cs
four_read n w cs small =
    let sum : (((n * 16 + w / 0x100 / 0x10 % 0x10) * 16 + w / 0x100 % 0x10) * 16 + w % 0x100 / 0x10 % 0x10) * 16 + w % 0x100 % 0x10 ≡ n * 0x10000 + w = omega arith in
    all_read n (w / 0x100 / 0x10 % 0x10) (w / 0x100 % 0x10) (w % 0x100 / 0x10 % 0x10) (w % 0x100 % 0x10) cs (omega arith) (omega arith) (omega arith) (omega arith) ∙
    ap (λ m. number_on m cs) sum

four_high : (w : ℕ) → High (four_digits w)
four_high w = (digit_high (w / 0x100 / 0x10 % 0x10), (digit_high (w / 0x100 % 0x10), (digit_high (w % 0x100 / 0x10 % 0x10), (digit_high (w % 0x100 % 0x10), tt))))

high_append : (cs bs : List ℕ) → High cs → High bs → High (cs ++ bs)
high_append [] bs p q = q
high_append (c ∷ cs) bs (h, p) q = (h, high_append cs bs p q)

pub image_way : Written (word_of Four) four_digits (2 ^ 16)
image_way = record {
  first = λ w. digit_of (w / 0x100 / 0x10 % 0x10);
  rest = λ w. digit_of (w / 0x100 % 0x10) ∷ digit_of (w % 0x100 / 0x10 % 0x10) ∷ digit_of (w % 0x100 % 0x10) ∷ [];
  parts = λ w. refl;
  high = four_high;
  back = λ w small. four_read 0 w [] (omega arith) ∙ ap Some (let same : 0 * 0x10000 + w ≡ w = omega arith in same);
}

pub sheet_way : Written (word_of Eight) eight_digits (2 ^ 32)
sheet_way = record {
  first = λ w. digit_of (w / 0x10000 / 0x100 / 0x10 % 0x10);
  rest = λ w. digit_of (w / 0x10000 / 0x100 % 0x10) ∷ digit_of (w / 0x10000 % 0x100 / 0x10 % 0x10) ∷ digit_of (w / 0x10000 % 0x100 % 0x10) ∷ four_digits (w % 0x10000);
  parts = λ w. refl;
  high = λ w. high_append (four_digits (w / 0x10000)) (four_digits (w % 0x10000)) (four_high (w / 0x10000)) (four_high (w % 0x10000));
  back = λ w small.
      let sum : (0 * 0x10000 + w / 0x10000) * 0x10000 + w % 0x10000 ≡ w = omega arith in
      four_read 0 (w / 0x10000) (four_digits (w % 0x10000)) (omega arith) ∙ four_read (0 * 0x10000 + w / 0x10000) (w % 0x10000) [] (omega arith) ∙ ap Some sum;
}

pub image_back : {Z : Type 0} (text : List ℕ) (r : Result (Vec ℕ Z) Fault) → Reads (word_of Four) Four (tokens text) r → ReadBack (2 ^ 16) (line_of four_digits) text r
image_back text r read = reads_back image_way Four text r read

pub sheet_back : {Z : Type 0} (text : List ℕ) (r : Result (Vec ℕ Z) Fault) → Reads (word_of Eight) Eight (tokens text) r → ReadBack (2 ^ 32) (line_of eight_digits) text r
sheet_back text r read = reads_back sheet_way Eight text r read
