-- How values of the code are seen.
use Rattle.std.specs.Prelude.{ℕ, List}
use Rattle.std.specs.Borrow.{Bor}
use Rattle.files.specs.Texts.{token_at}
use Rattle.files.specs.Texts.{Token as TextToken}
use Rattle.files.specs.declared.tokens.Token.{Token}

-- a token of the code, as one of the text
abbrev pub token_of : Token → TextToken
token_of t = token_at t.line t.bytes.now

-- the bytes behind a reference
abbrev pub seen : Bor (List ℕ) → List ℕ
seen bs = bs.now

-- a line with its index, and not behind a reference
abbrev pub numbered : ℕ × Bor (List ℕ) → ℕ × List ℕ
numbered l = (l.0, l.1.now)
