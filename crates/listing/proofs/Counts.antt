-- A listing has as many lines as there are addresses before the last run, and one more.
use Rattle.std.proofs.Common.{◌≡◌, ℕ, ◌+◌, ◌/◌, ◌%◌, ◌^◌, ◌<◌, ◌≤◌, true, false, cond, ltb, List, [], ◌∷◌, ◌++◌, length, get_or, take, Some, None, codes, decimal, Option, refl, ap, ◌∙◌, arith}
use Rattle.std.proofs.lemmas.Fmt.{decimal_by_steps}
use Rattle.std.proofs.lemmas.List.{length-take-le}
use Rattle.hexadecimal.specs.Hexadecimal.{two_digits, four_digits}
use Rattle.isa.specs.declared.register.RegisterName.{RegisterName}
use Rattle.isa.specs.declared.instruction.Operand.{Operand}
use Rattle.isa.specs.declared.instruction.AluOperation.{AluOperation}
use Rattle.isa.specs.declared.instruction.ShiftOperation.{ShiftOperation}
use Rattle.isa.specs.declared.instruction.Condition.{Condition}
use Rattle.isa.specs.declared.instruction.Instruction.{Instruction}
use Rattle.isa.specs.Assembly.{alu_mnemonic, shift_mnemonic, jump_mnemonic, register_text, value_text, address_text, text_of}
use Rattle.isa.specs.Words.{decoded}
use Rattle.listing.proofs.Runs.{run_start_is}
use Rattle.listing.specs.Lines.{word_text, contents_text, placed, line_of, run_line_of, ended, lines_from, run_start, last_line, listing_of, LastRun, line_count, Lists}

count_append : (a b : List ℕ) → line_count (a ++ b) ≡ line_count a + line_count b
count_append [] b = omega arith
count_append (c ∷ cs) b = grind (arith, count_append cs b)

-- no line feed in a text

digits : (b : ℕ) → line_count (two_digits b) ≡ 0
digits b = grind arith

number : (n : ℕ) → n < 2 ^ 64 → line_count (decimal n) ≡ 0
number =
    decimal_by_steps (λ n ds. line_count ds ≡ 0) (λ n l. grind arith) (λ n ds l rest. grind (arith, count_append))

name : (x : RegisterName) → line_count (register_text x) ≡ 0
name x = let l = x.small in number x.number (omega arith)

value : (s : Operand) → line_count (value_text s) ≡ 0
value s = grind (arith, name, digits)

address : (s : Operand) → line_count (address_text s) ≡ 0
address s = grind (arith, count_append, name, digits)

alu : (o : AluOperation) → line_count (alu_mnemonic o) ≡ 0
alu o = grind arith

shift : (s : ShiftOperation) → line_count (shift_mnemonic s) ≡ 0
shift s = grind arith

jump : (c : Condition) → line_count (jump_mnemonic c) ≡ 0
jump c = grind arith

instruction : (i : Instruction) → line_count (text_of i) ≡ 0
instruction i = grind (arith, count_append, alu, shift, jump, name, value, address)

found : (o : Option Instruction) → line_count (elim o [ Some i ↦ text_of i | None ↦ codes "?" ]) ≡ 0
found o = grind (arith, instruction)

contents : (w : ℕ) → line_count (contents_text w) ≡ 0
contents w =
    omega (arith, count_append (four_digits w) (32 ∷ word_text w), count_append (two_digits (w / 0x100)) (two_digits (w % 0x100)), digits (w / 0x100), digits (w % 0x100), found (decoded w))

-- one line feed for each line

one_line : (place : List ℕ) (w : ℕ) → line_count place ≡ 0 → line_count (ended (placed place w)) ≡ 1
one_line place w p =
    omega (arith, count_append (placed place w) (10 ∷ []), count_append place (32 ∷ contents_text w), contents w)

each_line : (at : ℕ) (ws : List ℕ) → line_count (lines_from at ws) ≡ length ws
each_line at [] = refl
each_line at (w ∷ ws) =
    omega (arith, count_append (ended (line_of at w)) (lines_from (at + 1) ws), one_line (two_digits at) w (digits at), each_line (at + 1) ws)

last : (start w : ℕ) → line_count (ended (last_line start w)) ≡ 1
last start w =
    elim (ltb start 0xFF) as (λ t. line_count (ended (cond t (run_line_of start w) (line_of start w))) ≡ 1) [
      | true ↦ one_line (two_digits start ++ codes "..FF") w (grind arith)
      | false ↦ one_line (two_digits start) w (digits start)
    ]

pub counted : (image : List ℕ) → run_start image ≤ length image → line_count (listing_of image) ≡ run_start image + 1
counted image within =
    let start = run_start image in
    let w = get_or image start 0 in
    omega (arith, count_append (lines_from 0 (take start image)) (ended (last_line start w)), each_line 0 (take start image), length-take-le start image within, last start w)

-- the lines before the run and the line of the run, written after nothing, list the image
pub lists_written : (image was before text : List ℕ) (start : ℕ) → length image ≡ 256 → LastRun image start → was ≡ [] → before ≡ was ++ lines_from 0 (take start image) → text ≡ before ++ ended (last_line start (get_or image start 0)) → Lists image text
lists_written image was before text start size run empty front last =
    let place : run_start image ≡ start = run_start_is image start run in
    let inside = run.inside in
    let lines : before ≡ lines_from 0 (take start image) = rw empty at front in
    let whole : text ≡ listing_of image = rw place (rw lines at last) in
    let here : LastRun image (run_start image) = rw place run in
    record { size = size; whole = whole; run = here; lines = ap line_count whole ∙ counted image (omega (arith, place)) }
