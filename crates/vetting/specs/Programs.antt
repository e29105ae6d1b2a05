-- A program: an image with its sheet. How its words lead on, and the rules that they may break.
use Rattle.std.specs.Prelude.{ℕ, Bool, true, false, not, ◌&&◌, ◌||◌, List, Some, None, Option}
use Rattle.isa.specs.declared.instruction.Operand.{Operand}
use Rattle.isa.specs.declared.instruction.Operand.TheVariants.{Register, Constant}
use Rattle.isa.specs.declared.instruction.Condition.{Condition}
use Rattle.isa.specs.declared.instruction.Condition.TheVariants.{Always, Zero, NotZero, Carry, NoCarry, Negative, NotNegative, Overflow, NoOverflow}
use Rattle.isa.specs.declared.instruction.Instruction.{Instruction}
use Rattle.isa.specs.declared.instruction.Instruction.TheVariants.{Alu, Move, Load, Store, Jump, Call, Return, ReturnFromInterrupt, DisableInterrupts, EnableInterrupts, Swap, Shift}
use Rattle.isa.specs.Images.{instruction_in}
use Rattle.isa.specs.Operations.{keeps_result}
use Rattle.walk.specs.declared.flow.Flow.{Flow}
use Rattle.walk.specs.declared.flow.Flow.TheVariants.{Nowhere, Next, Branch, Jump as Jumps, Call as Calls, Return as Returns}
use Rattle.walk.specs.Walk.{Graph}
use Rattle.vetting.specs.declared.rules.Rule.{Rule}
use Rattle.vetting.specs.declared.rules.Rule.TheVariants.{MainWord, MainReturn, MainRegister, HandlerWord, HandlerReturn, HandlerWrite}

-- an image, the addresses in main's ranges, and the handler's registers
pub record Program : Type 0 where
  pub image : List ℕ
  pub ranges : ℕ → Bool
  pub handlers : ℕ → Bool

-- the instruction at an address of a program
abbrev pub instruction_at : Program → ℕ → Option Instruction
instruction_at p = instruction_in p.image

-- a jump to a constant address leads there, a conditional one to the next address as well; through a register it leads nowhere
abbrev pub jump_flow : Condition → Operand → Flow
jump_flow c (Register y) = Nowhere
jump_flow Always (Constant t) = Jumps t
jump_flow Zero (Constant t) = Branch t
jump_flow NotZero (Constant t) = Branch t
jump_flow Carry (Constant t) = Branch t
jump_flow NoCarry (Constant t) = Branch t
jump_flow Negative (Constant t) = Branch t
jump_flow NotNegative (Constant t) = Branch t
jump_flow Overflow (Constant t) = Branch t
jump_flow NoOverflow (Constant t) = Branch t

-- a call of a constant address enters it; through a register it leads nowhere
abbrev pub call_flow : Operand → Flow
call_flow (Register y) = Nowhere
call_flow (Constant t) = Calls t

-- how a word leads on: an undefined one and RTI lead nowhere
abbrev pub flow_of : Option Instruction → Flow
flow_of None = Nowhere
flow_of (Some (Alu op x o)) = Next
flow_of (Some (Move x o)) = Next
flow_of (Some (Load x o)) = Next
flow_of (Some (Store x o)) = Next
flow_of (Some (Jump c o)) = jump_flow c o
flow_of (Some (Call o)) = call_flow o
flow_of (Some Return) = Returns
flow_of (Some ReturnFromInterrupt) = Nowhere
flow_of (Some DisableInterrupts) = Next
flow_of (Some EnableInterrupts) = Next
flow_of (Some (Swap x)) = Next
flow_of (Some (Shift s x)) = Next

-- how the word at each address of a program leads on
abbrev pub graph_of : Program → Graph
graph_of p a = flow_of (instruction_at p a)

-- the operand is a register
abbrev pub indirect : Operand → Bool
indirect (Register y) = true
indirect (Constant k) = false

-- the operand is a register that passes a test
abbrev pub operand_names : (ℕ → Bool) → Operand → Bool
operand_names test (Register y) = test y.number
operand_names test (Constant k) = false

-- an instruction names a register that passes a test, as its first operand or its second
abbrev pub names : (ℕ → Bool) → Instruction → Bool
names test (Alu op x o) = test x.number || operand_names test o
names test (Move x o) = test x.number || operand_names test o
names test (Load x o) = test x.number || operand_names test o
names test (Store x o) = test x.number || operand_names test o
names test (Jump c o) = operand_names test o
names test (Call o) = operand_names test o
names test Return = false
names test ReturnFromInterrupt = false
names test DisableInterrupts = false
names test EnableInterrupts = false
names test (Swap x) = test x.number
names test (Shift s x) = test x.number

-- an instruction writes a register that passes a test
abbrev pub writes : (ℕ → Bool) → Instruction → Bool
writes test (Alu op x o) = keeps_result op && test x.number
writes test (Move x o) = test x.number
writes test (Load x o) = test x.number
writes test (Store x o) = false
writes test (Jump c o) = false
writes test (Call o) = false
writes test Return = false
writes test ReturnFromInterrupt = false
writes test DisableInterrupts = false
writes test EnableInterrupts = false
writes test (Swap x) = test x.number
writes test (Shift s x) = test x.number

-- the operand is a constant address that passes a test
abbrev pub operand_is : (ℕ → Bool) → Operand → Bool
operand_is test (Register y) = false
operand_is test (Constant k) = test k

-- an instruction stores to a constant address that passes a test
abbrev pub stores_into : (ℕ → Bool) → Instruction → Bool
stores_into test (Alu op x o) = false
stores_into test (Move x o) = false
stores_into test (Load x o) = false
stores_into test (Store x o) = operand_is test o
stores_into test (Jump c o) = false
stores_into test (Call o) = false
stores_into test Return = false
stores_into test ReturnFromInterrupt = false
stores_into test DisableInterrupts = false
stores_into test EnableInterrupts = false
stores_into test (Swap x) = false
stores_into test (Shift s x) = false

-- a jump or call whose target stands in a register
abbrev pub goes_through_register : Instruction → Bool
goes_through_register (Alu op x o) = false
goes_through_register (Move x o) = false
goes_through_register (Load x o) = false
goes_through_register (Store x o) = false
goes_through_register (Jump c o) = indirect o
goes_through_register (Call o) = indirect o
goes_through_register Return = false
goes_through_register ReturnFromInterrupt = false
goes_through_register DisableInterrupts = false
goes_through_register EnableInterrupts = false
goes_through_register (Swap x) = false
goes_through_register (Shift s x) = false

-- a store whose address stands in a register
abbrev pub stores_through_register : Instruction → Bool
stores_through_register (Alu op x o) = false
stores_through_register (Move x o) = false
stores_through_register (Load x o) = false
stores_through_register (Store x o) = indirect o
stores_through_register (Jump c o) = false
stores_through_register (Call o) = false
stores_through_register Return = false
stores_through_register ReturnFromInterrupt = false
stores_through_register DisableInterrupts = false
stores_through_register EnableInterrupts = false
stores_through_register (Swap x) = false
stores_through_register (Shift s x) = false

-- the instruction is RTS
abbrev pub is_rts : Instruction → Bool
is_rts (Alu op x o) = false
is_rts (Move x o) = false
is_rts (Load x o) = false
is_rts (Store x o) = false
is_rts (Jump c o) = false
is_rts (Call o) = false
is_rts Return = true
is_rts ReturnFromInterrupt = false
is_rts DisableInterrupts = false
is_rts EnableInterrupts = false
is_rts (Swap x) = false
is_rts (Shift s x) = false

-- the instruction is RTI
abbrev pub is_rti : Instruction → Bool
is_rti (Alu op x o) = false
is_rti (Move x o) = false
is_rti (Load x o) = false
is_rti (Store x o) = false
is_rti (Jump c o) = false
is_rti (Call o) = false
is_rti Return = false
is_rti ReturnFromInterrupt = true
is_rti DisableInterrupts = false
is_rti EnableInterrupts = false
is_rti (Swap x) = false
is_rti (Shift s x) = false

-- the instruction is STI
abbrev pub is_sti : Instruction → Bool
is_sti (Alu op x o) = false
is_sti (Move x o) = false
is_sti (Load x o) = false
is_sti (Store x o) = false
is_sti (Jump c o) = false
is_sti (Call o) = false
is_sti Return = false
is_sti ReturnFromInterrupt = false
is_sti DisableInterrupts = false
is_sti EnableInterrupts = true
is_sti (Swap x) = false
is_sti (Shift s x) = false

-- what a word of main's breaks, with an empty or a filled list; the handler's registers are given
abbrev pub main_breaks : (ℕ → Bool) → Rule → Option Instruction → Bool → Bool
main_breaks handlers MainWord None filled = true
main_breaks handlers MainWord (Some i) filled = goes_through_register i || is_rti i
main_breaks handlers MainReturn None filled = false
main_breaks handlers MainReturn (Some i) filled = is_rts i && not filled
main_breaks handlers MainRegister None filled = false
main_breaks handlers MainRegister (Some i) filled = names handlers i
main_breaks handlers HandlerWord i filled = false
main_breaks handlers HandlerReturn i filled = false
main_breaks handlers HandlerWrite i filled = false

-- what a word of the handler's breaks; the handler's registers and main's ranges are given
abbrev pub handler_breaks : (ℕ → Bool) → (ℕ → Bool) → Rule → Option Instruction → Bool → Bool
handler_breaks handlers ranges MainWord i filled = false
handler_breaks handlers ranges MainReturn i filled = false
handler_breaks handlers ranges MainRegister i filled = false
handler_breaks handlers ranges HandlerWord None filled = true
handler_breaks handlers ranges HandlerWord (Some i) filled = goes_through_register i || (stores_through_register i || is_sti i)
handler_breaks handlers ranges HandlerReturn None filled = false
handler_breaks handlers ranges HandlerReturn (Some i) filled = (is_rts i && not filled) || (is_rti i && filled)
handler_breaks handlers ranges HandlerWrite None filled = false
handler_breaks handlers ranges HandlerWrite (Some i) filled = writes (λ r. not (handlers r)) i || stores_into ranges i

-- the word enables interrupts
abbrev pub enables : Option Instruction → Bool
enables None = false
enables (Some i) = is_sti i
