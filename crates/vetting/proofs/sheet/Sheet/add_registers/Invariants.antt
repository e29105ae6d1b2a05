use Rattle.std.proofs.Common.{◌≡◌, ℕ, ◌||◌, ◌&&◌, false, length, get_or, nat_lt}
use Rattle.vetting.specs.SheetWords.{is_set}
use Rattle.vetting.proofs.sheet.Sheet.add_registers.Given as goal

abbrev pub invariant-loop-register : goal.invariant-loop-register
invariant-loop-register l =
    (length l.handled-items ≡ length l.initial.handled-items)
    × ((r : ℕ) → get_or l.handled-items r false ≡ (get_or l.initial.handled-items r false || (nat_lt r l.register && is_set l.bits r)))
