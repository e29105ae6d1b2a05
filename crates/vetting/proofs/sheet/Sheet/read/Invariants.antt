use Rattle.std.proofs.Common.{take}
use Rattle.vetting.specs.Sheets.{FineBelow, ReadFrom}
use Rattle.vetting.proofs.sheet.Sheet.read.Given as goal

abbrev pub invariant-loop-i : goal.invariant-loop-i
invariant-loop-i l = FineBelow l.words l.i-counter × ReadFrom (take l.i-counter l.words) l.sheet
