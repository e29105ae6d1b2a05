use Rattle.std.proofs.Common.{false}
use Rattle.vetting.proofs.Sheets.{get_or-replicate_default}
use Rattle.vetting.proofs.sheet.Sheet.empty.Goals as goal

pub returns : goal.returns
returns c = record { ranges = λ a. get_or-replicate_default 256 a false; handlers = λ r. get_or-replicate_default 16 r false }
