use Rattle.listing.proofs.Counts.{lists_written}
use Rattle.listing.proofs.text.text_of.Goals as goal

pub returns : goal.returns
returns c =
    lists_written _ _ _ _ _ c.told-image c.run_start-start.ensures c.new-text.ensures.bytes c.in_ok-write_lines.ensures c.in_ok-writeln.ensures.bytes
