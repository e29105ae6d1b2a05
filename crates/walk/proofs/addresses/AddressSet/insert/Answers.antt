use Rattle.std.proofs.Common.{rules}
use Rattle.walk.proofs.Sets.{inserted}
use Rattle.walk.proofs.addresses.AddressSet.insert.Goals as goal

pub returns : goal.returns
returns c =
    rw (c.replace.ensures.after, c.replace.ensures.value, c.from.ensures) (inserted c.args.self.now c.args.at (search rules))
