use Rattle.std.proofs.Common.{rules}
use Rattle.oracles.proofs.Replies.{suffice}
use Rattle.oracles.proofs.clauses.clauses_stand.Goals as goal

pub returns : goal.returns
returns c = record { follow = search rules; suffice = suffice }
