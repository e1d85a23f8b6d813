use Rattle.records.proofs.Ascending.{ascending, ascends_back, used_first}
use Rattle.records.proofs.atoms.lists_stand.Goals as goal

pub returns : goal.returns
returns c = record { same = λ xs. (ascending xs, ascends_back xs); first = λ xs a. used_first 0 xs (ascends_back xs a) }
