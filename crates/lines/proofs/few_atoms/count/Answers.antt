use Rattle.std.proofs.Common.{rules}
use Rattle.lines.proofs.Members.{members_none, members_same, count_more}
use Rattle.lines.proofs.few_atoms.count.Goals as goal
use Rattle.lines.proofs.few_atoms.count.Goals.{then-is_marked, else-is_marked}

pub loop-atom-init : goal.loop-atom-init
loop-atom-init c = search (rules, members_none)

pub loop-atom-preserved : goal.loop-atom-preserved
loop-atom-preserved c =
    elim c.if-is_marked.branch [ then-is_marked w ↦ search (rules, count_more) | else-is_marked w ↦ search (rules, members_same) ]
