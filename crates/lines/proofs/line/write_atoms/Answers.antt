use Rattle.std.proofs.Common.{rules, tests, arith, map-id}
use Rattle.std.proofs.lemmas.Iterator.Consumers.{YieldsList-at, YieldsList-turn, YieldsList-end}
use Rattle.plans.specs.Bits.{marked}
use Rattle.lines.proofs.Members.{members_given}
use Rattle.lines.proofs.line.write_atoms.Goals as goal

pub number-requires : goal.number-requires
number-requires c =
    let turn = YieldsList-turn (YieldsList-at c.into_iter-atom-iterator.ensures.into_iter_gives (members_given _ (marked c.args.atoms.now.bits) (cc) c.filter-atom-items.ensures.closure (λ x b q k. search (rules, tests)))) c.loop-atom.yielded _ c.loop-atom.yielded_by _ _ c.in-Some.atom c.in-Some.is c.next.ensures.steps in
    omega (arith, turn.0)

pub returns : goal.returns
returns c =
    let end = YieldsList-end (YieldsList-at c.into_iter-atom-iterator.ensures.into_iter_gives (members_given _ (marked c.args.atoms.now.bits) (cc) c.filter-atom-items.ensures.closure (λ x b q k. search (rules, tests)))) c.loop-atom.yielded _ c.loop-atom.yielded_by _ _ c.in-None.is c.next.ensures.steps in
    search (rules, map-id)
