use Rattle.std.proofs.Common.{◌≡◌, None, get_or, ◌+◌, ◌*◌, rules, arith}
use borrow.Author.Tests.{tests}
use Rattle.records.specs.Literals.{literal_of}
use Rattle.records.proofs.Bodies.{places_read}
use Rattle.plans.proofs.FromFn.{from_fn_gives}
use Rattle.records.proofs.literal.read_body.Goals as goal

pub returns : goal.returns
returns c =
    let bs = c.args.bytes.now in
    let made = c.from_fn.ensures.items in
    places_read 16 bs c.from_fn.result (omega arith) made.long (λ i lt.
    from_fn_gives (λ k y. y ≡ literal_of (get_or bs (2 * k) 0) (get_or bs (2 * k + 1) 0)) _ c.from_fn.result 0 16 (λ k y q l m. search (rules, tests)) made.each i None (omega arith) (omega arith))
