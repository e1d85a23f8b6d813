use Rattle.std.proofs.Common.{refl}
use Rattle.plans.specs.declared.partial_plan.Status.TheVariants.{In, Out}
use Rattle.judge.specs.Search.{Fit}
use Rattle.judge.proofs.Seeks.{fewer_than, forced, keep_first, keep_none}
use Rattle.judge.proofs.reduct.Reduct.+search.Goals as goal

pub search-requires : goal.search-requires
search-requires g t c κs within =
    (fewer_than c.args.rest.now c.decided.result c.in-Keep.a In t c.in-Keep.ensures.0 c.decided.ensures refl c.decreases, within)

pub search-requires-in-Remove : goal.search-requires-in-Remove
search-requires-in-Remove g t c κs within =
    (fewer_than c.args.rest.now c.decided-in-Remove.result c.in-Remove.a Out t c.in-Remove.ensures.0 c.decided-in-Remove.ensures refl c.decreases, within)

pub search-requires-in-Some : goal.search-requires-in-Some
search-requires-in-Some g t c κs within =
    (fewer_than c.args.rest.now c.decided-kept.result c.in-Some.a In t c.in-Some.ensures.0 c.decided-kept.ensures refl c.decreases, within)

pub search-requires-in-Some-2 : goal.search-requires-in-Some-2
search-requires-in-Some-2 g t c κs within =
    (fewer_than c.args.rest.now c.decided-in-Some.result c.in-Some.a Out t c.in-Some.ensures.0 c.decided-in-Some.ensures refl c.decreases, within)

pub returns-in-Keep : goal.returns-in-Keep
returns-in-Keep g t c =
    let s = c.args.self.now in
    let asked = c.in-Keep.ensures in
    forced (Fit (g.O.Oracle.meaning s.oracle.now) s.rows.now s.live s.plan.now) c.args.rest.now c.decided.result c.in-Keep.a In asked.0 c.decided.ensures (λ K w f. asked.1 K w f.meets) c.search.result c.search.ensures

pub returns-in-Remove : goal.returns-in-Remove
returns-in-Remove g t c =
    let s = c.args.self.now in
    let asked = c.in-Remove.ensures in
    forced (Fit (g.O.Oracle.meaning s.oracle.now) s.rows.now s.live s.plan.now) c.args.rest.now c.decided-in-Remove.result c.in-Remove.a Out asked.0 c.decided-in-Remove.ensures (λ K w f. asked.1 K w f.meets) c.search-in-Remove.result c.search-in-Remove.ensures

pub returns-in-Some-search : goal.returns-in-Some-search
returns-in-Some-search g t c =
    let s = c.args.self.now in
    let lowest = c.in-Some.ensures in
    keep_first (Fit (g.O.Oracle.meaning s.oracle.now) s.rows.now s.live s.plan.now) c.args.rest.now c.decided-kept.result c.in-Some.a lowest.0 lowest.1 c.decided-kept.ensures c.in-Some-search.found c.in-Some-search.ensures

pub returns-in_default : goal.returns-in_default
returns-in_default g t c =
    let s = c.args.self.now in
    let lowest = c.in-Some.ensures in
    keep_none (Fit (g.O.Oracle.meaning s.oracle.now) s.rows.now s.live s.plan.now) c.args.rest.now c.decided-kept.result c.in-Some.a lowest.0 lowest.1 c.decided-kept.ensures c.decided-in-Some.result c.decided-in-Some.ensures c.in_default.ensures c.search-in-Some-2.result c.search-in-Some-2.ensures
