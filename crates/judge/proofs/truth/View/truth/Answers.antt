use Rattle.std.proofs.Common.{◌≡◌, ℕ, Bool, not, Some, None, Option, rules, sym, ap, subst}
use Rattle.std.specs.Option.{option_map}
use Rattle.semantics.specs.Program.{Meaning}
use Rattle.plans.specs.declared.partial_plan.PartialPlan.{PartialPlan}
use Rattle.records.specs.declared.literal.Literal.TheVariants.{Atom, NotAtom}
use Rattle.judge.specs.Ways.{Tells}
use Rattle.judge.proofs.truth.View.truth.Goals as goal

negated : (m : Meaning) (p : PartialPlan) (a : ℕ) (t : Option Bool) → Tells m p (Some (Atom a)) t → Tells m p (Some (NotAtom a)) (option_map not t)
negated m p a None h = h
negated m p a (Some v) h = λ K w. ap not (h K w)

pub returns-in-Some-Atom : goal.returns-in-Some-Atom
returns-in-Some-Atom g c = let told = c.atom_truth.ensures (g.O.Oracle.meaning c.args.self.now.oracle.now) in search rules

pub returns-in-Some-NotAtom : goal.returns-in-Some-NotAtom
returns-in-Some-NotAtom g c =
    let m = g.O.Oracle.meaning c.args.self.now.oracle.now in
    let truth = c.atom_truth-in-Some-NotAtom in
    let is : c.map.result ≡ option_map not truth.result = search rules in
    let told = subst (Tells m c.args.self.now.plan.now (Some (NotAtom c.in-Some-NotAtom.a))) (sym is) (negated m c.args.self.now.plan.now c.in-Some-NotAtom.a truth.result (truth.ensures m)) in
    search rules
