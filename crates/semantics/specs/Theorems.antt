-- What is proved of the judgement. Assumes nothing.
use Rattle.std.specs.Prelude.{◌≡◌, ◌↔◌, List}
use Rattle.semantics.specs.Program.{Interp, Plan, Rule, Meaning, Model, Unfounded, UnfoundedFree, Earliest, LowestBroken}
use Rattle.semantics.specs.Judge.{Verdict, stands, broken, unfounded, judge}

-- What each verdict says of an interpretation.
abbrev pub Says : List Rule → Meaning → Interp → Verdict → Type 0
Says rules m I stands = UnfoundedFree rules m I
Says rules m I (broken n) = LowestBroken rules m I n
Says rules m I (unfounded X) = Model m I rules × Earliest (Unfounded rules m I) X

-- The judgement is the one verdict that holds.
abbrev pub JudgeRight : Type 0
JudgeRight = (rules : List Rule) (m : Meaning) (I : Interp) → Plan I → (v : Verdict) → judge rules m I ≡ v ↔ Says rules m I v
