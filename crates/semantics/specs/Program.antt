-- Rules over atoms and sources, satisfied rules and unfounded sets. Assumes nothing.
use Rattle.std.specs.Prelude.{◌≡◌, Bool, true, false, not, ◌&&◌, ◌||◌, cond, List, [], ◌∷◌, ℕ, ◌<◌, ◌≤◌, length, get_or}

-- Atoms are the numbers below this one.
abbrev pub atom_limit : ℕ
atom_limit = 255

-- Sources are the numbers below this one.
abbrev pub source_limit : ℕ
source_limit = 64

-- An interpretation says of each number whether it is in. A set of atoms is read as the interpretation with only them in.
abbrev pub Interp : Type 0
Interp = ℕ → Bool

-- Only atoms are in.
abbrev pub Plan : Interp → Type 0
Plan I = (a : ℕ) → I a ≡ true → a < atom_limit

-- The same atoms are in.
abbrev pub Same : Interp → Interp → Type 0
Same I J = (a : ℕ) → a < atom_limit → I a ≡ J a

pub data Literal : Type 0 where
  atom : ℕ → Literal
  not_atom : ℕ → Literal
  source : ℕ → Literal
  not_source : ℕ → Literal

pub record Rule : Type 0 where
  pub head : List ℕ
  pub body : List Literal
  pub label : ℕ

-- A truth rests on the atoms alone.
abbrev pub Local : (Interp → Bool) → Type 0
Local t = (I J : Interp) → Same I J → t I ≡ t J

-- What an oracle means: how many sources it has, and the truth of each on every interpretation.
pub record Meaning : Type 0 where
  pub count : ℕ
  pub small : count ≤ source_limit
  pub truth : ℕ → Interp → Bool
  pub local : (n : ℕ) → Local (truth n)

abbrev pub any : {A : Type 0} → (A → Bool) → List A → Bool
any p [] = false
any p (x ∷ xs) = p x || any p xs

abbrev pub all : {A : Type 0} → (A → Bool) → List A → Bool
all p [] = true
all p (x ∷ xs) = p x && all p xs

abbrev pub keep : {A : Type 0} → (A → Bool) → List A → List A
keep p [] = []
keep p (x ∷ xs) = cond (p x) (x ∷ keep p xs) (keep p xs)

abbrev pub Each : {A : Type 0} → (A → Type 0) → List A → Type 0
Each P [] = Unit {0}
Each P (x ∷ xs) = P x × Each P xs

-- A literal is judged on one interpretation.
abbrev pub literal_true : Meaning → Interp → Literal → Bool
literal_true m I (atom a) = I a
literal_true m I (not_atom a) = not (I a)
literal_true m I (source s) = m.truth s I
literal_true m I (not_source s) = not (m.truth s I)

abbrev pub body_true : Meaning → Interp → Rule → Bool
body_true m I r = all (literal_true m I) r.body

-- A rule is satisfied when a body literal is false or a head atom is in, and else broken.
abbrev pub satisfied : Meaning → Interp → Rule → Bool
satisfied m I r = not (body_true m I r) || any I r.head

abbrev pub Model : Meaning → Interp → List Rule → Type 0
Model m I rules = Each (λ r. satisfied m I r ≡ true) rules

-- What stands past the end of a list of rules.
abbrev pub no_rule : Rule
no_rule = record { head = []; body = []; label = 0 }

pub record LowestBroken (rules : List Rule) (m : Meaning) (I : Interp) (n : ℕ) : Type 0 where
  pub present : n < length rules
  pub broken : satisfied m I (get_or rules n no_rule) ≡ false
  pub before : (k : ℕ) → k < n → satisfied m I (get_or rules k no_rule) ≡ true

abbrev pub Subset : Interp → Interp → Type 0
Subset J I = (a : ℕ) → J a ≡ true → I a ≡ true

-- I without the atoms of X.
infixl 65 ◌∖◌
abbrev pub ◌∖◌ : Interp → Interp → Interp
(I ∖ X) a = I a && not (X a)

-- Why a rule with a head atom in X does not support X.
pub data Excused (m : Meaning) (I X : Interp) (r : Rule) : Type 0 where
  false_here : body_true m I r ≡ false → Excused m I X r
  false_without : body_true m (I ∖ X) r ≡ false → Excused m I X r
  other_head : any (λ a. I a && not (X a)) r.head ≡ true → Excused m I X r

-- A nonempty set of atoms that are in, each rule with a head atom in it being excused.
pub record Unfounded (rules : List Rule) (m : Meaning) (I X : Interp) : Type 0 where
  pub member : (a : ℕ) × (X a ≡ true)
  pub inside : Subset X I
  pub excused : Each (λ r. any X r.head ≡ true → Excused m I X r) rules

-- It satisfies every rule, and no set is unfounded.
pub record UnfoundedFree (rules : List Rule) (m : Meaning) (I : Interp) : Type 0 where
  pub model : Model m I rules
  pub free : (X : Interp) → Unfounded rules m I X → ⊥

-- X lacks the lowest atom on which the two differ.
pub record Earlier (X Y : Interp) : Type 0 where
  pub place : ℕ
  pub same : (b : ℕ) → b < place → X b ≡ Y b
  pub lacks : X place ≡ false
  pub has : Y place ≡ true

pub record Earliest (P : Interp → Type 0) (X : Interp) : Type 0 where
  pub holds : P X
  pub first : (Y : Interp) → P Y → Earlier Y X → ⊥
