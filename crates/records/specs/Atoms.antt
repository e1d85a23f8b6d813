-- Atom lists: places that ascend, the unused ones, 255, last.
use Rattle.std.specs.Prelude.{◌≡◌, ℕ, ◌+◌, ◌<◌, min, Bool, true, cond, ◌&&◌, List, [], ◌∷◌, length, nat_le, nat_lt, slice_index}

-- each place is at least `low`, and above the one before it unless both are unused
abbrev pub ascends : ℕ → List ℕ → Bool
ascends low [] = true
ascends low (x ∷ xs) = nat_le low x && ascends (min 255 (x + 1)) xs

-- how many places hold an atom
abbrev pub used : List ℕ → ℕ
used [] = 0
used (x ∷ xs) = cond (nat_lt x 255) 1 0 + used xs

-- an atom is above every place before it: atoms ascend strictly, and unused places come last
abbrev pub Ascending : List ℕ → Type 0
Ascending xs = (i j : ℕ) → i < j → j < length xs → slice_index xs j < 255 → slice_index xs i < slice_index xs j

-- the lists that pass the test are those that ascend
abbrev pub ListsStand : Type 0
ListsStand = (xs : List ℕ) → (ascends 0 xs ≡ true → Ascending xs) × (Ascending xs → ascends 0 xs ≡ true)

-- a place holds an atom exactly where it is one of the first ones, as many as are used
abbrev pub UsedAt : List ℕ → ℕ → Type 0
UsedAt xs k = (k < used xs → slice_index xs k < 255) × (slice_index xs k < 255 → k < used xs)

-- so it is at each place of a list that ascends
abbrev pub UsedFirst : Type 0
UsedFirst = (xs : List ℕ) → Ascending xs → (k : ℕ) → k < length xs → UsedAt xs k
