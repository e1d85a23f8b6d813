-- What the inputs leave unused in a source's body is 0.
use Rattle.std.specs.Prelude.{◌≡◌, ℕ, ◌-◌, ◌*◌, ◌^◌, ◌<◌, ◌≤◌, Bool, true, false, not, List, length, drop, slice_index}
use Rattle.std.specs.List.{list_all, range_with_len}
use Rattle.plans.specs.Bits.{bit_in}
use Rattle.records.specs.Atoms.{used}
use Rattle.records.specs.Faults.{all_are}

-- with n inputs, each of the 256 bits from 2 ^ n on is 0
abbrev pub spare_bits : List ℕ → List ℕ → Bool
spare_bits atoms bs = list_all (λ i. not (bit_in bs i)) (range_with_len (2 ^ used atoms) (256 - 2 ^ used atoms))

-- with n inputs, each of the numbers of four bytes from the n-th on is 0
abbrev pub spare_numbers : List ℕ → List ℕ → Bool
spare_numbers atoms bs = all_are 0 (drop (4 * used atoms) bs)

-- no bit is set past those of the inputs' states
abbrev pub BitsSpare : List ℕ → List ℕ → Type 0
BitsSpare atoms bs = (i : ℕ) → 2 ^ used atoms ≤ i → i < 256 → bit_in bs i ≡ false

-- no byte is set past the inputs' numbers
abbrev pub BytesSpare : List ℕ → List ℕ → Type 0
BytesSpare atoms bs = (k : ℕ) → 4 * used atoms ≤ k → k < length bs → slice_index bs k ≡ 0

-- the bodies that pass the tests are just those
pub record SparesStand (atoms bs : List ℕ) : Type 0 where
  pub bits : spare_bits atoms bs ≡ true → BitsSpare atoms bs
  pub bits_back : BitsSpare atoms bs → spare_bits atoms bs ≡ true
  pub numbers : spare_numbers atoms bs ≡ true → BytesSpare atoms bs
  pub numbers_back : BytesSpare atoms bs → spare_numbers atoms bs ≡ true
