-- A set of atoms as plan bits: thirty-two bytes, bit a being bit (a mod 8) of byte (a div 8). Assumes nothing.
use Rattle.std.specs.Prelude.{◌≡◌, ℕ, zero, suc, ◌+◌, ◌*◌, ◌/◌, ◌%◌, ◌^◌, ◌<◌, Bool, cond, ◌&&◌, List, map, ◌==◌, nat_lt, slice_index}
use Rattle.std.specs.List.{range_with_len}
use Rattle.semantics.specs.Program.{Interp, atom_limit}

abbrev pub bit_in : List ℕ → ℕ → Bool
bit_in bytes a = slice_index bytes (a / 8) / 2 ^ (a % 8) % 2 == 1

-- the interpretation of the bits; what is no atom is out
abbrev pub marked : List ℕ → Interp
marked bytes a = nat_lt a atom_limit && bit_in bytes a

abbrev pub one : Bool → ℕ
one b = cond b 1 0

-- n bits of a set from the number a on, the first being the lowest
unfoldable pub bits_from : Interp → ℕ → ℕ → ℕ
bits_from X a zero = 0
bits_from X a (suc n) = one (X a) + 2 * bits_from X (suc a) n

abbrev pub byte_of : Interp → ℕ → ℕ
byte_of X k = bits_from X (8 * k) 8

-- the thirty-two bytes of a set
unfoldable pub bytes_of : Interp → List ℕ
bytes_of X = map (byte_of X) (range_with_len 0 32)

-- Each bit that is written is read back.
abbrev pub BitsRead : Type 0
BitsRead = (X : Interp) (a : ℕ) → a < 256 → bit_in (bytes_of X) a ≡ X a
