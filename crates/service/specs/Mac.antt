-- The MAC address in two words, as get_mac_addr and set_mac_addr have it: its first byte is the lowest of RAL.
use Rattle.std.specs.Prelude.{ℕ, ◌+◌, ◌*◌, ◌/◌, ◌%◌, ◌^◌, List, [], ◌∷◌, get_or}

-- a byte of a word, by its lowest bit
abbrev pub byte_of : ℕ → ℕ → ℕ
byte_of word shift = word / 2 ^ shift % 256

unfoldable pub mac_of : ℕ → ℕ → List ℕ
mac_of low high = byte_of low 0 ∷ byte_of low 8 ∷ byte_of low 16 ∷ byte_of low 24 ∷ byte_of high 0 ∷ byte_of high 8 ∷ []

unfoldable pub low_word : List ℕ → ℕ
low_word mac = get_or mac 0 0 + get_or mac 1 0 * 2 ^ 8 + get_or mac 2 0 * 2 ^ 16 + get_or mac 3 0 * 2 ^ 24

unfoldable pub high_word : List ℕ → ℕ
high_word mac = get_or mac 4 0 + get_or mac 5 0 * 2 ^ 8
