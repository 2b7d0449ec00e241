-- What is read of the hex of some bytes is these bytes: it is no lone `-`.
use Rattle.std.proofs.Common.{◌≡◌, ℕ, false, List, [], ◌∷◌, Some, refl, ap}
use Rattle.hex.specs.Hex.{IsBytes, encode_with, encode_lower}
use Rattle.hex.proofs.HexLemmas.{decode_of-encode_lower}
use Rattle.ebpf_command.specs.HexText.{is_dash, hex_or_dash, bytes_or_none}

no_dash : (bytes : List ℕ) → is_dash (encode_lower bytes) ≡ false
unfolding encode_with
no_dash [] = refl
no_dash (b ∷ bytes) = refl

pub read_back : (bytes text : List ℕ) → IsBytes bytes → text ≡ encode_lower bytes → hex_or_dash text ≡ Some bytes
read_back bytes text fit is = rw (is, no_dash bytes) (ap bytes_or_none (decode_of-encode_lower bytes fit))
