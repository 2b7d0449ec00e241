-- The context that is made of the bytes that are given, and its text.
use Rattle.std.specs.Prelude.{ℕ, ◌-◌, ◌+◌, nat_lt, if◌then◌else◌, List, ◌++◌, length, take, replicate, Option, Some, None, option_map, unwrap_or}
use Rattle.hex.specs.Hex.{encode_lower}
use Rattle.ebpf_command.specs.HexText.{hex_or_dash}
use Rattle.ebpf_verify.specs.declared.decl.TheConstants.{MAX_CONTEXT}

-- the bytes that are given, and zeros after them
abbrev pub filled : List ℕ → ℕ → List ℕ
filled given declared = given ++ replicate (declared - length given) 0

-- a context of the declared length, or if none is declared, of as many bytes as are given; none, if more are given than are declared
abbrev pub context_of : List ℕ → Option ℕ → Option (List ℕ)
context_of given None = Some given
context_of given (Some declared) = if nat_lt declared (length given) then None else Some (filled given declared)

-- its text
abbrev pub text_of : List ℕ → Option ℕ → Option (List ℕ)
text_of given declared = option_map encode_lower (context_of given declared)

abbrev pub text_of_read : List ℕ → ℕ → Option (List ℕ) → Option (List ℕ)
text_of_read text declared None = Some text
text_of_read text declared (Some given) = text_of given (Some declared)

-- the text that is made of another, which gives the bytes as hex; a text that isn't hex is its own
abbrev pub text_of_text : List ℕ → ℕ → Option (List ℕ)
text_of_text text declared = text_of_read text declared (hex_or_dash text)

-- how many bytes of an input are read at most
abbrev pub most_read : Option ℕ → ℕ
most_read declared = unwrap_or declared MAX_CONTEXT + 1

-- the text that is made of an input; if no length is declared, one byte more is read of a longer input than a context may have
abbrev pub text_of_input : List ℕ → Option ℕ → Option (List ℕ)
text_of_input input None = text_of (take (MAX_CONTEXT + 1) input) None
text_of_input input (Some declared) = text_of input (Some declared)
